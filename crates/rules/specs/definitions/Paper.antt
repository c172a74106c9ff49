-- Merge Resolution as published: source document 004, Definitions 6 to 14.
use Rattle.std.specs.Prelude.{◌≡◌, true, false, cond, ◌⊎◌, ◌≢◌, ℕ, zero, suc, ◌≤◌, ◌<◌, eqb}
use mathlib.Core.List.{Memᴰ}
use Rattle.rules.specs.declared.Value.{Value}
use Rattle.rules.specs.declared.Value.TheVariants.{Star, One, Zero}
use Rattle.rules.specs.declared.Node.{Node}
use Rattle.rules.specs.declared.Node.TheVariants.{None, Leaf, Branch}
use Rattle.rules.specs.definitions.Sets.{has}
use Rattle.rules.specs.definitions.Formula.{Clause, Formula, Assignment, bound_by, left_of, resolvent}
use Rattle.rules.specs.definitions.Formula.Quant.{exists, forall}
use Rattle.rules.specs.definitions.Maps.{renamed}

-- ---- Definition 6: a merge map is a function from a finite set N of numbers; None marks the numbers outside N.
-- The literals u, ū, * are One, Zero, Star.
pub record Map : Type 0 where
  -- max(N)
  pub greatest : ℕ
  pub node : ℕ → Node

-- i ∈ N
abbrev pub Domain : Map → ℕ → Type 0
Domain M i = M.node i ≢ None

-- M is a merge map over the variables X: for each i ∈ N a literal, or a triple of X × N<i × N<i
pub record MergeMap (X : ℕ → Type 0) (M : Map) : Type 0 where
  pub bounded : (i : ℕ) → Domain M i → i ≤ M.greatest
  pub inhabited : Domain M M.greatest
  pub triples : (i x a b : ℕ) → M.node i ≡ Branch x a b → X x × ((a < i) × Domain M a) × ((b < i) × Domain M b)

-- ---- Definition 7: the computed function
abbrev pub computed_at : Assignment → (ℕ → Value) → Node → Value
computed_at α go None = Star
computed_at α go (Leaf l) = l
computed_at α go (Branch x a b) = go (cond (α x) b a)

-- the loop, of at most so many rounds
unfoldable pub computed_in : ℕ → Map → Assignment → ℕ → Value
computed_in zero M α i = Star
computed_in (suc f) M α i = computed_at α (λ k. computed_in f M α k) (M.node i)

-- i := max(N); while M(i) is a triple (x, a, b): if x̄ ∈ α then i := a else i := b; return M(i)
unfoldable pub computed : Map → Assignment → Value
computed M α = computed_in (suc M.greatest) M α M.greatest

-- ---- Definition 8: isomorphism, a bijection f of the domains with M₂(f(i)) = M₁(i), ends renamed by f
pub record Isomorphism (M N : Map) : Type 0 where
  pub f : ℕ → ℕ
  pub inverse : ℕ → ℕ
  pub into : (i : ℕ) → Domain M i → Domain N (f i)
  pub back : (k : ℕ) → Domain N k → Domain M (inverse k)
  pub inverse_f : (i : ℕ) → Domain M i → inverse (f i) ≡ i
  pub f_inverse : (k : ℕ) → Domain N k → f (inverse k) ≡ k
  pub alike : (i : ℕ) → Domain M i → N.node (f i) ≡ renamed f (M.node i)

-- ---- Definition 10: consistency
abbrev pub Consistent : Map → Map → Type 0
Consistent M N = (i : ℕ) → Domain M i → Domain N i → M.node i ≡ N.node i

-- ---- Definition 11: select; a map is trivial iff it is isomorphic to 1 ↦ *
-- i ↦ l
abbrev pub single : ℕ → Value → Map
single i l = record { greatest = i; node = λ k. cond (eqb k i) (Leaf l) None }

abbrev pub Trivial : Map → Type 0
Trivial M = Isomorphism M (single 1 Star)

-- select(M, N) is the third; where 004 says isomorphic, Same stands
pub data Select (Same : Map → Map → Type 0) (M N : Map) : Map → Type 0 where
  second : Trivial M → Select Same M N N
  first : (Trivial M → ⊥) → Same M N ⊎ Trivial N → Select Same M N M

-- ---- Definition 12: merge
abbrev pub else : Node → Node → Node
else None n = n
else (Leaf l) n = Leaf l
else (Branch x a b) n = Branch x a b

abbrev pub merge : Map → Map → ℕ → ℕ → Map
merge M N n x = record {
  greatest = n;
  node = λ i. cond (eqb i n) (Branch x M.greatest N.greatest) (else (M.node i) (N.node i));
}

-- ---- Definition 14: merge resolution
-- what may stand for "left of" and for "isomorphic" in it
pub record Calculus : Type 1 where
  pub Left : ℕ → ℕ → Type 0
  pub Same : Map → Map → Type 0

-- 004's own: left in the prefix, isomorphic maps
abbrev pub merge_resolution : Formula → Calculus
merge_resolution Φ = record { Left = λ x u. left_of Φ.prefix x u ≡ true; Same = Isomorphism }

-- a line: a clause, and a map for each universal variable
pub record ProofLine : Type 0 where
  pub clause : Clause
  pub map : ℕ → Map

-- the falsifying u-literal for C
abbrev pub falsifying_literal : Clause → ℕ → Value
falsifying_literal C u = cond (has C.plain u) Zero (cond (has C.negated u) One Star)

-- two clauses are the same set of literals
pub record SameLiterals (C D : Clause) : Type 0 where
  pub plain : (v : ℕ) → has C.plain v ≡ has D.plain v
  pub negated : (v : ℕ) → has C.negated v ≡ has D.negated v

-- C is the existential subclause of D
pub record ExistentialPart (Φ : Formula) (C D : Clause) : Type 0 where
  pub plain : (v : ℕ) → (has C.plain v ≡ true) → (has D.plain v ≡ true) × (bound_by exists Φ.prefix v ≡ true)
  pub plain_all : (v : ℕ) → has D.plain v ≡ true → bound_by exists Φ.prefix v ≡ true → has C.plain v ≡ true
  pub negated : (v : ℕ) → (has C.negated v ≡ true) → (has D.negated v ≡ true) × (bound_by exists Φ.prefix v ≡ true)
  pub negated_all : (v : ℕ) → has D.negated v ≡ true → bound_by exists Φ.prefix v ≡ true → has C.negated v ≡ true

-- the formula's universal variables
abbrev pub Universal : Formula → ℕ → Type 0
Universal Φ u = bound_by forall Φ.prefix u ≡ true

-- (a) Axiom
pub record ByAxiom (Φ : Formula) (L : ℕ → ProofLine) (i : ℕ) : Type 0 where
  pub source : Clause
  pub in_matrix : Memᴰ source Φ.matrix
  pub clause : ExistentialPart Φ (L i).clause source
  pub maps : (u : ℕ) → Universal Φ u → (L i).map u ≡ single i (falsifying_literal source u)

-- (b)(ii): x is left of u, and the map is merge(Mₐ, M_b, i, x)
abbrev pub Merged : Calculus → ℕ → ℕ → Map → Map → ℕ → Map → Type 0
Merged C x u M N i K = C.Left x u × Consistent M N × (K ≡ merge M N i x)

-- (b) Resolution
pub record ByResolution (C : Calculus) (Φ : Formula) (L : ℕ → ProofLine) (i : ℕ) : Type 0 where
  pub a : ℕ
  pub b : ℕ
  pub x : ℕ
  pub a_earlier : (1 ≤ a) × (a < i)
  pub b_earlier : (1 ≤ b) × (b < i)
  pub pivot : bound_by exists Φ.prefix x ≡ true
  pub in_a : has (L a).clause.plain x ≡ true
  pub in_b : has (L b).clause.negated x ≡ true
  pub clause : SameLiterals (L i).clause (resolvent (L a).clause (L b).clause x)
  pub maps : (u : ℕ) → Universal Φ u
      → Select C.Same ((L a).map u) ((L b).map u) ((L i).map u) ⊎ Merged C x u ((L a).map u) ((L b).map u) i ((L i).map u)

-- L 1, .., L k is a derivation
abbrev pub Derivation : Calculus → Formula → (ℕ → ProofLine) → ℕ → Type 0
Derivation C Φ L k = (i : ℕ) → 1 ≤ i → i ≤ k → ByAxiom Φ L i ⊎ ByResolution C Φ L i

abbrev pub Empty : Clause → Type 0
Empty C = (v : ℕ) → (has C.plain v ≡ false) × (has C.negated v ≡ false)

-- a refutation: its conclusion's clause is empty
abbrev pub Refutation : Calculus → Formula → (ℕ → ProofLine) → ℕ → Type 0
Refutation C Φ L k = (1 ≤ k) × Derivation C Φ L k × Empty (L k).clause
