-- Demand 2: a line that follows by the rule its record names. 004's axiom and resolution with the record's clause number, parents, pivot
-- and merge set; 01's house rule as a conjunct of its own; select's third ground as the rules say.
use Rattle.std.specs.Prelude.{Ok, ◌≡◌, true, false, List, [], ℕ, suc, ◌≤◌, ◌<◌, length, get_or}
use Rattle.rules.specs.declared.Resolution.{Resolution}
use Rattle.rules.specs.declared.Line.{Line}
use Rattle.rules.specs.declared.Line.TheVariants.{Axiom, Resolve}
use Rattle.rules.specs.definitions.File.{Decoded}
use Rattle.rules.specs.definitions.Sets.{has}
use Rattle.rules.specs.definitions.Formula.{Formula, bound_by, universals, resolvent}
use Rattle.rules.specs.definitions.Formula.Quant.{exists}
use Rattle.rules.specs.definitions.Lines.{clause_number, in_set}
use Rattle.rules.specs.definitions.Paper.{single, falsifying_literal, SameLiterals, ExistentialPart, Select, Calculus, Merged, ProofLine}

-- the variable of the universal at offset j
abbrev pub universal_at : Formula → ℕ → ℕ
universal_at Φ j = get_or (universals Φ.prefix) j 0

-- axiom with clause number c
pub record NamedAxiom (Φ : Formula) (L : ℕ → ProofLine) (i c : ℕ) : Type 0 where
  pub number : (1 ≤ c) × (c ≤ length Φ.matrix)
  pub clause : ExistentialPart Φ (L i).clause (clause_number Φ c)
  pub maps : (j : ℕ) → j < length (universals Φ.prefix)
      → (L i).map (universal_at Φ j) ≡ single i (falsifying_literal (clause_number Φ c) (universal_at Φ j))

-- resolution with the parents, the pivot and the merge set of r
pub record NamedResolution (C : Calculus) (Φ : Formula) (L : ℕ → ProofLine) (i : ℕ) (r : Resolution) : Type 0 where
  pub a_earlier : (1 ≤ r.a) × (r.a < i)
  pub b_earlier : (1 ≤ r.b) × (r.b < i)
  pub pivot : bound_by exists Φ.prefix r.pivot ≡ true
  pub in_a : has (L r.a).clause.plain r.pivot ≡ true
  pub in_b : has (L r.b).clause.negated r.pivot ≡ true
  -- the merge set names no absent universal
  pub present : (j : ℕ) → in_set r.merge j ≡ true → j < length (universals Φ.prefix)
  pub clause : SameLiterals (L i).clause (resolvent (L r.a).clause (L r.b).clause r.pivot)
  -- the house rule: the result has no variable both ways
  pub house : (v : ℕ) → has (L i).clause.plain v ≡ true → has (L i).clause.negated v ≡ true → ⊥
  pub merged : (j : ℕ) → j < length (universals Φ.prefix) → in_set r.merge j ≡ true
      → Merged C r.pivot (universal_at Φ j) ((L r.a).map (universal_at Φ j)) ((L r.b).map (universal_at Φ j)) i ((L i).map (universal_at Φ j))
  pub selected : (j : ℕ) → j < length (universals Φ.prefix) → in_set r.merge j ≡ false
      → Select C.Same ((L r.a).map (universal_at Φ j)) ((L r.b).map (universal_at Φ j)) ((L i).map (universal_at Φ j))

abbrev pub Named : Calculus → Formula → (ℕ → ProofLine) → ℕ → Line → Type 0
Named C Φ L i (Axiom c) = NamedAxiom Φ L i c
Named C Φ L i (Resolve r) = NamedResolution C Φ L i r

-- line i follows from its record, decoded so
abbrev pub FollowsRecord : (List ℕ → Decoded) → Calculus → Formula → (ℕ → ProofLine) → ℕ → List ℕ → Type 0
FollowsRecord decode C Φ L i bytes = (l : Line) × (decode bytes ≡ Ok l) × Named C Φ L i l

-- lines 1 to n follow from the n records
abbrev pub Follow : (List ℕ → Decoded) → Calculus → Formula → (ℕ → ProofLine) → List (List ℕ) → Type 0
Follow decode C Φ L rs = (i : ℕ) → i < length rs → FollowsRecord decode C Φ L (suc i) (get_or rs i [])
