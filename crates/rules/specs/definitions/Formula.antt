-- Formulas (01, Formula text; 000, closed prenex formulas) and the ordinary reading of a prefix.
use Rattle.std.specs.Prelude.{◌≡◌, Bool, true, false, cond, not, ◌&&◌, ◌||◌, ◌⊎◌, ℕ, eqb}
use mathlib.Core.List.{List, [], ◌∷◌, Memᴰ}
use Rattle.rules.specs.definitions.Sets.{Set, none, has, with, without, join, only, empty, meet}
use Rattle.rules.specs.definitions.Layout.{set_words}

pub data Quant : Type 0 where
  exists forall : Quant

-- a variable of the prefix with its quantifier
pub record Bound : Type 0 where
  pub kind : Quant
  pub var : ℕ

-- a clause: the variables that stand in it plain, and those that stand in it negated
pub record Clause : Type 0 where
  pub plain : Set
  pub negated : Set

-- the header's V; the prefix, outermost first; the clauses in order
pub record Formula : Type 0 where
  pub variables : ℕ
  pub prefix : List Bound
  pub matrix : List Clause

-- ---- the prefix
abbrev pub universal? : Quant → Bool
universal? exists = false
universal? forall = true

abbrev pub same_kind : Quant → Quant → Bool
same_kind exists k = not (universal? k)
same_kind forall k = universal? k

-- v is bound by k in the prefix
unfoldable pub bound_by : Quant → List Bound → ℕ → Bool
bound_by k [] v = false
bound_by k (q ∷ qs) v = (same_kind k q.kind && eqb q.var v) || bound_by k qs v

-- v is bound in the prefix
unfoldable pub bound : List Bound → ℕ → Bool
bound [] v = false
bound (q ∷ qs) v = eqb q.var v || bound qs v

-- 01: universals are numbered 1, 2, .. in the prefix's order; their variables
unfoldable pub universals : List Bound → List ℕ
universals [] = []
universals (q ∷ qs) = elim q.kind [ exists ↦ universals qs | forall ↦ q.var ∷ universals qs ]

-- the set of the existential variables
unfoldable pub existentials : List Bound → Set
existentials [] = none set_words
existentials (q ∷ qs) = elim q.kind [ exists ↦ with (existentials qs) q.var | forall ↦ existentials qs ]

-- 01: "left" means earlier in the prefix: x stands before u
unfoldable pub left_of : List Bound → ℕ → ℕ → Bool
left_of [] x u = false
left_of (q ∷ qs) x u = elim (eqb q.var u) [ true ↦ false | false ↦ (eqb q.var x && bound qs u) || left_of qs x u ]

-- the prefix of the formula that the blocks and the clauses give: the blocks' own
unfoldable pub completed : List Bound → List Clause → List Bound
completed blocks clauses = blocks

-- ---- clauses
abbrev pub no_literal : Clause
no_literal = record { plain = none set_words; negated = none set_words }

-- a literal: a variable, and whether it stands negated
pub record Literal : Type 0 where
  pub variable : ℕ
  pub negated : Bool

-- the clause and one literal more
unfoldable pub with_literal : Clause → Literal → Clause
with_literal c l =
    elim l.negated [
      | true ↦ record { plain = c.plain; negated = with c.negated l.variable }
      | false ↦ record { plain = with c.plain l.variable; negated = c.negated }
    ]

-- the literal's opposite stands in the clause
unfoldable pub has_opposite : Clause → Literal → Bool
has_opposite c l = elim l.negated [ true ↦ has c.plain l.variable | false ↦ has c.negated l.variable ]

-- 01: the clause keeps its existential literals
unfoldable pub kept_by : Set → Clause → Clause
kept_by es c = record { plain = only c.plain es; negated = only c.negated es }

-- 004, res(C, D, x); 01: both without those two literals, joined
unfoldable pub resolvent : Clause → Clause → ℕ → Clause
resolvent c d x = record {
  plain = join (without c.plain x) d.plain;
  negated = join c.negated (without d.negated x);
}

-- some variable stands in it both ways
unfoldable pub two_faced : Clause → Bool
two_faced c = meet c.plain c.negated

-- no literal stands in it
unfoldable pub empty_clause : Clause → Bool
empty_clause c = empty c.plain && empty c.negated

-- ---- the ordinary reading of a closed prenex formula
-- the value of each variable
abbrev pub Assignment : Type 0
Assignment = ℕ → Bool

-- some literal of the clause is true
abbrev pub Satisfies : Assignment → Clause → Type 0
Satisfies s c = (v : ℕ) × (((has c.plain v ≡ true) × (s v ≡ true)) ⊎ ((has c.negated v ≡ true) × (s v ≡ false)))

-- s with the value b at v
abbrev pub with_value : Assignment → ℕ → Bool → Assignment
with_value s v b w = cond (eqb w v) b (s w)

-- some value, or both values
abbrev pub Choice : Quant → (Bool → Type 0) → Type 0
Choice exists P = (b : Bool) × P b
Choice forall P = (b : Bool) → P b

-- the prefix read from the outside in, from the values given so far; then every clause is satisfied
unfoldable pub Holds : List Bound → List Clause → Assignment → Type 0
Holds [] φ s = (c : Clause) → Memᴰ c φ → Satisfies s c
Holds (q ∷ qs) φ s = Choice q.kind (λ b. Holds qs φ (with_value s q.var b))

-- the formula is true: whatever the variables outside the prefix are
unfoldable pub True : Formula → Type 0
True F = (s : Assignment) → Holds F.prefix F.matrix s

-- the formula is false: it does not hold, whatever the variables outside the prefix are
unfoldable pub False : Formula → Type 0
False F = (s : Assignment) → Holds F.prefix F.matrix s → ⊥
