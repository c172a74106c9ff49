-- One token at each place (01, Formula text): which tests lead to which refusal or next state.
use mathlib.Core.Path.{◌≡◌, refl, sym, ap, ◌∙◌, subst}
use mathlib.Core.Bool.{Bool, true, false, cond, not, true≢false}
use mathlib.Core.List.{List, [], ◌∷◌}
use Prim.Native.Nat.{ℕ, zero, suc, ◌≤◌, ◌<◌}
use lib.Dec.{ltb}
use lib.IntN.{ℤ, pos, negsuc}
use borrow.Author.Tests.{lt-ltb, le-ltb}
use Rattle.std.proofs.Common.{Result, Ok, Err}
use Rattle.rules.specs.declared.refusals.Refusal.{Refusal}
use Rattle.rules.specs.declared.refusals.Refusal.TheVariants as K
use Rattle.rules.specs.declared.refusals.Refused.{Refused}
use Rattle.rules.specs.definitions.Refusals.{refusal_number, header_limit, no_variable, bound_twice, too_many_universals, not_bound, both_ways}
use Rattle.rules.specs.definitions.Faults.{Fault, fault, Found, first_of}
use Rattle.rules.specs.definitions.Faults.Found.{passes, fails}
use Rattle.rules.specs.definitions.Formula as formula
use Rattle.rules.specs.definitions.Formula.{Quant, Clause, no_literal, bound, has_opposite, with_literal}
use Rattle.rules.specs.definitions.Formula.Quant.{exists, forall}
use Rattle.rules.specs.definitions.Text.{Number, spelled}
use Rattle.rules.specs.definitions.Text.Number.{number, no_number}
use Rattle.rules.specs.definitions.Reading.{State, Next, moved, unless, limited, bind, full, block_token, literal_token, clause_token, expect, step_at, step}
use Rattle.rules.specs.definitions.Reading.Next.{stop, go}
use Rattle.rules.specs.definitions.Reading.Place.{in_clause}
use Rattle.sets.specs.declared.Literal.{Literal}
use Rattle.sets.specs.Values.{literal_of}
use Rattle.formula.specs.declared.states.Next.{Next as Made}
use Rattle.formula.specs.declared.states.State.{State as Held}
use Rattle.formula.specs.declared.states.Place.{Place as Spot}
use Rattle.formula.specs.Numbers.{refused_at, literal_at, header_of}
use Rattle.formula.specs.States.{place_of, state_of, Room, Stands, After, expected}

-- ---- the first of some tests
first_fails : (k : ℕ) (t : Bool) (fs : List Fault) → t ≡ true → first_of (fault k t ∷ fs) ≡ fails k 0
unfolding first_of
first_fails k t fs e = rw (first_of, e)

first_passes : (k : ℕ) (t : Bool) (fs : List Fault) → t ≡ false → first_of (fault k t ∷ fs) ≡ first_of fs
unfolding first_of
first_passes k t fs e = rw (first_of, e)

first_none : first_of [] ≡ passes
unfolding first_of
first_none = refl

-- of three tests
module _ (i j k : ℕ) (a b d : Bool) (st : State) where
  abbrev three : List Fault
  three = fault i a ∷ fault j b ∷ fault k d ∷ []

  stops_1 : a ≡ true → unless (first_of three) st ≡ stop i
  stops_1 e = rw (first_fails i a (fault j b ∷ fault k d ∷ []) e)

  stops_2 : a ≡ false → b ≡ true → unless (first_of three) st ≡ stop j
  stops_2 e f = rw (first_passes i a (fault j b ∷ fault k d ∷ []) e, first_fails j b (fault k d ∷ []) f)

  stops_3 : a ≡ false → b ≡ false → d ≡ true → unless (first_of three) st ≡ stop k
  stops_3 e f g = rw (first_passes i a (fault j b ∷ fault k d ∷ []) e, first_passes j b (fault k d ∷ []) f, first_fails k d [] g)

  goes : a ≡ false → b ≡ false → d ≡ false → unless (first_of three) st ≡ go st
  goes e f g = rw (first_passes i a (fault j b ∷ fault k d ∷ []) e, first_passes j b (fault k d ∷ []) f, first_passes k d [] g, first_none)

-- ---- a token that is refused
pub after_stops : (at : ℕ) (bs : List formula.Bound) (cs : List Clause) (m : Next) (k : Refusal) (e : Refused) → e ≡ refused_at k at → m ≡ stop (refusal_number k) → After at bs cs m (Err e)
after_stops at bs cs m k e f h = subst (λ (r : Refused). After at bs cs m (Err r)) (sym f) (h, refl)

-- ---- the literal that a token spells
-- what holds of every number and its literal holds of a token's
on_told : (P : Number → Literal → Type 0) (n : Number) (at : ℕ) (l : Literal) → Ok l ≡ literal_at n at → ((z : ℤ) → P (number z) (literal_of z)) → P n l
on_told P (number z) at l e f = let same : l ≡ literal_of z = cc in subst (P (number z)) (sym same) (f z)
on_told P no_number at l e f = absurd (cc)

-- ---- header numbers
module _ (most : ℕ) (f : ℕ → State) (at : ℕ) where
  -- a refusal came back for a header number
  pub after_header : (bs : List formula.Bound) (cs : List Clause) (n : Number) (h : Result ℕ Refused) (r : Result Made Refused) (e : Refused) → h ≡ Err e → r ≡ Err e → h ≡ header_of most n at
      → After at bs cs (limited most n f) r
  after_header bs cs n h r e g i o = subst (After at bs cs (limited most n f)) (sym i) (by n (sym g ∙ o))
    where
      told : Next → Type 0
      told m = (m ≡ stop (refusal_number e.refusal)) × (e ≡ refused_at e.refusal at)

      same : (k : Refusal) (m : Next) → ◌≡◌ {A = Result ℕ Refused} (Err e) (Err (refused_at k at)) → m ≡ stop (refusal_number k) → told m
      same k m o g =
          let z : e ≡ refused_at k at = cc in
          subst (λ (r : Refused). (m ≡ stop (refusal_number r.refusal)) × (r ≡ refused_at r.refusal at)) (sym z) (g, refl)

      past : (m : ℕ) (b : Bool) → ltb most m ≡ b → ◌≡◌ {A = Result ℕ Refused} (Err e) (cond b (Err (refused_at K.HeaderLimit at)) (Ok m)) → told (limited most (number (pos m)) f)
      past m true g o = same K.HeaderLimit _ o (ap (λ (d : Found). unless d (f m)) (first_fails header_limit (ltb most m) [] g))
      past m false g o = absurd (cc)

      by : (n : Number) → Err e ≡ header_of most n at → told (limited most n f)
      by no_number o = same K.BadToken _ o refl
      by (number (negsuc m)) o = same K.BadToken _ o refl
      by (number (pos m)) o = past m (ltb most m) refl o

  -- a header number came back
  pub limited_within : (n : Number) (v : ℕ) → Ok v ≡ header_of most n at → limited most n f ≡ go (f v)
  limited_within n v = by n
    where
      within : (m : ℕ) (b : Bool) → ltb most m ≡ b → ◌≡◌ {A = Result ℕ Refused} (Ok v) (cond b (Err (refused_at K.HeaderLimit at)) (Ok m)) → limited most (number (pos m)) f ≡ go (f v)
      within m true e o = absurd (cc)
      within m false e o =
          let q : m ≡ v = cc in
          ap (λ (d : Found). unless d (f m)) (first_passes header_limit (ltb most m) [] e ∙ first_none) ∙ ap (λ (k : ℕ). go (f k)) q

      by : (n : Number) → Ok v ≡ header_of most n at → limited most n f ≡ go (f v)
      by no_number o = absurd (cc)
      by (number (negsuc m)) o = absurd (cc)
      by (number (pos m)) o = within m (ltb most m) refl o

-- ---- blocks
module _ (st : State) (q : Quant) (some : Bool) (n : Number) (at : ℕ) (l : Literal) (e : Ok l ≡ literal_at n at) where
  abbrev block_tests : ℕ → Next
  block_tests v =
      unless
      (first_of (fault no_variable (ltb st.variables v) ∷ fault bound_twice (bound st.blocks v) ∷ fault too_many_universals (full st q) ∷ []))
      (bind st q v)

  block_variable : l.negated ≡ false → (l.variable ≡ 0 → ⊥) → block_token st q some n ≡ block_tests l.variable
  block_variable =
      on_told (λ (m : Number) (k : Literal). k.negated ≡ false → (k.variable ≡ 0 → ⊥) → block_token st q some m ≡ block_tests k.variable) n at l e by
    where
      by : (z : ℤ) → (literal_of z).negated ≡ false → ((literal_of z).variable ≡ 0 → ⊥) → block_token st q some (number z) ≡ block_tests (literal_of z).variable
      by (pos zero) h g = absurd (g refl)
      by (pos (suc k)) h g = refl
      by (negsuc k) h g = absurd (true≢false h)

  module _ (plain : l.negated ≡ false) (some_variable : l.variable ≡ 0 → ⊥) where
    pub block_past : st.variables < l.variable → block_token st q some n ≡ stop no_variable
    block_past h = block_variable plain some_variable ∙ stops_1 _ _ _ _ _ _ _ (lt-ltb _ _ h)

    pub block_twice : l.variable ≤ st.variables → bound st.blocks l.variable ≡ true → block_token st q some n ≡ stop bound_twice
    block_twice h b = block_variable plain some_variable ∙ stops_2 _ _ _ _ _ _ _ (le-ltb _ _ h) b

    pub block_full : l.variable ≤ st.variables → bound st.blocks l.variable ≡ false → full st q ≡ true → block_token st q some n ≡ stop too_many_universals
    block_full h b f = block_variable plain some_variable ∙ stops_3 _ _ _ _ _ _ _ (le-ltb _ _ h) b f

    pub block_binds : l.variable ≤ st.variables → bound st.blocks l.variable ≡ false → full st q ≡ false → block_token st q some n ≡ go (bind st q l.variable)
    block_binds h b f = block_variable plain some_variable ∙ goes _ _ _ _ _ _ _ (le-ltb _ _ h) b f

-- ---- clauses
abbrev literal_in : Literal → formula.Literal
literal_in l = record { variable = l.variable; negated = l.negated }

module _ (st : State) (c : Clause) (n : Number) (at : ℕ) (l : Literal) (e : Ok l ≡ literal_at n at) where
  clause_literal : (l.variable ≡ 0 → ⊥) → clause_token st c n ≡ literal_token st c (literal_in l)
  clause_literal = on_told (λ (m : Number) (k : Literal). (k.variable ≡ 0 → ⊥) → clause_token st c m ≡ literal_token st c (literal_in k)) n at l e by
    where
      by : (z : ℤ) → ((literal_of z).variable ≡ 0 → ⊥) → clause_token st c (number z) ≡ literal_token st c (literal_in (literal_of z))
      by (pos zero) h = absurd (h refl)
      by (pos (suc k)) h = refl
      by (negsuc k) h = refl

  module _ (some_variable : l.variable ≡ 0 → ⊥) where
    pub clause_past : st.variables < l.variable → clause_token st c n ≡ stop no_variable
    clause_past h = clause_literal some_variable ∙ stops_1 _ _ _ _ _ _ _ (lt-ltb _ _ h)

    pub clause_unbound : l.variable ≤ st.variables → bound st.blocks l.variable ≡ false → clause_token st c n ≡ stop not_bound
    clause_unbound h b = clause_literal some_variable ∙ stops_2 _ _ _ _ _ _ _ (le-ltb _ _ h) (ap not b)

    pub clause_both : l.variable ≤ st.variables → bound st.blocks l.variable ≡ true → has_opposite c (literal_in l) ≡ true → clause_token st c n ≡ stop both_ways
    clause_both h b o = clause_literal some_variable ∙ stops_3 _ _ _ _ _ _ _ (le-ltb _ _ h) (ap not b) o

    pub clause_more : l.variable ≤ st.variables → bound st.blocks l.variable ≡ true → has_opposite c (literal_in l) ≡ false
        → clause_token st c n ≡ go (moved st (in_clause (with_literal c (literal_in l))))
    clause_more h b o = clause_literal some_variable ∙ goes _ _ _ _ _ _ _ (le-ltb _ _ h) (ap not b) o

-- ---- one token, by the place
module _ (at : ℕ) (s : Held) (bs : List formula.Bound) (cs : List Clause) (bytes : List ℕ) (r : Result Made Refused) where
  pub at_place : (p : Spot) → s.place ≡ p → After at bs cs (step_at (place_of p) (state_of s bs cs) bytes) r → After at bs cs (step (state_of s bs cs) bytes) r
  unfolding step
  at_place p e h = subst (λ (q : Spot). After at bs cs (step_at (place_of q) (state_of s bs cs) bytes) r) (sym e) h

  -- a word of the header
  pub after_expected : Stands s bs cs → (w : List ℕ) (t : Bool) (p : Spot) → Room p s.done s.header.count → t ≡ spelled w bytes → r ≡ expected s t p at
      → After at bs cs (expect w bytes (moved (state_of s bs cs) (place_of p))) r
  after_expected h w t p d e f = subst (After at bs cs (expect w bytes (moved (state_of s bs cs) (place_of p)))) (sym f) (by t e)
    where
      by : (t : Bool) → t ≡ spelled w bytes → After at bs cs (expect w bytes (moved (state_of s bs cs) (place_of p))) (expected s t p at)
      by true e = (rw (sym e), record { kept = h.kept; room = d })
      by false e = (rw (sym e), refl)
