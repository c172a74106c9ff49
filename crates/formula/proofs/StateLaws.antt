-- States that stand for blocks and clauses: how many variables are bound, and what stands after one token more.
use mathlib.Core.Path.{◌≡◌, refl, sym, ap, ◌∙◌, subst}
use mathlib.Core.Bool.{Bool, true, false, ◌||◌, or_comm, or-false}
use mathlib.Core.Logic.{by_cases}
use mathlib.Core.List.{List, [], ◌∷◌, ◌++◌}
use Prim.Native.Nat.{ℕ, zero, suc, ◌+◌, ◌≤◌, ◌<◌}
use native.Mathlib.Omega.{arith}
use native.Mathlib.Decide.{dec_lt}
use lib.Dec.{eqb}
use lib.ListN.{length, length-append}
use borrow.Author.Tests.{eq-eqb, ne_eqb, le-leb, lt-leb}
use Rattle.rules.specs.definitions.Limits.{variables_most, universals_most, clauses_most}
use Rattle.rules.specs.definitions.Layout.{universal_mark, set_words}
use Rattle.rules.specs.definitions.Sets.{none, has, with}
use Rattle.theory.specs.laws.Sets.{has_none, has_with}
use Rattle.rules.specs.definitions.Formula as formula
use Rattle.rules.specs.definitions.Formula.{Bound, bound, universals}
use Rattle.theory.specs.laws.Formula.{eqb_comm, bound_snoc, length_snoc, universals_snoc_exists, universals_snoc_forall}
use Rattle.rules.specs.definitions.Reading as reading
use Rattle.rules.specs.definitions.Tables.{bound_word}
use Rattle.sets.specs.declared.Set.{Set}
use Rattle.sets.specs.Values.{set_of}
use Rattle.formula.specs.declared.parts.Prefix.{Prefix}
use Rattle.formula.specs.declared.states.Place.{Place}
use Rattle.formula.specs.declared.states.Place.TheVariants as P
use Rattle.formula.specs.declared.states.State.{State}
use Rattle.formula.specs.Tallies.{tally}
use Rattle.formula.specs.States.{quant_of, bound_as, Room, Kept, Stands}

-- ---- how many of the variables 1 to n have p
tally_in : (p : ℕ → Bool) (n : ℕ) → p (suc n) ≡ true → tally p (suc n) ≡ suc (tally p n)
unfolding tally
tally_in p n e = rw (tally, e)

tally_out : (p : ℕ → Bool) (n : ℕ) → p (suc n) ≡ false → tally p (suc n) ≡ tally p n
unfolding tally
tally_out p n e = rw (tally, e)

pub tally_le : (p : ℕ → Bool) (n : ℕ) → tally p n ≤ n
unfolding tally
tally_le p zero = omega arith
tally_le p (suc n) = by (p (suc n)) refl (tally_le p n)
  where
    by : (t : Bool) → p (suc n) ≡ t → tally p n ≤ n → tally p (suc n) ≤ suc n
    by true e h = omega (arith, tally_in p n e)
    by false e h = omega (arith, tally_out p n e)

tally_same : (p q : ℕ → Bool) (n : ℕ) → ((u : ℕ) → u ≤ n → q u ≡ p u) → tally q n ≡ tally p n
unfolding tally
tally_same p q zero h = refl
tally_same p q (suc n) h = by (p (suc n)) refl (tally_same p q n (λ u l. h u (omega arith)))
  where
    by : (t : Bool) → p (suc n) ≡ t → tally q n ≡ tally p n → tally q (suc n) ≡ tally p (suc n)
    by true e r = omega (arith, r, tally_in p n e, tally_in q n (h (suc n) (omega arith) ∙ e))
    by false e r = omega (arith, r, tally_out p n e, tally_out q n (h (suc n) (omega arith) ∙ e))

-- one more has it
tally_more : (p q : ℕ → Bool) (v n : ℕ) → 1 ≤ v → v ≤ n → p v ≡ false → ((u : ℕ) → q u ≡ (p u || eqb v u)) → tally q n ≡ suc (tally p n)
tally_more p q v zero l m e h = absurd (omega arith)
tally_more p q v (suc n) l m e h = by_cases (dec_lt v (suc n)) (λ d. below d (tally_more p q v n l (omega arith) e h)) (λ d. here (omega arith))
  where
    below : v < suc n → tally q n ≡ suc (tally p n) → tally q (suc n) ≡ suc (tally p (suc n))
    below d r = go (p (suc n)) refl
      where
        same : q (suc n) ≡ p (suc n)
        same = h (suc n) ∙ rw (ne_eqb v (suc n) (λ x. omega arith)) (or-false (p (suc n)))

        go : (t : Bool) → p (suc n) ≡ t → tally q (suc n) ≡ suc (tally p (suc n))
        go true f = omega (arith, r, tally_in p n f, tally_in q n (same ∙ f))
        go false f = omega (arith, r, tally_out p n f, tally_out q n (same ∙ f))

    here : v ≡ suc n → tally q (suc n) ≡ suc (tally p (suc n))
    here d =
        let has_it : q (suc n) ≡ true = h (suc n) ∙ rw (sym d, e, eq-eqb v v refl) in
        let same : tally q n ≡ tally p n = tally_same p q n (λ u k. h u ∙ rw (ne_eqb v u (λ x. omega arith)) (or-false (p u))) in
        omega (arith, tally_in q n has_it, same, tally_out p n (subst (λ (k : ℕ). p k ≡ false) d e))

-- none has it
tally_zero : (p : ℕ → Bool) (n : ℕ) → ((u : ℕ) → p u ≡ false) → 0 ≡ tally p n
unfolding tally
tally_zero p zero h = refl
tally_zero p (suc n) h = tally_zero p n h ∙ sym (tally_out p n (h (suc n)))

pub tally_none : (s : Set) → set_of s ≡ none set_words → 0 ≡ tally (has (set_of s)) variables_most
tally_none s e = tally_zero (has (set_of s)) variables_most (λ v. ap (λ (t : List ℕ). has t v) e ∙ has_none set_words v)

-- a set with one variable more
module _ (s r : Set) (v : ℕ) (l : 1 ≤ v) (m : v ≤ variables_most) (e : set_of r ≡ with (set_of s) v) where
  has_more : (u : ℕ) → has (set_of r) u ≡ (has (set_of s) u || eqb v u)
  unfolding set_of
  has_more u = ap (λ (t : List ℕ). has t u) e ∙ has_with (set_of s) v u l (omega arith) ∙ rw (eqb_comm u v) (or_comm (eqb v u) (has (set_of s) u))

  pub tally_with : has (set_of s) v ≡ false → tally (has (set_of r)) variables_most ≡ suc (tally (has (set_of s)) variables_most)
  tally_with n = tally_more (has (set_of s)) (has (set_of r)) v variables_most l m n has_more

-- ---- a state that stands for something is within its limits
room_done : (p : Place) (done count : ℕ) → Room p done count → done ≤ count
room_done P.Mark done count h = omega arith
room_done P.Cnf done count h = omega arith
room_done P.Variables done count h = omega arith
room_done P.Count done count h = omega arith
room_done P.Block done count h = h
room_done (P.InBlock u some) done count h = h
room_done P.AtClause done count h = h
room_done (P.InClause c) done count h = omega arith

module _ (s : State) (bs : List Bound) (cs : List formula.Clause) (h : Stands s bs cs) where
  pub done_count : s.done ≤ s.header.count
  done_count = room_done s.place s.done s.header.count h.room

  pub few_blocks : length bs ≤ variables_most
  few_blocks = omega (arith, h.kept.placed, s.prefix.counted, tally_le (has (set_of s.prefix.bound)) variables_most)

  pub few_clauses : length cs ≤ clauses_most
  few_clauses = omega (arith, h.kept.done_all, s.header.few_clauses, done_count)

-- ---- what is counted, with one variable more
module _ (p : Prefix) (done : ℕ) (bs : List Bound) (cs : List formula.Clause) (h : Kept p done bs cs) where
  pub kept_bind : (r : Prefix) (v : ℕ) (universal : Bool) → 1 ≤ v → v ≤ variables_most → (set_of r.bound ≡ with (set_of p.bound) v) × (r.placed ≡ p.placed + 1) × (r.universals ≡ length (universals (bs ++ (bound_as universal v ∷ []))))
      → Kept r done (bs ++ (bound_as universal v ∷ [])) cs
  kept_bind r v universal l m (e, f, g) = record {
    known = λ u. has_more p.bound r.bound v l m e u ∙ ap (λ (t : Bool). t || eqb v u) (h.known u) ∙ sym (bound_snoc bs (bound_as universal v) u);
    placed = omega (arith, f, h.placed, length_snoc bs (bound_as universal v));
    universals = g;
    done_all = h.done_all;
  }

-- before the first token
pub kept_begin : (p : Prefix) → set_of p.bound ≡ none set_words → p.placed ≡ 0 → p.universals ≡ 0 → Kept p 0 [] []
unfolding bound universals
kept_begin p e f g = record {
  known = λ v. ap (λ (t : List ℕ). has t v) e ∙ has_none set_words v;
  placed = f;
  universals = g;
  done_all = refl;
}

-- ---- one variable more, by its quantifier
module _ (bs : List Bound) (v : ℕ) (universal : Bool) where
  pub one_universal_more : universal ≡ true → length (universals (bs ++ (bound_as universal v ∷ []))) ≡ length (universals bs) + 1
  one_universal_more e = rw (e, universals_snoc_forall bs v) (length-append (universals bs) (v ∷ []))

  pub no_universal_more : universal ≡ false → length (universals (bs ++ (bound_as universal v ∷ []))) ≡ length (universals bs)
  no_universal_more e = rw (e, universals_snoc_exists bs v)

pub universal_word : (v : ℕ) (universal : Bool) → universal ≡ true → v + universal_mark ≡ bound_word (bound_as universal v)
universal_word v universal e = rw e

pub existential_word : (v : ℕ) (universal : Bool) → universal ≡ false → v ≡ bound_word (bound_as universal v)
existential_word v universal e = rw e

-- whether a 17th universal would come
module _ (st : reading.State) (universal : Bool) where
  pub full_yes : universal ≡ true → universals_most ≤ length (universals st.blocks) → reading.full st (quant_of universal) ≡ true
  full_yes e h = rw (e, le-leb universals_most (length (universals st.blocks)) h)

  pub full_no : universal ≡ true → length (universals st.blocks) < universals_most → reading.full st (quant_of universal) ≡ false
  full_no e h = rw (e, lt-leb universals_most (length (universals st.blocks)) h)

  pub full_never : universal ≡ false → reading.full st (quant_of universal) ≡ false
  full_never e = rw e
