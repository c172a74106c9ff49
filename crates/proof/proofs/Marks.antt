-- The head's first refusal, byte by byte.
use mathlib.Core.Path.{◌≡◌, refl, sym, ap, ◌∙◌}
use mathlib.Core.Bool.{true, false, not, ◌&&◌, ◌||◌, false≢true}
use mathlib.Core.Logic.{by_cases, ◌⊎◌, inl, inr}
use mathlib.Core.List.{List, [], ◌∷◌}
use Prim.Native.Nat.{ℕ, ◌+◌, ◌*◌, ◌≤◌, ◌<◌}
use native.Mathlib.Omega.{arith}
use native.Mathlib.Decide.{dec_lt}
use lib.Dec.{eqb, ltb}
use lib.ListN.{length, take}
use borrow.Author.Tests.{lt-ltb, le-ltb, eq-eqb, ne_eqb}
use Rattle.rules.specs.definitions.Formula.{Formula}
use Rattle.rules.specs.definitions.Text.{spelled}
use Rattle.std.specs.Cmp.Lexicographic.{pointwise}
use Rattle.rules.specs.definitions.File.{pair_at, merge_proof}
use Rattle.rules.specs.definitions.Faults.{fault, first_of}
use Rattle.rules.specs.definitions.File.{head_fault}
use Rattle.proof.specs.Head.{unmarked, headed, head_of}
use Rattle.std.specs.Prelude.{Ok, Err}

-- spelled is equal byte for byte
pub spelled_pointwise : (m s : List ℕ) → pointwise eqb m s ≡ spelled m s
unfolding spelled
spelled_pointwise [] [] = refl
spelled_pointwise [] (c ∷ s) = refl
spelled_pointwise (b ∷ m) [] = refl
spelled_pointwise (b ∷ m) (c ∷ s) = ap (λ t. eqb b c && t) (spelled_pointwise m s)

-- of fewer than 7 bytes nothing is marked
pub short_unmarked : (s : List ℕ) → length s < 7 → true ≡ unmarked s
unfolding unmarked
short_unmarked s h = sym (rw (lt-ltb (length s) 7 h))

-- of 7 bytes the mark decides, and where it stands the version
pub unmarked_by : (s : List ℕ) → 7 ≤ length s → pointwise eqb merge_proof.mark (take 3 s) ≡ false → true ≡ unmarked s
unfolding unmarked
unmarked_by s h e = sym (rw (le-ltb (length s) 7 h, ← spelled_pointwise merge_proof.mark (take 3 s), e))

pub marked_by : (s : List ℕ) (v : ℕ) → 7 ≤ length s → pointwise eqb merge_proof.mark (take 3 s) ≡ true → v ≡ pair_at s 3 → not (eqb v 1) ≡ unmarked s
unfolding unmarked
marked_by s v h e p = sym (rw (le-ltb (length s) 7 h, ← spelled_pointwise merge_proof.mark (take 3 s), e, p))

-- what is marked has 7 bytes
pub marked_long : (s : List ℕ) → unmarked s ≡ false → 7 ≤ length s
unfolding unmarked
marked_long s e = by_cases (dec_lt (length s) 7) (λ l. absurd (false≢true (sym e ∙ rw (lt-ltb (length s) 7 l)))) (λ l. omega arith)

-- ---- the answer, by the first of the head's tests that fails
module _ (F : Formula) (s : List ℕ) where
  head_unfold : head_of F s ≡ headed (first_of (fault 11 (unmarked s) ∷ fault 12 (not (eqb (length s) (7 + 0 + 8 * pair_at s 5))) ∷ fault 13 (ltb (pair_at s 5) 1 || ltb 1024 (pair_at s 5)) ∷ [])) (pair_at s 5)
  unfolding head_of head_fault unmarked
  head_unfold = refl

  pub head_unmarked : unmarked s ≡ true → head_of F s ≡ Err 11
  unfolding first_of
  head_unmarked e = head_unfold ∙ rw e

  pub head_length : unmarked s ≡ false → (length s ≡ 7 + 8 * pair_at s 5 → ⊥) → head_of F s ≡ Err 12
  unfolding first_of
  head_length e n = let m : length s ≡ 7 + 0 + 8 * pair_at s 5 → ⊥ = λ p. n (omega arith) in head_unfold ∙ rw (e, ne_eqb _ _ m)

  module _ (e : unmarked s ≡ false) (l : length s ≡ 7 + 8 * pair_at s 5) where
    fitting : length s ≡ 7 + 0 + 8 * pair_at s 5
    fitting = omega arith

    pub head_few : (pair_at s 5 < 1) ⊎ (1024 < pair_at s 5) → head_of F s ≡ Err 13
    unfolding first_of
    head_few (inl h) = head_unfold ∙ rw (e, eq-eqb _ _ fitting, lt-ltb _ _ h)
    head_few (inr h) = head_unfold ∙ rw (e, eq-eqb _ _ fitting, le-ltb _ _ (let o : 1 ≤ pair_at s 5 = omega arith in o), lt-ltb _ _ h)

    pub head_lines : 1 ≤ pair_at s 5 → pair_at s 5 ≤ 1024 → head_of F s ≡ Ok (pair_at s 5)
    unfolding first_of
    head_lines o h = head_unfold ∙ rw (e, eq-eqb _ _ fitting, le-ltb _ _ o, le-ltb _ _ h)
