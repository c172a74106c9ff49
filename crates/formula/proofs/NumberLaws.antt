-- Signed numbers, and the number that a token spells, digit by digit.
use mathlib.Core.Path.{◌≡◌, refl, ap}
use mathlib.Core.Bool.{Bool, true, false, cond}
use mathlib.Core.List.{List, [], ◌∷◌}
use Prim.Native.Nat.{ℕ, suc, ◌+◌, ◌-◌, ◌*◌, ◌<◌, ◌≤◌, min}
use native.Mathlib.Numerals.{add-one}
use native.Mathlib.Omega.{arith}
use borrow.Author.Tests.{leb-true, leb-false, le-leb, lt-leb, eq-eqb, ne_eqb}
use Rattle.std.proofs.lemmas.Bool.{eqb-true}
use lib.Dec.{eqb, leb}
use lib.IntN.{pos, neg_ℤ}
use lib.ListN.{length, get_or, drop, drop_of_length-le}
use lib.Seq.{drop-cons}
use Rattle.std.proofs.Common.{take, take_all, None}
use Rattle.rules.specs.definitions.Limits.{number_most}
use Rattle.rules.specs.definitions.Text.{digit, grown, sized, counting, number_of}
use Rattle.rules.specs.definitions.Text.Number.{number, no_number}
use Rattle.formula.specs.Numbers.{spelled_number}

-- ---- one digit more
grown_past : (n b : ℕ) → number_most ≤ n * 10 + (b - 48) → number_most ≡ grown n b
unfolding grown
grown_past n b h = rw (le-leb number_most (n * 10 + (b - 48)) h)

grown_within : (n b : ℕ) → n * 10 + (b - 48) < number_most → n * 10 + (b - 48) ≡ grown n b
unfolding grown
grown_within n b h = rw (lt-leb number_most (n * 10 + (b - 48)) h)

pub grown_least : (n b d m : ℕ) → d ≡ b - 48 → m ≡ min (n * 10 + d) number_most → (m ≡ grown n b) × (m ≤ number_most)
grown_least n b d m e f = by (leb number_most (n * 10 + d)) refl
  where
    by : (t : Bool) → leb number_most (n * 10 + d) ≡ t → (m ≡ grown n b) × (m ≤ number_most)
    by true g =
        let h = leb-true number_most (n * 10 + d) g in
        (omega (arith, grown_past n b (omega arith)), omega arith)
    by false g =
        let h = leb-false number_most (n * 10 + d) g in
        (omega (arith, grown_within n b (omega arith)), omega arith)

-- ---- the digits from a place on
module _ (negated : Bool) (n : ℕ) (w : List ℕ) (i : ℕ) where
  pub sized_end : length w ≤ i → sized negated n (drop i w) ≡ number (cond negated (neg_ℤ (pos n)) (pos n))
  unfolding sized
  sized_end h = rw (drop_of_length-le w h)

  pub sized_none : i < length w → digit (get_or w i 0) ≡ false → sized negated n (drop i w) ≡ no_number
  unfolding sized
  sized_none h e = rw (drop-cons w i 0 h, sized, e)

  pub sized_more : i < length w → digit (get_or w i 0) ≡ true → sized negated (grown n (get_or w i 0)) (drop (i + 1) w) ≡ sized negated n (drop i w)
  unfolding sized
  sized_more h e = rw (drop-cons w i 0 h, add-one i, sized, e)

-- ---- the first digit
-- the bytes past the first
abbrev pub others : List ℕ → List ℕ
others w = take (length w - 1) (drop 1 w)

others_cons : (b : ℕ) (l : List ℕ) → others (b ∷ l) ≡ l
others_cons b l = take_all (length (b ∷ l) - 1) l (omega arith)

pub counting_none : (negated : Bool) (w : List ℕ) → (1 ≤ length w → 49 ≤ get_or w 0 0 → get_or w 0 0 ≤ 57 → ⊥) → spelled_number (counting negated w) ≡ None
unfolding counting
counting_none negated [] h = refl
counting_none negated (b ∷ w) h = by (leb 49 b) refl (leb b 57) refl
  where
    by : (t : Bool) → leb 49 b ≡ t → (u : Bool) → leb b 57 ≡ u → spelled_number (counting negated (b ∷ w)) ≡ None
    by true e true f = absurd (h (omega arith) (leb-true 49 b e) (leb-true b 57 f))
    by true e false f = rw (counting, e, f)
    by false e u f = rw (counting, e)

pub counting_some : (negated : Bool) (w : List ℕ) (d : ℕ) → 1 ≤ length w → 49 ≤ get_or w 0 0 → get_or w 0 0 ≤ 57 → d ≡ get_or w 0 0 - 48
    → spelled_number (counting negated w) ≡ spelled_number (sized negated d (others w))
unfolding counting
counting_some negated [] d h l m e = absurd (omega arith)
counting_some negated (b ∷ w) d h l m e = rw (e, others_cons b w, counting, le-leb 49 b l, le-leb b 57 m)

-- ---- the number of a token, by its first byte
pub number_zero : (w : List ℕ) → length w ≡ 1 → get_or w 0 0 ≡ 48 → number_of w ≡ number (pos 0)
unfolding number_of
number_zero [] h e = absurd (omega arith)
number_zero (b ∷ l) h e = rw (number_of, e, eq-eqb (length l) 0 (omega arith))

pub number_minus : (w : List ℕ) → get_or w 0 0 ≡ 45 → counting true (others w) ≡ number_of w
unfolding number_of counting
number_minus [] e = refl
number_minus (b ∷ l) e = rw (others_cons b l, number_of, ne_eqb b 48 (λ f. omega arith), eq-eqb b 45 e)

pub number_plain : (w : List ℕ) → (length w ≡ 1 → get_or w 0 0 ≡ 48 → ⊥) → (1 ≤ length w → get_or w 0 0 ≡ 45 → ⊥) → counting false w ≡ number_of w
unfolding number_of counting
number_plain [] n m = refl
number_plain (b ∷ l) n m = by (eqb b 48) refl (eqb (length l) 0) refl
  where
    by : (t : Bool) → eqb b 48 ≡ t → (u : Bool) → eqb (length l) 0 ≡ u → counting false (b ∷ l) ≡ number_of (b ∷ l)
    by true e true f = absurd (n (ap suc (eqb-true (length l) 0 f)) (eqb-true b 48 e))
    by true e false f = rw (number_of, e, f, ne_eqb b 45 (m (omega arith)))
    by false e u f = rw (number_of, e, ne_eqb b 45 (m (omega arith)))
