-- A set of one word: the operations of the rules on it are those of the word.
use mathlib.Core.Path.{◌≡◌, refl, sym, ap, ◌∙◌}
use mathlib.Core.Bool.{Bool, true, false, not}
use mathlib.Core.List.{List, [], ◌∷◌, ◌++◌, append-nil}
use mathlib.Core.Logic.{◌≢◌}
use Prim.Native.Nat.{ℕ, zero, suc, ◌+◌, ◌-◌, ◌*◌, ◌/◌, ◌%◌, ◌^◌, ◌≤◌, ◌<◌}
use native.Mathlib.Nat.{one-mul}
use native.Mathlib.Numerals.{add-one}
use native.Mathlib.Omega.{arith}
use lib.Dec.{eqb, lit<}
use lib.Bits.{bit_and, bit_or, and_lt}
use lib.ListN.{length, get_or, take, drop, set, length-append, length-drop, drop_of_length-le}
use lib.Pow.{shl_exact}
use lib.Seq.{drop-cons, set_split, take_at, take_all}
use borrow.Author.Tests.{eqb-true, eqb-false}
use Rattle.rules.specs.definitions.Layout.{set_words}
use Rattle.rules.specs.definitions.Bits.{bit}
use Rattle.rules.specs.definitions.Sets.{has, with, without, only, empty, meet}
use Rattle.theory.specs.laws.Sets.{has_past, zeros_empty, empty_zeros, meet_only}
use Rattle.sets.specs.Values.{put_in, clause_in}

-- one bit shifted to its place
pub one_shl : (k : ℕ) → k < 64 → 1 * 2 ^ k % 2 ^ 64 ≡ 2 ^ k
one_shl k h = shl_exact 1 k 64 (lit< tt) (omega arith) ∙ one-mul (2 ^ k)

pub has_word : (w v : ℕ) → 1 ≤ v → v ≤ 64 → bit w (v - 1) ≡ has (w ∷ []) v
unfolding has
has_word w zero h l = absurd (omega arith)
has_word w (suc k) h l =
    let e : suc k - 1 ≡ k = omega arith in
    let q : k / 64 ≡ 0 = omega arith in
    let r : k % 64 ≡ k = omega arith in
    rw (e, q, r)

pub has_outside : (w v : ℕ) → 64 < v → has (w ∷ []) v ≡ false
has_outside w v h = has_past (w ∷ []) v (omega arith)

pub has_no_variable : (w v : ℕ) → v ≡ 0 → has (w ∷ []) v ≡ false
unfolding has
has_no_variable w v e = rw e

pub with_word : (w v : ℕ) → 1 ≤ v → v ≤ 64 → bit_or w (2 ^ (v - 1)) ∷ [] ≡ with (w ∷ []) v
unfolding with
with_word w v h l =
    let q : (v - 1) / 64 ≡ 0 = omega arith in
    let r : (v - 1) % 64 ≡ v - 1 = omega arith in
    rw (q, r)

pub without_word : (w v : ℕ) → 1 ≤ v → v ≤ 64 → bit_and w (2 ^ 64 - 1 - 2 ^ (v - 1)) ∷ [] ≡ without (w ∷ []) v
unfolding without
without_word w v h l =
    let q : (v - 1) / 64 ≡ 0 = omega arith in
    let r : (v - 1) % 64 ≡ v - 1 = omega arith in
    rw (q, r)

-- a word is 0 where no variable is in it
pub empty_word : (w : ℕ) → w < 2 ^ 64 → eqb w 0 ≡ empty (w ∷ [])
empty_word w h = go (eqb w 0) refl
  where
    zeros : w ≡ 0 → (i : ℕ) → get_or (w ∷ []) i 0 ≡ 0
    zeros e zero = e
    zeros e (suc i) = refl

    small : (i : ℕ) → get_or (w ∷ []) i 0 < 2 ^ 64
    small zero = h
    small (suc i) = lit< tt

    other : w ≢ 0 → (b : Bool) → empty (w ∷ []) ≡ b → false ≡ b
    other n true e = absurd (n (empty_zeros (w ∷ []) small e 0))
    other n false e = refl

    go : (b : Bool) → eqb w 0 ≡ b → eqb w 0 ≡ empty (w ∷ [])
    go true e = e ∙ sym (zeros_empty (w ∷ []) (zeros (eqb-true w 0 e)))
    go false e = e ∙ other (eqb-false w 0 e) (empty (w ∷ [])) refl

-- two words have no bit in common where no variable is in both
pub meet_word : (a b : ℕ) → a < 2 ^ 64 → b < 2 ^ 64 → not (eqb (bit_and a b) 0) ≡ meet (a ∷ []) (b ∷ [])
unfolding only
meet_word a b ha hb = ap not (empty_word (bit_and a b) (and_lt 64 a b ha hb)) ∙ sym (meet_only (a ∷ []) (b ∷ []))

-- ---- in the words of a table
pub word_read : (row : List ℕ) (place : ℕ) → place < length row → get_or row place 0 ∷ [] ≡ take set_words (drop place row)
unfolding set_words
word_read row place h = rw (drop-cons row place 0 h)

pub word_written : (row : List ℕ) (place w : ℕ) → place < length row → set row place w ≡ put_in row place (w ∷ [])
unfolding put_in
word_written row place w h = rw (add-one, set_split row place w h)

pub one_word : 1 ≡ set_words
unfolding set_words
one_word = refl

-- two sets written one behind the other fill the row
pub both_written : (row ws us : List ℕ) (n : ℕ) → length row ≡ 2 * n → length ws ≡ n → length us ≡ n → put_in (put_in row 0 ws) n us ≡ ws ++ us
unfolding put_in
both_written row ws us n h a b =
    let rest : List ℕ = drop (0 + length ws) row in
    let long : length (ws ++ rest) ≤ n + length us = omega (arith, length-append ws rest, length-drop (0 + length ws) row) in
    rw (take_at ws rest n a, drop_of_length-le (ws ++ rest) long, append-nil us)

-- two sets read one behind the other are the clause of the row
pub both_read : (row : List ℕ) (n : ℕ) → length row ≡ 2 * set_words → n ≡ set_words
    → record { plain = take set_words (drop 0 row); negated = take set_words (drop n row) } ≡ clause_in row
unfolding clause_in
both_read row n h e = rw (e, take_all set_words (drop set_words row) (omega (arith, length-drop set_words row)))
