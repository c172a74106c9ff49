-- Sets of variables by their members: what is in the sets that Sets makes, how many words they have, and what the tests say.
use Rattle.std.specs.Prelude.{◌≡◌, refl, Bool, true, false, not, ◌&&◌, ◌||◌, [], ◌∷◌, ◌≢◌, ◌⊎◌, ℕ, zero, suc, ◌+◌, ◌-◌, ◌*◌, ◌/◌, ◌%◌, ◌^◌, ◌≤◌, ◌<◌, max, eqb, length, get_or, set, replicate}
use Rattle.std.proofs.Common.{sym, ap, ap₂, ◌∙◌, true≢false, inl, inr, arith, lit<, length-set, get_or-set_same, get_or-set_other, eq-eqb, ne_eqb}
use Rattle.std.proofs.lemmas.Bool.{false≢true, not-true, not-false}
use Rattle.std.proofs.Math.Bool.{or_comm, or-true, and-true}
use Rattle.std.proofs.Math.Logic.{by_cases}
use Rattle.std.proofs.Math.Decide.{ℕ_discrete, dec_le}
use Rattle.std.proofs.Math.Dec.{eqb-zero-suc}
use Rattle.std.proofs.Math.Arith.{bin_ind}
use Rattle.std.specs.Int.Bits.{bit_and, bit_or, or_step, or_zero_r, and_zero_r}
use Rattle.std.proofs.lemmas.Nat.{or_comm as bits_comm}
use Rattle.std.proofs.lemmas.List.{length-replicate}
use Rattle.std.proofs.Math.ListN.{get_or-eq_default}
use Rattle.std.proofs.Math.Pow.{pow-lt}
use Rattle.rules.specs.definitions.Layout.{word_bits}
use Rattle.rules.specs.definitions.Bits.{bit}
use Rattle.theory.specs.laws.Bits.{half_or, bit_of_or, bit_of_and, bit_not, bit_one, bit_zero, bit_ext}
use Rattle.rules.specs.definitions.Sets.{Set, none, has, with, without, join, only, some, empty, meet}

-- ---- both tests pass, or one of two
pub and_left : (a b : Bool) → (a && b) ≡ true → a ≡ true
and_left true b h = refl
and_left false b h = h

pub and_right : (a b : Bool) → (a && b) ≡ true → b ≡ true
and_right true b h = h
and_right false b h = absurd (false≢true h)

pub or_cases : (a b : Bool) → (a || b) ≡ true → (a ≡ true) ⊎ (b ≡ true)
or_cases true b h = inl refl
or_cases false b h = inr h

-- ---- lengths
pub length_none : (n : ℕ) → length (none n) ≡ n
unfolding none
length_none n = length-replicate n 0

pub length_with : (s : Set) (v : ℕ) → length (with s v) ≡ length s
unfolding with
length_with s v = length-set s _ _

pub length_without : (s : Set) (v : ℕ) → length (without s v) ≡ length s
unfolding without
length_without s v = length-set s _ _

-- sets of equally many words
pub length_join : (s t : Set) → length s ≡ length t → length (join s t) ≡ length s
unfolding join
length_join [] t h = sym h
length_join (a ∷ s) [] h = refl
length_join (a ∷ s) (b ∷ t) h = ap suc (length_join s t (omega arith))

pub length_only : (s t : Set) → length s ≡ length t → length (only s t) ≡ length s
unfolding only
length_only [] t h = refl
length_only (a ∷ s) [] h = sym h
length_only (a ∷ s) (b ∷ t) h = ap suc (length_only s t (omega arith))

-- ---- members
-- no variable past the last word
pub has_past : (s : Set) (v : ℕ) → word_bits * length s < v → has s v ≡ false
unfolding has
has_past s zero h = refl
has_past s (suc k) h = rw (get_or-eq_default s 0 {n = k / word_bits} (omega arith)) (bit_zero (k % word_bits))

-- a member is a variable of the words
pub has_range : (s : Set) (v : ℕ) → has s v ≡ true → (1 ≤ v) × (v ≤ word_bits * length s)
unfolding has
has_range s zero h = absurd (false≢true h)
has_range s (suc k) h =
    by_cases (dec_le (suc k) (word_bits * length s)) (λ l. (omega arith, l)) (λ l. absurd (false≢true (sym (has_past s (suc k) (omega arith)) ∙ h)))

getD_none : (n i : ℕ) → get_or {A = ℕ} (replicate n 0) i 0 ≡ 0
getD_none zero i = refl
getD_none (suc n) zero = refl
getD_none (suc n) (suc i) = getD_none n i

pub has_none : (n v : ℕ) → has (none n) v ≡ false
unfolding has none
has_none n zero = refl
has_none n (suc k) = rw (getD_none n (k / word_bits)) (bit_zero (k % word_bits))

getD_join : (s t : Set) (i : ℕ) → get_or (join s t) i 0 ≡ bit_or (get_or s i 0) (get_or t i 0)
unfolding join
getD_join [] t i = refl
getD_join (a ∷ s) [] i = sym (or_zero_r (get_or (a ∷ s) i 0))
getD_join (a ∷ s) (b ∷ t) zero = refl
getD_join (a ∷ s) (b ∷ t) (suc i) = getD_join s t i

pub has_join : (s t : Set) (v : ℕ) → has (join s t) v ≡ (has s v || has t v)
unfolding has
has_join s t zero = refl
has_join s t (suc k) = rw (getD_join s t (k / word_bits)) (bit_of_or (get_or s (k / word_bits) 0) (get_or t (k / word_bits) 0) (k % word_bits))

getD_only : (s t : Set) (i : ℕ) → get_or (only s t) i 0 ≡ bit_and (get_or s i 0) (get_or t i 0)
unfolding only
getD_only [] t i = refl
getD_only (a ∷ s) [] i = sym (and_zero_r (get_or (a ∷ s) i 0))
getD_only (a ∷ s) (b ∷ t) zero = refl
getD_only (a ∷ s) (b ∷ t) (suc i) = getD_only s t i

pub has_only : (s t : Set) (v : ℕ) → has (only s t) v ≡ (has s v && has t v)
unfolding has
has_only s t zero = refl
has_only s t (suc k) = rw (getD_only s t (k / word_bits)) (bit_of_and (get_or s (k / word_bits) 0) (get_or t (k / word_bits) 0) (k % word_bits))

-- two variables of one word are the same where their bits are
same_word : (k j : ℕ) → k / word_bits ≡ j / word_bits → eqb (k % word_bits) (j % word_bits) ≡ eqb (suc k) (suc j)
same_word k j e =
    by_cases (ℕ_discrete k j) (λ p. rw (p, eq-eqb (j % word_bits) (j % word_bits) refl, eq-eqb (suc j) (suc j) refl))
    (λ n. ne_eqb (k % word_bits) (j % word_bits) (λ p. n (omega arith)) ∙ sym (ne_eqb (suc k) (suc j) (λ p. n (omega arith))))

-- a variable of another word is another variable
other_word : (k j : ℕ) → k / word_bits ≢ j / word_bits → eqb (suc k) (suc j) ≡ false
other_word k j n = ne_eqb (suc k) (suc j) (λ p. n (ap (λ (m : ℕ). m / word_bits) (omega arith)))

-- what a word put in place of another has
in_word : (s : Set) (j k x : ℕ) → suc j ≤ word_bits * length s → k / word_bits ≡ j / word_bits → has (set s (j / word_bits) x) (suc k) ≡ bit x (k % word_bits)
unfolding has
in_word s j k x l e = rw (e, get_or-set_same s (j / word_bits) x 0 (omega arith))

off_word : (s : Set) (j k x : ℕ) → k / word_bits ≢ j / word_bits → has (set s (j / word_bits) x) (suc k) ≡ has s (suc k)
unfolding has
off_word s j k x n = rw (get_or-set_other s (j / word_bits) (k / word_bits) x 0 n)

has_at : (s : Set) (j k : ℕ) → k / word_bits ≡ j / word_bits → bit (get_or s (j / word_bits) 0) (k % word_bits) ≡ has s (suc k)
unfolding has
has_at s j k e = rw e

with_at : (s : Set) (j : ℕ) → with s (suc j) ≡ set s (j / word_bits) (bit_or (get_or s (j / word_bits) 0) (2 ^ (j % word_bits)))
unfolding with
with_at s j = let e : suc j - 1 ≡ j = omega arith in rw e

without_at : (s : Set) (j : ℕ) → without s (suc j) ≡ set s (j / word_bits) (bit_and (get_or s (j / word_bits) 0) (2 ^ word_bits - 1 - 2 ^ (j % word_bits)))
unfolding without
without_at s j = let e : suc j - 1 ≡ j = omega arith in rw e

has_zero : (s : Set) → has s zero ≡ false
unfolding has
has_zero s = refl

pub has_with : (s : Set) (v w : ℕ) → 1 ≤ v → v ≤ word_bits * length s → has (with s v) w ≡ (eqb w v || has s w)
has_with s zero w h l = absurd (omega arith)
has_with s (suc j) zero h l = rw (has_zero (with s (suc j)), has_zero s, eqb-zero-suc j)
has_with s (suc j) (suc k) h l = rw (with_at s j) (by_cases (ℕ_discrete (k / word_bits) (j / word_bits)) here there)
  where
    a : ℕ
    a = get_or s (j / word_bits) 0

    here : k / word_bits ≡ j / word_bits → has (set s (j / word_bits) (bit_or a (2 ^ (j % word_bits)))) (suc k) ≡ (eqb (suc k) (suc j) || has s (suc k))
    here e =
        in_word s j k (bit_or a (2 ^ (j % word_bits))) l e
        ∙ bit_of_or a (2 ^ (j % word_bits)) (k % word_bits)
        ∙ ap₂ (λ (x y : Bool). x || y) (has_at s j k e) (bit_one (j % word_bits) (k % word_bits) ∙ same_word k j e)
        ∙ or_comm (has s (suc k)) (eqb (suc k) (suc j))

    there : k / word_bits ≢ j / word_bits → has (set s (j / word_bits) (bit_or a (2 ^ (j % word_bits)))) (suc k) ≡ (eqb (suc k) (suc j) || has s (suc k))
    there n = rw (other_word k j n) (off_word s j k (bit_or a (2 ^ (j % word_bits))) n)

pub has_without : (s : Set) (v w : ℕ) → 1 ≤ v → v ≤ word_bits * length s → has (without s v) w ≡ (has s w && not (eqb w v))
has_without s zero w h l = absurd (omega arith)
has_without s (suc j) zero h l = rw (has_zero (without s (suc j)), has_zero s)
has_without s (suc j) (suc k) h l = rw (without_at s j) (by_cases (ℕ_discrete (k / word_bits) (j / word_bits)) here there)
  where
    a : ℕ
    a = get_or s (j / word_bits) 0

    b : ℕ
    b = 2 ^ word_bits - 1 - 2 ^ (j % word_bits)

    below : j % word_bits < word_bits
    below = omega arith

    below' : k % word_bits < word_bits
    below' = omega arith

    here : k / word_bits ≡ j / word_bits → has (set s (j / word_bits) (bit_and a b)) (suc k) ≡ (has s (suc k) && not (eqb (suc k) (suc j)))
    here e =
        in_word s j k (bit_and a b) l e
        ∙ bit_of_and a b (k % word_bits)
        ∙ ap₂ (λ (x y : Bool). x && y) (has_at s j k e)
        (bit_not word_bits (2 ^ (j % word_bits)) (k % word_bits) (pow-lt {j = word_bits} below) below'
        ∙ ap not (bit_one (j % word_bits) (k % word_bits) ∙ same_word k j e))

    there : k / word_bits ≢ j / word_bits → has (set s (j / word_bits) (bit_and a b)) (suc k) ≡ (has s (suc k) && not (eqb (suc k) (suc j)))
    there n = rw (other_word k j n, and-true (has s (suc k))) (off_word s j k (bit_and a b) n)

-- ---- tests
-- one of the variables 1 to n has p: which
pub some_found : (p : ℕ → Bool) (n : ℕ) → some p n ≡ true → (v : ℕ) × (1 ≤ v) × (v ≤ n) × (p v ≡ true)
unfolding some
some_found p zero h = absurd (false≢true h)
some_found p (suc n) h = go (λ e. some_found p n e) (p (suc n)) refl
  where
    further : (v : ℕ) × (1 ≤ v) × (v ≤ n) × (p v ≡ true) → (v : ℕ) × (1 ≤ v) × (v ≤ suc n) × (p v ≡ true)
    further r = (r.0, r.1, omega arith, r.3)

    go : (some p n ≡ true → (v : ℕ) × (1 ≤ v) × (v ≤ n) × (p v ≡ true)) → (b : Bool) → p (suc n) ≡ b
        → (v : ℕ) × (1 ≤ v) × (v ≤ suc n) × (p v ≡ true)
    go rest true e = (suc n, omega arith, omega arith, e)
    go rest false e = further (rest (rw e at h))

pub found_some : (p : ℕ → Bool) (n v : ℕ) → 1 ≤ v → v ≤ n → p v ≡ true → some p n ≡ true
unfolding some
found_some p zero v h l e = absurd (omega arith)
found_some p (suc n) v h l e =
    by_cases (ℕ_discrete v (suc n)) (λ q. rw (sym q, e)) (λ q. rw (found_some p n v h (omega arith) e, or-true (p (suc n))))

pub some_false : (p : ℕ → Bool) (n : ℕ) → some p n ≡ false → (v : ℕ) → 1 ≤ v → v ≤ n → p v ≡ false
some_false p n h v l m = go (p v) refl
  where
    go : (b : Bool) → p v ≡ b → p v ≡ false
    go true e = absurd (true≢false (sym (found_some p n v l m e) ∙ h))
    go false e = e

pub false_some : (p : ℕ → Bool) (n : ℕ) → ((v : ℕ) → 1 ≤ v → v ≤ n → p v ≡ false) → some p n ≡ false
unfolding some
false_some p zero h = refl
false_some p (suc n) h = rw (h (suc n) (omega arith) (omega arith)) (false_some p n (λ v l m. h v l (omega arith)))

-- an empty set has no member, another has one
pub empty_has : (s : Set) → empty s ≡ true → (v : ℕ) → has s v ≡ false
unfolding empty
empty_has s h v =
    go (has s v) refl
  where
    go : (b : Bool) → has s v ≡ b → has s v ≡ false
    go true e =
        absurd (true≢false (sym (found_some (has s) (word_bits * length s) v (has_range s v e).0 (has_range s v e).1 e) ∙ not-true (some (has s) (word_bits * length s)) h))
    go false e = e

pub has_empty : (s : Set) → ((v : ℕ) → has s v ≡ false) → empty s ≡ true
unfolding empty
has_empty s h = rw (false_some (has s) (word_bits * length s) (λ v l m. h v))

pub member : (s : Set) → empty s ≡ false → (v : ℕ) × (has s v ≡ true)
unfolding empty
member s h = let r = some_found (has s) (word_bits * length s) (not-false (some (has s) (word_bits * length s)) h) in (r.0, r.3)

-- sets that meet have a common member, others none
pub meet_member : (s t : Set) → meet s t ≡ true → (v : ℕ) × (has s v ≡ true) × (has t v ≡ true)
unfolding meet
meet_member s t h =
    let r = some_found (λ v. has s v && has t v) (word_bits * length s) h in
    (r.0, and_left (has s r.0) (has t r.0) r.3, and_right (has s r.0) (has t r.0) r.3)

pub member_meet : (s t : Set) (v : ℕ) → has s v ≡ true → has t v ≡ true → meet s t ≡ true
unfolding meet
member_meet s t v p q =
    found_some (λ v. has s v && has t v) (word_bits * length s) v (has_range s v p).0 (has_range s v p).1 (rw (p, q))

pub meet_has : (s t : Set) → meet s t ≡ false → (v : ℕ) → has s v ≡ true → has t v ≡ true → ⊥
meet_has s t h v p q = true≢false (sym (member_meet s t v p q) ∙ h)

pub has_meet : (s t : Set) → ((v : ℕ) → has s v ≡ true → has t v ≡ true → ⊥) → meet s t ≡ false
has_meet s t f = go (meet s t) refl
  where
    go : (b : Bool) → meet s t ≡ b → meet s t ≡ false
    go true e = let r = meet_member s t e in absurd (f r.0 r.1 r.2)
    go false e = e

-- sets meet where what is in both is not empty
pub meet_only : (s t : Set) → meet s t ≡ not (empty (only s t))
meet_only s t = go (empty (only s t)) refl
  where
    go : (b : Bool) → empty (only s t) ≡ b → meet s t ≡ not (empty (only s t))
    go true e =
        rw e (has_meet s t (λ v p q. true≢false (sym (rw (has_only s t v, p, q)) ∙ empty_has (only s t) e v)))
    go false e =
        let r = member (only s t) e in
        let both : (has s r.0 && has t r.0) ≡ true = sym (has_only s t r.0) ∙ r.1 in
        rw e (member_meet s t r.0 (and_left (has s r.0) (has t r.0) both) (and_right (has s r.0) (has t r.0) both))

-- ---- words: a set whose words are all 0 is empty, and an empty set of words of 64 bits has no other
pub zeros_empty : (s : Set) → ((i : ℕ) → get_or s i 0 ≡ 0) → empty s ≡ true
unfolding has
zeros_empty s h = has_empty s no
  where
    no : (v : ℕ) → has s v ≡ false
    no zero = refl
    no (suc k) = rw (h (k / word_bits)) (bit_zero (k % word_bits))

pub empty_zeros : (s : Set) → ((i : ℕ) → get_or s i 0 < 2 ^ word_bits) → empty s ≡ true → (i : ℕ) → get_or s i 0 ≡ 0
empty_zeros s w h i = bit_ext word_bits (get_or s i 0) 0 (w i) (lit< tt) same
  where
    same : (k : ℕ) → k < word_bits → bit (get_or s i 0) k ≡ bit 0 k
    same k l =
        let q : (word_bits * i + k) / word_bits ≡ i = omega arith in
        let r : (word_bits * i + k) % word_bits ≡ k = omega arith in
        (rw (q, r) at (has_at s (word_bits * i + k) (word_bits * i + k) refl ∙ empty_has s h (suc (word_bits * i + k)))) ∙ sym (bit_zero k)

-- ---- the order in which variables are added means nothing
or_twice : (a b c : ℕ) → bit_or (bit_or a b) c ≡ bit_or (bit_or (a / 2) (b / 2)) (c / 2) * 2 + max (max (a % 2) (b % 2)) (c % 2)
or_twice a b c =
    let m : bit_or a b % 2 ≡ max (a % 2) (b % 2) = omega (arith, or_step a b) in
    or_step (bit_or a b) c ∙ rw (half_or a b, m)

or_right_comm : (a b c : ℕ) → bit_or (bit_or a b) c ≡ bit_or (bit_or a c) b
or_right_comm =
    bin_ind (λ (n : ℕ). (b c : ℕ) → bit_or (bit_or n b) c ≡ bit_or (bit_or n c) b) (λ b c. bits_comm b c)
    (λ n ih b c. or_twice n b c ∙ omega (arith, ih (b / 2) (c / 2)) ∙ sym (or_twice n c b))

-- bits p and q set at words i and j
abbrev set_bit : Set → ℕ → ℕ → Set
set_bit s i p = set s i (bit_or (get_or s i 0) p)

set_bits_comm : (s : Set) (i j p q : ℕ) → set_bit (set_bit s i p) j q ≡ set_bit (set_bit s j q) i p
set_bits_comm [] i j p q = refl
set_bits_comm (a ∷ s) zero zero p q = ap (λ (b : ℕ). b ∷ s) (or_right_comm a p q)
set_bits_comm (a ∷ s) zero (suc j) p q = refl
set_bits_comm (a ∷ s) (suc i) zero p q = refl
set_bits_comm (a ∷ s) (suc i) (suc j) p q = ap {B = Set} (λ r. a ∷ r) (set_bits_comm s i j p q)

pub with_comm : (s : Set) (v w : ℕ) → with (with s v) w ≡ with (with s w) v
unfolding with
with_comm s v w = set_bits_comm s ((v - 1) / word_bits) ((w - 1) / word_bits) (2 ^ ((v - 1) % word_bits)) (2 ^ ((w - 1) % word_bits))
