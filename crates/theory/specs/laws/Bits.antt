-- Laws of the bits of a word, over any width.
use Rattle.std.specs.Prelude.{◌≡◌, refl, Bool, true, false, not, ◌&&◌, ◌||◌, ◌⊎◌, ℕ, zero, suc, ◌+◌, ◌-◌, ◌*◌, ◌/◌, ◌%◌, ◌^◌, ◌≤◌, ◌<◌, min, max, eqb}
use Rattle.std.proofs.Common.{sym, ap, ◌∙◌, true≢false, inl, inr, arith, pow-suc, mod-eq_of_lt, pow_pos, shr-shr}
use Rattle.std.proofs.lemmas.Bool.{false≢true}
use Rattle.std.proofs.Math.Logic.{by_cases}
use Rattle.std.proofs.Math.Dec.{eqb-suc-zero, eqb-zero-suc, eqb-suc-suc}
use Rattle.std.specs.Int.Bits.{bit_and, bit_or, and_step, or_step}
use Rattle.std.proofs.lemmas.Nat.{and_mask}
use Rattle.std.proofs.Math.Pow.{pow-lt}
use Rattle.std.proofs.Math.Decide.{dec_lt}
use Rattle.rules.specs.definitions.Bits.{odd, bit}

-- ---- the lowest digit
two : (n : ℕ) → (n % 2 ≡ 0) ⊎ (n % 2 ≡ 1)
two n = go (n % 2) (omega arith)
  where
    go : (m : ℕ) → m < 2 → (m ≡ 0) ⊎ (m ≡ 1)
    go zero h = inl refl
    go (suc zero) h = inr refl
    go (suc (suc m)) h = absurd (omega arith)

pub half_or : (a b : ℕ) → bit_or a b / 2 ≡ bit_or (a / 2) (b / 2)
half_or a b = omega (arith, or_step a b)

pub half_and : (a b : ℕ) → bit_and a b / 2 ≡ bit_and (a / 2) (b / 2)
half_and a b = omega (arith, and_step a b)

mod_or : (a b : ℕ) → bit_or a b % 2 ≡ max (a % 2) (b % 2)
mod_or a b = omega (arith, or_step a b)

mod_and : (a b : ℕ) → bit_and a b % 2 ≡ min (a % 2) (b % 2)
mod_and a b = omega (arith, and_step a b)

odd_or : (a b : ℕ) → odd (bit_or a b) ≡ (odd a || odd b)
odd_or a b = rw (mod_or a b) (go (two a) (two b))
  where
    go : (a % 2 ≡ 0) ⊎ (a % 2 ≡ 1) → (b % 2 ≡ 0) ⊎ (b % 2 ≡ 1) → eqb (max (a % 2) (b % 2)) 1 ≡ (odd a || odd b)
    go (inl p) (inl q) = rw (p, q)
    go (inl p) (inr q) = rw (p, q)
    go (inr p) (inl q) = rw (p, q)
    go (inr p) (inr q) = rw (p, q)

odd_and : (a b : ℕ) → odd (bit_and a b) ≡ (odd a && odd b)
odd_and a b = rw (mod_and a b) (go (two a) (two b))
  where
    go : (a % 2 ≡ 0) ⊎ (a % 2 ≡ 1) → (b % 2 ≡ 0) ⊎ (b % 2 ≡ 1) → eqb (min (a % 2) (b % 2)) 1 ≡ (odd a && odd b)
    go (inl p) (inl q) = rw (p, q)
    go (inl p) (inr q) = rw (p, q)
    go (inr p) (inl q) = rw (p, q)
    go (inr p) (inr q) = rw (p, q)

pub bit_of_or : (a b k : ℕ) → bit (bit_or a b) k ≡ (bit a k || bit b k)
unfolding bit
bit_of_or a b zero = odd_or a b
bit_of_or a b (suc k) = ap (λ (w : ℕ). bit w k) (half_or a b) ∙ bit_of_or (a / 2) (b / 2) k

pub bit_of_and : (a b k : ℕ) → bit (bit_and a b) k ≡ (bit a k && bit b k)
unfolding bit
bit_of_and a b zero = odd_and a b
bit_of_and a b (suc k) = ap (λ (w : ℕ). bit w k) (half_and a b) ∙ bit_of_and (a / 2) (b / 2) k

-- the complement of n digits
odd_not : (a b : ℕ) → (a + b) % 2 ≡ 1 → odd b ≡ not (odd a)
odd_not a b h = go (two a) (two b)
  where
    go : (a % 2 ≡ 0) ⊎ (a % 2 ≡ 1) → (b % 2 ≡ 0) ⊎ (b % 2 ≡ 1) → odd b ≡ not (odd a)
    go (inl p) (inl q) = absurd (omega arith)
    go (inl p) (inr q) = rw (p, q)
    go (inr p) (inl q) = rw (p, q)
    go (inr p) (inr q) = absurd (omega arith)

pub bit_not : (n a k : ℕ) → a < 2 ^ n → k < n → bit ((2 ^ n - 1) - a) k ≡ not (bit a k)
unfolding bit
bit_not zero a k h l = absurd (omega arith)
bit_not (suc n) a zero h l = odd_not a ((2 ^ suc n - 1) - a) (omega (arith, pow-suc 2 n))
bit_not (suc n) a (suc k) h l =
    ap (λ (w : ℕ). bit w k) (omega (arith, pow-suc 2 n)) ∙ bit_not n (a / 2) k (omega (arith, pow-suc 2 n)) (omega arith)

pub bit_zero : (k : ℕ) → bit 0 k ≡ false
unfolding bit
bit_zero zero = refl
bit_zero (suc k) = bit_zero k

-- bits past the width are not set
pub bit_past : (n a k : ℕ) → a < 2 ^ n → n ≤ k → bit a k ≡ false
unfolding bit
bit_past zero a k h l = ap (λ (w : ℕ). bit w k) (omega arith) ∙ bit_zero k
bit_past (suc n) a zero h l = absurd (omega arith)
bit_past (suc n) a (suc k) h l = bit_past n (a / 2) k (omega (arith, pow-suc 2 n)) (omega arith)

pub bit_one : (j k : ℕ) → bit (2 ^ j) k ≡ eqb k j
unfolding bit
bit_one zero zero = refl
bit_one zero (suc k) = bit_zero k ∙ sym (eqb-suc-zero k)
bit_one (suc j) zero =
    let e : 2 ^ suc j % 2 ≡ 0 = omega (arith, pow-suc 2 j) in ap (λ (w : ℕ). eqb w 1) e ∙ sym (eqb-zero-suc j)
bit_one (suc j) (suc k) = ap (λ (w : ℕ). bit w k) (omega (arith, pow-suc 2 j)) ∙ bit_one j k ∙ sym (eqb-suc-suc k j)

odd_same : (a b : ℕ) → odd a ≡ odd b → a % 2 ≡ b % 2
odd_same a b h = go (two a) (two b)
  where
    go : (a % 2 ≡ 0) ⊎ (a % 2 ≡ 1) → (b % 2 ≡ 0) ⊎ (b % 2 ≡ 1) → a % 2 ≡ b % 2
    go (inl p) (inl q) = omega arith
    go (inl p) (inr q) = absurd (false≢true (rw (p, q) at h))
    go (inr p) (inl q) = absurd (true≢false (rw (p, q) at h))
    go (inr p) (inr q) = omega arith

-- a word is its set
pub bit_ext : (n a b : ℕ) → a < 2 ^ n → b < 2 ^ n → ((k : ℕ) → k < n → bit a k ≡ bit b k) → a ≡ b
unfolding bit
bit_ext zero a b ha hb h = omega arith
bit_ext (suc n) a b ha hb h =
    omega (
      arith,
      odd_same a b (h 0 (omega arith)),
      bit_ext n (a / 2) (b / 2) (omega (arith, pow-suc 2 n)) (omega (arith, pow-suc 2 n)) (λ k l. h (suc k) (omega arith)),
    )

pub bit_shr : (a k : ℕ) → bit a k ≡ odd (a / 2 ^ k)
unfolding bit
bit_shr a zero = let e : a ≡ a / 1 = omega arith in ap odd e
bit_shr a (suc k) = let e : 1 + k ≡ suc k = omega arith in bit_shr (a / 2) k ∙ ap odd (shr-shr a 1 k ∙ ap (λ (n : ℕ). a / 2 ^ n) e)

-- a & !b in words of n bits
pub bit_without : (n a b k : ℕ) → a < 2 ^ n → b < 2 ^ n → bit (bit_and a ((2 ^ n - 1) - b)) k ≡ (bit a k && not (bit b k))
bit_without n a b k ha hb = bit_of_and a ((2 ^ n - 1) - b) k ∙ by_cases (dec_lt k n) (λ l. rw (bit_not n b k hb l)) (λ l. rw (bit_past n a k ha (omega arith)))

-- 1 << j in words of n bits
pub bit_single : (n j k : ℕ) → j < n → bit ((1 * 2 ^ j) % 2 ^ n) k ≡ eqb k j
bit_single n j k h =
    let e : (1 * 2 ^ j) % 2 ^ n ≡ 2 ^ j = mod-eq_of_lt (omega (arith, pow-lt h)) ∙ omega arith in
    rw e (bit_one j k)

-- (a >> k) & 1 == 1
pub bit_test : (a k : ℕ) → eqb (bit_and (a / 2 ^ k) 1) 1 ≡ bit a k
bit_test a k = ap (λ (w : ℕ). eqb w 1) (and_mask (a / 2 ^ k) 1) ∙ sym (bit_shr a k)

-- ---- numbers whose bits are all low
under_pow : (m : ℕ) → m < 2 ^ m
under_pow zero = omega arith
under_pow (suc m) = omega (arith, under_pow m, pow-suc 2 m)

-- a set all of whose members are below k is below 2 ^ k
pub members_below : (k m : ℕ) → ((j : ℕ) → bit m j ≡ true → j < k) → m < 2 ^ k
unfolding bit
members_below zero m h =
    let z : m ≡ 0 = bit_ext m m 0 (under_pow m) (pow_pos m) (λ j l. by j (bit m j) refl ∙ sym (bit_zero j)) in omega arith
  where
    by : (j : ℕ) (t : Bool) → bit m j ≡ t → bit m j ≡ false
    by j true e = absurd (omega (arith, h j e))
    by j false e = e
members_below (suc k) m h = omega (arith, pow-suc 2 k, members_below k (m / 2) (λ j e. omega (arith, h (suc j) e)))
