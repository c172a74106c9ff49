-- How many of the variables have something.
use Rattle.std.specs.Prelude.{Bool, cond, ℕ, zero, suc}

-- how many of the variables 1 to n have p
unfoldable pub tally : (ℕ → Bool) → ℕ → ℕ
tally p zero = 0
tally p (suc n) = cond (p (suc n)) (suc (tally p n)) (tally p n)
