-- A word as a set of numbers: k is in w where bit k of w is set.
use Rattle.std.specs.Prelude.{Bool, ℕ, zero, suc, ◌/◌, ◌%◌, eqb}

abbrev pub odd : ℕ → Bool
odd w = eqb (w % 2) 1

unfoldable pub bit : ℕ → ℕ → Bool
bit w zero = odd w
bit w (suc k) = bit (w / 2) k
