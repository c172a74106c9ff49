-- Numbers of a resolution: a parent's row in the line table, 1 << k, and a member of a set.
use mathlib.Core.Path.{◌≡◌, ap, ◌∙◌}
use mathlib.Core.Bool.{true}
use mathlib.Core.List.{List}
use Prim.Native.Nat.{ℕ, ◌*◌, ◌%◌, ◌^◌, ◌≤◌, ◌<◌}
use native.Mathlib.Omega.{arith}
use native.Mathlib.Nat.{mod-eq_of_lt}
use lib.Pow.{pow-lt}
use lib.ListN.{length}
use Rattle.rules.specs.definitions.Layout.{set_words, line_words}
use Rattle.rules.specs.definitions.Limits.{lines_most, variables_most, universals_most}
use Rattle.rules.specs.definitions.Sets.{has}
use Rattle.theory.specs.laws.Sets.{has_range}
use Rattle.rules.specs.definitions.Lines.{earlier}
use Rattle.theory.specs.laws.Lines.{earlier_iff}
use Rattle.sets.specs.declared.Set.{Set}
use Rattle.sets.specs.Values.{set_of, length_set_of}

-- the words of line a, which is before line i, lie in the line table
pub line_room : (i a : ℕ) (lines : List ℕ) → earlier i a ≡ true → i ≤ lines_most → line_words ≤ length lines → (1 ≤ a) × (2 * set_words * a ≤ length lines)
unfolding set_words line_words
line_room i a lines e h l = let p = (earlier_iff i a).0 e in (p.0, omega (arith, p.1))

-- 1 << k
pub power : (k : ℕ) → k ≤ universals_most → (1 * 2 ^ k) % 2 ^ 32 ≡ 2 ^ k
power k h =
    let l : 2 ^ k < 2 ^ 32 = pow-lt {i = k} {j = 32} (omega arith) in
    let e : 1 * 2 ^ k ≡ 2 ^ k = omega arith in
    ap (λ (n : ℕ). n % 2 ^ 32) e ∙ mod-eq_of_lt l

-- a member of a set is a variable
pub member_range : (s : Set) (x : ℕ) → has (set_of s) x ≡ true → (1 ≤ x) × (x ≤ variables_most)
unfolding set_words
member_range s x h = let p = has_range (set_of s) x h in (p.0, omega (arith, p.1, length_set_of s))

-- what join_parents needs of them
pub ruleset joins = (line_room, power, member_range)
