-- A clause takes two sets.
use native.Mathlib.Omega.{arith}
use Rattle.sets.proofs.Words.{one_word}
use Rattle.sets.proofs.Clause.words.Goals as goal

pub overflow_mul-result : goal.overflow_mul-result
overflow_mul-result c = omega (arith, one_word)
