-- What examining the head of a merge proof answers, through the head's refusals in order.
use Rattle.std.specs.Prelude.{Result, Ok, Err, Bool, not, ◌||◌, List, ℕ, ltb, length, take}
use Rattle.rules.specs.definitions.Layout.{head_bytes}
use Rattle.rules.specs.definitions.Formula.{Formula}
use Rattle.rules.specs.definitions.Text.{spelled}
use Rattle.rules.specs.definitions.Faults.{Found}
use Rattle.rules.specs.definitions.Faults.Found.{passes, fails}
use Rattle.rules.specs.definitions.File.{pair_at, merge_proof, announced, head_fault}

-- refusal 11: under 7 bytes, wrong mark, or an unknown version
unfoldable pub unmarked : List ℕ → Bool
unmarked s = ltb (length s) head_bytes || (not (spelled merge_proof.mark (take 3 s)) || not (merge_proof.known (pair_at s 3)))

-- the answer to what the head's tests give, for n lines announced
abbrev pub headed : Found → ℕ → Result ℕ ℕ
headed passes n = Ok n
headed (fails n v) m = Err n

-- for a formula
unfoldable pub head_of : Formula → List ℕ → Result ℕ ℕ
head_of F s = headed (head_fault merge_proof F s) (announced s)
