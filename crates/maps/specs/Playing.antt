-- What a walk comes to, and what the call to play answers.
use Rattle.std.specs.Prelude.{◌≡◌, Option, Some, None, Result, Ok, Err}
use Rattle.rules.specs.declared.Value.{Value}
use Rattle.rules.specs.declared.Played.{Played}
use Rattle.rules.specs.declared.refusals.Refusal.{Refusal}
use Rattle.rules.specs.definitions.Refusals.{refusal_number}
use Rattle.rules.specs.definitions.Maps.{Walk, value_word}
use Rattle.rules.specs.definitions.Maps.Walk.{ended, broken}

-- what a walk comes to, without its leaf's number and the variables read
abbrev pub outcome : Walk → Option Value
outcome (ended v k s) = Some v
outcome broken = None

-- what the call answers, as the reply that 01 gives for it
abbrev pub Plays : Played → Result Value Refusal → Type 0
Plays p (Ok v) = p ≡ record { number = 0; value = value_word v }
Plays p (Err k) = p ≡ record { number = refusal_number k; value = 0 }
