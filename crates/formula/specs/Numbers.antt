-- A token's number and its literal, from the number that the token spells (01, Formula text).
use Rattle.std.specs.Prelude.{cond, ℕ, ltb, ℤ, pos, negsuc, Option, Some, None, Result, Ok, Err}
use Rattle.rules.specs.declared.refusals.Refusal.{Refusal}
use Rattle.rules.specs.declared.refusals.Refusal.TheVariants as K
use Rattle.rules.specs.declared.refusals.Refused.{Refused}
use Rattle.rules.specs.definitions.Text.{Number}
use Rattle.rules.specs.definitions.Text.Number.{number, no_number}
use Rattle.sets.specs.declared.Literal.{Literal}
use Rattle.sets.specs.Values.{literal_of}

-- a token's number, if it spells one
abbrev pub spelled_number : Number → Option ℤ
spelled_number (number z) = Some z
spelled_number no_number = None

-- a token refused, with its offset
abbrev pub refused_at : Refusal → ℕ → Refused
refused_at k at = record { refusal = k; place = at; variable = 0 }

-- the literal that a token spells, or 3 with the token's offset
abbrev pub literal_at : Number → ℕ → Result Literal Refused
literal_at (number z) at = Ok (literal_of z)
literal_at no_number at = Err (refused_at K.BadToken at)

-- a header number up to its limit, or 3 or 4 with the token's offset; a negative one is no token there
abbrev pub header_of : ℕ → Number → ℕ → Result ℕ Refused
header_of most no_number at = Err (refused_at K.BadToken at)
header_of most (number (negsuc n)) at = Err (refused_at K.BadToken at)
header_of most (number (pos n)) at = cond (ltb most n) (Err (refused_at K.HeaderLimit at)) (Ok n)
