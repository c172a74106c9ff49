-- What the select of two roots gives, by the definitions.
use Rattle.rules.specs.definitions.Maps.{Column}
use Rattle.rules.specs.definitions.Lines.{strict, select}
use Rattle.rules.specs.definitions.Lines.{Selected as KeptRoot}
use Rattle.rules.specs.definitions.Lines.Selected.{kept, undefined}
use Rattle.std.specs.Prelude.{ℕ, Option, Some, None}

-- the definitions' answer that a given one stands for
abbrev pub answered : Option ℕ → KeptRoot
answered (Some r) = kept r
answered None = undefined

-- 01's select of two roots of a column
abbrev pub strict_select : Column → ℕ → ℕ → KeptRoot
strict_select = select strict
