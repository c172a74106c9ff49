-- Refusals in the listed order: of a list of tests the first that fails decides.
use Rattle.std.specs.Prelude.{Bool, true, false, List, [], ◌∷◌, ℕ}

-- a refusal's number and variable, and whether it is to be given
pub record Fault : Type 0 where
  pub number : ℕ
  pub variable : ℕ
  pub when : Bool

abbrev pub fault : ℕ → Bool → Fault
fault n t = record { number = n; variable = 0; when = t }

-- what a list of tests gives
pub data Found : Type 0 where
  passes : Found
  fails : ℕ → ℕ → Found

-- the first that is to be given
unfoldable pub first_of : List Fault → Found
first_of [] = passes
first_of (f ∷ fs) = elim f.when [ true ↦ fails f.number f.variable | false ↦ first_of fs ]
