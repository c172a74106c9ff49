-- What the published side and the play ask, each by itself.
use Rattle.std.specs.Prelude.{◌≡◌, refl, false, ◌⊎◌, ℕ, ◌≤◌}
use Rattle.std.proofs.Common.{arith}
use Rattle.rules.specs.declared.Value.TheVariants.{Star}
use Rattle.rules.specs.definitions.Formula.{Formula}
use Rattle.rules.specs.definitions.Maps.{as_bool}
use Rattle.rules.specs.definitions.Paper.{ProofLine, Calculus, ByAxiom, ByResolution, Derivation}

-- the first line of a derivation follows
pub first_line : (C : Calculus) (Φ : Formula) (L : ℕ → ProofLine) (k : ℕ) → 1 ≤ k → Derivation C Φ L k → ByAxiom Φ L 1 ⊎ ByResolution C Φ L 1
first_line C Φ L k h derived = derived 1 (omega arith) h

-- no value is played as 0
pub star_is_zero : as_bool Star ≡ false
star_is_zero = refl
