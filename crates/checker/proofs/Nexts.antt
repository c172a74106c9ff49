-- The next line by what its record decodes to.
use Rattle.std.proofs.Common.{◌≡◌, refl, ap, ◌∙◌, List, ℕ, suc, length, Result, Ok, Err}
use Rattle.rules.specs.declared.Line.{Line}
use Rattle.rules.specs.declared.refusals.Refusal.{Refusal}
use Rattle.rules.specs.declared.refusals.Fault.{Fault}
use Rattle.rules.specs.definitions.Refusals.{refusal_number}
use Rattle.rules.specs.definitions.Formula.{Formula}
use Rattle.rules.specs.definitions.File.{decoded}
use Rattle.rules.specs.definitions.Lines.{Row, line_made, next_line, Rules}
use Rattle.checker.specs.declared.axioms.Made.{Made}
use Rattle.checker.specs.Makes.{Makes}

module _ (R : Rules) (F : Formula) (decodes : R.decode ≡ decoded) (rows : List Row) (bytes : List ℕ) where
  as_decoded : R.decode bytes ≡ decoded bytes
  as_decoded = ap (λ (f : List ℕ → Result Line ℕ). f bytes) decodes

  -- a record that is no line
  pub next_refused : (k : Refusal) → decoded bytes ≡ Err (refusal_number k) → Makes (next_line R F rows bytes) (Err (record { refusal = k; variable = 0 }))
  unfolding next_line
  next_refused k e = let d : R.decode bytes ≡ Err (refusal_number k) = as_decoded ∙ e in rw d (refl, refl)

  -- a line
  pub next_made : (i : ℕ) (l : Line) → i ≡ suc (length rows) → decoded bytes ≡ Ok l → (m : Result Made Fault) → Makes (line_made R F rows i l) m
      → Makes (next_line R F rows bytes) m
  unfolding next_line
  next_made i l h e m M = let d : R.decode bytes ≡ Ok l = as_decoded ∙ e in rw (d, ← h) M
