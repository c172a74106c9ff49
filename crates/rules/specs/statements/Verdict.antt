-- Demand 2: which refusal is given, by stages, each where all before it passes.
use Rattle.std.specs.Prelude.{Ok, Err, ◌≡◌, true, false, ℕ, suc, length}
use mathlib.Core.List.{List, [], ◌∷◌, ◌++◌, Memᴰ}
use Rattle.rules.specs.declared.Line.{Line}
use Rattle.rules.specs.definitions.Refusals.{not_empty}
use Rattle.rules.specs.definitions.Faults.{Fault}
use Rattle.rules.specs.definitions.Faults.Found.{passes}
use Rattle.rules.specs.definitions.Formula.{Formula}
use Rattle.rules.specs.definitions.Text.{uncommented, Token}
use Rattle.rules.specs.definitions.Reading.{State, begin, step, end_at, tokens_of, read}
use Rattle.rules.specs.definitions.Reading.Next.{stop, go}
use Rattle.rules.specs.definitions.Reading.Reading.{unread, formula}
use Rattle.rules.specs.definitions.File.{head_faults, head_fault, records}
use Rattle.rules.specs.definitions.Lines.{Row, Rules, line_faults}
use Rattle.rules.specs.definitions.Checking.{all_lines, Checked, Manner, rules_of, lines_of}
use Rattle.rules.specs.definitions.Checking.Passed.{passed}
use Rattle.rules.specs.definitions.Checking.Checked.{rejected, accepted}

-- ---- tests in order
-- the first test that is to be given has this number and variable: those before it are not to be given
pub record First (fs : List Fault) (m v : ℕ) : Type 0 where
  pub before : List Fault
  pub it : Fault
  pub after : List Fault
  pub split : fs ≡ before ++ (it ∷ after)
  pub earlier : (f : Fault) → Memᴰ f before → f.when ≡ false
  pub given : it.when ≡ true
  pub number : it.number ≡ m
  pub variable : it.variable ≡ v

-- ---- the text
-- the tokens all step on, from one state to another
pub data Steps : State → List Token → State → Type 0 where
  none : {st : State} → Steps st [] st
  next : {st mid end : State} {t : Token} {ts : List Token} → step st t.bytes ≡ go mid → Steps mid ts end → Steps st (t ∷ ts) end

-- the first token at which reading stops, or an ending where the text, of length n, may not end
pub data Stops (n : ℕ) (st : State) (ts : List Token) (m at : ℕ) : Type 0 where
  token : (before : List Token) (t : Token) (after : List Token) (mid : State) → ts ≡ before ++ (t ∷ after) → Steps st before mid
      → step mid t.bytes ≡ stop m → t.at ≡ at → Stops n st ts m at
  ending : (last : State) → Steps st ts last → end_at last.place n last ≡ unread m at → Stops n st ts m at

-- ---- lines
-- the record after the rows is refused: it is no line, or its line breaks a rule, this one first
pub data Refuses (R : Rules) (F : Formula) (rows : List Row) (bytes : List ℕ) (m v : ℕ) : Type 0 where
  no_line : R.decode bytes ≡ Err m → v ≡ 0 → Refuses R F rows bytes m v
  broken_rule : (l : Line) → R.decode bytes ≡ Ok l → First (line_faults R F rows (suc (length rows)) l) m v → Refuses R F rows bytes m v

-- the records before one all pass, and that one is refused, at its own line i
pub record FirstLine (R : Rules) (F : Formula) (rs : List (List ℕ)) (m i v : ℕ) : Type 0 where
  pub before : List (List ℕ)
  pub bytes : List ℕ
  pub after : List (List ℕ)
  pub split : rs ≡ before ++ (bytes ∷ after)
  pub place : i ≡ suc (length before)
  pub rows : List Row
  pub earlier : all_lines R F before ≡ passed rows
  pub refuses : Refuses R F rows bytes m v

-- ---- checking a text with a proof, by stages: each refusal where all stages before pass
-- the text is read, the head passes
pub record Begun (m : Manner) (text proof : List ℕ) (F : Formula) : Type 0 where
  pub given : read text ≡ formula F
  pub head : head_fault m.form F proof ≡ passes

-- and all lines pass
pub record AllPass (m : Manner) (text proof : List ℕ) (F : Formula) (rows : List Row) : Type 0 where
  pub begun : Begun m text proof F
  pub lines : lines_of m F proof ≡ passed rows

pub data Verdict (m : Manner) (text proof : List ℕ) : Checked → Type 0 where
  text_refused : {n at : ℕ} → Stops (length text) begin (tokens_of (uncommented false text 0)) n at → Verdict m text proof (rejected n at 0)
  head_refused : {n v : ℕ} (F : Formula) → read text ≡ formula F → First (head_faults m.form F proof) n v → Verdict m text proof (rejected n 0 v)
  line_refused : {n i v : ℕ} (F : Formula) → Begun m text proof F → FirstLine (rules_of m F proof) F (records m.form F proof) n i v
      → Verdict m text proof (rejected n i v)
  last_refused : (F : Formula) (rows : List Row) → AllPass m text proof F rows → m.asks rows ≡ false → Verdict m text proof (rejected not_empty (length rows) 0)
  accepts : (F : Formula) (rows : List Row) → AllPass m text proof F rows → m.asks rows ≡ true → Verdict m text proof (accepted F rows)
