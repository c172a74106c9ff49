-- `reading::read_tokens` meets its contract: before each token the tables hold what is read so far, and the tokens left give what the whole gives.
use Rattle.formula.specs.Tokens.{left}
use Rattle.formula.specs.Tables.{SameFormulaTables}
use Rattle.formula.proofs.ReadingLaws.{Held}
use Rattle.formula.proofs.reading.read_tokens.Given as goal

abbrev pub invariant-loop-token : goal.invariant-loop-token
invariant-loop-token l = record {
  held : Held l.n (left l.tokens) l.initial.tables.prefix.now l.initial.tables.clauses.now l.tables.prefix.now l.tables.clauses.now (left l.token-iterator) l.s;
  same : SameFormulaTables l.initial.tables l.tables;
}
