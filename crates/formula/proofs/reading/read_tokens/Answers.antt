-- `reading::read_tokens` meets its contract: before each token the tables hold what is read so far, and the tokens left give what the whole gives.
use Rattle.std.proofs.Common.{refl, ap, ◌∙◌, rules, Ok}
use Rattle.formula.specs.Tokens.{left}
use Rattle.formula.proofs.ReadingLaws.{held_begin, held_go, held_bind, held_ended, bind_room, ended_room, filled_refused, filled_ended}
use Rattle.formula.proofs.reading.read_tokens.Goals as goal

pub loop-token-init : goal.loop-token-init
loop-token-init c = record {
  held = held_begin c.args.n _ _ _ _ _ c.begin-s.ensures (ap left c.into_iter-token-iterator.ensures.into_iter_gives) c.requires.0 c.requires.1;
  same = (refl, refl);
}

pub returns-in_err-t-clause-filled : goal.returns-in_err-t-clause-filled
returns-in_err-t-clause-filled c = filled_refused c.loop-token.invariant.held c.in-Some.ensures.steps c.step.ensures c.in_err-t.field-0.0 c.from_residual.result c.in_err-t.was (search rules)

pub loop-token-preserved-in-Go : goal.loop-token-preserved-in-Go
loop-token-preserved-in-Go c = record { held = held_go c.loop-token.invariant.held c.in-Some.ensures.steps c.step.ensures c.in-Go.t (c.in_ok-t.was ∙ ap Ok c.in-Go.is); same = search }

pub put_bound-requires : goal.put_bound-requires
put_bound-requires c = bind_room c.loop-token.invariant.held c.in-Some.ensures.steps c.step.ensures _ c.in-Bind.t (c.in_ok-t.was ∙ ap Ok c.in-Bind.is)

pub loop-token-preserved-in-Bind : goal.loop-token-preserved-in-Bind
loop-token-preserved-in-Bind c = record {
  held = held_bind c.loop-token.invariant.held c.in-Some.ensures.steps c.step.ensures _ c.in-Bind.t (c.in_ok-t.was ∙ ap Ok c.in-Bind.is) c.args.tables.now.long_prefix c.put_bound.ensures.prefix
      c.put_bound.ensures.clauses;
  same = search;
}

pub put_clause-requires : goal.put_clause-requires
put_clause-requires c = ended_room c.loop-token.invariant.held c.in-Some.ensures.steps c.step.ensures _ c.in-Ended.t (c.in_ok-t.was ∙ ap Ok c.in-Ended.is)

pub loop-token-preserved : goal.loop-token-preserved
loop-token-preserved c = record { held = held_ended c.loop-token.invariant.held c.in-Some.ensures.steps c.step.ensures _ c.in-Ended.t (c.in_ok-t.was ∙ ap Ok c.in-Ended.is) c.put_clause.ensures.prefix c.put_clause.ensures.clauses; same = search }

pub returns-clause-filled : goal.returns-clause-filled
returns-clause-filled c = filled_ended c.finish.result c.loop-token.invariant.held c.in-None.ensures.steps.0 c.finish.ensures
