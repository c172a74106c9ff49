-- `report::text::Out::put_reply` meets its contract: by whether the reply is 0.
use mathlib.Core.Path.{sym}
use native.Mathlib.Omega.{arith}
use Rattle.report.proofs.Laws.{then, retext, wider}
use Rattle.report.proofs.Printed.{reply_accepted, reply_refused}
use Rattle.report.proofs.text.Out.put_reply.Goals as goal

pub returns-then-reply-eq0 : goal.returns-then-reply-eq0
returns-then-reply-eq0 c =
    let a = c.args in
    retext (sym (reply_accepted a.reply a.prefix.now a.nodes.now a.roots.now c.if-reply-eq0.true)) (then c.put_accepted.ensures c.put_maps.ensures)

pub returns-else-reply-eq0 : goal.returns-else-reply-eq0
returns-else-reply-eq0 c =
    let a = c.args in
    retext (sym (reply_refused a.reply a.prefix.now a.nodes.now a.roots.now c.if-reply-eq0.false)) (wider (omega arith) c.put_refused.ensures)
