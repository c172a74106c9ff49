-- `report::print` meets its contract: what is put for checking's reply is what 01 says.
use native.Mathlib.Omega.{arith}
use Rattle.std.proofs.Common.{refl, rules}
use Rattle.report.proofs.Printed.{call_printable, call_printed}
use Rattle.report.proofs.print.Goals as goal

pub put_reply-requires : goal.put_reply-requires
put_reply-requires c = (call_printable c.args.text.now c.args.proof.now c.requires c.malintok_check-reply.ensures, omega (arith, c.requires.report))

pub returns : goal.returns
returns c = call_printed c.args.text.now c.args.proof.now c.requires c.malintok_check-reply.ensures refl refl c.put_reply.ensures (search rules)
