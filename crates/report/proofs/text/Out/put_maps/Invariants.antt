-- `report::text::Out::put_maps`: what is put, with the maps of the universals left, is all the maps.
use lib.ListN.{length, take}
use Rattle.report.proofs.Maps.{Mapped}
use Rattle.report.proofs.text.Out.put_maps.Given as goal

abbrev pub invariant-loop-j : goal.invariant-loop-j
invariant-loop-j l = Mapped (take 64 l.prefix) l.nodes l.roots l.lines l.initial.self l.self (length l.yielded)
