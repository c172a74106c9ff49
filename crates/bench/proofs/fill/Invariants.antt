-- `bench::fill` is safe and ends: the bytes that are done are within the buffer, and what is left of it falls.
use Rattle.std.proofs.Common.{◌≤◌, ◌-◌, length}
use Rattle.bench.proofs.fill.Given as goal

abbrev pub invariant-loop-done : goal.invariant-loop-done
invariant-loop-done l = l.done ≤ length l.buf

abbrev pub decreases-loop-done : goal.decreases-loop-done
decreases-loop-done l = length l.initial.buf - l.done
