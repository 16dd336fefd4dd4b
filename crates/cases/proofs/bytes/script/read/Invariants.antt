-- Each turn fills more of the buffer.
use Rattle.std.proofs.Common.{◌≤◌, ◌-◌, length}
use Rattle.cases.proofs.bytes.script.read.Given as goal

abbrev pub invariant-loop-more : goal.invariant-loop-more
invariant-loop-more g l = l.size ≤ length l.buffer

abbrev pub decreases-loop-more : goal.decreases-loop-more
decreases-loop-more g l = length l.buffer - l.size
