-- `cases_tokens::print_tokens` is safe and ends: each token ends past its offset.
use Prim.Native.Nat.{◌-◌}
use lib.ListN.{length}
use Rattle.cases_tokens.proofs.print_tokens.Given as goal

abbrev pub decreases-loop-token : goal.decreases-loop-token
decreases-loop-token g l = length l.bytes - l.at
