use Rattle.std.proofs.Common.{ℕ, List, ap, arith}
use Rattle.std.specs.Borrow.{MutBor}
use Rattle.notation.specs.Limits.{max_paths, max_steps}
use Rattle.stored.specs.Automaton.{mask_size}
use Rattle.stored.specs.Code.OpenSteps.{taken_active, taken_seen, taken_matched}
use Rattle.stored.proofs.Laws.Running.Blocks.{none-stored, next-stored}
use Rattle.machine.proofs.Written.{holding, written_again}
use Rattle.machine.proofs.automaton.Automaton.store_bits.Goals as goal

pub loop-i-init : goal.loop-i-init
loop-i-init c =
    let b = c.args in
    let run = b.run.now.bytes in
    ap (holding run)
    (none-stored run.now b.d (taken_active b.self.now run.now b.taken.now b.d) (taken_seen b.self.now run.now b.taken.now b.d) (taken_matched b.self.now run.now b.taken.now b.d))

pub loop-i-preserved : goal.loop-i-preserved
unfolding mask_size max_paths max_steps
loop-i-preserved c =
    let b = c.args in
    let l = c.loop-i in
    let run = b.run.now.bytes in
    written_again run l.invariant c.store_block.ensures (next-stored b.self.now run.now l.run.bytes.now b.taken.now b.d l.i (ap (λ (x : MutBor (List ℕ)). x.now) l.invariant) (omega arith))
