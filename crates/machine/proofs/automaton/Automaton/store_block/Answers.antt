use Rattle.std.proofs.Common.{◌*◌, ap, arith}
use Rattle.stored.specs.Run.{row_size, run_size, seen_in, matches_at, active_in}
use Rattle.stored.specs.RunCalls.{permitted}
use Rattle.stored.proofs.Laws.Bytes.Vectors.{block-and, block-or, block-from_start}
use Rattle.stored.proofs.Laws.Running.Blocks.{blocks-put}
use Rattle.machine.proofs.Written.{holding}
use Rattle.machine.proofs.automaton.Automaton.store_block.Goals as goal

pub returns : goal.returns
unfolding active_in seen_in matches_at row_size run_size permitted
returns c =
    let b = c.args in
    let run = b.run.now.bytes in
    let around = c.row_at-around.ensures.0 in
    let may = block-or (block-and c.mask.ensures (rw around at c.one_on.ensures)) (block-or (block-and c.mask-2.ensures (rw around at c.one_on-2.ensures)) c.first.ensures) in
    let active = block-and (block-or c.mask-3.ensures (block-from_start b.taken.now (8 * b.from) c.bits.ensures)) may in
    let seen = block-or (rw around at c.bits-2.ensures) active in
    let matched = block-or c.bits-3.ensures (block-and active c.mask-4.ensures) in
    ap (holding run) (blocks-put run.now b.d b.from c.row_at-at.result c.row_at-at.ensures.0 (omega arith) (omega arith) active seen matched)
