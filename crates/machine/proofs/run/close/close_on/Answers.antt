use Rattle.std.proofs.Common.{ap, arith, rules}
use Rattle.stored.specs.Run.{row_size, run_size}
use Rattle.stored.proofs.Laws.Running.Rows.{row-closed}
use Rattle.machine.proofs.Written.{holding}
use Rattle.machine.proofs.run.close.close_on.Goals as goal

pub returns : goal.returns
unfolding row_size run_size
returns c =
    let d = c.depth-d in
    let at = c.row_at-at in
    ap (holding c.args.run.now.bytes)
    (row-closed c.args.run.now.bytes.now d.result at.result d.ensures at.ensures.0 (omega arith) (c.fill.ensures.after (search rules)) (c.fill-2.ensures.after (search rules)) c.put_word.ensures (c.fill-3.ensures.after (search rules)))
