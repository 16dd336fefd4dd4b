use Rattle.std.proofs.Common.{rules}
use Rattle.text.specs.Names.{max_name}
use Rattle.stored.specs.Run.{state_in}
use Rattle.stored.proofs.Laws.Running.Written.{row-put}
use Rattle.machine.proofs.run.row.write_row.Goals as goal

pub returns : goal.returns
unfolding max_name state_in
returns c = row-put c.args.row.now c.args.e.now c.args.state c.requires.0 c.requires.1 c.copy_from_slice.ensures.after c.copy_from_slice-2.ensures.after (c.fill.ensures.after (search rules)) c.put_word.ensures (c.fill-2.ensures.after (search rules))
