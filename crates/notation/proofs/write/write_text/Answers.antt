-- `write::write_text`: the two answers, by whether the text fits the buffer.
use borrow.Author.Tests.{lt-ltb, le-ltb}
use Rattle.text.specs.Order.{first, given}
use Rattle.text.proofs.Laws.Output.{refused-with, written_front}
use Rattle.notation.proofs.write.write_text.Goals as goal

pub returns-then-out-size : goal.returns-then-out-size
unfolding given first
returns-then-out-size c = let a = c.args in refused-with _ _ a.out.now _ (rw (← c.text-text.ensures, lt-ltb _ _ c.if-out-size.true))

pub returns : goal.returns
unfolding given first
returns c =
    rw (c.copy_from_slice.ensures.after, ← c.text-text.ensures)
    (written_front _ _ c.args.out.now (rw (le-ltb _ _ c.if-out-size.false)) c.if-out-size.false)
