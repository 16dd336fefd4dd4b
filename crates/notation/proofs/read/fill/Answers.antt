-- `read::fill`: the buffer is cleared, the text is copied into it, and its entries are laid out.
use mathlib.Core.Path.{◌∙◌}
use lib.ListN.{drop}
use Rattle.notation.specs.Layout.{text_at, set_size}
use Rattle.notation.proofs.Laws.Refused.Taken.{cleared-copied, laid_out}
use Rattle.notation.proofs.read.fill.Goals as goal

pub returns-in-Some : goal.returns-in-Some
unfolding set_size text_at
returns-in-Some c = λ s ok.
    let a = c.args in
    let begun = cleared-copied a.text.now a.part.now c.copy_all.new.to c.requires.0 c.requires.1 c.copy_all.ensures in
    c.put_counts.ensures ∙ laid_out a.text.now (drop set_size a.part.now) s ok c.in-Some.tally _ (rw (c.clear.ensures, begun) at c.in-Some.ensures)
