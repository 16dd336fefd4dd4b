-- `text::names::class_of` meets its contract: the table is the list of the rule's values at 0 .. 127, which is computed here.
use Rattle.std.proofs.Common.{arith, ◌∙◌}
use Rattle.text.specs.declared.names.Class.TheVariants.{Invalid}
use Rattle.text.specs.Classes.{class_of, look_up, ranges}
use Rattle.text.proofs.Laws.Bytes.Classes.{entry}
use Rattle.text.proofs.names.class_of.Goals as goal

pub returns : goal.returns
unfolding class_of look_up ranges
returns c = rw (c.unwrap_or.ensures, c.copied.ensures) (c.get.ensures.lookup.4 (omega arith) Invalid ∙ rw c.from.ensures (entry c.args.b))
