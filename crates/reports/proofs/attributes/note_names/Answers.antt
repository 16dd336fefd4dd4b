-- The loop's invariant: the attributes from here follow those that were passed, whose places are kept as far as there is room.
use mathlib.Core.Path.{sym, ap, ◌∙◌}
use Rattle.std.proofs.Common.{Some}
use Rattle.reports.proofs.Laws.Read.Attributes.{noted-done, noted-torn}
use Rattle.reports.proofs.attributes.note_names.Goals as goal

pub returns-in_err-end : goal.returns-in_err-end
returns-in_err-end c =
    rw c.from_residual.ensures (noted-torn _ _ _ _ _ c.loop-end.invariant.1 (sym c.next_attribute.ensures ∙ c.in_err-end.was))

pub returns-in-Blanks : goal.returns-in-Blanks
returns-in-Blanks c = noted-done _ _ _ _ _ c.loop-end.invariant.1 (sym c.next_attribute.ensures ∙ c.in_ok-end.was ∙ ap Some c.in-Blanks.is)
