use Rattle.std.proofs.Common.{sym, ◌∙◌}
use Rattle.stored.proofs.Laws.Shapes.Given.{lent-usable}
use Rattle.stored.proofs.Laws.Running.CallAnswers.{open-not-lent, open-not-formed}
use Rattle.machine.proofs.run.open.open.Goals as goal

pub returns-in_err-refusal : goal.returns-in_err-refusal
returns-in_err-refusal c = open-not-lent _ _ _ _ c.from_residual.result c.in_err-refusal.field-0.0 c.from_residual.ensures.1 c.in_err-refusal.ensures

pub returns-then-not-name_form : goal.returns-then-not-name_form
returns-then-not-name_form c = open-not-formed _ _ _ _ (lent-usable _ _ _ (sym c.in_ok-refusal.ensures)) (sym c.name_form.ensures ∙ c.if-not-name_form.true)

pub invariant_of-open : goal.invariant_of-open
invariant_of-open c = record { usable = lent-usable _ _ _ (sym c.in_ok-refusal.ensures) }
