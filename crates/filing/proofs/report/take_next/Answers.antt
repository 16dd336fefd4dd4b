-- `report::take_next`: 15 whatever was answered, a refusal of an earlier token, or what the token makes of what was filed.
use mathlib.Core.Path.{refl, sym, ◌∙◌, ap}
use Rattle.text.specs.Answers.{refusal_in}
use Rattle.text.proofs.Laws.Numbers.{some_number}
use Rattle.text.proofs.Laws.Results.{handed_number}
use Rattle.filing.proofs.Laws.Filing.Taking.{stops}
use Rattle.filing.proofs.Laws.Filing.Sessions.{takes_here, takes-on}
use Rattle.filing.proofs.report.take_next.Goals as goal

pub returns-then-repeats : goal.returns-then-repeats
returns-then-repeats c o t = rw (sym c.repeats.ensures ∙ c.if-repeats.true) (takes_here _ _ _ refl)

pub returns-in_err-taken : goal.returns-in_err-taken
returns-in_err-taken c o t =
    let is = ap refusal_in c.in_err-taken.was in
    let same = handed_number _ _ _ c.from_residual.ensures.1 (sym is) in
    rw (sym c.repeats.ensures ∙ c.if-repeats.false, same) (takes_here _ _ _ (stops o _ _ _ t _ (λ z. some_number _ (sym is ∙ z))))

pub returns : goal.returns
returns c o t =
    let z = ap refusal_in c.in_ok-taken.was in
    rw (sym c.repeats.ensures ∙ c.if-repeats.false) (takes-on _ (takes_here c.args.session.now o _ t) z c.take.ensures)
