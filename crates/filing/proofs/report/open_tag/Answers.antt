-- `report::open_tag`: a session's open.
use mathlib.Core.Path.{sym, ap}
use Rattle.text.specs.Answers.{refusal_in}
use Rattle.text.proofs.Laws.Results.{handed_number}
use Rattle.filing.proofs.Laws.Filing.Sessions.{opened}
use Rattle.filing.proofs.report.open_tag.Goals as goal

pub returns-in_err-open : goal.returns-in_err-open
returns-in_err-open c =
    let same = handed_number _ _ _ c.from_residual.ensures.1 (sym (ap refusal_in c.in_err-open.was)) in
    rw same (opened c.args.session.now _ c.args.name.now _ c.open.ensures.opens c.open.ensures.kept)

pub returns : goal.returns
returns c = rw (ap refusal_in c.in_ok-open.was) at (opened c.args.session.now _ c.args.name.now _ c.open.ensures.opens c.open.ensures.kept)
