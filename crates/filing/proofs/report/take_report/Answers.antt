-- `report::take_report`: the tokens, and then the end.
use native.Mathlib.Omega.{arith}
use mathlib.Core.Path.{sym, ◌∙◌, ap}
use Rattle.text.specs.Answers.{refusal_in}
use Rattle.text.proofs.Laws.Numbers.{some_number}
use Rattle.text.proofs.Laws.Results.{handed_number}
use Rattle.filing.proofs.Laws.Filing.Taking.{end-rootless, end-open, end-well}
use Rattle.filing.proofs.Laws.Filing.Sessions.{kept_same, takes-stop, takes-on}
use Rattle.filing.proofs.report.take_report.Goals as goal
use Rattle.filing.proofs.report.take_report.Goals.{then-session-eq0-via-then-session-eq0, then-session-eq0-via-else-session-eq0+then-depth-gt0}

pub returns-in_err-take_tokens : goal.returns-in_err-take_tokens
returns-in_err-take_tokens c =
    let is = ap refusal_in c.in_err-take_tokens.was in
    let same = handed_number _ _ _ c.from_residual.ensures.1 (sym is) in
    rw same (takes-stop _ c.take_tokens.ensures (λ z. some_number _ (sym is ∙ z)))

pub returns-then-session-eq0 : goal.returns-then-session-eq0
returns-then-session-eq0 c =
    let z = ap refusal_in c.in_ok-take_tokens.was in
    takes-on _ c.take_tokens.ensures z (record {
      kept = kept_same c.take_tokens.new.session;
      taking = elim c.then-session-eq0.branch [
        | then-session-eq0-via-then-session-eq0 w ↦ end-rootless _ _ _ w.if-session-eq0.true
        | then-session-eq0-via-else-session-eq0+then-depth-gt0 w ↦ end-open _ _ _ (λ n. omega (arith, w.if-depth-gt0.true, w.depth.ensures, n))
      ];
    })

pub returns : goal.returns
returns c =
    let z = ap refusal_in c.in_ok-take_tokens.was in
    takes-on _ c.take_tokens.ensures z
    (record { kept = kept_same c.take_tokens.new.session; taking = end-well _ _ _ c.if-session-eq0.false (omega (arith, c.if-depth-gt0.false, c.depth.ensures)) })
