-- `report::file_report`: a refused start leaves all; 2 and 8 come before the tokens; a report refused at its tokens is followed by a fresh run.
use native.Mathlib.Omega.{arith}
use mathlib.Core.Path.{◌≡◌, sym, ◌∙◌, ap}
use Rattle.std.specs.Prelude.{ℕ, List}
use Rattle.std.specs.Borrow.{Bor}
use Rattle.text.specs.Answers.{refusal_in}
use Rattle.text.specs.declared.refusals.Refusal.TheVariants.{TooLarge, InvalidByte}
use Rattle.text.proofs.Laws.Numbers.{some_number}
use Rattle.text.proofs.Laws.Results.{handed_number}
use Rattle.documents.specs.Limits.{max_report_bytes}
use Rattle.filing.proofs.Laws.Filing.Taking.{err_number, ok_number, filed-refused, fresh-run, filed-done, filed-fresh, filed-early, report-long, report-foreign, report-taken}
use Rattle.filing.proofs.Laws.Filing.Sessions.{kept-on}
use Rattle.filing.proofs.report.file_report.Goals as goal

then_same : {A : Type 0} {x y z : A} → y ≡ z → x ≡ y → x ≡ z
then_same e f = f ∙ e

pub returns-in_err-start : goal.returns-in_err-start
returns-in_err-start c =
    let is = ap refusal_in c.in_err-start.was in
    rw (handed_number _ _ _ c.from_residual.ensures.1 (sym is)) (filed-refused _ _ _ _ _ _ c.start.ensures _ (λ z. some_number _ (sym is ∙ z)))

pub returns-then-report-gt-MAX_REPORT : goal.returns-then-report-gt-MAX_REPORT
unfolding max_report_bytes
returns-then-report-gt-MAX_REPORT c = filed-early _ _ _ _ _ _ c.start.ensures (ap refusal_in c.in_ok-start.was) _ TooLarge (report-long _ _ _ c.if-report-gt-MAX_REPORT.true)

pub returns-then-not-all_listed : goal.returns-then-not-all_listed
unfolding max_report_bytes
returns-then-not-all_listed c =
    filed-early _ _ _ _ _ _ c.start.ensures (ap refusal_in c.in_ok-start.was) _ InvalidByte
    (report-foreign _ _ _ c.if-report-gt-MAX_REPORT.false (sym c.all_listed.ensures ∙ c.if-not-all_listed.true))

pub invariant_of-session : goal.invariant_of-session
invariant_of-session c = record { usable = fresh-run _ _ _ _ _ _ c.start.ensures (ap refusal_in c.in_ok-start.was) }

pub take_report-filed-requires : goal.take_report-filed-requires
unfolding max_report_bytes
take_report-filed-requires c = c.if-report-gt-MAX_REPORT.false

pub returns-then-is_err : goal.returns-then-is_err
unfolding max_report_bytes
returns-then-is_err c =
    let f = c.take_report-filed.ensures in
    let r = c.restart.ensures in
    let k = kept-on f.kept r.kept in
    let run = k.run in
    let counters = k.counters in
    let taking = report-taken _ _ _ c.if-report-gt-MAX_REPORT.false (sym c.all_listed.ensures ∙ c.if-not-all_listed.false) f.taking in
    let refused = err_number _ (sym c.is_err.ensures.value ∙ c.if-is_err.true) in
    let again = rw (ap (λ (b : Bor (List ℕ)). b.now) f.kept.automaton) at r.run in
    filed-fresh _ _ _ _ _ _ c.start.ensures (ap refusal_in c.in_ok-start.was) _ _ _ _ taking refused _ _ (then_same again (grind (arith, run))) (then_same r.counters (grind (arith, counters)))

pub returns-else-is_err : goal.returns-else-is_err
unfolding max_report_bytes
returns-else-is_err c =
    let f = c.take_report-filed.ensures in
    let run = f.kept.run in
    let counters = f.kept.counters in
    let taking = report-taken _ _ _ c.if-report-gt-MAX_REPORT.false (sym c.all_listed.ensures ∙ c.if-not-all_listed.false) f.taking in
    filed-done _ _ _ _ _ _ c.start.ensures (ap refusal_in c.in_ok-start.was) _ _ _ _ taking (ok_number _ (sym c.is_err.ensures.value ∙ c.if-is_err.false)) _ _ (grind (arith, run)) (grind (arith, counters))
