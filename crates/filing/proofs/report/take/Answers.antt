-- `report::take`: each kind of token by what its calls say.
use mathlib.Core.Path.{refl, sym, ◌∙◌, ap}
use mathlib.Core.Logic.{⊎_elim}
use Rattle.filing.specs.Filing.{filed}
use Rattle.filing.specs.Code.Taking.{left_in}
use Rattle.text.specs.Answers.{refusal_in}
use Rattle.text.proofs.Laws.Numbers.{some_number}
use Rattle.text.proofs.Laws.Results.{handed_number}
use Rattle.filing.proofs.Laws.Filing.Taking.{text-blank, text-outside, text-inside}
use Rattle.filing.proofs.Laws.Filing.Sessions.{kept_same, takes_here, closed, takes-stop, takes-on}
use Rattle.filing.proofs.report.take.Goals as goal

pub returns-in-End : goal.returns-in-End
returns-in-End c = rw (c.in-End.is, sym c.name_at-in-End.ensures) (closed c.args.session.now _ _ _ c.close.ensures.closes c.close.ensures.kept)

pub returns-in_err-open_tag-in-Empty : goal.returns-in_err-open_tag-in-Empty
returns-in_err-open_tag-in-Empty c =
    let is = ap refusal_in c.in_err-open_tag-in-Empty.was in
    let same = handed_number _ _ _ c.from_residual.ensures.1 (sym is) in
    rw (c.in-Empty.is, sym c.name_at-e.ensures, same) (takes-stop _ c.open_tag-in-Empty.ensures (λ z. some_number _ (sym is ∙ z)))

pub returns-in_ok-open_tag-in-Empty : goal.returns-in_ok-open_tag-in-Empty
returns-in_ok-open_tag-in-Empty c =
    let z = ap refusal_in c.in_ok-open_tag-in-Empty.was in
    rw (c.in-Empty.is, sym c.name_at-e.ensures)
    (takes-on _ c.open_tag-in-Empty.ensures z (closed _ _ _ _ c.close-in-Empty.ensures.closes c.close-in-Empty.ensures.kept))

pub returns-then-depth-eq0 : goal.returns-then-depth-eq0
returns-then-depth-eq0 c =
    let s = c.args.session.now in
    rw c.in-Text.is (record { kept = kept_same s; taking = text-outside s.a.now s.run.now s.counters.now (sym c.depth.ensures ∙ c.if-depth-eq0.true) })

pub returns-else-depth-eq0 : goal.returns-else-depth-eq0
returns-else-depth-eq0 c =
    let s = c.args.session.now in
    rw c.in-Text.is (record { kept = kept_same s; taking = text-inside s.a.now s.run.now s.counters.now (λ z. c.if-depth-eq0.false (c.depth.ensures ∙ z)) })

pub returns-in-Blank : goal.returns-in-Blank
returns-in-Blank c =
    let s = c.args.session.now in
    let nothing = takes_here s (filed (left_in s)) 0 (refl, refl) in
    ⊎_elim (λ e. rw e (record { kept = kept_same s; taking = text-blank s.a.now s.run.now s.counters.now })) (⊎_elim (λ e. rw e nothing) (λ e. rw e nothing)) c.in-Blank.is
