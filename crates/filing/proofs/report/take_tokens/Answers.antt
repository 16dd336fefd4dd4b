-- The loop's invariant: the tokens from here make of what was taken what all tokens make of the run as it was.
use Prim.Native.Nat.{◌<◌, ◌≤◌}
use native.Mathlib.Omega.{arith}
use mathlib.Core.Path.{refl, sym, ◌∙◌, ap}
use lib.ListN.{length}
use Rattle.text.specs.Refusals.{number_of}
use Rattle.text.proofs.Laws.Results.{handed_number}
use Rattle.filing.specs.Filing.{filed}
use Rattle.filing.proofs.Laws.Filing.Named.{named_in, name-cut}
use Rattle.filing.proofs.Laws.Filing.Taking.{missing, there_is, taken-end, turn-none, turn-late, turn-past, turn-taken}
use Rattle.filing.specs.Code.Taking.{left_in}
use Rattle.filing.proofs.Laws.Filing.Sessions.{kept_same, kept-on}
use Rattle.std.specs.Prelude.{ℕ, List}
use Rattle.std.specs.Borrow.{Bor}
use Rattle.filing.proofs.report.take_tokens.Goals as goal
use Rattle.filing.proofs.report.take_tokens.Goals.{After-take_next-taken}

pub loop-at-init : goal.loop-at-init
loop-at-init c =
    let s = c.args.session.now in
    record {
      within = omega arith;
      kept = kept_same s;
      restarts = refl;
      turn = record { outcome = filed (left_in s); answered = (refl, refl); same = refl };
    }

pub returns-in_err-found : goal.returns-in_err-found
returns-in_err-found c =
    let i = c.loop-at.invariant in
    let (none, same) = missing c.token_at.result _ _ (sym c.ok_or.ensures.value ∙ c.in_err-found.was) in
    let end = turn-none _ _ c.requires _ c.loop-at-test.true _ _ _ _ i.turn (sym c.token_at.ensures ∙ none) in
    rw (end, handed_number _ _ _ c.from_residual.ensures.1 (ap number_of (sym same))) (record { kept = i.kept; taking = record { answered = refl; restarts = i.restarts } })

pub returns-then-is_late : goal.returns-then-is_late
returns-then-is_late c =
    let i = c.loop-at.invariant in
    let is = sym c.token_at.ensures ∙ there_is c.token_at.result _ _ (sym c.ok_or.ensures.value ∙ c.in_ok-found.was) in
    let late = turn-late _ _ c.requires _ c.loop-at-test.true _ _ _ _ i.turn _ is (sym c.is_late.ensures ∙ c.if-is_late.true) in
    rw late (record { kept = i.kept; taking = record { answered = refl; restarts = i.restarts } })

pub take_next-taken-requires : goal.take_next-taken-requires
take_next-taken-requires c =
    let is = sym c.token_at.ensures ∙ there_is c.token_at.result _ _ (sym c.ok_or.ensures.value ∙ c.in_ok-found.was) in
    named_in c.args.s.now c.loop-at.at c.in_ok-found.found is

past : (c : After-take_next-taken) → (c.loop-at.at < c.in_ok-found.found.end) × (c.in_ok-found.found.end ≤ length c.args.s.now)
past c =
    let is = sym c.token_at.ensures ∙ there_is c.token_at.result _ _ (sym c.ok_or.ensures.value ∙ c.in_ok-found.was) in
    turn-past _ _ c.requires _ c.loop-at-test.true _ _ _ _ c.loop-at.invariant.turn _ is (sym c.is_late.ensures ∙ c.if-is_late.false)

pub loop-at-smaller : goal.loop-at-smaller
loop-at-smaller c =
    let p = past (goal.at.loop-at-smaller c).After-take_next-taken in
    omega (arith, p.0, p.1)

pub loop-at-preserved : goal.loop-at-preserved
loop-at-preserved c =
    let i = c.loop-at.invariant in
    let is = sym c.token_at.ensures ∙ there_is c.token_at.result _ _ (sym c.ok_or.ensures.value ∙ c.in_ok-found.was) in
    let cut = name-cut c.args.s.now c.loop-at.at c.in_ok-found.found is in
    let same = ap (λ (b : Bor (List ℕ)). b.now) i.kept.automaton in
    let takes = rw cut.part at (c.take_next-taken.ensures i.turn.outcome i.turn.answered) in
    let taken = rw same at takes.taking in
    record {
      within = (past (goal.at.loop-at-preserved c).After-take_next-taken).1;
      kept = kept-on i.kept takes.kept;
      restarts = taken.restarts ∙ i.restarts;
      turn = turn-taken _ _ c.requires _ c.loop-at-test.true _ _ _ _ i.turn _ is (sym c.is_late.ensures ∙ c.if-is_late.false) _ _ _ taken;
    }

pub returns : goal.returns
returns c =
    let i = c.loop-at.invariant in
    record { kept = i.kept; taking = record { answered = rw (sym i.turn.same ∙ taken-end _ _ _ _ c.loop-at-test.false) i.turn.answered; restarts = i.restarts } }
