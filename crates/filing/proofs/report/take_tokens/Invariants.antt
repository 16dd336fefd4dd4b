use Prim.Native.Nat.{◌-◌, ◌≤◌}
use mathlib.Core.Path.{◌≡◌}
use lib.ListN.{length}
use Rattle.text.specs.Answers.{refusal_in}
use Rattle.stored.specs.RunCalls.{start_run}
use Rattle.machine.specs.Session.{Kept}
use Rattle.documents.specs.Reading.{read_report}
use Rattle.filing.specs.Filing.{filed}
use Rattle.filing.specs.Code.Taking.{left_in, run_from}
use Rattle.filing.proofs.Laws.Filing.Taking.{Turn}
use Rattle.filing.proofs.report.take_tokens.Given as goal

-- the tokens from here make of what was taken what all tokens make of the run as it was
abbrev pub invariant-loop-at : goal.invariant-loop-at
invariant-loop-at l = let was = l.initial.session in record {
  within : l.at ≤ length l.s;
  kept : Kept was l.session;
  restarts : start_run was.a.now l.session.run.now ≡ start_run was.a.now was.run.now;
  turn : Turn was.a.now l.s l.at (refusal_in l.taken) l.session.run.now l.session.counters.now (run_from was.a.now (filed (left_in was)) (read_report l.s));
}

abbrev pub decreases-loop-at : goal.decreases-loop-at
decreases-loop-at l = length l.s - l.at
