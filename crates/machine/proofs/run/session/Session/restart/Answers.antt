-- `start::Session::restart`: what is in use may be started.
use Rattle.std.proofs.Common.{◌≡◌, arith, ℕ, List, length}
use borrow.Author.Tests.{le-ltb}
use Rattle.text.specs.Order.{first, given}
use Rattle.stored.specs.Automaton.{automaton_size}
use Rattle.stored.specs.Run.{run_size}
use Rattle.stored.specs.RunCalls.{start_refusal}
use Rattle.stored.specs.Usable.{Usable}
use Rattle.stored.specs.declared.counters.Counters.{Counters}
use Rattle.stored.proofs.Laws.Shapes.Kept.{start-usable}
use Rattle.machine.proofs.Written.{usable_same}
use Rattle.machine.proofs.run.session.Session.restart.Goals as goal

may-start : (a run : List ℕ) (c : Counters) → Usable a run c → start_refusal a run ≡ 0
unfolding start_refusal given first
may-start a run c u = rw (le-ltb (length a) automaton_size u.ready.size, le-ltb (length run) run_size u.ready.run_length, u.ready.shaped)

pub start_on-requires : goal.start_on-requires
start_on-requires c = c.args.self.now.usable.ready.run_length

pub invariant_of-self : goal.invariant_of-self
invariant_of-self c =
    let s = c.args.self.now in
    let run = c.start_on.ensures in
    record { usable = usable_same (start-usable s.a.now s.run.now (may-start s.a.now s.run.now s.counters.now s.usable)) (grind (arith, run)) c.none.ensures }
