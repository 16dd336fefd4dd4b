-- What the calls on a run in use keep.
use Rattle.std.specs.Prelude.{◌≡◌}
use Rattle.machine.specs.declared.run.session.Session.{Session}

-- automaton, run and counters are the same that were lent
pub record Kept (s t : Session) : Type 0 where
  pub automaton : t.a ≡ s.a
  pub run : t.run.ghost_name ≡ s.run.ghost_name
  pub counters : t.counters.ghost_name ≡ s.counters.ghost_name
