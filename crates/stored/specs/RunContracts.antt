-- The contracts of the calls on a run, of any automaton, run and counters: the answer, and what run and counters are at exit. A refusal is
-- the first number of the call's order whose condition holds, and leaves all as before.
use Rattle.std.specs.Prelude.{ℕ, ◌≡◌, cond, Result, List, eqb}
use Rattle.text.specs.Names.{Name}
use Rattle.text.specs.declared.refusals.Refusal.{Refusal}
use Rattle.text.specs.Answers.{said, says}
use Rattle.stored.specs.RunCalls.{start_refusal, start_run, no_counters, open_refusal, open_run, open_walk, open_counters, close_refusal, close_run, close_counters}
use Rattle.stored.specs.declared.counters.Counters.{Counters}

pub record Starts (a run : List ℕ) (c : Counters) (answer : ℕ) (run' : List ℕ) (c' : Counters) : Type 0 where
  pub answers : answer ≡ start_refusal a run
  pub run_after : run' ≡ cond (eqb (start_refusal a run) 0) (start_run a run) run
  pub counters_after : c' ≡ cond (eqb (start_refusal a run) 0) no_counters c

pub record Opens (a run : List ℕ) (c : Counters) (e : Name) (answer : Result ℕ Refusal) (run' : List ℕ) (c' : Counters) : Type 0 where
  -- the refusal's number, or this open's failure moves
  pub answers : says answer ≡ said (open_refusal a run c e) (open_walk a run e).moves
  pub run_after : run' ≡ cond (eqb (open_refusal a run c e) 0) (open_run a run e) run
  pub counters_after : c' ≡ cond (eqb (open_refusal a run c e) 0) (open_counters a run c e) c

pub record Closes (a run : List ℕ) (c : Counters) (e : Name) (answer : ℕ) (run' : List ℕ) (c' : Counters) : Type 0 where
  pub answers : answer ≡ close_refusal a run c e
  pub run_after : run' ≡ cond (eqb (close_refusal a run c e) 0) (close_run run) run
  pub counters_after : c' ≡ cond (eqb (close_refusal a run c e) 0) (close_counters c) c
