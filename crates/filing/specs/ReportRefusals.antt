-- What filing a report answers and leaves, with any automaton, run and counters, by what is stored. Every report
-- has exactly one outcome.
use Rattle.std.specs.Prelude.{ℕ, ◌≡◌, Bool, true, ◌||◌, cond, List, map, eqb}
use Rattle.text.specs.declared.refusals.Refusal.{Refusal}
use Rattle.text.specs.declared.refusals.Refusal.TheVariants.{ShortBuffer, BadShape}
use Rattle.text.specs.Refusals.{number_of}
use Rattle.text.specs.Order.{Condition, gives}
use Rattle.stored.specs.RunCalls.{depth_of, start_conditions, open_others, open_run, open_counters, close_others, close_run, close_counters}
use Rattle.stored.specs.Demand3.{Left, started}
use Rattle.stored.specs.declared.counters.Counters.{Counters}
use Rattle.filing.specs.Filing.{Outcome, refused, filed, number_given, Machine, Reason, reason, OutcomeOf}

-- run and counters under calls with an automaton
abbrev pub stored_machine : List ℕ → Machine Left
stored_machine a = record {
  open_order = λ t n. open_others t.bytes t.counters n;
  close_order = λ t n. close_others t.bytes n;
  opened = λ t n. record { bytes = open_run a t.bytes n; counters = open_counters a t.bytes t.counters n };
  closed = λ t. record { bytes = close_run t.bytes; counters = close_counters t.counters };
  nothing_open = λ t. eqb (depth_of t.bytes) 0;
  no_root = λ t. eqb t.counters.opens 0;
}

abbrev pub tested : Condition → Reason
tested (gives b r) = reason (b ≡ true) r

-- from a fresh run on; 1 and 14 (automaton only) come first
abbrev pub ReportGives : List ℕ → List ℕ → List ℕ → Outcome Left → Type 0
ReportGives a run report = OutcomeOf (stored_machine a) (started a run) (map tested (start_conditions a run)) report

-- 1 and 14 are of what is lent: such a refusal leaves all as it was; any other leaves a fresh run
abbrev pub of_lent : Refusal → Bool
of_lent r = eqb (number_of r) (number_of ShortBuffer) || eqb (number_of r) (number_of BadShape)

abbrev pub left_by : List ℕ → List ℕ → Counters → Outcome Left → Left
left_by a run c (refused r) = cond (of_lent r) (record { bytes = run; counters = c }) (started a run)
left_by a run c (filed t) = t

-- the contract: the report's outcome, what is answered by it, and what run and counters are at exit
pub record Files (a run : List ℕ) (c : Counters) (report : List ℕ) (answer : ℕ) (run' : List ℕ) (c' : Counters) : Type 0 where
  pub outcome : Outcome Left
  pub given : ReportGives a run report outcome
  pub answers : answer ≡ number_given outcome
  pub run_after : run' ≡ (left_by a run c outcome).bytes
  pub counters_after : c' ≡ (left_by a run c outcome).counters
