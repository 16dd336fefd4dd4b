-- The refusals of a sheet: 1 for a short sheet, then what is given for automaton and run.
use Prim.Native.Nat.{ℕ, ◌≤◌, ◌<◌}
use mathlib.Core.Path.{◌≡◌}
use mathlib.Core.Bool.{true, false, not, ◌&&◌, ◌||◌}
use mathlib.Core.List.{List}
use lib.Dec.{ltb}
use lib.ListN.{length}
use borrow.Author.Tests.{lt-ltb, le-ltb, ltb-false, not-false}
use Rattle.text.specs.declared.refusals.Refusal.TheVariants.{ShortBuffer, BadShape}
use Rattle.text.specs.Refusals.{number_of}
use Rattle.text.specs.Order.{first, given}
use Rattle.text.proofs.Laws.Order.{not-given}
use Rattle.text.proofs.Laws.Tests.{cases, and_left, or_right, either-right}
use Rattle.stored.specs.Shape.{automaton_shaped}
use Rattle.stored.specs.RunCalls.{run_shaped, too_short}
use Rattle.stored.specs.Asking.{ask_refusal}
use Rattle.sheets.specs.Limits.{sheet_size}
use Rattle.sheets.specs.SheetIn.{sheet_conditions}

module _ (a run out : List ℕ) where
  pub sheet-short : length out < sheet_size → given (sheet_conditions a run out) ≡ number_of ShortBuffer
  unfolding given first
  sheet-short h = rw (either-right (too_short a run) (lt-ltb (length out) sheet_size h))

  pub pair-refused : sheet_size ≤ length out → given (sheet_conditions a run out) ≡ ask_refusal a run true
  unfolding given first ask_refusal
  pair-refused h =
      let e : ltb (length out) sheet_size ≡ false = le-ltb (length out) sheet_size h in
      cases (too_short a run) (λ t. rw t) (λ f. rw (f, e) (cases (automaton_shaped a && run_shaped a run) (λ t. rw t) (λ g. rw g)))

  -- what is not refused has the right shape
  pub shaped-then : given (sheet_conditions a run out) ≡ 0 → automaton_shaped a ≡ true
  shaped-then z =
      let t = not-given (too_short a run || ltb (length out) sheet_size) ShortBuffer _ z in
      and_left (automaton_shaped a) (run_shaped a run) (not-false (automaton_shaped a && run_shaped a run) (not-given (not (automaton_shaped a && run_shaped a run)) BadShape _ t.1).0)

  pub room-then : given (sheet_conditions a run out) ≡ 0 → sheet_size ≤ length out
  room-then z =
      let t = not-given (too_short a run || ltb (length out) sheet_size) ShortBuffer _ z in
      ltb-false (length out) sheet_size (or_right (too_short a run) (ltb (length out) sheet_size) t.0)

pub ruleset refusals = (sheet-short, pair-refused)
