-- On the automaton of a set and the run of a machine's state the sheet is that of the state's matches.
use Rattle.std.specs.Prelude.{Result}
use Rattle.text.specs.declared.refusals.Refusal.{Refusal}
use Prim.Native.Nat.{ℕ, ◌≤◌}
use mathlib.Core.Path.{◌≡◌}
use mathlib.Core.Bool.{false}
use mathlib.Core.List.{List, [], ◌++◌}
use lib.Dec.{ltb}
use lib.ListN.{length}
use borrow.Author.Tests.{le-ltb}
use Rattle.text.specs.Order.{first, given}
use Rattle.notation.specs.Sets.{FolderSet}
use Rattle.model.specs.Calls.{State}
use Rattle.model.proofs.Laws.Machine.Moves.{Few}
use Rattle.stored.specs.Run.{run_of}
use Rattle.stored.proofs.Laws.Running.Means.{Means}
use Rattle.stored.proofs.Laws.Shapes.Passing.{run-shaped, long-enough}
use Rattle.filing.specs.Shown.{PrintsText}
use Rattle.filing.proofs.Laws.Listing.Showing.{text-printed}
use Rattle.sheets.specs.Limits.{sheet_size}
use Rattle.sheets.specs.Sheet.{sheet}
use Rattle.sheets.specs.SheetIn.{sheet_conditions, SheetWritten}
use Rattle.sheets.proofs.Laws.Stored.Shaped.{sheet-fits}
use Rattle.sheets.proofs.Laws.Filed.Same.{rows_from, sheet-same}

-- on the automaton of a set and the run of a machine's state nothing is refused
module _ (s : FolderSet) (a : List ℕ) (w : Means s a) (m : State) (few : Few s m []) (rest : List ℕ) (out : List ℕ) (room : sheet_size ≤ length out) where
  pub not-refused : given (sheet_conditions a (run_of s m ++ rest) out) ≡ 0
  unfolding given first
  not-refused =
      let e : ltb (length out) sheet_size ≡ false = le-ltb (length out) sheet_size room in
      rw (long-enough s a w m few rest, e, w.shaped, run-shaped s a w m few rest)

  pub sheet-printed : (answer : Result ℕ Refusal) (after : List ℕ) → SheetWritten a (run_of s m ++ rest) out answer after
      → PrintsText sheet_size (sheet (rows_from m.matched 0 s)) out answer after
  sheet-printed answer after x =
      let same = sheet-same s a w m few rest in
      text-printed (rw same at (sheet-fits a (run_of s m ++ rest) w.shaped)) room (rw same at x) not-refused
