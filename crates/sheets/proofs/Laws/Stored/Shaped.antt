-- Of an automaton of the right shape and any run: 128 rows at most, each with a number of four digits at most, and so a sheet's size.
use Prim.Native.Nat.{ℕ, ◌≤◌}
use native.Mathlib.Omega.{arith}
use mathlib.Core.Path.{◌≡◌}
use mathlib.Core.Bool.{true}
use mathlib.Core.Logic.{inl, inr}
use mathlib.Core.List.Memᴰ
use mathlib.Core.List.{List, [], ◌∷◌, map, Memᴰ}
use lib.ListN.{length, length-map}
use Rattle.notation.specs.Limits.{max_number, max_paths}
use Rattle.stored.specs.Shape.{automaton_shaped}
use Rattle.stored.specs.HeldSet.{folders_held}
use Rattle.sheets.specs.Limits.{sheet_size}
use Rattle.sheets.specs.Sheet.{Row}
use Rattle.sheets.specs.SheetIn.{matched_places, place_row, rows_in, sheet_in}
use Rattle.sheets.proofs.Laws.Page.Aligned.{number_of_row}
use Rattle.sheets.proofs.Laws.Page.Lines.{sheet-most}
use Rattle.sheets.proofs.Laws.Stored.Tables.{matched-few, among-most}

module _ (a run : List ℕ) where
  pub rows_few : length (rows_in a run) ≤ max_paths
  unfolding rows_in
  rows_few = omega (arith, length-map (matched_places a run) (place_row a), matched-few a run 0 max_paths)

  module _ (h : automaton_shaped a ≡ true) where
    small-in : (places : List ℕ) (r : Row) → Memᴰ r (map (place_row a) places) → number_of_row r ≤ max_number
    small-in [] r m = absurd (Memᴰ.not-nil m)
    small-in (p ∷ places) r m =
        elim (Memᴰ.cases_cons m) [ inl e ↦ rw e (among-most a h p (folders_held a)) | inr n ↦ small-in places r n ]

    pub rows-small : (r : Row) → Memᴰ r (rows_in a run) → number_of_row r ≤ max_number
    unfolding rows_in
    rows-small r m = small-in (matched_places a run) r m

    pub sheet-fits : length (sheet_in a run) ≤ sheet_size
    unfolding sheet_in
    sheet-fits = sheet-most (rows_in a run) rows-small rows_few
