-- The class sheet of any automaton and run, by what is stored, and what the call that writes it promises. Rows go by path place: each matched
-- place once, with the number of the last folder whose first path is not after it.
use Rattle.std.specs.Prelude.{Result}
use Rattle.text.specs.declared.refusals.Refusal.{Refusal}
use Rattle.std.specs.Prelude.{ℕ, zero, suc, not, ◌&&◌, ◌||◌, cond, List, [], ◌∷◌, map, leb, ltb, length, Option, Some, None}
use Rattle.text.specs.Bytes.{joined}
use Rattle.text.specs.declared.refusals.Refusal.TheVariants.{ShortBuffer, BadShape}
use Rattle.text.specs.Order.{Condition, gives}
use Rattle.text.specs.Written.{TextWritten}
use Rattle.notation.specs.Limits.{max_paths}
use Rattle.notation.specs.declared.reads.StoredFolder.{StoredFolder}
use Rattle.model.specs.Folders.{count_from}
use Rattle.stored.specs.Shape.{automaton_shaped}
use Rattle.stored.specs.RunCalls.{run_shaped, too_short}
use Rattle.stored.specs.HeldSet.{folders_held, folder_held, path_held}
use Rattle.stored.specs.Asking.{place_matched}
use Rattle.sheets.specs.Limits.{sheet_size}
use Rattle.sheets.specs.Sheet.{Row, row, sheet}

-- the place, if its path is matched
abbrev pub if_place_matched : List ℕ → List ℕ → ℕ → List ℕ
if_place_matched a run place = cond (place_matched a run (record { 0 = place })) (place ∷ []) []

-- those of so many places that are matched, in order
abbrev pub matched_from : List ℕ → List ℕ → ℕ → ℕ → List ℕ
matched_from a run first count = joined (map (if_place_matched a run) (count_from first count))

-- of all places that there can be
abbrev pub matched_places : List ℕ → List ℕ → List ℕ
matched_places a run = matched_from a run 0 max_paths

-- a folder's number if its first path is not after the place
abbrev pub or_before : Option StoredFolder → ℕ → ℕ → ℕ
or_before (Some f) place before = cond (leb f.first.0 place) f.number.0 before
or_before None place before = before

-- that of the last such among the first n folders, 0 where there is none
unfoldable pub number_among : List ℕ → ℕ → ℕ → ℕ
number_among a place zero = 0
number_among a place (suc n) = or_before (folder_held a n) place (number_among a place n)

abbrev pub place_row : List ℕ → ℕ → Row
place_row a place = row (number_among a place (folders_held a)) (path_held a (record { 0 = place }))

unfoldable pub rows_in : List ℕ → List ℕ → List Row
rows_in a run = map (place_row a) (matched_places a run)

unfoldable pub sheet_in : List ℕ → List ℕ → List ℕ
sheet_in a run = sheet (rows_in a run)

-- 1 (automaton, run or sheet), 14 (automaton and run)
abbrev pub sheet_conditions : List ℕ → List ℕ → List ℕ → List Condition
sheet_conditions a run out =
    gives (too_short a run || ltb (length out) sheet_size) ShortBuffer ∷ gives (not (automaton_shaped a && run_shaped a run)) BadShape ∷ []

-- the sheet is written and its length answered, and bytes past it stay; or it is refused, and nothing is changed
abbrev pub SheetWritten : List ℕ → List ℕ → List ℕ → Result ℕ Refusal → List ℕ → Type 0
SheetWritten a run before answer after = TextWritten (sheet_conditions a run before) (sheet_in a run) before answer after
