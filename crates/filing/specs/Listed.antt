-- What the calls that write a listing promise, of any automaton, run and counters, by what is stored.
use Rattle.std.specs.Prelude.{Result}
use Rattle.text.specs.declared.refusals.Refusal.{Refusal}
use Rattle.std.specs.Prelude.{ℕ, max, not, ◌||◌, cond, List, [], ◌∷◌, ◌++◌, map, ltb, length, Option, Some, None}
use Rattle.text.specs.Bytes.{joined}
use Rattle.text.specs.Decimal.{decimal}
use Rattle.notation.specs.Print.{folder_word, footer}
use Rattle.text.specs.declared.refusals.Refusal.TheVariants.{ShortBuffer, BadShape}
use Rattle.text.specs.Written.{TextWritten}
use Rattle.notation.specs.declared.reads.StoredFolder.{StoredFolder}
use Rattle.model.specs.Folders.{count_from}
use Rattle.text.specs.Order.{Condition, gives, given}
use Rattle.stored.specs.RunCalls.{shaped, too_short}
use Rattle.stored.specs.HeldSet.{folders_held, folder_held, path_held}
use Rattle.stored.specs.Asking.{place_matched, any_matched, paths_of_folder}
use Rattle.stored.specs.declared.counters.Counters.{Counters}
use Rattle.filing.specs.Limits.{listing_size}
use Rattle.filing.specs.Listing.{filed_header, moves_line, refused_line}

-- a path in brackets, after a space
unfoldable pub path_listed : List ℕ → ℕ → List ℕ
path_listed a place = (32 ∷ 40 ∷ []) ++ (path_held a (record { 0 = place }) ++ (41 ∷ []))

abbrev pub if_matched : List ℕ → List ℕ → ℕ → List ℕ
if_matched a run place = cond (place_matched a run (record { 0 = place })) (path_listed a place) []

-- those of these places that are matched
abbrev pub paths_listed : List ℕ → List ℕ → List ℕ → List ℕ
paths_listed a run places = joined (map (if_matched a run) places)

-- a folder's line
unfoldable pub line_listed : List ℕ → List ℕ → ℕ → List ℕ → List ℕ
line_listed a run number places = folder_word ++ (decimal number ++ (paths_listed a run places ++ footer))

abbrev pub line_at : List ℕ → List ℕ → Option StoredFolder → List ℕ
line_at a run (Some f) = line_listed a run f.number.0 (count_from f.first.0 f.paths)
line_at a run None = []

-- none where no path is matched
unfoldable pub folder_listed : List ℕ → List ℕ → ℕ → List ℕ
folder_listed a run i = cond (any_matched a run (paths_of_folder (folder_held a i))) (line_at a run (folder_held a i)) []

abbrev pub folders_listed : List ℕ → List ℕ → List ℕ → List ℕ
folders_listed a run is = joined (map (folder_listed a run) is)

unfoldable pub listing_in : List ℕ → List ℕ → Counters → List ℕ
listing_in a run c =
    filed_header ++ (folders_listed a run (count_from 0 (folders_held a)) ++ (moves_line c.opens c.moves ++ footer))

-- bytes that a listing needs: those that suffice for every built set; of an automaton of the right shape that was made otherwise, what is stored
-- makes if it is longer
unfoldable pub listing_room : List ℕ → List ℕ → Counters → ℕ
listing_room a run c = cond (shaped a run c) (max listing_size (length (listing_in a run c))) listing_size

-- 1 and 14 (automaton, run and counters)
abbrev pub listing_conditions : List ℕ → List ℕ → Counters → List ℕ → List Condition
listing_conditions a run c out =
    gives (too_short a run || ltb (length out) (listing_room a run c)) ShortBuffer ∷ gives (not (shaped a run c)) BadShape ∷ []

abbrev pub listing_refusal : List ℕ → List ℕ → Counters → List ℕ → ℕ
listing_refusal a run c out = given (listing_conditions a run c out)

abbrev pub ListingWritten : List ℕ → List ℕ → Counters → List ℕ → Result ℕ Refusal → List ℕ → Type 0
ListingWritten a run c before answer after = TextWritten (listing_conditions a run c before) (listing_in a run c) before answer after

-- the line of a refusal: 1 for a short buffer
abbrev pub refused_conditions : List ℕ → List Condition
refused_conditions out = gives (ltb (length out) listing_size) ShortBuffer ∷ []

abbrev pub RefusedWritten : ℕ → List ℕ → Result ℕ Refusal → List ℕ → Type 0
RefusedWritten n before answer after = TextWritten (refused_conditions before) (refused_line n) before answer after
