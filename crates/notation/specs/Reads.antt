-- What the reading calls answer of a part that keeps a read set (Layout). Any bytes are answered, by what is stored.
use Rattle.std.specs.Prelude.{ℕ, zero, suc, ◌+◌, ◌-◌, ◌*◌, ◌/◌, ◌%◌, min, max, Bool, true, false, ◌&&◌, cond, Option, Some, None, List, [], ◌∷◌, leb, ltb, eqb, length, get_or, take, drop}
use Rattle.notation.specs.Limits.{max_set_bytes, max_paths, max_steps, max_labels}
use Rattle.notation.specs.Sets.{Axis, child, descendant, Test, label, star, Step, axis_of, test_of, folder, FolderSet}
use Rattle.notation.specs.Layout.{folder_first_in, folder_size, path_steps_in, path_begin_in, path_length_in, path_size, label_length_in, label_step_in, label_size, text_len_at, folder_count_at, path_count_at, step_count_at, label_count_at, text_at, folders_at, paths_at, steps_at, labels_at, set_size, star_kind}
use Rattle.notation.specs.declared.FolderNumber.{FolderNumber}
use Rattle.notation.specs.declared.PathPlace.{PathPlace}
use Rattle.notation.specs.declared.reads.StoredFolder.{StoredFolder}
use Rattle.notation.specs.declared.reads.StoredPath.{StoredPath}
use Rattle.notation.specs.declared.reads.StoredStep.{StoredStep}
use Rattle.notation.specs.declared.reads.StoredLabel.{StoredLabel}

-- a number of two bytes, the lower first; a byte past the end reads as 0
unfoldable pub word16 : List ℕ → ℕ → ℕ
word16 part at = get_or part at 0 + 256 * get_or part (at + 1) 0

-- the counts as stored
abbrev pub text_len : List ℕ → ℕ
text_len part = word16 part text_len_at

abbrev pub folder_count : List ℕ → ℕ
folder_count part = word16 part folder_count_at

abbrev pub path_count : List ℕ → ℕ
path_count part = word16 part path_count_at

abbrev pub step_count : List ℕ → ℕ
step_count part = word16 part step_count_at

abbrev pub label_count : List ℕ → ℕ
label_count part = word16 part label_count_at

-- the part is whole, and i is below the stored count and below the table's capacity
unfoldable pub present : List ℕ → ℕ → ℕ → ℕ → Bool
present part count capacity i = leb set_size (length part) && (ltb i count && ltb i capacity)

-- where an entry stands
abbrev pub folder_entry_at : ℕ → ℕ
folder_entry_at i = folders_at + folder_size * i

abbrev pub path_entry_at : ℕ → ℕ
path_entry_at i = paths_at + path_size * i

abbrev pub label_entry_at : ℕ → ℕ
label_entry_at i = labels_at + label_size * i

-- the number of folder i, and the place of its first path
abbrev pub stored_number : List ℕ → ℕ → ℕ
stored_number part i = word16 part (folder_entry_at i)

abbrev pub stored_first : List ℕ → ℕ → ℕ
stored_first part i = word16 part (folder_entry_at i + folder_first_in)

abbrev pub folder_there : List ℕ → ℕ → Bool
folder_there part i = present part (folder_count part) max_paths i

-- a folder's paths end where the next folder's begin, and those of the last folder with all paths
unfoldable pub paths_end : List ℕ → ℕ → ℕ
paths_end part i = cond (folder_there part (i + 1)) (stored_first part (i + 1)) (path_count part)

unfoldable pub folder_at : List ℕ → ℕ → Option StoredFolder
folder_at part i = cond (folder_there part i) (Some (record {
  number = record { 0 = stored_number part i };
  first = record { 0 = stored_first part i };
  paths = paths_end part i - stored_first part i;
})) None

-- of path i: its first step, its count of steps, where its text begins, how long that is
abbrev pub path_first : List ℕ → ℕ → ℕ
path_first part i = word16 part (path_entry_at i)

abbrev pub path_steps : List ℕ → ℕ → ℕ
path_steps part i = word16 part (path_entry_at i + path_steps_in)

abbrev pub path_begin : List ℕ → ℕ → ℕ
path_begin part i = word16 part (path_entry_at i + path_begin_in)

abbrev pub path_length : List ℕ → ℕ → ℕ
path_length part i = word16 part (path_entry_at i + path_length_in)

unfoldable pub path_at : List ℕ → PathPlace → Option StoredPath
path_at part place =
    let i = place.0 in
    cond (present part (path_count part) max_paths i)
    (Some (record { first = path_first part i; steps = path_steps part i; at = path_begin part i; size = path_length part i }))
    None

-- what a step's entry says of its axis and its test
abbrev pub is_descendant : Axis → Bool
is_descendant child = false
is_descendant descendant = true

abbrev pub is_star : Test → Bool
is_star (label n) = false
is_star star = true

abbrev pub stored_step : Step → StoredStep
stored_step x = record { descendant = is_descendant (axis_of x); star = is_star (test_of x) }

-- the lowest bit is 1 for `//`, the next for `*`
abbrev pub kind_of : StoredStep → ℕ
kind_of x = cond x.descendant 1 0 + star_kind * cond x.star 1 0

abbrev pub step_of : ℕ → StoredStep
step_of kind = record { descendant = eqb (kind % 2) 1; star = eqb (kind / star_kind % 2) 1 }

unfoldable pub step_at : List ℕ → ℕ → Option StoredStep
step_at part i =
    cond (present part (step_count part) (max_paths * max_steps) i) (Some (step_of (get_or part (steps_at + i) 0))) None

-- of label i: where in the text it begins, how long it is, and its step
abbrev pub label_begin : List ℕ → ℕ → ℕ
label_begin part i = word16 part (label_entry_at i)

abbrev pub label_length : List ℕ → ℕ → ℕ
label_length part i = word16 part (label_entry_at i + label_length_in)

abbrev pub label_step : List ℕ → ℕ → ℕ
label_step part i = word16 part (label_entry_at i + label_step_in)

unfoldable pub label_at : List ℕ → ℕ → Option StoredLabel
label_at part i =
    cond (present part (label_count part) max_labels i)
    (Some (record { at = label_begin part i; size = label_length part i; step = label_step part i }))
    None

-- the largest number of an answer; each is a number of two bytes
abbrev pub folder_top : Option StoredFolder → ℕ
folder_top (Some f) = max f.number.0 (max f.first.0 f.paths)
folder_top None = 0

abbrev pub path_top : Option StoredPath → ℕ
path_top (Some p) = max (max p.first p.steps) (max p.at p.size)
path_top None = 0

abbrev pub label_top : Option StoredLabel → ℕ
label_top (Some l) = max (max l.at l.size) l.step
label_top None = 0

-- bytes of the text, empty where they do not lie within the text's room
unfoldable pub text_slice : List ℕ → ℕ → ℕ → List ℕ
text_slice part at size =
    cond (leb set_size (length part) && leb (at + size) max_set_bytes) (take size (drop (text_at + at) part)) []

-- the set's text
abbrev pub text_of : List ℕ → List ℕ
text_of part = text_slice part 0 (text_len part)

abbrev pub path_slice : List ℕ → Option StoredPath → List ℕ
path_slice part (Some p) = text_slice part p.at p.size
path_slice part None = []

-- the text of a path
abbrev pub path_text : List ℕ → PathPlace → List ℕ
path_text part place = path_slice part (path_at part place)

abbrev pub label_slice : List ℕ → Option StoredLabel → List ℕ
label_slice part (Some l) = text_slice part l.at l.size
label_slice part None = []

-- the bytes of a label
abbrev pub label_name : List ℕ → ℕ → List ℕ
label_name part i = label_slice part (label_at part i)

-- the first of `left` folders from i on that has this number
unfoldable pub search_folder : List ℕ → ℕ → ℕ → ℕ → Option ℕ
search_folder part number i zero = None
search_folder part number i (suc left) =
    cond (eqb (stored_number part i) number) (Some i) (search_folder part number (suc i) left)

-- the folder of a number
unfoldable pub folder_of : List ℕ → FolderNumber → Option ℕ
folder_of part number =
    cond (leb set_size (length part)) (search_folder part number.0 0 (min (folder_count part) max_paths)) None

-- the folder of a number in a set: the first that has it; k folders stand before these
unfoldable pub folder_index : ℕ → ℕ → FolderSet → Option ℕ
folder_index number k [] = None
folder_index number k (folder n ps ∷ fs) = cond (eqb n number) (Some k) (folder_index number (suc k) fs)
