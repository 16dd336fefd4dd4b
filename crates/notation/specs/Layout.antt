-- Where the parts of a read set stand in its buffer, and which bytes they are. Numbers take two bytes, the lower first; spare bytes are 0.
-- The layout is the program's choice; what every choice has in common is that the reading calls (Reads) give the set and its text back.
use Rattle.std.specs.Prelude.{ℕ, suc, ◌+◌, ◌*◌, List, [], ◌∷◌, ◌++◌, map, length}
use Rattle.notation.specs.Limits.{max_set_bytes, max_paths, max_steps, max_labels}
use Rattle.notation.specs.Sets.{Axis, child, descendant, Test, label, star, Step, step, Path, folder, FolderSet}
use Rattle.text.specs.Decimal.{decimal}
use Rattle.notation.specs.Print.{print_axis, print_step, print_path, print_folder, print}
use Rattle.notation.specs.Form.{paths_of, steps_of}
use Rattle.text.specs.Bytes.{le16, padded, joined}

-- bytes of a number
abbrev pub word_size : ℕ
word_size = 2

-- fields and entries: a field begins where the one before it ends, the first with its entry, and an entry ends with its last field

-- of a folder: its number, the place of its first path
abbrev pub folder_first_in : ℕ
folder_first_in = word_size

unfoldable pub folder_size : ℕ
folder_size = folder_first_in + word_size

-- of a path: its first step, its count of steps, where its text begins, how long that is
abbrev pub path_steps_in : ℕ
path_steps_in = word_size

abbrev pub path_begin_in : ℕ
path_begin_in = path_steps_in + word_size

abbrev pub path_length_in : ℕ
path_length_in = path_begin_in + word_size

unfoldable pub path_size : ℕ
path_size = path_length_in + word_size

-- of a label: where its bytes begin, their count, its step
abbrev pub label_length_in : ℕ
label_length_in = word_size

abbrev pub label_step_in : ℕ
label_step_in = label_length_in + word_size

unfoldable pub label_size : ℕ
label_size = label_step_in + word_size

-- the counts
abbrev pub text_len_at : ℕ
text_len_at = 0

abbrev pub folder_count_at : ℕ
folder_count_at = text_len_at + word_size

abbrev pub path_count_at : ℕ
path_count_at = folder_count_at + word_size

abbrev pub step_count_at : ℕ
step_count_at = path_count_at + word_size

abbrev pub label_count_at : ℕ
label_count_at = step_count_at + word_size

-- the text, the folders, the paths, the steps, the labels
unfoldable pub text_at : ℕ
text_at = label_count_at + word_size

unfoldable pub folders_at : ℕ
unfolding text_at max_set_bytes
folders_at = text_at + max_set_bytes

unfoldable pub paths_at : ℕ
unfolding folders_at folder_size max_paths
paths_at = folders_at + folder_size * max_paths

unfoldable pub steps_at : ℕ
unfolding paths_at path_size max_paths
steps_at = paths_at + path_size * max_paths

unfoldable pub labels_at : ℕ
unfolding steps_at max_paths max_steps
labels_at = steps_at + max_paths * max_steps

unfoldable pub set_size : ℕ
unfolding labels_at label_size max_labels
set_size = labels_at + label_size * max_labels

-- a folder: its number and the place of its first path
abbrev pub folder_entry : ℕ → ℕ → List ℕ
folder_entry number first = le16 number ++ le16 first

-- a path: its first step, its count of steps, where its text begins and how long that is
abbrev pub path_entry : ℕ → ℕ → ℕ → ℕ → List ℕ
path_entry first count at size = le16 first ++ (le16 count ++ (le16 at ++ le16 size))

-- a step: 1 for `//`, and 2 more for `*`, so four kinds
abbrev pub star_kind : ℕ
star_kind = 2

abbrev pub step_kinds : ℕ
step_kinds = 2 * star_kind

abbrev pub axis_bit : Axis → ℕ
axis_bit child = 0
axis_bit descendant = 1

abbrev pub star_bit : Test → ℕ
star_bit (label n) = 0
star_bit star = star_kind

abbrev pub step_entry : Step → List ℕ
step_entry (step a t) = (axis_bit a + star_bit t) ∷ []

-- a label: where its bytes begin, their count, and its step
abbrev pub label_entry : ℕ → ℕ → ℕ → List ℕ
label_entry at size owner = le16 at ++ (le16 size ++ le16 owner)

pub record Tables : Type 0 where
  pub folders : List (List ℕ)
  pub paths : List (List ℕ)
  pub steps : List (List ℕ)
  pub labels : List (List ℕ)

abbrev pub counts : List ℕ → Tables → List ℕ
counts text t =
    le16 (length text) ++ (le16 (length t.folders) ++ (le16 (length t.paths) ++ (le16 (length t.steps) ++ le16 (length t.labels))))

unfoldable pub layout : List ℕ → Tables → List ℕ
layout text t =
    counts text t ++
    (padded max_set_bytes text ++
    (padded (folder_size * max_paths) (joined t.folders) ++
    (padded (path_size * max_paths) (joined t.paths) ++
    (padded (max_paths * max_steps) (joined t.steps) ++ padded (label_size * max_labels) (joined t.labels)))))

-- the tables of a set. Places in the text count from its first byte; `at` is where a part's text begins, `k` what stands before it

unfoldable pub folder_table : ℕ → FolderSet → List (List ℕ)
folder_table k [] = []
folder_table k (folder n ps ∷ fs) = folder_entry n k ∷ folder_table (k + length ps) fs

-- of paths whose text, a space and a bracket before each, begins at `at`
unfoldable pub path_table : ℕ → ℕ → List Path → List (List ℕ)
path_table at k [] = []
path_table at k (p ∷ ps) =
    path_entry k (length p) (at + 2) (length (print_path p)) ∷ path_table (at + (length (print_path p) + 3)) (k + length p) ps

abbrev pub step_label : ℕ → ℕ → Step → List (List ℕ)
step_label at k (step a (label n)) = label_entry (at + length (print_axis a)) (length n) k ∷ []
step_label at k (step a star) = []

unfoldable pub path_labels : ℕ → ℕ → Path → List (List ℕ)
path_labels at k [] = []
path_labels at k (s ∷ p) = step_label at k s ++ path_labels (at + length (print_step s)) (suc k) p

unfoldable pub label_table : ℕ → ℕ → List Path → List (List ℕ)
label_table at k [] = []
label_table at k (p ∷ ps) = path_labels (at + 2) k p ++ label_table (at + (length (print_path p) + 3)) (k + length p) ps

-- a line's first path stands after "(folder " and the number
abbrev pub after_number : ℕ → ℕ → ℕ
after_number at n = at + (8 + length (decimal n))

unfoldable pub set_paths : ℕ → ℕ → FolderSet → List (List ℕ)
set_paths at k [] = []
set_paths at k (folder n ps ∷ fs) =
    path_table (after_number at n) k ps ++ set_paths (at + length (print_folder (folder n ps))) (k + length (steps_of ps)) fs

unfoldable pub set_labels : ℕ → ℕ → FolderSet → List (List ℕ)
set_labels at k [] = []
set_labels at k (folder n ps ∷ fs) =
    label_table (after_number at n) k ps ++ set_labels (at + length (print_folder (folder n ps))) (k + length (steps_of ps)) fs

-- the first line takes nine bytes
unfoldable pub tables_of : FolderSet → Tables
tables_of s = record
    { folders = folder_table 0 s; paths = set_paths 9 0 s; steps = map step_entry (steps_of (paths_of s)); labels = set_labels 9 0 s }

-- the bytes of a read set
unfoldable pub set_part : FolderSet → List ℕ
set_part s = layout (print s) (tables_of s)
