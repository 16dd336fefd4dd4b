-- What reading a set's text counts, and which entries it writes, part by part as they are read.
use Rattle.std.specs.Prelude.{ℕ, ◌+◌, ◌-◌, ◌*◌, ◌≤◌, ◌≡◌, Bool, not, ◌&&◌, ◌||◌, cond, List, [], ◌∷◌, leb, ltb, length, Option, Some, None, MatchOption, Result, Ok, Err}
use Rattle.std.specs.Bool.{then_some}
use Rattle.std.specs.Option.{option_or}
use Rattle.std.proofs.lemmas.List.Edits.{sets}
use Rattle.text.specs.Bytes.{joined}
use Rattle.text.specs.Decimal.{decimal}
use Rattle.text.specs.Names.{max_name}
use Rattle.text.specs.Read.{Read, fail, got}
use Rattle.text.specs.declared.refusals.Refusal.{Refusal}
use Rattle.text.specs.declared.refusals.Refusal.TheVariants.{TooLarge, MalformedSet, OutOfOrder, NameTooLong, PathTooLong, OverCapacity}
use Rattle.notation.specs.Limits.{max_steps, max_paths, max_labels}
use Rattle.notation.specs.Sets.{Test, Step, Path, Folder, folder, FolderSet, axis_of, test_of}
use Rattle.notation.specs.Print.{print_axis, print_test, print_step, print_path, folder_word, header, footer}
use Rattle.notation.specs.Form.{label_of, long_test, faults, over_bytes, over_limits}
use Rattle.notation.specs.Layout.{folder_size, path_size, label_size, folders_at, paths_at, steps_at, labels_at, folder_entry, path_entry, label_entry, step_entry, step_label}
use Rattle.notation.specs.Reads.{is_star, kind_of, stored_step}
use Rattle.notation.specs.Code.Reader.{read_set}
use Rattle.notation.specs.declared.steps.StepFound.{StepFound}
use Rattle.notation.specs.declared.tally.Tally.{Tally}

-- a label or `*` behind slashes, and a step at an offset: where its test begins and ends
abbrev pub test_found : ℕ → Bool → Read Test → Option StepFound
test_found from deep fail = None
test_found from deep (got t r) =
    Some (record { step = record { descendant = deep; star = is_star t }; from = from; end = from + length (print_test t) })

abbrev pub step_found : ℕ → Read Step → Option StepFound
step_found at fail = None
step_found at (got x r) =
    Some (record { step = stored_step x; from = at + length (print_axis (axis_of x)); end = at + length (print_step x) })

-- the first of several faults
abbrev pub first_of : List Refusal → Option Refusal
first_of [] = None
first_of (r ∷ later) = Some r

-- a tally by its fields, in their order
abbrev pub tally : ℕ → ℕ → ℕ → ℕ → ℕ → ℕ → ℕ → Option Refusal → Tally
tally at last first folders paths steps labels fault = record
    { at = at; last = last; first = first; folders = folders; paths = paths; steps = steps; labels = labels; fault = fault }

-- before the first byte
abbrev pub nothing : Tally
nothing = tally 0 0 0 0 0 0 0 None

-- so many bytes on
abbrev pub moved_tally : ℕ → Tally → Tally
moved_tally n t = tally (t.at + n) t.last t.first t.folders t.paths t.steps t.labels t.fault

-- a step that ends there, with so many labels, over the length of a name (5) or not; it may be over its path's limit (6)
abbrev pub step_counted : ℕ → ℕ → Bool → Tally → Tally
step_counted end labels long t =
    tally end t.last t.first t.folders t.paths (t.steps + 1) (t.labels + labels)
    (option_or t.fault (option_or (then_some long NameTooLong) (then_some (leb max_steps (t.steps - t.first)) PathTooLong)))

abbrev pub step_tally : Step → Tally → Tally
step_tally x t =
    step_counted (t.at + length (print_step x)) (length (label_of (test_of x))) (long_test (test_of x)) t

-- the same of a step that was found
abbrev pub found_counted : StepFound → Tally → Tally
found_counted f t =
    step_counted f.end (cond f.step.star 0 1) (not f.step.star && ltb max_name (f.end - f.from)) t

-- a path begins after its space and bracket, and ends with its bracket
abbrev pub path_begun : Tally → Tally
path_begun t = tally (t.at + 2) t.last t.steps t.folders t.paths t.steps t.labels t.fault

abbrev pub path_ended : Tally → Tally
path_ended t = tally (t.at + 1) t.last t.first t.folders (t.paths + 1) t.steps t.labels t.fault

-- the same without these bytes
abbrev pub path_first : Tally → Tally
path_first t = tally t.at t.last t.steps t.folders t.paths t.steps t.labels t.fault

abbrev pub path_counted : Tally → Tally
path_counted t = tally t.at t.last t.first t.folders (t.paths + 1) t.steps t.labels t.fault

-- a folder's number n, which ends there; it must be above the one before (4)
abbrev pub number_counted : ℕ → ℕ → Tally → Tally
number_counted n end t =
    tally end n t.first (t.folders + 1) t.paths t.steps t.labels (option_or t.fault (then_some (leb n t.last) OutOfOrder))

-- what is counted, and the bytes of the read set
pub record State : Type 0 where
  pub tally : Tally
  pub part : List ℕ

abbrev pub state : Tally → List ℕ → State
state t part = record { tally = t; part = part }

unfoldable pub moved : ℕ → State → State
moved n s = state (moved_tally n s.tally) s.part

-- a step, and its label
unfoldable pub take_step : Step → State → State
take_step x s =
    let t = s.tally in
    state (step_tally x t)
    (sets (sets s.part (steps_at + t.steps) (step_entry x)) (labels_at + label_size * t.labels) (joined (step_label t.at t.steps x)))

-- the same entries of a step that was found
abbrev pub found_written : StepFound → Tally → List ℕ → List ℕ
found_written f t part =
    let steps = sets part (steps_at + t.steps) (kind_of f.step ∷ []) in
    cond f.step.star steps (sets steps (labels_at + label_size * t.labels) (label_entry f.from (f.end - f.from) t.steps))

-- items one after the other
unfoldable pub take_all : {A : Type 0} → (A → State → State) → List A → State → State
take_all take [] s = s
take_all take (a ∷ l) s = take_all take l (take a s)

-- a path that began with t ends
abbrev pub end_path : Tally → Path → State → State
end_path t p s =
    state (path_ended s.tally)
    (sets s.part (paths_at + path_size * s.tally.paths) (path_entry t.steps (length p) (t.at + 2) (length (print_path p))))

unfoldable pub take_path : Path → State → State
take_path p s = end_path s.tally p (take_all take_step p (state (path_begun s.tally) s.part))

-- a folder's number, after the word before it and alone
abbrev pub take_number : ℕ → State → State
take_number n s =
    let t = s.tally in
    state (number_counted n (t.at + (length folder_word + length (decimal n))) t)
    (sets s.part (folders_at + folder_size * t.folders) (folder_entry n t.paths))

abbrev pub number_taken : ℕ → State → State
number_taken n s =
    let t = s.tally in
    state (number_counted n (t.at + length (decimal n)) t)
    (sets s.part (folders_at + folder_size * t.folders) (folder_entry n t.paths))

-- the paths of a line and its end
abbrev pub take_line : List Path → State → State
take_line ps s = moved (length footer) (take_all take_path ps s)

unfoldable pub take_folder : Folder → State → State
take_folder (folder n ps) s = take_line ps (take_number n s)

unfoldable pub take_set : FolderSet → State → State
take_set fs s = moved (length footer) (take_all take_folder fs (moved (length header) s))

-- no count is above the number of bytes read, so that sums fit
pub record Small (text : List ℕ) (t : Tally) : Type 0 where
  pub short : length text ≤ 65536
  pub at : t.at ≤ length text
  pub folders : t.folders ≤ t.at
  pub paths : t.paths ≤ t.at
  pub steps : t.steps ≤ t.at
  pub labels : t.labels ≤ t.at

-- the set of a text, counted and written into a buffer
pub record SetTaken (text before : List ℕ) (t : Tally) (after : List ℕ) : Type 0 where
  pub set : FolderSet
  pub rest : List ℕ
  pub was : read_set text ≡ got set rest
  pub taken : state t after ≡ take_set set (state nothing before)

-- no set can be read, or it is taken
abbrev pub TookSet : List ℕ → List ℕ → Option Tally → List ℕ → Type 0
TookSet text before r after = MatchOption r (read_set text ≡ fail) (λ t. SetTaken text before t after)

-- the refusal of what was counted: the first fault met, or 7
abbrev pub tally_refusal : Tally → Option Refusal
tally_refusal t = option_or t.fault (then_some (ltb max_paths t.paths || ltb max_labels t.labels) OverCapacity)

-- the refusal of a text that was read so: 3, the first of 4 to 6, or 7
abbrev pub read_refusal : Read FolderSet → Option Refusal
read_refusal fail = Some MalformedSet
read_refusal (got s r) = option_or (first_of (faults s)) (then_some (over_limits s) OverCapacity)

-- what a text is refused with, in build's order
unfoldable pub text_refusal : List ℕ → Option Refusal
text_refusal text = cond (over_bytes text) (Some TooLarge) (read_refusal (read_set text))

-- a call that only judges answers so
abbrev pub answered : Option Refusal → Result (Unit {0}) Refusal
answered None = Ok tt
answered (Some r) = Err r
