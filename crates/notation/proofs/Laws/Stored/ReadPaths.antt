-- On the bytes of a set, a path is read as its steps and its text, and a label as its bytes and its step.
use Rattle.std.proofs.Common.{Some, None}
use Prim.Native.Nat.{ℕ, ◌+◌, ◌≤◌, ◌<◌}
use mathlib.Core.Path.{◌≡◌}
use mathlib.Core.List.{List, [], ◌∷◌, ◌++◌}
use native.Mathlib.Nat.{zero-add}
use native.Mathlib.Omega.{arith}
use lib.ListN.{length, get_or, take}
use Rattle.notation.specs.Limits.{max_set_bytes, max_paths, max_steps, max_labels}
use Rattle.notation.specs.Sets.{label, Step, Path, FolderSet, test_of}
use Rattle.notation.specs.Form.{paths_of, labels_of}
use Rattle.notation.specs.Print.{print, print_path}
use Rattle.text.specs.Bytes.{joined}
use Rattle.notation.specs.Layout.{path_entry, label_entry, set_paths, set_labels, tables_of, set_part}
use Rattle.notation.specs.Reads.{path_entry_at, label_entry_at, path_at, label_at, path_text, label_name}
use Rattle.notation.proofs.Laws.Stored.Stands.{Stands, fits}
use Rattle.notation.proofs.Laws.Stored.Entries.{entry}
use Rattle.notation.proofs.Laws.Stored.Sections.{paths-stand, labels-stand}
use Rattle.notation.proofs.Laws.Stored.PathTable.{PathRow, steps_before, path-rows, rows-count, rows_at, steps-through}
use Rattle.notation.proofs.Laws.Stored.LabelTable.{LabelRow, no_step, label-rows, label-count, label-at}
use Rattle.notation.proofs.Laws.Refused.Fitting.{Fitting, roomy}
use Rattle.notation.proofs.Laws.Stored.Words.{words-read, words-head}
use Rattle.notation.proofs.Laws.Stored.Reads.{all_steps, paths-read, labels-read, there, gone, text-piece}

-- path i's entry and text
pub record PathRead (part : List ℕ) (text : List ℕ) (i first : ℕ) (p : Path) : Type 0 where
  pub at : ℕ
  pub stands : Stands at (print_path p) text
  pub answer : path_at part (record { 0 = i }) ≡ Some (record { first = first; steps = length p; at = at; size = length (print_path p) })
  pub bytes : path_text part (record { 0 = i }) ≡ print_path p

-- label i's entry and bytes; `index` is the place of its step among all steps
pub record LabelRead (part : List ℕ) (text : List ℕ) (ss : List Step) (i : ℕ) (n : List ℕ) : Type 0 where
  pub at : ℕ
  pub index : ℕ
  pub stands : Stands at n text
  pub answer : label_at part i ≡ Some (record { at = at; size = length n; step = index })
  pub bytes : label_name part i ≡ n
  pub below : index < length ss
  pub test : test_of (get_or ss index no_step) ≡ label n
  pub nth : length (labels_of (take index ss)) ≡ i

module _ (s : FolderSet) (f : Fitting s) (rest : List ℕ) where
  path-row : (i : ℕ) → i < length (paths_of s) → PathRow (print s) (steps_before (paths_of s) i) (get_or (paths_of s) i []) (get_or (set_paths 9 0 s) i [])
  path-row i h = rw zero-add at (rows_at (path-rows s) i h)

  path-stands : (i : ℕ) → i < length (paths_of s) → Stands (path_entry_at i) (get_or (set_paths 9 0 s) i []) (set_part s ++ rest)
  unfolding set_part tables_of
  path-stands i h =
      let k : i < length (set_paths 9 0 s) = rw (rows-count (path-rows s)) h in
      entry i (roomy s f).path_width k (paths-stand (print s) (tables_of s) (roomy s f) rest)

  path-answer : (i : ℕ) (h : i < length (paths_of s)) (r : PathRow (print s) (steps_before (paths_of s) i) (get_or (paths_of s) i []) (get_or (set_paths 9 0 s) i []))
      → path_at (set_part s ++ rest) (record { 0 = i }) ≡ Some (record { first = steps_before (paths_of s) i; steps = length (get_or (paths_of s) i []); at = r.at; size = length (print_path (get_or (paths_of s) i [])) })
  unfolding path_at max_set_bytes max_steps max_paths joined
  path-answer i h r =
      let first = steps_before (paths_of s) i in
      let count = length (get_or (paths_of s) i []) in
      let size = length (print_path (get_or (paths_of s) i [])) in
      let e : Stands (path_entry_at i) (path_entry first count r.at size) (set_part s ++ rest) = rw (← r.is) (path-stands i h) in
      let k : i < max_paths = omega (arith, f.paths) in
      let u : first + count ≤ length (all_steps s) = steps-through (paths_of s) i h in
      let v : r.at + size ≤ length (print s) = fits r.stands in
      rw (
        paths-read s f rest,
        there s f rest (length (paths_of s)) max_paths i h k,
        words-head (path_entry_at i) first (count ∷ r.at ∷ size ∷ []) (omega (arith, u, f.steps)) e,
        words-read (path_entry_at i) (first ∷ count ∷ r.at ∷ size ∷ []) 1 (omega arith) (omega (arith, u, f.steps)) e,
        words-read (path_entry_at i) (first ∷ count ∷ r.at ∷ size ∷ []) 2 (omega arith) (omega (arith, v, f.bytes)) e,
        words-read (path_entry_at i) (first ∷ count ∷ r.at ∷ size ∷ []) 3 (omega arith) (omega (arith, v, f.bytes)) e,
      )

  -- the count of steps before path i, its count of steps, and its text
  pub path-read : (i : ℕ) → i < length (paths_of s) → PathRead (set_part s ++ rest) (print s) i (steps_before (paths_of s) i) (get_or (paths_of s) i [])
  path-read i h =
      let r = path-row i h in
      record {
        at = r.at;
        stands = r.stands;
        answer = path-answer i h r;
        bytes = rw (path-answer i h r) (text-piece s f rest r.at r.stands);
      }

  label-stands : (i : ℕ) → i < length (labels_of (all_steps s)) → Stands (label_entry_at i) (get_or (set_labels 9 0 s) i []) (set_part s ++ rest)
  unfolding set_part tables_of
  label-stands i h =
      let k : i < length (set_labels 9 0 s) = rw (label-count (label-rows s)) h in
      entry i (roomy s f).label_width k (labels-stand (print s) (tables_of s) (roomy s f) rest)

  label-answer : (i : ℕ) (h : i < length (labels_of (all_steps s))) (r : LabelRow (print s) 0 (all_steps s) i (get_or (labels_of (all_steps s)) i []) (get_or (set_labels 9 0 s) i []))
      → label_at (set_part s ++ rest) i ≡ Some (record { at = r.at; size = length (get_or (labels_of (all_steps s)) i []); step = r.index })
  unfolding label_at max_set_bytes max_steps max_paths max_labels joined
  label-answer i h r =
      let size = length (get_or (labels_of (all_steps s)) i []) in
      let e : Stands (label_entry_at i) (label_entry r.at size (0 + r.index)) (set_part s ++ rest) = rw (← r.is) (label-stands i h) in
      let e' : Stands (label_entry_at i) (label_entry r.at size r.index) (set_part s ++ rest) = rw zero-add at e in
      let k : i < max_labels = omega (arith, f.labels) in
      let v : r.at + size ≤ length (print s) = fits r.stands in
      rw (
        labels-read s f rest,
        there s f rest (length (labels_of (all_steps s))) max_labels i h k,
        words-head (label_entry_at i) r.at (size ∷ r.index ∷ []) (omega (arith, v, f.bytes)) e',
        words-read (label_entry_at i) (r.at ∷ size ∷ r.index ∷ []) 1 (omega arith) (omega (arith, v, f.bytes)) e',
        words-read (label_entry_at i) (r.at ∷ size ∷ r.index ∷ []) 2 (omega arith) (omega (arith, r.below, f.steps)) e',
      )

  -- label i's bytes, and its step
  pub label-read : (i : ℕ) → i < length (labels_of (all_steps s)) → LabelRead (set_part s ++ rest) (print s) (all_steps s) i (get_or (labels_of (all_steps s)) i [])
  label-read i h =
      let r = label-at (label-rows s) i h in
      record {
        at = r.at;
        index = r.index;
        stands = r.stands;
        answer = label-answer i h r;
        bytes = rw (label-answer i h r) (text-piece s f rest r.at r.stands);
        below = r.below;
        test = r.test;
        nth = r.nth;
      }

  pub path-missing : (i : ℕ) → length (paths_of s) ≤ i → path_at (set_part s ++ rest) (record { 0 = i }) ≡ None
  unfolding path_at
  path-missing i h = rw (paths-read s f rest, gone s f rest (length (paths_of s)) max_paths i h)

  pub label-missing : (i : ℕ) → length (labels_of (all_steps s)) ≤ i → label_at (set_part s ++ rest) i ≡ None
  unfolding label_at
  label-missing i h = rw (labels-read s f rest, gone s f rest (length (labels_of (all_steps s))) max_labels i h)
