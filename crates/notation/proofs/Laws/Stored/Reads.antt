-- What the reading calls answer on the bytes of a set: its counts and its text.
use Prim.Native.Nat.{ℕ, ◌+◌, ◌≤◌, ◌<◌}
use mathlib.Core.Path.{◌≡◌, refl, sym}
use mathlib.Core.Bool.{true, false}
use mathlib.Core.List.{List, [], ◌∷◌, ◌++◌, append-nil}
use native.Mathlib.Omega.{arith}
use borrow.Author.Tests.{lt-ltb, le-ltb, le-leb}
use lib.ListN.{length, length-append, length-map}
use Rattle.notation.specs.Limits.{max_set_bytes, max_paths, max_steps, max_labels}
use Rattle.notation.specs.Sets.{Step, FolderSet}
use Rattle.notation.specs.Form.{paths_of, steps_of, labels_of}
use Rattle.notation.specs.Print.{print}
use Rattle.notation.specs.Layout.{set_size, step_entry, tables_of, set_part}
use Rattle.text.specs.Bytes.{joined}
use Rattle.notation.specs.Reads.{text_len, folder_count, path_count, step_count, label_count, present, text_slice, text_of}
use Rattle.notation.proofs.Laws.Stored.Stands.{Stands, inner, slice, fits}
use Rattle.notation.proofs.Laws.Stored.Sections.{layout-length, counts-stand, text-stands}
use Rattle.notation.proofs.Laws.Stored.FolderTable.{folder-count}
use Rattle.notation.proofs.Laws.Stored.PathTable.{path-rows, rows-count}
use Rattle.notation.proofs.Laws.Stored.LabelTable.{label-rows, label-count}
use Rattle.notation.proofs.Laws.Refused.Fitting.{Fitting, roomy}
use Rattle.notation.proofs.Laws.Stored.Words.{words, words-read}

-- all steps of a set, in order
abbrev pub all_steps : FolderSet → List Step
all_steps s = steps_of (paths_of s)

-- the counts that are stored
abbrev stored : FolderSet → List ℕ
stored s = length (print s) ∷ length s ∷ length (paths_of s) ∷ length (all_steps s) ∷ length (labels_of (all_steps s)) ∷ []

module _ (s : FolderSet) (f : Fitting s) (rest : List ℕ) where
  counts : Stands 0 (words (stored s)) (set_part s ++ rest)
  unfolding set_part tables_of joined
  counts =
      rw (← folder-count 0 s, ← rows-count (path-rows s), ← length-map (all_steps s) step_entry, ← label-count (label-rows s))
      (counts-stand (print s) (tables_of s) rest)

  pub text-len : text_len (set_part s ++ rest) ≡ length (print s)
  unfolding max_set_bytes
  text-len = words-read 0 (stored s) 0 (omega arith) (omega (arith, f.bytes)) counts

  pub folders-read : folder_count (set_part s ++ rest) ≡ length s
  unfolding max_paths
  folders-read = words-read 0 (stored s) 1 (omega arith) (omega (arith, f.folders)) counts

  pub paths-read : path_count (set_part s ++ rest) ≡ length (paths_of s)
  unfolding max_paths
  paths-read = words-read 0 (stored s) 2 (omega arith) (omega (arith, f.paths)) counts

  pub steps-read : step_count (set_part s ++ rest) ≡ length (all_steps s)
  unfolding max_paths max_steps
  steps-read = words-read 0 (stored s) 3 (omega arith) (omega (arith, f.steps)) counts

  pub labels-read : label_count (set_part s ++ rest) ≡ length (labels_of (all_steps s))
  unfolding max_labels
  labels-read = words-read 0 (stored s) 4 (omega arith) (omega (arith, f.labels)) counts

  pub whole : set_size ≤ length (set_part s ++ rest)
  unfolding set_part
  whole = omega (arith, length-append (set_part s) rest, layout-length (print s) (tables_of s) (roomy s f))

  pub there : (count capacity i : ℕ) → i < count → i < capacity → present (set_part s ++ rest) count capacity i ≡ true
  unfolding present
  there count capacity i h k = rw (le-leb set_size (length (set_part s ++ rest)) whole, lt-ltb i count h, lt-ltb i capacity k)

  pub gone : (count capacity i : ℕ) → count ≤ i → present (set_part s ++ rest) count capacity i ≡ false
  unfolding present
  gone count capacity i h = rw (le-leb set_size (length (set_part s ++ rest)) whole, le-ltb i count h)

  -- bytes of the text
  pub text-piece : {piece : List ℕ} (at : ℕ) → Stands at piece (print s) → text_slice (set_part s ++ rest) at (length piece) ≡ piece
  unfolding text_slice set_part
  text-piece {piece} at h =
      let room : at + length piece ≤ max_set_bytes = omega (arith, fits h, f.bytes) in
      rw (le-leb set_size (length (set_part s ++ rest)) whole, le-leb (at + length piece) max_set_bytes room)
      (slice (inner h (text-stands (print s) (tables_of s) rest)))

  pub text-read : text_of (set_part s ++ rest) ≡ print s
  text-read = rw text-len (text-piece 0 (record { before = []; after = []; split = sym (append-nil (print s)); size = refl }))
