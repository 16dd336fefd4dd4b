-- Where the text and the tables stand in the bytes of a read set, for any text and tables that fit their room.
use Prim.Native.Nat.{ℕ, ◌*◌, ◌≤◌}
use mathlib.Core.Path.{◌≡◌, refl}
use mathlib.Core.List.{List, ◌++◌}
use native.Mathlib.Nat.{mul-le-mul_left}
use native.Mathlib.Omega.{arith}
use lib.ListN.{length, length-append}
use Rattle.notation.specs.Limits.{max_set_bytes, max_paths, max_steps, max_labels}
use Rattle.notation.specs.Layout.{Tables, folder_size, path_size, label_size, text_at, folders_at, paths_at, steps_at, labels_at, set_size, counts, layout}
use Rattle.text.specs.Bytes.{joined, padded}
use Rattle.notation.proofs.Laws.Fill.Padded.{length-padded}
use Rattle.notation.proofs.Laws.Stored.Stands.{Stands, itself, left, right}
use Rattle.notation.proofs.Laws.Stored.Entries.{OfWidth, joined_length}

-- the text and the tables fit their room
pub record Roomy (text : List ℕ) (t : Tables) : Type 0 where
  pub bytes : length text ≤ max_set_bytes
  pub folders : length t.folders ≤ max_paths
  pub paths : length t.paths ≤ max_paths
  pub steps : length t.steps ≤ max_paths * max_steps
  pub labels : length t.labels ≤ max_labels
  pub folder_width : OfWidth folder_size t.folders
  pub path_width : OfWidth path_size t.paths
  pub step_width : OfWidth 1 t.steps
  pub label_width : OfWidth label_size t.labels

-- a table of n entries or fewer
room : {w : ℕ} {es : List (List ℕ)} (n : ℕ) → OfWidth w es → length es ≤ n → length (joined es) ≤ w * n
room {w} n o h = rw (joined_length o) (mul-le-mul_left w h)

abbrev text' : List ℕ → List ℕ
text' text = padded max_set_bytes text

abbrev folders' : Tables → List ℕ
folders' t = padded (folder_size * max_paths) (joined t.folders)

abbrev paths' : Tables → List ℕ
paths' t = padded (path_size * max_paths) (joined t.paths)

abbrev steps' : Tables → List ℕ
steps' t = padded (max_paths * max_steps) (joined t.steps)

abbrev labels' : Tables → List ℕ
labels' t = padded (label_size * max_labels) (joined t.labels)

-- the counts and the text stand at their places in any layout
module _ (text : List ℕ) (t : Tables) (rest : List ℕ) where
  pub counts-stand : Stands 0 (counts text t) (layout text t ++ rest)
  unfolding layout
  counts-stand = left (counts text t) _ (itself (layout text t) rest)

  from-text : Stands text_at (text' text ++ (folders' t ++ (paths' t ++ (steps' t ++ labels' t)))) (layout text t ++ rest)
  unfolding layout text_at
  from-text = right (counts text t) _ 0 text_at refl (itself (layout text t) rest)

  pub text-stands : Stands text_at text (layout text t ++ rest)
  unfolding padded
  text-stands = left text _ (left (text' text) _ from-text)

module _ (text : List ℕ) (t : Tables) (f : Roomy text t) where
  text-size : length (text' text) ≡ max_set_bytes
  text-size = length-padded max_set_bytes text f.bytes

  folders-size : length (folders' t) ≡ folder_size * max_paths
  folders-size = length-padded (folder_size * max_paths) (joined t.folders) (room max_paths f.folder_width f.folders)

  paths-size : length (paths' t) ≡ path_size * max_paths
  paths-size = length-padded (path_size * max_paths) (joined t.paths) (room max_paths f.path_width f.paths)

  steps-size : length (steps' t) ≡ max_paths * max_steps
  steps-size =
      length-padded (max_paths * max_steps) (joined t.steps) (omega (arith, room (max_paths * max_steps) f.step_width f.steps))

  labels-size : length (labels' t) ≡ label_size * max_labels
  labels-size = length-padded (label_size * max_labels) (joined t.labels) (room max_labels f.label_width f.labels)

  pub layout-length : length (layout text t) ≡ set_size
  unfolding layout set_size max_set_bytes folder_size path_size label_size max_paths max_steps max_labels
  layout-length =
      omega (
        arith,
        text-size,
        folders-size,
        paths-size,
        steps-size,
        labels-size,
        length-append (text' text) (folders' t ++ (paths' t ++ (steps' t ++ labels' t))),
        length-append (folders' t) (paths' t ++ (steps' t ++ labels' t)),
        length-append (paths' t) (steps' t ++ labels' t),
        length-append (steps' t) (labels' t),
      )

  module _ (rest : List ℕ) where
    from-folders : Stands folders_at (folders' t ++ (paths' t ++ (steps' t ++ labels' t))) (layout text t ++ rest)
    unfolding folders_at
    from-folders = right (text' text) _ text_at folders_at (rw text-size) (from-text text t rest)

    from-paths : Stands paths_at (paths' t ++ (steps' t ++ labels' t)) (layout text t ++ rest)
    unfolding paths_at
    from-paths = right (folders' t) _ folders_at paths_at (rw folders-size) from-folders

    from-steps : Stands steps_at (steps' t ++ labels' t) (layout text t ++ rest)
    unfolding steps_at
    from-steps = right (paths' t) _ paths_at steps_at (rw paths-size) from-paths

    from-labels : Stands labels_at (labels' t) (layout text t ++ rest)
    unfolding labels_at
    from-labels = right (steps' t) _ steps_at labels_at (rw steps-size) from-steps

    pub folders-stand : Stands folders_at (joined t.folders) (layout text t ++ rest)
    unfolding padded
    folders-stand = left (joined t.folders) _ (left (folders' t) _ from-folders)

    pub paths-stand : Stands paths_at (joined t.paths) (layout text t ++ rest)
    unfolding padded
    paths-stand = left (joined t.paths) _ (left (paths' t) _ from-paths)

    pub steps-stand : Stands steps_at (joined t.steps) (layout text t ++ rest)
    unfolding padded
    steps-stand = left (joined t.steps) _ (left (steps' t) _ from-steps)

    pub labels-stand : Stands labels_at (joined t.labels) (layout text t ++ rest)
    unfolding padded
    labels-stand = left (joined t.labels) _ from-labels
