-- The bytes that reading a set writes, with the counts that it keeps, are the set's layout.
use Prim.Native.Nat.{ℕ, ◌+◌, ◌*◌, ◌≤◌}
use native.Mathlib.Nat.{zero-add}
use native.Mathlib.Numerals.{add-one}
use native.Mathlib.Omega.{arith}
use mathlib.Core.Path.{◌≡◌, refl, sym, ap, ◌∙◌}
use mathlib.Core.List.{List, [], ◌∷◌, ◌++◌, map, append_assoc, append-nil, map-append}
use lib.ListN.{length, replicate, length-append, length-map, replicate-append-replicate}
use lib.Seq.{sets}
use Rattle.text.specs.Bytes.{le16, joined, padded}
use Rattle.notation.specs.Limits.{max_set_bytes, max_paths, max_steps, max_labels}
use Rattle.notation.specs.Sets.{label, star, Step, step, Path, folder, FolderSet, test_of}
use Rattle.notation.specs.Print.{print_path, folder_word, header, print}
use Rattle.notation.specs.Form.{paths_of, steps_of, label_of}
use Rattle.notation.specs.Layout.{folder_size, path_size, label_size, text_at, folders_at, paths_at, steps_at, labels_at, set_size, folder_entry, path_entry, step_entry, Tables, counts, layout, folder_table, path_table, step_label, path_labels, label_table, after_number, set_paths, set_labels, tables_of, set_part}
use Rattle.notation.specs.Code.Taking.{nothing, path_begun, State, state, moved, take_step, take_all, end_path, take_path, take_number, take_folder, take_set}
use Rattle.notation.specs.declared.tally.Tally.{Tally}
use Rattle.notation.proofs.Laws.Parts.{steps-append}
use Rattle.notation.proofs.Laws.Taking.Grown.{path-grown, folder-grown, folders-grown}
use Rattle.notation.proofs.Laws.Stored.FolderTable.{folder-count}
use Rattle.notation.proofs.Laws.Stored.PathTable.{path-rows, rows-count}
use Rattle.notation.proofs.Laws.Stored.LabelTable.{label-rows, label-count}
use Rattle.notation.proofs.Laws.Refused.Fitting.{Fitting}
use Rattle.notation.proofs.Laws.Fill.Padded.{padded-none, joined-append}
use Rattle.notation.proofs.Laws.Fill.Laid.{Part, part, laid, stored}

-- the counts, the text and the four tables, parts 0 to 5, by their bytes
abbrev parts : List ℕ → List ℕ → List ℕ → List ℕ → List ℕ → List ℕ → List Part
parts c text f p s l =
    part text_at c ∷ part max_set_bytes text ∷ part (folder_size * max_paths) f ∷ part (path_size * max_paths) p ∷ part (max_paths * max_steps) s ∷ part (label_size * max_labels) l ∷ []

all-sizes : text_at + (max_set_bytes + (folder_size * max_paths + (path_size * max_paths + (max_paths * max_steps + label_size * max_labels)))) ≡ set_size
unfolding set_size
all-sizes = refl

label-bytes : (at k : ℕ) (x : Step) → length (joined (step_label at k x)) ≡ label_size * length (label_of (test_of x))
unfolding joined label_size
label-bytes at k (step a (label n)) = refl
label-bytes at k (step a star) = refl

module _ (text rest : List ℕ) where
  -- the text, and so many entries, fit their room
  record Room (nf np ns nl : ℕ) : Type 0 where
    bytes : length text ≤ max_set_bytes
    folders : nf ≤ max_paths
    paths : np ≤ max_paths
    steps : ns ≤ max_paths * max_steps
    labels : nl ≤ max_labels

  -- the text, and the bytes of so many entries of each table; no counts yet
  record Holds (nf np ns nl : ℕ) (bytes f p s l : List ℕ) : Type 0 where
    is : bytes ≡ laid (parts [] text f p s l) rest
    folders : length f ≡ folder_size * nf
    paths : length p ≡ path_size * np
    steps : length s ≡ ns
    labels : length l ≡ label_size * nl

  -- what a state holds if all that it has counted fits; counts only grow, so what fits at the end has fitted before
  abbrev Filled : State → List ℕ → List ℕ → List ℕ → List ℕ → Type 0
  Filled u f p s l =
      let t = u.tally in
      Room t.folders t.paths t.steps t.labels → Holds t.folders t.paths t.steps t.labels u.part f p s l

  step-filled : {f p s l : List ℕ} (x : Step) (u : State) → Filled u f p s l
      → Filled (take_step x u) f p (s ++ step_entry x) (l ++ joined (step_label u.tally.at u.tally.steps x))
  unfolding take_step set_size
  step-filled {f} {p} {s} {l} (step a k) u h r =
      let t = u.tally in
      let g = h (omega arith) in
      let kind = step_entry (step a k) in
      let name = joined (step_label t.at t.steps (step a k)) in
      let size = label-bytes t.at t.steps (step a k) in
      let more = length-append s kind in
      record {
        is = rw g.is
            (ap (λ b. sets b (labels_at + label_size * t.labels) name) (stored 4 (parts [] text f p s l) kind rest (steps_at + t.steps) (omega arith))
            ∙ stored 5 (parts [] text f p (s ++ kind) l) name rest (labels_at + label_size * t.labels) (omega arith));
        folders = g.folders;
        paths = g.paths;
        steps = omega arith;
        labels = omega (arith, length-append l name);
      }

  end-filled : {f p s l : List ℕ} (t : Tally) (q : Path) (u : State) → Filled u f p s l
      → Filled (end_path t q u) f (p ++ path_entry t.steps (length q) (t.at + 2) (length (print_path q))) s l
  unfolding set_size
  end-filled {f} {p} {s} {l} t q u h r =
      let g = h (omega arith) in
      let e = path_entry t.steps (length q) (t.at + 2) (length (print_path q)) in
      record {
        is = rw g.is (stored 3 (parts [] text f p s l) e rest (paths_at + path_size * u.tally.paths) (omega arith));
        folders = g.folders;
        paths = omega (arith, length-append p e);
        steps = g.steps;
        labels = g.labels;
      }

  number-filled : {f p s l : List ℕ} (n : ℕ) (u : State) → Filled u f p s l → Filled (take_number n u) (f ++ folder_entry n u.tally.paths) p s l
  unfolding set_size
  number-filled {f} {p} {s} {l} n u h r =
      let g = h (omega arith) in
      let e = folder_entry n u.tally.paths in
      record {
        is = rw g.is (stored 2 (parts [] text f p s l) e rest (folders_at + folder_size * u.tally.folders) (omega arith));
        folders = omega (arith, length-append f e);
        paths = g.paths;
        steps = g.steps;
        labels = g.labels;
      }

  steps-filled : {f p s l : List ℕ} (q : Path) (u : State) → Filled u f p s l
      → Filled (take_all take_step q u) f p (s ++ joined (map step_entry q)) (l ++ joined (path_labels u.tally.at u.tally.steps q))
  unfolding take_all path_labels joined take_step
  steps-filled [] u h = simp append-nil h
  steps-filled {s = s} (x ∷ q) u h = simp (joined-append, ← append_assoc, ← add-one) (steps-filled {s = s ++ step_entry x} q (take_step x u) (step-filled x u h))

  path-filled : {f p s l : List ℕ} (q : Path) (u : State) → Filled u f p s l
      → Filled (take_path q u) f (p ++ path_entry u.tally.steps (length q) (u.tally.at + 2) (length (print_path q)))
      (s ++ joined (map step_entry q)) (l ++ joined (path_labels (u.tally.at + 2) u.tally.steps q))
  unfolding take_path
  path-filled q u h = let v = state (path_begun u.tally) u.part in end-filled u.tally q (take_all take_step q v) (steps-filled q v h)

  paths-filled : {f p s l : List ℕ} (ps : List Path) (u : State) → Filled u f p s l
      → Filled (take_all take_path ps u) f (p ++ joined (path_table u.tally.at u.tally.steps ps))
      (s ++ joined (map step_entry (steps_of ps))) (l ++ joined (label_table u.tally.at u.tally.steps ps))
  unfolding take_all path_table label_table steps_of joined
  paths-filled [] u h = simp append-nil h
  paths-filled {p = p} (q ∷ ps) u h =
      let g = path-grown q u in
      let all = paths-filled {p = p ++ path_entry u.tally.steps (length q) (u.tally.at + 2) (length (print_path q))} ps (take_path q u) (path-filled q u h) in
      simp (map-append step_entry, joined-append) (simp (append_assoc, g.at, g.steps) at all)

  folder-filled : {f p s l : List ℕ} (n : ℕ) (ps : List Path) (u : State) → Filled u f p s l
      → Filled (take_folder (folder n ps) u) (f ++ folder_entry n u.tally.paths) (p ++ joined (path_table (after_number u.tally.at n) u.tally.steps ps))
      (s ++ joined (map step_entry (steps_of ps))) (l ++ joined (label_table (after_number u.tally.at n) u.tally.steps ps))
  unfolding take_folder moved folder_word
  folder-filled n ps u h = paths-filled ps (take_number n u) (number-filled n u h)

  folders-filled : {f p s l : List ℕ} (fs : FolderSet) (u : State) → Filled u f p s l
      → Filled (take_all take_folder fs u) (f ++ joined (folder_table u.tally.paths fs)) (p ++ joined (set_paths u.tally.at u.tally.steps fs))
      (s ++ joined (map step_entry (steps_of (paths_of fs)))) (l ++ joined (set_labels u.tally.at u.tally.steps fs))
  unfolding take_all folder_table set_paths set_labels paths_of steps_of joined
  folders-filled [] u h = simp append-nil h
  folders-filled {f = f} (folder n ps ∷ fs) u h =
      let g = folder-grown (folder n ps) u in
      let all = folders-filled {f = f ++ folder_entry n u.tally.paths} fs (take_folder (folder n ps) u) (folder-filled n ps u h) in
      simp (steps-append, map-append step_entry, joined-append) (simp (append_assoc, g.at, g.paths, g.steps) at all)

  cleared : laid (parts [] [] [] [] [] []) rest ≡ replicate set_size 0 ++ rest
  cleared = simp (padded-none, ← append_assoc, replicate-append-replicate) (ap (λ n. replicate n 0 ++ rest) all-sizes)

  -- before the first byte is read
  begun : Filled (state nothing (sets (replicate set_size 0 ++ rest) text_at text)) [] [] [] []
  begun r =
      record {
        is = ap (λ b. sets b text_at text) (sym cleared) ∙ stored 1 (parts [] [] [] [] [] []) text rest text_at (omega arith);
        folders = omega arith;
        paths = omega arith;
        steps = refl;
        labels = omega arith;
      }

  -- the counts fill their place
  full : (x : Tables) → padded text_at (counts text x) ≡ counts text x
  unfolding padded text_at
  full x = refl

  -- and at last the counts
  ended : (x : Tables) → sets (laid (parts [] text (joined x.folders) (joined x.paths) (joined x.steps) (joined x.labels)) rest) 0 (counts text x) ≡ layout text x ++ rest
  unfolding layout text_at
  ended x =
      stored 0 (parts [] text (joined x.folders) (joined x.paths) (joined x.steps) (joined x.labels)) (counts text x) rest 0 (omega arith)
      ∙ rw (full x) (simp append_assoc)

-- the counts kept while reading are those of the tables
pub set-counted : (s : FolderSet) (part : List ℕ)
    → let t = (take_set s (state nothing part)).tally in
    le16 (length (print s)) ++ (le16 t.folders ++ (le16 t.paths ++ (le16 t.steps ++ le16 t.labels))) ≡ counts (print s) (tables_of s)
unfolding take_set moved tables_of
set-counted s bytes =
    let g = folders-grown s (moved (length header) (state nothing bytes)) in
    rw (g.folders, g.paths, g.steps, g.labels)
    (simp (zero-add, folder-count, rows-count (path-rows s), length-map, label-count (label-rows s)))

-- zeros, the text, what is written while reading, the counts
pub set-filled : (s : FolderSet) (rest : List ℕ) → Fitting s
    → sets (take_set s (state nothing (sets (replicate set_size 0 ++ rest) text_at (print s)))).part 0 (counts (print s) (tables_of s)) ≡ set_part s ++ rest
unfolding take_set moved tables_of set_part header
set-filled s rest fit =
    let u = moved (length header) (state nothing (sets (replicate set_size 0 ++ rest) text_at (print s))) in
    let g = folders-grown s u in
    let all = folders-filled (print s) rest s u (begun (print s) rest) (omega arith) in
    ap (λ b. sets b 0 (counts (print s) (tables_of s))) all.is ∙ ended (print s) rest (tables_of s)
