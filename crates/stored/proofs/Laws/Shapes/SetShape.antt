-- The stored numbers of an accepted set are in their ranges: its bytes pass the part of the shape test that is about them.
use Prim.Native.Nat.{ℕ, zero, suc, ◌+◌, ◌*◌, ◌≤◌, ◌<◌}
use mathlib.Core.Path.{◌≡◌, refl, ap}
use mathlib.Core.Bool.{Bool, true, false}
use mathlib.Core.List.{List, [], ◌∷◌, ◌++◌, map}
use native.Mathlib.Nat.{add-zero}
use native.Mathlib.Omega.{arith}
use lib.Dec.{leb}
use lib.ListN.{length, get_or, length-map}
use borrow.Author.Tests.{leb-true, ltb-false}
use Rattle.std.proofs.lemmas.Option.{same_Some}
use Rattle.text.specs.Names.{within, too_long, max_name}
use Rattle.notation.specs.Limits.{max_number, max_paths, max_steps, max_labels}
use Rattle.notation.specs.Sets.{child, descendant, label, star, Step, step, Path, Folder, folder, FolderSet, folder_number, folder_paths}
use Rattle.notation.specs.Print.{print}
use Rattle.text.specs.Lists.{any, every}
use Rattle.notation.specs.Form.{formed_path, formed_folder, formed, paths_of, path_long, paths_long, names_long}
use Rattle.notation.specs.Layout.{steps_at, step_entry, tables_of, set_part, step_kinds}
use Rattle.notation.specs.Reads.{folder_count, path_count, step_count, label_count, stored_number, stored_first, folder_at, path_at, label_at}
use Rattle.notation.specs.declared.reads.StoredFolder.{StoredFolder}
use Rattle.notation.specs.declared.reads.StoredPath.{StoredPath}
use Rattle.notation.specs.declared.reads.StoredLabel.{StoredLabel}
use Rattle.notation.proofs.Laws.Stored.Stands.{Stands, read, fits}
use Rattle.notation.proofs.Laws.Stored.Entries.{entry, map_at}
use Rattle.notation.proofs.Laws.Stored.Sections.{steps-stand}
use Rattle.notation.proofs.Laws.Stored.LabelTable.{no_step}
use Rattle.notation.proofs.Laws.Stored.FolderTable.{no_folder, paths_before, paths-before-most}
use Rattle.notation.proofs.Laws.Stored.PathTable.{steps-through}
use Rattle.notation.proofs.Laws.Refused.Fitting.{Fitting, roomy, one_byte}
use Rattle.notation.proofs.Laws.Stored.Reads.{text-len, folders-read, paths-read, steps-read, labels-read, there}
use Rattle.notation.proofs.Laws.Stored.ReadFolders.{folder-read}
use Rattle.notation.proofs.Laws.Stored.ReadPaths.{path-read, label-read}
use Rattle.stored.specs.Automaton.{all_steps, all_labels}
use Rattle.text.proofs.Laws.Lists.{every_append}
use Rattle.text.proofs.Laws.Tests.{both, neither}
use Rattle.stored.proofs.Laws.Shapes.Shaped.{FolderFacts, PathFacts, LabelFacts}
use Rattle.stored.proofs.Laws.Running.FullPaths.{folder-paths}

-- a test of all elements, or of some, at each
every-at : {A : Type 0} (f : A → Bool) (d : A) (l : List A) → every f l ≡ true → (i : ℕ) → i < length l → f (get_or l i d) ≡ true
unfolding every
every-at f d [] h i b = absurd (omega arith)
every-at f d (a ∷ l) h zero b = (both (f a) (every f l) h).0
every-at f d (a ∷ l) h (suc i) b = every-at f d l (both (f a) (every f l) h).1 i (omega arith)

pub any_at : {A : Type 0} (f : A → Bool) (d : A) (l : List A) → any f l ≡ false → (i : ℕ) → i < length l → f (get_or l i d) ≡ false
unfolding any
any_at f d [] h i b = absurd (omega arith)
any_at f d (a ∷ l) h zero b = (neither (f a) (any f l) h).0
any_at f d (a ∷ l) h (suc i) b = any_at f d l (neither (f a) (any f l) h).1 i (omega arith)

-- every number is positive, and no path is empty
positive : (x : Folder) → formed_folder x ≡ true → 1 ≤ folder_number x
unfolding formed_folder
positive (folder n ps) h = leb-true 1 n (both (leb 1 n) (leb n max_number) (both (within 1 max_number n) _ h).0).0

all-formed : (s : FolderSet) → every formed_folder s ≡ true → every formed_path (paths_of s) ≡ true
unfolding paths_of every
all-formed [] h = refl
all-formed (x ∷ s) h =
    let b = both (formed_folder x) (every formed_folder s) h in
    every_append formed_path (folder_paths x) (paths_of s) (folder-paths x b.0) (all-formed s b.1)

some-steps : (p : Path) → formed_path p ≡ true → 1 ≤ length p
unfolding formed_path
some-steps [] h = absurd (let z : ◌≡◌ {A = ℕ} 0 1 = cc in omega arith)
some-steps (x ∷ p) h = omega arith

byte_small : (x : Step) → get_or (step_entry x) 0 0 < step_kinds
byte_small (step child (label n)) = omega arith
byte_small (step child star) = omega arith
byte_small (step descendant (label n)) = omega arith
byte_small (step descendant star) = omega arith

module _ (s : FolderSet) (fit : Fitting s) (rest : List ℕ) where
  abbrev part : List ℕ
  part = set_part s ++ rest

  folder-there : (i : ℕ) → i < length s → (stored_number part i ≡ folder_number (get_or s i no_folder)) × (stored_first part i ≡ paths_before s i)
  unfolding folder_at
  folder-there i h =
      let k : i < max_paths = omega (arith, fit.folders) in
      let e = folder-read s fit rest i h in
      let t = there s fit rest (length s) max_paths i h k in
      let p = same_Some _ _ (rw (folders-read s fit rest, t) at e) in
      (ap (λ (f : StoredFolder). f.number.0) p, ap (λ (f : StoredFolder). f.first.0) p)

  pub folder-facts : formed s ≡ true → (i : ℕ) → i < folder_count part → FolderFacts part i
  unfolding formed
  folder-facts well i h' =
      let h : i < length s = rw (folders-read s fit rest) at h' in
      let e = folder-there i h in
      record {
        positive = rw e.0 (positive (get_or s i no_folder) (every-at formed_folder no_folder s well i h));
        number = rw e.0 (fit.numbers i h);
        first = rw (e.1, paths-read s fit rest) (paths-before-most s i);
      }

  pub path-facts : formed s ≡ true → paths_long s ≡ false → (i : ℕ) → i < path_count part → PathFacts part i
  unfolding formed paths_long path_at
  path-facts well few i h' =
      let h : i < length (paths_of s) = rw (paths-read s fit rest) at h' in
      let k : i < max_paths = omega (arith, fit.paths) in
      let r = path-read s fit rest i h in
      let t = there s fit rest (length (paths_of s)) max_paths i h k in
      let e = same_Some _ _ (rw (paths-read s fit rest, t) at r.answer) in
      let p = get_or (paths_of s) i [] in
      let one : 1 ≤ length p = some-steps p (every-at formed_path [] (paths_of s) (all-formed s well) i h) in
      let most : length p ≤ max_steps = ltb-false max_steps (length p) (any_at path_long [] (paths_of s) few i h) in
      record {
        some = rw (ap (λ (x : StoredPath). x.steps) e) one;
        count = rw (ap (λ (x : StoredPath). x.steps) e) most;
        steps = rw (ap (λ (x : StoredPath). x.first) e, ap (λ (x : StoredPath). x.steps) e, steps-read s fit rest) (steps-through (paths_of s) i h);
        text = rw (ap (λ (x : StoredPath). x.at) e, ap (λ (x : StoredPath). x.size) e, text-len s fit rest) (fits r.stands);
      }

  pub step-fact : (i : ℕ) → i < step_count part → get_or part (steps_at + i) 0 < step_kinds
  unfolding set_part tables_of
  step-fact i h' =
      let h : i < length (all_steps s) = rw (steps-read s fit rest) at h' in
      let k : i < length (map step_entry (all_steps s)) = rw (length-map (all_steps s) step_entry) h in
      let x = get_or (all_steps s) i no_step in
      let e : steps_at + 1 * i ≡ steps_at + i = omega arith in
      let t : Stands (steps_at + i) (step_entry x) part = rw (← e, ← map_at step_entry no_step (all_steps s) i h) (entry i (roomy s fit).step_width k (steps-stand (print s) (tables_of s) (roomy s fit) rest)) in
      let r = read 0 (omega (arith, one_byte x)) t in
      rw (rw add-zero at r) (byte_small x)

  pub label-facts : names_long s ≡ false → (i : ℕ) → i < label_count part → LabelFacts part i
  unfolding names_long label_at
  label-facts short i h' =
      let h : i < length (all_labels s) = rw (labels-read s fit rest) at h' in
      let k : i < max_labels = omega (arith, fit.labels) in
      let r = label-read s fit rest i h in
      let t = there s fit rest (length (all_labels s)) max_labels i h k in
      let e = same_Some _ _ (rw (labels-read s fit rest, t) at r.answer) in
      let n = get_or (all_labels s) i [] in
      let most : length n ≤ max_name = ltb-false max_name (length n) (any_at too_long [] (all_labels s) short i h) in
      record {
        text = rw (ap (λ (x : StoredLabel). x.at) e, ap (λ (x : StoredLabel). x.size) e, text-len s fit rest) (fits r.stands);
        size = rw (ap (λ (x : StoredLabel). x.size) e) most;
        step = rw (ap (λ (x : StoredLabel). x.step) e, steps-read s fit rest) r.below;
      }
