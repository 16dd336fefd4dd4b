-- The label table of a set: entry i says where label i stands in the text, and which step has it.
use Prim.Native.Nat.{ℕ, zero, suc, ◌+◌, ◌<◌, suc-le-suc, zero-le}
use mathlib.Core.Path.{◌≡◌, refl, ap, ◌∙◌}
use mathlib.Core.List.{List, [], ◌∷◌, ◌++◌}
use native.Mathlib.Nat.{suc-add, add-suc, add-zero, not-suc-le-zero, le_of_suc-le-suc}
use lib.ListN.{length, get_or, take}
use Rattle.text.specs.Names.{Name}
use Rattle.notation.specs.Sets.{Axis, child, label, star, Step, step, Path, folder, FolderSet, test_of}
use Rattle.notation.specs.Form.{paths_of, steps_of, labels_of}
use Rattle.notation.specs.Print.{print_axis, print_step, print_path, print_paths, print_folder, print_folders, print}
use Rattle.notation.specs.Layout.{label_size, label_entry, path_labels, label_table, after_number, set_labels}
use Rattle.notation.proofs.Laws.Parts.{steps-append}
use Rattle.notation.proofs.Laws.Stored.Stands.{Stands, right}
use Rattle.notation.proofs.Laws.Stored.Entries.{OfWidth, none, more}
use Rattle.notation.proofs.Laws.Stored.Placed.{step_in, steps-past, path-in, paths-past, line-paths, lines-past, lines-in}

-- the entries of the labels of some steps; k steps stand before them
pub data LabelRows (text : List ℕ) : ℕ → List Step → List (List ℕ) → Type 0 where
  empty : {k : ℕ} → LabelRows text k [] []
  wild : {k : ℕ} {a : Axis} {ss : List Step} {es : List (List ℕ)} → LabelRows text (suc k) ss es → LabelRows text k (step a star ∷ ss) es
  named : {k : ℕ} {a : Axis} {n : Name} {ss : List Step} {es : List (List ℕ)} (at : ℕ) → Stands at n text → LabelRows text (suc k) ss es → LabelRows text k (step a (label n) ∷ ss) (label_entry at (length n) k ∷ es)

-- what `get_or` gives past the end
abbrev pub no_step : Step
no_step = step child star

-- the entry of label i, whose bytes are n; `index` is the place of its step among the steps
pub record LabelRow (text : List ℕ) (k : ℕ) (ss : List Step) (i : ℕ) (n e : List ℕ) : Type 0 where
  pub at : ℕ
  pub index : ℕ
  pub stands : Stands at n text
  pub is : e ≡ label_entry at (length n) (k + index)
  pub below : index < length ss
  pub test : test_of (get_or ss index no_step) ≡ label n
  pub nth : length (labels_of (take index ss)) ≡ i

pub label-width : {text : List ℕ} {k : ℕ} {ss : List Step} {es : List (List ℕ)} → LabelRows text k ss es → OfWidth label_size es
unfolding label_size
label-width empty = none
label-width (wild r) = label-width r
label-width (named at s r) = more refl (label-width r)

pub label-count : {text : List ℕ} {k : ℕ} {ss : List Step} {es : List (List ℕ)} → LabelRows text k ss es → length es ≡ length (labels_of ss)
unfolding labels_of
label-count empty = refl
label-count (wild r) = label-count r
label-count (named at s r) = ap suc (label-count r)

pub label-at : {text : List ℕ} {k : ℕ} {ss : List Step} {es : List (List ℕ)} → LabelRows text k ss es → (i : ℕ) → i < length (labels_of ss)
    → LabelRow text k ss i (get_or (labels_of ss) i []) (get_or es i [])
unfolding labels_of
label-at empty i h = absurd (not-suc-le-zero h)
label-at {k} (wild r) i h =
    let x = label-at r i h in
    record {
      at = x.at;
      index = suc x.index;
      stands = x.stands;
      is = x.is ∙ rw (suc-add, add-suc);
      below = suc-le-suc x.below;
      test = x.test;
      nth = x.nth;
    }
label-at {k} (named at s r) zero h = record {
  at = at;
  index = 0;
  stands = s;
  is = rw add-zero;
  below = suc-le-suc zero-le;
  test = refl;
  nth = refl;
}
label-at {k} (named at s r) (suc i) h =
    let x = label-at r i (le_of_suc-le-suc h) in
    record {
      at = x.at;
      index = suc x.index;
      stands = x.stands;
      is = x.is ∙ rw (suc-add, add-suc);
      below = suc-le-suc x.below;
      test = x.test;
      nth = ap suc x.nth;
    }

rows_append : {text : List ℕ} {k : ℕ} {ss ts : List Step} {es fs : List (List ℕ)} → LabelRows text k ss es → LabelRows text (k + length ss) ts fs → LabelRows text k (ss ++ ts) (es ++ fs)
rows_append {text} {k} empty t = rw (← add-zero k) (t)
rows_append {text} {k} {ts = ts} {fs = fs} (wild {ss = ss} r) t =
    let u : LabelRows text (suc k + length ss) ts fs = rw (suc-add, ← add-suc) t in
    wild (rows_append r u)
rows_append {text} {k} {ts = ts} {fs = fs} (named {ss = ss} at s r) t =
    let u : LabelRows text (suc k + length ss) ts fs = rw (suc-add, ← add-suc) t in
    named at s (rows_append r u)

steps-rows : {text : List ℕ} (at k : ℕ) (p : Path) → Stands at (print_path p) text → LabelRows text k p (path_labels at k p)
unfolding path_labels print_step
steps-rows at k [] s = empty
steps-rows at k (step a star ∷ p) s = wild (steps-rows (at + length (print_step (step a star))) (suc k) p (steps-past at (step a star) p s))
steps-rows at k (step a (label n) ∷ p) s =
    named (at + length (print_axis a)) (right (print_axis a) n at (at + length (print_axis a)) refl (step_in at (step a (label n)) p s))
    (steps-rows (at + length (print_step (step a (label n)))) (suc k) p (steps-past at (step a (label n)) p s))

line-rows : {text : List ℕ} (at k : ℕ) (ps : List Path) → Stands at (print_paths ps) text → LabelRows text k (steps_of ps) (label_table at k ps)
unfolding label_table steps_of
line-rows at k [] s = empty
line-rows at k (p ∷ ps) s =
    rows_append (steps-rows (at + 2) k p (path-in at p ps s))
    (line-rows (at + (length (print_path p) + 3)) (k + length p) ps (paths-past at p ps s))

lines_rows : {text : List ℕ} (at k : ℕ) (fs : FolderSet) → Stands at (print_folders fs) text → LabelRows text k (steps_of (paths_of fs)) (set_labels at k fs)
unfolding paths_of steps_of set_labels
lines_rows at k [] s = empty
lines_rows at k (folder n ps ∷ fs) s =
    rw (steps-append ps (paths_of fs))
    (rows_append (line-rows (after_number at n) k ps (line-paths at n ps fs s))
    (lines_rows (at + length (print_folder (folder n ps))) (k + length (steps_of ps)) fs (lines-past at (folder n ps) fs s)))

-- the label table of a set
pub label-rows : (s : FolderSet) → LabelRows (print s) 0 (steps_of (paths_of s)) (set_labels 9 0 s)
label-rows s = lines_rows 9 0 s (lines-in s)
