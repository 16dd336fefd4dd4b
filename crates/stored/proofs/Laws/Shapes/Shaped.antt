-- The shape test by its facts: what holds of the stored numbers of an automaton exactly if it passes.
use Prim.Native.Nat.{ℕ, zero, suc, ◌+◌, ◌*◌, ◌≤◌, ◌<◌}
use mathlib.Core.Path.{◌≡◌, refl}
use mathlib.Core.Bool.{true, false}
use mathlib.Core.List.{List}
use native.Mathlib.Omega.{arith}
use lib.Dec.{leb, ltb, eqb}
use lib.ListN.{get_or}
use borrow.Author.Tests.{leb-true, le-leb, ltb-true, lt-ltb, ne_eqb}
use Rattle.text.specs.Names.{within, max_name}
use Rattle.notation.specs.Limits.{max_set_bytes, max_number, max_paths, max_steps, max_labels}
use Rattle.notation.specs.Layout.{steps_at, step_kinds}
use Rattle.notation.specs.Reads.{text_len, folder_count, path_count, step_count, label_count, stored_number, stored_first, label_step, label_begin, label_length, path_first, path_steps, path_begin, path_length}
use Rattle.stored.specs.Automaton.{hashes}
use Rattle.stored.specs.Tables.{head_at, next_at, parent_at, fail_at, size_at, other_at, first_at, far_at, start_of, size_of}
use Rattle.stored.specs.Shape.{all_below, counts_shaped, folder_shaped, path_shaped, step_shaped, label_shaped, head_shaped, later_place, chain_shaped, link_shaped, set_shaped, automaton_shaped}
use Rattle.stored.specs.Usable.{After, Walkable}
use Rattle.text.proofs.Laws.Tests.{both, both_true, either-right}
use Rattle.stored.proofs.Laws.Bytes.AllBelow.{all-at, is_all}

pub record Counts (a : List ℕ) : Type 0 where
  pub text : text_len a ≤ max_set_bytes
  pub folders : folder_count a ≤ max_paths
  pub paths : path_count a ≤ max_paths
  pub steps : step_count a ≤ max_paths * max_steps
  pub labels : label_count a ≤ max_labels
  pub start : start_of a ≤ 1

pub record FolderFacts (a : List ℕ) (i : ℕ) : Type 0 where
  pub positive : 1 ≤ stored_number a i
  pub number : stored_number a i ≤ max_number
  pub first : stored_first a i ≤ path_count a

pub record PathFacts (a : List ℕ) (i : ℕ) : Type 0 where
  pub some : 1 ≤ path_steps a i
  pub count : path_steps a i ≤ max_steps
  pub steps : path_first a i + path_steps a i ≤ step_count a
  pub text : path_begin a i + path_length a i ≤ text_len a

pub record LabelFacts (a : List ℕ) (i : ℕ) : Type 0 where
  pub text : label_begin a i + label_length a i ≤ text_len a
  pub size : label_length a i ≤ max_name
  pub step : label_step a i < step_count a

pub record LinkFacts (a : List ℕ) (l : ℕ) : Type 0 where
  pub next : After a l (next_at a l)
  pub other : After a l (other_at a l)
  pub far : After a l (far_at a l)
  pub first : first_at a l ≤ label_count a
  pub parent : parent_at a l ≤ suc (label_count a)
  pub fail : fail_at a l ≤ suc (label_count a)
  pub size : size_at a l ≤ suc max_steps
  pub shorter : size_of a (fail_at a l) < size_at a l

pub record Shaped (a : List ℕ) : Type 0 where
  pub counts : Counts a
  pub folder : (i : ℕ) → i < folder_count a → FolderFacts a i
  pub path : (i : ℕ) → i < path_count a → PathFacts a i
  pub step : (i : ℕ) → i < step_count a → get_or a (steps_at + i) 0 < step_kinds
  pub label : (i : ℕ) → i < label_count a → LabelFacts a i
  pub head : (h : ℕ) → h < hashes → head_at a h ≤ label_count a
  pub link : (l : ℕ) → l < label_count a → LinkFacts a l

-- one test
within-is : (low high x : ℕ) → within low high x ≡ true → (low ≤ x) × (x ≤ high)
within-is low high x h = let b = both (leb low x) (leb x high) h in (leb-true low x b.0, leb-true x high b.1)

is_within : {low high x : ℕ} → low ≤ x → x ≤ high → within low high x ≡ true
is_within {low} {high} {x} p q = both_true (le-leb low x p) (le-leb x high q)

later-is : (a : List ℕ) (l k : ℕ) → later_place a l k ≡ true → After a l k
later-is a l zero h = record { within = omega arith; later = λ m p. absurd (omega arith) }
later-is a l (suc k) h =
    let some : eqb (suc k) 0 ≡ false = ne_eqb (suc k) 0 (λ z. omega arith) in
    let b = both (ltb (suc l) (suc k)) (leb (suc k) (label_count a)) (rw some at h) in
    let lt : suc l < suc k = ltb-true (suc l) (suc k) b.0 in
    record { within = leb-true (suc k) (label_count a) b.1; later = λ m p. omega arith }

is_later : (a : List ℕ) (l k : ℕ) → After a l k → later_place a l k ≡ true
is_later a l zero f = refl
is_later a l (suc k) f =
    let b : l < k = f.later k refl in
    either-right (eqb (suc k) 0) (both_true (lt-ltb (suc l) (suc k) (omega arith)) (le-leb (suc k) (label_count a) f.within))

module _ (a : List ℕ) where
  pub counts-is : counts_shaped a ≡ true → Counts a
  counts-is h =
      let b1 = both _ _ h in
      let b2 = both _ _ b1.1 in
      let b3 = both _ _ b2.1 in
      let b4 = both _ _ b3.1 in
      let b5 = both _ _ b4.1 in
      record {
        text = leb-true _ _ b1.0;
        folders = leb-true _ _ b2.0;
        paths = leb-true _ _ b3.0;
        steps = leb-true _ _ b4.0;
        labels = leb-true _ _ b5.0;
        start = leb-true _ _ b5.1;
      }

  is-counts : Counts a → counts_shaped a ≡ true
  is-counts c =
      both_true (le-leb _ _ c.text) (both_true (le-leb _ _ c.folders) (both_true (le-leb _ _ c.paths)
      (both_true (le-leb _ _ c.steps) (both_true (le-leb _ _ c.labels) (le-leb _ _ c.start)))))

  folder-is : (i : ℕ) → folder_shaped a i ≡ true → FolderFacts a i
  folder-is i h =
      let b = both (within 1 max_number (stored_number a i)) (leb (stored_first a i) (path_count a)) h in
      let w = within-is 1 max_number (stored_number a i) b.0 in
      record { positive = w.0; number = w.1; first = leb-true _ _ b.1 }

  is-folder : (i : ℕ) → FolderFacts a i → folder_shaped a i ≡ true
  is-folder i f = both_true (is_within f.positive f.number) (le-leb _ _ f.first)

  path-is : (i : ℕ) → path_shaped a i ≡ true → PathFacts a i
  path-is i h =
      let b = both (within 1 max_steps (path_steps a i)) _ h in
      let w = within-is 1 max_steps (path_steps a i) b.0 in
      let d = both _ _ b.1 in
      record { some = w.0; count = w.1; steps = leb-true _ _ d.0; text = leb-true _ _ d.1 }

  is-path : (i : ℕ) → PathFacts a i → path_shaped a i ≡ true
  is-path i f = both_true (is_within f.some f.count) (both_true (le-leb _ _ f.steps) (le-leb _ _ f.text))

  label_is : (i : ℕ) → label_shaped a i ≡ true → LabelFacts a i
  label_is i h =
      let b = both _ _ h in
      let d = both _ _ b.1 in
      record { text = leb-true _ _ b.0; size = leb-true _ _ d.0; step = ltb-true _ _ d.1 }

  is-label : (i : ℕ) → LabelFacts a i → label_shaped a i ≡ true
  is-label i f = both_true (le-leb _ _ f.text) (both_true (le-leb _ _ f.size) (lt-ltb _ _ f.step))

  is-link : (l : ℕ) → LinkFacts a l → link_shaped a l ≡ true
  is-link l f =
      both_true (both_true (is_later a l (next_at a l) f.next) (both_true (is_later a l (other_at a l) f.other) (both_true (is_later a l (far_at a l) f.far) (le-leb _ _ f.first))))
      (both_true (le-leb _ _ f.parent) (both_true (le-leb _ _ f.size) (both_true (le-leb _ _ f.fail) (lt-ltb _ _ f.shorter))))

  link-is : (l : ℕ) → link_shaped a l ≡ true → LinkFacts a l
  link-is l h =
      let b1 = both (chain_shaped a l) _ h in
      let c1 = both (later_place a l (next_at a l)) _ b1.0 in
      let c2 = both (later_place a l (other_at a l)) _ c1.1 in
      let c3 = both (later_place a l (far_at a l)) _ c2.1 in
      let b2 = both _ _ b1.1 in
      let b3 = both _ _ b2.1 in
      let b4 = both _ _ b3.1 in
      record {
        next = later-is a l (next_at a l) c1.0;
        other = later-is a l (other_at a l) c2.0;
        far = later-is a l (far_at a l) c3.0;
        first = leb-true _ _ c3.1;
        parent = leb-true _ _ b2.0;
        size = leb-true _ _ b3.0;
        fail = leb-true _ _ b4.0;
        shorter = ltb-true _ _ b4.1;
      }

  -- the test and its facts
  pub shaped-is : automaton_shaped a ≡ true → Shaped a
  unfolding automaton_shaped
  shaped-is h =
      let b1 = both (counts_shaped a) _ h in
      let b2 = both (set_shaped a) _ b1.1 in
      let b3 = both (all_below (folder_count a) (folder_shaped a)) _ b2.0 in
      let b4 = both (all_below (path_count a) (path_shaped a)) _ b3.1 in
      let b5 = both (all_below (step_count a) (step_shaped a)) (all_below (label_count a) (label_shaped a)) b4.1 in
      let b6 = both (all_below hashes (head_shaped a)) (all_below (label_count a) (link_shaped a)) b2.1 in
      record {
        counts = counts-is b1.0;
        folder = λ i l. folder-is i (all-at (folder_count a) (folder_shaped a) b3.0 i l);
        path = λ i l. path-is i (all-at (path_count a) (path_shaped a) b4.0 i l);
        step = λ i l. ltb-true (get_or a (steps_at + i) 0) step_kinds (all-at (step_count a) (step_shaped a) b5.0 i l);
        label = λ i l. label_is i (all-at (label_count a) (label_shaped a) b5.1 i l);
        head = λ i l. leb-true (head_at a i) (label_count a) (all-at hashes (head_shaped a) b6.0 i l);
        link = λ i l. link-is i (all-at (label_count a) (link_shaped a) b6.1 i l);
      }

  pub is-shaped : Shaped a → automaton_shaped a ≡ true
  unfolding automaton_shaped
  is-shaped s =
      both_true (is-counts s.counts)
      (both_true
      (both_true (is_all (folder_count a) (folder_shaped a) (λ i l. is-folder i (s.folder i l)))
      (both_true (is_all (path_count a) (path_shaped a) (λ i l. is-path i (s.path i l)))
      (both_true (is_all (step_count a) (step_shaped a) (λ i l. lt-ltb (get_or a (steps_at + i) 0) step_kinds (s.step i l)))
      (is_all (label_count a) (label_shaped a) (λ i l. is-label i (s.label i l))))))
      (both_true (is_all hashes (head_shaped a) (λ h l. le-leb (head_at a h) (label_count a) (s.head h l)))
      (is_all (label_count a) (link_shaped a) (λ i l. is-link i (s.link i l)))))

  -- so its tables can be walked
  pub shaped-walkable : automaton_shaped a ≡ true → Walkable a
  shaped-walkable h =
      let s = shaped-is h in
      record {
        searchable = record {
          lookable = record { few = s.counts.labels; head = s.head; other = λ l i. (s.link l i).other };
          first = λ l i. (s.link l i).first;
          next = λ l i. (s.link l i).next;
        };
        falling = record { fail = λ l i. (s.link l i).fail; size = λ l i. (s.link l i).size; shorter = λ l i. (s.link l i).shorter };
      }
