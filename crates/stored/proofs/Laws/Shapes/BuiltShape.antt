-- The automaton of every accepted set passes the shape test, whatever stands behind it.
use Prim.Native.Nat.{ℕ, ◌+◌, ◌*◌, ◌≤◌, ◌<◌}
use mathlib.Core.Path.{◌≡◌, ◌∙◌, ap}
use mathlib.Core.Bool.{Bool, true, false}
use mathlib.Core.Logic.{inl, inr}
use mathlib.Core.List.Memᴰ
use mathlib.Core.List.{List, [], ◌∷◌, ◌++◌, Memᴰ}
use native.Mathlib.Omega.{arith}
use lib.ListN.{length, get_or, length-append}
use borrow.Author.Tests.{ltb-false}
use Rattle.notation.specs.Limits.{max_set_bytes, max_paths, max_steps}
use Rattle.notation.specs.Sets.{FolderSet}
use Rattle.text.specs.Lists.{any}
use Rattle.notation.specs.Form.{formed, paths_of, path_long, paths_long, names_long}
use Rattle.notation.specs.Accepted.{Accepted}
use Rattle.notation.specs.Layout.{steps_at, step_kinds}
use Rattle.notation.specs.Reads.{text_len, folder_count, path_count, step_count, label_count}
use Rattle.notation.proofs.Laws.Refused.Fitting.{Fitting}
use Rattle.notation.proofs.Laws.Refused.AcceptedSet.{accepted-fits}
use Rattle.notation.proofs.Laws.Stored.Reads.{text-len, folders-read, paths-read, steps-read}
use Rattle.model.specs.Words.{before, begins, document}
use Rattle.model.specs.Walk.{followed_by}
use Rattle.stored.specs.Automaton.{masks_from, masks, all_labels, heads, links, start_state, automaton_of, all_masks, Link}
use Rattle.stored.specs.Tables.{far_at}
use Rattle.stored.specs.Usable.{After}
use Rattle.stored.specs.Shape.{automaton_shaped}
use Rattle.stored.specs.Code.Fails.{Growing}
use Rattle.model.proofs.Laws.Keywords.Labels.{LabelWord, begins-label}
use Rattle.stored.proofs.Laws.Bytes.Bits.{bit-small}
use Rattle.stored.proofs.Laws.Bytes.Tabulate.{tabulate-length}
use Rattle.stored.proofs.Laws.Tables.Assembled.{chain_in, group_in, start-read}
use Rattle.stored.proofs.Laws.Tables.States.{word-ends, label-begins}
use Rattle.stored.proofs.Laws.Building.Staged.{Links, Short, sized, stage-grows}
use Rattle.stored.proofs.Laws.Tables.Links.{marks-count, links-length, links-at}
use Rattle.stored.proofs.Laws.Tables.Compiled.{automaton-grouped, compiled-fitting, word-short}
use Rattle.stored.proofs.Laws.Tables.Searched.{behind-after}
use Rattle.stored.proofs.Laws.Building.Groups.{far-behind}
use Rattle.stored.proofs.Laws.Shapes.Shaped.{FolderFacts, PathFacts, LabelFacts, Shaped, is-shaped}
use Rattle.text.proofs.Laws.Tests.{neither}
use Rattle.stored.proofs.Laws.Shapes.SetShape.{folder-facts, path-facts, step-fact, label-facts}
use Rattle.stored.proofs.Laws.Tables.SetReads.{of-set}
use Rattle.stored.proofs.Laws.Building.Placed.{before-short}

none_of : {A : Type 0} (f : A → Bool) {a : A} (l : List A) → any f l ≡ false → Memᴰ a l → f a ≡ false
unfolding any
none_of f [] h m = absurd (Memᴰ.not-nil m)
none_of f (b ∷ l) h m =
    let n = neither (f b) (any f l) h in
    elim (Memᴰ.cases_cons m) [ inl e ↦ ap f e ∙ n.0 | inr t ↦ none_of f l n.1 t ]

pub words-short : (s : FolderSet) → paths_long s ≡ false → Short s
unfolding paths_long
words-short s few l h =
    let x = word-ends s l h in
    let n = get_or (all_labels s) l [] in
    let w : LabelWord s (followed_by x.0 n) = (begins-label s x.0 n).0 (rw x.1 at (label-begins s l h)) in
    let p : length w.path ≤ max_steps = ltb-false max_steps (length w.path) (none_of path_long (paths_of s) few w.of_set) in
    omega (arith, ap length x.1, word-short w.path (before w.path) (followed_by x.0 n) w.at_label, before-short w.path)

-- the links of a set
pub links-right : (s : FolderSet) → Links s (links s)
links-right s = record {
  count = links-length s;
  chain = λ l h. ap chain_in (links-at s l h);
  group = λ l h. ap group_in (links-at s l h);
  parent = λ l h. ap (λ (k : Link). k.parent) (links-at s l h);
  fail = λ l h. inr (ap (λ (k : Link). k.fail) (links-at s l h));
  size = λ l h. ap (λ (k : Link). k.size) (links-at s l h);
}

-- the masks' size
pub masks-length : (s : FolderSet) → length (masks s) ≡ all_masks
unfolding masks_from
masks-length s = simp (length-append, tabulate-length) (omega arith)

module _ (s : FolderSet) (fit : Fitting s) (few : paths_long s ≡ false) (rest : List ℕ) where
  pub built-grows : Growing (automaton_of s ++ rest)
  unfolding automaton_of
  built-grows = stage-grows s fit (words-short s few) (masks s) (start_state s) (masks-length s) rest (links s) (links-right s)

  far-after : (l : ℕ) → l < label_count (automaton_of s ++ rest) → After (automaton_of s ++ rest) l (far_at (automaton_of s ++ rest) l)
  far-after l h =
      let n = (compiled-fitting s fit rest).labels in
      let i : l < length (all_labels s) = rw n at h in
      rw ((automaton-grouped s fit rest).far l (rw (marks-count s) i)) (behind-after (all_labels s) (automaton_of s ++ rest) l _ i n (far-behind s fit l i))

  -- what the shape test is about
  built-facts : formed s ≡ true → names_long s ≡ false → Shaped (automaton_of s ++ rest)
  unfolding automaton_of
  built-facts well names =
      let hs = heads (all_labels s) in
      let g = built-grows in
      let w = g.walkable in
      let small : start_state s ≤ 1 = bit-small (begins s (document ∷ [])) in
      let z = sized s fit (words-short s few) (masks s) (start_state s) (masks-length s) rest (links s) (links-right s) in
      record {
        counts = record {
          text = of-set s fit hs (links s) (masks s) (start_state s) rest (λ a. text_len a ≤ max_set_bytes) (λ more. rw (text-len s fit more) fit.bytes);
          folders = of-set s fit hs (links s) (masks s) (start_state s) rest (λ a. folder_count a ≤ max_paths) (λ more. rw (folders-read s fit more) fit.folders);
          paths = of-set s fit hs (links s) (masks s) (start_state s) rest (λ a. path_count a ≤ max_paths) (λ more. rw (paths-read s fit more) fit.paths);
          steps = of-set s fit hs (links s) (masks s) (start_state s) rest (λ a. step_count a ≤ max_paths * max_steps) (λ more. rw (steps-read s fit more) fit.steps);
          labels = w.searchable.lookable.few;
          start = rw (start-read s fit hs (links s) (masks s) (start_state s) z rest (omega arith)) small;
        };
        folder = of-set s fit hs (links s) (masks s) (start_state s) rest (λ a. (i : ℕ) → i < folder_count a → FolderFacts a i) (λ more. folder-facts s fit more well);
        path = of-set s fit hs (links s) (masks s) (start_state s) rest (λ a. (i : ℕ) → i < path_count a → PathFacts a i) (λ more. path-facts s fit more well few);
        step = of-set s fit hs (links s) (masks s) (start_state s) rest (λ a. (i : ℕ) → i < step_count a → get_or a (steps_at + i) 0 < step_kinds) (λ more. step-fact s fit more);
        label = of-set s fit hs (links s) (masks s) (start_state s) rest (λ a. (i : ℕ) → i < label_count a → LabelFacts a i) (λ more. label-facts s fit more names);
        head = w.searchable.lookable.head;
        link = λ l h. record {
          next = w.searchable.next l h;
          other = w.searchable.lookable.other l h;
          far = far-after l h;
          first = w.searchable.first l h;
          parent = g.parent l h;
          fail = w.falling.fail l h;
          size = w.falling.size l h;
          shorter = w.falling.shorter l h;
        };
      }

-- every built automaton passes
pub built-shaped : {text : List ℕ} (s : FolderSet) → Accepted text s → (rest : List ℕ) → automaton_shaped (automaton_of s ++ rest) ≡ true
built-shaped {text} s a rest = is-shaped (automaton_of s ++ rest) (built-facts s (accepted-fits text s a) a.paths rest a.well a.names)
