-- The pass stores each label's parent and the length of its word, as the automaton's definition has them.
use Rattle.std.proofs.Common.{Option, Some}
use Prim.Native.Nat.{ℕ, suc, ◌+◌, ◌≤◌, ◌<◌}
use native.Mathlib.Omega.{arith}
use mathlib.Core.Path.{◌≡◌, refl, sym, ap, ap₂, ◌∙◌, subst}
use mathlib.Core.Logic.{inl, inr}
use mathlib.Core.Bool.{Bool, true, false}
use mathlib.Core.List.{List, [], ◌∷◌, ◌++◌, append_assoc}
use lib.Dec.{ltb}
use borrow.Author.Tests.{lt-ltb, eq-eqb, ne_eqb, ltb-true, ltb-false}
use lib.ListN.{length, get_or, set, length-append, length-set}
use lib.Seq.{sets, get_or_at, take_at, set-set, get_or-set_same}
use Rattle.text.specs.Names.{Name}
use Rattle.notation.specs.Limits.{max_labels}
use Rattle.notation.specs.Sets.{Axis, child, descendant, Test, label, star, Step, step, Path, FolderSet, test_of}
use Rattle.notation.specs.Form.{paths_of, steps_of}
use Rattle.text.specs.Lists.{non_empty, every}
use Rattle.text.specs.Bytes.{le16}
use Rattle.notation.specs.Reads.{label_name, path_at, step_at, step_count, is_star, stored_step}
use Rattle.notation.specs.declared.reads.StoredStep.{StoredStep}
use Rattle.notation.proofs.Laws.Stored.LabelTable.{no_step}
use Rattle.notation.proofs.Laws.Stored.PathTable.{steps_before}
use Rattle.notation.proofs.Laws.Refused.Fitting.{Fitting}
use Rattle.notation.proofs.Laws.Stored.ReadPaths.{path-read, path-missing}
use Rattle.model.specs.Words.{document, name, Word, label_words}
use Rattle.model.specs.Walk.{followed_by}
use Rattle.model.specs.Prefix.{IsPrefix}
use Rattle.stored.specs.Automaton.{Link, find, all_steps, all_labels, words_in, all_words, same_word, state_among, state_of, shortened, heads, assembled, parent_in, size_in, all_masks, link_entry_at}
use Rattle.stored.specs.Tables.{size_at, size_of, goto}
use Rattle.stored.specs.Code.Parents.{starts_at, word_stored, labelled, tested, passed_by, passed, parented, before_paths}
use Rattle.stored.specs.declared.place.Place.{Place}
use Rattle.text.proofs.Laws.Tests.{cases, clash}
use Rattle.stored.proofs.Laws.Bytes.Tabulate.{tabulate-length}
use Rattle.stored.proofs.Laws.Tables.Assembled.{chain_in, with_parent, with_length, no_link, Sized, parent-put, size-put, size-read}
use Rattle.stored.proofs.Laws.Tables.SetReads.{of-set, label-bytes, step-entry, step_count-is}
use Rattle.stored.proofs.Laws.Tables.States.{same_word-is, word_same, shortened-followed, followed-last, words_count, word-ends, label-parent, state-followed}
use Rattle.stored.proofs.Laws.Tables.Chained.{Chained, chain_at}
use Rattle.stored.proofs.Laws.Tables.Goto.{ParentAt, goto-word}
use Rattle.stored.proofs.Laws.Tables.Linked.{chained-here, parent-here}
use Rattle.stored.proofs.Laws.Building.Placed.{flagged, placed, up_to, up_to-length, up_to-done, up_to-rest, up_to-step, up_to-all, find_first, words-short}

-- the word is empty, `#`, or that of a label below l
data Seen (s : FolderSet) (l : ℕ) (w : Word) : Type 0 where
  nothing : w ≡ [] → Seen s l w
  rooted : w ≡ document ∷ [] → Seen s l w
  earlier : (m : ℕ) → m < l → get_or (all_words s) m [] ≡ w → Seen s l w

-- step i is met, with the path's steps p and the paths ps after it: `front` are the steps before it, `done` the words of the labels before,
-- `gone` the paths begun, and w is the run before the step
record Here (s : FolderSet) (i l begun : ℕ) (w : Word) (p : Path) (ps : List Path) : Type 0 where
  front : List Step
  steps : all_steps s ≡ front ++ (p ++ steps_of ps)
  front_size : length front ≡ i
  done : List Word
  words : all_words s ≡ done ++ (label_words w p ++ words_in ps)
  done_size : length done ≡ l
  gone : List Path
  paths : paths_of s ≡ gone ++ ps
  gone_size : length gone ≡ begun
  until : i + length p ≡ length (steps_of gone)
  seen : Seen s l w
  over_capacity : every non_empty ps ≡ true

-- the same with the step's axis dealt with
record Ready (s : FolderSet) (i l begun : ℕ) (w : Word) (x : Step) (p : Path) (ps : List Path) : Type 0 where
  front : List Step
  steps : all_steps s ≡ front ++ (x ∷ (p ++ steps_of ps))
  front_size : length front ≡ i
  done : List Word
  words : all_words s ≡ done ++ (label_words w (step child (test_of x) ∷ p) ++ words_in ps)
  done_size : length done ≡ l
  gone : List Path
  paths : paths_of s ≡ gone ++ ps
  gone_size : length gone ≡ begun
  until : i + suc (length p) ≡ length (steps_of gone)
  seen : Seen s l w
  over_capacity : every non_empty ps ≡ true

-- one step of the pass
next-step : (left i : ℕ) (at : Place) (a : List ℕ) (first : Bool) {x : Option StoredStep} → step_at a i ≡ x → starts_at (path_at a (record { 0 = at.paths })) i ≡ first
    → parented (suc left) i at a ≡ parented left (i + 1) (passed_by x first at a).place (passed_by x first at a).bytes
unfolding parented passed
next-step left i at a first e g =
    ap₂ (λ (x : Option StoredStep) (b : Bool). parented left (i + 1) (passed_by x b at a).place (passed_by x b at a).bytes) e g

-- the path of this place begins further on, or here
steps-before : (s : FolderSet) (gone ps : List Path) → paths_of s ≡ gone ++ ps → steps_before (paths_of s) (length gone) ≡ length (steps_of gone)
steps-before s gone ps e = rw e (ap (λ (l : List Path). length (steps_of l)) (take_at gone ps (length gone) refl))

-- a step after others of its path
go-deep : (s : FolderSet) (w : Word) (t : Test) (p : Path) (ps : List Path) (done : List Word) → all_words s ≡ done ++ (label_words w (step descendant t ∷ p) ++ words_in ps)
    → all_words s ≡ done ++ (label_words [] (step child t ∷ p) ++ words_in ps)
unfolding label_words
go-deep s w (label n) p ps done e = e
go-deep s w star p ps done e = e

go_on : (s : FolderSet) (i l begun : ℕ) (w : Word) (x : Step) (v : Word) (p : Path) (ps : List Path) (h : Here s i l begun w (x ∷ p) ps)
    → all_words s ≡ h.done ++ (label_words v (step child (test_of x) ∷ p) ++ words_in ps) → Seen s l v → Ready s i l begun v x p ps
go_on s i l begun w x v p ps h e q = record {
  front = h.front;
  steps = h.steps;
  front_size = h.front_size;
  done = h.done;
  words = e;
  done_size = h.done_size;
  gone = h.gone;
  paths = h.paths;
  gone_size = h.gone_size;
  until = h.until;
  seen = q;
  over_capacity = h.over_capacity;
}

-- a path's first step
begun-words : (s : FolderSet) (t : Test) (p : Path) (ps : List Path) (done : List Word) → all_words s ≡ done ++ words_in ((step child t ∷ p) ∷ ps)
    → all_words s ≡ done ++ (label_words (document ∷ []) (step child t ∷ p) ++ words_in ps)
unfolding words_in
begun-words s t p ps done e = e

begun-deep : (s : FolderSet) (t : Test) (p : Path) (ps : List Path) (done : List Word) → all_words s ≡ done ++ words_in ((step descendant t ∷ p) ∷ ps)
    → all_words s ≡ done ++ (label_words [] (step child t ∷ p) ++ words_in ps)
unfolding words_in
begun-deep s t p ps done e = go-deep s [] t p ps done e

begin : (s : FolderSet) (i l begun : ℕ) (w : Word) (x : Step) (v : Word) (p : Path) (ps : List Path) (h : Here s i l begun w [] ((x ∷ p) ∷ ps))
    → all_words s ≡ h.done ++ (label_words v (step child (test_of x) ∷ p) ++ words_in ps) → Seen s l v → Ready s i l (begun + 1) v x p ps
unfolding steps_of every
begin s i l begun w x v p ps h e q = record {
  front = h.front;
  steps = h.steps;
  front_size = h.front_size;
  done = h.done;
  words = e;
  done_size = h.done_size;
  gone = h.gone ++ ((x ∷ p) ∷ []);
  paths = h.paths ∙ sym (append_assoc h.gone ((x ∷ p) ∷ []) ps);
  gone_size = length-append h.gone ((x ∷ p) ∷ []) ∙ ap (λ (n : ℕ). n + 1) h.gone_size;
  until = omega (arith, h.until, steps-one h.gone (x ∷ p));
  seen = q;
  over_capacity = h.over_capacity;
}
  where
    steps-one : (g : List Path) (y : Path) → length (steps_of (g ++ (y ∷ []))) ≡ length (steps_of g) + length y
    steps-one [] y = omega (arith, length-append {A = Step} y [])
    steps-one (z ∷ g) y = omega (arith, length-append z (steps_of (g ++ (y ∷ []))), length-append z (steps_of g), steps-one g y)

module _ (s : FolderSet) (fit : Fitting s) (ls : List Link) (ms : List ℕ) (f : ℕ) (rest : List ℕ) (count : length ls ≡ length (all_labels s)) (masks : length ms ≡ all_masks)
    (chain : (l : ℕ) → l < length (all_labels s) → chain_in (get_or ls l no_link) ≡ chain_at (all_labels s) l) where
  stage : ℕ → List ℕ
  stage l = assembled s (heads (all_labels s)) (up_to s ls l) ms f ++ rest

  counted : length ls ≡ length (all_words s)
  counted = count ∙ sym (words_count s)

  counts : (l : ℕ) → length (up_to s ls l) ≡ length (all_labels s)
  counts l = up_to-length s ls counted l ∙ count

  sized : (ks : List Link) → length ks ≡ length (all_labels s) → Sized (heads (all_labels s)) ks ms
  sized ks e = record { heads = tabulate-length _ _; links = omega (arith, fit.labels, e); masks = masks }

  chain-kept : (l m : ℕ) → l ≤ length (all_labels s) → m < length (all_labels s) → chain_in (get_or (up_to s ls l) m no_link) ≡ chain_at (all_labels s) m
  chain-kept l m h k =
      cases (ltb m l)
      (λ t. ap chain_in (up_to-done s ls counted l m (rw count h) (ltb-true m l t)) ∙ chain m k)
      (λ t. ap chain_in (up_to-rest s ls counted l m (rw count h) (ltb-false m l t)) ∙ chain m k)

  chains : (l : ℕ) → l ≤ length (all_labels s) → Chained s (stage l)
  unfolding stage
  chains l h = chained-here s fit (up_to s ls l) ms f (sized (up_to s ls l) (counts l)) rest (counts l) (λ m k. chain-kept l m h k)

  parents : (l m : ℕ) → l ≤ length (all_labels s) → m < l → ParentAt s (stage l) m
  unfolding stage
  parents l m h k =
      parent-here s fit (up_to s ls l) ms f (sized (up_to s ls l) (counts l)) rest (counts l) (λ m k. chain-kept l m h k) m (omega arith)
      (ap (λ (k : Link). k.parent) (up_to-done s ls counted l m (rw count h) k))

  -- the length of a word seen is stored
  size-at : (l m : ℕ) → l ≤ length (all_labels s) → m < l → size_at (stage l) m ≡ length (get_or (all_words s) m [])
  unfolding stage max_labels
  size-at l m h k =
      let e : (get_or (up_to s ls l) m no_link).size ≡ length (get_or (all_words s) m []) =
      ap (λ (k : Link). k.size) (up_to-done s ls counted l m (rw count h) k) in
      size-read s fit (heads (all_labels s)) (up_to s ls l) ms f (sized (up_to s ls l) (counts l)) rest m (omega (arith, counts l))
      (omega (arith, e, words-short s m (omega (arith, words_count s)), fit.labels))
      ∙ e

  size-here : (l : ℕ) (w : Word) → l ≤ length (all_labels s) → Seen s l w → size_of (stage l) (state_of s w) ≡ length w
  unfolding size_of state_among
  size-here l w h (nothing e) = rw e
  size-here l w h (rooted e) = rw e
  size-here l w h (earlier m k e) =
      let b : m < length (all_words s) = omega (arith, words_count s) in
      let x = word-ends s m (omega arith) in
      let v : w ≡ followed_by x.0 (get_or (all_labels s) m []) = sym e ∙ x.1 in
      let st : state_of s w ≡ find (same_word w) 2 (all_words s) = rw v (state-followed (all_words s) x.0 (get_or (all_labels s) m [])) in
      let r = find_first (same_word w) [] 2 (all_words s) m b (rw e (word_same w)) in
      let q : state_of s w ≡ suc (suc r.0) = omega (arith, st, r.2) in
      rw q (size-at l r.0 h (omega (arith, r.1)) ∙ ap length (sym (same_word-is w (get_or (all_words s) r.0 []) r.3)))

  -- one label
  module _ (l : ℕ) (h : l < length (all_labels s)) (w : Word) (e : Name) (word : get_or (all_words s) l [] ≡ followed_by w e) (seen : Seen s l w) where
    label-name : get_or (all_labels s) l [] ≡ e
    label-name = let x = word-ends s l h in followed-last x.0 w (get_or (all_labels s) l []) e (sym x.1 ∙ word)

    is-prefix : IsPrefix s w
    is-prefix = subst (IsPrefix s) (ap shortened word ∙ shortened-followed w e) (label-parent s l h)

    stored : word_stored l (state_of s w) (stage l) ≡ stage (l + 1)
    unfolding stage
    stored =
        let ks : List Link = up_to s ls l in
        let k : Link = get_or ls l no_link in
        let here : get_or ks l no_link ≡ k = up_to-rest s ls counted l l (rw count (omega arith)) (omega arith) in
        let b : l < length ks = omega (arith, counts l) in
        let p : Link = with_parent (state_of s w) k in
        let ks' : List Link = set ks l p in
        let n' : length ks' ≡ length (all_labels s) = length-set ks l p ∙ counts l in
        let size : size_of (stage l) (state_of s w) + 1 ≡ length w + 1 = ap (λ (n : ℕ). n + 1) (size-here l w (omega arith) seen) in
        let m : with_length (length w + 1) p ≡ flagged s (get_or (all_words s) l []) k = rw (word, shortened-followed w e, length-append w (name e ∷ [])) in
        ap (λ (n : ℕ). sets (sets (stage l) (link_entry_at l + parent_in) (le16 (state_of s w))) (link_entry_at l + size_in) (le16 n)) size
        ∙ ap (λ (a : List ℕ). sets a (link_entry_at l + size_in) (le16 (length w + 1)))
        (parent-put s fit (heads (all_labels s)) ks ms f (sized ks (counts l)) rest l (state_of s w) b
        ∙ ap (λ (x : Link). assembled s (heads (all_labels s)) (set ks l (with_parent (state_of s w) x)) ms f ++ rest) here)
        ∙ size-put s fit (heads (all_labels s)) ks' ms f (sized ks' n') rest l (length w + 1) (omega (arith, n'))
        ∙ ap (λ (x : List Link). assembled s (heads (all_labels s)) x ms f ++ rest)
        (ap (λ (x : Link). set ks' l (with_length (length w + 1) x)) (get_or-set_same ks l p no_link b)
        ∙ set-set ks l p (with_length (length w + 1) p)
        ∙ ap (λ (x : Link). set ks l x) m
        ∙ up_to-step s ls counted l (omega (arith, count)))

    found : goto (stage (l + 1)) (state_of s w) (label_name (stage (l + 1)) l) ≡ state_of s (followed_by w e)
    unfolding stage
    found =
        let b : l + 1 ≤ length (all_labels s) = omega arith in
        ap (goto (stage (l + 1)) (state_of s w)) (named ∙ label-name)
        ∙ goto-word s (stage (l + 1)) (chains (l + 1) b) w is-prefix e (λ m k.
        cases (ltb m (l + 1)) (λ t. inl (parents (l + 1) m b (ltb-true m (l + 1) t))) (λ t. inr (l, omega (arith, ltb-false m (l + 1) t), word)))
      where
        named : label_name (stage (l + 1)) l ≡ get_or (all_labels s) l []
        named = label-bytes s fit (heads (all_labels s)) (up_to s ls (l + 1)) ms f rest l h

    labelled-is : (paths : ℕ) → labelled (record { labels = l; paths = paths; state = state_of s w }) (stage l)
        ≡ record { bytes = stage (l + 1); place = record { labels = l + 1; paths = paths; state = state_of s (followed_by w e) } }
    unfolding labelled
    labelled-is paths = rw (lt-ltb l max_labels (omega (arith, fit.labels)), stored, found)

  at : ℕ → ℕ → Word → Place
  at l begun w = record { labels = l; paths = begun; state = state_of s w }

  step-here : (l i : ℕ) (front : List Step) (x : Step) (more : List Step) → all_steps s ≡ front ++ (x ∷ more) → length front ≡ i
      → step_at (stage l) i ≡ Some (stored_step x)
  unfolding stage
  step-here l i front x more e n =
      let g : get_or (all_steps s) i no_step ≡ x = rw e (get_or_at front x more no_step i n) in
      rw (← g) (step-entry s fit (heads (all_labels s)) (up_to s ls l) ms f rest i (omega (arith, ap length e, length-append front (x ∷ more))))

  first-here : (l i : ℕ) (gone : List Path) (p : Path) (ps : List Path) → paths_of s ≡ gone ++ (p ∷ ps) → i ≡ length (steps_of gone)
      → starts_at (path_at (stage l) (record { 0 = length gone })) i ≡ true
  unfolding stage
  first-here l i gone p ps e n =
      of-set s fit (heads (all_labels s)) (up_to s ls l) ms f rest (λ a. starts_at (path_at a (record { 0 = length gone })) i ≡ true)
      (λ more. rw (path-read s fit more (length gone) (omega (arith, ap length e, length-append gone (p ∷ ps)))).answer (eq-eqb (steps_before (paths_of s) (length gone)) i (steps-before s gone (p ∷ ps) e ∙ sym n)))

  first-not : (l i : ℕ) (gone ps : List Path) → paths_of s ≡ gone ++ ps → i < length (steps_of gone) → starts_at (path_at (stage l) (record { 0 = length gone })) i ≡ false
  unfolding stage
  first-not l i gone [] e n =
      of-set s fit (heads (all_labels s)) (up_to s ls l) ms f rest (λ a. starts_at (path_at a (record { 0 = length gone })) i ≡ false)
      (λ more. rw (path-missing s fit more (length gone) (omega (arith, ap length e, length-append {A = Path} gone []))))
  first-not l i gone (p ∷ ps) e n =
      of-set s fit (heads (all_labels s)) (up_to s ls l) ms f rest (λ a. starts_at (path_at a (record { 0 = length gone })) i ≡ false)
      (λ more. rw (path-read s fit more (length gone) (omega (arith, ap length e, length-append gone (p ∷ ps)))).answer
      (ne_eqb (steps_before (paths_of s) (length gone)) i (λ q. absurd (omega (arith, steps-before s gone (p ∷ ps) e)))))

  -- a step's test
  after : (i l begun left : ℕ) (w : Word) (a : Axis) (t : Test) (p : Path) (ps : List Path) → Ready s i l begun w (step a t) p ps
      → ((l' : ℕ) (w' : Word) → Here s (i + 1) l' begun w' p ps → parented left (i + 1) (at l' begun w') (stage l') ≡ stage (length (all_labels s)))
      → parented left (i + 1) (tested (is_star t) (at l begun w) (stage l)).place (tested (is_star t) (at l begun w) (stage l)).bytes ≡ stage (length (all_labels s))
  unfolding at label_words state_among
  after i l begun left w a (label n) p ps r k =
      let e : get_or (all_words s) l [] ≡ followed_by w n = rw r.words (get_or_at r.done (followed_by w n) (label_words (followed_by w n) p ++ words_in ps) [] l r.done_size) in
      let h : l < length (all_labels s) =
      omega (arith, words_count s, ap length r.words, length-append r.done (followed_by w n ∷ (label_words (followed_by w n) p ++ words_in ps)), r.done_size) in
      rw (labelled-is l h w n e r.seen begun) (k (l + 1) (followed_by w n) (record {
        front = r.front ++ (step a (label n) ∷ []);
        steps = r.steps ∙ sym (append_assoc r.front (step a (label n) ∷ []) (p ++ steps_of ps));
        front_size = length-append r.front (step a (label n) ∷ []) ∙ ap (λ (m : ℕ). m + 1) r.front_size;
        done = r.done ++ (followed_by w n ∷ []);
        words = r.words ∙ sym (append_assoc r.done (followed_by w n ∷ []) (label_words (followed_by w n) p ++ words_in ps));
        done_size = length-append r.done (followed_by w n ∷ []) ∙ ap (λ (m : ℕ). m + 1) r.done_size;
        gone = r.gone;
        paths = r.paths;
        gone_size = r.gone_size;
        until = omega (arith, r.until);
        seen = earlier l (omega arith) e;
        over_capacity = r.over_capacity;
      }))
  after i l begun left w a star p ps r k = k l [] (record {
    front = r.front ++ (step a star ∷ []);
    steps = r.steps ∙ sym (append_assoc r.front (step a star ∷ []) (p ++ steps_of ps));
    front_size = length-append r.front (step a star ∷ []) ∙ ap (λ (m : ℕ). m + 1) r.front_size;
    done = r.done;
    words = r.words;
    done_size = r.done_size;
    gone = r.gone;
    paths = r.paths;
    gone_size = r.gone_size;
    until = omega (arith, r.until);
    seen = nothing refl;
    over_capacity = r.over_capacity;
  })

  Claim : Path → List Path → Type 0
  Claim p ps = (i l begun : ℕ) (w : Word) → Here s i l begun w p ps → parented (length (p ++ steps_of ps)) i (at l begun w) (stage l) ≡ stage (length (all_labels s))

  -- the steps of a path, and then the paths after it
  inside : (p : Path) (ps : List Path) → Claim [] ps → Claim p ps
  unfolding Claim parented passed at state_among label_words
  inside [] ps k i l begun w h = k i l begun w h
  inside (step child t ∷ p) ps k i l begun w h =
      next-step (length (p ++ steps_of ps)) i (at l begun w) (stage l) false
      (step-here l i h.front (step child t) (p ++ steps_of ps) h.steps h.front_size)
      (rw (← h.gone_size) (first-not l i h.gone ps h.paths (omega (arith, h.until))))
      ∙ after i l begun (length (p ++ steps_of ps)) w child t p ps (go_on s i l begun w (step child t) w p ps h h.words h.seen) (λ l' w' r. inside p ps k (i + 1) l' begun w' r)
  inside (step descendant t ∷ p) ps k i l begun w h =
      next-step (length (p ++ steps_of ps)) i (at l begun w) (stage l) false
      (step-here l i h.front (step descendant t) (p ++ steps_of ps) h.steps h.front_size)
      (rw (← h.gone_size) (first-not l i h.gone ps h.paths (omega (arith, h.until))))
      ∙ after i l begun (length (p ++ steps_of ps)) [] descendant t p ps (go_on s i l begun w (step descendant t) [] p ps h (go-deep s w t p ps h.done h.words) (nothing refl)) (λ l' w' r. inside p ps k (i + 1) l' begun w' r)

  -- the paths that are left
  outside : (ps : List Path) → Claim [] ps
  unfolding Claim parented passed at state_among label_words steps_of words_in every
  outside [] i l begun w h =
      let e : l ≡ length (all_labels s) = omega (arith, words_count s, ap length h.words, length-append {A = Word} h.done [], h.done_size) in
      ap stage e
  outside ([] ∷ ps) i l begun w h = clash h.over_capacity refl
  outside ((step child t ∷ p) ∷ ps) i l begun w h =
      next-step (length (p ++ steps_of ps)) i (at l begun w) (stage l) true
      (step-here l i h.front (step child t) (p ++ steps_of ps) h.steps h.front_size)
      (rw (← h.gone_size) (first-here l i h.gone (step child t ∷ p) ps h.paths (omega (arith, h.until))))
      ∙ (after i l (begun + 1) (length (p ++ steps_of ps)) (document ∷ []) child t p ps
      (begin s i l begun w (step child t) (document ∷ []) p ps h (begun-words s t p ps h.done h.words) (rooted refl))
      (λ l' w' r. inside p ps (outside ps) (i + 1) l' (begun + 1) w' r))
  outside ((step descendant t ∷ p) ∷ ps) i l begun w h =
      next-step (length (p ++ steps_of ps)) i (at l begun w) (stage l) true
      (step-here l i h.front (step descendant t) (p ++ steps_of ps) h.steps h.front_size)
      (rw (← h.gone_size) (first-here l i h.gone (step descendant t ∷ p) ps h.paths (omega (arith, h.until))))
      ∙ (after i l (begun + 1) (length (p ++ steps_of ps)) [] descendant t p ps
      (begin s i l begun w (step descendant t) [] p ps h (begun-deep s t p ps h.done h.words) (nothing refl))
      (λ l' w' r. inside p ps (outside ps) (i + 1) l' (begun + 1) w' r))

  -- the whole pass
  pub parented-is : every non_empty (paths_of s) ≡ true
      → parented (step_count (assembled s (heads (all_labels s)) ls ms f ++ rest)) 0 before_paths (assembled s (heads (all_labels s)) ls ms f ++ rest)
      ≡ assembled s (heads (all_labels s)) (placed s (all_words s) ls) ms f ++ rest
  unfolding stage at Claim state_among label_words steps_of
  parented-is over_capacity =
      let all : parented (length (all_steps s)) 0 before_paths (stage 0) ≡ stage (length (all_labels s)) = outside (paths_of s) 0 0 0 [] (record {
        front = [];
        steps = refl;
        front_size = refl;
        done = [];
        words = refl;
        done_size = refl;
        gone = [];
        paths = refl;
        gone_size = refl;
        until = refl;
        seen = nothing refl;
        over_capacity = over_capacity;
      }) in
      ap (λ (n : ℕ). parented n 0 before_paths (stage 0)) (step_count-is s fit (heads (all_labels s)) ls ms f rest)
      ∙ all
      ∙ ap (λ (ks : List Link). assembled s (heads (all_labels s)) ks ms f ++ rest) (ap (up_to s ls) (sym count) ∙ up_to-all s ls counted)
