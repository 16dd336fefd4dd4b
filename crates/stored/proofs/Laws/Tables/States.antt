-- The states of words: each word that begins a keyword has a state of its own, which says where it stands among the labels' words.
use Prim.Native.Nat.{ℕ, zero, suc, ◌≤◌, ◌<◌}
use mathlib.Core.Path.{◌≡◌, refl, sym, ◌∙◌, ap, ap₂, subst}
use mathlib.Core.Bool.{true, false}
use mathlib.Core.Logic.{◌⊎◌, inl, inr}
use mathlib.Core.List.Memᴰ
use mathlib.Core.List.{List, [], ◌∷◌, ◌++◌, tail-eq_of_cons-eq, head-eq_of_cons-eq, Memᴰ}
use native.Mathlib.Omega.{arith}
use lib.ListN.{length, get_or, length-append}
use Rattle.text.specs.Names.{Name}
use Rattle.notation.specs.Sets.{child, descendant, label, star, step, Path, FolderSet}
use Rattle.notation.specs.Form.{paths_of, steps_of, labels_of}
use Rattle.notation.proofs.Laws.Parts.{labels_append}
use Rattle.model.specs.Words.{document, name, Word, same_symbol, before, label_words, Begins, begins}
use Rattle.model.specs.Prefix.{IsPrefix}
use Rattle.model.specs.Walk.{followed_by}
use Rattle.stored.specs.Automaton.{find, all_labels, words_in, all_words, same_word, state_among, state_of, shortened}
use Rattle.text.proofs.Laws.Tests.{both, both_true, cases, clash}
use Rattle.model.proofs.Laws.Keywords.Words.{same-symbol, symbol-same, begins-is, is-begins, begins-shorter}
use Rattle.model.proofs.Laws.Keywords.Labels.{LabelWord, begins-label, Kind, empty, root, labelled, begins-kind}
use Rattle.stored.proofs.Laws.Bytes.Finding.{find_none, find-some}

pub same_word-is : (u v : Word) → same_word u v ≡ true → u ≡ v
unfolding same_word
same_word-is [] [] h = refl
same_word-is [] (t ∷ v) h = clash h refl
same_word-is (s ∷ u) [] h = clash h refl
same_word-is (s ∷ u) (t ∷ v) h = let b = both (same_symbol s t) (same_word u v) h in ap₂ ◌∷◌ (same-symbol s t b.0) (same_word-is u v b.1)

pub word_same : (u : Word) → same_word u u ≡ true
unfolding same_word
word_same [] = refl
word_same (s ∷ u) = both_true (symbol-same s) (word_same u)

pub shortened-followed : (w : Word) (e : Name) → shortened (followed_by w e) ≡ w
unfolding shortened
shortened-followed [] e = refl
shortened-followed (s ∷ []) e = refl
shortened-followed (s ∷ t ∷ w) e = ap (λ (l : Word). s ∷ l) (shortened-followed (t ∷ w) e)

pub followed-last : (v w : Word) (d e : Name) → followed_by v d ≡ followed_by w e → d ≡ e
followed-last [] [] d e h = let p : name d ≡ name e = head-eq_of_cons-eq h in cc
followed-last [] (t ∷ w) d e h = absurd (omega (arith, ap length h, length-append w (name e ∷ [])))
followed-last (s ∷ v) [] d e h = absurd (omega (arith, ap length h, length-append v (name d ∷ [])))
followed-last (s ∷ v) (t ∷ w) d e h = followed-last v w d e (tail-eq_of_cons-eq h)

-- each word ends with its label
pub data Ends : List Word → List Name → Type 0 where
  none : Ends [] []
  more : {w : Word} (v : Word) {n : Name} {ws : List Word} {ns : List Name} → w ≡ followed_by v n → Ends ws ns → Ends (w ∷ ws) (n ∷ ns)

ends-append : {ws vs : List Word} {ns ms : List Name} → Ends ws ns → Ends vs ms → Ends (ws ++ vs) (ns ++ ms)
ends-append none f = f
ends-append (more v h e) f = more v h (ends-append e f)

ends-path : (p : Path) (w : Word) → Ends (label_words w p) (labels_of p)
unfolding label_words labels_of
ends-path [] w = none
ends-path (step child (label n) ∷ p) w = more w refl (ends-path p (followed_by w n))
ends-path (step child star ∷ p) w = ends-path p []
ends-path (step descendant (label n) ∷ p) w = more [] refl (ends-path p (name n ∷ []))
ends-path (step descendant star ∷ p) w = ends-path p []

ends-paths : (ps : List Path) → Ends (words_in ps) (labels_of (steps_of ps))
unfolding words_in labels_of steps_of
ends-paths [] = none
ends-paths (p ∷ ps) = rw (labels_append p (steps_of ps)) (ends-append (ends-path p (before p)) (ends-paths ps))

pub ends-all : (s : FolderSet) → Ends (all_words s) (all_labels s)
ends-all s = ends-paths (paths_of s)

ends-length : {ws : List Word} {ns : List Name} → Ends ws ns → length ws ≡ length ns
ends-length none = refl
ends-length (more v h e) = ap suc (ends-length e)

-- a label for each word
pub words_count : (s : FolderSet) → length (all_words s) ≡ length (all_labels s)
words_count s = ends-length (ends-all s)

ends_at : {ws : List Word} {ns : List Name} → Ends ws ns → (l : ℕ) → l < length ns → (v : Word) × (get_or ws l [] ≡ followed_by v (get_or ns l []))
ends_at none l h = absurd (omega arith)
ends_at (more v h e) zero k = (v, h)
ends_at (more v h e) (suc l) k = ends_at e l (omega arith)

pub word-ends : (s : FolderSet) (l : ℕ) → l < length (all_labels s) → (v : Word) × (get_or (all_words s) l [] ≡ followed_by v (get_or (all_labels s) l []))
word-ends s l h = ends_at (ends-all s) l h

-- a label's word is among the words of all labels, and each of these is a label's
words-in : (ps : List Path) {p : Path} {u : Word} → Memᴰ p ps → Memᴰ u (label_words (before p) p) → Memᴰ u (words_in ps)
unfolding words_in
words-in [] m t = absurd (Memᴰ.not-nil m)
words-in (q ∷ ps) {p} {u} m t = elim (Memᴰ.cases_cons m) [ inl e ↦ Memᴰ.append_left (words_in ps) (subst (λ (x : Path). Memᴰ u (label_words (before x) x)) e t) | inr n ↦ Memᴰ.append_right (label_words (before q) q) (words-in ps n t) ]

words_of : (ps : List Path) {u : Word} → Memᴰ u (words_in ps) → (p : Path) × Memᴰ p ps × Memᴰ u (label_words (before p) p)
unfolding words_in
words_of [] m = absurd (Memᴰ.not-nil m)
words_of (q ∷ ps) {u} m = go (λ n. words_of ps n) (Memᴰ.append_cases (label_words (before q) q) m)
  where
    go : (Memᴰ u (words_in ps) → (p : Path) × Memᴰ p ps × Memᴰ u (label_words (before p) p)) → Memᴰ u (label_words (before q) q) ⊎ Memᴰ u (words_in ps) → (p : Path) × Memᴰ p (q ∷ ps) × Memᴰ u (label_words (before p) p)
    go f (inl t) = (q, Memᴰ.head refl, t)
    go f (inr t) = let r = f t in (r.0, Memᴰ.tail r.1, r.2)

pub label-among : (s : FolderSet) {u : Word} → LabelWord s u → Memᴰ u (all_words s)
label-among s l = words-in (paths_of s) l.of_set l.at_label

pub among-label : (s : FolderSet) {u : Word} → Memᴰ u (all_words s) → LabelWord s u
among-label s m = let r = words_of (paths_of s) m in record { path = r.0; of_set = r.1; at_label = r.2 }

pub at-among : {A : Type 0} (ws : List A) (d : A) (l : ℕ) → l < length ws → Memᴰ (get_or ws l d) ws
at-among [] d l h = absurd (omega arith)
at-among (w ∷ ws) d zero h = Memᴰ.head refl
at-among (w ∷ ws) d (suc l) h = Memᴰ.tail (at-among ws d l (omega arith))

among-at : {A : Type 0} (ws : List A) (d : A) {x : A} → Memᴰ x ws → (l : ℕ) × (l < length ws) × (get_or ws l d ≡ x)
among-at [] d m = absurd (Memᴰ.not-nil m)
among-at (w ∷ ws) d {x} m = go (λ n. among-at ws d n) (Memᴰ.cases_cons m)
  where
    go : (Memᴰ x ws → (l : ℕ) × (l < length ws) × (get_or ws l d ≡ x)) → (x ≡ w) ⊎ Memᴰ x ws → (l : ℕ) × (l < length (w ∷ ws)) × (get_or (w ∷ ws) l d ≡ x)
    go f (inl e) = (0, omega arith, sym e)
    go f (inr n) = let r = f n in (suc r.0, omega (arith, r.1), r.2)

-- the word of a label begins a keyword, and so does it without its last symbol, unless that is empty
module _ (s : FolderSet) (l : ℕ) (h : l < length (all_labels s)) where
  at_label-is : LabelWord s (get_or (all_words s) l [])
  at_label-is = among-label s (at-among (all_words s) [] l (rw (words_count s) h))

  pub label-begins : Begins s (get_or (all_words s) l [])
  label-begins =
      let e = word-ends s l h in
      rw e.1 ((begins-label s e.0 (get_or (all_labels s) l [])).1 (rw e.1 at at_label-is))

  pub label-parent : IsPrefix s (shortened (get_or (all_words s) l []))
  label-parent =
      let e = word-ends s l h in
      let b : Begins s (followed_by e.0 (get_or (all_labels s) l [])) = rw e.1 at label-begins in
      rw (e.1, shortened-followed e.0 (get_or (all_labels s) l [])) (inl (begins-is s e.0 (begins-shorter s e.0 (name (get_or (all_labels s) l []) ∷ []) (is-begins s _ b))))

-- the state of a word that ends with a name
pub state-followed : (words : List Word) (w : Word) (e : Name) → state_among words (followed_by w e) ≡ find (same_word (followed_by w e)) 2 words
unfolding state_among
state-followed words [] e = refl
state-followed words (document ∷ []) e = refl
state-followed words (document ∷ s ∷ w) e = refl
state-followed words (name n ∷ w) e = refl

-- the word stands at a place of all words, and its state is 2 more
pub record LabelState (s : FolderSet) (u : Word) : Type 0 where
  pub index : ℕ
  pub below : index < length (all_labels s)
  pub is : state_of s u ≡ suc (suc index)
  pub word : get_or (all_words s) index [] ≡ u

pub data StateKind (s : FolderSet) (u : Word) : Type 0 where
  of_empty : u ≡ [] → state_of s u ≡ 0 → StateKind s u
  of_root : u ≡ document ∷ [] → state_of s u ≡ 1 → StateKind s u
  of_label : LabelState s u → StateKind s u

pub label-state : (s : FolderSet) (u : Word) → LabelWord s u → LabelState s u
label-state s u l =
    let m = label-among s l in
    let p = among-at (all_words s) [] m in
    let below : p.0 < length (all_labels s) = rw (words_count s) at p.1 in
    let e = word-ends s p.0 below in
    let is : u ≡ followed_by e.0 (get_or (all_labels s) p.0 []) = sym p.2 ∙ e.1 in
    let f = find-some (same_word u) [] 2 (all_words s) m (word_same u) in
    let st : state_of s u ≡ find (same_word u) 2 (all_words s) = found u e.0 (get_or (all_labels s) p.0 []) is in
    record { index = f.index; below = rw (words_count s) at f.below; is = omega (arith, st, f.is); word = sym (same_word-is u (get_or (all_words s) f.index []) f.passes) }
  where
    found : (u v : Word) (n : Name) → u ≡ followed_by v n → state_of s u ≡ find (same_word u) 2 (all_words s)
    found u v n e = rw e (state-followed (all_words s) v n)

pub state-empty : (s : FolderSet) (u : Word) → u ≡ [] → state_of s u ≡ 0
unfolding state_among
state-empty s u e = rw e

pub state-root : (s : FolderSet) (u : Word) → u ≡ document ∷ [] → state_of s u ≡ 1
unfolding state_among
state-root s u e = rw e

pub state-kind : (s : FolderSet) (u : Word) → IsPrefix s u → StateKind s u
state-kind s u (inr e) = of_empty e (state-empty s u e)
state-kind s u (inl b) = go (begins-kind s u b)
  where
    go : Kind s u → StateKind s u
    go (empty e) = of_empty e (state-empty s u e)
    go (root e) = of_root e (state-root s u e)
    go (labelled l) = of_label (label-state s u l)

-- no two such words have one state
pub state-one : (s : FolderSet) (u v : Word) → IsPrefix s u → IsPrefix s v → state_of s u ≡ state_of s v → u ≡ v
state-one s u v p q h = go (state-kind s u p) (state-kind s v q)
  where
    go : StateKind s u → StateKind s v → u ≡ v
    go (of_empty e i) (of_empty f j) = e ∙ sym f
    go (of_empty e i) (of_root f j) = absurd (omega arith)
    go (of_empty e i) (of_label b) = absurd (omega (arith, b.is))
    go (of_root e i) (of_empty f j) = absurd (omega arith)
    go (of_root e i) (of_root f j) = e ∙ sym f
    go (of_root e i) (of_label b) = absurd (omega (arith, b.is))
    go (of_label a) (of_empty f j) = absurd (omega (arith, a.is))
    go (of_label a) (of_root f j) = absurd (omega (arith, a.is))
    go (of_label a) (of_label b) = let i : a.index ≡ b.index = omega (arith, a.is, b.is) in sym a.word ∙ ap (λ (k : ℕ). get_or (all_words s) k []) i ∙ b.word

-- a word with a name that begins no keyword has state 0
pub state-none : (s : FolderSet) (w : Word) (e : Name) → begins s (followed_by w e) ≡ false → state_of s (followed_by w e) ≡ 0
state-none s w e h = state-followed (all_words s) w e ∙ find_none (same_word (followed_by w e)) 2 (all_words s) unlike
  where
    unlike : (x : Word) → Memᴰ x (all_words s) → same_word (followed_by w e) x ≡ false
    unlike x m = cases (same_word (followed_by w e) x) (λ t. clash (is-begins s (followed_by w e) ((begins-label s w e).1 (among-label s (Memᴰ.cast (same_word-is (followed_by w e) x t) m)))) h) (λ t. t)

-- states are numbers of labels and two more
pub state-within : (s : FolderSet) (u : Word) → IsPrefix s u → state_of s u ≤ suc (length (all_labels s))
state-within s u p = go (state-kind s u p)
  where
    go : StateKind s u → state_of s u ≤ suc (length (all_labels s))
    go (of_empty e i) = omega arith
    go (of_root e i) = omega arith
    go (of_label a) = omega (arith, a.is, a.below)
