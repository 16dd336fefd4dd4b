-- Links with the parents and lengths of the first labels' words stored.
use Prim.Native.Nat.{ℕ, zero, suc, ◌+◌, ◌-◌, ◌≤◌, ◌<◌}
use native.Mathlib.Nat.{not-suc-le-zero, le_of_suc-le-suc}
use native.Mathlib.Numerals.{add-one}
use native.Mathlib.Omega.{arith}
use mathlib.Core.Path.{◌≡◌, refl, sym, ap, ◌∙◌}
use mathlib.Core.Bool.{Bool, true}
use mathlib.Core.List.{List, [], ◌∷◌, ◌++◌, append_assoc, append-nil}
use lib.Dec.{ltb}
use borrow.Author.Tests.{ltb-true, ltb-false}
use lib.ListN.{length, get_or, set, take, drop, length-append, length-take, length-drop, get_or-append}
use lib.Seq.{take-suc, drop-cons, drop-length, take-length, get_or-take, get_or-drop, get_or-append-add, set_at, length-take-le}
use Rattle.notation.specs.Sets.{child, descendant, label, star, step, Path, FolderSet}
use Rattle.notation.specs.Form.{paths_of}
use Rattle.model.specs.Words.{name, Word, before, label_words}
use Rattle.model.specs.Walk.{followed_by}
use Rattle.stored.specs.Automaton.{Link, find, words_in, all_words, state_of, shortened}
use Rattle.text.proofs.Laws.Tests.{cases}
use Rattle.stored.proofs.Laws.Bytes.Finding.{find-here, find-later}
use Rattle.stored.proofs.Laws.Tables.Assembled.{with_parent, with_length, no_link}

-- a label's link with the parent and the length of its word
abbrev pub flagged : FolderSet → Word → Link → Link
flagged s w k = with_length (length w) (with_parent (state_of s (shortened w)) k)

unfoldable pub placed : FolderSet → List Word → List Link → List Link
placed s [] ls = ls
placed s (w ∷ ws) [] = []
placed s (w ∷ ws) (k ∷ ls) = flagged s w k ∷ placed s ws ls

pub length-placed : (s : FolderSet) (ws : List Word) (ls : List Link) → length (placed s ws ls) ≡ length ls
unfolding placed
length-placed s [] ls = refl
length-placed s (w ∷ ws) [] = refl
length-placed s (w ∷ ws) (k ∷ ls) = ap suc (length-placed s ws ls)

pub placed_at : (s : FolderSet) (ws : List Word) (ls : List Link) (l : ℕ) → l < length ws → l < length ls → get_or (placed s ws ls) l no_link ≡ flagged s (get_or ws l []) (get_or ls l no_link)
unfolding placed
placed_at s [] ls l h k = absurd (not-suc-le-zero h)
placed_at s (w ∷ ws) [] l h k = absurd (not-suc-le-zero k)
placed_at s (w ∷ ws) (x ∷ ls) zero h k = refl
placed_at s (w ∷ ws) (x ∷ ls) (suc l) h k = placed_at s ws ls l (le_of_suc-le-suc h) (le_of_suc-le-suc k)

-- stored for the labels below l
abbrev pub up_to : FolderSet → List Link → ℕ → List Link
up_to s ls l = take l (placed s (all_words s) ls) ++ drop l ls

module _ (s : FolderSet) (ls : List Link) (count : length ls ≡ length (all_words s)) where
  pub up_to-length : (l : ℕ) → length (up_to s ls l) ≡ length ls
  up_to-length l =
      omega (
        arith,
        length-append (take l (placed s (all_words s) ls)) (drop l ls),
        length-take l (placed s (all_words s) ls),
        length-placed s (all_words s) ls,
        length-drop l ls,
      )

  front_length : (l : ℕ) → l ≤ length ls → length (take l (placed s (all_words s) ls)) ≡ l
  front_length l h = length-take-le l (placed s (all_words s) ls) (rw (length-placed s (all_words s) ls) h)

  pub up_to-done : (l m : ℕ) → l ≤ length ls → m < l → get_or (up_to s ls l) m no_link ≡ flagged s (get_or (all_words s) m []) (get_or ls m no_link)
  up_to-done l m h k =
      get_or-append (take l (placed s (all_words s) ls)) (drop l ls) no_link m (rw (front_length l h) k)
      ∙ get_or-take l (placed s (all_words s) ls) m no_link k
      ∙ placed_at s (all_words s) ls m (omega (arith, count)) (omega arith)

  pub up_to-rest : (l m : ℕ) → l ≤ length ls → l ≤ m → get_or (up_to s ls l) m no_link ≡ get_or ls m no_link
  up_to-rest l m h k =
      let front : List Link = take l (placed s (all_words s) ls) in
      let e : m ≡ length front + (m - l) = omega (arith, front_length l h) in
      let e' : l + (m - l) ≡ m = omega arith in
      ap (λ (i : ℕ). get_or (up_to s ls l) i no_link) e ∙ get_or-append-add front (drop l ls) (m - l) no_link ∙ get_or-drop l ls (m - l) no_link
      ∙ ap (λ (i : ℕ). get_or ls i no_link) e'

  pub up_to-step : (l : ℕ) → l < length ls → set (up_to s ls l) l (flagged s (get_or (all_words s) l []) (get_or ls l no_link)) ≡ up_to s ls (l + 1)
  up_to-step l h =
      let all : List Link = placed s (all_words s) ls in
      let k : Link = flagged s (get_or (all_words s) l []) (get_or ls l no_link) in
      let b : l < length all = rw (length-placed s (all_words s) ls) h in
      rw (add-one l, take-suc all l no_link b, placed_at s (all_words s) ls l (omega (arith, count)) h, drop-cons ls l no_link h)
      (set_at (take l all) (get_or ls l no_link) (drop (suc l) ls) k l (front_length l (omega arith)) ∙ sym (append_assoc (take l all) (k ∷ []) (drop (suc l) ls)))

  pub up_to-all : up_to s ls (length ls) ≡ placed s (all_words s) ls
  up_to-all =
      rw (drop-length ls, ← length-placed s (all_words s) ls, take-length (placed s (all_words s) ls)) (append-nil (placed s (all_words s) ls))

-- a found place is the first
pub find_first : {A : Type 0} (test : A → Bool) (d : A) (k : ℕ) (l : List A) (m : ℕ) → m < length l → test (get_or l m d) ≡ true
    → (j : ℕ) × (j ≤ m) × (find test k l ≡ k + j) × (test (get_or l j d) ≡ true)
find_first test d k [] m h t = absurd (not-suc-le-zero h)
find_first test d k (a ∷ l) zero h t = (0, omega arith, find-here test k a l t ∙ omega arith, t)
find_first test d k (a ∷ l) (suc m) h t =
    let r = find_first test d (suc k) l m (le_of_suc-le-suc h) t in
    cases (test a)
    (λ e. (0, omega arith, find-here test k a l e ∙ omega arith, e))
    (λ e. (suc r.0, omega (arith, r.1), omega (arith, find-later test k a l e, r.2), r.3))

-- words are not long
path-short : (p : Path) (w : Word) (i : ℕ) → i < length (label_words w p) → length (get_or (label_words w p) i []) ≤ length w + (i + 1)
unfolding label_words
path-short [] w i h = absurd (not-suc-le-zero h)
path-short (step child (label n) ∷ p) w zero h = omega (arith, length-append w (name n ∷ []))
path-short (step child (label n) ∷ p) w (suc i) h = omega (arith, length-append w (name n ∷ []), path-short p (followed_by w n) i (le_of_suc-le-suc h))
path-short (step child star ∷ p) w i h = omega (arith, path-short p [] i h)
path-short (step descendant (label n) ∷ p) w zero h = omega arith
path-short (step descendant (label n) ∷ p) w (suc i) h = omega (arith, path-short p (name n ∷ []) i (le_of_suc-le-suc h))
path-short (step descendant star ∷ p) w i h = omega (arith, path-short p [] i h)

pub before-short : (p : Path) → length (before p) ≤ 1
before-short [] = omega arith
before-short (step child t ∷ p) = omega arith
before-short (step descendant t ∷ p) = omega arith

short-in : (ps : List Path) (i : ℕ) → i < length (words_in ps) → length (get_or (words_in ps) i []) ≤ i + 2
unfolding words_in
short-in [] i h = absurd (not-suc-le-zero h)
short-in (p ∷ ps) i h =
    let xs : List Word = label_words (before p) p in
    cases (ltb i (length xs))
    (λ e. let k : i < length xs = ltb-true i (length xs) e in
    rw (get_or-append xs (words_in ps) [] i k) (omega (arith, path-short p (before p) i k, before-short p)))
    (λ e. let k : length xs ≤ i = ltb-false i (length xs) e in
    let q : i ≡ length xs + (i - length xs) = omega arith in
    let b : i - length xs < length (words_in ps) = omega (arith, length-append xs (words_in ps)) in
    let r : length (get_or (words_in ps) (i - length xs) []) ≤ i - length xs + 2 = short-in ps (i - length xs) b in
    let f : get_or (xs ++ words_in ps) i [] ≡ get_or (words_in ps) (i - length xs) [] = ap (λ (j : ℕ). get_or (xs ++ words_in ps) j []) q ∙ get_or-append-add xs (words_in ps) (i - length xs) [] in
    rw f (omega arith))

pub words-short : (s : FolderSet) (i : ℕ) → i < length (all_words s) → length (get_or (all_words s) i []) ≤ i + 2
words-short s = short-in (paths_of s)
