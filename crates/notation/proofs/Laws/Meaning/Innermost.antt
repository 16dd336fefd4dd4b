-- The recursion over the innermost element: what is active on names with one more, from what was active on the names and on the elements
-- further out. And what `seen` means: active on some element of the list.
use Prim.Native.Nat.{ℕ, zero, suc, ◌≤◌, ◌<◌}
use native.Mathlib.Omega.{arith}
use mathlib.Core.Path.{◌≡◌, refl, sym, ap, ◌∙◌}
use mathlib.Core.Logic.{◌↔◌}
use mathlib.Core.Bool.{Bool, true, false, ◌&&◌, ◌||◌, true≢false, or-true}
use mathlib.Core.List.{List, [], ◌∷◌, ◌++◌, reverse, reverse-append, reverse-cons}
use lib.Dec.{leb}
use borrow.Author.Tests.{lt-leb, leb-true, leb-false}
use lib.ListN.{length, take, get_or}
use lib.Seq.{take-suc, take-length}
use Rattle.text.proofs.Laws.Tests.{cases}
use Rattle.text.specs.Names.{Name}
use Rattle.notation.specs.Sets.{Path, test_of}
use Rattle.notation.specs.Fit.{nth_step}
use Rattle.notation.specs.Activity.{takes, allowed, here, is_empty, active_reversed, seen_reversed, active, seen}

is_empty-more : (names : List Name) (e : Name) → is_empty (names ++ (e ∷ [])) ≡ false
is_empty-more [] e = refl
is_empty-more (n ∷ ns) e = refl

is_empty-reverse : (names : List Name) → is_empty (reverse names) ≡ is_empty names
is_empty-reverse [] = refl
is_empty-reverse (n ∷ ns) = ap is_empty (reverse-cons n ns) ∙ is_empty-more (reverse ns) n

-- names that are not empty end in one
snoc : (names : List Name) (n : ℕ) → length names ≡ suc n → names ≡ take n names ++ (get_or names n [] ∷ [])
snoc names n e = sym (take-length names) ∙ rw e (take-suc names n [] (omega arith))

-- a step past the last of the path, and step 0, are active nowhere
past : (p : Path) (s : ℕ) → length p < s → (root : Bool) (below above : ℕ → Bool) (e : Name)
    → here p root below above e s ≡ false
unfolding here
past p zero h root below above e = refl
past p (suc k) h root below above e =
    ap (λ (b : Bool). b && (takes (test_of (nth_step p (suc k))) e && allowed p root below above k)) (lt-leb (suc k) (length p) h)

zeroth : (p : Path) (root : Bool) (below above : ℕ → Bool) (e : Name) → here p root below above e zero ≡ false
unfolding here
zeroth p root below above e = refl

module _ (p : Path) (s : ℕ) where
  -- with nothing open, no step is active
  pub active-none : active p s [] ≡ false
  unfolding active_reversed seen_reversed
  active-none = refl

  pub seen_none : seen p s [] ≡ false
  unfolding active_reversed seen_reversed
  seen_none = refl

  -- one more element open: active on it by what was active around it
  pub active-more : (names : List Name) (e : Name)
      → active p s (names ++ (e ∷ [])) ≡ here p (is_empty names) (λ i. active p i names) (λ i. seen p i names) e s
  unfolding active_reversed seen_reversed
  active-more names e =
      ap (λ (l : List Name). active_reversed l p s) (reverse-append names (e ∷ []))
      ∙ ap (λ (b : Bool). here p b (λ i. active p i names) (λ i. seen p i names) e s) (is_empty-reverse names)

  pub seen_more : (names : List Name) (e : Name)
      → seen p s (names ++ (e ∷ [])) ≡ (active p s (names ++ (e ∷ [])) || seen p s names)
  unfolding active_reversed seen_reversed
  seen_more names e =
      ap (λ (l : List Name). seen_reversed l p s) (reverse-append names (e ∷ []))
      ∙ ap (λ (l : List Name). active_reversed l p s || seen p s names) (sym (reverse-append names (e ∷ [])))

  -- a test that holds of no innermost element holds of none further out
  never : (names : List Name)
      → ((root : Bool) (below above : ℕ → Bool) (e : Name) → here p root below above e s ≡ false)
      → (active_reversed names p s ≡ false) × (seen_reversed names p s ≡ false)
  unfolding active_reversed seen_reversed
  never [] h = (refl, refl)
  never (e ∷ outer) h =
      let now = h (is_empty outer) (λ i. active_reversed outer p i) (λ i. seen_reversed outer p i) e in
      (now, ap (λ (b : Bool). b || seen_reversed outer p s) now ∙ (never outer h).1)

  -- active-more, of any names that are not empty
  pub active-last : (names : List Name) (n : ℕ) → length names ≡ suc n
      → active p s names
      ≡ here p (is_empty (take n names)) (λ i. active p i (take n names)) (λ i. seen p i (take n names)) (get_or names n []) s
  active-last names n e =
      ap (λ (l : List Name). active p s l) (snoc names n e) ∙ active-more (take n names) (get_or names n [])

  -- seen is active on an element of the list, the innermost or one further out
  seen_last : (names : List Name) (m : ℕ) → m < length names
      → seen p s (take (suc m) names) ≡ (active p s (take (suc m) names) || seen p s (take m names))
  seen_last names m h = rw (take-suc names m []) (seen_more (take m names) (get_or names m []))

  seen-to : (names : List Name) (m : ℕ) → m ≤ length names → seen p s (take m names) ≡ true
      → (k : ℕ) × (1 ≤ k) × (k ≤ m) × (active p s (take k names) ≡ true)
  seen-to names zero le t = absurd (true≢false (sym t ∙ seen_none))
  seen-to names (suc m) le t =
      cases (active p s (take (suc m) names))
      (λ a. (suc m, omega arith, omega arith, a))
      (λ a.
      let further : seen p s (take m names) ≡ true =
      ap (λ (b : Bool). b || seen p s (take m names)) (sym a) ∙ sym (seen_last names m le) ∙ t in
      let (k, pos, inside, found) = seen-to names m (omega arith) further in
      (k, pos, omega arith, found))

  seen-from : (names : List Name) (m k : ℕ) → m ≤ length names → 1 ≤ k → k ≤ m → active p s (take k names) ≡ true
      → seen p s (take m names) ≡ true
  seen-from names zero k le pos inside a = absurd (omega arith)
  seen-from names (suc m) k le pos inside a =
      seen_last names m le ∙
      cases (leb k m)
      (λ t. ap (λ (b : Bool). active p s (take (suc m) names) || b)
      (seen-from names m k (omega arith) pos (leb-true k m t) a)
      ∙ or-true (active p s (take (suc m) names)))
      (λ f.
      let same : k ≡ suc m = omega (arith, leb-false k m f) in
      ap (λ (i : ℕ). active p s (take i names) || seen p s (take m names)) (sym same)
      ∙ ap (λ (b : Bool). b || seen p s (take m names)) a)

  pub seen-is : (names : List Name)
      → (seen p s names ≡ true) ↔ ((k : ℕ) × (1 ≤ k) × (k ≤ length names) × (active p s (take k names) ≡ true))
  seen-is names = (
    λ t. seen-to names (length names) (omega arith) (rw take-length t),
    λ w. rw take-length at (seen-from names (length names) w.0 (omega arith) w.1 w.2 w.3),
  )

-- there is no step 0
pub active-zero : (p : Path) (names : List Name) → active p zero names ≡ false
active-zero p names = (never p zero (reverse names) (zeroth p)).0

pub seen-zero : (p : Path) (names : List Name) → seen p zero names ≡ false
seen-zero p names = (never p zero (reverse names) (zeroth p)).1
