-- Readings from an offset: how far they go, and what is left, by offsets.
use Prim.Native.Nat.{ℕ, ◌+◌, ◌-◌, ◌≤◌, ◌<◌}
use native.Mathlib.Omega.{arith}
use native.Mathlib.Numerals.{add-one}
use mathlib.Core.Path.{◌≡◌, refl, sym, ap, ◌∙◌}
use mathlib.Core.Bool.{Bool, true, false}
use mathlib.Core.List.{List, [], ◌∷◌, ◌++◌}
use lib.Dec.{leb}
use lib.ListN.{length, get_or, drop, length-append, length-drop, drop_of_length-le}
use lib.Seq.{drop-cons}
use borrow.Author.Tests.{leb-true, leb-false, not-true}
use Rattle.std.proofs.Common.{None, Some}
use Rattle.text.specs.Names.{Name}
use Rattle.documents.specs.Tokens.{blank, amp, lt, gt, quot, apos}
use Rattle.text.specs.Read.{starts_with, Read, fail, got, then_read, front, back}
use Rattle.documents.specs.Reading.{read_reference}
use Rattle.reports.specs.Code.Reaches.{reach_of, reach, blanks_to}
use Rattle.text.proofs.Laws.Reads.{WhenRead, holds-got, word_fits, behind}
use Rattle.text.proofs.Laws.Tests.{cases}
use Rattle.text.proofs.Laws.Fronts.{front-back, stops}

-- what was read stands in front of what is left
abbrev pub Suffix : {A : Type 0} → List ℕ → Read A → Type 0
Suffix {A} l m = WhenRead (λ (a : A) (r : List ℕ). (p : List ℕ) × (p ++ r ≡ l)) m

pub some_is : {A : Type 0} {a b : A} → Some a ≡ Some b → a ≡ b
some_is e = cc

pub never : {X A : Type 0} {a : A} → None ≡ Some a → X
never e = let z : ⊥ = cc in absurd z

none_left : (r : List ℕ) → length r ≡ 0 → [] ≡ r
none_left [] h = refl
none_left (b ∷ r) h = absurd (omega arith)

-- what is left of the bytes from an offset on begins where it is told
module _ (s p r : List ℕ) (at : ℕ) (e : p ++ r ≡ drop at s) where
  long : length p + length r ≡ length s - at
  long = sym (length-append p r) ∙ ap length e ∙ length-drop at s

  pub left-end : at ≤ length s → length s - length r ≡ at + length p
  left-end h = omega (arith, long)

  pub left-drop : drop (length s - length r) s ≡ r
  left-drop =
      cases (leb at (length s))
      (λ t. rw (left-end (leb-true at (length s) t)) (behind s p r at e))
      (λ f.
      let none : length r ≡ 0 = omega (arith, long, leb-false at (length s) f) in
      drop_of_length-le s (omega arith) ∙ none_left r none)

-- what is left at an offset has the offset as its end
pub left_at : (s : List ℕ) (e : ℕ) → e ≤ length s → e ≡ length s - length (drop e s)
left_at s e h = omega (arith, length-drop e s)

-- a reading from an offset that reaches e got something, and e is where the rest begins
pub reached : {A : Type 0} (s : List ℕ) (at : ℕ) (read : List ℕ → Read A) (e : ℕ) → ((l : List ℕ) → Suffix l (read l)) → reach read s at ≡ Some e
    → (a : A) × (read (drop at s) ≡ got a (drop e s)) × (at ≤ length s → at ≤ e) × (e ≤ length s)
unfolding reach
reached {A} s at read e suffix k = go (read (drop at s)) (suffix (drop at s)) k
  where
    go : (m : Read A) → Suffix (drop at s) m → reach_of (length s) m ≡ Some e
        → (a : A) × (m ≡ got a (drop e s)) × (at ≤ length s → at ≤ e) × (e ≤ length s)
    go fail g k = never k
    go (got a r) g k =
        let (p, is) = holds-got g in
        let here : length s - length r ≡ e = some_is k in
        (a, ap (got a) (sym (left-drop s p r at is) ∙ ap (λ (n : ℕ). drop n s) here), λ h. omega (arith, left-end s p r at is h), omega arith)

reach_of-no : {A : Type 0} (total : ℕ) (m : Read A) → reach_of total m ≡ None → m ≡ fail
reach_of-no total fail e = refl
reach_of-no total (got a r) e = never (sym e)

pub reach-no : {A : Type 0} (read : List ℕ → Read A) (s : List ℕ) (at : ℕ) → reach read s at ≡ None → read (drop at s) ≡ fail
unfolding reach
reach-no read s at e = reach_of-no (length s) (read (drop at s)) e

pub reach-map : {A B : Type 0} (total : ℕ) (m : Read A) (f : A → B) → reach_of total (then_read m (λ a r. got (f a) r)) ≡ reach_of total m
reach-map total fail f = refl
reach-map total (got a r) f = refl

pub reach-then : {A B C : Type 0} (total : ℕ) (m : Read A) (k : A → List ℕ → Read B) (j : A → List ℕ → Read C)
    → ((a : A) (r : List ℕ) → reach_of total (k a r) ≡ reach_of total (j a r)) → reach_of total (then_read m k) ≡ reach_of total (then_read m j)
reach-then total fail k j f = refl
reach-then total (got a r) k j f = f a r

-- Blanks

back-stops : (ok : ℕ → Bool) (l : List ℕ) → stops ok (back ok l) ≡ true
unfolding back
back-stops ok [] = refl
back-stops ok (b ∷ l) = cases (ok b) (λ t. rw t (back-stops ok l)) (λ f. rw (f, f))

module _ (s : List ℕ) (i : ℕ) where
  pub blanks-no : i < length s → blank (get_or s i 0) ≡ false → blanks_to s i ≡ i
  unfolding back
  blanks-no h f = rw (drop-cons s i 0 h, f) (omega (arith, ap length (drop-cons s i 0 h), length-drop i s))

  pub blanks-yes : i < length s → blank (get_or s i 0) ≡ true → blanks_to s i ≡ blanks_to s (i + 1)
  unfolding back
  blanks-yes h t = rw (drop-cons s i 0 h, t, add-one i)

  pub blanks-end : length s ≤ i → blanks_to s i ≡ length s
  unfolding back
  blanks-end h = rw (drop_of_length-le s h) (omega arith)

  -- what follows them begins where they end
  pub blanks-left : back blank (drop i s) ≡ drop (blanks_to s i) s
  blanks-left = sym (left-drop s _ (back blank (drop i s)) i (front-back blank (drop i s)))

  -- they end at no blank
  pub blanks-stop : blanks_to s i < length s → blank (get_or s (blanks_to s i) 0) ≡ false
  blanks-stop h =
      let stop = back-stops blank (drop i s) in
      not-true _ (rw (blanks-left, drop-cons s (blanks_to s i) 0 h) at stop)

  pub blanks-low : blanks_to s i < length s → i ≤ blanks_to s i
  blanks-low h =
      let long : length (drop (blanks_to s i) s) ≤ length (drop i s) =
      omega (arith, ap length blanks-left, length-append (front blank (drop i s)) (back blank (drop i s)), ap length (front-back blank (drop i s))) in
      omega (arith, length-drop (blanks_to s i) s, length-drop i s)

-- the steps of a scan of blanks
pub ruleset blanks = (blanks-no, blanks-yes, blanks-end)

-- References

module _ (s : List ℕ) (at : ℕ) (h : at ≤ length s) where
  -- a word that stands at the offset
  word-reach : (w : List ℕ) → 1 ≤ length w → starts_with w (drop at s) ≡ true → at + length w ≡ length s - length (drop (length w) (drop at s))
  word-reach w some t = omega (arith, word_fits w s at some t, length-drop (length w) (drop at s), length-drop at s)

  abbrev Begins : Name → Bool → Type 0
  Begins n t = starts_with (n ++ (59 ∷ [])) (drop at s) ≡ t

  pub reference₁ : Begins amp true → reach read_reference s at ≡ Some (at + 4)
  unfolding reach read_reference
  reference₁ t = rw t (ap Some (sym (word-reach (amp ++ (59 ∷ [])) (omega arith) t)))

  pub reference₂ : Begins amp false → Begins lt true → reach read_reference s at ≡ Some (at + 3)
  unfolding reach read_reference
  reference₂ f₁ t = rw (f₁, t) (ap Some (sym (word-reach (lt ++ (59 ∷ [])) (omega arith) t)))

  pub reference₃ : Begins amp false → Begins lt false → Begins gt true → reach read_reference s at ≡ Some (at + 3)
  unfolding reach read_reference
  reference₃ f₁ f₂ t = rw (f₁, f₂, t) (ap Some (sym (word-reach (gt ++ (59 ∷ [])) (omega arith) t)))

  pub reference₄ : Begins amp false → Begins lt false → Begins gt false → Begins quot true → reach read_reference s at ≡ Some (at + 5)
  unfolding reach read_reference
  reference₄ f₁ f₂ f₃ t = rw (f₁, f₂, f₃, t) (ap Some (sym (word-reach (quot ++ (59 ∷ [])) (omega arith) t)))

  pub reference₅ : Begins amp false → Begins lt false → Begins gt false → Begins quot false → Begins apos true → reach read_reference s at ≡ Some (at + 5)
  unfolding reach read_reference
  reference₅ f₁ f₂ f₃ f₄ t = rw (f₁, f₂, f₃, f₄, t) (ap Some (sym (word-reach (apos ++ (59 ∷ [])) (omega arith) t)))

  pub reference₆ : Begins amp false → Begins lt false → Begins gt false → Begins quot false → Begins apos false → reach read_reference s at ≡ None
  unfolding reach read_reference
  reference₆ f₁ f₂ f₃ f₄ f₅ = rw (f₁, f₂, f₃, f₄, f₅)

pub ruleset references = (reference₁, reference₂, reference₃, reference₄, reference₅, reference₆)
