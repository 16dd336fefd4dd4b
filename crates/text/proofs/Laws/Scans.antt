-- One step of a scan: what a test of the bytes from an offset is, by the byte there.
use Prim.Native.Nat.{ℕ, suc, ◌+◌, ◌≤◌, ◌<◌}
use native.Mathlib.Omega.{arith}
use native.Mathlib.Numerals.{add-one}
use mathlib.Core.Path.{◌≡◌, refl, sym, ap, ◌∙◌}
use mathlib.Core.Bool.{Bool, true, false, ◌&&◌, and-false}
use mathlib.Core.List.{List, [], ◌∷◌}
use lib.Dec.{eqb}
use borrow.Author.Tests.{eq-eqb, ne_eqb}
use lib.ListN.{length, get_or, take, drop, drop_of_length-le}
use Rattle.std.specs.Cmp.Lexicographic.{pointwise}
use lib.Seq.{drop-cons}
use Rattle.text.specs.Lists.{every}
use Rattle.text.specs.Read.{starts_with, front}

module _ (ok : ℕ → Bool) (s : List ℕ) (i : ℕ) where
  pub every-at : i < length s → every ok (drop i s) ≡ (ok (get_or s i 0) && every ok (drop (suc i) s))
  unfolding every
  every-at h = ap (every ok) (drop-cons s i 0 h)

  front-no : i < length s → ok (get_or s i 0) ≡ false → length (front ok (drop i s)) ≡ 0
  unfolding front
  front-no h e = rw (drop-cons s i 0 h, e)

  front-yes : i < length s → ok (get_or s i 0) ≡ true → length (front ok (drop i s)) ≡ suc (length (front ok (drop (suc i) s)))
  unfolding front
  front-yes h e = ap (λ (l : List ℕ). length (front ok l)) (drop-cons s i 0 h) ∙ rw e refl

  front-end : length s ≤ i → length (front ok (drop i s)) ≡ 0
  unfolding front
  front-end h = ap (λ (l : List ℕ). length (front ok l)) (drop_of_length-le s h)

  -- the end of a span that begins at i
  pub span-no : i < length s → ok (get_or s i 0) ≡ false → i + length (front ok (drop i s)) ≡ i
  span-no h e = omega (arith, front-no h e)

  pub span-yes : i < length s → ok (get_or s i 0) ≡ true
      → i + length (front ok (drop i s)) ≡ (i + 1) + length (front ok (drop (i + 1) s))
  span-yes h e = rw add-one (omega (arith, front-yes h e))

  pub span-end : length s ≤ i → i + length (front ok (drop i s)) ≡ i
  span-end h = omega (arith, front-end h)

-- a word and bytes, gone through side by side
module _ (w s : List ℕ) (i k : ℕ) where
  pub begins-no : i < length w → k < length s → (get_or s k 0 ≡ get_or w i 0 → ⊥) → starts_with (drop i w) (drop k s) ≡ false
  unfolding starts_with
  begins-no h l n = rw (drop-cons w i 0 h, drop-cons s k 0 l, ne_eqb (get_or w i 0) (get_or s k 0) (λ e. n (sym e)))

  pub begins-yes : i < length w → k < length s → get_or s k 0 ≡ get_or w i 0 → starts_with (drop i w) (drop k s) ≡ starts_with (drop (suc i) w) (drop (suc k) s)
  unfolding starts_with
  begins-yes h l e =
      ap (λ (v : List ℕ). starts_with v (drop k s)) (drop-cons w i 0 h) ∙ ap (starts_with (get_or w i 0 ∷ drop (suc i) w)) (drop-cons s k 0 l)
      ∙ ap (λ (t : Bool). t && starts_with (drop (suc i) w) (drop (suc k) s)) (eq-eqb (get_or w i 0) (get_or s k 0) (sym e))

  pub begins-end : length w ≤ i → starts_with (drop i w) (drop k s) ≡ true
  unfolding starts_with
  begins-end h = ap (λ (v : List ℕ). starts_with v (drop k s)) (drop_of_length-le w h)

module _ (b : ℕ) (w s : List ℕ) (k : ℕ) where
  pub begins-other : k < length s → (get_or s k 0 ≡ b → ⊥) → starts_with (b ∷ w) (drop k s) ≡ false
  unfolding starts_with
  begins-other l n = rw (drop-cons s k 0 l, ne_eqb b (get_or s k 0) (λ e. n (sym e)))

  pub begins-here : k < length s → get_or s k 0 ≡ b → starts_with (b ∷ w) (drop k s) ≡ starts_with w (drop (k + 1) s)
  unfolding starts_with
  begins-here l e = rw (drop-cons s k 0 l, eq-eqb b (get_or s k 0) (sym e), add-one)

  pub begins-past : length s ≤ k → starts_with (b ∷ w) (drop k s) ≡ false
  unfolding starts_with
  begins-past h = ap (starts_with (b ∷ w)) (drop_of_length-le s h)

-- what `starts_with` of a slice says
pub begins-is : (w l : List ℕ) → starts_with w l ≡ pointwise eqb w (take (length w) l)
unfolding starts_with
begins-is [] l = refl
begins-is (b ∷ w) [] = refl
begins-is (b ∷ w) (c ∷ l) = rw (begins-is w l)

pub begins-short : (w l : List ℕ) → length l < length w → starts_with w l ≡ false
unfolding starts_with
begins-short [] l h = absurd (omega arith)
begins-short (b ∷ w) [] h = refl
begins-short (b ∷ w) (c ∷ l) h = rw (begins-short w l (omega arith)) (and-false (eqb b c))

-- for a loop over a span: it stops, goes on, or comes to the end of the bytes
pub ruleset spans = (span-no, span-yes, span-end)
