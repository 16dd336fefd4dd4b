-- A table is its entries, all of one width, one after the other: entry i of a table that stands at a place stands i widths further on.
use Prim.Native.Nat.{ℕ, zero, suc, ◌+◌, ◌*◌, ◌<◌}
use mathlib.Core.Path.{◌≡◌, refl, sym}
use mathlib.Core.List.{List, [], ◌∷◌, ◌++◌, map}
use native.Mathlib.Nat.{add-zero, mul-zero, mul-suc, not-suc-le-zero, le_of_suc-le-suc}
use native.Mathlib.Omega.{arith}
use lib.ListN.{length, get_or, length-append}
use Rattle.text.specs.Bytes.{joined}
use Rattle.notation.proofs.Laws.Stored.Stands.{Stands, left, right}

pub data OfWidth (w : ℕ) : List (List ℕ) → Type 0 where
  none : OfWidth w []
  more : {e : List ℕ} {es : List (List ℕ)} → length e ≡ w → OfWidth w es → OfWidth w (e ∷ es)

pub width-append : {w : ℕ} {es fs : List (List ℕ)} → OfWidth w es → OfWidth w fs → OfWidth w (es ++ fs)
width-append none g = g
width-append (more h o) g = more h (width-append o g)

-- entries made by one function
module _ {A : Type 0} (g : A → List ℕ) where
  pub map-width : (w : ℕ) → ((a : A) → length (g a) ≡ w) → (l : List A) → OfWidth w (map g l)
  map-width w h [] = none
  map-width w h (a ∷ l) = more (h a) (map-width w h l)

  pub map_at : (d : A) (l : List A) (i : ℕ) → i < length l → get_or (map g l) i [] ≡ g (get_or l i d)
  map_at d [] i h = absurd (not-suc-le-zero h)
  map_at d (a ∷ l) zero h = refl
  map_at d (a ∷ l) (suc i) h = map_at d l i (le_of_suc-le-suc h)

pub joined_length : {w : ℕ} {es : List (List ℕ)} → OfWidth w es → length (joined es) ≡ w * length es
unfolding joined
joined_length {w} none = sym (mul-zero w)
joined_length {w} (more {e} {es} h o) =
    omega (arith, length-append e (joined es), joined_length o, mul-suc w (length es), h)

pub entry : {w at : ℕ} {es : List (List ℕ)} {part : List ℕ} (i : ℕ) → OfWidth w es → i < length es → Stands at (joined es) part → Stands (at + w * i) (get_or es i []) part
unfolding joined
entry i none h s = absurd (not-suc-le-zero h)
entry {w} {at} zero (more {e} {es} l o) h s = rw (mul-zero, add-zero) (left e (joined es) s)
entry {w} {at} (suc i) (more {e} {es} l o) h s =
    let z : at + length e + w * i ≡ at + w * suc i = omega (arith, mul-suc w i, l) in
    rw (← z) (entry {at = at + length e} i o (le_of_suc-le-suc h) (right e (joined es) at (at + length e) refl s))
