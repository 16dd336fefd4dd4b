-- Stores into an entry of a table and behind a front, and tables of zeros.
use Prim.Native.Nat.{ℕ, zero, suc, ◌+◌, ◌-◌, ◌*◌, ◌≤◌, ◌<◌}
use native.Mathlib.Nat.{mul-zero, mul-suc, not-suc-le-zero, le_of_suc-le-suc}
use native.Mathlib.Omega.{arith}
use mathlib.Core.Path.{◌≡◌, refl, sym, ap, ◌∙◌}
use mathlib.Core.List.{List, [], ◌∷◌, ◌++◌, map, append_assoc}
use lib.ListN.{length, get_or, set, take, drop, replicate, length-set, length-drop, length-replicate, replicate-append-replicate}
use lib.Seq.{sets, sets-eq, take-length, length-take-le, length-sets, set-append_left}
use borrow.Rule.Slice.PartMut.{mid_of, put_mid}
use Rattle.std.proofs.lemmas.Slice.{put_mid-paste}
use Rattle.text.specs.Bytes.{joined, padded}
use Rattle.notation.proofs.Laws.Fill.Padded.{sets-past, sets-front}
use Rattle.notation.proofs.Laws.Stored.Entries.{OfWidth, none, more, joined_length}

-- a part that is written whole is a run of stores
pub part-written : (xs ys vs : List ℕ) (at n : ℕ) → ys ≡ vs → length vs ≡ n → at + n ≤ length xs → put_mid at n xs ys ≡ sets xs at vs
part-written xs ys vs at n e h fits =
    put_mid-paste at n xs ys vs (length vs) e h refl
    ∙ ap (λ (l : List ℕ). take at xs ++ l ++ drop (at + length vs) xs) (take-length vs)
    ∙ sym (sets-eq vs xs at (omega arith))

pub part-cleared : (xs ys : List ℕ) (at n m : ℕ) → ys ≡ replicate (length (mid_of at n xs)) 0 → n ≡ m → at + m ≤ length xs → put_mid at n xs ys ≡ sets xs at (replicate m 0)
part-cleared xs ys at n m e same fits =
    let size : length (mid_of at n xs) ≡ m = length-take-le n (drop at xs) (rw (length-drop at xs) (omega arith)) ∙ same in
    part-written xs ys (replicate m 0) at n (e ∙ ap (λ (k : ℕ). replicate k 0) size) (length-replicate m 0 ∙ sym same) (omega arith)

-- a run of stores within the front leaves what follows it
pub sets-left : (vs xs ys : List ℕ) (i : ℕ) → i + length vs ≤ length xs → sets (xs ++ ys) i vs ≡ sets xs i vs ++ ys
sets-left [] xs ys i h = refl
sets-left (v ∷ vs) xs ys i h =
    ap (λ (l : List ℕ). sets l (suc i) vs) (set-append_left xs ys i v (omega arith))
    ∙ sets-left vs (set xs i v) ys (suc i) (omega (arith, length-set xs i v))

-- stores behind a front of a known size
pub past : (front tail : List ℕ) (size at j : ℕ) (vs : List ℕ) → length front ≡ size → at ≡ size + j → sets (front ++ tail) at vs ≡ front ++ sets tail j vs
past front tail size at j vs e i = rw (i, ← e) (sets-past front tail j vs)

-- stores into entry i, o bytes from its beginning
pub sets-entry : {w : ℕ} {es : List (List ℕ)} (i o : ℕ) (vs tail : List ℕ) → OfWidth w es → i < length es → o + length vs ≤ w
    → sets (joined es ++ tail) (w * i + o) vs ≡ joined (set es i (sets (get_or es i []) o vs)) ++ tail
unfolding joined
sets-entry i o vs tail none h k = absurd (not-suc-le-zero h)
sets-entry {w} zero o vs tail (more {e} {es} l r) h k =
    let p : w * 0 + o ≡ o = omega (arith, mul-zero w) in
    rw (append_assoc e (joined es) tail, p)
    (sets-left vs e (joined es ++ tail) o (omega arith) ∙ sym (append_assoc (sets e o vs) (joined es) tail))
sets-entry {w} (suc i) o vs tail (more {e} {es} l r) h k =
    let p : w * suc i + o ≡ length e + (w * i + o) = omega (arith, mul-suc w i, l) in
    rw (append_assoc e (joined es) tail, p)
    (sets-past e (joined es ++ tail) (w * i + o) vs
    ∙ ap (λ (x : List ℕ). e ++ x) (sets-entry i o vs tail r (le_of_suc-le-suc h) k)
    ∙ sym (append_assoc e (joined (set es i (sets (get_or es i []) o vs))) tail))

-- a store over a whole entry
pub sets-whole : {w : ℕ} {es : List (List ℕ)} (i : ℕ) (e tail : List ℕ) → OfWidth w es → i < length es → length e ≡ w
    → sets (joined es ++ tail) (w * i) e ≡ joined (set es i e) ++ tail
unfolding joined
sets-whole i e tail none h k = absurd (not-suc-le-zero h)
sets-whole {w} zero e tail (more {e = x} {es} l r) h k =
    rw (append_assoc x (joined es) tail, mul-zero w) (sets-front x (joined es ++ tail) e (l ∙ sym k) ∙ sym (append_assoc e (joined es) tail))
sets-whole {w} (suc i) e tail (more {e = x} {es} l r) h k =
    let p : w * suc i ≡ length x + w * i = omega (arith, mul-suc w i, l) in
    rw (append_assoc x (joined es) tail, p)
    (sets-past x (joined es ++ tail) (w * i) e
    ∙ ap (λ (y : List ℕ). x ++ y) (sets-whole i e tail r (le_of_suc-le-suc h) k)
    ∙ sym (append_assoc x (joined (set es i e)) tail))

-- stores into an entry of a table with spare zeros behind it
pub sets-table : {w : ℕ} {es : List (List ℕ)} (n i o : ℕ) (vs tail : List ℕ) → OfWidth w es → i < length es → o + length vs ≤ w
    → sets (padded n (joined es) ++ tail) (w * i + o) vs ≡ padded n (joined (set es i (sets (get_or es i []) o vs))) ++ tail
unfolding padded
sets-table {w} {es} n i o vs tail r h k =
    let es' = set es i (sets (get_or es i []) o vs) in
    let same : length (joined es') ≡ length (joined es) =
    joined_length (set-width (sets (get_or es i []) o vs) i r (length-sets (get_or es i []) o vs)) ∙ ap (λ (m : ℕ). w * m) (length-set es i (sets (get_or es i []) o vs)) ∙ sym (joined_length r) in
    rw (same, append_assoc (joined es) (replicate (n - length (joined es)) 0) tail, append_assoc (joined es') (replicate (n - length (joined es)) 0) tail)
    (sets-entry i o vs (replicate (n - length (joined es)) 0 ++ tail) r h k)
  where
    set-width : {w : ℕ} {es : List (List ℕ)} (e : List ℕ) (i : ℕ) → OfWidth w es → length e ≡ length (get_or es i []) → OfWidth w (set es i e)
    set-width e i none p = none
    set-width e zero (more l r) p = more (p ∙ l) r
    set-width e (suc i) (more l r) p = more l (set-width e i r p)

pub set-map {ℓ κ} : {A : Type ℓ} {B : Type κ} (g : A → B) (l : List A) (i : ℕ) (a : A) → set (map g l) i (g a) ≡ map g (set l i a)
set-map g [] i a = refl
set-map g (b ∷ l) zero a = refl
set-map g (b ∷ l) (suc i) a = ap (λ r. g b ∷ r) (set-map g l i a)

-- zeros in two parts
pub zeros : (n m k : ℕ) → n ≡ m + k → replicate {A = ℕ} n 0 ≡ replicate m 0 ++ replicate k 0
zeros n m k e = rw e (sym (replicate-append-replicate m k 0))

-- a table of entries of zeros
pub zero-entries : {A : Type 0} (g : A → List ℕ) (a : A) (w n : ℕ) → g a ≡ replicate w 0 → joined (map g (replicate n a)) ≡ replicate (w * n) 0
unfolding joined
zero-entries g a w zero e = rw (mul-zero w)
zero-entries g a w (suc n) e =
    rw (e, zero-entries g a w n e) (sym (zeros (w * suc n) w (w * n) (omega (arith, mul-suc w n))))

pub zeros-padded : (n m : ℕ) → m ≤ n → padded n (replicate m 0) ≡ replicate n 0
unfolding padded
zeros-padded n m h = rw (length-replicate {A = ℕ} m 0) (sym (zeros n m (n - m) (omega arith)))
