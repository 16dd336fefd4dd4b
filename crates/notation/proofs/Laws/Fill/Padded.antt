-- Stores into a list that stands behind another, and into the spare zeros behind one.
use Prim.Native.Nat.{ℕ, suc, ◌+◌, ◌-◌, ◌≤◌}
use native.Mathlib.Nat.{zero-add, suc-add, add-suc, add-zero}
use native.Mathlib.Omega.{arith}
use mathlib.Core.Path.{◌≡◌, refl, sym, ap, ◌∙◌}
use mathlib.Core.List.{List, [], ◌∷◌, ◌++◌, append_assoc, append-nil}
use lib.ListN.{length, set, replicate, length-append, length-replicate, replicate-append-replicate}
use lib.Seq.{sets, sets-eq, drop_at}
use Rattle.text.specs.Bytes.{padded, joined}

set_past : (xs ys : List ℕ) (j a : ℕ) → set (xs ++ ys) (length xs + j) a ≡ xs ++ set ys j a
set_past [] ys j a = rw (zero-add j)
set_past (x ∷ xs) ys j a = rw (suc-add (length xs) j) (ap (λ r. x ∷ r) (set_past xs ys j a))

-- stores behind a front
pub sets-past : (xs ys : List ℕ) (j : ℕ) (vs : List ℕ) → sets (xs ++ ys) (length xs + j) vs ≡ xs ++ sets ys j vs
sets-past xs ys j [] = refl
sets-past xs ys j (a ∷ vs) = rw (set_past xs ys j a, ← add-suc (length xs) j) (sets-past xs (set ys j a) (suc j) vs)

-- stores over a whole front
pub sets-front : (xs ys vs : List ℕ) → length xs ≡ length vs → sets (xs ++ ys) 0 vs ≡ vs ++ ys
sets-front xs ys vs e =
    let fits : 0 + length vs ≤ length (xs ++ ys) = omega (arith, length-append xs ys) in
    sets-eq vs (xs ++ ys) 0 fits ∙ rw (zero-add (length vs), drop_at xs ys (length vs) e)

-- zeros in front of a list, taken in two parts
zeros-split : (n m k : ℕ) (rest : List ℕ) → n ≡ m + k → replicate n 0 ++ rest ≡ replicate m 0 ++ (replicate k 0 ++ rest)
zeros-split n m k rest e = rw (e, ← replicate-append-replicate {A = ℕ} m k 0) (append_assoc (replicate m 0) (replicate k 0) rest)

pub length-padded : (n : ℕ) (l : List ℕ) → length l ≤ n → length (padded n l) ≡ n
unfolding padded
length-padded n l h = rw (length-append, length-replicate) (omega arith)

pub padded-none : (n : ℕ) → padded n [] ≡ replicate n 0
unfolding padded
padded-none n = let e : n - 0 ≡ n = omega arith in ap (λ k. replicate k 0) e

-- stores right behind a list take the place of its spare zeros
pub sets-padded : (n : ℕ) (l vs rest : List ℕ) → length l + length vs ≤ n → sets (padded n l ++ rest) (length l) vs ≡ padded n (l ++ vs) ++ rest
unfolding padded
sets-padded n l vs rest h =
    let k = n - length (l ++ vs) in
    let room : n - length l ≡ length vs + k = omega (arith, length-append l vs) in
    ap (λ r. sets r (length l) vs) (append_assoc l (replicate (n - length l) 0) rest ∙ ap (λ r. l ++ r) (zeros-split (n - length l) (length vs) k rest room))
    ∙ ap (λ i. sets (l ++ (replicate (length vs) 0 ++ (replicate k 0 ++ rest))) i vs) (sym (add-zero (length l)))
    ∙ sets-past l (replicate (length vs) 0 ++ (replicate k 0 ++ rest)) 0 vs
    ∙ ap (λ r. l ++ r) (sets-front (replicate (length vs) 0) (replicate k 0 ++ rest) vs (length-replicate (length vs) 0))
    ∙ simp append_assoc

pub joined-append : (xs ys : List (List ℕ)) → joined (xs ++ ys) ≡ joined xs ++ joined ys
unfolding joined
joined-append [] ys = refl
joined-append (x ∷ xs) ys = rw (joined-append xs ys) (sym (append_assoc x (joined xs) (joined ys)))

pub joined_snoc : (es : List (List ℕ)) (e : List ℕ) → joined (es ++ (e ∷ [])) ≡ joined es ++ e
unfolding joined
joined_snoc es e = joined-append es (e ∷ []) ∙ ap (λ r. joined es ++ r) (append-nil e)
