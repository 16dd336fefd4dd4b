-- What is read beside stores and of what they store; a part put back into the middle of a list.
use Prim.Native.Nat.{ℕ, suc, ◌+◌, ◌-◌, ◌*◌, ◌≤◌, ◌<◌}
use mathlib.Core.Path.{◌≡◌, refl, sym, ◌∙◌, ap, ap₂}
use mathlib.Core.List.{List, [], ◌∷◌, ◌++◌, append_assoc}
use native.Mathlib.Omega.{arith}
use lib.ListN.{length, get_or, take, drop, set, length-append, length-drop, get_or-append}
use lib.Seq.{sets, sets-eq, length-take-le, get_or-set_other, get_or-take, get_or-append-add, drop-set-lt, drop-append-add, drop-drop}
use Rattle.notation.specs.Layout.{word_size}
use Rattle.text.specs.Bytes.{le16}
use Rattle.notation.specs.Reads.{word16}
use Rattle.notation.proofs.Laws.Stored.Stands.{Stands}
use Rattle.notation.proofs.Laws.Stored.Words.{word_read}

pub byte-before : (vs l : List ℕ) (i j : ℕ) → j < i → get_or (sets l i vs) j 0 ≡ get_or l j 0
byte-before [] l i j h = refl
byte-before (v ∷ vs) l i j h = byte-before vs (set l i v) (suc i) j (omega arith) ∙ get_or-set_other l i j v 0 (λ e. absurd (omega arith))

pub byte-behind : (vs l : List ℕ) (i j : ℕ) → i + length vs ≤ j → get_or (sets l i vs) j 0 ≡ get_or l j 0
byte-behind [] l i j h = refl
byte-behind (v ∷ vs) l i j h = byte-behind vs (set l i v) (suc i) j (omega arith) ∙ get_or-set_other l i j v 0 (λ e. absurd (omega arith))

-- all that is behind
pub rest-behind : (vs l : List ℕ) (i n : ℕ) → i + length vs ≤ n → drop n (sets l i vs) ≡ drop n l
rest-behind [] l i n h = refl
rest-behind (v ∷ vs) l i n h = rest-behind vs (set l i v) (suc i) n (omega arith) ∙ drop-set-lt n l i v (omega arith)

stored-stands : (vs l : List ℕ) (i : ℕ) → i + length vs ≤ length l → Stands i vs (sets l i vs)
stored-stands vs l i h = record { before = take i l; after = drop (i + length vs) l; split = sets-eq vs l i h ∙ append_assoc (take i l) vs (drop (i + length vs) l); size = length-take-le i l (omega arith) }

pub word-stored : (l : List ℕ) (i v : ℕ) → i + word_size ≤ length l → v < 65536 → word16 (sets l i (le16 v)) i ≡ v
word-stored l i v h k = word_read v i k (stored-stands (le16 v) l i h)

pub word_same : (l l' : List ℕ) (i j : ℕ) → get_or l i 0 ≡ get_or l' j 0 → get_or l (i + 1) 0 ≡ get_or l' (j + 1) 0 → word16 l i ≡ word16 l' j
unfolding word16
word_same l l' i j p q = ap₂ (λ (x y : ℕ). x + 256 * y) p q

-- a part of its old size put back
module _ (l part : List ℕ) (at size : ℕ) (fits : at + size ≤ length l) (same : length part ≡ size) where
  abbrev put : List ℕ
  put = take at l ++ (part ++ drop (at + size) l)

  front : length (take at l) ≡ at
  front = length-take-le at l (omega arith)

  pub put-length : length put ≡ length l
  put-length = omega (arith, front, length-append (take at l) (part ++ drop (at + size) l), length-append part (drop (at + size) l), length-drop (at + size) l)

  pub put-before : (j : ℕ) → j < at → get_or put j 0 ≡ get_or l j 0
  put-before j h = get_or-append (take at l) (part ++ drop (at + size) l) 0 j (omega (arith, front)) ∙ get_or-take at l j 0 h

  pub put-within : (k : ℕ) → k < size → get_or put (at + k) 0 ≡ get_or part k 0
  put-within k h =
      ap (λ (n : ℕ). get_or put (n + k) 0) (sym front)
      ∙ get_or-append-add (take at l) (part ++ drop (at + size) l) k 0
      ∙ get_or-append part (drop (at + size) l) 0 k (omega arith)

  pub put-behind : (n : ℕ) → at + size ≤ n → drop n put ≡ drop n l
  put-behind n h =
      let k = n - (at + size) in
      let head : length (take at l ++ part) ≡ at + size = omega (arith, front, length-append (take at l) part) in
      let e : length (take at l ++ part) + k ≡ n = omega arith in
      let f : at + size + k ≡ n = omega arith in
      ap (λ (m : ℕ). drop m put) (sym e)
      ∙ ap (λ (x : List ℕ). drop (length (take at l ++ part) + k) x) (sym (append_assoc (take at l) part (drop (at + size) l)))
      ∙ drop-append-add (take at l ++ part) (drop (at + size) l) k
      ∙ drop-drop k (at + size) l
      ∙ ap (λ (m : ℕ). drop m l) f
