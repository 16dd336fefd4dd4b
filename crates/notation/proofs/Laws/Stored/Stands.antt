-- A piece that stands at a place of a longer list: how pieces of pieces are found, and what reading there gives.
use Prim.Native.Nat.{ℕ, ◌+◌, ◌≤◌, ◌<◌}
use mathlib.Core.Path.{◌≡◌, refl, sym, ap, ◌∙◌}
use mathlib.Core.List.{List, [], ◌++◌, append_assoc}
use native.Mathlib.Omega.{arith}
use lib.ListN.{length, get_or, take, drop, length-append, get_or-append}
use lib.Seq.{drop_at, take-append_seam, get_or-append-add}

pub record Stands (at : ℕ) (piece whole : List ℕ) : Type 0 where
  pub before : List ℕ
  pub after : List ℕ
  pub split : whole ≡ before ++ (piece ++ after)
  pub size : length before ≡ at

pub itself : (l rest : List ℕ) → Stands 0 l (l ++ rest)
itself l rest = record { before = []; after = rest; split = refl; size = refl }

pub left : (a b : List ℕ) {at : ℕ} {whole : List ℕ} → Stands at (a ++ b) whole → Stands at a whole
left a b s = record {
  before = s.before;
  after = b ++ s.after;
  split = s.split ∙ ap (λ (l : List ℕ). s.before ++ l) (append_assoc a b s.after);
  size = s.size;
}

pub right : (a b : List ℕ) (at n : ℕ) {whole : List ℕ} → at + length a ≡ n → Stands at (a ++ b) whole → Stands n b whole
right a b at n e s = record {
  before = s.before ++ a;
  after = s.after;
  split = s.split ∙ ap (λ (l : List ℕ). s.before ++ l) (append_assoc a b s.after) ∙ sym (append_assoc s.before a (b ++ s.after));
  size = length-append s.before a ∙ ap (λ (k : ℕ). k + length a) s.size ∙ e;
}

-- a piece of a piece
pub inner : {i at : ℕ} {piece mid whole : List ℕ} → Stands i piece mid → Stands at mid whole → Stands (at + i) piece whole
inner {i} {at} {piece} {mid} {whole} s t = record {
  before = t.before ++ s.before;
  after = s.after ++ t.after;
  split = t.split ∙ rw (s.split, append_assoc, append_assoc, append_assoc);
  size = length-append t.before s.before ∙ (cc);
}

-- what stands there is read there
pub read : {at : ℕ} {piece whole : List ℕ} (k : ℕ) → k < length piece → Stands at piece whole → get_or whole (at + k) 0 ≡ get_or piece k 0
read {at} {piece} {whole} k h s =
    rw (s.split, ← s.size) (get_or-append-add s.before (piece ++ s.after) k 0 ∙ get_or-append piece s.after 0 k h)

pub slice : {at : ℕ} {piece whole : List ℕ} → Stands at piece whole → take (length piece) (drop at whole) ≡ piece
slice {at} {piece} {whole} s =
    rw (s.split, drop_at s.before (piece ++ s.after) at s.size) (take-append_seam piece s.after)

pub fits : {at : ℕ} {piece whole : List ℕ} → Stands at piece whole → at + length piece ≤ length whole
fits {at} {piece} {whole} s =
    omega (arith, s.size, ap length s.split, length-append s.before (piece ++ s.after), length-append piece s.after)
