-- Writes at any place of a buffer: what would lie past its end is not written.
use Prim.Native.Nat.{ℕ, zero, suc, ◌+◌, ◌-◌, ◌≤◌, min}
use native.Mathlib.Omega.{arith}
use mathlib.Core.Path.{◌≡◌, refl, sym, ap, ◌∙◌}
use mathlib.Core.List.{List, [], ◌∷◌, append_assoc}
use lib.ListN.{length, take, set, length-set}
use Rattle.std.proofs.lemmas.List.{take_min}
use borrow.Rule.Slice.PartMut.{put_mid}
use lib.Seq.{sets, sets-eq, set_out, length-take-le, drop-drop}

-- past the end nothing is written
pub sets-out : (vs l : List ℕ) (at : ℕ) → length l ≤ at → sets l at vs ≡ l
sets-out [] l at h = refl
sets-out (v ∷ vs) l at h = ap (λ (k : List ℕ). sets k (suc at) vs) (set_out l at v h) ∙ sets-out vs l (suc at) (omega arith)

sets-cut : (n : ℕ) (vs l : List ℕ) (at : ℕ) → n ≡ length l - at → sets l at (take n vs) ≡ sets l at vs
sets-cut zero vs l at e = sym (sets-out vs l at (omega arith))
sets-cut (suc n) [] l at e = refl
sets-cut (suc n) (v ∷ vs) l at e = sets-cut n vs (set l at v) (suc at) (omega (arith, length-set l at v))

-- a copy of as many bytes as there is room for
pub part-cut : (vs l : List ℕ) (at n : ℕ) → at ≤ length l → n ≡ min (length l - at) (length vs) → put_mid at n l (take n vs) ≡ sets l at vs
part-cut vs l at n h e =
    let size : length (take n vs) ≡ n = length-take-le n vs (omega arith) in
    let same : at + length (take n vs) ≡ at + n = omega arith in
    let whole : put_mid at n l (take n vs) ≡ sets l at (take n vs) = rw (drop-drop n at l, sets-eq (take n vs) l at (omega arith), append_assoc, same) in
    whole ∙ ap (λ (k : ℕ). sets l at (take k vs)) e ∙ ap (sets l at) (take_min (length l - at) vs) ∙ sets-cut (length l - at) vs l at refl

-- for a copy: past the end, or of what has room
pub ruleset copies = (sets-out, part-cut)
