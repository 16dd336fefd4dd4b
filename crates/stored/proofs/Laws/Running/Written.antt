-- Bytes written one part after the other, and the row that an open writes so.
use Prim.Native.Nat.{ℕ, suc, ◌+◌, ◌≤◌, ◌<◌}
use mathlib.Core.Path.{◌≡◌, refl, sym, ap, ap₂, ◌∙◌}
use mathlib.Core.List.{List, [], ◌∷◌, ◌++◌, append-nil}
use native.Mathlib.Omega.{arith}
use lib.ListN.{length, set, drop, replicate, length-set, length-append, length-replicate}
use lib.Seq.{sets, set_comm, length-sets}
use Rattle.std.proofs.lemmas.List.{drop-replicate}
use borrow.Rule.Slice.PartMut.{mid_of, put_mid}
use Rattle.text.specs.Names.{max_name}
use Rattle.text.specs.Bytes.{le16, padded}
use Rattle.notation.proofs.Laws.Fill.Padded.{sets-front, sets-padded, padded-none, length-padded}
use Rattle.stored.specs.Automaton.{mask_size}
use Rattle.stored.proofs.Laws.Bytes.Stores.{past, part-written, part-cleared}
use Rattle.stored.specs.Code.OpenSteps.{blank_row}
use Rattle.stored.specs.Run.{row_size, name_in, state_in, active_in, seen_in}

-- what is stored right behind
pub sets-next : (l : List ℕ) (i j : ℕ) (x y : List ℕ) → i + length x ≡ j → sets (sets l i x) j y ≡ sets l i (x ++ y)
sets-next l i j [] y e = let s : j ≡ i = omega arith in rw s
sets-next l i j (v ∷ x) y e = sets-next (set l i v) (suc i) j x y (omega arith)

-- stores beside each other, in either order
set_apart : (l : List ℕ) (i v j : ℕ) (y : List ℕ) → i < j → sets (set l i v) j y ≡ set (sets l j y) i v
set_apart l i v j [] h = refl
set_apart l i v j (w ∷ y) h =
    ap (λ (z : List ℕ). sets z (suc j) y) (set_comm l i j v w (λ e. absurd (omega arith)))
    ∙ set_apart (set l j w) i v (suc j) y (omega arith)

pub sets-apart : (l : List ℕ) (i j : ℕ) (x y : List ℕ) → i + length x ≤ j → sets (sets l i x) j y ≡ sets (sets l j y) i x
sets-apart l i j [] y h = refl
sets-apart l i j (v ∷ x) y h =
    sets-apart (set l i v) (suc i) j x y (omega arith)
    ∙ ap (λ (z : List ℕ). sets z (suc i) x) (set_apart l i v j y (omega arith))

-- what is stored into zeros behind a front is filled up with zeros
pub fill : (front rest vs : List ℕ) (at n : ℕ) → length front ≡ at → length vs ≤ n → sets (front ++ (replicate n 0 ++ rest)) at vs ≡ front ++ (padded n vs ++ rest)
fill front rest vs at n e h =
    past front (replicate n 0 ++ rest) at at 0 vs e (omega arith)
    ∙ ap (λ (l : List ℕ). front ++ l) (ap (λ (l : List ℕ). sets (l ++ rest) 0 vs) (sym (padded-none n)) ∙ sets-padded n [] vs rest (omega arith))

-- all of a row, part by part
pub row_written : (row e : List ℕ) (state : ℕ) → length row ≡ row_size → length e ≤ max_name
    → sets (sets (sets (sets row 0 (length e ∷ padded max_name e)) active_in (replicate mask_size 0)) state_in (le16 state)) seen_in (replicate mask_size 0) ≡ blank_row e state
unfolding row_size seen_in active_in state_in name_in
row_written row e state whole short =
    let head = length e ∷ padded max_name e in
    let zeros : List ℕ = replicate mask_size 0 in
    let bits = zeros ++ zeros in
    let z = length-replicate {A = ℕ} mask_size 0 in
    let n = length-padded max_name e short in
    let size : length row ≡ length (head ++ (le16 state ++ bits)) = omega (arith, n, z, length-append (padded max_name e) (le16 state ++ bits), length-append zeros zeros) in
    ap (λ (l : List ℕ). sets l seen_in zeros) (sym (sets-apart (sets row 0 head) state_in active_in (le16 state) zeros (omega arith)))
    ∙ sets-next (sets (sets row 0 head) state_in (le16 state)) active_in seen_in zeros zeros (omega arith)
    ∙ sets-next (sets row 0 head) state_in active_in (le16 state) bits (omega arith)
    ∙ sets-next row 0 state_in head (le16 state ++ bits) (omega (arith, n))
    ∙ ap (λ (l : List ℕ). sets l 0 (head ++ (le16 state ++ bits))) (sym (append-nil row))
    ∙ sets-front row [] (head ++ (le16 state ++ bits)) size
    ∙ append-nil (head ++ (le16 state ++ bits))

-- the same row, by parts of its slice
pub row-put : (row e : List ℕ) (state : ℕ) {n n' z put z' : List ℕ} → length row ≡ row_size → length e ≤ max_name
    → n ≡ e → n' ≡ n ++ drop (length e) (replicate max_name 0) → z ≡ replicate (length (mid_of 35 256 (put_mid 1 32 (set row 0 (length e)) n'))) 0
    → put ≡ sets (put_mid 35 256 (put_mid 1 32 (set row 0 (length e)) n') z) state_in (le16 state) → z' ≡ replicate (length (mid_of 291 256 put)) 0
    → put_mid 291 256 put z' ≡ blank_row e state
unfolding padded row_size seen_in active_in state_in name_in mask_size max_name
row-put row e state {n} {n'} {z} {put} {z'} whole short en en' ez ep ez' =
    let row₁ = set row 0 (length e) in
    let l₁ : length row₁ ≡ row_size = length-set row 0 (length e) ∙ whole in
    let name : n' ≡ padded max_name e = en' ∙ ap₂ (λ (x y : List ℕ). x ++ y) en (drop-replicate (length e) max_name 0) in
    let long : length (padded max_name e) ≡ max_name = length-padded max_name e short in
    let row₂ = put_mid 1 32 row₁ n' in
    let e₂ : row₂ ≡ sets row 0 (length e ∷ padded max_name e) = part-written row₁ n' (padded max_name e) 1 32 name long (omega arith) in
    let l₂ : length row₂ ≡ row_size = ap length e₂ ∙ length-sets row 0 (length e ∷ padded max_name e) ∙ whole in
    let row₃ = put_mid 35 256 row₂ z in
    let e₃ : row₃ ≡ sets row₂ active_in (replicate mask_size 0) = part-cleared row₂ z 35 256 256 ez refl (omega arith) in
    let l₃ : length put ≡ row_size = ap length ep ∙ length-sets row₃ state_in (le16 state) ∙ ap length e₃ ∙ length-sets row₂ active_in (replicate mask_size 0) ∙ l₂ in
    part-cleared put z' 291 256 256 ez' refl (omega arith) ∙ rw (ep, e₃, e₂) (row_written row e state whole short)
