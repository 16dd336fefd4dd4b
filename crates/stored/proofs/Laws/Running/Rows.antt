-- A row lent out of the middle of a run and put back.
use Prim.Native.Nat.{ℕ, ◌+◌, ◌-◌, ◌≤◌, pred}
use mathlib.Core.Path.{◌≡◌, refl, sym, ap, ◌∙◌}
use mathlib.Core.List.{List, ◌++◌, append_assoc}
use native.Mathlib.Omega.{arith}
use lib.ListN.{length, take, drop, replicate, length-append, length-replicate}
use lib.Seq.{sets, sets-eq, length-sets}
use borrow.Rule.Slice.PartMut.{mid_of, put_mid, Post-is, mid_len}
use Rattle.text.specs.Bytes.{le16}
use Rattle.stored.specs.Automaton.{mask_size}
use Rattle.stored.specs.Run.{rows_at, row_at, row_size, active_in, seen_in, matches_at, depth_at}
use Rattle.stored.specs.RunCalls.{depth_of, with_row, close_run}
use Rattle.stored.proofs.Laws.Bytes.Stores.{zeros, part-cleared}
use Rattle.stored.proofs.Laws.Running.Written.{sets-next, sets-apart}

pub row_back : (run row : List ℕ) (d at : ℕ) → at ≡ row_at d → put_mid at (at + row_size - at) run row ≡ with_row run d row
row_back run row d at e = ap (λ (l : List ℕ). take at run ++ (row ++ l)) (Post-is at (at + row_size) run (omega arith)) ∙ ap (λ (n : ℕ). take n run ++ (row ++ drop (n + row_size) run)) e

pub row-width : (run : List ℕ) (at : ℕ) → at + row_size ≤ length run → length (mid_of at (at + row_size - at) run) ≡ row_size
row-width run at h = let e : at + row_size - at ≡ row_size = omega arith in mid_len at (at + row_size) run h ∙ e

-- a row cleared part by part, and one element less
pub closed : (run run₁ run₂ run₃ run₄ : List ℕ) (d at : ℕ) → d ≡ depth_of run → at ≡ row_at d → at + row_size ≤ length run
    → run₁ ≡ sets run (at + seen_in) (replicate mask_size 0) → run₂ ≡ sets run₁ at (replicate active_in 0) → run₃ ≡ sets run₂ depth_at (le16 (d - 1)) → run₄ ≡ sets run₃ (at + active_in) (replicate mask_size 0) → run₄ ≡ close_run run
unfolding close_run row_size seen_in rows_at matches_at
closed run run₁ run₂ run₃ run₄ d at e f fits e₁ e₂ e₃ e₄ =
    let z : List ℕ = replicate mask_size 0 in
    let y : List ℕ = replicate active_in 0 in
    let lz = length-replicate {A = ℕ} mask_size 0 in
    let ly = length-replicate {A = ℕ} active_in 0 in
    let row : List ℕ = replicate row_size 0 in
    let lr = length-replicate {A = ℕ} row_size 0 in
    let all : (y ++ z) ++ z ≡ replicate row_size 0 = ap (λ (l : List ℕ). l ++ z) (sym (zeros seen_in active_in mask_size refl)) ∙ sym (zeros row_size seen_in mask_size refl) in
    let less : depth_of run - 1 ≡ pred (depth_of run) = omega arith in
    let whole : sets (sets (sets run (at + seen_in) z) at y) (at + active_in) z ≡ take at run ++ (replicate row_size 0 ++ drop (at + row_size) run) =
    sets-next (sets run (at + seen_in) z) at (at + active_in) y z (ap (λ (n : ℕ). at + n) ly)
    ∙ sym (sets-apart run at (at + seen_in) (y ++ z) z (omega (arith, ly, lz, length-append y z)))
    ∙ sets-next run at (at + seen_in) (y ++ z) z (omega (arith, ly, lz, length-append y z))
    ∙ ap (λ (l : List ℕ). sets run at l) all
    ∙ sets-eq row run at (omega (arith, lr))
    ∙ append_assoc (take at run) row (drop (at + length row) run)
    ∙ ap (λ (n : ℕ). take at run ++ (replicate row_size 0 ++ drop (at + n) run)) lr in
    e₄
    ∙ ap (λ (l : List ℕ). sets l (at + active_in) z) (e₃ ∙ ap (λ (l : List ℕ). sets l depth_at (le16 (d - 1))) (e₂ ∙ ap (λ (l : List ℕ). sets l at y) e₁))
    ∙ sets-apart (sets (sets run (at + seen_in) z) at y) depth_at (at + active_in) (le16 (d - 1)) z (omega arith)
    ∙ rw (whole, f, e, less)

-- the same, by parts of its slice
pub row-closed : (run : List ℕ) (d at : ℕ) {z y put z' : List ℕ} → d ≡ depth_of run → at ≡ row_at d → at + row_size ≤ length run
    → z ≡ replicate (length (mid_of (at + 291) (at + 547 - (at + 291)) run)) 0
    → y ≡ replicate (length (mid_of at (at + 35 - at) (put_mid (at + 291) (at + 547 - (at + 291)) run z))) 0
    → put ≡ sets (put_mid at (at + 35 - at) (put_mid (at + 291) (at + 547 - (at + 291)) run z) y) depth_at (le16 (d - 1))
    → z' ≡ replicate (length (mid_of (at + 35) (at + 291 - (at + 35)) put)) 0
    → put_mid (at + 35) (at + 291 - (at + 35)) put z' ≡ close_run run
unfolding row_size seen_in active_in rows_at matches_at mask_size
row-closed run d at {z} {y} {put} {z'} e f fits ez ey ep ez' =
    let run₁ = put_mid (at + 291) (at + 547 - (at + 291)) run z in
    let e₁ : run₁ ≡ sets run (at + seen_in) (replicate mask_size 0) = part-cleared run z (at + 291) (at + 547 - (at + 291)) 256 ez (omega arith) (omega arith) in
    let l₁ : length run₁ ≡ length run = ap length e₁ ∙ length-sets run (at + seen_in) (replicate mask_size 0) in
    let run₂ = put_mid at (at + 35 - at) run₁ y in
    let e₂ : run₂ ≡ sets run₁ at (replicate active_in 0) = part-cleared run₁ y at (at + 35 - at) 35 ey (omega arith) (omega arith) in
    let l₂ : length put ≡ length run = ap length ep ∙ length-sets run₂ depth_at (le16 (d - 1)) ∙ ap length e₂ ∙ length-sets run₁ at (replicate active_in 0) ∙ l₁ in
    let e₄ = part-cleared put z' (at + 35) (at + 291 - (at + 35)) 256 ez' (omega arith) (omega arith) in
    closed run run₁ run₂ put _ d at e f fits e₁ e₂ ep e₄
