-- The bits of an open, stored block by block into a new row and the matches.
use Prim.Native.Nat.{ℕ, zero, suc, ◌+◌, ◌*◌, ◌/◌, ◌%◌, ◌≤◌, ◌<◌}
use mathlib.Core.Path.{◌≡◌, refl, sym, ◌∙◌, ap, ap₂}
use mathlib.Core.Bool.{Bool, ◌&&◌, ◌||◌}
use mathlib.Core.List.{List, ◌++◌}
use native.Mathlib.Numerals.{add-one}
use native.Mathlib.Omega.{arith}
use lib.Lanes.{put_chunk}
use Rattle.std.proofs.lemmas.Simd.{length-put_chunk}
use lib.Dec.{eqb}
use lib.ListN.{length, get_or}
use lib.Seq.{sets}
use Rattle.stored.specs.Automaton.{mask_size, byte_of, bit_bytes, tabulate, child_mask, descendant_mask, anywhere_mask, root_mask, last_mask, star_mask}
use Rattle.stored.specs.Bits.{bit_of, bit_at}
use Rattle.stored.specs.Run.{matches_at, rows_at, active_in, seen_in, row_size, row_at}
use Rattle.stored.specs.RunCalls.{mask_bit, active_at, seen_at, matched_at, shifted, permitted}
use Rattle.stored.specs.Code.OpenSteps.{Block, taken_active, taken_seen, taken_matched, stored_bits}
use Rattle.stored.proofs.Laws.Bytes.Beside.{byte-before, byte-behind}
use Rattle.stored.proofs.Laws.Bytes.MaskRows.{bits-same, bits-split}
use Rattle.stored.proofs.Laws.Bytes.Vectors.{block-put}
use Rattle.stored.proofs.Laws.Bytes.Tabulate.{tabulate-length}
use Rattle.stored.proofs.Laws.Running.Written.{sets-next, sets-apart}

-- three rows of bits, each made longer
three-more : (l : List ℕ) (p q r n : ℕ) (x y z x' y' z' : List ℕ) → length x ≡ n → length y ≡ n → length z ≡ n → r + n ≤ p → p + n + length x' ≤ q
    → sets (sets (sets (sets (sets (sets l p x) q y) r z) (p + n) x') (q + n) y') (r + n) z' ≡ sets (sets (sets l p (x ++ x')) q (y ++ y')) r (z ++ z')
three-more l p q r n x y z x' y' z' lx ly lz h k =
    ap (λ (w : List ℕ). sets (sets w (q + n) y') (r + n) z')
    (sets-apart (sets (sets l p x) q y) r (p + n) z x' (omega arith)
    ∙ ap (λ (w : List ℕ). sets w r z) (sym (sets-apart (sets l p x) (p + n) q x' y k) ∙ ap (λ (w : List ℕ). sets w q y) (sets-next l p (p + n) x x' (ap (λ (m : ℕ). p + m) lx))))
    ∙ ap (λ (w : List ℕ). sets w (r + n) z')
    (sets-apart (sets (sets l p (x ++ x')) q y) r (q + n) z y' (omega arith)
    ∙ ap (λ (w : List ℕ). sets w r z) (sets-next (sets l p (x ++ x')) q (q + n) y y' (ap (λ (m : ℕ). q + m) ly)))
    ∙ sets-next (sets (sets l p (x ++ x')) q (y ++ y')) r (r + n) z z' (ap (λ (m : ℕ). r + m) lz)

-- a block of bits from byte n on
abbrev pub block : (ℕ → Bool) → ℕ → List ℕ
block f n = bit_bytes (λ j. f (8 * n + j)) 16

pub block-stored : (run : List ℕ) (d n : ℕ) (f g h : ℕ → Bool) → n + 16 ≤ mask_size
    → sets (sets (sets (stored_bits run d f g h n) (row_at (suc d) + active_in + n) (block f n)) (row_at (suc d) + seen_in + n) (block g n)) (matches_at + n) (block h n) ≡ stored_bits run d f g h (n + 16)
unfolding mask_size matches_at rows_at row_size active_in seen_in
block-stored run d n f g h room =
    three-more run (row_at (suc d) + active_in) (row_at (suc d) + seen_in) matches_at n (bit_bytes f n) (bit_bytes g n) (bit_bytes h n) (block f n) (block g n) (block h n)
    (tabulate-length (byte_of f) n) (tabulate-length (byte_of g) n) (tabulate-length (byte_of h) n) (omega arith) (omega (arith, tabulate-length (byte_of (λ j. f (8 * n + j))) 16))
    ∙ rw (← bits-split f n 16, ← bits-split g n 16, ← bits-split h n 16)

-- the three blocks of a byte, put one after the other
pub blocks-put : (run : List ℕ) (d from at : ℕ) {f g h : ℕ → Bool} {x y z : List ℕ} → at ≡ row_at (d + 1) → at + row_size ≤ length run → from + 16 ≤ mask_size → Block f x → Block g y → Block h z
    → put_chunk (matches_at + from) (put_chunk (at + seen_in + from) (put_chunk (at + active_in + from) run x) y) z
    ≡ sets (sets (sets run (row_at (suc d) + active_in + from) (bit_bytes f 16)) (row_at (suc d) + seen_in + from) (bit_bytes g 16)) (matches_at + from) (bit_bytes h 16)
unfolding mask_size matches_at rows_at row_size active_in seen_in
blocks-put run d from at {f} {g} {h} {x} {y} {z} is fits room bx by bz =
    let r : at ≡ row_at (suc d) = is ∙ ap row_at (add-one d) in
    let one = block-put run (at + active_in + from) x bx (omega arith) in
    let two = block-put (put_chunk (at + active_in + from) run x) (at + seen_in + from) y by (omega (arith, length-put_chunk (at + active_in + from) run x)) in
    let three = block-put (put_chunk (at + seen_in + from) (put_chunk (at + active_in + from) run x) y) (matches_at + from) z bz (omega (arith, length-put_chunk (at + active_in + from) run x, length-put_chunk (at + seen_in + from) (put_chunk (at + active_in + from) run x) y)) in
    three ∙ rw (two, one, r)

pub none-stored : (run : List ℕ) (d : ℕ) (f g h : ℕ → Bool) → run ≡ stored_bits run d f g h 0
unfolding tabulate
none-stored run d f g h = refl

-- what is read between the matches stored and the new row
pub stored-beside : (run : List ℕ) (d n : ℕ) (f g h : ℕ → Bool) (k : ℕ) → matches_at + n ≤ k → k < row_at (suc d) → get_or (stored_bits run d f g h n) k 0 ≡ get_or run k 0
stored-beside run d n f g h k lo hi =
    byte-behind (bit_bytes h n) (sets (sets run (row_at (suc d) + active_in) (bit_bytes f n)) (row_at (suc d) + seen_in) (bit_bytes g n)) matches_at k (omega (arith, tabulate-length (byte_of h) n))
    ∙ byte-before (bit_bytes g n) (sets run (row_at (suc d) + active_in) (bit_bytes f n)) (row_at (suc d) + seen_in) k (omega arith)
    ∙ byte-before (bit_bytes f n) run (row_at (suc d) + active_in) k (omega arith)

shifted-same : (f g : ℕ → Bool) (n : ℕ) → ((i : ℕ) → i < n → f i ≡ g i) → (i : ℕ) → i < n → shifted f i ≡ shifted g i
shifted-same f g n e zero h = refl
shifted-same f g n e (suc i) h = e i (omega arith)

-- runs with the same row of depth d have the same steps active in it
module _ (a run run' taken : List ℕ) (d : ℕ) (same : (k : ℕ) → row_at d ≤ k → k < row_at (suc d) → get_or run' k 0 ≡ get_or run k 0) where
  active-same : (i : ℕ) → i < 8 * mask_size → active_at run' d i ≡ active_at run d i
  unfolding mask_size row_size active_in
  active-same i h = ap (λ (b : ℕ). bit_of b (i % 8)) (same (row_at d + active_in + i / 8) (omega arith) (omega arith))

  seen_same : (i : ℕ) → i < 8 * mask_size → seen_at run' d i ≡ seen_at run d i
  unfolding mask_size row_size seen_in
  seen_same i h = ap (λ (b : ℕ). bit_of b (i % 8)) (same (row_at d + seen_in + i / 8) (omega arith) (omega arith))

  pub taken-active : (i : ℕ) → i < 8 * mask_size → taken_active a run' taken d i ≡ taken_active a run taken d i
  unfolding permitted
  taken-active i h =
      ap₂ (λ (p q : Bool). (mask_bit a star_mask i || bit_at taken i) && ((mask_bit a child_mask i && p) || ((mask_bit a descendant_mask i && q) || (mask_bit a anywhere_mask i || (eqb d 0 && mask_bit a root_mask i)))))
      (shifted-same (active_at run' d) (active_at run d) (8 * mask_size) active-same i h)
      (shifted-same (seen_at run' d) (seen_at run d) (8 * mask_size) seen_same i h)

  pub taken-seen : (i : ℕ) → i < 8 * mask_size → taken_seen a run' taken d i ≡ taken_seen a run taken d i
  taken-seen i h = ap₂ (λ (p q : Bool). p || q) (seen_same i h) (taken-active i h)

  pub taken-matched : (i : ℕ) → i < 8 * mask_size → matched_at run' i ≡ matched_at run i → taken_matched a run' taken d i ≡ taken_matched a run taken d i
  taken-matched i h m = ap₂ (λ (p q : Bool). p || (q && mask_bit a last_mask i)) m (taken-active i h)

-- one block more
module _ (a run run' taken : List ℕ) (d n : ℕ) (is : run' ≡ stored_bits run d (taken_active a run taken d) (taken_seen a run taken d) (taken_matched a run taken d) (16 * n)) (room : 16 * n + 16 ≤ mask_size) where
  row_same : (k : ℕ) → matches_at + 16 * n ≤ k → k < row_at (suc d) → get_or run' k 0 ≡ get_or run k 0
  row_same k lo hi = ap (λ (l : List ℕ). get_or l k 0) is ∙ stored-beside run d (16 * n) (taken_active a run taken d) (taken_seen a run taken d) (taken_matched a run taken d) k lo hi

  depth_same : (k : ℕ) → row_at d ≤ k → k < row_at (suc d) → get_or run' k 0 ≡ get_or run k 0
  unfolding mask_size matches_at rows_at row_size
  depth_same k lo hi = row_same k (omega arith) hi

  -- a step of the block
  inside : (j : ℕ) → j < 8 * 16 → 8 * (16 * n) + j < 8 * mask_size
  inside j h = omega arith

  match-same : (j : ℕ) → j < 8 * 16 → matched_at run' (8 * (16 * n) + j) ≡ matched_at run (8 * (16 * n) + j)
  unfolding mask_size matches_at rows_at row_size
  match-same j h = ap (λ (b : ℕ). bit_of b ((8 * (16 * n) + j) % 8)) (row_same (matches_at + (8 * (16 * n) + j) / 8) (omega arith) (omega arith))

  pub next-stored : sets (sets (sets run' (row_at (suc d) + active_in + 16 * n) (block (taken_active a run' taken d) (16 * n))) (row_at (suc d) + seen_in + 16 * n) (block (taken_seen a run' taken d) (16 * n))) (matches_at + 16 * n) (block (taken_matched a run' taken d) (16 * n))
      ≡ stored_bits run d (taken_active a run taken d) (taken_seen a run taken d) (taken_matched a run taken d) (16 * (n + 1))
  next-stored =
      let more : 16 * (n + 1) ≡ 16 * n + 16 = omega arith in
      rw (
        bits-same (λ j. taken_active a run' taken d (8 * (16 * n) + j)) (λ j. taken_active a run taken d (8 * (16 * n) + j)) 16 (λ j h. taken-active a run run' taken d depth_same (8 * (16 * n) + j) (inside j h)),
        bits-same (λ j. taken_seen a run' taken d (8 * (16 * n) + j)) (λ j. taken_seen a run taken d (8 * (16 * n) + j)) 16 (λ j h. taken-seen a run run' taken d depth_same (8 * (16 * n) + j) (inside j h)),
        bits-same (λ j. taken_matched a run' taken d (8 * (16 * n) + j)) (λ j. taken_matched a run taken d (8 * (16 * n) + j)) 16 (λ j h. taken-matched a run run' taken d depth_same (8 * (16 * n) + j) (inside j h) (match-same j h)),
        is,
        more,
      )
      (block-stored run d (16 * n) (taken_active a run taken d) (taken_seen a run taken d) (taken_matched a run taken d) room)
