-- The blocks of bits that an open stores are those of its contract.
use Prim.Native.Nat.{ℕ, suc, ◌+◌, ◌*◌, ◌/◌, ◌%◌, ◌≤◌, ◌<◌}
use mathlib.Core.Path.{◌≡◌, sym, ◌∙◌, ap}
use mathlib.Core.Bool.{Bool, false, ◌||◌}
use mathlib.Core.List.{List, ◌∷◌, ◌++◌, append_assoc}
use native.Mathlib.Omega.{arith}
use native.Mathlib.Numerals.{add-one}
use lib.ListN.{length, get_or, take, drop, replicate, length-append, length-replicate}
use lib.Seq.{sets, length-take-le}
use Rattle.text.specs.Names.{max_name}
use Rattle.text.specs.Bytes.{le16, padded}
use Rattle.notation.proofs.Laws.Fill.Padded.{length-padded}
use Rattle.stored.specs.Marked.{marked}
use Rattle.stored.specs.Automaton.{mask_size, byte_of, bit_bytes}
use Rattle.stored.specs.Bits.{bit_of, bit_at}
use Rattle.stored.specs.Run.{matches_at, depth_at, rows_at, row_at, row_size, name_in, state_in, active_in, seen_in}
use Rattle.stored.specs.RunCalls.{depth_of, used_bytes, used_bits, candidate, now_active, now_seen, now_matched, open_walk, row_opened, with_row, open_run}
use Rattle.stored.specs.Code.OpenSteps.{taken_active, taken_seen, taken_matched, blank_row, stored_bits}
use Rattle.stored.proofs.Laws.Bytes.Beside.{put-before}
use Rattle.stored.proofs.Laws.Bytes.Bits.{bits-bit}
use Rattle.stored.proofs.Laws.Bytes.MaskRows.{bits-same, bits_none}
use Rattle.stored.proofs.Laws.Bytes.Tabulate.{tabulate-length}
use Rattle.stored.proofs.Laws.Running.Blocks.{taken-active, taken-seen, taken-matched}
use Rattle.stored.proofs.Laws.Running.Written.{fill}

-- no bits in zeros
zero_bits : (n i : ℕ) → i < 8 * n → bit_at (replicate n 0) i ≡ false
zero_bits n i h = ap (λ (l : List ℕ). bit_at l i) (sym (bits_none n)) ∙ bits-bit (λ k. false) n i h

regroup : (f p s z y t : List ℕ) (n : ℕ) → f ++ ((n ∷ (p ++ (s ++ (z ++ y)))) ++ t) ≡ (f ++ (n ∷ (p ++ s))) ++ (z ++ (y ++ t))
regroup f p s z y t n = simp append_assoc

blank-length : (e : List ℕ) (state : ℕ) → length e ≤ max_name → length (blank_row e state) ≡ row_size
unfolding row_size seen_in active_in state_in name_in
blank-length e state short =
    let z : List ℕ = replicate mask_size 0 in
    omega (arith, length-padded max_name e short, length-append (padded max_name e) (le16 state ++ (z ++ z)), length-append z z, length-replicate {A = ℕ} mask_size 0)

-- the bits stored into a blank row
blank-filled : (front tail e : List ℕ) (state at : ℕ) (x y : List ℕ) → length front ≡ at → length e ≤ max_name → length x ≤ mask_size → length y ≤ mask_size
    → sets (sets (front ++ (blank_row e state ++ tail)) (at + active_in) x) (at + seen_in) y ≡ front ++ ((length e ∷ (padded max_name e ++ (le16 state ++ (padded mask_size x ++ padded mask_size y)))) ++ tail)
unfolding seen_in active_in state_in name_in
blank-filled front tail e state at x y size short hx hy =
    let z : List ℕ = replicate mask_size 0 in
    let head : List ℕ = front ++ (length e ∷ (padded max_name e ++ le16 state)) in
    let first : length head ≡ at + active_in = omega (arith, length-append front (length e ∷ (padded max_name e ++ le16 state)), length-append (padded max_name e) (le16 state), length-padded max_name e short) in
    let second : length (head ++ padded mask_size x) ≡ at + seen_in = omega (arith, first, length-append head (padded mask_size x), length-padded mask_size x hx) in
    ap (λ (l : List ℕ). sets (sets l (at + active_in) x) (at + seen_in) y) (regroup front (padded max_name e) (le16 state) z z tail (length e))
    ∙ ap (λ (l : List ℕ). sets l (at + seen_in) y) (fill head (z ++ tail) x (at + active_in) mask_size first hx ∙ sym (append_assoc head (padded mask_size x) (z ++ tail)))
    ∙ fill (head ++ padded mask_size x) tail y (at + seen_in) mask_size second hy
    ∙ append_assoc head (padded mask_size x) (padded mask_size y ++ tail)
    ∙ sym (regroup front (padded max_name e) (le16 state) (padded mask_size x) (padded mask_size y) tail (length e))

-- with the labels of a name, the bits are those of an open; `blank` is the run with the new row before its bits
module _ (a run e taken : List ℕ) (d used state : ℕ) (h : (i : ℕ) → bit_at taken i ≡ (bit_at (replicate mask_size 0) i || marked a e i))
    (all : used ≡ used_bytes a) (room : used_bytes a ≤ mask_size) (deep : d ≡ depth_of run) (walks : state ≡ (open_walk a run e).state) (short : length e ≤ max_name) (fits : row_at (suc d) + row_size ≤ length run) where
  abbrev blank : List ℕ
  blank = with_row run (suc d) (blank_row e state)

  same : (k : ℕ) → k < row_at (suc d) → get_or blank k 0 ≡ get_or run k 0
  same k l = put-before run (blank_row e state) (row_at (suc d)) row_size fits (blank-length e state short) k l

  active-is : (i : ℕ) → i < 8 * mask_size → taken_active a blank taken d i ≡ now_active a run e i
  unfolding now_active candidate
  active-is i l = taken-active a run blank taken d (λ k lo hi. same k hi) i l ∙ rw (deep, h i, zero_bits mask_size i l)

  seen-is : (i : ℕ) → i < 8 * mask_size → taken_seen a blank taken d i ≡ now_seen a run e i
  unfolding now_seen now_active candidate
  seen-is i l = taken-seen a run blank taken d (λ k lo hi. same k hi) i l ∙ rw (deep, h i, zero_bits mask_size i l)

  match_is : (i : ℕ) → i < 8 * mask_size → taken_matched a blank taken d i ≡ now_matched a run e i
  unfolding now_matched now_active candidate mask_size matches_at rows_at row_size
  match_is i l =
      taken-matched a run blank taken d (λ k lo hi. same k hi) i l (ap (λ (b : ℕ). bit_of b (i % 8)) (same (matches_at + i / 8) (omega arith))) ∙ rw (deep, h i, zero_bits mask_size i l)

  bits_are : (f g : ℕ → Bool) → ((i : ℕ) → i < 8 * mask_size → f i ≡ g i) → bit_bytes f used ≡ used_bits a g
  bits_are f g e = rw all (bits-same f g (used_bytes a) (λ i l. e i (omega arith)))

  fits_bits : (g : ℕ → Bool) → length (used_bits a g) ≤ mask_size
  fits_bits g = omega (arith, tabulate-length (byte_of g) (used_bytes a))

  -- the run that the code leaves is the one of the contract
  pub opened : sets (stored_bits blank d (taken_active a blank taken d) (taken_seen a blank taken d) (taken_matched a blank taken d) used) depth_at (le16 (d + 1)) ≡ open_run a run e
  unfolding open_run row_opened
  opened =
      rw (
        bits_are (taken_active a blank taken d) (now_active a run e) active-is,
        bits_are (taken_seen a blank taken d) (now_seen a run e) seen-is,
        bits_are (taken_matched a blank taken d) (now_matched a run e) match_is,
        blank-filled (take (row_at (suc d)) run) (drop (row_at (suc d) + row_size) run) e state (row_at (suc d)) (used_bits a (now_active a run e)) (used_bits a (now_seen a run e)) (length-take-le (row_at (suc d)) run (omega arith)) short (fits_bits (now_active a run e)) (fits_bits (now_seen a run e)),
        add-one d,
        walks,
        deep,
      )
