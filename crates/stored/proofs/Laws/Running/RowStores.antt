-- Rows of bits as far as they are used: stored over others, or filled up with zeros; and a row put into the middle of a run.
use Prim.Native.Nat.{ℕ, ◌+◌, ◌-◌, ◌*◌, ◌≤◌, ◌<◌}
use mathlib.Core.Path.{◌≡◌, sym, ◌∙◌, ap}
use mathlib.Core.Bool.{Bool, false}
use mathlib.Core.List.{List, ◌++◌}
use native.Mathlib.Omega.{arith}
use lib.ListN.{length, take, drop, replicate}
use lib.Seq.{sets, take_at, drop_at, drop-drop}
use Rattle.text.specs.Bytes.{padded}
use Rattle.notation.proofs.Laws.Fill.Padded.{sets-front}
use Rattle.stored.specs.Automaton.{byte_of, bit_bytes}
use Rattle.stored.specs.Run.{row_size, run_size}
use Rattle.stored.proofs.Laws.Bytes.Tabulate.{tabulate-length}
use Rattle.stored.proofs.Laws.Bytes.MaskRows.{bits-same, bits_none, bits-split}
use Rattle.stored.proofs.Laws.Bytes.Stores.{zeros}
use Rattle.stored.proofs.Laws.Running.RunBytes.{zeros_from}

-- bits stored over bits that differ only where they are stored
pub bits-over : (f g : ℕ → Bool) (u n : ℕ) → u ≤ n → ((i : ℕ) → 8 * u ≤ i → i < 8 * n → f i ≡ g i) → sets (bit_bytes f n) 0 (bit_bytes g u) ≡ bit_bytes g n
bits-over f g u n h same =
    let k = n - u in
    let e : u + k ≡ n = omega arith in
    let later : bit_bytes (λ j. f (8 * u + j)) k ≡ bit_bytes (λ j. g (8 * u + j)) k =
    bits-same (λ j. f (8 * u + j)) (λ j. g (8 * u + j)) k (λ j l. same (8 * u + j) (omega arith) (omega arith)) in
    rw (← e, bits-split f u k, bits-split g u k, later)
    (sets-front (bit_bytes f u) (bit_bytes (λ j. g (8 * u + j)) k) (bit_bytes g u) (tabulate-length (byte_of f) u ∙ sym (tabulate-length (byte_of g) u)))

-- bits that end with those used, filled up with zeros
pub bits-padded : (f : ℕ → Bool) (u n : ℕ) → u ≤ n → ((i : ℕ) → 8 * u ≤ i → f i ≡ false) → padded n (bit_bytes f u) ≡ bit_bytes f n
unfolding padded
bits-padded f u n h none =
    let k = n - u in
    let e : u + k ≡ n = omega arith in
    let m : n - length (bit_bytes f u) ≡ k = omega (arith, tabulate-length (byte_of f) u) in
    let later : bit_bytes (λ j. f (8 * u + j)) k ≡ replicate k 0 = bits-same (λ j. f (8 * u + j)) (λ j. false) k (λ j l. none (8 * u + j) (omega arith)) ∙ bits_none k in
    rw m (sym (ap (bit_bytes f) (sym e) ∙ bits-split f u k ∙ ap (λ (l : List ℕ). bit_bytes f u ++ l) later))

-- the zeros behind the rows, a row of them taken off
pub zeros-row : (n : ℕ) → n + row_size ≤ run_size → zeros_from n ≡ replicate row_size 0 ++ zeros_from (n + row_size)
unfolding zeros_from
zeros-row n h = zeros (run_size - n) row_size (run_size - (n + row_size)) (omega arith)

-- a part in the middle, replaced
pub spliced : (front old new tail : List ℕ) (at size : ℕ) → length front ≡ at → length old ≡ size
    → take at (front ++ (old ++ tail)) ++ (new ++ drop (at + size) (front ++ (old ++ tail))) ≡ front ++ (new ++ tail)
spliced front old new tail at size e k =
    rw (← drop-drop size at (front ++ (old ++ tail)), take_at front (old ++ tail) at e, drop_at front (old ++ tail) at e, drop_at old tail size k)
