-- Blocks of bits as vectors of sixteen bytes, and the operators on them.
use Prim.Native.Nat.{ℕ, zero, suc, ◌+◌, ◌*◌, ◌-◌, ◌/◌, ◌%◌, ◌^◌, ◌≤◌, ◌<◌}
use mathlib.Core.Path.{◌≡◌, sym, ◌∙◌, ap, ap₂}
use mathlib.Core.Bool.{Bool, false, ◌&&◌, ◌||◌, or-false}
use mathlib.Core.List.{List, ◌++◌, append_assoc}
use native.Mathlib.Nat.{add-zero, zero-add, zero-div}
use native.Mathlib.Omega.{arith}
use lib.Bits.{bit_and, bit_or, and_lt, or_lt}
use lib.Seq.{sets, sets-eq}
use lib.Lanes.{zip2, chunk, put_chunk}
use lib.ListN.{length, get_or, set, take, drop, replicate, length-set, get_or-replicate}
use mir.Syntax.{w8}
use mir.Val.{Fits}
use Rattle.std.proofs.lemmas.Grind.{same_number_lists}
use Rattle.std.proofs.lemmas.List.{drop-drop, get_or-set_same, get_or-set_other}
use Rattle.std.proofs.lemmas.Simd.{length-zip2, length-chunk, put_chunk_is, get_or-zip2, get_or-chunk}
use Rattle.stored.specs.Bits.{bit_of, bit_in, bit_at, bit_before}
use Rattle.stored.specs.Automaton.{byte_of, bit_bytes}
use Rattle.stored.specs.RunCalls.{shifted}
use Rattle.stored.specs.Code.OpenSteps.{Block}
use Rattle.stored.proofs.Laws.Bytes.Bits.{packed-small, packed-bit}
use Rattle.stored.proofs.Laws.Bytes.ByteBits.{and-bit, or-bit, packed-from, one_on}
use Rattle.stored.proofs.Laws.Bytes.ByteSteps.{byte-bit, last-before}
use Rattle.stored.proofs.Laws.Bytes.MaskRows.{bits-same}
use Rattle.stored.proofs.Laws.Bytes.Tabulate.{tabulate-at, tabulate-length}

-- a vector whose bytes have these bits
block-is : (xs : List ℕ) (f : ℕ → Bool) → length xs ≡ 16 → ((j : ℕ) → j < 16 → (get_or xs j 0 < 256) × ((k : ℕ) → k < 8 → bit_of (get_or xs j 0) k ≡ f (8 * j + k))) → Block f xs
block-is xs f long h =
    let same : (j : ℕ) → j < length xs → get_or xs j 0 ≡ get_or (bit_bytes f 16) j 0 = λ j l.
    let m : j < 16 = omega arith in
    let b = h j m in
    sym (tabulate-at (byte_of f) 16 j m ∙ packed-from (get_or xs j 0) (λ k. f (8 * j + k)) b.0 b.1) in
    record { is = same_number_lists xs (bit_bytes f 16) (long ∙ sym (tabulate-length (byte_of f) 16)) same }

block-small : (f : ℕ → Bool) (j : ℕ) → j < 16 → get_or (bit_bytes f 16) j 0 < 256
block-small f j h = rw (tabulate-at (byte_of f) 16 j h) (packed-small (λ k. f (8 * j + k)))

block-bit : (f : ℕ → Bool) (j k : ℕ) → j < 16 → k < 8 → bit_of (get_or (bit_bytes f 16) j 0) k ≡ f (8 * j + k)
block-bit f j k h l = rw (tabulate-at (byte_of f) 16 j h) (packed-bit (λ i. f (8 * j + i)) k l)

-- a load
pub block-loaded : (bytes : List ℕ) (base from : ℕ) → base + from + 16 ≤ length bytes → ((i : ℕ) → Fits w8 (get_or bytes i 0)) → Block (λ i. bit_in bytes base (8 * from + i)) (chunk (base + from) 16 bytes)
block-loaded bytes base from fits small =
    block-is (chunk (base + from) 16 bytes) (λ i. bit_in bytes base (8 * from + i)) (length-chunk (base + from) 16 bytes fits) (λ j h.
    let at : get_or (chunk (base + from) 16 bytes) j 0 ≡ get_or bytes (base + (from + j)) 0 = get_or-chunk (base + from) 16 bytes j 0 h ∙ ap (λ (n : ℕ). get_or bytes n 0) (omega arith) in (
      rw at (small (base + (from + j))).fits,
      λ k l. let i : 8 * from + (8 * j + k) ≡ 8 * (from + j) + k = omega arith in rw (at, i) (byte-bit bytes base (from + j) k l),
    ))

-- a store
pub block-put : {f : ℕ → Bool} (bytes : List ℕ) (at : ℕ) (xs : List ℕ) → Block f xs → at + 16 ≤ length bytes → put_chunk at bytes xs ≡ sets bytes at (bit_bytes f 16)
block-put {f} bytes at xs b fits =
    let long : length (bit_bytes f 16) ≡ 16 = tabulate-length (byte_of f) 16 in
    ap (λ (l : List ℕ). put_chunk at bytes l) b.is
    ∙ put_chunk_is at bytes (bit_bytes f 16) (omega arith)
    ∙ ap (λ (l : List ℕ). take at bytes ++ (bit_bytes f 16 ++ l)) (drop-drop (length (bit_bytes f 16)) at bytes)
    ∙ sym (append_assoc (take at bytes) (bit_bytes f 16) (drop (at + length (bit_bytes f 16)) bytes))
    ∙ sym (sets-eq (bit_bytes f 16) bytes at (omega arith))

-- from the first byte on
pub block-from_start : (bytes : List ℕ) (n : ℕ) {xs : List ℕ} → Block (λ i. bit_in bytes 0 (n + i)) xs → Block (λ i. bit_at bytes (n + i)) xs
block-from_start bytes n b = record { is = b.is ∙ bits-same (λ i. bit_in bytes 0 (n + i)) (λ i. bit_at bytes (n + i)) 16 (λ i h. ap (λ (k : ℕ). bit_of (get_or bytes k 0) ((n + i) % 8)) (zero-add ((n + i) / 8))) }

-- the operators, byte by byte
module _ (op : ℕ → ℕ → ℕ) (join : Bool → Bool → Bool) (small : (x y : ℕ) → x < 256 → y < 256 → op x y < 256) (bits : (x y k : ℕ) → bit_of (op x y) k ≡ join (bit_of x k) (bit_of y k)) where
  block-joined : {f g : ℕ → Bool} {xs ys : List ℕ} → Block f xs → Block g ys → Block (λ i. join (f i) (g i)) (zip2 op xs ys)
  block-joined {f} {g} {xs} {ys} x y =
      let lx : length xs ≡ 16 = ap length x.is ∙ tabulate-length (byte_of f) 16 in
      let ly : length ys ≡ 16 = ap length y.is ∙ tabulate-length (byte_of g) 16 in
      block-is (zip2 op xs ys) (λ i. join (f i) (g i)) (length-zip2 op xs ys (lx ∙ sym ly) ∙ lx) (λ j h.
      let at : get_or (zip2 op xs ys) j 0 ≡ op (get_or (bit_bytes f 16) j 0) (get_or (bit_bytes g 16) j 0) = get_or-zip2 op xs ys j 0 0 0 (omega arith) (omega arith) ∙ ap₂ (λ (l m : List ℕ). op (get_or l j 0) (get_or m j 0)) x.is y.is in (
        rw at (small (get_or (bit_bytes f 16) j 0) (get_or (bit_bytes g 16) j 0) (block-small f j h) (block-small g j h)),
        λ k l. rw at (bits (get_or (bit_bytes f 16) j 0) (get_or (bit_bytes g 16) j 0) k) ∙ ap₂ join (block-bit f j k h l) (block-bit g j k h l),
      ))

pub block-and : {f g : ℕ → Bool} {xs ys : List ℕ} → Block f xs → Block g ys → Block (λ i. f i && g i) (zip2 bit_and xs ys)
block-and = block-joined bit_and (λ a b. a && b) (λ x y h k. and_lt 8 x y h k) and-bit

pub block-or : {f g : ℕ → Bool} {xs ys : List ℕ} → Block f xs → Block g ys → Block (λ i. f i || g i) (zip2 bit_or xs ys)
block-or = block-joined bit_or (λ a b. a || b) (λ x y h k. or_lt 8 x y h k) or-bit

zero-bit : (k : ℕ) → bit_of 0 k ≡ false
unfolding bit_of
zero-bit k = let z : 0 / 2 ^ k % 2 ≡ 0 = ap (λ (n : ℕ). n % 2) (zero-div (2 ^ k)) in rw z

moved-on : (b before k : ℕ) → b < 256 → before < 256 → k < 8 → bit_of (bit_or (b * 2 ^ 1 % 256) (before / 2 ^ 7)) k ≡ bit_before b before k
moved-on b before k h g l =
    or-bit (b * 2 % 256) (before / 128) k
    ∙ ap₂ (λ (x y : Bool). x || y) (ap (λ (n : ℕ). bit_of n k) (sym (add-zero (b * 2 % 256))) ∙ one_on b 0 k h (omega arith) l) (ap (λ (n : ℕ). bit_of n k) (sym (zero-add (before / 128))) ∙ one_on 0 before k (omega arith) g l)
    ∙ beside k
  where
    beside : (k : ℕ) → (bit_before b 0 k || bit_before 0 before k) ≡ bit_before b before k
    beside zero = ap (λ (x : Bool). x || bit_of before 7) (zero-bit 7)
    beside (suc k) = ap (λ (x : Bool). bit_of b k || x) (zero-bit k) ∙ or-false (bit_of b k)

-- the byte before each byte of a block; no byte is before the first of a row
pub record Before (bytes : List ℕ) (base from : ℕ) (before : List ℕ) : Type 0 where
  pub long : length before ≡ 16
  pub small : (j : ℕ) → j < 16 → get_or before j 0 < 256
  pub last : (j : ℕ) → j < 16 → bit_of (get_or before j 0) 7 ≡ shifted (bit_in bytes base) (8 * (from + j))

module _ (bytes : List ℕ) (base from : ℕ) (some : 0 < base) (fits : base + from + 16 ≤ length bytes) (byte : (i : ℕ) → Fits w8 (get_or bytes i 0)) where
  abbrev loaded : List ℕ
  loaded = chunk (base + from - 1) 16 bytes

  loaded-at : (j : ℕ) → j < 16 → get_or loaded j 0 ≡ get_or bytes (base + from - 1 + j) 0
  loaded-at j h = get_or-chunk (base + from - 1) 16 bytes j 0 h

  behind : (j n : ℕ) → j < 16 → from + j ≡ suc n → bit_of (get_or loaded j 0) 7 ≡ shifted (bit_in bytes base) (8 * (from + j))
  behind j n h e =
      let at : base + from - 1 + j ≡ base + n = omega arith in
      rw (loaded-at j h, at, e) (last-before bytes base n)

  pub before-later : (from ≡ 0 → ⊥) → Before bytes base from loaded
  before-later later = record {
    long = length-chunk (base + from - 1) 16 bytes (omega arith);
    small = λ j h. rw (loaded-at j h) (byte (base + from - 1 + j)).fits;
    last = λ j h. behind j (from + j - 1) h (omega (arith, later));
  }

  cut_first : get_or (set loaded 0 0) 0 0 ≡ 0
  cut_first = let l : 0 < length loaded = omega (arith, length-chunk (base + from - 1) 16 bytes (omega arith)) in get_or-set_same loaded 0 0 0 l

  cut-later : (j : ℕ) → get_or (set loaded 0 0) (suc j) 0 ≡ get_or loaded (suc j) 0
  cut-later j = get_or-set_other loaded 0 (suc j) 0 0 (λ e. absurd (omega arith))

  pub before-first : from ≡ 0 → Before bytes base from (set loaded 0 0)
  before-first z =
      let long : length loaded ≡ 16 = length-chunk (base + from - 1) 16 bytes (omega arith) in
      record { long = length-set loaded 0 0 ∙ long; small = small; last = last }
    where
      small : (j : ℕ) → j < 16 → get_or (set loaded 0 0) j 0 < 256
      small zero h = rw cut_first (omega arith)
      small (suc j) h = rw (cut-later j, loaded-at (suc j) h) (byte (base + from - 1 + suc j)).fits

      last : (j : ℕ) → j < 16 → bit_of (get_or (set loaded 0 0) j 0) 7 ≡ shifted (bit_in bytes base) (8 * (from + j))
      last zero h = rw (cut_first, z) (zero-bit 7)
      last (suc j) h = rw (cut-later j) (behind (suc j) (from + j) h (omega arith))

-- each bit of a block one step on
pub block-on : {bytes : List ℕ} {base from : ℕ} {here before : List ℕ} → Block (λ i. bit_in bytes base (8 * from + i)) here → Before bytes base from before
    → Block (λ i. shifted (bit_in bytes base) (8 * from + i)) (zip2 bit_or (zip2 (λ x s. x * 2 ^ s % 256) here (replicate 16 1)) (zip2 (λ x s. x / 2 ^ s) before (replicate 16 7)))
block-on {bytes} {base} {from} {here} {before} h p =
    let on = zip2 (λ x s. x * 2 ^ s % 256) here (replicate 16 1) in
    let off = zip2 (λ x s. x / 2 ^ s) before (replicate 16 7) in
    let lh : length here ≡ 16 = ap length h.is ∙ tabulate-length (byte_of (λ i. bit_in bytes base (8 * from + i))) 16 in
    let lo : length on ≡ 16 = length-zip2 (λ x s. x * 2 ^ s % 256) here (replicate 16 1) lh ∙ lh in
    let lf : length off ≡ 16 = length-zip2 (λ x s. x / 2 ^ s) before (replicate 16 7) p.long ∙ p.long in
    block-is (zip2 bit_or on off) (λ i. shifted (bit_in bytes base) (8 * from + i)) (length-zip2 bit_or on off (lo ∙ sym lf) ∙ lo) (λ j l.
    let x = get_or here j 0 in
    let b = get_or before j 0 in
    let xs : x < 256 = rw h.is (block-small (λ i. bit_in bytes base (8 * from + i)) j l) in
    let at : get_or (zip2 bit_or on off) j 0 ≡ bit_or (x * 2 ^ 1 % 256) (b / 2 ^ 7) =
    get_or-zip2 bit_or on off j 0 0 0 (omega arith) (omega arith)
    ∙ ap₂ bit_or
    (get_or-zip2 (λ x s. x * 2 ^ s % 256) here (replicate 16 1) j 0 0 0 (omega arith) (omega arith) ∙ ap (λ (s : ℕ). x * 2 ^ s % 256) (get_or-replicate 16 j 1 0 l))
    (get_or-zip2 (λ x s. x / 2 ^ s) before (replicate 16 7) j 0 0 0 (omega arith) (omega arith) ∙ ap (λ (s : ℕ). b / 2 ^ s) (get_or-replicate 16 j 7 0 l)) in
    let go : (k : ℕ) → k < 8 → bit_before x b k ≡ shifted (bit_in bytes base) (8 * from + (8 * j + k)) = bit j l in (
      rw at (or_lt 8 (x * 2 % 256) (b / 128) (omega arith) (omega (arith, p.small j l))),
      λ k m. rw at (moved-on x b k xs (p.small j l) m) ∙ go k m,
    ))
  where
    bit : (j : ℕ) → j < 16 → (k : ℕ) → k < 8 → bit_before (get_or here j 0) (get_or before j 0) k ≡ shifted (bit_in bytes base) (8 * from + (8 * j + k))
    bit j l zero m = let e : 8 * from + (8 * j + 0) ≡ 8 * (from + j) = omega arith in rw e (p.last j l)
    bit j l (suc k) m =
        let e : 8 * from + (8 * j + suc k) ≡ suc (8 * from + (8 * j + k)) = omega arith in
        rw (e, h.is) (block-bit (λ i. bit_in bytes base (8 * from + i)) j k l (omega arith))
