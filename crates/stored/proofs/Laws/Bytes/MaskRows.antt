-- The masks as one row of bits: how it is made step by step, and that it is the masks of the set.
use Prim.Native.Nat.{ℕ, zero, suc, ◌+◌, ◌-◌, ◌*◌, ◌≤◌, ◌<◌}
use mathlib.Core.Path.{◌≡◌, refl, sym, ◌∙◌, ap, ap₂}
use mathlib.Core.Bool.{Bool, true, false, ◌&&◌, ◌||◌, and-false, or-false, and-true, and_comm, or-true}
use mathlib.Core.List.{List, [], ◌∷◌, ◌++◌, append-nil, append_assoc}
use native.Mathlib.Nat.{add-zero, add-suc, sub-zero}
use native.Mathlib.Omega.{arith}
use borrow.Author.Tests.{eq-eqb, ne_eqb, eqb-true, eqb-false, le-leb, lt-leb, leb-true, leb-false}
use lib.Dec.{eqb, leb}
use lib.ListN.{length, replicate}
use Rattle.notation.specs.Sets.{Axis, child, descendant, Test, step, FolderSet, axis_of, test_of}
use Rattle.notation.specs.Reads.{is_descendant, is_star}
use Rattle.stored.specs.Automaton.{mask_size, star_mask, child_mask, descendant_mask, anywhere_mask, root_mask, last_mask, mask_count, all_masks, tabulate, packed, byte_of, bit_bytes, Role, role, roles, role_at, mask_test, masks_from, masks}
use Rattle.stored.specs.Code.Masks.{axis_mask}
use Rattle.text.proofs.Laws.Tests.{cases, both, both_true, same_test}
use Rattle.stored.proofs.Laws.Bytes.Tabulate.{tabulate-same, tabulate-constant}
use Rattle.stored.proofs.Laws.Bytes.WithBit.{packed-same}

-- equal bits, equal rows
pub bits-same : (b c : ℕ → Bool) (n : ℕ) → ((j : ℕ) → j < 8 * n → b j ≡ c j) → bit_bytes b n ≡ bit_bytes c n
bits-same b c n h =
    tabulate-same (byte_of b) (byte_of c) n (λ i k. packed-same (λ j. b (8 * i + j)) (λ j. c (8 * i + j)) (λ j l. h (8 * i + j) (omega arith)))

no_bits : packed (λ k. false) ≡ 0
unfolding packed
no_bits = refl

pub bits_none : (n : ℕ) → bit_bytes (λ j. false) n ≡ replicate n 0
bits_none n = tabulate-same (byte_of (λ j. false)) (λ i. 0) n (λ i k. no_bits) ∙ tabulate-constant n 0

-- a row of rows
pub bits-split : (b : ℕ → Bool) (n k : ℕ) → bit_bytes b (n + k) ≡ bit_bytes b n ++ bit_bytes (λ j. b (8 * n + j)) k
unfolding tabulate
bits-split b n zero = rw add-zero (sym (append-nil (bit_bytes b n)))
bits-split b n (suc k) =
    rw (add-suc n k)
    (ap₂ (λ (l : List ℕ) (x : ℕ). l ++ (x ∷ [])) (bits-split b n k) (packed-same (λ i. b (8 * (n + k) + i)) (λ i. b (8 * n + (8 * k + i))) (λ i h. ap b (omega arith)))
    ∙ append_assoc (bit_bytes b n) (bit_bytes (λ j. b (8 * n + j)) k) _)

-- bit i of mask m
abbrev pub place : ℕ → ℕ → ℕ
place m i = 8 * mask_size * m + i

place_same : (m m' i i' : ℕ) → i < 8 * mask_size → i' < 8 * mask_size → eqb (place m i) (place m' i') ≡ (eqb m m' && eqb i i')
unfolding mask_size
place_same m m' i i' h h' = same_test (eqb (place m i) (place m' i')) (eqb m m' && eqb i i') there back
  where
    there : eqb (place m i) (place m' i') ≡ true → (eqb m m' && eqb i i') ≡ true
    there t =
        let e : place m i ≡ place m' i' = eqb-true (place m i) (place m' i') t in
        let em : m ≡ m' = omega arith in
        both_true (eq-eqb m m' em) (eq-eqb i i' (omega arith))

    back : (eqb m m' && eqb i i') ≡ true → eqb (place m i) (place m' i') ≡ true
    back t = let b = both (eqb m m') (eqb i i') t in eq-eqb (place m i) (place m' i') (omega (arith, eqb-true m m' b.0, eqb-true i i' b.1))

-- bit j set if `on`
abbrev pub flags : Bool → ℕ → (ℕ → Bool) → ℕ → Bool
flags on j b k = (on && eqb k j) || b k

-- the bits of step i
abbrev pub flag_bits : ℕ → Role → (ℕ → Bool) → ℕ → Bool
flag_bits i (role st first last) b = flags last (place last_mask i) (flags true (place (axis_mask first (is_descendant (axis_of st))) i) (flags (is_star (test_of st)) (place star_mask i) b))

-- and of all steps from i on
unfoldable pub role_bits : ℕ → List Role → (ℕ → Bool) → ℕ → Bool
role_bits i [] b = b
role_bits i (r ∷ rs) b = role_bits (suc i) rs (flag_bits i r b)

or-last : (u v w b : Bool) → (u || (v || (w || b))) ≡ (b || (u || (v || w)))
or-last true v w b = sym (or-true b)
or-last false true w b = sym (or-true b)
or-last false false true b = sym (or-true b)
or-last false false false b = sym (or-false b)

or-none : (x b : Bool) → b ≡ (b || (x && false))
or-none true true = refl
or-none true false = refl
or-none false true = refl
or-none false false = refl

-- what holds of each mask holds of mask m
each-mask : (P : ℕ → Type 0) → P star_mask → P child_mask → P descendant_mask → P anywhere_mask → P root_mask → P last_mask → (m : ℕ) → m < mask_count → P m
each-mask P s c d a r l zero h = s
each-mask P s c d a r l (suc zero) h = c
each-mask P s c d a r l (suc (suc zero)) h = d
each-mask P s c d a r l (suc (suc (suc zero))) h = a
each-mask P s c d a r l (suc (suc (suc (suc zero)))) h = r
each-mask P s c d a r l (suc (suc (suc (suc (suc zero))))) h = l
each-mask P s c d a r l (suc (suc (suc (suc (suc (suc m)))))) h = absurd (omega arith)

-- whether mask m has a step, of its axis, `*`, and whether it is first and last
abbrev Has : Axis → Test → Bool → Bool → ℕ → Type 0
Has a t first last m = mask_test m (role (step a t) first last) ≡ ((eqb m last_mask && last) || (eqb m (axis_mask first (is_descendant a)) || (eqb m star_mask && is_star t)))

mask-has : (a : Axis) (t : Test) (first last : Bool) (m : ℕ) → m < mask_count → Has a t first last m
mask-has child t true last = each-mask (Has child t true last) refl refl refl refl refl (sym (or-false last))
mask-has child t false last = each-mask (Has child t false last) refl refl refl refl refl (sym (or-false last))
mask-has descendant t true last = each-mask (Has descendant t true last) refl refl refl refl refl (sym (or-false last))
mask-has descendant t false last = each-mask (Has descendant t false last) refl refl refl refl refl (sym (or-false last))

-- the three bits of a step, where x: it is this step
three : (p q r l s x b : Bool) → ((l && (p && x)) || ((q && x) || ((s && (r && x)) || b))) ≡ (b || (x && ((p && l) || (q || (r && s)))))
three p q r l s true b = rw (and-true p, and-true q, and-true r, and_comm l p, and_comm s r) (or-last (p && l) q (r && s) b)
three p q r l s false b = rw (and-false p, and-false q, and-false r, and-false l, and-false s) (sym (or-false b))

module _ (m : ℕ) (small : m < mask_count) (j : ℕ) (hj : j < 8 * mask_size) where
  role-bit : (i : ℕ) → i < 8 * mask_size → (r : Role) (b : ℕ → Bool) → flag_bits i r b (place m j) ≡ (b (place m j) || (eqb j i && mask_test m r))
  role-bit i hi (role (step a t) first last) b =
      let axis = axis_mask first (is_descendant a) in
      rw (place_same m last_mask j i hj hi, place_same m axis j i hj hi, place_same m star_mask j i hj hi)
      (three (eqb m last_mask) (eqb m axis) (eqb m star_mask) last (is_star t) (eqb j i) (b (place m j))
      ∙ ap (λ (y : Bool). b (place m j) || (eqb j i && y)) (sym (mask-has a t first last m small)))

  pub roles-bit : (rs : List Role) (i : ℕ) (b : ℕ → Bool) → i + length rs ≤ 8 * mask_size
      → role_bits i rs b (place m j) ≡ (b (place m j) || (leb i j && role_at (mask_test m) rs (j - i)))
  unfolding role_bits role_at
  roles-bit [] i b h = or-none (leb i j) (b (place m j))
  roles-bit (r ∷ rs) i b h =
      roles-bit rs (suc i) (flag_bits i r b) (omega arith)
      ∙ ap (λ (x : Bool). x || (leb (suc i) j && role_at (mask_test m) rs (j - suc i))) (role-bit i (omega arith) r b)
      ∙ cases (leb i j) (λ t. cases (eqb j i) (here t) (later t)) before
    where
      here : leb i j ≡ true → eqb j i ≡ true → ((b (place m j) || (eqb j i && mask_test m r)) || (leb (suc i) j && role_at (mask_test m) rs (j - suc i))) ≡ (b (place m j) || (leb i j && role_at (mask_test m) (r ∷ rs) (j - i)))
      here t e =
          let none : j - i ≡ 0 = omega (arith, eqb-true j i e) in
          let over : leb (suc i) j ≡ false = lt-leb (suc i) j (omega (arith, eqb-true j i e)) in
          rw (t, e, over, none) (or-false (b (place m j) || mask_test m r))

      later : leb i j ≡ true → eqb j i ≡ false → ((b (place m j) || (eqb j i && mask_test m r)) || (leb (suc i) j && role_at (mask_test m) rs (j - suc i))) ≡ (b (place m j) || (leb i j && role_at (mask_test m) (r ∷ rs) (j - i)))
      later t e =
          let ne : j ≡ i → ⊥ = eqb-false j i e in
          let le : i ≤ j = leb-true i j t in
          let one : j - i ≡ suc (j - suc i) = omega arith in
          let on : leb (suc i) j ≡ true = le-leb (suc i) j (omega arith) in
          rw (t, e, on, one) (ap (λ (x : Bool). x || role_at (mask_test m) rs (j - suc i)) (or-false (b (place m j))))

      before : leb i j ≡ false → ((b (place m j) || (eqb j i && mask_test m r)) || (leb (suc i) j && role_at (mask_test m) rs (j - suc i))) ≡ (b (place m j) || (leb i j && role_at (mask_test m) (r ∷ rs) (j - i)))
      before t =
          let lt : j < i = leb-false i j t in
          let ne : eqb j i ≡ false = ne_eqb j i (omega arith) in
          let over : leb (suc i) j ≡ false = lt-leb (suc i) j (omega arith) in
          rw (t, ne, over) (or-false (b (place m j) || false))

  pub all-bits : (rs : List Role) → length rs ≤ 8 * mask_size → role_bits 0 rs (λ k. false) (place m j) ≡ role_at (mask_test m) rs j
  all-bits rs h = roles-bit rs 0 (λ k. false) (omega arith) ∙ rw (le-leb 0 j (omega arith), sub-zero)

-- the masks of a set from mask m on, from the bits of its steps
rows_are : (s : FolderSet) (c m : ℕ) (b : ℕ → Bool) → ((n : ℕ) → n < c → (i : ℕ) → i < 8 * mask_size → b (place n i) ≡ role_at (mask_test (m + n)) (roles s) i)
    → bit_bytes b (mask_size * c) ≡ masks_from c m s
unfolding masks_from tabulate mask_size
rows_are s zero m b h = refl
rows_are s (suc c) m b h =
    let size : mask_size * suc c ≡ mask_size + mask_size * c = omega arith in
    rw (size, bits-split b mask_size (mask_size * c)) (ap₂ (λ (x y : List ℕ). x ++ y) (bits-same b (role_at (mask_test m) (roles s)) mask_size first) (rows_are s c (suc m) (λ j. b (8 * mask_size + j)) later))
  where
    first : (i : ℕ) → i < 8 * mask_size → b i ≡ role_at (mask_test m) (roles s) i
    first i k = let e : i ≡ place 0 i = omega arith in ap b e ∙ h 0 (omega arith) i k ∙ ap (λ (n : ℕ). role_at (mask_test n) (roles s) i) (add-zero m)

    later : (n : ℕ) → n < c → (i : ℕ) → i < 8 * mask_size → b (8 * mask_size + place n i) ≡ role_at (mask_test (suc m + n)) (roles s) i
    later n k i l =
        let e : 8 * mask_size + place n i ≡ place (suc n) i = omega arith in
        let f : m + suc n ≡ suc m + n = omega arith in
        ap b e ∙ h (suc n) (omega arith) i l ∙ ap (λ (x : ℕ). role_at (mask_test x) (roles s) i) f

pub masks-are : (s : FolderSet) → length (roles s) ≤ 8 * mask_size → bit_bytes (role_bits 0 (roles s) (λ k. false)) all_masks ≡ masks s
masks-are s h =
    let size : all_masks ≡ mask_size * mask_count = omega arith in
    rw size (rows_are s mask_count star_mask (role_bits 0 (roles s) (λ k. false)) bits)
  where
    bits : (m : ℕ) → m < mask_count → (i : ℕ) → i < 8 * mask_size → role_bits 0 (roles s) (λ k. false) (place m i) ≡ role_at (mask_test (star_mask + m)) (roles s) i
    bits m k i l = let e : m ≡ 0 + m = omega arith in all-bits m k i l (roles s) h ∙ ap (λ (n : ℕ). role_at (mask_test n) (roles s) i) e
