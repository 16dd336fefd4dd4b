-- A label's group from that of the next label of its name.
use Prim.Native.Nat.{ℕ, suc, ◌+◌, ◌*◌, ◌/◌, ◌%◌, ◌<◌}
use native.Mathlib.Omega.{arith}
use mathlib.Core.Path.{◌≡◌, refl, sym, ap, ap₂, ◌∙◌}
use mathlib.Core.Bool.{Bool, true, false, ◌&&◌, ◌||◌, or-false, and-false, or_comm}
use mathlib.Core.Logic.{inl, inr}
use mathlib.Core.List.Memᴰ
use mathlib.Core.List.{List, [], ◌∷◌, ◌++◌, Memᴰ}
use borrow.Author.Tests.{eqb-true, eq-eqb, le-leb, lt-leb}
use lib.Dec.{eqb}
use lib.ListN.{length}
use Rattle.text.specs.Names.{Name}
use Rattle.text.specs.Lists.{any}
use Rattle.stored.specs.Automaton.{named, find, packed, byte_of, Mark, takes, reaches, group_of}
use Rattle.stored.specs.Bits.{bit_of, with_bit}
use Rattle.text.proofs.Laws.Tests.{cases, clash, both, both_true, same_test}
use Rattle.text.proofs.Laws.Lists.{any-is}
use Rattle.model.proofs.Laws.Keywords.Words.{name-same}
use Rattle.stored.proofs.Laws.Bytes.Bits.{packed-small, packed-bit}
use Rattle.stored.proofs.Laws.Bytes.ByteBits.{packed-from}
use Rattle.stored.proofs.Laws.Bytes.Finding.{find-here, find-later, find-empty, find_none}
use Rattle.stored.proofs.Laws.Bytes.WithBit.{with-bit, with-small}

-- no label of these has the name
abbrev None : Name → List Mark → Type 0
None e ms = (x : Mark) → Memᴰ x ms → named e x.name ≡ false

-- the first of the labels with the name, if there is one, counted from j
pub data NextNamed (e : Name) (j : ℕ) (ms : List Mark) (p : ℕ) : Type 0 where
  none : p ≡ 0 → None e ms → NextNamed e j ms p
  next : (before : List Mark) (m : Mark) (after : List Mark) → ms ≡ before ++ (m ∷ after) → None e before → named e m.name ≡ true
      → p ≡ j + length before → NextNamed e j ms p

pub next-named : (e : Name) (j : ℕ) (ms : List Mark) → NextNamed e j ms (find (λ (m : Mark). named e m.name) j ms)
next-named e j [] = none (find-empty (λ (m : Mark). named e m.name) j) (λ x m. absurd (Memᴰ.not-nil m))
next-named e j (m ∷ ms) = cases (named e m.name) here (further (next-named e (suc j) ms))
  where
    here : named e m.name ≡ true → NextNamed e j (m ∷ ms) (find (λ (m : Mark). named e m.name) j (m ∷ ms))
    here h = next [] m ms refl (λ x i. absurd (Memᴰ.not-nil i)) h (find-here (λ (m : Mark). named e m.name) j m ms h ∙ omega arith)

    also : named e m.name ≡ false → (l : List Mark) → None e l → None e (m ∷ l)
    also h l f x i = elim (Memᴰ.cases_cons i) [ inl q ↦ ap (λ (y : Mark). named e y.name) q ∙ h | inr q ↦ f x q ]

    further : NextNamed e (suc j) ms (find (λ (m : Mark). named e m.name) (suc j) ms) → named e m.name ≡ false → NextNamed e j (m ∷ ms) (find (λ (m : Mark). named e m.name) j (m ∷ ms))
    further (none p f) h = none (find-later (λ (m : Mark). named e m.name) j m ms h ∙ p) (also h ms f)
    further (next before y after s f t p) h =
        next (m ∷ before) y after (ap (λ (l : List Mark). m ∷ l) s) (also h before f) t (find-later (λ (m : Mark). named e m.name) j m ms h ∙ p ∙ omega arith)

-- labels of other names are passed over
find_past : (test : Mark → Bool) (j : ℕ) (before rest : List Mark) → ((x : Mark) → Memᴰ x before → test x ≡ false) → find test j (before ++ rest) ≡ find test (j + length before) rest
find_past test j [] rest f = ap (λ (k : ℕ). find test k rest) (omega arith)
find_past test j (x ∷ before) rest f =
    find-later test j x (before ++ rest) (f x (Memᴰ.head refl)) ∙ find_past test (suc j) before rest (λ y m. f y (Memᴰ.tail m))
    ∙ ap (λ (k : ℕ). find test k rest) (omega arith)

takes-past : (e : Name) (i : ℕ) (before rest : List Mark) → None e before → takes e (before ++ rest) i ≡ takes e rest i
unfolding takes any
takes-past e i [] rest f = refl
takes-past e i (x ∷ before) rest f = rw (f x (Memᴰ.head refl)) (takes-past e i before rest (λ y m. f y (Memᴰ.tail m)))

takes-not : (e : Name) (i : ℕ) (ms : List Mark) → ((x : Mark) → Memᴰ x ms → named e x.name ≡ true → x.step ≡ i → ⊥) → takes e ms i ≡ false
unfolding takes
takes-not e i ms f = cases (any (λ m. named e m.name && eqb m.step i) ms)
    (λ t.
    let x = any-is (λ m. named e m.name && eqb m.step i) ms t in
    let y = both (named e x.0.name) (eqb x.0.step i) x.2 in
    absurd (f x.0 x.1 y.0 (eqb-true x.0.step i y.1)))
    (λ t. t)

not-reached : (e : Name) (b : ℕ) (x : Mark) → named e x.name ≡ false → reaches e b x ≡ false
not-reached e b x h = rw h

-- the bits of one step more
with-step : (f : ℕ → Bool) (x s : ℕ) → x < 256 → ((k : ℕ) → k < 8 → f (8 * (s / 8) + k) ≡ (bit_of x k || eqb s (8 * (s / 8) + k))) → byte_of f (s / 8) ≡ with_bit x (s % 8)
with-step f x s h g =
    packed-from (with_bit x (s % 8)) (λ k. f (8 * (s / 8) + k)) (with-small x (s % 8) h (omega arith))
    (λ k l. with-bit x (s % 8) k (omega arith) l ∙ ap (λ (t : Bool). bit_of x k || t) (place k l) ∙ sym (g k l))
  where
    place : (k : ℕ) → k < 8 → eqb (s % 8) k ≡ eqb s (8 * (s / 8) + k)
    place k l = same_test (eqb (s % 8) k) (eqb s (8 * (s / 8) + k))
        (λ t. eq-eqb s (8 * (s / 8) + k) (omega (arith, eqb-true (s % 8) k t)))
        (λ t. eq-eqb (s % 8) k (omega (arith, eqb-true s (8 * (s / 8) + k) t)))

bit-none : (k : ℕ) → k < 8 → bit_of 0 k ≡ false
unfolding packed
bit-none k l = packed-bit (λ i. false) k l

takes_first : (m : Mark) (later : List Mark) (i : ℕ) → takes m.name (m ∷ later) i ≡ (eqb m.step i || takes m.name later i)
unfolding takes any
takes_first m later i = rw (name-same m.name)

module _ (k : ℕ) (m : Mark) where
  -- its own bit, where no later label of the name has a step in this byte
  own_bits : (later : List Mark) → ((x : Mark) → Memᴰ x later → named m.name x.name ≡ true → x.step / 8 ≡ m.step / 8 → ⊥)
      → (group_of k m later).bits ≡ with_bit 0 (m.step % 8) + 256 * (m.step / 8)
  own_bits later f = ap (λ (n : ℕ). n + 256 * (m.step / 8)) (with-step (takes m.name (m ∷ later)) 0 m.step (omega arith) bit_at)
    where
      bit_at : (j : ℕ) → j < 8 → takes m.name (m ∷ later) (8 * (m.step / 8) + j) ≡ (bit_of 0 j || eqb m.step (8 * (m.step / 8) + j))
      bit_at j l =
          let i = 8 * (m.step / 8) + j in
          let z : takes m.name later i ≡ false = takes-not m.name i later (λ x h t q. f x h t (rw q (omega arith))) in
          takes_first m later i ∙ rw (z, bit-none j l) (or-false (eqb m.step i))

  -- the last label of its name
  pub last-far : (later : List Mark) → None m.name later → (group_of k m later).far ≡ 0
  last-far later f = find_none (reaches m.name (suc (m.step / 8))) (suc (suc k)) later (λ x h. not-reached m.name (suc (m.step / 8)) x (f x h))

  pub last-bits : (later : List Mark) → None m.name later → (group_of k m later).bits ≡ with_bit 0 (m.step % 8) + 256 * (m.step / 8)
  last-bits later f = own_bits later (λ x h t q. clash t (f x h))

  -- one before the label y of its name
  module _ (before : List Mark) (y : Mark) (after : List Mark) (others : None m.name before) (same : y.name ≡ m.name) where
    abbrev later : List Mark
    later = before ++ (y ∷ after)

    abbrev r : ℕ
    r = suc k + length before

    far-past : (group_of k m later).far ≡ find (reaches m.name (suc (m.step / 8))) (suc r) (y ∷ after)
    far-past =
        find_past (reaches m.name (suc (m.step / 8))) (suc (suc k)) before (y ∷ after) (λ x h. not-reached m.name (suc (m.step / 8)) x (others x h))
        ∙ ap (λ (j : ℕ). find (reaches m.name (suc (m.step / 8))) j (y ∷ after)) (omega arith)

    -- in the same byte: the group goes on
    module _ (on : y.step / 8 ≡ m.step / 8) where
      pub joined-far : (group_of k m later).far ≡ (group_of r y after).far
      joined-far =
          let no : reaches m.name (suc (m.step / 8)) y ≡ false = rw (lt-leb (suc (m.step / 8)) (y.step / 8) (omega arith)) (and-false (named m.name y.name)) in
          far-past ∙ find-later (reaches m.name (suc (m.step / 8))) (suc r) y after no ∙ rw (same, on)

      pub joined-bits : (group_of k m later).bits ≡ with_bit ((group_of r y after).bits % 256) (m.step % 8) + 256 * (m.step / 8)
      joined-bits = ap (λ (n : ℕ). n + 256 * (m.step / 8)) (with-step (takes m.name (m ∷ later)) ((group_of r y after).bits % 256) m.step (omega arith) bit_at)
        where
          low : (group_of r y after).bits % 256 ≡ byte_of (takes m.name (y ∷ after)) (m.step / 8)
          low =
              let small = packed-small (λ j. takes y.name (y ∷ after) (8 * (y.step / 8) + j)) in
              let z : (group_of r y after).bits % 256 ≡ byte_of (takes y.name (y ∷ after)) (y.step / 8) = omega (arith, small) in
              z ∙ ap₂ (λ (n : Name) (b : ℕ). byte_of (takes n (y ∷ after)) b) same on

          bit_at : (j : ℕ) → j < 8 → takes m.name (m ∷ later) (8 * (m.step / 8) + j) ≡ (bit_of ((group_of r y after).bits % 256) j || eqb m.step (8 * (m.step / 8) + j))
          bit_at j l =
              let i = 8 * (m.step / 8) + j in
              takes_first m later i ∙ rw (low, packed-bit (λ j. takes m.name (y ∷ after) (8 * (m.step / 8) + j)) j l, takes-past m.name i before (y ∷ after) others)
              (or_comm (eqb m.step i) (takes m.name (y ∷ after) i))

    -- in a later byte: a group of its own
    module _ (off : m.step / 8 < y.step / 8) (rise : (x : Mark) → Memᴰ x after → y.step < x.step) where
      pub parted-far : (group_of k m later).far ≡ suc r
      parted-far =
          let n : named m.name y.name ≡ true = rw same (name-same m.name) in
          far-past ∙ find-here (reaches m.name (suc (m.step / 8))) (suc r) y after (both_true n (le-leb (suc (m.step / 8)) (y.step / 8) off))

      pub parted-bits : (group_of k m later).bits ≡ with_bit 0 (m.step % 8) + 256 * (m.step / 8)
      parted-bits = own_bits later (λ x h t q. elim (Memᴰ.append_cases before h) [
        | inl i ↦ clash t (others x i)
        | inr i ↦ elim (Memᴰ.cases_cons i) [
          | inl e ↦ omega (arith, ap (λ (z : Mark). z.step) e)
          | inr j ↦ omega (arith, rise x j)
        ]
      ])
