-- The definition by positions, taken apart at its last step: the step before it is active on an element further out, and the other way round.
use Prim.Native.Nat.{ℕ, zero, suc, ◌≤◌, ◌<◌, pred}
use native.Mathlib.Omega.{arith}
use mathlib.Core.Path.{◌≡◌, refl, sym, ap, ◌∙◌, subst}
use mathlib.Core.Bool.{Bool, cond}
use mathlib.Core.List.{List, []}
use lib.Dec.{leb}
use borrow.Author.Tests.{le-leb, lt-leb, leb-true, leb-false}
use lib.ListN.{length, take}
use lib.Seq.{length-take-le, get_or-take}
use Rattle.text.specs.Names.{Name}
use Rattle.notation.specs.Sets.{child, Path, axis_of, test_of}
use Rattle.notation.specs.Fit.{Takes, nth_step, name_at, Active}
use Rattle.text.proofs.Laws.Tests.{cases}

-- what holds of 1 .. n and of the next number holds of 1 .. n + 1
one_more-is : (P : ℕ → Type 0) (n : ℕ) → ((i : ℕ) → 1 ≤ i → i ≤ n → P i) → P (suc n) → (i : ℕ) → 1 ≤ i → i ≤ suc n → P i
one_more-is P n low high i pos le =
    cases (leb i n) (λ t. low i pos (leb-true i n t))
    (λ f.
    let same : suc n ≡ i = omega (arith, leb-false i n f) in
    subst P same high)

module _ {p : Path} {s : ℕ} {names : List Name} (a : Active p s names) where
  -- the positions rise, and are those of elements
  pub ordered : (i j : ℕ) → 1 ≤ i → i ≤ j → j ≤ s → a.d i ≤ a.d j
  ordered i zero pos le top = absurd (omega arith)
  ordered i (suc j) pos le top =
      one_more-is (λ (i : ℕ). a.d i ≤ a.d (suc j)) j
      (λ i pos le. omega (arith, ordered i j pos le (omega arith), a.rising j (omega arith) top))
      (omega arith) i pos le

  pub positive : (i : ℕ) → 1 ≤ i → i ≤ s → 1 ≤ a.d i
  positive i pos top = omega (arith, a.within, ordered 1 i (omega arith) pos top)

  pub inside : (i : ℕ) → 1 ≤ i → i ≤ s → a.d i ≤ length names
  inside i pos top = omega (arith, a.innermost, ordered i s pos top (omega arith))

-- a name at a position up to k is the same of the first k names
name_at-take : (names : List Name) (k d : ℕ) → 1 ≤ d → d ≤ k → name_at (take k names) d ≡ name_at names d
name_at-take names k d pos le = get_or-take k names (pred d) [] (omega arith)

-- the first step has one position, the innermost element's
pub on_first : (p : Path) (names : List Name) → 1 ≤ length names → 1 ≤ length p
    → Takes (test_of (nth_step p 1)) (name_at names (length names)) → (axis_of (nth_step p 1) ≡ child → length names ≡ 1)
    → Active p 1 names
on_first p names some room takes near = record {
  d = λ i. length names;
  there = (omega arith, room);
  within = omega arith;
  rising = λ i pos le. absurd (omega arith);
  innermost = refl;
  taken = one_more-is (λ (i : ℕ). Takes (test_of (nth_step p i)) (name_at names (length names))) 0 (λ i pos le. absurd (omega arith)) takes;
  first = near;
  next = λ i pos le. absurd (omega arith);
}

module _ (p : Path) (j : ℕ) (names : List Name) where
  -- the step before the last is active on the element at its position
  pub before : (a : Active p (suc (suc j)) names) → Active p (suc j) (take (a.d (suc j)) names)
  before a =
      let short : a.d (suc j) ≤ length names = inside a (suc j) (omega arith) (omega arith) in
      record {
        d = a.d;
        there = omega (arith, a.there.1);
        within = a.within;
        rising = λ i pos le. a.rising i pos (omega arith);
        innermost = sym (length-take-le (a.d (suc j)) names short);
        taken = λ i pos le.
            subst (λ (n : Name). Takes (test_of (nth_step p i)) n)
            (sym (name_at-take names (a.d (suc j)) (a.d i) (positive a i pos (omega arith)) (ordered a i (suc j) pos le (omega arith))))
            (a.taken i pos (omega arith));
        first = a.first;
        next = λ i pos le. a.next i pos (omega arith);
      }

  module _ (k : ℕ) (b : Active p (suc j) (take k names)) (less : k < length names)
      (room : suc (suc j) ≤ length p)
      (takes : Takes (test_of (nth_step p (suc (suc j)))) (name_at names (length names)))
      (near : axis_of (nth_step p (suc (suc j))) ≡ child → length names ≡ suc k) where
    -- the positions up to the last step's
    d' : ℕ → ℕ
    d' i = cond (leb i (suc j)) (b.d i) (length names)

    low : (i : ℕ) → i ≤ suc j → d' i ≡ b.d i
    unfolding d'
    low i le = ap (λ (t : Bool). cond t (b.d i) (length names)) (le-leb i (suc j) le)

    high : d' (suc (suc j)) ≡ length names
    unfolding d'
    high = ap (λ (t : Bool). cond t (b.d (suc (suc j))) (length names)) (lt-leb (suc (suc j)) (suc j) (omega arith))

    end : b.d (suc j) ≡ k
    end = b.innermost ∙ length-take-le k names (omega arith)

    -- from the step before it, active on one of the first names, the next step is active on the innermost
    pub onward : Active p (suc (suc j)) names
    onward = record {
      d = d';
      there = (omega arith, room);
      within = omega (arith, low 1 (omega arith), b.within);
      rising = λ i pos le.
          one_more-is (λ (i : ℕ). d' i < d' (suc i)) j
          (λ i pos le. omega (arith, low i (omega arith), low (suc i) (omega arith), b.rising i pos (omega arith)))
          (omega (arith, low (suc j) (omega arith), high, end)) i pos (omega arith);
      innermost = high;
      taken =
          one_more-is (λ (i : ℕ). Takes (test_of (nth_step p i)) (name_at names (d' i))) (suc j)
          (λ i pos le.
          subst (λ (n : Name). Takes (test_of (nth_step p i)) n)
          (name_at-take names k (b.d i) (positive b i pos le) (omega (arith, ordered b i (suc j) pos le (omega arith), end))
          ∙ ap (λ (m : ℕ). name_at names m) (sym (low i le)))
          (b.taken i pos le))
          (subst (λ (m : ℕ). Takes (test_of (nth_step p (suc (suc j)))) (name_at names m)) (sym high) takes);
      first = λ e. low 1 (omega arith) ∙ b.first e;
      next = λ i pos le.
          one_more-is (λ (i : ℕ). axis_of (nth_step p (suc i)) ≡ child → d' (suc i) ≡ suc (d' i)) j
          (λ i pos le e. omega (arith, low i (omega arith), low (suc i) (omega arith), b.next i pos (omega arith) e))
          (λ e. omega (arith, low (suc j) (omega arith), high, end, near e)) i pos (omega arith);
    }
