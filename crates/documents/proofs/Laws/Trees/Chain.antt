-- Positions that rise from 0, one for each step: what `Fits` says, with the document node as position 0.
use Prim.Native.Nat.{ℕ, zero, suc, ◌≤◌, ◌<◌}
use native.Mathlib.Omega.{arith}
use mathlib.Core.Path.{◌≡◌, refl, sym, ◌∙◌}
use mathlib.Core.Bool.{cond}
use mathlib.Core.List.{List}
use lib.Dec.{leb}
use borrow.Author.Tests.{le-leb, lt-leb, leb-true, leb-false}
use lib.ListN.{length}
use Rattle.text.specs.Names.{Name}
use Rattle.notation.specs.Sets.{Path, child, axis_of, test_of}
use Rattle.text.proofs.Laws.Tests.{cases}
use Rattle.notation.specs.Fit.{Takes, nth_step, name_at, Fits}

-- from the position of step i to that of the next
pub record Link (p : Path) (names : List Name) (i a b : ℕ) : Type 0 where
  pub rises : a < b
  pub adjacent : axis_of (nth_step p (suc i)) ≡ child → b ≡ suc a
  pub takes : Takes (test_of (nth_step p (suc i))) (name_at names b)

pub record Chain (p : Path) (names : List Name) (s m : ℕ) : Type 0 where
  pub pos : ℕ → ℕ
  pub from : pos 0 ≡ 0
  pub to : pos s ≡ m
  pub each : (i : ℕ) → i < s → Link p names i (pos i) (pos (suc i))

pub nothing_yet : (p : Path) (names : List Name) → Chain p names 0 0
nothing_yet p names = record { pos = λ i. 0; from = refl; to = refl; each = λ i h. absurd (omega arith) }

put : (ℕ → ℕ) → ℕ → ℕ → ℕ → ℕ
put f s b i = cond (leb i s) (f i) b

put-below : (f : ℕ → ℕ) (s b i : ℕ) → i ≤ s → f i ≡ put f s b i
unfolding put
put-below f s b i h = rw (le-leb i s h) refl

put-at : (f : ℕ → ℕ) (s b i : ℕ) → s < i → b ≡ put f s b i
unfolding put
put-at f s b i h = rw (lt-leb i s h) refl

module _ (p : Path) (names : List Name) where
  pub one_more-is : (s a b : ℕ) → Chain p names s a → Link p names s a b → Chain p names (suc s) b
  one_more-is s a b c l =
      let f = c.pos in
      record {
        pos = put f s b;
        from = sym (put-below f s b 0 (omega arith)) ∙ c.from;
        to = sym (put-at f s b (suc s) (omega arith));
        each = λ i h. cases (leb (suc i) s)
            (λ t. rw (← put-below f s b i (omega arith), ← put-below f s b (suc i) (leb-true (suc i) s t)) (c.each i (leb-true (suc i) s t)))
            (λ t.
            let e : i ≡ s = omega (arith, leb-false (suc i) s t) in
            rw (e, ← put-below f s b s (omega arith), ← put-at f s b (suc s) (omega arith), c.to) l);
      }

  pub one_less : (s m : ℕ) (c : Chain p names (suc s) m) → Chain p names s (c.pos s)
  one_less s m c = record { pos = c.pos; from = c.from; to = refl; each = λ i h. c.each i (omega arith) }

  places : (ℕ → ℕ) → ℕ → ℕ
  places f zero = 0
  places f (suc i) = f (suc i)

  pub fits-chain : Fits p names → Chain p names (length p) (length names)
  unfolding places
  fits-chain a =
      record {
        pos = places a.d;
        from = refl;
        to = last-place (length p) a.there.0 ∙ a.innermost;
        each = λ i h. link i h;
      }
    where
      last-place : (s : ℕ) → 1 ≤ s → places a.d s ≡ a.d s
      last-place zero h = absurd (omega arith)
      last-place (suc i) h = refl

      link : (i : ℕ) → i < length p → Link p names i (places a.d i) (places a.d (suc i))
      link zero h = record { rises = a.within; adjacent = a.first; takes = a.taken 1 (omega arith) h }
      link (suc i) h =
          record {
            rises = a.rising (suc i) (omega arith) h;
            adjacent = a.next (suc i) (omega arith) h;
            takes = a.taken (suc (suc i)) (omega arith) h;
          }

  pub chain_fits : 1 ≤ length p → Chain p names (length p) (length names) → Fits p names
  chain_fits h c =
      record {
        d = c.pos;
        there = (h, omega arith);
        within = omega (arith, (c.each 0 h).rises);
        rising = λ i l k. (c.each i k).rises;
        innermost = c.to;
        taken = taken;
        first = λ e. rw c.from at ((c.each 0 h).adjacent e);
        next = λ i l k. (c.each i k).adjacent;
      }
    where
      taken : (i : ℕ) → 1 ≤ i → i ≤ length p → Takes (test_of (nth_step p i)) (name_at names (c.pos i))
      taken zero l k = absurd (omega arith)
      taken (suc i) l k = (c.each i k).takes
