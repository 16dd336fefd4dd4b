-- The walk over an automaton's tables, turn by turn: the bounds in its definitions on how far to look are enough where the tables are
-- walkable, so that they never show.
use Prim.Native.Nat.{ℕ, zero, suc, ◌≤◌, ◌<◌}
use mathlib.Core.Path.{◌≡◌, refl, sym, ◌∙◌, ap}
use mathlib.Core.Bool.{not, ◌&&◌, cond}
use mathlib.Core.List.{List}
use native.Mathlib.Omega.{arith}
use lib.Dec.{eqb}
use borrow.Author.Tests.{eqb-true, eqb-false, eq-eqb, ne_eqb}
use Rattle.notation.specs.Limits.{max_steps, max_labels}
use Rattle.notation.specs.Reads.{label_count}
use Rattle.stored.specs.Tables.{next_at, parent_at, size_of, fail_of, goto_from, goto_by, one_more, walk_from, walk_by}
use Rattle.stored.specs.Usable.{Searchable, Falling, Walkable}
use Rattle.stored.specs.declared.walk.Walk.{Walk}
use Rattle.text.proofs.Laws.Tests.{cases}
use Rattle.stored.proofs.Laws.Tables.Along.{along, closer}

pub goto-end : (more : ℕ) (a : List ℕ) (q : ℕ) → goto_from more a q 0 ≡ 0
unfolding goto_from
goto-end zero a q = refl
goto-end (suc more) a q = refl

module _ (a : List ℕ) (c : Searchable a) (q l : ℕ) (h : l < label_count a) where
  goto-at : goto_from max_labels a q (suc l) ≡ cond (eqb (parent_at a l) q) (suc (suc l)) (goto_from max_labels a q (next_at a l))
  unfolding goto_from
  goto-at =
      along a c.lookable.few (next_at a) c.next (λ m. goto_from m a q) (λ l. cond (eqb (parent_at a l) q) (suc (suc l)))
      (λ m n. goto-end m a q ∙ sym (goto-end n a q)) (λ m l. refl) l h

  -- the label's state if its parent is q, else the search goes on
  pub goto-found : parent_at a l ≡ q → goto_from max_labels a q (suc l) ≡ suc (suc l)
  goto-found t = goto-at ∙ rw (eq-eqb (parent_at a l) q t)

  pub goto-further : (parent_at a l ≡ q → ⊥) → goto_from max_labels a q (suc l) ≡ goto_from max_labels a q (next_at a l)
  goto-further t = goto-at ∙ rw (ne_eqb (parent_at a l) q t)

-- a state that is found is a label's
goto-within : (a : List ℕ) → Searchable a → (q m k : ℕ) → k ≤ label_count a → goto_from m a q k ≤ suc (label_count a)
unfolding goto_from
goto-within a c q zero k h = omega arith
goto-within a c q (suc m) zero h = omega arith
goto-within a c q (suc m) (suc l) h = cases (eqb (parent_at a l) q) (λ t. rw t (omega arith)) (λ t. rw t (goto-within a c q m (next_at a l) (c.next l h).within))

pub goto-state : (a : List ℕ) → Searchable a → (q k : ℕ) → k ≤ label_count a → goto_by a q k ≤ suc (label_count a)
unfolding goto_by
goto-state a c q k h = goto-within a c q max_labels k h

-- a failure move leads to a state
pub fail-state : (a : List ℕ) → Falling a → (q : ℕ) → q ≤ suc (label_count a) → fail_of a q ≤ suc (label_count a)
unfolding fail_of
fail-state a f zero h = omega arith
fail-state a f (suc zero) h = omega arith
fail-state a f (suc (suc l)) h = f.fail l (omega arith)

-- a word is at most a path's labels and `#`
pub size-within : (a : List ℕ) → Falling a → (q : ℕ) → q ≤ suc (label_count a) → size_of a q ≤ suc max_steps
unfolding size_of
size-within a f zero h = omega arith
size-within a f (suc zero) h = omega arith
size-within a f (suc (suc l)) h = f.size l (omega arith)

-- of a shorter word
pub fail-shorter : (a : List ℕ) → Falling a → (q : ℕ) → q ≤ suc (label_count a) → (q ≡ 0 → ⊥) → size_of a (fail_of a q) < size_of a q
unfolding size_of fail_of
fail-shorter a f zero h z = absurd (z refl)
fail-shorter a f (suc zero) h z = omega arith
fail-shorter a f (suc (suc l)) h z = f.shorter l (omega arith)

abbrev pub stays : ℕ → Walk
stays q = record { moves = 0; state = q }

-- a walk that goes on at once, one from the empty word, and one that falls back
from-follows : (m : ℕ) (a : List ℕ) (q k : ℕ) → (goto_by a q k ≡ 0 → ⊥) → walk_from m a q k ≡ stays (goto_by a q k)
unfolding walk_from
from-follows zero a q k h = refl
from-follows (suc m) a q k h = rw (ne_eqb (goto_by a q k) 0 h)

from_empty : (m : ℕ) (a : List ℕ) (k : ℕ) → walk_from m a 0 k ≡ stays (goto_by a 0 k)
unfolding walk_from
from_empty zero a k = refl
from_empty (suc m) a k = cases (eqb (goto_by a 0 k) 0) (λ t. rw t) (λ t. rw t)

from-falls : (m : ℕ) (a : List ℕ) (q k : ℕ) → goto_by a q k ≡ 0 → (q ≡ 0 → ⊥) → walk_from (suc m) a q k ≡ one_more (walk_from m a (fail_of a q) k)
unfolding walk_from
from-falls m a q k h z = rw (eq-eqb (goto_by a q k) 0 h, ne_eqb q 0 z)

module _ (a : List ℕ) (f : Falling a) (k : ℕ) where
  walk-enough : (m n q : ℕ) → q ≤ suc (label_count a) → size_of a q ≤ m → size_of a q ≤ n → walk_from m a q k ≡ walk_from n a q k
  walk-enough zero n q i g h = cases (eqb q 0)
      (λ t. rw (eqb-true q 0 t) (from_empty zero a k ∙ sym (from_empty n a k)))
      (λ t. absurd (omega (arith, fail-shorter a f q i (eqb-false q 0 t))))
  walk-enough (suc m) zero q i g h = cases (eqb q 0)
      (λ t. rw (eqb-true q 0 t) (from_empty (suc m) a k ∙ sym (from_empty zero a k)))
      (λ t. absurd (omega (arith, fail-shorter a f q i (eqb-false q 0 t))))
  walk-enough (suc m) (suc n) q i g h = cases (eqb (goto_by a q k) 0)
      (λ t. cases (eqb q 0)
      (λ u. rw (eqb-true q 0 u) (from_empty (suc m) a k ∙ sym (from_empty (suc n) a k)))
      (λ u.
      let z = eqb-false q 0 u in
      let g0 = eqb-true (goto_by a q k) 0 t in
      from-falls m a q k g0 z
      ∙ (ap one_more (walk-enough m n (fail_of a q) (fail-state a f q i) (omega (arith, fail-shorter a f q i z)) (omega (arith, fail-shorter a f q i z)))
      ∙ sym (from-falls n a q k g0 z))))
      (λ t. from-follows (suc m) a q k (eqb-false (goto_by a q k) 0 t) ∙ sym (from-follows (suc n) a q k (eqb-false (goto_by a q k) 0 t)))

-- the walk, move by move
pub over-follows : (a : List ℕ) (q k : ℕ) → (goto_by a q k ≡ 0 → ⊥) → walk_by a q k ≡ stays (goto_by a q k)
unfolding walk_by
over-follows a q k h = from-follows (size_of a q) a q k h

pub over-empty : (a : List ℕ) (k : ℕ) → walk_by a 0 k ≡ stays (goto_by a 0 k)
unfolding walk_by
over-empty a k = from_empty (size_of a 0) a k

pub over-falls : (a : List ℕ) → Falling a → (q k : ℕ) → q ≤ suc (label_count a) → goto_by a q k ≡ 0 → (q ≡ 0 → ⊥) → walk_by a q k ≡ one_more (walk_by a (fail_of a q) k)
unfolding walk_by
over-falls a f q k i h z = go (size_of a q) refl
  where
    go : (m : ℕ) → size_of a q ≡ m → walk_from m a q k ≡ one_more (walk_from (size_of a (fail_of a q)) a (fail_of a q) k)
    go zero p = absurd (omega (arith, fail-shorter a f q i z))
    go (suc m) p = from-falls m a q k h z ∙ ap one_more (walk-enough a f k m (size_of a (fail_of a q)) (fail_of a q) (fail-state a f q i) (omega (arith, fail-shorter a f q i z)) (omega arith))

-- a walk arrives at a state, by no more moves than the length of the word that it starts from
record Bounded (a : List ℕ) (more : ℕ) (w : Walk) : Type 0 where
  arrived : w.state ≤ suc (label_count a)
  moved : w.moves ≤ more

from-bounded : (a : List ℕ) → Walkable a → (k : ℕ) → k ≤ label_count a → (m q : ℕ) → q ≤ suc (label_count a) → Bounded a m (walk_from m a q k)
unfolding walk_from
from-bounded a w k h zero q i = record { arrived = goto-state a w.searchable q k h; moved = omega arith }
from-bounded a w k h (suc m) q i = cases (eqb (goto_by a q k) 0 && not (eqb q 0))
    (λ t.
    let b = from-bounded a w k h m (fail_of a q) (fail-state a w.falling q i) in
    rw t (record { arrived = b.arrived; moved = omega arith }))
    (λ t. rw t (record { arrived = goto-state a w.searchable q k h; moved = omega arith }))

pub over-state : (a : List ℕ) → Walkable a → (q k : ℕ) → q ≤ suc (label_count a) → k ≤ label_count a → (walk_by a q k).state ≤ suc (label_count a)
unfolding walk_by
over-state a w q k i h = (from-bounded a w k h (size_of a q) q i).arrived

pub over-moves : (a : List ℕ) → Walkable a → (q k : ℕ) → q ≤ suc (label_count a) → k ≤ label_count a → (walk_by a q k).moves ≤ size_of a q
unfolding walk_by
over-moves a w q k i h = (from-bounded a w k h (size_of a q) q i).moved

pub ruleset gotos = (closer, goto-end, goto-found, goto-further)

pub ruleset walks = (fail-state, fail-shorter, size-within, over-follows, over-empty, over-falls)
