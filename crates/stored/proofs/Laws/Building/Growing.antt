-- The pass that makes the failure links keeps the tables walkable: the link that it stores leads to a shorter word.
use Prim.Native.Nat.{ℕ, zero, suc, ◌+◌, ◌/◌, ◌%◌, ◌≤◌, ◌<◌}
use mathlib.Core.Path.{◌≡◌, refl, ◌∙◌, ap}
use mathlib.Core.Bool.{Bool, true, false, not, ◌&&◌}
use mathlib.Core.List.{List}
use native.Mathlib.Omega.{arith}
use lib.Dec.{eqb}
use lib.ListN.{length, set}
use lib.Seq.{sets, length-sets, get_or-set_other}
use borrow.Author.Tests.{eqb-true, eqb-false}
use Rattle.notation.specs.Limits.{max_labels}
use Rattle.text.specs.Bytes.{le16}
use Rattle.notation.specs.Layout.{word_size}
use Rattle.notation.specs.Reads.{word16, label_count, label_name}
use Rattle.stored.specs.Automaton.{parent_in, fail_in, size_in, link_size, links_at, automaton_size, link_entry_at}
use Rattle.stored.specs.Tables.{next_at, parent_at, fail_at, size_at, size_of, fail_of, first_of, goto_from, goto_by, walk_from, walk_by}
use Rattle.stored.specs.Code.Fails.{fail_to, failed, failed_if, failed_below, failed_to, Growing}
use Rattle.text.proofs.Laws.Tests.{cases, both}
use Rattle.stored.proofs.Laws.Bytes.Beside.{word-stored}
use Rattle.stored.proofs.Laws.Building.Elsewhere.{count_kept, searchable-kept}
use Rattle.stored.proofs.Laws.Tables.LookTurns.{first-within}
use Rattle.stored.proofs.Laws.Tables.Fuel.{fail-state, fail-shorter, over-state}

-- a number after another one was stored
kept : (a : List ℕ) (at v j : ℕ) → (j ≡ at → ⊥) → (j ≡ suc at → ⊥) → (j + 1 ≡ at → ⊥) → (j + 1 ≡ suc at → ⊥) → word16 (sets a at (le16 v)) j ≡ word16 a j
unfolding word16
kept a at v j p q r t =
    let e0 = get_or-set_other (set a at (v % 256)) (suc at) j (v / 256 % 256) 0 q ∙ get_or-set_other a at j (v % 256) 0 p in
    let e1 = get_or-set_other (set a at (v % 256)) (suc at) (j + 1) (v / 256 % 256) 0 t ∙ get_or-set_other a at (j + 1) (v % 256) 0 r in
    omega (arith, e0, e1)

-- a walk by the labels of a name, from place k on, arrives at a word that is at most one symbol longer
module _ (a : List ℕ) (g : Growing a) where
  goto-grows : (m q k : ℕ) → k ≤ label_count a → size_of a (goto_from m a q k) ≤ suc (size_of a q)
  unfolding goto_from size_of
  goto-grows zero q k h = omega arith
  goto-grows (suc m) q zero h = omega arith
  goto-grows (suc m) q (suc l) h = cases (eqb (parent_at a l) q)
      (λ t. rw t (omega (arith, g.grown l h, ap (size_of a) (eqb-true (parent_at a l) q t))))
      (λ t. rw t (goto-grows m q (next_at a l) (g.walkable.searchable.next l h).within))

  module _ (k : ℕ) (h : k ≤ label_count a) where
    at-goto : (q : ℕ) → size_of a (goto_by a q k) ≤ suc (size_of a q)
    unfolding goto_by
    at-goto q = goto-grows _ q k h

    walk-grows : (m q : ℕ) → q ≤ suc (label_count a) → size_of a (walk_from m a q k).state ≤ suc (size_of a q)
    unfolding walk_from
    walk-grows zero q i = at-goto q
    walk-grows (suc m) q i = cases (eqb (goto_by a q k) 0 && not (eqb q 0))
        (λ t. rw t (falls t (walk-grows m (fail_of a q) (fail-state a g.walkable.falling q i))))
        (λ t. rw t (at-goto q))
      where
        not-zero : (b : Bool) → (b && not (eqb q 0)) ≡ true → eqb q 0 ≡ false
        not-zero b t = cases (eqb q 0) (λ z. let u = (both b (not (eqb q 0)) t).1 in let w : not true ≡ true = rw z at u in cc) (λ z. z)

        falls : (eqb (goto_by a q k) 0 && not (eqb q 0)) ≡ true → size_of a (walk_from m a (fail_of a q) k).state ≤ suc (size_of a (fail_of a q)) → size_of a (walk_from m a (fail_of a q) k).state ≤ suc (size_of a q)
        falls t ih = omega (arith, fail-shorter a g.walkable.falling q i (eqb-false q 0 (not-zero (eqb (goto_by a q k) 0) t)))

    over-grows : (q : ℕ) → q ≤ suc (label_count a) → size_of a (walk_by a q k).state ≤ suc (size_of a q)
    unfolding walk_by
    over-grows q i = walk-grows (size_of a q) q i

-- so the link leads to a state, of a shorter word
module _ (a : List ℕ) (g : Growing a) (l : ℕ) (i : l < label_count a) where
  abbrev first : ℕ
  first = first_of a (label_name a l)

  within : first ≤ label_count a
  within = first-within a g.walkable.searchable (label_name a l)

  pub fail-within : fail_to a l ≤ suc (label_count a)
  unfolding fail_to
  fail-within = cases (eqb (parent_at a l) 0)
      (λ t. rw t (omega arith))
      (λ t. rw t (over-state a g.walkable (fail_of a (parent_at a l)) first (fail-state a g.walkable.falling (parent_at a l) (g.parent l i)) within))

  fail-small : size_of a (fail_to a l) < size_at a l
  unfolding fail_to size_of
  fail-small = cases (eqb (parent_at a l) 0)
      (λ t. rw t (omega (arith, g.grown l i)))
      (λ t. rw t (omega (
        arith,
        g.grown l i,
        over-grows a g first within (fail_of a (parent_at a l)) (fail-state a g.walkable.falling (parent_at a l) (g.parent l i)),
        fail-shorter a g.walkable.falling (parent_at a l) (g.parent l i) (eqb-false (parent_at a l) 0 t),
      )))

  same_count : label_count (failed l a) ≡ label_count a
  same_count = count_kept a l fail_in (fail_to a l) (omega arith) (omega arith)

  same-parent : (m : ℕ) → parent_at (failed l a) m ≡ parent_at a m
  unfolding links_at link_size
  same-parent m = kept a (link_entry_at l + fail_in) (fail_to a l) (link_entry_at m + parent_in) (λ e. omega arith) (λ e. omega arith) (λ e. omega arith) (λ e. omega arith)

  same_size : (m : ℕ) → size_at (failed l a) m ≡ size_at a m
  unfolding links_at link_size
  same_size m = kept a (link_entry_at l + fail_in) (fail_to a l) (link_entry_at m + size_in) (λ e. omega arith) (λ e. omega arith) (λ e. omega arith) (λ e. omega arith)

  other-fail : (m : ℕ) → (m ≡ l → ⊥) → fail_at (failed l a) m ≡ fail_at a m
  unfolding links_at link_size
  other-fail m n = kept a (link_entry_at l + fail_in) (fail_to a l) (link_entry_at m + fail_in) (λ e. n (omega arith)) (λ e. omega arith) (λ e. omega arith) (λ e. n (omega arith))

  fits : link_entry_at l + fail_in + word_size ≤ length a
  unfolding links_at link_size automaton_size max_labels
  fits = omega (arith, g.room, g.walkable.searchable.lookable.few)

  this-fail : fail_at (failed l a) l ≡ fail_to a l
  unfolding max_labels
  this-fail = word-stored a (link_entry_at l + fail_in) (fail_to a l) fits (omega (arith, fail-within, g.walkable.searchable.lookable.few))

  same-sizes : (q : ℕ) → size_of (failed l a) q ≡ size_of a q
  unfolding size_of
  same-sizes zero = refl
  same-sizes (suc zero) = refl
  same-sizes (suc (suc m)) = same_size m

  failed-falls : (m : ℕ) → m < label_count a → (fail_at (failed l a) m ≤ suc (label_count a)) × (size_of a (fail_at (failed l a) m) < size_at a m)
  failed-falls m b = cases (eqb m l)
      (λ t. let e : m ≡ l = eqb-true m l t in rw (e, this-fail) (fail-within, fail-small))
      (λ t. rw (other-fail m (eqb-false m l t)) (g.walkable.falling.fail m b, g.walkable.falling.shorter m b))

  -- the tables stay so
  failed-grows : Growing (failed l a)
  failed-grows = record {
    room = rw (length-sets a (link_entry_at l + fail_in) (le16 (fail_to a l))) g.room;
    walkable = record {
      searchable = searchable-kept a l fail_in (fail_to a l) (omega arith) (omega arith) g.walkable.searchable;
      falling = record {
        fail = λ m b. let b' : m < label_count a = rw same_count at b in rw same_count (failed-falls m b').0;
        size = λ m b. let b' : m < label_count a = rw same_count at b in rw (same_size m) (g.walkable.falling.size m b');
        shorter = λ m b. let b' : m < label_count a = rw same_count at b in rw (same-sizes (fail_at (failed l a) m), same_size m) (failed-falls m b').1;
      };
    };
    parent = λ m b. let b' : m < label_count a = rw same_count at b in rw (same_count, same-parent m) (g.parent m b');
    grown = λ m b. let b' : m < label_count a = rw same_count at b in rw (same_size m, same-parent m, same-sizes (parent_at a m)) (g.grown m b');
  }

-- of one label of a length, of those below l, and of all lengths up to n
pub grows-if : (n l : ℕ) (a : List ℕ) → Growing a → l < label_count a → Growing (failed_if n l a) × (label_count (failed_if n l a) ≡ label_count a)
unfolding failed_if
grows-if n l a g i = cases (eqb (size_at a l) n)
    (λ t. rw t (failed-grows a g l i, same_count a g l i))
    (λ t. rw t (g, refl))

pub grows-below : (n l : ℕ) (a : List ℕ) → Growing a → l ≤ label_count a → Growing (failed_below n l a) × (label_count (failed_below n l a) ≡ label_count a)
unfolding failed_below
grows-below n zero a g h = (g, refl)
grows-below n (suc l) a g h =
    let r = grows-below n l a g (omega arith) in
    let t = grows-if n l (failed_below n l a) r.0 (rw r.1 h) in
    (t.0, t.1 ∙ r.1)

pub grows-to : (n : ℕ) (a : List ℕ) → Growing a → Growing (failed_to (label_count a) n a) × (label_count (failed_to (label_count a) n a) ≡ label_count a)
unfolding failed_to
grows-to zero a g = (g, refl)
grows-to (suc n) a g =
    let r = grows-to n a g in
    let t = grows-below (suc n) (label_count a) (failed_to (label_count a) n a) r.0 (rw r.1 (omega arith)) in
    (t.0, t.1 ∙ r.1)
