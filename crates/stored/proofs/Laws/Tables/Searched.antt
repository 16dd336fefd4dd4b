-- Tables that hold the labels of a set by name can be searched: places are those of labels, and links lead to later ones.
use Prim.Native.Nat.{ℕ, suc, ◌+◌, ◌≤◌, ◌<◌}
use mathlib.Core.Path.{◌≡◌, refl}
use mathlib.Core.Bool.{Bool, true, false, cond}
use mathlib.Core.List.{List, []}
use native.Mathlib.Omega.{arith}
use lib.ListN.{length, get_or, drop, length-drop}
use Rattle.text.specs.Names.{Name}
use Rattle.notation.specs.Sets.{FolderSet}
use Rattle.notation.specs.Reads.{label_count}
use Rattle.stored.specs.Automaton.{hash, named, is_last, last_of_hash, head_of, all_labels}
use Rattle.stored.specs.Usable.{After, Searchable}
use Rattle.stored.proofs.Laws.Bytes.Finding.{Ranged, nowhere, somewhere, find-range, last-range}
use Rattle.stored.proofs.Laws.Tables.Chained.{Chained, chain_at}

pub top : {k n p : ℕ} → 1 ≤ k → Ranged k n p → p < k + n
top h (nowhere e) = omega arith
top h (somewhere a b) = b

not-below : {k n p m : ℕ} → Ranged k n p → p ≡ suc m → k ≤ suc m
not-below (nowhere e) q = absurd (omega arith)
not-below (somewhere a b) q = omega arith

pub if-range : {k n p : ℕ} (b : Bool) → Ranged k n p → Ranged k n (cond b p 0)
if-range true r = r
if-range false r = nowhere refl

pub head-within : (names : List Name) (h : ℕ) → head_of names h ≤ length names
head-within names h = omega (arith, top (omega arith) (last-range (last_of_hash h) 1 names))

-- a place behind label l, or none
abbrev pub Behind : List Name → ℕ → ℕ → Type 0
Behind names l p = Ranged (suc (suc l)) (length (drop (suc l) names)) p

pub behind-within : (names : List Name) (l p : ℕ) → l < length names → Behind names l p → p ≤ length names
behind-within names l p h r = omega (arith, length-drop (suc l) names, top (omega arith) r)

pub behind-after : (names : List Name) (a : List ℕ) (l p : ℕ) → l < length names → label_count a ≡ length names → Behind names l p → After a l p
behind-after names a l p h n r = record {
  within = rw n (behind-within names l p h r);
  later = λ m e. omega (arith, not-below r e);
}

module _ (names : List Name) (l : ℕ) where
  pub next-behind : Behind names l (chain_at names l).next
  next-behind = find-range (named (get_or names l [])) (suc (suc l)) (drop (suc l) names)

  pub other-behind : Behind names l (chain_at names l).other
  other-behind = if-range (is_last (get_or names l []) (drop (suc l) names)) (last-range (last_of_hash (hash (get_or names l []))) (suc (suc l)) (drop (suc l) names))

  pub first-within : (chain_at names l).first ≤ length names
  first-within = omega (arith, top (omega arith) (if-range (is_last (get_or names l []) (drop (suc l) names)) (find-range (named (get_or names l [])) 1 names)))

pub chained-searchable : (s : FolderSet) (a : List ℕ) → Chained s a → label_count a ≡ length (all_labels s) → Searchable a
chained-searchable s a c n = record {
  lookable = record {
    few = rw n c.few;
    head = λ h k. rw (n, c.head h k) (head-within (all_labels s) h);
    other = λ l k. let i : l < length (all_labels s) = rw n at k in rw (c.other l i) (behind-after (all_labels s) a l _ i n (other-behind (all_labels s) l));
  };
  first = λ l k. let i : l < length (all_labels s) = rw n at k in rw (n, c.first l i) (first-within (all_labels s) l);
  next = λ l k. let i : l < length (all_labels s) = rw n at k in rw (c.next l i) (behind-after (all_labels s) a l _ i n (next-behind (all_labels s) l));
}
