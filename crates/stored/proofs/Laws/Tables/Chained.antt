-- Labels linked by name: how each label of a list of names is, and tables that hold it for a set.
use Prim.Native.Nat.{ℕ, zero, suc, ◌+◌, ◌*◌, ◌%◌, ◌≤◌, ◌<◌}
use mathlib.Core.Path.{◌≡◌, refl, sym, ◌∙◌, ap}
use mathlib.Core.List.{List, [], ◌∷◌}
use native.Mathlib.Nat.{mod-lt, add-zero}
use native.Mathlib.Omega.{arith}
use lib.ListN.{length, get_or, drop}
use Rattle.text.specs.Names.{Name}
use Rattle.notation.specs.Limits.{max_labels}
use Rattle.notation.specs.Sets.{FolderSet}
use Rattle.notation.specs.Reads.{label_name}
use Rattle.stored.specs.Automaton.{hashes, hash_from, hash, all_labels, head_of, Chain, chain_of, chains_from, chains}
use Rattle.stored.specs.Tables.{head_at, next_at, other_at, first_at}

hash-from-small : (h : ℕ) (n : Name) → h < hashes → hash_from h n < hashes
unfolding hash_from
hash-from-small h [] k = k
hash-from-small h (b ∷ n) k = hash-from-small ((31 * h + b) % hashes) n (mod-lt (31 * h + b) (omega arith))

pub hash-small : (n : Name) → hash n < hashes
unfolding hashes
hash-small n = hash-from-small 0 n (omega arith)

abbrev pub no_chain : Chain
no_chain = record { next = 0; other = 0; first = 0 }

-- how label l of the names is linked
abbrev pub chain_at : List Name → ℕ → Chain
chain_at names l = chain_of names l (get_or names l []) (drop (suc l) names)

-- the tables hold the labels of the set by name
pub record Chained (s : FolderSet) (a : List ℕ) : Type 0 where
  pub few : length (all_labels s) ≤ max_labels
  pub head : (h : ℕ) → h < hashes → head_at a h ≡ head_of (all_labels s) h
  pub label : (l : ℕ) → l < length (all_labels s) → label_name a l ≡ get_or (all_labels s) l []
  pub next : (l : ℕ) → l < length (all_labels s) → next_at a l ≡ (chain_at (all_labels s) l).next
  pub other : (l : ℕ) → l < length (all_labels s) → other_at a l ≡ (chain_at (all_labels s) l).other
  pub first : (l : ℕ) → l < length (all_labels s) → first_at a l ≡ (chain_at (all_labels s) l).first

chains-at : (all : List Name) (k : ℕ) (names : List Name) (l : ℕ) → l < length names
    → get_or (chains_from all k names) l no_chain ≡ chain_of all (k + l) (get_or names l []) (drop (suc l) names)
unfolding chains_from
chains-at all k [] l h = absurd (omega arith)
chains-at all k (n ∷ names) zero h = ap (λ (j : ℕ). chain_of all j n names) (sym (add-zero k))
chains-at all k (n ∷ names) (suc l) h =
    let e : suc k + l ≡ k + suc l = omega arith in
    chains-at all (suc k) names l (omega arith) ∙ ap (λ (j : ℕ). chain_of all j (get_or names l []) (drop (suc l) names)) e

pub chain-at : (names : List Name) (l : ℕ) → l < length names → get_or (chains names) l no_chain ≡ chain_at names l
chain-at names l h = let z : 0 + l ≡ l = omega arith in chains-at names 0 names l h ∙ ap (λ (j : ℕ). chain_of names j (get_or names l []) (drop (suc l) names)) z

pub chains-length : (all : List Name) (k : ℕ) (names : List Name) → length (chains_from all k names) ≡ length names
unfolding chains_from
chains-length all k [] = refl
chains-length all k (n ∷ names) = ap suc (chains-length all (suc k) names)
