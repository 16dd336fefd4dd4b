-- Looking up a name, label by label: the bound of the definition is enough where names can be looked up.
use Prim.Native.Nat.{ℕ, zero, suc, ◌≤◌, ◌<◌}
use mathlib.Core.Path.{◌≡◌, refl, sym, ◌∙◌}
use mathlib.Core.Bool.{true, false, cond}
use mathlib.Core.List.{List}
use native.Mathlib.Omega.{arith}
use Rattle.text.specs.Names.{Name, same_name}
use Rattle.notation.specs.Limits.{max_labels}
use Rattle.notation.specs.Reads.{label_count, label_name}
use Rattle.stored.specs.Automaton.{hash}
use Rattle.stored.specs.Tables.{head_at, other_at, first_at, look_from, look_up, first_after, first_of}
use Rattle.stored.specs.Usable.{Lookable, Searchable}
use Rattle.text.proofs.Laws.Tests.{cases}
use Rattle.stored.proofs.Laws.Tables.Goto.{hash-small}
use Rattle.stored.proofs.Laws.Tables.Along.{along, closer}
use Rattle.stored.proofs.Laws.Tables.LookedUp.{look-end}

module _ (a : List ℕ) (c : Lookable a) (e : Name) where
  look_at : (l : ℕ) → l < label_count a → look_from max_labels a e (suc l) ≡ cond (same_name (label_name a l) e) (suc l) (look_from max_labels a e (other_at a l))
  unfolding look_from
  look_at =
      along a c.few (other_at a) c.other (λ m. look_from m a e) (λ l. cond (same_name (label_name a l) e) (suc l))
      (λ m n. look-end m a e ∙ sym (look-end n a e)) (λ m l. refl)

  -- the label itself if it has the name, else the search goes on
  pub look-found : (l : ℕ) → l < label_count a → same_name (label_name a l) e ≡ true → look_from max_labels a e (suc l) ≡ suc l
  look-found l h t = look_at l h ∙ rw t

  pub look-further : (l : ℕ) → l < label_count a → same_name (label_name a l) e ≡ false → look_from max_labels a e (suc l) ≡ look_from max_labels a e (other_at a l)
  look-further l h t = look_at l h ∙ rw t

  -- a place that is found is a label's
  from-within : (m k : ℕ) → k ≤ label_count a → look_from m a e k ≤ label_count a
  unfolding look_from
  from-within zero k h = omega arith
  from-within (suc m) zero h = omega arith
  from-within (suc m) (suc l) h = cases (same_name (label_name a l) e) (λ t. rw t h) (λ t. rw t (from-within m (other_at a l) (c.other l h).within))

  pub look-within : look_up a e ≤ label_count a
  unfolding look_up
  look-within = from-within max_labels (head_at a (hash e)) (c.head (hash e) (hash-small e))

pub first-within : (a : List ℕ) → Searchable a → (e : Name) → first_of a e ≤ label_count a
unfolding first_of
first-within a c e = go (look_up a e) (look-within a c.lookable e)
  where
    go : (k : ℕ) → k ≤ label_count a → first_after a k ≤ label_count a
    go zero h = omega arith
    go (suc l) h = c.first l h

-- by what is found
pub first-none : (a : List ℕ) (e : Name) → look_up a e ≡ 0 → first_of a e ≡ 0
unfolding first_of
first-none a e z = rw z

pub first-at : (a : List ℕ) (e : Name) (l : ℕ) → look_up a e ≡ suc l → first_of a e ≡ first_at a l
unfolding first_of
first-at a e l p = rw p

pub ruleset looks = (hash-small, closer, look-end, look-found, look-further)

pub ruleset firsts = (first-none, first-at, first-within)
