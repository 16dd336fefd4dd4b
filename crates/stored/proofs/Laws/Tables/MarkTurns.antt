-- The steps that the labels of a name mark, group by group: the bound of the definition is enough where the tables have the right shape.
use Prim.Native.Nat.{ℕ, zero, suc, ◌≤◌, ◌<◌}
use mathlib.Core.Path.{◌≡◌, refl, sym, ◌∙◌, ap}
use mathlib.Core.Bool.{Bool, true, false, ◌||◌, or_assoc}
use mathlib.Core.List.{List}
use lib.ListN.{length}
use Rattle.notation.specs.Limits.{max_labels}
use Rattle.notation.specs.Reads.{label_count}
use Rattle.stored.specs.Automaton.{automaton_size}
use Rattle.stored.specs.Tables.{far_at}
use Rattle.stored.specs.Marked.{has_bit, marked_from}
use Rattle.stored.specs.Shape.{automaton_shaped}
use Rattle.stored.specs.Usable.{Openable}
use Rattle.stored.proofs.Laws.Tables.Along.{along}
use Rattle.stored.proofs.Laws.Shapes.Shaped.{shaped-is, shaped-walkable}

pub openable : (a : List ℕ) → automaton_shaped a ≡ true → automaton_size ≤ length a → Openable a
openable a h k = record { walkable = shaped-walkable a h; far = λ l i. ((shaped-is a h).link l i).far; steps = (shaped-is a h).counts.steps; size = k }

pub marked-none : (more : ℕ) (a : List ℕ) (i : ℕ) → marked_from more a 0 i ≡ false
unfolding marked_from
marked-none zero a i = refl
marked-none (suc more) a i = refl

-- the bits of a label joined to those before, and those of the labels behind it
pub flagged : (a : List ℕ) → Openable a → (l : ℕ) → l < label_count a → (i : ℕ) (b before : Bool) → b ≡ (before || has_bit a l i)
    → (b || marked_from max_labels a (far_at a l) i) ≡ (before || marked_from max_labels a (suc l) i)
unfolding marked_from
flagged a c l h i b before t =
    ap (λ (x : Bool). x || marked_from max_labels a (far_at a l) i) t
    ∙ or_assoc before (has_bit a l i) (marked_from max_labels a (far_at a l) i)
    ∙ ap (λ (x : Bool). before || x)
    (sym (along a c.walkable.searchable.lookable.few (far_at a) c.far (λ m k. marked_from m a k i) (λ l x. has_bit a l i || x) (λ m n. marked-none m a i ∙ sym (marked-none n a i)) (λ m l. refl) l h))
