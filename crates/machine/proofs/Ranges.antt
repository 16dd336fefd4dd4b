-- A chain of calls over the numbers below n, and the conjunction of several.
use Prim.Native.Nat.{ℕ}
use mathlib.Core.Path.{◌≡◌, refl, sym, ap, ◌∙◌}
use mathlib.Core.Bool.{Bool, true, false, ◌&&◌}
use mathlib.Core.List.{List}
use native.Mathlib.Nat.{sub-zero}
use denote.Param.Members.{Mut}
use Rattle.std.specs.Fn.{Called}
use Rattle.std.specs.Iterator.{YieldsThen}
use Rattle.std.specs.List.{FoldsTo}
use Rattle.std.specs.Option.{MatchOption}
use Rattle.std.specs.Prelude.{Option}
use Rattle.std.specs.declared.ops.Range.{Range}
use Rattle.std.proofs.iter.Yields.{nat_range_steps}
use Rattle.std.proofs.lemmas.Iterator.{YieldsList-from_range}
use Rattle.std.proofs.lemmas.Iterator.Search.{all_from_yields_List}
use Rattle.stored.specs.Shape.{all_below}
use Rattle.stored.proofs.Laws.Bytes.AllBelow.{all-listed}

-- `all` over them, where the closure is the test f
pub all_below-from_range : {F : Type 0} {g : Mut F (ℕ × Unit {0}) Bool} {n m : ℕ} (f : ℕ → Bool) → n ≡ m → (u : Range ℕ) (k : F) (r : Bool)
    → (xs : List ℕ) × (o : Option ℕ) × (j : F) × YieldsThen nat_range_steps (record { start = 0; end = n }) xs o u × FoldsTo (λ p x q. Called g p (x, tt) true q) k xs j × MatchOption o (r ≡ true) (λ x. (r ≡ false) × ((h : F) × Called g j (x, tt) false h))
    → ((x : ℕ) (b : Bool) (q : F) → Called g k (x, tt) b q → (q ≡ k) × (b ≡ f x)) → r ≡ all_below m f
all_below-from_range {n = n} f e u k r ran test =
    all_from_yields_List f u k r ran (YieldsList-from_range 0 n n refl (sub-zero n)) test
    ∙ (all-listed n f ∙ ap (λ m. all_below m f) e)

pub and-then : {x f r g : Bool} → x ≡ f → x ≡ true → r ≡ g → r ≡ (f && g)
and-then e t d = rw (sym e ∙ t, d)

pub and-else : {x f : Bool} (g : Bool) → x ≡ f → x ≡ false → x ≡ (f && g)
and-else g e t = rw (sym e ∙ t, t)

pub and-four : (f g h k : Bool) → (((f && g) && h) && k) ≡ (f && (g && (h && k)))
and-four true true h k = refl
and-four true false h k = refl
and-four false g h k = refl
