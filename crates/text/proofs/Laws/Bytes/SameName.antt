-- Two names of the same bytes: the test is what `==` of slices says, and it decides equality.
use Prim.Native.Nat.{ℕ}
use mathlib.Core.Path.{◌≡◌, refl, sym, ap, ◌∙◌}
use mathlib.Core.Logic.{◌↔◌}
use mathlib.Core.Bool.{true, false}
use mathlib.Core.List.{List, [], ◌∷◌}
use lib.Dec.{eqb}
use lib.ListN.{length}
use Rattle.std.specs.Cmp.Lexicographic.{pointwise}
use Rattle.std.proofs.lemmas.Slice.Eq.{bytes_eq-Decides}
use Rattle.text.specs.Names.{same_name}
use Rattle.text.proofs.Laws.Tests.{cases}

pub same_name_equal : (a b : List ℕ) → same_name a b ≡ pointwise eqb a b
unfolding same_name
same_name_equal [] [] = refl
same_name_equal [] (y ∷ b) = refl
same_name_equal (x ∷ a) [] = refl
same_name_equal (x ∷ a) (y ∷ b) = rw (same_name_equal a b)

pub same_name-is : (a b : List ℕ) → (same_name a b ≡ true) ↔ (a ≡ b)
same_name-is a b =
    let decides = bytes_eq-Decides a b in
    (λ t. decides.0 (sym (same_name_equal a b) ∙ t), λ e. same_name_equal a b ∙ decides.1 e)

pub unequal-length : (a b : List ℕ) → (length a ≡ length b → ⊥) → same_name a b ≡ false
unequal-length a b h = cases (same_name a b) (λ e. absurd (h (ap length ((same_name-is a b).0 e)))) (λ e. e)
