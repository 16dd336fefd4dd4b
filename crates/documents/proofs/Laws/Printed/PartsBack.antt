-- References and parts are read back as they were printed, and what stands after them is left.
use Prim.Native.Nat.{ℕ}
use mathlib.Core.Path.{◌≡◌, refl}
use mathlib.Core.Bool.{Bool, true, false, not, false≢true}
use mathlib.Core.List.{List, [], ◌∷◌, ◌++◌, append_assoc}
use lib.Dec.{eqb}
use Rattle.text.specs.Names.{Name, letter, digit, begins_name, in_name, name_form}
use Rattle.text.specs.Lists.{every}
use Rattle.documents.specs.Tokens.{blank, is_entity, Part, plain, reference, print_part, formed_part}
use Rattle.text.specs.Read.{starts_with, got}
use Rattle.documents.specs.Reading.{read_reference, part_ahead, read_part}
use Rattle.text.proofs.Laws.Tests.{and_left, either-right}
use Rattle.text.proofs.Laws.Lists.{every-head}
use Rattle.documents.proofs.Laws.Read.Bytes.{blank-no-name, name-no-blank, entity-cases}
use Rattle.text.proofs.Laws.Fronts.{stops}
use Rattle.text.proofs.Laws.ReadMany.{Begins, Back}

pub reference-back : (n r : List ℕ) → is_entity n ≡ true → read_reference (n ++ (59 ∷ r)) ≡ got n r
unfolding read_reference starts_with
reference-back n r h = entity-cases n h (λ e. is e refl) (λ e. is e refl) (λ e. is e refl) (λ e. is e refl) (λ e. is e refl)
  where
    is : {w : Name} → n ≡ w → read_reference (w ++ (59 ∷ r)) ≡ got w r → read_reference (n ++ (59 ∷ r)) ≡ got n r
    is e h = rw e h

-- no name goes on at `=`, and it is no blank

pub equals : (not (in_name 61) ≡ true) × (not (blank 61) ≡ true)
unfolding in_name begins_name letter digit blank
equals = (refl, refl)

pub name-stops-blanks : (n r : List ℕ) → name_form n ≡ true → stops blank (n ++ r) ≡ true
unfolding name_form
name-stops-blanks [] r h = absurd (false≢true h)
name-stops-blanks (b ∷ n) r h =
    let first : begins_name b ≡ true = and_left _ _ h in
    rw (name-no-blank b first)

pub blanks-stop-name : (s r : List ℕ) → every blank s ≡ true → stops in_name r ≡ true → stops in_name (s ++ r) ≡ true
blanks-stop-name [] r h k = k
blanks-stop-name (b ∷ s) r h k = rw (blank-no-name b (every-head blank b s h))

module _ (ok : ℕ → Bool) where
  pub part-begins : Begins (part_ahead ok) print_part (formed_part ok)
  unfolding print_part
  part-begins = record { here = here; none = refl }
    where
      here : (p : Part) (r : List ℕ) → formed_part ok p ≡ true → part_ahead ok (print_part p ++ r) ≡ true
      here (plain b) r h = either-right (eqb b 38) h
      here (reference n) r h = refl

  pub part-back : ((b : ℕ) → ok b ≡ true → eqb b 38 ≡ false) → Back read_part print_part (formed_part ok) (λ r. true)
  unfolding read_part print_part
  part-back no-amp = record { back = back; next = λ p r h. refl }
    where
      back : (p : Part) (r : List ℕ) → formed_part ok p ≡ true → true ≡ true → read_part (print_part p ++ r) ≡ got p r
      back (plain b) r h k = rw (no-amp b h)
      back (reference n) r h k = rw (append_assoc n (59 ∷ []) r, reference-back n r h)
