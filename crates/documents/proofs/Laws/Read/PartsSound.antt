-- References, parts and attributes that were read are within their rules and print to what stood there.
use Prim.Native.Nat.{ℕ}
use mathlib.Core.Path.{◌≡◌, refl}
use mathlib.Core.Bool.{Bool, true}
use mathlib.Core.List.{List, [], ◌∷◌, ◌++◌, append_assoc}
use lib.Dec.{eqb}
use borrow.Author.Tests.{eqb-true}
use Rattle.text.specs.Lists.{non_empty}
use Rattle.text.specs.Names.{same_name}
use Rattle.documents.specs.Tokens.{blank, amp, lt, gt, quot, apos, is_entity, in_value, Part, Quote, quote_byte, attribute, print_part, print_parts, print_attribute, formed_part, formed_attribute}
use Rattle.text.specs.Read.{starts_with, front, back}
use Rattle.documents.specs.Reading.{read_reference, part_ahead, read_part, read_attribute_from, read_attribute, attribute_ahead}
use Rattle.text.proofs.Laws.Tests.{and_left, both_true}
use Rattle.documents.proofs.Laws.Printed.AttributesBack.{spread}
use Rattle.text.proofs.Laws.Reads.{WhenRead, failed, gotten, then-holds, cond-holds, begins-drop, word_sound, name-sound}
use Rattle.text.proofs.Laws.ReadMany.{Sound, many-sound}
use Rattle.text.proofs.Laws.Fronts.{front-back, front-every}
use Rattle.documents.proofs.Laws.Read.Quotes.{quote-sound}

pub reference-sound : (l : List ℕ) → WhenRead (λ n r. (is_entity n ≡ true) × (n ++ (59 ∷ r) ≡ l)) (read_reference l)
unfolding read_reference is_entity same_name
reference-sound l =
    cond-holds (starts_with (amp ++ (59 ∷ [])) l) (λ t. gotten (refl, begins-drop (amp ++ (59 ∷ [])) l t)) (λ f.
    cond-holds (starts_with (lt ++ (59 ∷ [])) l) (λ t. gotten (refl, begins-drop (lt ++ (59 ∷ [])) l t)) (λ f.
    cond-holds (starts_with (gt ++ (59 ∷ [])) l) (λ t. gotten (refl, begins-drop (gt ++ (59 ∷ [])) l t)) (λ f.
    cond-holds (starts_with (quot ++ (59 ∷ [])) l) (λ t. gotten (refl, begins-drop (quot ++ (59 ∷ [])) l t)) (λ f.
    cond-holds (starts_with (apos ++ (59 ∷ [])) l) (λ t. gotten (refl, begins-drop (apos ++ (59 ∷ [])) l t)) (λ f. failed)))))

pub part_sound : (ok : ℕ → Bool) → Sound (part_ahead ok) read_part print_part (formed_part ok)
unfolding read_part print_part
part_sound ok = record { sound = sound }
  where
    sound : (l : List ℕ) → part_ahead ok l ≡ true → WhenRead (λ p r. (formed_part ok p ≡ true) × (print_part p ++ r ≡ l)) (read_part l)
    sound [] t = failed
    sound (b ∷ l) t =
        cond-holds (eqb b 38)
        (λ e. then-holds (reference-sound l) (λ n r name. gotten (name.0, rw (append_assoc n (59 ∷ []) r, name.1, eqb-true b 38 e))))
        (λ f. gotten (rw f at t, refl))

pub attribute-prints : (l n r r₂ r₃ r₄ r₅ : List ℕ) (q : Quote) (v : List Part)
    → n ++ r ≡ back blank l → 61 ∷ r₂ ≡ back blank r → quote_byte q ∷ r₃ ≡ back blank r₂ → print_parts v ++ r₄ ≡ r₃ → quote_byte q ∷ r₅ ≡ r₄
    → print_attribute (attribute (front blank l) n (front blank r) (front blank r₂) q v) ++ r₅ ≡ l
attribute-prints l n r r₂ r₃ r₄ r₅ q v name eq quote more close =
    rw (spread (front blank l) n (front blank r) (front blank r₂) q v r₅, close, more, quote, front-back blank r₂, eq, front-back blank r, name)
    (front-back blank l)

read-sound : (l : List ℕ) → non_empty (front blank l) ≡ true
    → WhenRead (λ a r. (formed_attribute a ≡ true) × (print_attribute a ++ r ≡ l)) (read_attribute l)
unfolding read_attribute_from formed_attribute
read-sound l some =
    then-holds (name-sound (back blank l)) (λ n r name.
    then-holds (word_sound (61 ∷ []) (back blank r)) (λ w r₂ eq.
    then-holds (quote-sound (back blank r₂)) (λ q r₃ quote.
    then-holds (many-sound (part_sound (in_value (quote_byte q))) r₃) (λ v r₄ more.
    then-holds (word_sound (quote_byte q ∷ []) r₄) (λ u r₅ close.
    gotten (
      both_true (both_true some (front-every blank l)) (both_true name.0 (both_true (front-every blank r) (both_true (front-every blank r₂) more.0))),
      attribute-prints l n r r₂ r₃ r₄ r₅ q v name.1 eq quote more.1 close,
    ))))))

pub attribute-sound : Sound attribute_ahead read_attribute print_attribute formed_attribute
attribute-sound = record { sound = λ l t. read-sound l (and_left _ _ t) }
