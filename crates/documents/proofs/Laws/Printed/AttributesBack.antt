-- Attributes are read back as they were printed.
use Prim.Native.Nat.{ℕ}
use mathlib.Core.Path.{◌≡◌, refl}
use mathlib.Core.Bool.{true, false, ◌&&◌}
use mathlib.Core.List.{List, ◌∷◌, ◌++◌, append_assoc}
use borrow.Author.Tests.{eq-eqb}
use Rattle.text.specs.Names.{name_form}
use Rattle.text.specs.Lists.{every, non_empty}
use Rattle.documents.specs.Tokens.{blank, listed, in_text, in_value, Part, Quote, double, single, quote_byte, Attribute, attribute, print_parts, print_attribute, formed_part, formed_attribute}
use Rattle.text.specs.Read.{got, front, read_word}
use Rattle.documents.specs.Reading.{read_quote, read_attribute_from, part_ahead, read_attribute, attribute_ahead}
use Rattle.text.proofs.Laws.Tests.{and_left, and_right}
use Rattle.documents.proofs.Laws.Read.Bytes.{text-no-amp, value-text}
use Rattle.text.proofs.Laws.Fronts.{stops, front_of, back-of}
use Rattle.text.proofs.Laws.Reads.{name_back, name-ahead}
use Rattle.text.proofs.Laws.ReadMany.{Begins, Back, many-back}
use Rattle.documents.proofs.Laws.Printed.PartsBack.{equals, name-stops-blanks, blanks-stop-name, part-begins, part-back}

pub quote-stops : (q : Quote) (r : List ℕ) → (part_ahead (in_value (quote_byte q)) (quote_byte q ∷ r) ≡ false) × (stops blank (quote_byte q ∷ r) ≡ true)
unfolding in_value in_text listed blank
quote-stops double r = (refl, refl)
quote-stops single r = (refl, refl)

pub quote-back : (q : Quote) (r : List ℕ) → read_quote (quote_byte q ∷ r) ≡ got q r
quote-back double r = refl
quote-back single r = refl

-- an attribute within its rule, taken apart
pub record Formed (s n before after : List ℕ) (q : Quote) (v : List Part) : Type 0 where
  pub some : non_empty s ≡ true
  pub blanks : every blank s ≡ true
  pub name : name_form n ≡ true
  pub blanks₂ : every blank before ≡ true
  pub blanks₃ : every blank after ≡ true
  pub value : every (formed_part (in_value (quote_byte q))) v ≡ true

pub formed-parts : (s n before after : List ℕ) (q : Quote) (v : List Part) → formed_attribute (attribute s n before after q v) ≡ true
    → Formed s n before after q v
unfolding formed_attribute
formed-parts s n before after q v h =
    let h₁ = and_left (non_empty s && every blank s) _ h in
    let h₂ = and_right (non_empty s && every blank s) _ h in
    let h₃ = and_right (name_form n) _ h₂ in
    let h₄ = and_right (every blank before) _ h₃ in
    record {
      some = and_left _ _ h₁;
      blanks = and_right (non_empty s) _ h₁;
      name = and_left _ _ h₂;
      blanks₂ = and_left _ _ h₃;
      blanks₃ = and_left _ _ h₄;
      value = and_right (every blank after) _ h₄;
    }

-- the bytes of an attribute and what follows it, from the name on
abbrev pub from_name : List ℕ → List ℕ → List ℕ → Quote → List Part → List ℕ → List ℕ
from_name n before after q v r = n ++ (before ++ (61 ∷ (after ++ (quote_byte q ∷ (print_parts v ++ (quote_byte q ∷ r))))))

pub spread : (s n before after : List ℕ) (q : Quote) (v : List Part) (r : List ℕ)
    → print_attribute (attribute s n before after q v) ++ r ≡ s ++ from_name n before after q v r
unfolding print_attribute
spread s n before after q v r = simp append_assoc

read_back : (a : Attribute) (r : List ℕ) → formed_attribute a ≡ true → read_attribute (print_attribute a ++ r) ≡ got a r
unfolding read_attribute_from read_word
read_back (attribute s n before after q v) r h =
    let f = formed-parts s n before after q v h in
    let t₅ : List ℕ = quote_byte q ∷ r in
    let t₄ : List ℕ = print_parts v ++ t₅ in
    let t₃ : List ℕ = quote_byte q ∷ t₄ in
    let t₁ : List ℕ = 61 ∷ (after ++ t₃) in
    let t₀ : List ℕ = before ++ t₁ in
    let stop₁ = name-stops-blanks n t₀ f.name in
    let stop₂ = blanks-stop-name before t₁ f.blanks₂ equals.0 in
    let stop₃ = (quote-stops q t₄).1 in
    rw (
      spread s n before after q v r,
      front_of blank s (n ++ t₀) f.blanks stop₁,
      back-of blank s (n ++ t₀) f.blanks stop₁,
      name_back n t₀ f.name stop₂,
      front_of blank before t₁ f.blanks₂ equals.1,
      back-of blank before t₁ f.blanks₂ equals.1,
      front_of blank after t₃ f.blanks₃ stop₃,
      back-of blank after t₃ f.blanks₃ stop₃,
      quote-back q t₄,
      many-back (part-begins (in_value (quote_byte q))) (part-back (in_value (quote_byte q)) (λ b k. text-no-amp b (value-text (quote_byte q) b k)))
          v t₅ f.value refl (quote-stops q r).0,
      eq-eqb (quote_byte q) (quote_byte q) refl,
    )

ahead_of : (a : Attribute) (r : List ℕ) → formed_attribute a ≡ true → attribute_ahead (print_attribute a ++ r) ≡ true
ahead_of (attribute s n before after q v) r h =
    let f = formed-parts s n before after q v h in
    let t₀ : List ℕ = before ++ (61 ∷ (after ++ (quote_byte q ∷ (print_parts v ++ (quote_byte q ∷ r))))) in
    let stop = name-stops-blanks n t₀ f.name in
    rw (spread s n before after q v r, front_of blank s (n ++ t₀) f.blanks stop, back-of blank s (n ++ t₀) f.blanks stop, f.some)
    (name-ahead n t₀ f.name)

pub attribute-begins : Begins attribute_ahead print_attribute formed_attribute
unfolding front
attribute-begins = record { here = ahead_of; none = refl }

pub attribute-back : Back read_attribute print_attribute formed_attribute (λ r. true)
attribute-back = record { back = λ a r h k. read_back a r h; next = λ a r h. refl }
