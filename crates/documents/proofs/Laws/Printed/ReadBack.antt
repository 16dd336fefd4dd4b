-- Tokens are read back as they were printed: each within its rule, and a text where `<` or the end follows it.
use Prim.Native.Nat.{ℕ}
use mathlib.Core.Path.{◌≡◌, refl, ap, ◌∙◌}
use mathlib.Core.Bool.{true, false, not, ◌||◌, false≢true, and-false}
use mathlib.Core.List.{List, [], ◌∷◌, ◌++◌, append_assoc}
use lib.Dec.{eqb}
use borrow.Author.Tests.{eqb-true, not-true}
use Rattle.text.specs.Names.{Name, letter, digit, begins_name, in_name, name_form}
use Rattle.text.specs.Lists.{every, non_empty}
use Rattle.documents.specs.Tokens.{blank, listed, in_text, Part, plain, reference, Attribute, attribute, Token, declaration, comment, start_tag, empty_tag, end_tag, text, declaration_bytes, print_part, print_parts, print_attribute, print_attributes, print_token, occurs, ends_in, formed_part, formed_attribute, formed_tag, formed_comment, formed_text, formed_token, is_text}
use Rattle.text.specs.Read.{starts_with, got, front, read_word, name_ahead, print_many}
use Rattle.documents.specs.Reading.{part_ahead, attribute_ahead, read_tag_end, read_tag, read_end_tag, read_contents, read_comment, read_markup, text_ends, read_text, read_token}
use Rattle.text.proofs.Laws.Tests.{and_left, and_right, neither}
use Rattle.text.proofs.Laws.Lists.{every-head, every_rest}
use Rattle.text.proofs.Laws.Fronts.{differs, stops, front_of, back-of}
use Rattle.text.proofs.Laws.Reads.{name_back}
use Rattle.text.proofs.Laws.ReadMany.{many-back}
use Rattle.documents.proofs.Laws.Read.Bytes.{blank-no-name, text-no-amp, text-no-less}
use Rattle.documents.proofs.Laws.Printed.PartsBack.{blanks-stop-name, part-begins, part-back}
use Rattle.documents.proofs.Laws.Printed.AttributesBack.{formed-parts, attribute-begins, attribute-back}

-- what follows a tag's name: blanks, or one of the two ends
attributes-stop-name : (l : List Attribute) (s r : List ℕ) → every formed_attribute l ≡ true → every blank s ≡ true → stops in_name r ≡ true
    → stops in_name (print_attributes l ++ (s ++ r)) ≡ true
unfolding print_many print_attribute every
attributes-stop-name [] s r h k e = blanks-stop-name s r k e
attributes-stop-name (attribute [] n before after q v ∷ l) s r h k e =
    absurd (false≢true (formed-parts [] n before after q v (and_left _ _ h)).some)
attributes-stop-name (attribute (b ∷ f) n before after q v ∷ l) s r h k e =
    let now = formed-parts (b ∷ f) n before after q v (and_left _ _ h) in
    rw (blank-no-name b (every-head blank b f now.blanks))

-- a tag up to the blanks before its end, whichever end follows
record TagEnd (e : List ℕ) : Type 0 where
  no_name : stops in_name e ≡ true
  no-blank : stops blank e ≡ true
  no-attribute : name_ahead e ≡ false

tag_back : (n : Name) (l : List Attribute) (s e : List ℕ) → formed_tag n l s ≡ true → TagEnd e
    → read_tag (n ++ (print_attributes l ++ (s ++ e))) ≡ read_tag_end n l s e
unfolding read_tag formed_tag
tag_back n l s e h end =
    let name : name_form n ≡ true = and_left _ _ h in
    let h₂ = and_right (name_form n) _ h in
    let attributes : every formed_attribute l ≡ true = and_left _ _ h₂ in
    let blanks : every blank s ≡ true = and_right (every formed_attribute l) _ h₂ in
    let rest : List ℕ = print_attributes l ++ (s ++ e) in
    let front-is = front_of blank s e blanks end.no-blank in
    let back_is = back-of blank s e blanks end.no-blank in
    let none_ahead : attribute_ahead (s ++ e) ≡ false = rw (back_is, end.no-attribute) (and-false (non_empty (front blank (s ++ e)))) in
    rw (
      name_back n rest name (attributes-stop-name l s e attributes blanks end.no_name),
      many-back attribute-begins attribute-back l (s ++ e) attributes refl none_ahead,
      front-is,
      back_is,
    )

starts : (r : List ℕ) → TagEnd (62 ∷ r)
unfolding in_name begins_name letter digit blank
starts r = record { no_name = refl; no-blank = refl; no-attribute = refl }

empties : (r : List ℕ) → TagEnd (47 ∷ r)
unfolding in_name begins_name letter digit blank
empties r = record { no_name = refl; no-blank = refl; no-attribute = refl }

-- contents that end in no `-` have no `--` with what follows them
no-dashes : (b : ℕ) (c r : List ℕ) → occurs (45 ∷ 45 ∷ []) (b ∷ c) ≡ false → ends_in 45 (b ∷ c) ≡ false
    → starts_with (45 ∷ 45 ∷ []) (b ∷ (c ++ (45 ∷ r))) ≡ false
unfolding occurs starts_with ends_in
no-dashes b [] r o e = rw e
no-dashes b (x ∷ c) r o e = (neither _ _ o).0

ends-rest : (b : ℕ) (c : List ℕ) → ends_in 45 (b ∷ c) ≡ false → ends_in 45 c ≡ false
unfolding ends_in
ends-rest b [] e = refl
ends-rest b (x ∷ c) e = e

contents : (c r : List ℕ) → every listed c ≡ true → occurs (45 ∷ 45 ∷ []) c ≡ false → ends_in 45 c ≡ false
    → read_contents (c ++ (45 ∷ 45 ∷ 62 ∷ r)) ≡ got c r
unfolding read_contents read_word starts_with occurs
contents [] r h o e = refl
contents (b ∷ c) r h o e =
    let none = no-dashes b c (45 ∷ 62 ∷ r) o e in
    let rest : occurs (45 ∷ 45 ∷ []) c ≡ false = (neither (starts_with (45 ∷ 45 ∷ []) (b ∷ c)) _ o).1 in
    rw (none, every-head listed b c h, contents c r (every_rest listed b c h) rest (ends-rest b c e))

contents-back : (c r : List ℕ) → formed_comment c ≡ true → read_contents (c ++ (45 ∷ 45 ∷ 62 ∷ r)) ≡ got c r
unfolding formed_comment
contents-back c r h =
    let h₂ = and_right (every listed c) _ h in
    contents c r (and_left _ _ h) (not-true _ (and_left (not (occurs (45 ∷ 45 ∷ []) c)) _ h₂)) (not-true _ (and_right (not (occurs (45 ∷ 45 ∷ []) c)) _ h₂))

tag-name : (n : Name) (l : List Attribute) (s : List ℕ) → formed_tag n l s ≡ true → name_form n ≡ true
unfolding formed_tag
tag-name n l s h = and_left _ _ h

-- the bytes of a name are none of those that markup of another kind begins with
name-first : (n r : List ℕ) → name_form n ≡ true → read_markup (n ++ r) ≡ read_tag (n ++ r)
unfolding name_form read_markup begins_name letter
name-first [] r h = absurd (false≢true h)
name-first (b ∷ n) r h =
    let first : begins_name b ≡ true = and_left _ _ h in
    rw (differs begins_name b 33 first refl, differs begins_name b 47 first refl, differs begins_name b 63 first refl)

text-first : (ps : List Part) (r : List ℕ) → formed_text ps ≡ true → read_token (print_parts ps ++ r) ≡ read_text (print_parts ps ++ r)
unfolding formed_text print_many print_part read_token every
text-first [] r h = absurd (false≢true h)
text-first (plain b ∷ ps) r h =
    let parts : every (formed_part in_text) (plain b ∷ ps) ≡ true = and_left _ _ h in
    let now : in_text b ≡ true = and_left _ _ parts in
    rw (text-no-less b now)
text-first (reference n ∷ ps) r h = refl

less-stops : (r : List ℕ) → text_ends r ≡ true → part_ahead in_text r ≡ false
unfolding in_text listed
less-stops [] e = refl
less-stops (b ∷ r) e = ap (λ (x : ℕ). eqb x 38 || in_text x) (eqb-true b 60 e)

text-back : (ps : List Part) (r : List ℕ) → formed_text ps ≡ true → text_ends r ≡ true → read_text (print_parts ps ++ r) ≡ got (text ps) r
unfolding read_text formed_text
text-back ps r h e =
    let h₂ = and_right (non_empty ps) _ h in
    let some : non_empty ps ≡ true = and_left _ _ h in
    let parts : every (formed_part in_text) ps ≡ true = and_left _ _ h₂ in
    let clean : not (occurs (93 ∷ 93 ∷ 62 ∷ []) (print_parts ps)) ≡ true = and_right (every (formed_part in_text) ps) _ h₂ in
    rw (
      many-back (part-begins in_text) (part-back in_text text-no-amp) ps r parts refl (less-stops r e),
      some,
      clean,
      e,
    )

end-tag-back : (n : Name) (s r : List ℕ) → name_form n ≡ true → every blank s ≡ true → read_end_tag (n ++ (s ++ (62 ∷ r))) ≡ got (end_tag n s) r
unfolding read_end_tag read_word
end-tag-back n s r h k =
    let end = starts r in
    rw (
      name_back n (s ++ (62 ∷ r)) h (blanks-stop-name s (62 ∷ r) k end.no_name),
      front_of blank s (62 ∷ r) k end.no-blank,
      back-of blank s (62 ∷ r) k end.no-blank,
    )

-- a token within its rule is read as it is; a text, where `<` or the end follows it
pub token_back : (t : Token) (r : List ℕ) → formed_token t ≡ true → (is_text t ≡ true → text_ends r ≡ true) → read_token (print_token t ++ r) ≡ got t r
unfolding print_token formed_token read_token read_markup read_comment read_word declaration_bytes
token_back declaration r h e = refl
token_back (comment c) r h e = rw (append_assoc c (45 ∷ 45 ∷ 62 ∷ []) r, contents-back c r h)
token_back (start_tag n l s) r h e =
    simp append_assoc
    (name-first n (print_attributes l ++ (s ++ (62 ∷ r))) (tag-name n l s h) ∙ tag_back n l s (62 ∷ r) h (starts r))
token_back (empty_tag n l s) r h e =
    simp append_assoc
    (name-first n (print_attributes l ++ (s ++ (47 ∷ 62 ∷ r))) (tag-name n l s h) ∙ tag_back n l s (47 ∷ 62 ∷ r) h (empties (62 ∷ r)))
token_back (end_tag n s) r h e = simp append_assoc (end-tag-back n s r (and_left _ _ h) (and_right (name_form n) _ h))
token_back (text ps) r h e = text-first ps r h ∙ text-back ps r h (e refl)
