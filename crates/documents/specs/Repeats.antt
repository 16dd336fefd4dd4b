-- A tag that repeats an attribute's name, which XML 1.0 forbids (3.1: unique attribute names); refusal 15 goes by it (paper 02: doubled).
use Rattle.std.specs.Prelude.{◌≡◌, Bool, false, ◌||◌}
use mathlib.Core.List.{List, [], ◌∷◌, ◌++◌, map, Memᴰ}
use Rattle.text.specs.Names.{Name, same_name}
use Rattle.text.specs.Lists.{any}
use Rattle.documents.specs.Tokens.{Attribute, attribute, Token, declaration, comment, start_tag, empty_tag, end_tag, text}

abbrev pub attribute_name : Attribute → Name
attribute_name (attribute s n before after q v) = n

-- those of a start or empty-element tag; no other token has any
abbrev pub attributes_of : Token → List Attribute
attributes_of declaration = []
attributes_of (comment c) = []
attributes_of (start_tag n l s) = l
attributes_of (empty_tag n l s) = l
attributes_of (end_tag n s) = []
attributes_of (text ps) = []

-- two attributes, at different places, have the same name: the same bytes, as many as there are
pub record NameTwice (l : List Attribute) : Type 0 where
  pub before : List Attribute
  pub one : Attribute
  pub between : List Attribute
  pub other : Attribute
  pub after : List Attribute
  pub stand : before ++ (one ∷ (between ++ (other ∷ after))) ≡ l
  pub same : attribute_name one ≡ attribute_name other

-- some tag of the tokens repeats a name
pub record Repeats (ts : List Token) : Type 0 where
  pub tag : Token
  pub has : Memᴰ tag ts
  pub twice : NameTwice (attributes_of tag)

-- The same, computed

unfoldable pub repeated : List Name → Bool
repeated [] = false
repeated (n ∷ l) = any (same_name n) l || repeated l

abbrev pub names_repeat : List Attribute → Bool
names_repeat l = repeated (map attribute_name l)

unfoldable pub repeats_in : List Token → Bool
repeats_in ts = any (λ t. names_repeat (attributes_of t)) ts
