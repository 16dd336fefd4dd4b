-- Tokens of a report (paper 01: pieces). The format is defined by printing: a report is a run of tokens exactly when some list of tokens, each
-- within its rule, prints to it.
use Rattle.std.specs.Prelude.{ℕ, ◌≡◌, Bool, true, false, not, ◌&&◌, ◌||◌, List, [], ◌∷◌, ◌++◌, eqb}
use Rattle.text.specs.Names.{Name, within, name_form, same_name}
use Rattle.text.specs.Lists.{every, non_empty}
use Rattle.text.specs.Read.{starts_with, print_many}

-- the bytes that a report may have: 9, 10, 13 and 32 to 126
unfoldable pub listed : ℕ → Bool
listed b = eqb b 9 || eqb b 10 || eqb b 13 || within 32 126 b

-- blanks: 9, 10, 13, 32
unfoldable pub blank : ℕ → Bool
blank b = eqb b 9 || eqb b 10 || eqb b 13 || eqb b 32

-- a part of a text or of an attribute's value: a byte that stands for itself, or a reference `&name;`
pub data Part : Type 0 where
  plain : ℕ → Part
  reference : Name → Part

-- `"` or `'`
pub data Quote : Type 0 where
  double single : Quote

-- the blanks before it, its name, the blanks before and after `=`, its quote, its value
pub data Attribute : Type 0 where
  attribute : List ℕ → Name → List ℕ → List ℕ → Quote → List Part → Attribute

pub data Token : Type 0 where
  -- <?xml version="1.0"?>
  declaration : Token
  -- its contents
  comment : List ℕ → Token
  -- name, attributes, blanks before the end
  start_tag : Name → List Attribute → List ℕ → Token
  empty_tag : Name → List Attribute → List ℕ → Token
  end_tag : Name → List ℕ → Token
  text : List Part → Token

-- Printing

unfoldable pub print_part : Part → List ℕ
print_part (plain b) = b ∷ []
print_part (reference n) = 38 ∷ (n ++ (59 ∷ []))

abbrev pub print_parts : List Part → List ℕ
print_parts ps = print_many print_part ps

abbrev pub quote_byte : Quote → ℕ
quote_byte double = 34
quote_byte single = 39

unfoldable pub print_attribute : Attribute → List ℕ
print_attribute (attribute s n before after q v) =
    s ++ (n ++ (before ++ (61 ∷ (after ++ (quote_byte q ∷ (print_parts v ++ (quote_byte q ∷ [])))))))

abbrev pub print_attributes : List Attribute → List ℕ
print_attributes l = print_many print_attribute l

-- <?xml version="1.0"?>
unfoldable pub declaration_bytes : List ℕ
declaration_bytes =
    60 ∷ 63 ∷ 120 ∷ 109 ∷ 108 ∷ 32 ∷ 118 ∷ 101 ∷ 114 ∷ 115 ∷ 105 ∷ 111 ∷ 110 ∷ 61 ∷ 34 ∷ 49 ∷ 46 ∷ 48 ∷ 34 ∷ 63 ∷ 62 ∷ []

unfoldable pub print_token : Token → List ℕ
print_token declaration = declaration_bytes
-- <!-- .. -->
print_token (comment c) = 60 ∷ 33 ∷ 45 ∷ 45 ∷ (c ++ (45 ∷ 45 ∷ 62 ∷ []))
-- <name .. >
print_token (start_tag n l s) = 60 ∷ (n ++ (print_attributes l ++ (s ++ (62 ∷ []))))
-- <name .. />
print_token (empty_tag n l s) = 60 ∷ (n ++ (print_attributes l ++ (s ++ (47 ∷ 62 ∷ []))))
-- </name .. >
print_token (end_tag n s) = 60 ∷ 47 ∷ (n ++ (s ++ (62 ∷ [])))
print_token (text ps) = print_parts ps

unfoldable pub print_tokens : List Token → List ℕ
print_tokens [] = []
print_tokens (t ∷ ts) = print_token t ++ print_tokens ts

-- Rules

-- the word stands somewhere in the bytes
unfoldable pub occurs : List ℕ → List ℕ → Bool
occurs w [] = starts_with w []
occurs w (b ∷ l) = starts_with w (b ∷ l) || occurs w l

-- the last of the bytes is this one
unfoldable pub ends_in : ℕ → List ℕ → Bool
ends_in e [] = false
ends_in e (b ∷ []) = eqb e b
ends_in e (b ∷ c ∷ l) = ends_in e (c ∷ l)

-- the names of references
abbrev pub amp : Name
amp = 97 ∷ 109 ∷ 112 ∷ []

abbrev pub lt : Name
lt = 108 ∷ 116 ∷ []

abbrev pub gt : Name
gt = 103 ∷ 116 ∷ []

abbrev pub quot : Name
quot = 113 ∷ 117 ∷ 111 ∷ 116 ∷ []

abbrev pub apos : Name
apos = 97 ∷ 112 ∷ 111 ∷ 115 ∷ []

unfoldable pub is_entity : Name → Bool
is_entity n = same_name n amp || same_name n lt || same_name n gt || same_name n quot || same_name n apos

-- a byte that may stand for itself in text: listed, no `<` and no `&`; in a value, not its quote either
unfoldable pub in_text : ℕ → Bool
in_text b = listed b && (not (eqb b 60) && not (eqb b 38))

unfoldable pub in_value : ℕ → ℕ → Bool
in_value quote b = in_text b && not (eqb b quote)

abbrev pub formed_part : (ℕ → Bool) → Part → Bool
formed_part ok (plain b) = ok b
formed_part ok (reference n) = is_entity n

unfoldable pub formed_attribute : Attribute → Bool
formed_attribute (attribute s n before after q v) =
    (non_empty s && every blank s) && (name_form n && (every blank before && (every blank after && every (formed_part (in_value (quote_byte q))) v)))

unfoldable pub formed_tag : Name → List Attribute → List ℕ → Bool
formed_tag n l s = name_form n && (every formed_attribute l && every blank s)

-- contents of listed bytes, without `--` and not ending in `-`
unfoldable pub formed_comment : List ℕ → Bool
formed_comment c = every listed c && (not (occurs (45 ∷ 45 ∷ []) c) && not (ends_in 45 c))

-- text is not empty and has no `]]>`
unfoldable pub formed_text : List Part → Bool
formed_text ps = non_empty ps && (every (formed_part in_text) ps && not (occurs (93 ∷ 93 ∷ 62 ∷ []) (print_parts ps)))

unfoldable pub formed_token : Token → Bool
formed_token declaration = true
formed_token (comment c) = formed_comment c
formed_token (start_tag n l s) = formed_tag n l s
formed_token (empty_tag n l s) = formed_tag n l s
formed_token (end_tag n s) = name_form n && every blank s
formed_token (text ps) = formed_text ps

abbrev pub is_text : Token → Bool
is_text declaration = false
is_text (comment c) = false
is_text (start_tag n l s) = false
is_text (empty_tag n l s) = false
is_text (end_tag n s) = false
is_text (text ps) = true

abbrev pub is_declaration : Token → Bool
is_declaration declaration = true
is_declaration (comment c) = false
is_declaration (start_tag n l s) = false
is_declaration (empty_tag n l s) = false
is_declaration (end_tag n s) = false
is_declaration (text ps) = false

abbrev pub text_first : List Token → Bool
text_first [] = false
text_first (t ∷ ts) = is_text t

-- no two texts side by side, so that a text is all that stands up to the next `<` or the end
unfoldable pub texts_apart : List Token → Bool
texts_apart [] = true
texts_apart (t ∷ ts) = not (is_text t && text_first ts) && texts_apart ts

-- the declaration only at offset 0
abbrev pub declaration_first : List Token → Bool
declaration_first [] = true
declaration_first (t ∷ ts) = every (λ u. not (is_declaration u)) ts

unfoldable pub formed_run : List Token → Bool
formed_run ts = every formed_token ts && (texts_apart ts && declaration_first ts)

-- the bytes are a run of tokens. Without such a list refusal 9 is given
pub record RunOfTokens (bytes : List ℕ) : Type 0 where
  pub tokens : List Token
  pub well : formed_run tokens ≡ true
  pub prints : print_tokens tokens ≡ bytes
