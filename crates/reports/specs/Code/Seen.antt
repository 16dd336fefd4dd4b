-- What inner functions find at an offset.
use Rattle.std.specs.Prelude.{ℕ, ◌+◌, ◌-◌, Bool, not, ◌&&◌, ◌||◌, cond, List, [], ◌∷◌, eqb, ltb, length, get_or, drop, Option, None, Some}
use Rattle.text.specs.Names.{Name}
use Rattle.text.specs.Lists.{every, non_empty}
use Rattle.reports.specs.declared.tokens.Span.{Span}
use Rattle.reports.specs.declared.tokens.Kind.{Kind}
use Rattle.reports.specs.declared.tokens.Kind.TheVariants.{Start, Empty}
use Rattle.reports.specs.declared.tokens.Found.{Found}
use Rattle.documents.specs.Tokens.{Part, Token, declaration, comment, start_tag, empty_tag, end_tag, text, declaration_bytes, print_parts, blank, in_text, occurs}
use Rattle.documents.specs.Reading.{read_parts, text_ends}
use Rattle.text.specs.Read.{Read, fail, got, then_read, read_word}
use Rattle.reports.specs.Seen.{text_kind, found_of}

-- a byte stands at an offset
abbrev pub has_byte : List ℕ → ℕ → ℕ → Bool
has_byte s at b = ltb at (length s) && eqb (get_or s at 0) b

-- `>` or `/>` at an offset, of a tag whose name stands there and that repeats an attribute's name or not
abbrev pub tag_end_of : List ℕ → Span → ℕ → Bool → Option Found
tag_end_of s name at twice =
    cond (has_byte s at 62) (Some (record { kind = Start name twice; end = at + 1 }))
    (cond (has_byte s at 47 && has_byte s (at + 1) 62) (Some (record { kind = Empty name twice; end = at + 2 })) None)

-- a text from an offset to another, if there is any
abbrev pub text_found : ℕ → ℕ → Kind → Option Found
text_found at end kind = cond (ltb at end) (Some (record { kind = kind; end = end })) None

-- what parts from here on make of a text that began earlier: some says whether it has a part already, all whether it was blank so far
abbrev pub text_of : ℕ → Bool → Bool → Read (List Part) → Option Found
text_of total some all fail = None
text_of total some all (got ps r) =
    cond ((some || non_empty ps) && (not (occurs (93 ∷ 93 ∷ 62 ∷ []) (print_parts ps)) && text_ends r))
    (Some (record { kind = text_kind (all && every blank (print_parts ps)); end = total - length r })) None

abbrev pub text_from : List ℕ → Bool → Bool → ℕ → Option Found
text_from s some all i = text_of (length s) some all (read_parts in_text (drop i s))

-- what the rest from i on makes of a text that began at an offset, blank so far or not
unfoldable pub text_on : List ℕ → ℕ → Bool → ℕ → Option Found
text_on s at all i = text_from s (ltb at i) all i

-- the declaration, at an offset
abbrev pub declaration_at : List ℕ → ℕ → Option Found
declaration_at s at = found_of (length s) at (then_read (read_word declaration_bytes (drop at s)) (λ w r. got declaration r))

-- a tag's name; no other token has one
abbrev pub name_of_token : Token → Name
name_of_token declaration = []
name_of_token (comment c) = []
name_of_token (start_tag n l b) = n
name_of_token (empty_tag n l b) = n
name_of_token (end_tag n b) = n
name_of_token (text ps) = []

abbrev pub tag_name : Read Token → Name
tag_name fail = []
tag_name (got t r) = name_of_token t
