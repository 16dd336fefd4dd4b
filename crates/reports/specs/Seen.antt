-- What the code says of the token at an offset: its kind, its end, where its name stands, whether a tag repeats an attribute's name, whether a
-- text is blank.
use Rattle.std.specs.Prelude.{ℕ, ◌+◌, ◌-◌, Bool, ◌&&◌, cond, List, map, leb, length, Option, None, Some}
use Rattle.text.specs.Names.{Name}
use Rattle.text.specs.Lists.{every}
use Rattle.reports.specs.declared.tokens.Span.{Span}
use Rattle.reports.specs.declared.tokens.Kind.{Kind}
use Rattle.reports.specs.declared.tokens.Kind.TheVariants.{Declaration, Comment, Start, Empty, End, Blank, Text}
use Rattle.reports.specs.declared.tokens.Found.{Found}
use Rattle.documents.specs.Tokens.{Token, declaration, comment, start_tag, empty_tag, end_tag, text, print_parts, blank}
use Rattle.documents.specs.Limits.{max_report_bytes}
use Rattle.documents.specs.Repeats.{attribute_name, repeated}
use Rattle.text.specs.Read.{Read, fail, got}

-- whether one of these names of attributes is repeated. Of bytes longer than a report's it is not told: no
abbrev pub judged : ℕ → List Name → Bool
judged total names = leb total max_report_bytes && repeated names

-- a name that begins at an offset
abbrev pub span_of : ℕ → Name → Span
span_of from n = record { from = from; to = from + length n }

abbrev pub text_kind : Bool → Kind
text_kind all = cond all Blank Text

-- of a token with its `<` at an offset, in bytes of this length in all
abbrev pub shown : ℕ → Token → ℕ → Kind
shown total declaration at = Declaration
shown total (comment c) at = Comment
shown total (start_tag n l b) at = Start (span_of (at + 1) n) (judged total (map attribute_name l))
shown total (empty_tag n l b) at = Empty (span_of (at + 1) n) (judged total (map attribute_name l))
shown total (end_tag n b) at = End (span_of (at + 2) n)
shown total (text ps) at = text_kind (every blank (print_parts ps))

abbrev pub found_of : ℕ → ℕ → Read Token → Option Found
found_of total at fail = None
found_of total at (got t r) = Some (record { kind = shown total t at; end = total - length r })

-- where a tag's name stands
abbrev pub name_of : Kind → Option Span
name_of Declaration = None
name_of Comment = None
name_of (Start n twice) = Some n
name_of (Empty n twice) = Some n
name_of (End n) = Some n
name_of Blank = None
name_of Text = None

-- from where to where; 0 to 0 where there is none
abbrev pub from_in : Option Span → ℕ
from_in None = 0
from_in (Some p) = p.from

abbrev pub to_in : Option Span → ℕ
to_in None = 0
to_in (Some p) = p.to
