-- Where a tag's name stands, and what hands it back: a part of the report's own bytes.
use Rattle.std.specs.Prelude.{ℕ, ◌+◌, ◌≡◌, List, length, Option, None, Some}
use Rattle.std.specs.Borrow.{Bor}
use Rattle.text.specs.Names.{Name}
use Rattle.text.specs.Part.{PartOf}
use Rattle.documents.specs.TagAt.{WholeTag, NoTag, TagAt}
use Rattle.reports.specs.declared.tokens.Span.{Span}

-- the name of the tag at an offset stands right after the bytes before it, and is as long as it is; none exactly where no whole tag begins
pub data SpanAt (s : List ℕ) (at : ℕ) : Option Span → Type 0 where
  whole : {before : ℕ} {n : Name} {p : Span} → WholeTag s at before n → p.from ≡ at + before → p.to ≡ p.from + length n → SpanAt s at (Some p)
  none : NoTag s at → SpanAt s at None

-- r is the name of the tag at an offset of s, where it stands
pub record NamePart (s : Bor (List ℕ)) (at : ℕ) (r : Bor (List ℕ)) : Type 0 where
  pub from : ℕ
  pub to : ℕ
  pub stands : TagAt s.now at from to
  pub part : PartOf s from to r
