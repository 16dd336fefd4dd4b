-- The token at an offset gives the offsets of a tag's name; so every offset of every bytes has exactly one pair of them.
use Prim.Native.Nat.{ℕ}
use mathlib.Core.Path.{◌≡◌, refl}
use mathlib.Core.Bool.{Bool, true, false}
use mathlib.Core.List.{List}
use lib.ListN.{length, drop}
use Rattle.text.specs.Names.{Name}
use Rattle.std.proofs.Common.{Option, None, Some}
use Rattle.reports.specs.declared.tokens.Span.{Span}
use Rattle.reports.specs.declared.tokens.Found.{Found}
use Rattle.documents.specs.Tokens.{Token, declaration, comment, start_tag, empty_tag, end_tag, text}
use Rattle.text.specs.Read.{Read, fail, got}
use Rattle.documents.specs.Reading.{read_token}
use Rattle.documents.specs.TagAt.{start, empty, end, WholeTag, TagAt}
use Rattle.text.proofs.Laws.Reads.{WhenRead, holds-got}
use Rattle.documents.proofs.Laws.Read.ReadSound.{Good, token-sound}
use Rattle.documents.proofs.Laws.Printed.TagAt.{Cut, nowhere, none_read, other-read, whole-cut, one-tag-at}
use Rattle.reports.specs.Seen.{text_kind, shown, found_of, name_of, from_in, to_in}
use Rattle.reports.specs.NamePart.{SpanAt}
use Rattle.reports.specs.Code.Seen.{tag_name, name_of_token}

-- where the name of what was found stands
abbrev pub name_in : Option Found → Option Span
name_in None = None
name_in (Some f) = name_of f.kind

-- the offsets of the name at an offset, and the name between them
pub record Spans (s : List ℕ) (at : ℕ) (r : Option Span) (n : Name) : Type 0 where
  pub stands : SpanAt s at r
  pub cut : Cut s (from_in r) (to_in r) n

module _ (s : List ℕ) (at : ℕ) where
  -- a blank text has no name, nor has any other
  no-name : (b : Bool) → name_of (text_kind b) ≡ None
  no-name true = refl
  no-name false = refl

  shown-spans : (t : Token) (r : List ℕ) → read_token (drop at s) ≡ got t r → Good (drop at s) t r → Spans s at (name_of (shown (length s) t at)) (name_of_token t)
  shown-spans declaration r is g = record { stands = SpanAt.none (other-read s at is (λ k n. elim [ ])); cut = nowhere s }
  shown-spans (comment c) r is g = record { stands = SpanAt.none (other-read s at is (λ k n. elim [ ])); cut = nowhere s }
  shown-spans (start_tag n l b) r is g =
      let w : WholeTag s at 1 n = record { token = start_tag n l b; tag = start; formed = g.0; rest = r; prints = g.1 } in
      record { stands = SpanAt.whole w refl refl; cut = whole-cut s at w }
  shown-spans (empty_tag n l b) r is g =
      let w : WholeTag s at 1 n = record { token = empty_tag n l b; tag = empty; formed = g.0; rest = r; prints = g.1 } in
      record { stands = SpanAt.whole w refl refl; cut = whole-cut s at w }
  shown-spans (end_tag n b) r is g =
      let w : WholeTag s at 2 n = record { token = end_tag n b; tag = end; formed = g.0; rest = r; prints = g.1 } in
      record { stands = SpanAt.whole w refl refl; cut = whole-cut s at w }
  shown-spans (text ps) r is g = rw no-name (record { stands = SpanAt.none (other-read s at is (λ k n. elim [ ])); cut = nowhere s })

  found-spans : (m : Read Token) → read_token (drop at s) ≡ m → WhenRead (Good (drop at s)) m → Spans s at (name_in (found_of (length s) at m)) (tag_name m)
  found-spans fail is h = record { stands = SpanAt.none (none_read s at is); cut = nowhere s }
  found-spans (got t r) is h = shown-spans t r is (holds-got h)

  -- those that the token at an offset gives
  pub spans : {r : Option Span} → r ≡ name_in (found_of (length s) at (read_token (drop at s))) → Spans s at r (tag_name (read_token (drop at s)))
  spans is = rw is (found-spans (read_token (drop at s)) refl (token-sound (drop at s)))

  -- as offsets alone: 0 to 0 where no whole tag begins
  pub tag-at : {r : Option Span} → SpanAt s at r → TagAt s at (from_in r) (to_in r)
  tag-at (SpanAt.whole w low high) = TagAt.whole w low high
  tag-at (SpanAt.none h) = TagAt.none h refl refl

  -- exactly one pair of offsets is that of the name at an offset
  pub the-tag-at : (from : ℕ) × (to : ℕ) × TagAt s at from to × ((from₂ to₂ : ℕ) → TagAt s at from₂ to₂ → (from₂ ≡ from) × (to₂ ≡ to))
  the-tag-at =
      let r = name_in (found_of (length s) at (read_token (drop at s))) in
      let t : TagAt s at (from_in r) (to_in r) = tag-at (spans refl).stands in
      (from_in r, to_in r, t, λ from₂ to₂ u. one-tag-at s at u t)
