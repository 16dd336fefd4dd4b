-- The name of a tag that was read has name form, so that the machine's calls need not test it again.
use Prim.Native.Nat.{ℕ}
use mathlib.Core.Path.{◌≡◌, sym, ap}
use mathlib.Core.Bool.{Bool, true, false}
use mathlib.Core.List.{List, []}
use lib.ListN.{length, drop}
use Rattle.text.specs.Read.{Read, fail, got}
use Rattle.text.proofs.Laws.Tests.{and_left}
use Rattle.text.proofs.Laws.Reads.{WhenRead, holds-got}
use Rattle.documents.specs.Tokens.{Token, declaration, comment, start_tag, empty_tag, end_tag, text, formed_tag, formed_token}
use Rattle.documents.specs.Reading.{read_token}
use Rattle.documents.proofs.Laws.Read.ReadSound.{Good, token-sound}
use Rattle.reports.specs.declared.tokens.Found.{Found}
use Rattle.documents.proofs.Laws.Printed.TagAt.{Cut}
use Rattle.reports.specs.Seen.{text_kind, shown, found_of, name_of, from_in, to_in}
use Rattle.filing.specs.Code.Taking.{Named, NamedIn}
use Rattle.reports.specs.Code.Seen.{tag_name, name_of_token}
use Rattle.reports.proofs.Laws.Read.Reaches.{never, some_is}
use Rattle.reports.proofs.Laws.Read.TagName.{name_in, spans}
use Rattle.std.proofs.Common.{Some}

named-text : (b : Bool) → Named (text_kind b) []
named-text true = tt
named-text false = tt

named : (total : ℕ) (t : Token) (at : ℕ) → formed_token t ≡ true → Named (shown total t at) (name_of_token t)
unfolding formed_token formed_tag
named total declaration at h = tt
named total (comment c) at h = tt
named total (start_tag n l b) at h = and_left _ _ h
named total (empty_tag n l b) at h = and_left _ _ h
named total (end_tag n b) at h = and_left _ _ h
named total (text ps) at h = named-text _

module _ (s : List ℕ) (at : ℕ) (f : Found) (is : found_of (length s) at (read_token (drop at s)) ≡ Some f) where
  named-token : Named f.kind (tag_name (read_token (drop at s)))
  named-token = go (read_token (drop at s)) (token-sound (drop at s)) is
    where
      go : (m : Read Token) → WhenRead (Good (drop at s)) m → found_of (length s) at m ≡ Some f → Named f.kind (tag_name m)
      go fail h e = never e
      go (got t r) h e =
          let shows : shown (length s) t at ≡ f.kind = ap (λ (x : Found). x.kind) (some_is e) in
          rw shows at (named (length s) t at (holds-got h).0)

  -- the name, where it stands
  pub name-cut : Cut s (from_in (name_of f.kind)) (to_in (name_of f.kind)) (tag_name (read_token (drop at s)))
  name-cut = (spans s at {r = name_of f.kind} (ap name_in (sym is))).cut

  pub named_in : NamedIn s f.kind
  named_in = record { low = name-cut.low; high = name-cut.high; formed = rw name-cut.part named-token }
