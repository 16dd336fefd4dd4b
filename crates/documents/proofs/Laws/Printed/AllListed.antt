-- A run of tokens has listed bytes only: refusal 8 comes before 9 and takes no run away.
use Prim.Native.Nat.{ℕ, ◌≤◌}
use native.Mathlib.Omega.{arith}
use mathlib.Core.Path.{◌≡◌, refl}
use mathlib.Core.Logic.{⊎_elim}
use mathlib.Core.Bool.{Bool, true, ◌||◌, false≢true, or-true}
use mathlib.Core.List.{List, [], ◌∷◌, ◌++◌}
use lib.Dec.{leb, eqb}
use borrow.Author.Tests.{leb-true, le-leb, eqb-true}
use Rattle.text.specs.Names.{within, letter, digit, begins_name, in_name, name_form}
use Rattle.text.specs.Lists.{every, non_empty}
use Rattle.documents.specs.Tokens.{blank, listed, in_text, in_value, Part, plain, reference, Quote, double, single, quote_byte, Attribute, attribute, Token, declaration, comment, start_tag, empty_tag, end_tag, text, declaration_bytes, print_part, print_parts, print_attribute, print_attributes, print_token, print_tokens, formed_part, formed_attribute, formed_tag, formed_comment, formed_text, formed_token, formed_run, RunOfTokens}
use Rattle.text.proofs.Laws.Tests.{and_left, and_right, both_true, either}
use Rattle.text.proofs.Laws.Lists.{every_append, every-weaker}
use Rattle.text.proofs.Laws.ReadMany.{many-every}
use Rattle.documents.proofs.Laws.Read.Bytes.{entity-cases, value-text, at-blank}
use Rattle.documents.proofs.Laws.Printed.AttributesBack.{formed-parts}

in-range : (b : ℕ) → 32 ≤ b → b ≤ 126 → listed b ≡ true
unfolding listed
in-range b h k = rw (le-leb 32 b h, le-leb b 126 k) (or-true (eqb b 9 || eqb b 10 || eqb b 13))

between : (lo hi b : ℕ) → within lo hi b ≡ true → 32 ≤ lo → hi ≤ 126 → listed b ≡ true
between lo hi b h k m =
    let low : lo ≤ b = leb-true lo b (and_left _ _ h) in
    let high : b ≤ hi = leb-true b hi (and_right (leb lo b) _ h) in
    in-range b (omega arith) (omega arith)

is_byte : (b c : ℕ) → eqb b c ≡ true → 32 ≤ c → c ≤ 126 → listed b ≡ true
is_byte b c h k m =
    let same : b ≡ c = eqb-true b c h in
    in-range b (omega arith) (omega arith)

begins-listed : (b : ℕ) → begins_name b ≡ true → listed b ≡ true
unfolding begins_name letter
begins-listed b h =
    ⊎_elim
    (λ l. ⊎_elim (λ x. between 97 122 b x (omega arith) (omega arith)) (λ x. between 65 90 b x (omega arith) (omega arith)) (either (within 97 122 b) (within 65 90 b) l))
    (λ x. is_byte b 95 x (omega arith) (omega arith))
    (either (within 97 122 b || within 65 90 b) (eqb b 95) h)

name-listed : (b : ℕ) → in_name b ≡ true → listed b ≡ true
unfolding in_name digit
name-listed b h =
    ⊎_elim
    (λ h₂. ⊎_elim
    (λ h₁. ⊎_elim (begins-listed b) (λ x. between 48 57 b x (omega arith) (omega arith)) (either (begins_name b) (within 48 57 b) h₁))
    (λ x. is_byte b 45 x (omega arith) (omega arith))
    (either (begins_name b || within 48 57 b) (eqb b 45) h₂))
    (λ x. is_byte b 46 x (omega arith) (omega arith))
    (either (begins_name b || within 48 57 b || eqb b 45) (eqb b 46) h)

blank-listed : (b : ℕ) → blank b ≡ true → listed b ≡ true
unfolding listed
blank-listed = at-blank listed true refl refl refl refl

both : (a b : List ℕ) → every listed a ≡ true → every listed b ≡ true → every listed (a ++ b) ≡ true
both = every_append listed

form-listed : (n : List ℕ) → name_form n ≡ true → every listed n ≡ true
unfolding name_form every
form-listed [] h = absurd (false≢true h)
form-listed (b ∷ n) h = both_true (begins-listed b (and_left _ _ h)) (every-weaker in_name listed name-listed n (and_right (begins_name b) _ h))

part-listed : (ok : ℕ → Bool) → ((b : ℕ) → ok b ≡ true → listed b ≡ true) → (p : Part) → formed_part ok p ≡ true → every listed (print_part p) ≡ true
unfolding every print_part listed
part-listed ok f (plain b) h = both_true (f b h) refl
part-listed ok f (reference n) h = both n (59 ∷ []) (entity-cases n h (λ e. rw e) (λ e. rw e) (λ e. rw e) (λ e. rw e) (λ e. rw e)) refl

parts-listed : (ok : ℕ → Bool) → ((b : ℕ) → ok b ≡ true → listed b ≡ true) → (ps : List Part) → every (formed_part ok) ps ≡ true → every listed (print_parts ps) ≡ true
parts-listed ok f = many-every print_part (formed_part ok) listed (part-listed ok f)

text-listed : (b : ℕ) → in_text b ≡ true → listed b ≡ true
unfolding in_text
text-listed b h = and_left _ _ h

quote-listed : (q : Quote) → listed (quote_byte q) ≡ true
unfolding listed
quote-listed double = refl
quote-listed single = refl

attribute-listed : (a : Attribute) → formed_attribute a ≡ true → every listed (print_attribute a) ≡ true
unfolding print_attribute every listed
attribute-listed (attribute s n before after q v) h =
    let f = formed-parts s n before after q v h in
    let blanks = every-weaker blank listed blank-listed in
    both s _ (blanks s f.blanks)
    (both n _ (form-listed n f.name)
    (both before _ (blanks before f.blanks₂)
    (both after _ (blanks after f.blanks₃)
    (both_true (quote-listed q)
    (both (print_parts v) _ (parts-listed (in_value (quote_byte q)) (λ b k. text-listed b (value-text (quote_byte q) b k)) v f.value)
    (both_true (quote-listed q) refl))))))

tag-listed : (n : List ℕ) (l : List Attribute) (s e : List ℕ) → formed_tag n l s ≡ true → every listed e ≡ true
    → every listed (n ++ (print_attributes l ++ (s ++ e))) ≡ true
unfolding formed_tag
tag-listed n l s e h k =
    let h₂ = and_right (name_form n) _ h in
    both n _ (form-listed n (and_left _ _ h))
    (both (print_attributes l) _ (many-every print_attribute formed_attribute listed attribute-listed l (and_left _ _ h₂))
    (both s e (every-weaker blank listed blank-listed s (and_right (every formed_attribute l) _ h₂)) k))

token-listed : (t : Token) → formed_token t ≡ true → every listed (print_token t) ≡ true
unfolding formed_token formed_comment formed_text print_token declaration_bytes every listed
token-listed declaration h = refl
token-listed (comment c) h = both c (45 ∷ 45 ∷ 62 ∷ []) (and_left _ _ h) refl
token-listed (start_tag n l s) h = tag-listed n l s (62 ∷ []) h refl
token-listed (empty_tag n l s) h = tag-listed n l s (47 ∷ 62 ∷ []) h refl
token-listed (end_tag n s) h = both n _ (form-listed n (and_left _ _ h)) (both s (62 ∷ []) (every-weaker blank listed blank-listed s (and_right (name_form n) _ h)) refl)
token-listed (text ps) h = parts-listed in_text text-listed ps (and_left _ _ (and_right (non_empty ps) _ h))

tokens-listed : (ts : List Token) → every formed_token ts ≡ true → every listed (print_tokens ts) ≡ true
unfolding print_tokens every
tokens-listed [] h = refl
tokens-listed (t ∷ ts) h = both (print_token t) _ (token-listed t (and_left _ _ h)) (tokens-listed ts (and_right (formed_token t) _ h))

pub run-listed : (bytes : List ℕ) → RunOfTokens bytes → every listed bytes ≡ true
unfolding formed_run
run-listed bytes run = rw run.prints at (tokens-listed run.tokens (and_left _ _ run.well))
