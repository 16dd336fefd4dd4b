-- At most one list of tokens prints to given bytes: reading finds it.
use Prim.Native.Nat.{ℕ, zero, suc, ◌≤◌}
use native.Mathlib.Omega.{arith}
use mathlib.Core.Path.{◌≡◌, refl}
use mathlib.Core.Bool.{Bool, true, false, not, ◌&&◌, ◌||◌, true≢false, false≢true}
use mathlib.Core.List.{List, [], ◌∷◌, ◌++◌}
use borrow.Author.Tests.{not-true}
use lib.ListN.{length, length-append}
use Rattle.text.specs.Lists.{every, non_empty}
use Rattle.documents.specs.Tokens.{in_text, Part, Token, declaration, comment, start_tag, empty_tag, end_tag, text, declaration_bytes, print_token, print_tokens, formed_token, formed_text, is_text, is_declaration, text_first, texts_apart, declaration_first, formed_run, RunOfTokens}
use Rattle.text.specs.Read.{got, then_read, when}
use Rattle.documents.specs.Reading.{text_ends, read_token, read_tokens, read_report}
use Rattle.text.proofs.Laws.Tests.{and_left, and_right}
use Rattle.text.proofs.Laws.ReadMany.{many-length}
use Rattle.documents.proofs.Laws.Printed.PartsBack.{part-begins}
use Rattle.documents.proofs.Laws.Printed.ReadBack.{token_back}

-- every token has a byte, and every one but a text begins with `<`
some-part : (ps : List Part) → non_empty ps ≡ true → 1 ≤ length ps
some-part [] h = absurd (false≢true h)
some-part (p ∷ ps) h = omega arith

pub token-length : (t : Token) → formed_token t ≡ true → 1 ≤ length (print_token t)
unfolding print_token declaration_bytes formed_token formed_text
token-length declaration h = omega arith
token-length (comment c) h = omega arith
token-length (start_tag n l s) h = omega arith
token-length (empty_tag n l s) h = omega arith
token-length (end_tag n s) h = omega arith
token-length (text ps) h = omega (arith, many-length (part-begins in_text) ps (and_left _ _ (and_right (non_empty ps) _ h)), some-part ps (and_left _ _ h))

pub less-first : (t : Token) (r : List ℕ) → is_text t ≡ false → text_ends (print_token t ++ r) ≡ true
unfolding print_token declaration_bytes
less-first declaration r h = refl
less-first (comment c) r h = refl
less-first (start_tag n l s) r h = refl
less-first (empty_tag n l s) r h = refl
less-first (end_tag n s) r h = refl
less-first (text ps) r h = absurd (true≢false h)

-- after a text comes `<` or the end
text-ends : (t : Token) (ts : List Token) → texts_apart (t ∷ ts) ≡ true → is_text t ≡ true → text_ends (print_tokens ts) ≡ true
unfolding texts_apart print_tokens
text-ends t [] h e = refl
text-ends t (u ∷ ts) h e =
    let apart : not (is_text t && is_text u) ≡ true = and_left _ _ h in
    less-first u (print_tokens ts) (rw e at (not-true (is_text t && is_text u) apart))

-- where a declaration may stand
abbrev pub declared : Bool → List Token → Bool
declared true ts = declaration_first ts
declared false ts = every (λ t. not (is_declaration t)) ts

declared-here : (first : Bool) (t : Token) (ts : List Token) → declared first (t ∷ ts) ≡ true
    → ((first || not (is_declaration t)) ≡ true) × (declared false ts ≡ true)
unfolding every
declared-here true t ts h = (refl, h)
declared-here false t ts h = (and_left _ _ h, and_right (not (is_declaration t)) _ h)

pub read_more : (steps : ℕ) (first : Bool) (l : List ℕ) → 1 ≤ length l
    → read_tokens (suc steps) first l
    ≡ then_read (read_token l) (λ t r. when (first || not (is_declaration t)) (then_read (read_tokens steps false r) (λ ts r₂. got (t ∷ ts) r₂)))
unfolding read_tokens
read_more steps first [] h = absurd (omega arith)
read_more steps first (b ∷ l) h = refl

pub tokens-length : (ts : List Token) → every formed_token ts ≡ true → length ts ≤ length (print_tokens ts)
unfolding print_tokens every
tokens-length [] h = omega arith
tokens-length (t ∷ ts) h =
    omega (arith, length-append (print_token t) (print_tokens ts), token-length t (and_left _ _ h), tokens-length ts (and_right (formed_token t) _ h))

tokens-back : (steps : ℕ) (first : Bool) (ts : List Token)
    → every formed_token ts ≡ true → texts_apart ts ≡ true → declared first ts ≡ true → length ts ≤ steps
    → read_tokens steps first (print_tokens ts) ≡ got ts []
unfolding read_tokens print_tokens every texts_apart
tokens-back zero first [] f a d h = refl
tokens-back zero first (t ∷ ts) f a d h = absurd (omega arith)
tokens-back (suc steps) first [] f a d h = refl
tokens-back (suc steps) first (t ∷ ts) f a d h =
    let formed : formed_token t ≡ true = and_left _ _ f in
    let rest : every formed_token ts ≡ true = and_right (formed_token t) _ f in
    let apart : texts_apart ts ≡ true = and_right (not (is_text t && text_first ts)) _ a in
    let (may, none) = declared-here first t ts d in
    rw (
      read_more steps first (print_token t ++ print_tokens ts) (omega (arith, length-append (print_token t) (print_tokens ts), token-length t formed)),
      token_back t (print_tokens ts) formed (λ e. text-ends t ts a e),
      may,
      tokens-back steps false ts rest apart none (omega arith),
    )

pub run-back : (ts : List Token) → formed_run ts ≡ true → read_report (print_tokens ts) ≡ got ts []
unfolding formed_run
run-back ts h =
    let h₂ = and_right (every formed_token ts) _ h in
    tokens-back (length (print_tokens ts)) true ts (and_left _ _ h) (and_left _ _ h₂) (and_right (texts_apart ts) _ h₂) (tokens-length ts (and_left _ _ h))

-- at most one list of tokens prints to given bytes
pub one-run : (bytes : List ℕ) (r s : RunOfTokens bytes) → r.tokens ≡ s.tokens
one-run bytes r s =
    let a : read_report bytes ≡ got r.tokens [] = rw r.prints at (run-back r.tokens r.well) in
    let b : read_report bytes ≡ got s.tokens [] = rw s.prints at (run-back s.tokens s.well) in
    cc
