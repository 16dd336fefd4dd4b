-- A report read token after token, by offsets: each token ends where the next begins.
use Prim.Native.Nat.{ℕ, zero, suc, ◌-◌, ◌≤◌, ◌<◌, pred}
use native.Mathlib.Omega.{arith}
use mathlib.Core.Path.{◌≡◌, refl, ap, ◌∙◌}
use mathlib.Core.Bool.{Bool, true, false, not, ◌||◌}
use mathlib.Core.List.{List, [], ◌∷◌}
use lib.ListN.{length, drop, length-append, length-drop, drop_of_length-le}
use Rattle.documents.specs.Tokens.{Token, print_token, is_declaration}
use Rattle.text.specs.Read.{Read, fail, got, then_read, when}
use Rattle.documents.specs.Reading.{read_token, read_tokens}
use Rattle.documents.proofs.Laws.Printed.OneRun.{token-length, read_more}
use Rattle.text.proofs.Laws.Reads.{holds-got, then_same}
use Rattle.documents.proofs.Laws.Read.ReadSound.{Good, token-sound}
use Rattle.reports.proofs.Laws.Read.Reaches.{left-drop}

shorter : (l : List ℕ) (t : Token) (r : List ℕ) → Good l t r → length r < length l
shorter l t r g = omega (arith, token-length t g.0, length-append (print_token t) r, ap length g.1)

-- as many steps as bytes are enough
pub tokens-enough : (n m : ℕ) (first : Bool) (l : List ℕ) → length l ≤ n → length l ≤ m → read_tokens n first l ≡ read_tokens m first l
unfolding read_tokens
tokens-enough zero zero first l h k = refl
tokens-enough zero (suc m) first [] h k = refl
tokens-enough zero (suc m) first (b ∷ l) h k = absurd (omega arith)
tokens-enough (suc n) zero first [] h k = refl
tokens-enough (suc n) zero first (b ∷ l) h k = absurd (omega arith)
tokens-enough (suc n) (suc m) first [] h k = refl
tokens-enough (suc n) (suc m) first (b ∷ l) h k =
    then_same (token-sound (b ∷ l)) (λ t r g.
    ap (λ (p : Read (List Token)). when (first || not (is_declaration t)) (then_read p (λ ts r₂. got (t ∷ ts) r₂)))
    (tokens-enough n m false r (less n t r h g) (less m t r k g)))
  where
    less : (j : ℕ) (t : Token) (r : List ℕ) → length (b ∷ l) ≤ suc j → Good (b ∷ l) t r → length r ≤ j
    less j t r x g = omega (arith, shorter (b ∷ l) t r g)

-- the tokens of a report from an offset on
abbrev pub tokens_from : List ℕ → Bool → ℕ → Read (List Token)
tokens_from s first at = read_tokens (length (drop at s)) first (drop at s)

module _ (s : List ℕ) (at : ℕ) where
  -- the end of the token at an offset, and the rest from there
  pub token-next : (t : Token) (r : List ℕ) → read_token (drop at s) ≡ got t r
      → (drop (length s - length r) s ≡ r) × (at < length s - length r) × (length s - length r ≤ length s)
  token-next t r e =
      let g = holds-got (rw e at (token-sound (drop at s))) in
      let less = shorter (drop at s) t r g in
      (left-drop s (print_token t) r at g.1, omega (arith, length-drop at s), omega arith)

  pub from_end : (first : Bool) → length s ≤ at → tokens_from s first at ≡ got [] []
  unfolding read_tokens
  from_end first h = rw (drop_of_length-le s h)

  some_left : at < length s → 1 ≤ length (drop at s)
  some_left h = omega (arith, length-drop at s)

  open-from : (first : Bool) → at < length s
      → tokens_from s first at
      ≡ then_read (read_token (drop at s))
      (λ t r. when (first || not (is_declaration t)) (then_read (read_tokens (pred (length (drop at s))) false r) (λ ts r₂. got (t ∷ ts) r₂)))
  open-from first h = more (length (drop at s)) (some_left h) refl
    where
      more : (n : ℕ) → 1 ≤ n → n ≡ length (drop at s)
          → read_tokens n first (drop at s)
          ≡ then_read (read_token (drop at s))
          (λ t r. when (first || not (is_declaration t)) (then_read (read_tokens (pred n) false r) (λ ts r₂. got (t ∷ ts) r₂)))
      more zero k e = absurd (omega arith)
      more (suc n) k e = read_more n first (drop at s) (some_left h)

  pub from-none : (first : Bool) → at < length s → read_token (drop at s) ≡ fail → tokens_from s first at ≡ fail
  from-none first h e = open-from first h ∙ rw e

  -- a declaration that is not the first token
  pub from-late : (t : Token) (r : List ℕ) → at < length s → read_token (drop at s) ≡ got t r → is_declaration t ≡ true → tokens_from s false at ≡ fail
  from-late t r h e d = open-from false h ∙ rw (e, d)

  pub from_next : (first : Bool) (t : Token) (r : List ℕ) → at < length s → read_token (drop at s) ≡ got t r → (first || not (is_declaration t)) ≡ true
      → tokens_from s first at ≡ then_read (tokens_from s false (length s - length r)) (λ ts r₂. got (t ∷ ts) r₂)
  from_next first t r h e may =
      let (rest, low, high) = token-next t r e in
      let less = shorter (drop at s) t r (holds-got (rw e at (token-sound (drop at s)))) in
      let enough = tokens-enough (pred (length (drop at s))) (length r) false r (omega arith) (omega arith) in
      open-from first h ∙ rw (e, may, rest, enough)
