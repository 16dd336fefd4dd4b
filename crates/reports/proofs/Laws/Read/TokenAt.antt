-- The token at an offset, by its first bytes; and a tag's name there.
use Prim.Native.Nat.{ℕ, suc, ◌+◌, ◌≤◌, ◌<◌}
use native.Mathlib.Omega.{arith}
use native.Mathlib.Numerals.{add-one}
use mathlib.Core.Path.{◌≡◌, refl, sym, ap, ◌∙◌}
use mathlib.Core.Bool.{true, false}
use mathlib.Core.List.{List, ◌∷◌}
use borrow.Author.Tests.{eq-eqb, ne_eqb}
use lib.ListN.{length, get_or, drop, length-drop, drop_of_length-le}
use lib.Seq.{drop-cons}
use Rattle.std.proofs.Common.{Option, None, Some}
use Rattle.reports.specs.declared.tokens.Kind.TheVariants.{Declaration}
use Rattle.reports.specs.declared.tokens.Found.{Found}
use Rattle.documents.specs.Tokens.{declaration_bytes}
use Rattle.text.specs.Read.{starts_with}
use Rattle.documents.specs.Reading.{read_tag, read_end_tag, read_comment, read_markup, read_text, read_token}
use Rattle.reports.specs.Seen.{found_of}
use Rattle.reports.specs.Code.Seen.{declaration_at}
use Rattle.text.proofs.Laws.Reads.{word-is, word_fits}

declaration-length : length declaration_bytes ≡ 21
unfolding declaration_bytes
declaration-length = refl

module _ (s : List ℕ) (at : ℕ) where
  abbrev Here : Option Found
  Here = found_of (length s) at (read_token (drop at s))

  pub declared-to : at ≤ length s → starts_with declaration_bytes (drop at s) ≡ true → declaration_at s at ≡ Some (record { kind = Declaration; end = at + 21 })
  declared-to h t =
      rw (word-is declaration_bytes (drop at s), t)
      (ap (λ (x : ℕ). let f : Found = record { kind = Declaration; end = x } in Some f)
      (omega (arith, word_fits declaration_bytes s at (omega (arith, declaration-length)) t, length-drop (length declaration_bytes) (drop at s), length-drop at s, declaration-length)))

  pub declared-no : starts_with declaration_bytes (drop at s) ≡ false → declaration_at s at ≡ None
  declared-no f = rw (word-is declaration_bytes (drop at s), f)

  pub token-none : length s ≤ at → Here ≡ None
  unfolding read_token
  token-none h = rw (drop_of_length-le s h)

  pub token-text : at < length s → (get_or s at 0 ≡ 60 → ⊥) → Here ≡ found_of (length s) at (read_text (drop at s))
  unfolding read_token
  token-text h n =
      ap (found_of (length s) at) (ap read_token (drop-cons s at 0 h)) ∙ rw (ne_eqb (get_or s at 0) 60 n) (sym (ap (found_of (length s) at) (ap read_text (drop-cons s at 0 h))))

  module _ (less : get_or s at 0 ≡ 60) where
    pub token-short : at < length s → length s ≤ at + 1 → Here ≡ None
    unfolding read_token read_markup
    token-short h k = rw (drop-cons s at 0 h, ← add-one at, drop_of_length-le s k, eq-eqb (get_or s at 0) 60 less)

    module _ (h : at + 1 < length s) where
      second : drop (at + 1) s ≡ get_or s (at + 1) 0 ∷ drop (at + 2) s
      second =
          let two : suc (at + 1) ≡ at + 2 = omega arith in
          drop-cons s (at + 1) 0 h ∙ ap (λ (n : ℕ). get_or s (at + 1) 0 ∷ drop n s) two

      whole : drop at s ≡ 60 ∷ get_or s (at + 1) 0 ∷ drop (at + 2) s
      whole = drop-cons s at 0 (omega arith) ∙ rw (less, ← add-one at, second)

      opened : Here ≡ found_of (length s) at (read_markup (get_or s (at + 1) 0 ∷ drop (at + 2) s))
      unfolding read_token
      opened = rw whole

      pub token-comment : get_or s (at + 1) 0 ≡ 33 → Here ≡ found_of (length s) at (read_comment (drop (at + 2) s))
      unfolding read_markup
      token-comment e = opened ∙ rw (eq-eqb (get_or s (at + 1) 0) 33 e)

      pub token_end : get_or s (at + 1) 0 ≡ 47 → Here ≡ found_of (length s) at (read_end_tag (drop (at + 2) s))
      unfolding read_markup
      token_end e = opened ∙ rw (ne_eqb (get_or s (at + 1) 0) 33 (λ x. omega arith), eq-eqb (get_or s (at + 1) 0) 47 e)

      pub token-declaration : get_or s (at + 1) 0 ≡ 63 → Here ≡ declaration_at s at
      unfolding read_markup
      token-declaration e = opened ∙ rw (ne_eqb (get_or s (at + 1) 0) 33 (λ x. omega arith), ne_eqb (get_or s (at + 1) 0) 47 (λ x. omega arith), eq-eqb (get_or s (at + 1) 0) 63 e, ← whole)

      pub token-tag : (get_or s (at + 1) 0 ≡ 33 → ⊥) → (get_or s (at + 1) 0 ≡ 47 → ⊥) → (get_or s (at + 1) 0 ≡ 63 → ⊥)
          → Here ≡ found_of (length s) at (read_tag (drop (at + 1) s))
      unfolding read_markup
      token-tag n m k =
          opened ∙ rw (ne_eqb (get_or s (at + 1) 0) 33 n, ne_eqb (get_or s (at + 1) 0) 47 m, ne_eqb (get_or s (at + 1) 0) 63 k, ← second)

-- by the first two bytes
pub ruleset tokens = (token-none, token-text, token-short, token-comment, token_end, token-declaration, token-tag)

pub ruleset declarations = (declared-to, declared-no)
