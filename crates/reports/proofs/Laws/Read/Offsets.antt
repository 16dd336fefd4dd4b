-- Names, marks, values and attributes from an offset: how far each goes, by the bytes that the code looks at.
use Prim.Native.Nat.{ℕ, ◌+◌, ◌≤◌, ◌<◌}
use native.Mathlib.Omega.{arith}
use native.Mathlib.Numerals.{add-one}
use mathlib.Core.Path.{◌≡◌, sym, ap, ◌∙◌}
use mathlib.Core.Bool.{true, false}
use mathlib.Core.List.{List, [], ◌∷◌, ◌++◌, append_assoc}
use borrow.Author.Tests.{eq-eqb, ne_eqb}
use lib.ListN.{length, get_or, drop, drop_of_length-le}
use lib.Seq.{drop-cons}
use Rattle.std.proofs.Common.{None, Some}
use Rattle.text.specs.Names.{begins_name, in_name}
use Rattle.documents.specs.Tokens.{quote_byte, blank, in_value, attribute}
use Rattle.text.specs.Read.{front, back, read_word, read_name}
use Rattle.documents.specs.Reading.{read_quote, read_parts, read_attribute_from}
use Rattle.reports.specs.Code.Reaches.{reach, blanks_to, read_mark, read_quoted, read_value}
use Rattle.text.proofs.Laws.Reads.{holds-map, name-sound, word_sound}
use Rattle.text.proofs.Laws.Fronts.{front-back}
use Rattle.reports.proofs.Laws.Read.Reaches.{Suffix, reached, reach-no, reach-map, reach-then, left_at, left-end, blanks-left}

pub name-suffix : (l : List ℕ) → Suffix l (read_name l)
name-suffix l = holds-map (name-sound l) (λ n r g. (n, g.1))

pub mark-suffix : (b : ℕ) (l : List ℕ) → Suffix l (read_mark b l)
mark-suffix b l =
    holds-map (word_sound (b ∷ []) (back blank l))
    (λ u r e. (front blank l ++ (b ∷ []), append_assoc (front blank l) (b ∷ []) r ∙ ap (◌++◌ (front blank l)) e ∙ front-back blank l))

module _ (s : List ℕ) where
  pub name-none : (at : ℕ) → length s ≤ at → reach read_name s at ≡ None
  unfolding reach read_name
  name-none at h = rw (drop_of_length-le s h)

  pub name-no : (at : ℕ) → at < length s → begins_name (get_or s at 0) ≡ false → reach read_name s at ≡ None
  unfolding reach read_name
  name-no at h f = rw (drop-cons s at 0 h, f)

  pub name-to : (at e : ℕ) → at < length s → begins_name (get_or s at 0) ≡ true → e ≡ (at + 1) + length (front in_name (drop (at + 1) s)) → reach read_name s at ≡ Some e
  unfolding reach read_name
  name-to at e h t is =
      let end = left-end s (front in_name (drop (at + 1) s)) (back in_name (drop (at + 1) s)) (at + 1) (front-back in_name (drop (at + 1) s)) (omega arith) in
      rw (drop-cons s at 0 h, t, ← add-one at) (ap Some (end ∙ sym is))

  -- what follows the blanks from an offset on
  module _ (at q : ℕ) (is : q ≡ blanks_to s at) where
    rest : back blank (drop at s) ≡ drop q s
    rest = blanks-left s at ∙ ap (λ (n : ℕ). drop n s) (sym is)

    pub mark-none : (b : ℕ) → length s ≤ q → reach (read_mark b) s at ≡ None
    unfolding reach read_word
    mark-none b k = rw (rest, drop_of_length-le s k)

    pub mark-no : (b : ℕ) → q < length s → (get_or s q 0 ≡ b → ⊥) → reach (read_mark b) s at ≡ None
    unfolding reach read_word
    mark-no b k n = rw (rest, drop-cons s q 0 k, ne_eqb b (get_or s q 0) (λ e. n (sym e)))

    pub mark-to : (b : ℕ) → q < length s → get_or s q 0 ≡ b → reach (read_mark b) s at ≡ Some (q + 1)
    unfolding reach read_word
    mark-to b k e = rw (rest, drop-cons s q 0 k, eq-eqb b (get_or s q 0) (sym e), ← add-one q) (ap Some (sym (left_at s (q + 1) (omega arith))))

    pub value_none : length s ≤ q → reach read_value s at ≡ None
    unfolding reach
    value_none k = rw (rest, drop_of_length-le s k)

    pub value-double : q < length s → get_or s q 0 ≡ 34 → reach read_value s at ≡ reach (read_quoted 34) s (q + 1)
    unfolding reach
    value-double k e = rw (rest, drop-cons s q 0 k, eq-eqb (get_or s q 0) 34 e, ← add-one q)

    pub value-single : q < length s → get_or s q 0 ≡ 39 → reach read_value s at ≡ reach (read_quoted 39) s (q + 1)
    unfolding reach
    value-single k e = rw (rest, drop-cons s q 0 k, ne_eqb (get_or s q 0) 34 (λ x. omega arith), eq-eqb (get_or s q 0) 39 e, ← add-one q)

    pub value-no : q < length s → (get_or s q 0 ≡ 34 → ⊥) → (get_or s q 0 ≡ 39 → ⊥) → reach read_value s at ≡ None
    unfolding reach
    value-no k n m = rw (rest, drop-cons s q 0 k, ne_eqb (get_or s q 0) 34 n, ne_eqb (get_or s q 0) 39 m)

  module _ (at : ℕ) where
    pub attribute-no : reach read_name s at ≡ None → reach (read_attribute_from []) s at ≡ None
    unfolding reach read_attribute_from
    attribute-no e = rw (reach-no read_name s at e)

    pub name-bound : (e : ℕ) → reach read_name s at ≡ Some e → e ≤ length s
    name-bound e to = (reached s at read_name e name-suffix to).3

    module _ (e : ℕ) (to : reach read_name s at ≡ Some e) where
      pub attribute-no₂ : reach (read_mark 61) s e ≡ None → reach (read_attribute_from []) s at ≡ None
      unfolding reach read_attribute_from
      attribute-no₂ k =
          let (n, is, low, high) = reached s at read_name e name-suffix to in
          rw (is, reach-no (read_mark 61) s e k)

      pub attribute-to : (v : ℕ) → reach (read_mark 61) s e ≡ Some v → reach (read_attribute_from []) s at ≡ reach read_value s v
      unfolding reach read_attribute_from
      attribute-to v k =
          let (n, is, low, high) = reached s at read_name e name-suffix to in
          let (u, is₂, low₂, high₂) = reached s e (read_mark 61) v (mark-suffix 61) k in
          rw (is, is₂)
          (reach-then (length s) (read_quote (back blank (drop v s))) _ _ (λ q r.
          reach-then (length s) (read_parts (in_value (quote_byte q)) r) _ _ (λ x r₂.
          (reach-map (length s) (read_word (quote_byte q ∷ []) r₂) (λ w. attribute [] n (front blank (drop e s)) (front blank (drop v s)) q x)))))

-- by the bytes that are looked at
pub ruleset names = (name-none, name-no, name-to)

pub ruleset marks = (mark-none, mark-no, mark-to)

pub ruleset values = (value_none, value-double, value-single, value-no)

pub ruleset attributes = (attribute-no, attribute-no₂, attribute-to)
