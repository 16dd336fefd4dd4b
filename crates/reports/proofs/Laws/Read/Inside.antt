-- What comes next inside a tag, by the bytes that the code looks at.
use Prim.Native.Nat.{ℕ, ◌+◌, ◌≤◌, ◌<◌}
use native.Mathlib.Omega.{arith}
use mathlib.Core.Path.{◌≡◌, refl, sym, ap, ◌∙◌}
use mathlib.Core.Bool.{true, false, and-false}
use mathlib.Core.List.{List, [], ◌∷◌}
use lib.ListN.{length, get_or, drop, length-append, length-drop, drop_of_length-le}
use lib.Seq.{drop-cons}
use Rattle.std.proofs.Common.{None, Some}
use Rattle.text.specs.Names.{begins_name}
use Rattle.text.specs.Lists.{non_empty}
use Rattle.text.proofs.Laws.Tests.{both_true}
use Rattle.text.proofs.Laws.Fronts.{front-back}
use Rattle.reports.specs.declared.attributes.Next.TheVariants.{Blanks, Attribute as AttributeAt}
use Rattle.documents.specs.Tokens.{Attribute, blank, in_value, quote_byte}
use Rattle.text.specs.Read.{Read, fail, got, front, back, read_word, read_name}
use Rattle.documents.specs.Reading.{read_quote, read_parts, read_attribute_from, read_attribute, attribute_ahead, read_attributes}
use Rattle.reports.specs.Code.Reaches.{reach_of, reach, blanks_to}
use Rattle.reports.specs.Code.Attributes.{next_of, next_from}
use Rattle.text.proofs.Laws.ReadMany.{many-none}
use Rattle.reports.proofs.Laws.Read.Reaches.{never, reach-then, blanks-left}

-- the blanks before an attribute have no part in how far it goes
from-reach : (total : ℕ) (f l : List ℕ) → reach_of total (read_attribute_from f l) ≡ reach_of total (read_attribute_from [] l)
unfolding read_attribute_from
from-reach total f l =
    reach-then total (read_name l) _ _ (λ n r.
    reach-then total (read_word (61 ∷ []) (back blank r)) _ _ (λ w r₂.
    reach-then total (read_quote (back blank r₂)) _ _ (λ q r₃.
    reach-then total (read_parts (in_value (quote_byte q)) r₃) _ _ (λ v r₄.
    reach-then total (read_word (quote_byte q ∷ []) r₄) _ _ (λ u r₅. refl)))))

none_of : (l : List ℕ) → length l ≡ 0 → non_empty l ≡ false
none_of [] h = refl
none_of (b ∷ l) h = absurd (omega arith)

some_of : (l : List ℕ) → (length l ≡ 0 → ⊥) → non_empty l ≡ true
some_of [] h = absurd (h refl)
some_of (b ∷ l) h = refl

-- the next attribute, by how far it goes
reached-torn : (total name : ℕ) (m : Read Attribute) → reach_of total m ≡ None → next_of total name m ≡ None
reached-torn total name fail e = refl
reached-torn total name (got a r) e = never (sym e)

reached-at : (total name end : ℕ) (m : Read Attribute) → reach_of total m ≡ Some end → next_of total name m ≡ Some (AttributeAt name end)
reached-at total name end fail e = never e
reached-at total name end (got a r) e = cc

module _ (s : List ℕ) (i n : ℕ) (is : n ≡ blanks_to s i) where
  rest : back blank (drop i s) ≡ drop n s
  rest = blanks-left s i ∙ ap (λ (k : ℕ). drop k s) (sym is)

  -- as many blanks as the code passed
  blanks-count : length (front blank (drop i s)) + length (drop n s) ≡ length (drop i s)
  blanks-count = ap (λ (l : List ℕ). length (front blank (drop i s)) + length l) (sym rest) ∙ sym (length-append (front blank (drop i s)) (back blank (drop i s))) ∙ ap length (front-back blank (drop i s))

  pub not-ahead : n ≡ i → attribute_ahead (drop i s) ≡ false
  not-ahead e =
      let none : length (front blank (drop i s)) ≡ 0 = omega (arith, blanks-count, ap (λ (k : ℕ). length (drop k s)) e) in
      rw (none_of (front blank (drop i s)) none)

  done : attribute_ahead (drop i s) ≡ false → next_from s i ≡ Some (Blanks n)
  unfolding next_from
  done f = rw f (ap (λ (k : ℕ). Some (Blanks k)) (sym is))

  pub done-blanks : n ≡ i → next_from s i ≡ Some (Blanks n)
  done-blanks e = done (not-ahead e)

  pub done_end : length s ≤ n → next_from s i ≡ Some (Blanks n)
  done_end k = done (rw (rest, drop_of_length-le s k) (and-false (non_empty (front blank (drop i s)))))

  pub done-name : n < length s → begins_name (get_or s n 0) ≡ false → next_from s i ≡ Some (Blanks n)
  done-name k f = done (rw (rest, drop-cons s n 0 k, f) (and-false (non_empty (front blank (drop i s)))))

  module _ (more : (n ≡ i → ⊥)) (k : n < length s) (t : begins_name (get_or s n 0) ≡ true) where
    ahead : attribute_ahead (drop i s) ≡ true
    ahead =
        both_true
        (some_of (front blank (drop i s)) (λ z. more (omega (arith, z, blanks-count, length-drop n s, length-drop i s))))
        (rw (rest, drop-cons s n 0 k) t)

    same-reach : reach_of (length s) (read_attribute (drop i s)) ≡ reach (read_attribute_from []) s n
    unfolding reach
    same-reach = from-reach (length s) (front blank (drop i s)) (back blank (drop i s)) ∙ rw rest

    pub next-torn : reach (read_attribute_from []) s n ≡ None → next_from s i ≡ None
    unfolding next_from
    next-torn e = rw ahead (reached-torn (length s) (blanks_to s i) (read_attribute (drop i s)) (same-reach ∙ e))

    pub next-at : (e : ℕ) → reach (read_attribute_from []) s n ≡ Some e → next_from s i ≡ Some (AttributeAt n e)
    unfolding next_from
    next-at e to = rw ahead (reached-at (length s) (blanks_to s i) e (read_attribute (drop i s)) (same-reach ∙ to) ∙ ap (λ (x : ℕ). Some (AttributeAt x e)) (sym is))

  -- no blanks, so no attributes
  pub no-blanks : n ≡ i → read_attributes (drop i s) ≡ got [] (drop i s)
  no-blanks e = many-none attribute_ahead read_attribute (drop i s) (not-ahead e)

-- by the bytes that are looked at
pub ruleset nexts = (done-blanks, done_end, done-name, next-torn, next-at)
