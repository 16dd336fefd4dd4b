-- The parts of a value from an offset, by the byte there.
use Prim.Native.Nat.{ℕ, ◌+◌, ◌≤◌, ◌<◌}
use native.Mathlib.Omega.{arith}
use native.Mathlib.Numerals.{add-one}
use mathlib.Core.Path.{◌≡◌, refl, sym, ap, ◌∙◌}
use mathlib.Core.Bool.{Bool, true, false}
use mathlib.Core.List.{List, [], ◌∷◌, ◌++◌, append_assoc}
use borrow.Author.Tests.{eq-eqb, ne_eqb}
use lib.ListN.{length, get_or, drop, drop_of_length-le}
use lib.Seq.{drop-cons}
use Rattle.std.proofs.Common.{Option, None, Some}
use Rattle.documents.specs.Tokens.{plain, reference, in_text, in_value}
use Rattle.text.specs.Read.{Read, fail, got, then_read, read_up_to, read_word}
use Rattle.documents.specs.Reading.{read_reference, part_ahead, read_part, read_parts}
use Rattle.reports.specs.Code.Reaches.{reach_of, reach, read_quoted}
use Rattle.text.proofs.Laws.Reads.{holds-map}
use Rattle.text.proofs.Laws.ReadMany.{many-none, many_more}
use Rattle.documents.proofs.Laws.Read.ByteTests.{value-quote, value-last}
use Rattle.documents.proofs.Laws.Read.PartsSound.{reference-sound, part_sound}
use Rattle.documents.proofs.Laws.Printed.PartsBack.{part-begins}
use Rattle.reports.proofs.Laws.Read.Reaches.{Suffix, reached, reach-no, left_at}

pub reference-suffix : (l : List ℕ) → Suffix l (read_reference l)
reference-suffix l = holds-map (reference-sound l) (λ n r g. (n ++ (59 ∷ []), append_assoc n (59 ∷ []) r ∙ g.1))

-- a reference ends past its `&`, and within the bytes
module _ (s : List ℕ) (i e : ℕ) (h : i < length s) (to : reach read_reference s (i + 1) ≡ Some e) where
  pub reference-past : i < e
  reference-past =
      let low : i + 1 ≤ e = (reached s (i + 1) read_reference e reference-suffix to).2 (omega arith) in
      omega arith

  pub reference-within : e ≤ length s
  reference-within = (reached s (i + 1) read_reference e reference-suffix to).3

-- the parts from an offset, by the byte there
module _ (ok : ℕ → Bool) (s : List ℕ) (i : ℕ) (h : i < length s) where
  pub amp-none : get_or s i 0 ≡ 38 → read_reference (drop (i + 1) s) ≡ fail → read_parts ok (drop i s) ≡ fail
  unfolding read_part
  amp-none a is =
      many_more (part-begins ok) (part_sound ok) (drop i s) (rw (drop-cons s i 0 h, eq-eqb (get_or s i 0) 38 a))
      ∙ rw (drop-cons s i 0 h, eq-eqb (get_or s i 0) 38 a, ← add-one i, is)

  pub amp-got : get_or s i 0 ≡ 38 → {n r : List ℕ} → read_reference (drop (i + 1) s) ≡ got n r
      → read_parts ok (drop i s) ≡ then_read (read_parts ok r) (λ ps r₂. got (reference n ∷ ps) r₂)
  unfolding read_part
  amp-got a is =
      many_more (part-begins ok) (part_sound ok) (drop i s) (rw (drop-cons s i 0 h, eq-eqb (get_or s i 0) 38 a))
      ∙ rw (drop-cons s i 0 h, eq-eqb (get_or s i 0) 38 a, ← add-one i, is)

  module _ (n : get_or s i 0 ≡ 38 → ⊥) where
    pub plain-got : ok (get_or s i 0) ≡ true → read_parts ok (drop i s) ≡ then_read (read_parts ok (drop (i + 1) s)) (λ ps r. got (plain (get_or s i 0) ∷ ps) r)
    unfolding read_part
    plain-got t =
        many_more (part-begins ok) (part_sound ok) (drop i s) (rw (drop-cons s i 0 h, ne_eqb (get_or s i 0) 38 n, t))
        ∙ rw (drop-cons s i 0 h, ne_eqb (get_or s i 0) 38 n, ← add-one i)

    pub plain-none : ok (get_or s i 0) ≡ false → read_parts ok (drop i s) ≡ got [] (drop i s)
    plain-none f = many-none (part_ahead ok) read_part (drop i s) (rw (drop-cons s i 0 h, ne_eqb (get_or s i 0) 38 n, f))

-- what a reading makes of a value has no part in how far the rest goes
on_past : {A B C : Type 0} (total : ℕ) (m : Read A) (f : A → B) (k : List ℕ → Read C)
    → reach_of total (then_read (then_read m (λ a r. got (f a) r)) (λ b r. k r)) ≡ reach_of total (then_read m (λ a r. k r))
on_past total fail f k = refl
on_past total (got a r) f k = refl

-- how far a value and its quote go from an offset, by the byte there
module _ (s : List ℕ) (quote i : ℕ) where
  abbrev Quoted : ℕ → Option ℕ
  Quoted n = reach (read_quoted quote) s n

  pub quoted-amp-no : i < length s → get_or s i 0 ≡ 38 → reach read_reference s (i + 1) ≡ None → Quoted i ≡ None
  unfolding reach
  quoted-amp-no h a e =
      ap (λ (m : Read (List _)). reach_of (length s) (then_read m (λ v r. read_word (quote ∷ []) r)))
      (amp-none (in_value quote) s i h a (reach-no read_reference s (i + 1) e))

  pub quoted-amp : i < length s → get_or s i 0 ≡ 38 → (e : ℕ) → reach read_reference s (i + 1) ≡ Some e → Quoted i ≡ Quoted e
  unfolding reach
  quoted-amp h a e k =
      let (n, is, low, high) = reached s (i + 1) read_reference e reference-suffix k in
      ap (λ (m : Read (List _)). reach_of (length s) (then_read m (λ v r. read_word (quote ∷ []) r))) (amp-got (in_value quote) s i h a is)
      ∙ on_past (length s) (read_parts (in_value quote) (drop e s)) (λ ps. reference n ∷ ps) (read_word (quote ∷ []))

  module _ (h : i < length s) (n : get_or s i 0 ≡ 38 → ⊥) where
    pub quoted-to : get_or s i 0 ≡ quote → Quoted i ≡ Some (i + 1)
    unfolding reach read_word
    quoted-to e =
        rw (plain-none (in_value quote) s i h n (value-quote (get_or s i 0) quote e), drop-cons s i 0 h, eq-eqb quote (get_or s i 0) (sym e), ← add-one i)
        (ap Some (sym (left_at s (i + 1) (omega arith))))

    module _ (m : get_or s i 0 ≡ quote → ⊥) where
      pub quoted-plain : in_text (get_or s i 0) ≡ true → Quoted i ≡ Quoted (i + 1)
      unfolding reach
      quoted-plain t =
          ap (λ (m : Read (List _)). reach_of (length s) (then_read m (λ v r. read_word (quote ∷ []) r)))
          (plain-got (in_value quote) s i h n (value-last (get_or s i 0) quote m ∙ t))
          ∙ on_past (length s) (read_parts (in_value quote) (drop (i + 1) s)) (λ ps. plain (get_or s i 0) ∷ ps) (read_word (quote ∷ []))

      pub quoted-off : in_text (get_or s i 0) ≡ false → Quoted i ≡ None
      unfolding reach read_word
      quoted-off f =
          rw (plain-none (in_value quote) s i h n (value-last (get_or s i 0) quote m ∙ f), drop-cons s i 0 h, ne_eqb quote (get_or s i 0) (λ e. m (sym e)))

  pub quoted-end : length s ≤ i → Quoted i ≡ None
  unfolding reach read_up_to read_word
  quoted-end h = rw (drop_of_length-le s h)

-- by the byte there
pub ruleset quotes = (reference-past, reference-within, quoted-amp-no, quoted-amp, quoted-to, quoted-plain, quoted-off, quoted-end)
