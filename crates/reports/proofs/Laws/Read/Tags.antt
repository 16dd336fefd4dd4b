-- Tags from an offset, by what their parts reach.
use Prim.Native.Nat.{ℕ, suc, ◌+◌, ◌-◌, ◌≤◌, ◌<◌}
use native.Mathlib.Omega.{arith}
use native.Mathlib.Numerals.{add-one}
use mathlib.Core.Path.{◌≡◌, refl, sym, ap, ap₂, ◌∙◌}
use mathlib.Core.Bool.{Bool, true, false, cond, and-false}
use mathlib.Core.List.{List, [], ◌∷◌, ◌++◌, append_assoc, map}
use lib.Dec.{eqb, ltb}
use borrow.Author.Tests.{eq-eqb, ne_eqb, eqb-true, eqb-false, ltb-true, ltb-false}
use lib.ListN.{length, get_or, drop, length-append, length-drop, drop_of_length-le}
use lib.Seq.{drop-cons}
use Rattle.std.proofs.Common.{None, Some}
use Rattle.text.specs.Names.{Name}
use Rattle.text.proofs.Laws.Tests.{cases, and_left, and_right}
use Rattle.reports.specs.declared.tokens.Span.{Span}
use Rattle.reports.specs.declared.tokens.Kind.TheVariants.{Start, Empty, End}
use Rattle.reports.specs.declared.tokens.Found.{Found}
use Rattle.reports.specs.declared.attributes.Inside.{Inside}
use Rattle.documents.specs.Tokens.{blank, Attribute, print_attributes, formed_attribute, empty_tag}
use Rattle.text.specs.Read.{Read, fail, got, then_read, front, back, read_word, read_name}
use Rattle.documents.specs.Reading.{read_attributes, read_tag_end, read_tag, read_end_tag}
use Rattle.reports.specs.Code.Reaches.{reach, blanks_to, read_mark}
use Rattle.reports.specs.Code.Attributes.{inside_of, inside_from}
use Rattle.documents.specs.Repeats.{attribute_name, repeated}
use Rattle.reports.specs.Seen.{judged, span_of, found_of}
use Rattle.reports.specs.Code.Seen.{has_byte, tag_end_of}
use Rattle.text.specs.Lists.{every}
use Rattle.text.proofs.Laws.Reads.{WhenRead, holds-got, name-sound}
use Rattle.text.proofs.Laws.ReadMany.{many-sound}
use Rattle.text.proofs.Laws.Fronts.{front-back}
use Rattle.documents.proofs.Laws.Read.PartsSound.{attribute-sound}
use Rattle.documents.proofs.Laws.Read.ByteTests.{blank-high}
use Rattle.reports.proofs.Laws.Read.Reaches.{reached, reach-no, left_at, left-drop, never, blanks-no}
use Rattle.reports.proofs.Laws.Read.Offsets.{name-suffix, mark-suffix, mark-to}
use Rattle.reports.proofs.Laws.Read.Inside.{no-blanks}

module _ (s : List ℕ) where
  -- the name from an offset to another is as long as they are apart
  named : (from to : ℕ) → from ≤ length s → reach read_name s from ≡ Some to
      → (n : Name) × (read_name (drop from s) ≡ got n (drop to s)) × (record { from = from; to = to } ≡ span_of from n)
  named from to h e =
      let (n, is, low, high) = reached s from read_name to name-suffix e in
      let g = holds-got (rw is at (name-sound (drop from s))) in
      let end : to ≡ from + length n = omega (arith, ap length g.1, length-append n (drop to s), length-drop to s, length-drop from s, low h) in
      (n, is, ap (λ (x : ℕ). let p : Span = record { from = from; to = x } in p) end)

  -- `>` stands at an offset, and no blanks before it
  here : (to : ℕ) → has_byte s to 62 ≡ true → (to < length s) × (get_or s to 0 ≡ 62) × (to ≡ blanks_to s to)
  here to t =
      let inside = ltb-true to (length s) (and_left _ _ t) in
      let mark = eqb-true (get_or s to 0) 62 (and_right (ltb to (length s)) _ t) in
      (inside, mark, sym (blanks-no s to inside (blank-high (get_or s to 0) (omega arith))))

  -- what is told of a tag's attributes
  abbrev told : List Attribute → Bool
  told m = judged (length s) (map attribute_name m)

  left_after-is : (e : ℕ) → e < length s → e + 1 ≡ length s - length (drop (suc e) s)
  left_after-is e h = omega (arith, length-drop (suc e) s)

  -- the end of a tag, by its bytes
  slash : (n : Name) (m : List Attribute) (b : List ℕ) (at e : ℕ)
      → cond (has_byte s (e + 1) 62) (Some (record { kind = Empty (span_of (at + 1) n) (told m); end = e + 2 })) None
      ≡ found_of (length s) at (then_read (read_word (62 ∷ []) (drop (suc e) s)) (λ w r. got (empty_tag n m b) r))
  unfolding read_word
  slash n m b at e =
      rw add-one
      (cases (ltb (suc e) (length s))
      (λ t.
      let i : suc e < length s = ltb-true (suc e) (length s) t in
      rw (t, drop-cons s (suc e) 0 i)
      (cases (eqb (get_or s (suc e) 0) 62)
      (λ x. rw (x, eq-eqb 62 (get_or s (suc e) 0) (sym (eqb-true (get_or s (suc e) 0) 62 x)))
      (ap (λ (x : ℕ). let f : Found = record { kind = Empty (span_of (at + 1) n) (told m); end = x } in Some f) (omega (arith, left_after-is (suc e) i))))
      (λ x. rw (x, ne_eqb 62 (get_or s (suc e) 0) (λ y. eqb-false (get_or s (suc e) 0) 62 x (sym y))))))
      (λ f. rw (f, drop_of_length-le s (ltb-false (suc e) (length s) f))))

  end-shown : (n : Name) (m : List Attribute) (b : List ℕ) (at e : ℕ)
      → found_of (length s) at (read_tag_end n m b (drop e s)) ≡ tag_end_of s (span_of (at + 1) n) e (told m)
  end-shown n m b at e =
      sym (cases (ltb e (length s))
      (λ t.
      let i : e < length s = ltb-true e (length s) t in
      rw (t, drop-cons s e 0 i)
      (cases (eqb (get_or s e 0) 62)
      (λ x. rw x (ap (λ (x : ℕ). let f : Found = record { kind = Start (span_of (at + 1) n) (told m); end = x } in Some f) (left_after-is e i)))
      (λ x. rw x (cases (eqb (get_or s e 0) 47) (λ y. rw y (slash n m b at e)) (λ y. rw y)))))
      (λ f. rw (f, drop_of_length-le s (ltb-false e (length s) f))))

  module _ (at : ℕ) where
    pub tag-no : reach read_name s (at + 1) ≡ None → found_of (length s) at (read_tag (drop (at + 1) s)) ≡ None
    unfolding read_tag
    tag-no e = rw (reach-no read_name s (at + 1) e)

    module _ (h : at < length s) (to : ℕ) (name : reach read_name s (at + 1) ≡ Some to) where
      abbrev Name-at : Span
      Name-at = record { from = at + 1; to = to }

      pub tag-no₂ : inside_from s to ≡ None → found_of (length s) at (read_tag (drop (at + 1) s)) ≡ None
      unfolding read_tag inside_from
      tag-no₂ e =
          let (n, is, apart) = named (at + 1) to (omega arith) name in
          rw is (go n (read_attributes (drop to s)) e)
        where
          go : (n : Name) (m : Read (List Attribute)) → inside_of (length s) (then_read m (λ l r. got l (back blank r))) ≡ None
              → found_of (length s) at (then_read m (λ l r. read_tag_end n l (front blank r) (back blank r))) ≡ None
          go n fail e = refl
          go n (got l r) e = never (sym e)

      pub tag-to : (i : Inside) → inside_from s to ≡ Some i → found_of (length s) at (read_tag (drop (at + 1) s)) ≡ tag_end_of s Name-at i.end i.twice
      unfolding read_tag inside_from
      tag-to i e =
          let (n, is, apart) = named (at + 1) to (omega arith) name in
          rw (is, apart) (go n (read_attributes (drop to s)) (many-sound attribute-sound (drop to s)) e)
        where
          go : (n : Name) (m : Read (List Attribute)) → WhenRead (λ l r. (every formed_attribute l ≡ true) × (print_attributes l ++ r ≡ drop to s)) m
              → inside_of (length s) (then_read m (λ l r. got l (back blank r))) ≡ Some i
              → found_of (length s) at (then_read m (λ l r. read_tag_end n l (front blank r) (back blank r))) ≡ tag_end_of s (span_of (at + 1) n) i.end i.twice
          go n fail g e = never e
          go n (got l r) g e =
              let rest : drop (length s - length (back blank r)) s ≡ back blank r =
              left-drop s (print_attributes l ++ front blank r) (back blank r) to
              (append_assoc (print_attributes l) (front blank r) (back blank r) ∙ ap (◌++◌ (print_attributes l)) (front-back blank r) ∙ (holds-got g).1) in
              let made : i ≡ record { end = length s - length (back blank r); twice = told l } = cc in
              rw made
              (ap (λ (x : List ℕ). found_of (length s) at (read_tag_end n l (front blank r) x)) (sym rest) ∙ end-shown n l (front blank r) at (length s - length (back blank r)))

      pub tag-here : has_byte s to 62 ≡ true → found_of (length s) at (read_tag (drop (at + 1) s)) ≡ Some (record { kind = Start Name-at false; end = to + 1 })
      unfolding inside_from repeated
      tag-here t =
          let (inside, mark, none) = here to t in
          let no_attributes = no-blanks s to to none refl in
          let i : Inside = record { end = to; twice = false } in
          let bare : inside_from s to ≡ Some i = rw (no_attributes, ← none, and-false) in
          tag-to i bare ∙ rw t

  module _ (at : ℕ) where
    pub end-no : reach read_name s (at + 2) ≡ None → found_of (length s) at (read_end_tag (drop (at + 2) s)) ≡ None
    unfolding read_end_tag
    end-no e = rw (reach-no read_name s (at + 2) e)

    module _ (h : at + 2 ≤ length s) (to : ℕ) (name : reach read_name s (at + 2) ≡ Some to) where
      pub end-no₂ : reach (read_mark 62) s to ≡ None → found_of (length s) at (read_end_tag (drop (at + 2) s)) ≡ None
      unfolding read_end_tag
      end-no₂ e =
          let (n, is, apart) = named (at + 2) to h name in
          rw (is, reach-no (read_mark 62) s to e)

      pub end-to : (e : ℕ) → reach (read_mark 62) s to ≡ Some e
          → found_of (length s) at (read_end_tag (drop (at + 2) s)) ≡ Some (record { kind = End (record { from = at + 2; to = to }); end = e })
      unfolding read_end_tag
      end-to e k =
          let (n, is, apart) = named (at + 2) to h name in
          let (u, all, low, end) = reached s to (read_mark 62) e (mark-suffix 62) k in
          rw (is, all) (ap₂ (λ (p : Span) (x : ℕ). let f : Found = record { kind = End p; end = x } in Some f) (sym apart) (sym (left_at s e end)))

      pub end-here : has_byte s to 62 ≡ true
          → found_of (length s) at (read_end_tag (drop (at + 2) s)) ≡ Some (record { kind = End (record { from = at + 2; to = to }); end = to + 1 })
      end-here t =
          let (inside, mark, none) = here to t in
          end-to (to + 1) (mark-to s to to none 62 inside mark)

-- by what the parts reach
pub ruleset tags = (tag-no, tag-no₂, tag-to, tag-here)

pub ruleset end_tags = (end-no, end-no₂, end-to, end-here)
