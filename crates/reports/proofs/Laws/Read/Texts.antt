-- Texts from an offset, part by part.
use Prim.Native.Nat.{ℕ, zero, suc, ◌+◌, ◌-◌, ◌≤◌, ◌<◌}
use native.Mathlib.Omega.{arith}
use native.Mathlib.Numerals.{add-one}
use mathlib.Core.Path.{◌≡◌, refl, sym, ap, ◌∙◌}
use mathlib.Core.Logic.{⊎_elim}
use mathlib.Core.Bool.{Bool, true, false, not, ◌&&◌, ◌||◌, cond, and-false, and-true, or-false, or-true, and_assoc}
use mathlib.Core.List.{List, [], ◌∷◌, ◌++◌}
use lib.Dec.{eqb, leb, ltb}
use borrow.Author.Tests.{eq-eqb, ne_eqb, eqb-true, eqb-false, not-true, le-leb, lt-leb, lt-ltb, le-ltb, ltb-true, ltb-false}
use lib.ListN.{length, get_or, drop, length-drop, drop_of_length-le}
use lib.Seq.{drop-cons}
use Rattle.text.specs.Names.{Name}
use Rattle.text.specs.Lists.{every, non_empty}
use Rattle.text.proofs.Laws.Tests.{cases, and_left, and_right, either}
use Rattle.text.proofs.Laws.Scans.{begins-other, begins-here}
use Rattle.std.proofs.Common.{Option, None, Some}
use Rattle.reports.specs.declared.tokens.Kind.TheVariants.{Blank}
use Rattle.reports.specs.declared.tokens.Found.{Found}
use Rattle.documents.specs.Tokens.{Part, plain, reference, print_part, print_parts, text, blank, listed, in_text, is_entity, occurs}
use Rattle.text.specs.Read.{starts_with, Read, fail, got, then_read, when, read_up_to, print_many}
use Rattle.documents.specs.Reading.{read_reference, read_parts, text_ends, read_text}
use Rattle.reports.specs.Code.Reaches.{reach, blanks_to}
use Rattle.reports.specs.Seen.{text_kind, found_of}
use Rattle.reports.specs.Code.Seen.{has_byte, text_of, text_from, text_found, text_on}
use Rattle.documents.proofs.Laws.Read.Bytes.{entity-cases}
use Rattle.documents.proofs.Laws.Read.ByteTests.{listed-high, text-last}
use Rattle.text.proofs.Laws.Reads.{WhenRead, holds-map, holds-got}
use Rattle.text.proofs.Laws.ReadMany.{many-sound}
use Rattle.documents.proofs.Laws.Read.PartsSound.{reference-sound, part_sound}
use Rattle.reports.proofs.Laws.Read.Reaches.{reached, reach-no, blanks-no, blanks-yes, blanks-end, blanks-stop, blanks-low}
use Rattle.reports.proofs.Laws.Read.Words.{by_byte}
use Rattle.reports.proofs.Laws.Read.Values.{reference-past, reference-within, reference-suffix, amp-none, amp-got, plain-got, plain-none}

-- a text of blanks alone or not, up to an offset
abbrev ended : Bool → ℕ → Option Found
ended all end = Some (record { kind = text_kind all; end = end })

shown-text : (total at : ℕ) (m : Read (List Part))
    → found_of total at (then_read m (λ ps r. when (non_empty ps && (not (occurs (93 ∷ 93 ∷ 62 ∷ []) (print_parts ps)) && text_ends r)) (got (text ps) r)))
    ≡ text_of total false true m
shown-text total at fail = refl
shown-text total at (got ps r) =
    cases (non_empty ps && (not (occurs (93 ∷ 93 ∷ 62 ∷ []) (print_parts ps)) && text_ends r)) (λ t. rw t) (λ f. rw f)

pub text-start : (s : List ℕ) (at : ℕ) → found_of (length s) at (read_text (drop at s)) ≡ text_from s false true at
unfolding read_text
text-start s at = shown-text (length s) at (read_parts in_text (drop at s))

-- a word without `<` stands at the front of a text if it stands at the front of the text and what follows it
word-inside : (w p r : List ℕ) → every (λ b. not (eqb b 60)) w ≡ true → text_ends r ≡ true → starts_with w (p ++ r) ≡ starts_with w p
unfolding starts_with every
word-inside [] p r h e = refl
word-inside (x ∷ w) [] [] h e = refl
word-inside (x ∷ w) [] (c ∷ r) h e =
    let apart : eqb x c ≡ false = ap (eqb x) (eqb-true c 60 e) ∙ not-true (eqb x 60) (and_left _ _ h) in
    rw apart
word-inside (x ∷ w) (c ∷ p) r h e = rw (word-inside w p r (and_right (not (eqb x 60)) _ h) e)

-- no part of a reference begins `]]>`
over-reference : (n : Name) (ps : List Part) → is_entity n ≡ true
    → (occurs (93 ∷ 93 ∷ 62 ∷ []) (print_parts (reference n ∷ ps)) ≡ occurs (93 ∷ 93 ∷ 62 ∷ []) (print_parts ps))
    × (every blank (print_parts (reference n ∷ ps)) ≡ false)
unfolding occurs starts_with print_many print_part every blank
over-reference n ps h =
    entity-cases n h (λ e. is e (refl, refl)) (λ e. is e (refl, refl)) (λ e. is e (refl, refl)) (λ e. is e (refl, refl)) (λ e. is e (refl, refl))
  where
    is : {w : Name} → n ≡ w
        → (occurs (93 ∷ 93 ∷ 62 ∷ []) (print_parts (reference w ∷ ps)) ≡ occurs (93 ∷ 93 ∷ 62 ∷ []) (print_parts ps)) × (every blank (print_parts (reference w ∷ ps)) ≡ false)
        → (occurs (93 ∷ 93 ∷ 62 ∷ []) (print_parts (reference n ∷ ps)) ≡ occurs (93 ∷ 93 ∷ 62 ∷ []) (print_parts ps)) × (every blank (print_parts (reference n ∷ ps)) ≡ false)
    is e h = rw e h

reference-of : (total : ℕ) (some all : Bool) (n : Name) (m : Read (List Part)) → is_entity n ≡ true
    → text_of total some all (then_read m (λ ps r. got (reference n ∷ ps) r)) ≡ text_of total true false m
reference-of total some all n fail h = refl
reference-of total some all n (got ps r) h =
    let (o, b) = over-reference n ps h in
    rw (o, b, or-true some, and-false all)

no_less : every (λ b. not (eqb b 60)) (93 ∷ 93 ∷ 62 ∷ []) ≡ true
unfolding every
no_less = refl

-- whether `]]>` stands at the front of a text, by the bytes from there on
front-word : (b : ℕ) (l p r : List ℕ) → p ++ r ≡ l → text_ends r ≡ true → starts_with (93 ∷ 93 ∷ 62 ∷ []) (b ∷ p) ≡ starts_with (93 ∷ 93 ∷ 62 ∷ []) (b ∷ l)
front-word b l p r e t =
    sym (word-inside (93 ∷ 93 ∷ 62 ∷ []) (b ∷ p) r no_less t) ∙ ap (λ (x : List ℕ). starts_with (93 ∷ 93 ∷ 62 ∷ []) (b ∷ x)) e

plain_of : (total : ℕ) (some all : Bool) (b : ℕ) (l : List ℕ) (m : Read (List Part))
    → WhenRead (λ ps r. print_parts ps ++ r ≡ l) m → starts_with (93 ∷ 93 ∷ 62 ∷ []) (b ∷ l) ≡ false
    → text_of total some all (then_read m (λ ps r. got (plain b ∷ ps) r)) ≡ text_of total true (all && blank b) m
unfolding print_many print_part occurs every
plain_of total some all b l fail h f = refl
plain_of total some all b l (got ps r) h f =
    cases (text_ends r)
    (λ t.
    let none : starts_with (93 ∷ 93 ∷ 62 ∷ []) (b ∷ print_parts ps) ≡ false = front-word b l (print_parts ps) r (holds-got h) t ∙ f in
    rw (none, or-true some, and_assoc all (blank b) (every blank (print_parts ps))))
    (λ t. rw (
      t,
      or-true some,
      and-false (not (starts_with (93 ∷ 93 ∷ 62 ∷ []) (b ∷ print_parts ps) || occurs (93 ∷ 93 ∷ 62 ∷ []) (print_parts ps))),
      and-false (not (occurs (93 ∷ 93 ∷ 62 ∷ []) (print_parts ps))),
    ))

section-of : (total : ℕ) (some all : Bool) (b : ℕ) (l : List ℕ) (m : Read (List Part))
    → WhenRead (λ ps r. print_parts ps ++ r ≡ l) m → starts_with (93 ∷ 93 ∷ 62 ∷ []) (b ∷ l) ≡ true
    → text_of total some all (then_read m (λ ps r. got (plain b ∷ ps) r)) ≡ None
unfolding print_many print_part occurs every
section-of total some all b l fail h f = refl
section-of total some all b l (got ps r) h f =
    cases (text_ends r)
    (λ t.
    let there : starts_with (93 ∷ 93 ∷ 62 ∷ []) (b ∷ print_parts ps) ≡ true = front-word b l (print_parts ps) r (holds-got h) t ∙ f in
    rw (there, or-true some))
    (λ t. rw (t, or-true some, and-false (not (starts_with (93 ∷ 93 ∷ 62 ∷ []) (b ∷ print_parts ps) || occurs (93 ∷ 93 ∷ 62 ∷ []) (print_parts ps)))))

-- a text that ends here: at `<` or the end it is one if it has a part, elsewhere it is none
stopped : (total : ℕ) (some all : Bool) (r : List ℕ) → text_ends r ≡ true → text_of total some all (got [] r) ≡ cond some (ended all (total - length r)) None
unfolding occurs starts_with print_many every
stopped total some all r t = rw (t, or-false some, and-true some, and-true all)

unstopped : (total : ℕ) (some all : Bool) (r : List ℕ) → text_ends r ≡ false → text_of total some all (got [] r) ≡ None
unfolding occurs starts_with print_many every
unstopped total some all r t = rw (t, and-false (some || false))

less-no-text : (b : ℕ) → b ≡ 60 → in_text b ≡ false
unfolding in_text listed
less-no-text b e = ap in_text e

high-text : (b : ℕ) → 94 ≤ b → in_text b ≡ leb b 126
high-text b h = text-last b (λ e. omega arith) (λ e. omega arith) ∙ listed-high b (omega arith)

-- a blank
blank-free : (b : ℕ) → blank b ≡ true → (b ≡ 38 → ⊥) × (b ≡ 93 → ⊥) × (in_text b ≡ true)
unfolding blank in_text listed
blank-free b h =
    ⊎_elim (λ h₂. ⊎_elim (λ h₃. ⊎_elim is₉ is₁₀ (either (eqb b 9) (eqb b 10) h₃)) is₁₃ (either (eqb b 9 || eqb b 10) (eqb b 13) h₂)) is₃₂ (either (eqb b 9 || eqb b 10 || eqb b 13) (eqb b 32) h)
  where
    is₉ : eqb b 9 ≡ true → (b ≡ 38 → ⊥) × (b ≡ 93 → ⊥) × (in_text b ≡ true)
    is₉ t = let e = eqb-true b 9 t in (λ x. omega arith, λ x. omega arith, ap in_text e)

    is₁₀ : eqb b 10 ≡ true → (b ≡ 38 → ⊥) × (b ≡ 93 → ⊥) × (in_text b ≡ true)
    is₁₀ t = let e = eqb-true b 10 t in (λ x. omega arith, λ x. omega arith, ap in_text e)

    is₁₃ : eqb b 13 ≡ true → (b ≡ 38 → ⊥) × (b ≡ 93 → ⊥) × (in_text b ≡ true)
    is₁₃ t = let e = eqb-true b 13 t in (λ x. omega arith, λ x. omega arith, ap in_text e)

    is₃₂ : eqb b 32 ≡ true → (b ≡ 38 → ⊥) × (b ≡ 93 → ⊥) × (in_text b ≡ true)
    is₃₂ t = let e = eqb-true b 32 t in (λ x. omega arith, λ x. omega arith, ap in_text e)

module _ (s : List ℕ) (some all : Bool) (i : ℕ) where
  pub text-less : i < length s → get_or s i 0 ≡ 60 → text_from s some all i ≡ cond some (ended all i) None
  text-less h e =
      ap (text_of (length s) some all) (plain-none in_text s i h (omega arith) (less-no-text (get_or s i 0) e))
      ∙ stopped (length s) some all (drop i s) (rw (drop-cons s i 0 h) (eq-eqb (get_or s i 0) 60 e))
      ∙ ap (λ (x : ℕ). cond some (ended all x) None) (omega (arith, length-drop i s))

  pub text-end : length s ≤ i → text_from s some all i ≡ cond some (ended all (length s)) None
  unfolding read_up_to
  text-end h =
      rw (drop_of_length-le s h)
      (stopped (length s) some all [] refl ∙ ap (λ (x : ℕ). cond some (ended all x) None) (omega arith))

  pub text-foreign : i < length s → (get_or s i 0 ≡ 60 → ⊥) → (get_or s i 0 ≡ 38 → ⊥) → in_text (get_or s i 0) ≡ false → text_from s some all i ≡ None
  text-foreign h l n f =
      ap (text_of (length s) some all) (plain-none in_text s i h n f)
      ∙ unstopped (length s) some all (drop i s) (rw (drop-cons s i 0 h) (ne_eqb (get_or s i 0) 60 l))

  pub text-amp-no : i < length s → get_or s i 0 ≡ 38 → reach read_reference s (i + 1) ≡ None → text_from s some all i ≡ None
  text-amp-no h a e = ap (text_of (length s) some all) (amp-none in_text s i h a (reach-no read_reference s (i + 1) e))

  pub text-amp : i < length s → get_or s i 0 ≡ 38 → (e : ℕ) → reach read_reference s (i + 1) ≡ Some e → text_from s some all i ≡ text_from s true false e
  text-amp h a e k =
      let (n, is, low, high) = reached s (i + 1) read_reference e reference-suffix k in
      let entity : is_entity n ≡ true = (holds-got (rw is at (reference-sound (drop (i + 1) s)))).0 in
      ap (text_of (length s) some all) (amp-got in_text s i h a is) ∙ reference-of (length s) some all n (read_parts in_text (drop e s)) entity

  rest-sound : WhenRead (λ ps r. print_parts ps ++ r ≡ drop (i + 1) s) (read_parts in_text (drop (i + 1) s))
  rest-sound = holds-map (many-sound (part_sound in_text) (drop (i + 1) s)) (λ ps r g. g.1)

  pub text-section : i < length s → (get_or s i 0 ≡ 38 → ⊥) → in_text (get_or s i 0) ≡ true → starts_with (93 ∷ 93 ∷ 62 ∷ []) (drop i s) ≡ true
      → text_from s some all i ≡ None
  text-section h n t w =
      let here : starts_with (93 ∷ 93 ∷ 62 ∷ []) (get_or s i 0 ∷ drop (i + 1) s) ≡ true = rw (add-one i, ← drop-cons s i 0 h) w in
      ap (text_of (length s) some all) (plain-got in_text s i h n t) ∙ section-of (length s) some all (get_or s i 0) (drop (i + 1) s) _ rest-sound here

  pub text-plain : i < length s → (get_or s i 0 ≡ 38 → ⊥) → in_text (get_or s i 0) ≡ true → starts_with (93 ∷ 93 ∷ 62 ∷ []) (drop i s) ≡ false
      → text_from s some all i ≡ text_from s true (all && blank (get_or s i 0)) (i + 1)
  text-plain h n t w =
      let here : starts_with (93 ∷ 93 ∷ 62 ∷ []) (get_or s i 0 ∷ drop (i + 1) s) ≡ false = rw (add-one i, ← drop-cons s i 0 h) w in
      ap (text_of (length s) some all) (plain-got in_text s i h n t) ∙ plain_of (length s) some all (get_or s i 0) (drop (i + 1) s) _ rest-sound here

  -- a byte that begins no reference and no `]]>`
  pub text-free : i < length s → (get_or s i 0 ≡ 38 → ⊥) → (get_or s i 0 ≡ 93 → ⊥) → in_text (get_or s i 0) ≡ true
      → text_from s some all i ≡ text_from s true (all && blank (get_or s i 0)) (i + 1)
  text-free h n m t = text-plain h n t (begins-other 93 (93 ∷ 62 ∷ []) s i h m)

  -- a byte from 94 on, by whether it is listed
  pub text-high : i < length s → 94 ≤ get_or s i 0 → get_or s i 0 ≤ 126 → text_from s some all i ≡ text_from s true (all && blank (get_or s i 0)) (i + 1)
  text-high h l k = text-free h (λ e. omega arith) (λ e. omega arith) (high-text (get_or s i 0) l ∙ le-leb (get_or s i 0) 126 k)

  pub text-high-no : i < length s → 94 ≤ get_or s i 0 → 126 < get_or s i 0 → text_from s some all i ≡ None
  text-high-no h l k = text-foreign h (λ e. omega arith) (λ e. omega arith) (high-text (get_or s i 0) l ∙ lt-leb (get_or s i 0) 126 k)

  pub text-blank : i < length s → blank (get_or s i 0) ≡ true → text_from s some all i ≡ text_from s true all (i + 1)
  text-blank h e =
      let (n, m, t) = blank-free (get_or s i 0) e in
      text-free h n m t ∙ ap (λ (b : Bool). text_from s true b (i + 1)) (ap (◌&&◌ all) e ∙ and-true all)

-- where a byte that is not blank stands, it tells that the text is not blank, whatever was before it
text-marked : (s : List ℕ) (some all : Bool) (i : ℕ) → i < length s → (get_or s i 0 ≡ 60 → ⊥) → blank (get_or s i 0) ≡ false
    → text_from s some all i ≡ text_from s some false i
text-marked s some all i h l f =
    cases (eqb (get_or s i 0) 38) (λ t. amp (eqb-true (get_or s i 0) 38 t) (reach read_reference s (i + 1)) refl) (λ t. plain (eqb-false (get_or s i 0) 38 t))
  where
    amp : get_or s i 0 ≡ 38 → (m : Option ℕ) → reach read_reference s (i + 1) ≡ m → text_from s some all i ≡ text_from s some false i
    amp a None e = text-amp-no s some all i h a e ∙ sym (text-amp-no s some false i h a e)
    amp a (Some k) e = text-amp s some all i h a k e ∙ sym (text-amp s some false i h a k e)

    plain : (get_or s i 0 ≡ 38 → ⊥) → text_from s some all i ≡ text_from s some false i
    plain n =
        cases (in_text (get_or s i 0))
        (λ ok. cases (starts_with (93 ∷ 93 ∷ 62 ∷ []) (drop i s))
        (λ w. text-section s some all i h n ok w ∙ sym (text-section s some false i h n ok w))
        (λ w. text-plain s some all i h n ok w ∙ ap (λ (b : Bool). text_from s true b (i + 1)) (ap (◌&&◌ all) f ∙ and-false all) ∙ sym (text-plain s some false i h n ok w)))
        (λ off. text-foreign s some all i h l n off ∙ sym (text-foreign s some false i h l n off))

-- a text that began at an offset, from another on
module _ (s : List ℕ) (at i : ℕ) (begun : at ≤ i) where
  -- past the offset it has a part
  later : (all : Bool) (e : ℕ) → i < e → text_from s true all e ≡ text_on s at all e
  unfolding text_on
  later all e h = ap (λ (t : Bool). text_from s t all e) (sym (lt-ltb at e (omega arith)))

  module _ (h : i < length s) where
    pub on-less : (all : Bool) → get_or s i 0 ≡ 60 → text_on s at all i ≡ text_found at i (text_kind all)
    unfolding text_on
    on-less all e = text-less s (ltb at i) all i h e

    pub on-high : 94 ≤ get_or s i 0 → get_or s i 0 ≤ 126 → text_on s at false i ≡ text_on s at false (i + 1)
    unfolding text_on
    on-high l k = text-high s (ltb at i) false i h l k ∙ later false (i + 1) (omega arith)

    pub on-high-no : 94 ≤ get_or s i 0 → 126 < get_or s i 0 → text_on s at false i ≡ None
    unfolding text_on
    on-high-no l k = text-high-no s (ltb at i) false i h l k

    pub on-amp-no : get_or s i 0 ≡ 38 → reach read_reference s (i + 1) ≡ None → text_on s at false i ≡ None
    unfolding text_on
    on-amp-no a e = text-amp-no s (ltb at i) false i h a e

    pub on-amp : get_or s i 0 ≡ 38 → (e : ℕ) → reach read_reference s (i + 1) ≡ Some e → text_on s at false i ≡ text_on s at false e
    unfolding text_on
    on-amp a e k = text-amp s (ltb at i) false i h a e k ∙ later false e (reference-past s i e h k)

    module _ (l : get_or s i 0 ≡ 60 → ⊥) (n : get_or s i 0 ≡ 38 → ⊥) where
      pub on-foreign : in_text (get_or s i 0) ≡ false → text_on s at false i ≡ None
      unfolding text_on
      on-foreign f = text-foreign s (ltb at i) false i h l n f

      module _ (t : in_text (get_or s i 0) ≡ true) where
        -- `]`, by the two bytes behind it
        module _ (square : get_or s i 0 ≡ 93) where
          section : starts_with (93 ∷ 93 ∷ 62 ∷ []) (drop i s) ≡ (has_byte s (i + 1) 93 && has_byte s (i + 2) 62)
          unfolding starts_with
          section =
              let two : i + 1 + 1 ≡ i + 2 = omega arith in
              begins-here 93 (93 ∷ 62 ∷ []) s i h square ∙ by_byte s (i + 1) 93 (62 ∷ [])
              ∙ ap (◌&&◌ (has_byte s (i + 1) 93)) (ap (λ (n : ℕ). starts_with (62 ∷ []) (drop n s)) two ∙ by_byte s (i + 2) 62 [] ∙ and-true (has_byte s (i + 2) 62))

          unclosed : starts_with (93 ∷ 93 ∷ 62 ∷ []) (drop i s) ≡ false → text_on s at false i ≡ text_on s at false (i + 1)
          unfolding text_on
          unclosed w = text-plain s (ltb at i) false i h n t w ∙ later false (i + 1) (omega arith)

          pub on-section : has_byte s (i + 1) 93 ≡ true → has_byte s (i + 2) 62 ≡ true → text_on s at false i ≡ None
          unfolding text_on
          on-section x y = text-section s (ltb at i) false i h n t (section ∙ rw (x, y))

          pub on-square : has_byte s (i + 1) 93 ≡ false → text_on s at false i ≡ text_on s at false (i + 1)
          on-square x = unclosed (section ∙ rw x)

          pub on-squares : has_byte s (i + 2) 62 ≡ false → text_on s at false i ≡ text_on s at false (i + 1)
          on-squares y = unclosed (section ∙ rw y (and-false (has_byte s (i + 1) 93)))

        pub on-plain : (get_or s i 0 ≡ 93 → ⊥) → text_on s at false i ≡ text_on s at false (i + 1)
        unfolding text_on
        on-plain m = text-free s (ltb at i) false i h n m t ∙ later false (i + 1) (omega arith)

    on-blank : blank (get_or s i 0) ≡ true → text_on s at true i ≡ text_on s at true (i + 1)
    unfolding text_on
    on-blank e = text-blank s (ltb at i) true i h e ∙ later true (i + 1) (omega arith)

  pub on-end : (all : Bool) → length s ≤ i → i ≤ length s → text_on s at all i ≡ text_found at i (text_kind all)
  unfolding text_on
  on-end all h k =
      let here : length s ≡ i = omega arith in
      text-end s (ltb at i) all i h ∙ ap (λ (n : ℕ). cond (ltb at i) (ended all n) None) here

-- blanks leave a text blank so far
over_blanks : (s : List ℕ) (at n i : ℕ) → length s ≤ n + i → at ≤ i → i ≤ length s → text_on s at true i ≡ text_on s at true (blanks_to s i)
over_blanks s at zero i h k m = ap (text_on s at true) (sym (blanks-end s i (omega arith) ∙ omega arith))
over_blanks s at (suc n) i h k m =
    cases (ltb i (length s))
    (λ t.
    let inside : i < length s = ltb-true i (length s) t in
    cases (blank (get_or s i 0))
    (λ x. on-blank s at i k inside x ∙ over_blanks s at n (i + 1) (omega arith) (omega arith) (omega arith) ∙ ap (text_on s at true) (sym (blanks-yes s i inside x)))
    (λ x. ap (text_on s at true) (sym (blanks-no s i inside x))))
    (λ f. ap (text_on s at true) (sym (blanks-end s i (ltb-false i (length s) f) ∙ omega (arith, ltb-false i (length s) f))))

module _ (s : List ℕ) (at i : ℕ) (is : i ≡ blanks_to s at) where
  abbrev TextAt : Option Found
  TextAt = found_of (length s) at (read_text (drop at s))

  begun : at ≤ length s → TextAt ≡ text_on s at true i
  unfolding text_on
  begun h =
      let none : ltb at at ≡ false = le-ltb at at (omega arith) in
      text-start s at ∙ ap (λ (t : Bool). text_from s t true at) (sym none)
      ∙ over_blanks s at (length s) at (omega arith) (omega arith) h ∙ ap (text_on s at true) (sym is)

  at-most : i ≤ length s
  at-most = omega (arith, is)

  pub opens-low : i < length s → at ≤ i
  opens-low h = rw is (blanks-low s at (rw is at h))

  pub opens-less : i < length s → get_or s i 0 ≡ 60 → TextAt ≡ text_found at i Blank
  opens-less h e =
      let low : at ≤ i = opens-low h in
      begun (omega arith) ∙ on-less s at i low h true e

  pub opens-end : length s ≤ i → TextAt ≡ text_found at i Blank
  unfolding read_text read_up_to
  opens-end h =
      cases (ltb at (length s))
      (λ t.
      let inside : at < length s = ltb-true at (length s) t in
      begun (omega arith) ∙ on-end s at i (omega arith) true h at-most)
      (λ f. rw (drop_of_length-le s (ltb-false at (length s) f), le-ltb at i (omega (arith, at-most, ltb-false at (length s) f))))

  pub opens-other : i < length s → (get_or s i 0 ≡ 60 → ⊥) → TextAt ≡ text_on s at false i
  unfolding text_on
  opens-other h l =
      let low : at ≤ i = opens-low h in
      begun (omega arith) ∙ text-marked s (ltb at i) true i h l (rw is (blanks-stop s at (rw is at h)))

-- by the byte there
pub ruleset texts = (reference-past, reference-within, on-less, on-high, on-high-no, on-amp-no, on-amp, on-foreign, on-section, on-square, on-squares, on-plain, on-end)

pub ruleset text_starts = (opens-low, opens-less, opens-end, opens-other)
