-- Comments from an offset, byte by byte.
use Prim.Native.Nat.{ℕ, ◌+◌, ◌≤◌, ◌<◌}
use native.Mathlib.Omega.{arith}
use mathlib.Core.Path.{◌≡◌, refl, sym, ap, ◌∙◌}
use mathlib.Core.Bool.{Bool, true, false, ◌&&◌, cond, and-true, and-false}
use mathlib.Core.List.{List, [], ◌∷◌}
use lib.ListN.{length, get_or, drop, length-drop, drop_of_length-le}
use lib.Seq.{get_or-drop, drop-drop}
use native.Mathlib.Nat.{add-zero}
use borrow.Author.Tests.{lt-ltb, eq-eqb}
use Rattle.std.proofs.Common.{None, Some}
use Rattle.text.proofs.Laws.Reads.{word-is, word_fits}
use Rattle.text.proofs.Laws.Scans.{begins-other}
use Rattle.reports.specs.declared.tokens.Kind.TheVariants.{Comment}
use Rattle.documents.specs.Tokens.{listed, comment}
use Rattle.text.specs.Read.{starts_with, Read, fail, got, then_read, when, read_word}
use Rattle.documents.specs.Reading.{read_contents, read_comment}
use Rattle.reports.specs.Code.Reaches.{reach_of, reach}
use Rattle.reports.specs.Seen.{found_of}
use Rattle.reports.specs.Code.Seen.{has_byte}
use Rattle.reports.proofs.Laws.Read.Words.{by_byte}
use Rattle.reports.proofs.Laws.Read.Reaches.{never, reach-map}

contents-open : (l : List ℕ) → 1 ≤ length l
    → read_contents l
    ≡ cond (starts_with (45 ∷ 45 ∷ []) l) (then_read (read_word (45 ∷ 45 ∷ 62 ∷ []) l) (λ w r. got [] r))
    (when (listed (get_or l 0 0)) (then_read (read_contents (drop 1 l)) (λ c r. got (get_or l 0 0 ∷ c) r)))
unfolding read_contents
contents-open [] h = absurd (omega arith)
contents-open (b ∷ l) h = refl

module _ (s : List ℕ) (i : ℕ) (h : i < length s) where
  open_at : read_contents (drop i s)
      ≡ cond (starts_with (45 ∷ 45 ∷ []) (drop i s)) (then_read (read_word (45 ∷ 45 ∷ 62 ∷ []) (drop i s)) (λ w r. got [] r))
      (when (listed (get_or s i 0)) (then_read (read_contents (drop (i + 1) s)) (λ c r. got (get_or s i 0 ∷ c) r)))
  open_at =
      contents-open (drop i s) (omega (arith, length-drop i s))
      ∙ rw (get_or-drop i s 0 0, add-zero i, drop-drop 1 i s)

  -- how far the contents go, by the bytes there
  module _ (dash : get_or s i 0 ≡ 45) (more : has_byte s (i + 1) 45 ≡ true) where
    dashes : (w : List ℕ) → starts_with (45 ∷ 45 ∷ w) (drop i s) ≡ starts_with w (drop (i + 2) s)
    unfolding starts_with
    dashes w =
        let one : has_byte s i 45 ≡ true = rw (lt-ltb i (length s) h, eq-eqb (get_or s i 0) 45 dash) in
        let two : i + 1 + 1 ≡ i + 2 = omega arith in
        by_byte s i 45 (45 ∷ w) ∙ rw one (by_byte s (i + 1) 45 w ∙ rw (more, two))

    closes : (t : Bool) → has_byte s (i + 2) 62 ≡ t → starts_with (45 ∷ 45 ∷ 62 ∷ []) (drop i s) ≡ t
    unfolding starts_with
    closes t e = dashes (62 ∷ []) ∙ by_byte s (i + 2) 62 [] ∙ rw (e, and-true)

    pub close-to : has_byte s (i + 2) 62 ≡ true → reach read_contents s i ≡ Some (i + 3)
    unfolding reach starts_with
    close-to e =
        let g = closes true e in
        rw (open_at, dashes [], word-is (45 ∷ 45 ∷ 62 ∷ []) (drop i s), g)
        (ap Some (omega (arith, word_fits (45 ∷ 45 ∷ 62 ∷ []) s i (omega arith) g, length-drop 3 (drop i s), length-drop i s)))

    pub close-no : has_byte s (i + 2) 62 ≡ false → reach read_contents s i ≡ None
    unfolding reach starts_with
    close-no e = rw (open_at, dashes [], word-is (45 ∷ 45 ∷ 62 ∷ []) (drop i s), closes false e)

  pub no_dash : (get_or s i 0 ≡ 45 → ⊥) → starts_with (45 ∷ 45 ∷ []) (drop i s) ≡ false
  no_dash n = begins-other 45 (45 ∷ []) s i h n

  pub no_dashes : has_byte s (i + 1) 45 ≡ false → starts_with (45 ∷ 45 ∷ []) (drop i s) ≡ false
  no_dashes e = by_byte s i 45 (45 ∷ []) ∙ ap (λ (t : Bool). has_byte s i 45 && t) (by_byte s (i + 1) 45 [] ∙ rw e) ∙ and-false (has_byte s i 45)

  pub foreign : starts_with (45 ∷ 45 ∷ []) (drop i s) ≡ false → listed (get_or s i 0) ≡ false → reach read_contents s i ≡ None
  unfolding reach
  foreign d g = rw (open_at, d, g)

  pub onwards : starts_with (45 ∷ 45 ∷ []) (drop i s) ≡ false → listed (get_or s i 0) ≡ true → reach read_contents s i ≡ reach read_contents s (i + 1)
  unfolding reach
  onwards d g = ap (reach_of (length s)) open_at ∙ rw (d, g) (reach-map (length s) (read_contents (drop (i + 1) s)) (λ c. get_or s i 0 ∷ c))

pub unclosed : (s : List ℕ) (i : ℕ) → length s ≤ i → reach read_contents s i ≡ None
unfolding reach read_contents
unclosed s i h = rw (drop_of_length-le s h)

found-no : (total at : ℕ) (m : Read (List ℕ)) → reach_of total m ≡ None → found_of total at (then_read m (λ c r. got (comment c) r)) ≡ None
found-no total at fail e = refl
found-no total at (got c r) e = never (sym e)

found-to : (total at e : ℕ) (m : Read (List ℕ)) → reach_of total m ≡ Some e
    → found_of total at (then_read m (λ c r. got (comment c) r)) ≡ Some (record { kind = Comment; end = e })
found-to total at e fail k = never k
found-to total at e (got c r) k = cc

module _ (s : List ℕ) (at : ℕ) where
  pub comment-off : starts_with (45 ∷ 45 ∷ []) (drop (at + 2) s) ≡ false → found_of (length s) at (read_comment (drop (at + 2) s)) ≡ None
  unfolding read_comment
  comment-off f = rw (word-is (45 ∷ 45 ∷ []) (drop (at + 2) s), f)

  module _ (t : starts_with (45 ∷ 45 ∷ []) (drop (at + 2) s) ≡ true) where
    opened : read_comment (drop (at + 2) s) ≡ then_read (read_contents (drop (at + 2 + 2) s)) (λ c r. got (comment c) r)
    unfolding read_comment
    opened = rw (word-is (45 ∷ 45 ∷ []) (drop (at + 2) s), t, drop-drop 2 (at + 2) s)

    pub comment-no : reach read_contents s (at + 2 + 2) ≡ None → found_of (length s) at (read_comment (drop (at + 2) s)) ≡ None
    unfolding reach
    comment-no e = ap (found_of (length s) at) opened ∙ found-no (length s) at (read_contents (drop (at + 2 + 2) s)) e

    pub comment-to : (e : ℕ) → reach read_contents s (at + 2 + 2) ≡ Some e
        → found_of (length s) at (read_comment (drop (at + 2) s)) ≡ Some (record { kind = Comment; end = e })
    unfolding reach
    comment-to e k = ap (found_of (length s) at) opened ∙ found-to (length s) at e (read_contents (drop (at + 2 + 2) s)) k

-- by the bytes there
pub ruleset contents = (close-to, close-no, no_dash, no_dashes, foreign, onwards, unclosed)

pub ruleset comments = (comment-off, comment-no, comment-to)
