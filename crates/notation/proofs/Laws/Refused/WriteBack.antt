-- Writing back: a part that a text was read into is written as that text, byte for byte, and reading what was written gives the same part.
use Prim.Native.Nat.{ℕ, ◌+◌, ◌≤◌, ◌<◌}
use native.Mathlib.Nat.{zero-add}
use native.Mathlib.Omega.{arith}
use mathlib.Core.Path.{◌≡◌, refl, subst, ◌∙◌}
use mathlib.Core.Bool.{◌&&◌}
use mathlib.Core.List.{List, ◌++◌}
use lib.Dec.{leb}
use lib.ListN.{length, take, drop, length-take}
use lib.Seq.{take_at, sets-eq}
use borrow.Author.Tests.{lt-ltb, le-ltb, leb-true}
use Rattle.notation.specs.Limits.{max_set_bytes}
use Rattle.notation.specs.Sets.{FolderSet}
use Rattle.notation.specs.Accepted.{Accepted}
use Rattle.notation.specs.Judged.{accepts}
use Rattle.notation.specs.Layout.{set_size, set_part}
use Rattle.notation.specs.Reads.{text_of, text_slice, text_len}
use Rattle.notation.specs.ReadSet.{ReadSet}
use Rattle.text.specs.declared.refusals.Refusal.TheVariants.{ShortBuffer}
use Rattle.text.specs.Refusals.{number_of}
use Rattle.std.specs.Prelude.{Result}
use Rattle.text.specs.Answers.{value, says}
use Rattle.text.specs.Order.{first, given}
use Rattle.notation.specs.WriteText.{WriteText, text_conditions}
use Rattle.text.specs.declared.refusals.Refusal.{Refusal}
use Rattle.text.proofs.Laws.Tests.{cases, and_right}
use Rattle.notation.proofs.Laws.Refused.AcceptedSet.{text-back}
use Rattle.text.proofs.Laws.Output.{refused-with, same_order}

module _ (text : List ℕ) (s : FolderSet) (a : Accepted text s) (rest : List ℕ) where
  pub written-short : (out : List ℕ) → length out < length text → given (text_conditions (set_part s ++ rest) out) ≡ number_of ShortBuffer
  unfolding given first
  written-short out h = rw (text-back text s a rest, lt-ltb (length out) (length text) h)

  pub written-fits : (out : List ℕ) → length text ≤ length out → given (text_conditions (set_part s ++ rest) out) ≡ 0
  unfolding given first
  written-fits out h = rw (text-back text s a rest, le-ltb (length out) (length text) h)

  module _ (answer : Result ℕ Refusal) (out after : List ℕ) (room : length text ≤ length out) (w : WriteText (set_part s ++ rest) out answer after) where
    pub written-length : says answer ≡ value (length text)
    written-length = w.answers ∙ rw (written-fits out room, text-back text s a rest)

    pub written-buffer : after ≡ text ++ drop (length text) out
    written-buffer =
        let fits : 0 + length text ≤ length out = omega arith in
        w.leaves ∙ rw (written-fits out room, text-back text s a rest) (sets-eq text out 0 fits ∙ rw (zero-add (length text)))

    -- the same bytes
    pub written_same : take (length text) after ≡ text
    written_same = rw written-buffer (take_at text (drop (length text) out) (length text) refl)

    -- and read again they give the same part
    pub again-same : (again part : List ℕ) (number : ℕ) → set_size ≤ length again → ReadSet (take (length text) after) again number part
        → (number ≡ 0) × (part ≡ set_part s ++ drop set_size again)
    again-same again part number h t = (subst (λ (l : List ℕ). ReadSet l again number part) written_same t).judged h (accepts s) a

-- a stored text of any part is within the limit, so a buffer of that many bytes is never too short
pub text-within : (part : List ℕ) → length (text_of part) ≤ max_set_bytes
unfolding text_slice
text-within part =
    cases (leb set_size (length part) && leb (0 + text_len part) max_set_bytes)
    (λ y.
    let few : 0 + text_len part ≤ max_set_bytes = leb-true (0 + text_len part) max_set_bytes (and_right (leb set_size (length part)) (leb (0 + text_len part) max_set_bytes) y) in
    rw (y, length-take) (omega arith))
    (λ n. rw n (omega arith))

pub ruleset written_back = (refused-with, same_order, text-within)
