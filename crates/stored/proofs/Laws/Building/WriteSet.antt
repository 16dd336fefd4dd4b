-- Writing a built automaton's set back: the bytes are those of the set's text, and a build of them gives the same automaton.
use Prim.Native.Nat.{ℕ, ◌≤◌}
use native.Mathlib.Omega.{arith}
use mathlib.Core.Path.{◌≡◌, refl, ◌∙◌, subst}
use mathlib.Core.List.{List, ◌++◌}
use lib.ListN.{length, take, drop}
use lib.Seq.{take_at, drop_at}
use borrow.Author.Tests.{le-ltb}
use Rattle.notation.specs.Limits.{max_set_bytes}
use Rattle.notation.specs.Sets.{FolderSet}
use Rattle.std.specs.Prelude.{Result}
use Rattle.text.specs.Answers.{value, says}
use Rattle.notation.specs.Accepted.{Accepted}
use Rattle.notation.specs.Judged.{accepts}
use Rattle.notation.specs.Reads.{text_of}
use Rattle.notation.proofs.Laws.Refused.Fitting.{Fitting}
use Rattle.notation.proofs.Laws.Refused.AcceptedSet.{accepted-fits}
use Rattle.notation.proofs.Laws.Stored.Reads.{text-read}
use Rattle.stored.specs.Automaton.{automaton_size, all_labels, heads, links, masks, start_state, automaton_of}
use Rattle.text.specs.Order.{first, given}
use Rattle.stored.specs.Build.{Built, SetWritten, write_conditions}
use Rattle.text.specs.declared.refusals.Refusal.{Refusal}
use Rattle.stored.proofs.Laws.Tables.SetReads.{of-set}
use Rattle.stored.proofs.Laws.Shapes.BuiltShape.{built-shaped, built-grows}
use Rattle.text.proofs.Laws.Output.{written-whole}

module _ (text : List ℕ) (s : FolderSet) (acc : Accepted text s) (rest : List ℕ) where
  fit : Fitting s
  fit = accepted-fits text s acc

  stored-text : text_of (automaton_of s ++ rest) ≡ text
  unfolding automaton_of
  stored-text = of-set s fit (heads (all_labels s)) (links s) (masks s) (start_state s) rest (λ a. text_of a ≡ text) (λ more. text-read s fit more ∙ acc.prints)

  text-short : length text ≤ max_set_bytes
  text-short = rw (← acc.prints) fit.bytes

  module _ (out : List ℕ) (room : max_set_bytes ≤ length out) where
    none-refused : given (write_conditions (automaton_of s ++ rest) out) ≡ 0
    unfolding given first
    none-refused =
        rw (
          le-ltb (length (automaton_of s ++ rest)) automaton_size (built-grows s fit acc.paths rest).room,
          le-ltb (length out) max_set_bytes room,
          built-shaped s acc rest,
        )

    module _ (answer : Result ℕ Refusal) (after : List ℕ) (w : SetWritten (automaton_of s ++ rest) out answer after) where
      -- the text's length
      pub written-length : says answer ≡ value (length text)
      written-length = (written-whole text out answer none-refused (omega (arith, text-short)) (rw stored-text at w.answers) (rw stored-text at w.leaves)).0

      written-bytes : after ≡ text ++ drop (length text) out
      written-bytes = (written-whole text out answer none-refused (omega (arith, text-short)) (rw stored-text at w.answers) (rw stored-text at w.leaves)).1

      -- its bytes, and those past it as they were
      pub written-text : take (length text) after ≡ text
      written-text = rw written-bytes (take_at text (drop (length text) out) (length text) refl)

      pub written-rest : drop (length text) after ≡ drop (length text) out
      written-rest = rw written-bytes (drop_at text (drop (length text) out) (length text) refl)

      -- a build of them gives the same automaton
      pub built-again : (before final : List ℕ) (r : ℕ) → automaton_size ≤ length before → Built (take (length text) after) before r final
          → (r ≡ 0) × (final ≡ automaton_of s ++ drop automaton_size before)
      built-again before final r h b = (subst (λ (l : List ℕ). Built l before r final) written-text b).judged h (accepts s) acc
