-- A build: the three returns of the code, and each number exactly on its condition.
use Prim.Native.Nat.{ℕ, ◌≤◌, ◌<◌}
use native.Mathlib.Omega.{arith}
use mathlib.Core.Path.{◌≡◌, refl, sym, ap, ◌∙◌}
use mathlib.Core.Logic.{◌↔◌}
use mathlib.Core.List.{List, ◌++◌}
use lib.ListN.{length, drop}
use Rattle.text.specs.declared.refusals.Refusal.{Refusal}
use Rattle.text.specs.declared.refusals.Refusal.TheVariants.{ShortBuffer}
use Rattle.text.specs.Refusals.{number_of}
use Rattle.notation.specs.Sets.{FolderSet}
use Rattle.notation.specs.Accepted.{Accepted}
use Rattle.notation.specs.Judged.{RefusedText, Verdict, refuses, accepts, Judged, verdict_number}
use Rattle.notation.specs.Layout.{set_size}
use Rattle.notation.specs.ReadSet.{ReadSet, read_into}
use Rattle.text.proofs.Laws.Numbers.{some_number}
use Rattle.notation.proofs.Laws.Refused.Judging.{some-verdict}
use Rattle.notation.proofs.Laws.Refused.Answers.{short-is, refused-is, accepted-is}
use Rattle.stored.specs.Automaton.{automaton_size, automaton_of}
use Rattle.stored.specs.Build.{Built, built_into}
use Rattle.stored.specs.Code.Passes.{ReadIn, made}
use Rattle.stored.proofs.Laws.Building.Build.{made-is, behind-same}

set-within : (n : ℕ) → automaton_size ≤ n → set_size ≤ n
unfolding automaton_size set_size
set-within n h = omega arith

-- the three returns of the code
module _ (text before : List ℕ) where
  pub built-short : length before < automaton_size → Built text before 1 before
  built-short h = record { short = λ _. (refl, refl); judged = λ k. absurd (omega arith) }

  module _ (r : ℕ) (after : List ℕ) (h : automaton_size ≤ length before) (t : ReadSet text before r after) where
    read : (v : Verdict) → Judged text v → (r ≡ verdict_number v) × (after ≡ read_into v before)
    read = t.judged (set-within (length before) h)

    pub built-refused : (r ≡ 0 → ⊥) → Built text before r after
    built-refused some = record { short = λ k. absurd (omega arith); judged = λ _. go }
      where
        go : (v : Verdict) → Judged text v → (r ≡ verdict_number v) × (after ≡ built_into v before)
        go (refuses q) j = read (refuses q) j
        go (accepts s) acc = absurd (some (read (accepts s) acc).0)

    pub built-read : r ≡ 0 → length after ≡ length before → ReadIn after
    built-read z kept = let (v, j) = some-verdict text in go v j
      where
        go : (v : Verdict) → Judged text v → ReadIn after
        go (refuses q) j = absurd (some_number q (sym (read (refuses q) j).0 ∙ z))
        go (accepts s) acc = record {
          text = text;
          set = s;
          accepted = acc;
          rest = drop set_size before;
          bytes = (read (accepts s) acc).1;
          room = rw kept h;
        }

    pub built-made : (final : List ℕ) → r ≡ 0 → final ≡ made after → Built text before 0 final
    built-made final z m = record { short = λ k. absurd (omega arith); judged = λ _. go }
      where
        go : (v : Verdict) → Judged text v → (0 ≡ verdict_number v) × (final ≡ built_into v before)
        go (refuses q) j = absurd (some_number q (sym (read (refuses q) j).0 ∙ z))
        go (accepts s) acc = (
          refl,
          m
              ∙ ap made (read (accepts s) acc).1
              ∙ made-is s acc (drop set_size before)
              ∙ ap (λ (l : List ℕ). automaton_of s ++ l) (behind-same s acc before),
        )

-- each number exactly on its condition
module _ (text before : List ℕ) (answer : ℕ) (after : List ℕ) (b : Built text before answer after) where
  -- 1: the buffer is short, whatever the text is
  pub answer-1 : (answer ≡ number_of ShortBuffer) ↔ (length before < automaton_size)
  answer-1 = short-is text (length before) automaton_size answer (λ h. (b.short h).0) (λ h v j. (b.judged h v j).0)

  -- 2 to 7 are those of the text, on the conditions that the notation's laws of refusals say
  pub answer-other : (q : Refusal) → (q ≡ ShortBuffer → ⊥) → (answer ≡ number_of q) ↔ ((automaton_size ≤ length before) × RefusedText text q)
  answer-other = refused-is text (length before) automaton_size answer (λ h. (b.short h).0) (λ h v j. (b.judged h v j).0)

  -- 0: the text is that of an accepted set
  pub answer-0 : (answer ≡ 0) ↔ ((automaton_size ≤ length before) × ((s : FolderSet) × Accepted text s))
  answer-0 = accepted-is text (length before) automaton_size answer (λ h. (b.short h).0) (λ h v j. (b.judged h v j).0)

-- what a build that answered 0 left, of an accepted text
pub built-is : (text before after : List ℕ) (s : FolderSet) → Accepted text s → Built text before 0 after → after ≡ automaton_of s ++ drop automaton_size before
built-is text before after s acc b = let room = ((answer-0 text before 0 after b).0 refl).0 in (b.judged room (accepts s) acc).1
