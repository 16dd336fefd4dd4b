-- The call that reads a set: its three returns, and each number exactly on its condition.
use Prim.Native.Nat.{ℕ, ◌≤◌, ◌<◌}
use native.Mathlib.Omega.{arith}
use mathlib.Core.Path.{◌≡◌, refl, sym, ap, ◌∙◌}
use mathlib.Core.Logic.{◌↔◌}
use mathlib.Core.List.{List, ◌++◌}
use Rattle.std.specs.Prelude.{Result, Ok, Err}
use lib.ListN.{length, drop}
use Rattle.text.specs.declared.refusals.Refusal.{Refusal}
use Rattle.text.specs.declared.refusals.Refusal.TheVariants.{ShortBuffer}
use Rattle.text.specs.Refusals.{number_of}
use Rattle.text.specs.Answers.{refusal_in}
use Rattle.notation.specs.Sets.{FolderSet}
use Rattle.notation.specs.Accepted.{Accepted}
use Rattle.notation.specs.Layout.{set_size, set_part}
use Rattle.notation.specs.Judged.{RefusedText, Verdict, refuses, accepts, Judged, verdict_number}
use Rattle.notation.specs.ReadSet.{ReadSet, read_into}
use Rattle.notation.specs.Code.Taking.{text_refusal, answered}
use Rattle.text.proofs.Laws.Numbers.{some_number}
use Rattle.notation.proofs.Laws.Refused.Judging.{verdict_refusal, verdict-refusal}
use Rattle.notation.proofs.Laws.Refused.Answers.{short-is, refused-is, accepted-is}

-- the number of what a text is refused with
verdict-number : (text : List ℕ) (x : Result (Unit {0}) Refusal) → x ≡ answered (text_refusal text) → (v : Verdict) → Judged text v → refusal_in x ≡ verdict_number v
verdict-number text x e v j = ap refusal_in e ∙ ap (λ r. refusal_in (answered r)) (verdict-refusal text v j) ∙ same v
  where
    same : (v : Verdict) → refusal_in (answered (verdict_refusal v)) ≡ verdict_number v
    same (refuses r) = refl
    same (accepts s) = refl

module _ (text before : List ℕ) where
  -- the three returns of the code
  pub read_short : length before < set_size → ReadSet text before (number_of ShortBuffer) before
  read_short h = record { short = λ _. (refl, refl); judged = λ k. absurd (omega arith) }

  module _ (h : set_size ≤ length before) where
    pub read-refused : (q : Refusal) → Err q ≡ answered (text_refusal text) → ReadSet text before (number_of q) before
    read-refused q e = record { short = λ k. absurd (omega arith); judged = λ _. go }
      where
        go : (v : Verdict) → Judged text v → (number_of q ≡ verdict_number v) × (before ≡ read_into v before)
        go (refuses r) j = (verdict-number text (Err q) e (refuses r) j, refl)
        go (accepts s) a = absurd (some_number q (verdict-number text (Err q) e (accepts s) a))

    pub read-filled : (after : List ℕ) → Ok tt ≡ answered (text_refusal text)
        → ((s : FolderSet) → Accepted text s → after ≡ set_part s ++ drop set_size before) → ReadSet text before 0 after
    read-filled after z e = record { short = λ k. absurd (omega arith); judged = λ _. go }
      where
        go : (v : Verdict) → Judged text v → (0 ≡ verdict_number v) × (after ≡ read_into v before)
        go (refuses r) j = absurd (some_number r (sym (verdict-number text (Ok tt) z (refuses r) j)))
        go (accepts s) a = (refl, e s a)

  -- each number exactly on its condition
  module _ (answer : ℕ) (after : List ℕ) (t : ReadSet text before answer after) where
    pub answer-1 : (answer ≡ number_of ShortBuffer) ↔ (length before < set_size)
    answer-1 = short-is text (length before) set_size answer (λ h. (t.short h).0) (λ h v j. (t.judged h v j).0)

    pub answer-other : (q : Refusal) → (q ≡ ShortBuffer → ⊥) → (answer ≡ number_of q) ↔ ((set_size ≤ length before) × RefusedText text q)
    answer-other = refused-is text (length before) set_size answer (λ h. (t.short h).0) (λ h v j. (t.judged h v j).0)

    pub answer-0 : (answer ≡ 0) ↔ ((set_size ≤ length before) × ((s : FolderSet) × Accepted text s))
    answer-0 = accepted-is text (length before) set_size answer (λ h. (t.short h).0) (λ h v j. (t.judged h v j).0)

pub ruleset answers = (read_short, read-refused, read-filled)
