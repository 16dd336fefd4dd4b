-- Calls that judge a set's text: each number exactly on its condition, and a refusal changes nothing.
use Prim.Native.Nat.{ℕ, ◌≤◌, ◌<◌}
use mathlib.Core.Path.{◌≡◌, sym, ap, ◌∙◌, subst}
use mathlib.Core.Logic.{◌⊎◌, inl, inr}
use mathlib.Core.List.{List}
use lib.Dec.{ltb}
use lib.ListN.{length}
use borrow.Author.Tests.{ltb-true, ltb-false}
use Rattle.text.specs.declared.refusals.Refusal.{Refusal}
use Rattle.text.specs.declared.refusals.Refusal.TheVariants.{ShortBuffer}
use Rattle.text.specs.Refusals.{number_of}
use Rattle.notation.specs.Sets.{FolderSet}
use Rattle.notation.specs.Accepted.{Accepted}
use Rattle.notation.specs.Judged.{RefusedText, Verdict, refuses, accepts, Judged, verdict_number}
use Rattle.text.proofs.Laws.Numbers.{one-refusal, some_number}
use Rattle.notation.proofs.Laws.Refused.Judging.{some-verdict}
use Rattle.text.proofs.Laws.Tests.{cases}
use Rattle.filing.specs.Demand1.{SetRefused, short_first, of_text, SetJudged}

-- `into` is what an accepted set leaves
module _ (size : ℕ) (text before : List ℕ) (answer : ℕ) (after : List ℕ) (into : Verdict → List ℕ) (kept : (r : Refusal) → into (refuses r) ≡ before)
    (short : length before < size → (answer ≡ number_of ShortBuffer) × (after ≡ before))
    (judged : size ≤ length before → (v : Verdict) → Judged text v → (answer ≡ verdict_number v) × (after ≡ into v)) where
  -- the buffer is short, or the text is refused, or accepted
  data Outcome : Type 0 where
    is_short : length before < size → Outcome
    is_refused : size ≤ length before → (r : Refusal) → RefusedText text r → Outcome
    is_accepted : size ≤ length before → (s : FolderSet) → Accepted text s → Outcome

  by-verdict : size ≤ length before → (v : Verdict) → Judged text v → Outcome
  by-verdict h (refuses r) j = is_refused h r j
  by-verdict h (accepts s) j = is_accepted h s j

  outcome : Outcome
  outcome =
      cases (ltb (length before) size) (λ y. is_short (ltb-true (length before) size y))
      (λ n. let (v, j) = some-verdict text in by-verdict (ltb-false (length before) size n) v j)

  refused_why : (r : Refusal) → answer ≡ number_of r → Outcome → SetRefused size text before r
  refused_why r e (is_short h) = short_first (one-refusal r ShortBuffer (sym e ∙ (short h).0)) h
  refused_why r e (is_refused h q j) = of_text h (subst (RefusedText text) (one-refusal q r (sym (judged h (refuses q) j).0 ∙ e)) j)
  refused_why r e (is_accepted h s a) = absurd (some_number r (sym e ∙ (judged h (accepts s) a).0))

  why-refused : (r : Refusal) → SetRefused size text before r → answer ≡ number_of r
  why-refused r (short_first e h) = (short h).0 ∙ ap number_of (sym e)
  why-refused r (of_text h j) = (judged h (refuses r) j).0

  accepted-why : answer ≡ 0 → Outcome → (size ≤ length before) × ((s : FolderSet) × Accepted text s)
  accepted-why e (is_short h) = absurd (some_number ShortBuffer (sym (short h).0 ∙ e))
  accepted-why e (is_refused h r j) = absurd (some_number r (sym (judged h (refuses r) j).0 ∙ e))
  accepted-why e (is_accepted h s a) = (h, (s, a))

  either-of : Outcome → (answer ≡ 0) ⊎ ((r : Refusal) × (answer ≡ number_of r))
  either-of (is_short h) = inr (ShortBuffer, (short h).0)
  either-of (is_refused h r j) = inr (r, (judged h (refuses r) j).0)
  either-of (is_accepted h s a) = inl (judged h (accepts s) a).0

  left-of : (answer ≡ 0 → ⊥) → Outcome → after ≡ before
  left-of n (is_short h) = (short h).1
  left-of n (is_refused h r j) = (judged h (refuses r) j).1 ∙ kept r
  left-of n (is_accepted h s a) = absurd (n (judged h (accepts s) a).0)

  pub set-judged : SetJudged size text before answer after
  set-judged = record {
    refusals = λ r. (λ e. refused_why r e outcome, why-refused r);
    accepted = (λ e. accepted-why e outcome, λ h. (judged h.0 (accepts h.1.0) h.1.1).0);
    either = either-of outcome;
    untouched = λ n. left-of n outcome;
  }
