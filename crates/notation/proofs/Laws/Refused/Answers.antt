-- The answer of a call that judges a text into a buffer of `size` bytes or more: each number exactly on its condition.
use Prim.Native.Nat.{ℕ, ◌≤◌, ◌<◌}
use native.Mathlib.Omega.{arith}
use mathlib.Core.Path.{◌≡◌, sym, ◌∙◌, subst}
use mathlib.Core.Logic.{◌↔◌}
use mathlib.Core.List.{List}
use lib.Dec.{ltb}
use borrow.Author.Tests.{ltb-true, ltb-false}
use Rattle.text.specs.declared.refusals.Refusal.{Refusal}
use Rattle.text.specs.declared.refusals.Refusal.TheVariants.{ShortBuffer}
use Rattle.text.specs.Refusals.{number_of}
use Rattle.notation.specs.Sets.{FolderSet}
use Rattle.notation.specs.Accepted.{Accepted}
use Rattle.notation.specs.Judged.{RefusedText, Verdict, refuses, accepts, Judged, verdict_number}
use Rattle.text.proofs.Laws.Tests.{cases}
use Rattle.text.proofs.Laws.Numbers.{one-refusal, some_number}
use Rattle.notation.proofs.Laws.Refused.Judging.{some-verdict}
use Rattle.notation.proofs.Laws.Refused.Refusals.{refused-among}

module _ (text : List ℕ) (long size answer : ℕ) (short : long < size → answer ≡ number_of ShortBuffer)
    (judged : size ≤ long → (v : Verdict) → Judged text v → answer ≡ verdict_number v) where
  abbrev AtVerdict : Type 0
  AtVerdict = (size ≤ long) × (v : Verdict) × (Judged text v × (answer ≡ verdict_number v))

  -- a short buffer, or a verdict
  either : {X : Type 0} → (long < size → X) → (AtVerdict → X) → X
  either on off =
      cases (ltb long size) (λ y. on (ltb-true long size y))
      (λ n.
      let h = ltb-false long size n in
      let (v, j) = some-verdict text in
      off (h, v, (j, judged h v j)))

  -- 1: the buffer is short, whatever the text is
  pub short-is : (answer ≡ number_of ShortBuffer) ↔ (long < size)
  short-is = (λ e. either (λ h. h) (λ x. absurd (no x e)), short)
    where
      no : AtVerdict → answer ≡ number_of ShortBuffer → ⊥
      no (h, refuses r, (j, a)) e = omega (arith, (refused-among text r j).0)
      no (h, accepts s, (j, a)) e = omega arith

  -- any other refusal: the text's
  pub refused-is : (q : Refusal) → (q ≡ ShortBuffer → ⊥) → (answer ≡ number_of q) ↔ ((size ≤ long) × RefusedText text q)
  refused-is q other = (
    λ e. either (λ h. absurd (other (one-refusal q ShortBuffer (sym e ∙ short h)))) (λ x. go x e),
    λ h. judged h.0 (refuses q) h.1,
  )
    where
      go : AtVerdict → answer ≡ number_of q → (size ≤ long) × RefusedText text q
      go (h, refuses r, (j, a)) e = (h, subst (RefusedText text) (one-refusal r q (sym a ∙ e)) j)
      go (h, accepts s, (j, a)) e = absurd (some_number q (sym e ∙ a))

  -- 0: the text is that of an accepted set
  pub accepted-is : (answer ≡ 0) ↔ ((size ≤ long) × ((s : FolderSet) × Accepted text s))
  accepted-is = (λ e. either (λ h. absurd (omega (arith, short h))) (λ x. go x e), λ h. judged h.0 (accepts h.1.0) h.1.1)
    where
      go : AtVerdict → answer ≡ 0 → (size ≤ long) × ((s : FolderSet) × Accepted text s)
      go (h, refuses r, (j, a)) e = absurd (some_number r (sym a ∙ e))
      go (h, accepts s, (j, a)) e = (h, (s, j))
