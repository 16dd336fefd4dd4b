-- Facts of single bytes, and of the longest front of bytes that pass a test.
use Prim.Native.Nat.{ℕ}
use mathlib.Core.Path.{◌≡◌, refl, sym, ap, ◌∙◌}
use mathlib.Core.Logic.{⊎_elim}
use mathlib.Core.Bool.{Bool, true, false, ◌||◌, true≢false}
use lib.Dec.{eqb}
use borrow.Author.Tests.{eqb-true}
use Rattle.text.specs.Names.{Name, letter, digit, begins_name, in_name}
use Rattle.text.proofs.Laws.Tests.{cases, and_left, either}
use Rattle.text.proofs.Laws.Fronts.{differs}
use Rattle.text.proofs.Laws.Bytes.SameName.{same_name-is}
use Rattle.documents.specs.Tokens.{blank, listed, amp, lt, gt, quot, apos, is_entity, in_text, in_value}

-- what a test says of the four blanks it says of every blank
pub at-blank : (ok : ℕ → Bool) (v : Bool) → ok 9 ≡ v → ok 10 ≡ v → ok 13 ≡ v → ok 32 ≡ v → (b : ℕ) → blank b ≡ true → ok b ≡ v
unfolding blank
at-blank ok v f₁ f₂ f₃ f₄ b h =
    ⊎_elim
    (λ h₃. ⊎_elim
    (λ h₂. ⊎_elim (λ h₁. ap ok (eqb-true b 9 h₁) ∙ f₁) (λ h₁. ap ok (eqb-true b 10 h₁) ∙ f₂) (either (eqb b 9) (eqb b 10) h₂))
    (λ h₂. ap ok (eqb-true b 13 h₂) ∙ f₃)
    (either (eqb b 9 || eqb b 10) (eqb b 13) h₃))
    (λ h₃. ap ok (eqb-true b 32 h₃) ∙ f₄)
    (either (eqb b 9 || eqb b 10 || eqb b 13) (eqb b 32) h)

pub blank-no-name : (b : ℕ) → blank b ≡ true → in_name b ≡ false
unfolding in_name begins_name letter digit
blank-no-name = at-blank in_name false refl refl refl refl

pub name-no-blank : (b : ℕ) → begins_name b ≡ true → blank b ≡ false
unfolding begins_name letter
name-no-blank b h = cases (blank b) (λ t. absurd (true≢false (sym h ∙ at-blank begins_name false refl refl refl refl b t))) (λ f. f)

-- the names of references are five
pub entity-cases : {X : Type 0} (n : Name) → is_entity n ≡ true → (n ≡ amp → X) → (n ≡ lt → X) → (n ≡ gt → X) → (n ≡ quot → X) → (n ≡ apos → X) → X
unfolding is_entity
entity-cases n h f₁ f₂ f₃ f₄ f₅ =
    ⊎_elim
    (λ h₄. ⊎_elim
    (λ h₃. ⊎_elim
    (λ h₂. ⊎_elim (λ h₁. f₁ ((same_name-is n amp).0 h₁)) (λ h₁. f₂ ((same_name-is n lt).0 h₁)) (either _ _ h₂))
    (λ h₂. f₃ ((same_name-is n gt).0 h₂))
    (either _ _ h₃))
    (λ h₃. f₄ ((same_name-is n quot).0 h₃))
    (either _ _ h₄))
    (λ h₄. f₅ ((same_name-is n apos).0 h₄))
    (either _ _ h)

pub text-no-amp : (b : ℕ) → in_text b ≡ true → eqb b 38 ≡ false
unfolding in_text listed
text-no-amp b h = differs in_text b 38 h refl

pub text-no-less : (b : ℕ) → in_text b ≡ true → eqb b 60 ≡ false
unfolding in_text listed
text-no-less b h = differs in_text b 60 h refl

pub value-text : (q b : ℕ) → in_value q b ≡ true → in_text b ≡ true
unfolding in_value
value-text q b h = and_left _ _ h
