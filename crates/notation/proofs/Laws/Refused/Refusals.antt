-- What a text is refused with: each number exactly on its condition, after all earlier ones failed, and no other number.
use Prim.Native.Nat.{ℕ, ◌≤◌}
use native.Mathlib.Omega.{arith}
use mathlib.Core.Path.{◌≡◌, refl, ap}
use mathlib.Core.Logic.{◌↔◌}
use mathlib.Core.Bool.{true, false}
use mathlib.Core.List.{List, [], ◌∷◌}
use Rattle.text.specs.declared.refusals.Refusal.{Refusal}
use Rattle.text.specs.declared.refusals.Refusal.TheVariants.{TooLarge, MalformedSet, OutOfOrder, NameTooLong, PathTooLong, OverCapacity}
use Rattle.text.specs.Refusals.{number_of}
use Rattle.notation.specs.Sets.{FolderSet}
use Rattle.notation.specs.Form.{OfForm, over_bytes, numbers_fall, names_long, paths_long, over_limits, faults}
use Rattle.notation.specs.Accepted.{Accepted}
use Rattle.notation.specs.Judged.{RefusedText, over_long, not_of_form, faulty, overfull, Verdict, refuses, accepts, Judged}
use Rattle.notation.proofs.Laws.Faults.Numbers.{fault-among, turn-fault, name-fault, path-fault, no-fault}
use Rattle.notation.proofs.Laws.Refused.Judging.{some-verdict, only-verdict}

module _ (text : List ℕ) where
  pub refused-2 : RefusedText text TooLarge ↔ (over_bytes text ≡ true)
  refused-2 = (go, over_long refl)
    where
      go : RefusedText text TooLarge → over_bytes text ≡ true
      go (over_long e over) = over
      go (not_of_form e few none) = absurd (omega (arith, ap number_of e))
      go (faulty few o later e) = absurd (omega (arith, (fault-among o.set later TooLarge e).0))
      go (overfull e few o none y) = absurd (omega (arith, ap number_of e))

  pub refused-3 : RefusedText text MalformedSet ↔ ((over_bytes text ≡ false) × (OfForm text → ⊥))
  refused-3 = (go, λ h. not_of_form refl h.0 h.1)
    where
      go : RefusedText text MalformedSet → (over_bytes text ≡ false) × (OfForm text → ⊥)
      go (over_long e over) = absurd (omega (arith, ap number_of e))
      go (not_of_form e few none) = (few, none)
      go (faulty few o later e) = absurd (omega (arith, (fault-among o.set later MalformedSet e).0))
      go (overfull e few o none y) = absurd (omega (arith, ap number_of e))

  -- 4, 5 and 6: the first fault of the set of the text
  pub refused-fault : (r : Refusal) → 4 ≤ number_of r → number_of r ≤ 6
      → RefusedText text r ↔ ((over_bytes text ≡ false) × (o : OfForm text) × (later : List Refusal) × (faults o.set ≡ r ∷ later))
  refused-fault r low high = (go, λ h. faulty h.0 h.1 h.2 h.3)
    where
      go : RefusedText text r → (over_bytes text ≡ false) × (o : OfForm text) × (later : List Refusal) × (faults o.set ≡ r ∷ later)
      go (over_long e over) = absurd (omega (arith, ap number_of e))
      go (not_of_form e few none) = absurd (omega (arith, ap number_of e))
      go (faulty few o later e) = (few, o, later, e)
      go (overfull e few o none y) = absurd (omega (arith, ap number_of e))

  -- each of them on its condition
  pub refused-4 : RefusedText text OutOfOrder → (o : OfForm text) × (numbers_fall o.set ≡ true)
  refused-4 j = let (few, o, later, e) = (refused-fault OutOfOrder (omega arith) (omega arith)).0 j in (o, turn-fault o.set later e)

  pub refused-5 : RefusedText text NameTooLong → (o : OfForm text) × (names_long o.set ≡ true)
  refused-5 j = let (few, o, later, e) = (refused-fault NameTooLong (omega arith) (omega arith)).0 j in (o, name-fault o.set later e)

  pub refused-6 : RefusedText text PathTooLong → (o : OfForm text) × (paths_long o.set ≡ true)
  refused-6 j = let (few, o, later, e) = (refused-fault PathTooLong (omega arith) (omega arith)).0 j in (o, path-fault o.set later e)

  -- where a condition of 4, 5 and 6 holds, the text is refused with one of them
  pub refused-some : over_bytes text ≡ false → (o : OfForm text)
      → ((numbers_fall o.set ≡ false) × (names_long o.set ≡ false) × (paths_long o.set ≡ false) → ⊥)
      → (r : Refusal) × RefusedText text r × (4 ≤ number_of r) × (number_of r ≤ 6)
  refused-some few o some = go (faults o.set) refl
    where
      go : (fs : List Refusal) → faults o.set ≡ fs → (r : Refusal) × RefusedText text r × (4 ≤ number_of r) × (number_of r ≤ 6)
      go [] e = absurd (some ((no-fault o.set).0 e))
      go (r ∷ later) e = let a = fault-among o.set later r e in (r, faulty few o later e, a.0, a.1)

  pub refused-7 : RefusedText text OverCapacity
      ↔ ((over_bytes text ≡ false) × (o : OfForm text) × (faults o.set ≡ []) × (over_limits o.set ≡ true))
  refused-7 = (go, λ h. overfull refl h.0 h.1 h.2 h.3)
    where
      go : RefusedText text OverCapacity → (over_bytes text ≡ false) × (o : OfForm text) × (faults o.set ≡ []) × (over_limits o.set ≡ true)
      go (over_long e over) = absurd (omega (arith, ap number_of e))
      go (not_of_form e few none) = absurd (omega (arith, ap number_of e))
      go (faulty few o later e) = absurd (omega (arith, (fault-among o.set later OverCapacity e).1))
      go (overfull e few o none y) = (few, o, none, y)

  -- no other number is given
  pub refused-among : (r : Refusal) → RefusedText text r → (2 ≤ number_of r) × (number_of r ≤ 7)
  refused-among r (over_long e over) = (omega (arith, ap number_of e), omega (arith, ap number_of e))
  refused-among r (not_of_form e few none) = (omega (arith, ap number_of e), omega (arith, ap number_of e))
  refused-among r (faulty few o later e) = let a = fault-among o.set later r e in (omega arith, omega arith)
  refused-among r (overfull e few o none y) = (omega (arith, ap number_of e), omega (arith, ap number_of e))

  -- a text that is not refused is accepted, and an accepted one is not refused
  pub accepted-else : ((r : Refusal) → RefusedText text r → ⊥) → (s : FolderSet) × Accepted text s
  accepted-else none = let (v, j) = some-verdict text in go v j
    where
      go : (v : Verdict) → Judged text v → (s : FolderSet) × Accepted text s
      go (refuses r) j = absurd (none r j)
      go (accepts s) a = (s, a)

  pub accepted-not : (s : FolderSet) → Accepted text s → (r : Refusal) → RefusedText text r → ⊥
  accepted-not s a r j =
      let same : accepts s ≡ refuses r = only-verdict text (accepts s) (refuses r) a j in
      let z : ◌≡◌ {A = ℕ} 0 1 = cc in
      omega arith
