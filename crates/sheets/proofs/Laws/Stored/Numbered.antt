-- The number of a place is that of the last folder whose first path is not after it; a place has a row exactly if it is matched, and each once.
use Rattle.std.proofs.Common.{Option, Some, None}
use Prim.Native.Nat.{ℕ, zero, suc, ◌+◌, ◌≤◌, ◌<◌}
use native.Mathlib.Omega.{arith}
use mathlib.Core.Path.{◌≡◌, refl, sym, ◌∙◌, ap}
use mathlib.Core.Bool.{true}
use mathlib.Core.Logic.{inl, inr, ◌↔◌}
use mathlib.Core.List.{List, ◌∷◌, Memᴰ}
use lib.Dec.{leb, eqb}
use lib.ListN.{length, get_or}
use borrow.Author.Tests.{leb-true, leb-false, eqb-true, eqb-false}
use Rattle.text.specs.Bytes.{joined}
use Rattle.text.proofs.Laws.Tests.{cases}
use Rattle.notation.specs.Limits.{max_paths}
use Rattle.notation.specs.declared.reads.StoredFolder.{StoredFolder}
use Rattle.model.specs.Folders.{count_from}
use Rattle.stored.specs.HeldSet.{folders_held, folder_held}
use Rattle.stored.specs.Asking.{place_matched}
use Rattle.stored.proofs.Laws.Tables.States.{at-among}
use Rattle.stored.proofs.Laws.Shapes.Held.{place-below}
use Rattle.sheets.specs.SheetIn.{matched_from, matched_places, or_before, number_among}
use Rattle.sheets.specs.ClassSheet.{BeginsBy, NumberOf, of_last, of_none}

module _ (a : List ℕ) (place : ℕ) where
  -- among the first n folders
  data Among (n : ℕ) : ℕ → Type 0 where
    last : {number : ℕ} (i : ℕ) → i < n → BeginsBy a place i number → ((j k : ℕ) → i < j → j < n → BeginsBy a place j k → ⊥) → Among n number
    none : ((j k : ℕ) → j < n → BeginsBy a place j k → ⊥) → Among n 0

  -- a folder more that does not begin by the place
  passed : (n number : ℕ) → ((k : ℕ) → BeginsBy a place n k → ⊥) → Among n number → Among (suc n) number
  passed n number h (last i l b later) = last i (omega arith) b (λ j k u v x. cases (eqb j n) (λ t. h k (rw (eqb-true j n t) at x)) (λ f. later j k u (omega (arith, eqb-false j n f)) x))
  passed n number h (none no_one) = none (λ j k v x. cases (eqb j n) (λ t. h k (rw (eqb-true j n t) at x)) (λ f. no_one j k (omega (arith, eqb-false j n f)) x))

  step : (n number : ℕ) (f : Option StoredFolder) → folder_held a n ≡ f → Among n number → Among (suc n) (or_before f place number)
  step n number (Some f) e x =
      cases (leb f.first.0 place)
      (λ t. rw t (last n (omega arith) (record { first = f.first; count = f.paths; held = e; before = leb-true f.first.0 place t }) (λ j k u v _. absurd (omega arith))))
      (λ u. rw u (passed n number (λ k b. let same = sym e ∙ b.held in let z : f.first ≡ b.first = cc in absurd (omega (arith, leb-false f.first.0 place u, b.before, ap (λ p. p.0) z))) x))
  step n number None e x = passed n number (λ k b. let same = sym e ∙ b.held in let z : ◌≡◌ {A = ℕ} 0 1 = cc in absurd (omega arith)) x

  among : (n : ℕ) → Among n (number_among a place n)
  unfolding number_among
  among zero = none (λ j k l x. absurd (omega arith))
  among (suc n) = step n (number_among a place n) (folder_held a n) refl (among n)

  pub number_of : NumberOf a place (number_among a place (folders_held a))
  number_of = go (among (folders_held a))
    where
      go : {number : ℕ} → Among (folders_held a) number → NumberOf a place number
      go (last i l b later) = of_last i l b later
      go (none h) = of_none h

-- a list whose numbers rise
abbrev Rising : List ℕ → Type 0
Rising l = (i j : ℕ) → i < j → j < length l → get_or l i 0 < get_or l j 0

rising-after : (x : ℕ) (l : List ℕ) → ((p : ℕ) → Memᴰ p l → x < p) → Rising l → Rising (x ∷ l)
rising-after x l above up i zero u v = absurd (omega arith)
rising-after x l above up zero (suc j) u v = above (get_or l j 0) (at-among l 0 j (omega arith))
rising-after x l above up (suc i) (suc j) u v = up i j (omega arith) (omega arith)

module _ (a run : List ℕ) where
  abbrev Matched : ℕ → Type 0
  Matched p = place_matched a run (record { 0 = p }) ≡ true

  -- of so many places
  in-from : (first n p : ℕ) → Memᴰ p (matched_from a run first n) → (first ≤ p) × Matched p
  unfolding joined count_from
  in-from first zero p m = absurd (mathlib.Core.List.Memᴰ.not-nil m)
  in-from first (suc n) p m =
      let later : Memᴰ p (matched_from a run (suc first) n) → (first ≤ p) × Matched p = λ t. let x = in-from (suc first) n p t in (omega arith, x.1) in
      cases (place_matched a run (record { 0 = first }))
      (λ t. elim (mathlib.Core.List.Memᴰ.cases_cons (rw t at m)) [ inl e ↦ (omega arith, rw e t) | inr r ↦ later r ])
      (λ f. later (rw f at m))

  from_in : (first n p : ℕ) → Matched p → first ≤ p → p < first + n → Memᴰ p (matched_from a run first n)
  unfolding joined count_from
  from_in first zero p h l u = absurd (omega arith)
  from_in first (suc n) p h l u =
      cases (eqb p first)
      (λ t. let e = eqb-true p first t in rw (rw e at h) (mathlib.Core.List.Memᴰ.head e))
      (λ f.
      let later = from_in (suc first) n p h (omega (arith, eqb-false p first f)) (omega arith) in
      cases (place_matched a run (record { 0 = first })) (λ t. rw t (mathlib.Core.List.Memᴰ.tail later)) (λ g. rw g later))

  rising-from : (first n : ℕ) → Rising (matched_from a run first n)
  unfolding joined count_from
  rising-from first zero = λ i j u v. absurd (omega arith)
  rising-from first (suc n) =
      let later = rising-from (suc first) n in
      cases (place_matched a run (record { 0 = first }))
      (λ t. rw t (rising-after first (matched_from a run (suc first) n) (λ p m. (in-from (suc first) n p m).0) later))
      (λ f. rw f later)

  pub places-are : (p : ℕ) → Memᴰ p (matched_places a run) ↔ Matched p
  places-are p = (λ m. (in-from 0 max_paths p m).1, λ h. from_in 0 max_paths p h (omega arith) (omega (arith, place-below a run p h)))

  pub places-rise : Rising (matched_places a run)
  places-rise = rising-from 0 max_paths
