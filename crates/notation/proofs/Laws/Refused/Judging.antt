-- Every text has exactly one verdict, and the code's reader answers it.
use Prim.Native.Nat.{ℕ}
use native.Mathlib.Omega.{arith}
use mathlib.Core.Path.{◌≡◌, refl, sym, ap, ◌∙◌}
use mathlib.Core.Bool.{true, false}
use mathlib.Core.List.{List, [], ◌∷◌}
use Rattle.std.specs.Prelude.{Option, Some, None}
use Rattle.std.specs.Bool.{then_some}
use Rattle.std.specs.Option.{option_or}
use Rattle.std.proofs.lemmas.Option.{none-some, same_Some}
use Rattle.text.specs.declared.refusals.Refusal.{Refusal}
use Rattle.text.specs.declared.refusals.Refusal.TheVariants.{TooLarge, MalformedSet, OverCapacity}
use Rattle.notation.specs.Sets.{FolderSet}
use Rattle.notation.specs.Print.{print}
use Rattle.notation.specs.Form.{formed, OfForm, over_bytes, over_limits, faults}
use Rattle.notation.specs.Accepted.{Accepted}
use Rattle.notation.specs.Judged.{RefusedText, over_long, not_of_form, faulty, overfull, Verdict, refuses, accepts, Judged}
use Rattle.notation.specs.Code.Reader.{read_set}
use Rattle.notation.specs.Code.Taking.{first_of, read_refusal, text_refusal}
use Rattle.text.specs.Read.{Read, fail, got}
use Rattle.text.proofs.Laws.Tests.{cases}
use Rattle.text.proofs.Laws.Reads.{holds-got}
use Rattle.notation.proofs.Laws.Reading.Folders.{set-sound, set_back}
use Rattle.notation.proofs.Laws.Faults.Numbers.{no-fault}
use Rattle.notation.proofs.Laws.Refused.AcceptedSet.{accepted-one, accepted-faultless}

not-fail : {s : FolderSet} {r : List ℕ} → got s r ≡ fail → ⊥
not-fail e = let z : ◌≡◌ {A = ℕ} 0 1 = cc in omega arith

-- what a text of this verdict is refused with
abbrev pub verdict_refusal : Verdict → Option Refusal
verdict_refusal (refuses r) = Some r
verdict_refusal (accepts s) = None

module _ (text : List ℕ) where
  -- a text is of the form exactly where it is read

  form-reads : (o : OfForm text) → read_set text ≡ got o.set []
  form-reads o = ap read_set (sym o.prints) ∙ set_back o.set o.well

  read-form : (s : FolderSet) (r : List ℕ) → read_set text ≡ got s r → OfForm text
  read-form s r e = let (well, end, prints) = holds-got (rw e at (set-sound text)) in record { set = s; well = well; prints = prints }

  -- some verdict

  accepted-of : over_bytes text ≡ false → (o : OfForm text) → faults o.set ≡ [] → over_limits o.set ≡ false → Accepted text o.set
  accepted-of few o none room =
      let c = (no-fault o.set).0 none in
      record { well = o.well; prints = o.prints; short = few; rising = c.0; names = c.1; paths = c.2; room = room }

  by-faults : over_bytes text ≡ false → (o : OfForm text) → (fs : List Refusal) → faults o.set ≡ fs → (v : Verdict) × Judged text v
  by-faults few o [] e =
      cases (over_limits o.set) (λ y. (refuses OverCapacity, overfull refl few o e y)) (λ n. (accepts o.set, accepted-of few o e n))
  by-faults few o (r ∷ later) e = (refuses r, faulty few o later e)

  pub some-verdict : (v : Verdict) × Judged text v
  some-verdict =
      cases (over_bytes text) (λ over. (refuses TooLarge, over_long refl over))
      (λ few. go few (read_set text) refl)
    where
      go : over_bytes text ≡ false → (m : Read FolderSet) → read_set text ≡ m → (v : Verdict) × Judged text v
      go few fail e = (refuses MalformedSet, not_of_form refl few (λ o. not-fail (sym (form-reads o) ∙ e)))
      go few (got s r) e = let o = read-form s r e in by-faults few o (faults o.set) refl

  -- what the code's reader answers

  over-answer : over_bytes text ≡ true → text_refusal text ≡ Some TooLarge
  unfolding text_refusal
  over-answer e = rw e

  malformed-answer : over_bytes text ≡ false → (OfForm text → ⊥) → text_refusal text ≡ Some MalformedSet
  unfolding text_refusal
  malformed-answer few none = rw few (go (read_set text) refl)
    where
      go : (m : Read FolderSet) → read_set text ≡ m → read_refusal m ≡ Some MalformedSet
      go fail e = refl
      go (got s r) e = absurd (none (read-form s r e))

  form-answer : (s : FolderSet) → formed s ≡ true → print s ≡ text → over_bytes text ≡ false
      → text_refusal text ≡ option_or (first_of (faults s)) (then_some (over_limits s) OverCapacity)
  unfolding text_refusal
  form-answer s well prints few = rw (few, form-reads (record { set = s; well = well; prints = prints }))

  refused-by : (r : Refusal) → RefusedText text r → text_refusal text ≡ Some r
  refused-by r (over_long e over) = over-answer over ∙ ap Some (sym e)
  refused-by r (not_of_form e few none) = malformed-answer few none ∙ ap Some (sym e)
  refused-by r (faulty few o later e) = form-answer o.set o.well o.prints few ∙ rw e
  refused-by r (overfull e few o none y) = form-answer o.set o.well o.prints few ∙ rw (none, y) (ap Some (sym e))

  pub verdict-refusal : (v : Verdict) → Judged text v → text_refusal text ≡ verdict_refusal v
  verdict-refusal (refuses r) j = refused-by r j
  verdict-refusal (accepts s) a = form-answer s a.well a.prints a.short ∙ rw (accepted-faultless text s a, a.room)

  -- and no other

  pub only-verdict : (v w : Verdict) → Judged text v → Judged text w → v ≡ w
  only-verdict (refuses r) (refuses q) j k = ap refuses (same_Some r q (sym (refused-by r j) ∙ refused-by q k))
  only-verdict (refuses r) (accepts t) j b = absurd (none-some r (sym (verdict-refusal (accepts t) b) ∙ refused-by r j))
  only-verdict (accepts s) (refuses q) a k = absurd (none-some q (sym (verdict-refusal (accepts s) a) ∙ refused-by q k))
  only-verdict (accepts s) (accepts t) a b = ap accepts (accepted-one text s a t b)

  pub one-verdict : (v : Verdict) × Judged text v × ((w : Verdict) → Judged text w → w ≡ v)
  one-verdict = let (v, j) = some-verdict in (v, j, λ w k. only-verdict w v k j)

  -- no refusal is the answer of an accepted text only
  pub accepted-set : text_refusal text ≡ None → (s : FolderSet) × Accepted text s
  accepted-set z = let (v, j) = some-verdict in go v j
    where
      go : (v : Verdict) → Judged text v → (s : FolderSet) × Accepted text s
      go (refuses r) j = absurd (none-some r (sym z ∙ refused-by r j))
      go (accepts s) a = (s, a)
