-- A report is refused with 15 exactly when some tag of it repeats an attribute's name, and it is neither too large nor has a byte that is not
-- listed. No token is ever refused so.
use Prim.Native.Nat.{ℕ}
use native.Mathlib.Omega.{arith}
use mathlib.Core.Path.{◌≡◌, refl}
use mathlib.Core.Bool.{Bool, true, false, not}
use mathlib.Core.Logic.{◌↔◌, inl, inr}
use mathlib.Core.List.{List, [], ◌∷◌}
use lib.Dec.{eqb}
use Rattle.notation.specs.Sets.{FolderSet}
use Rattle.text.specs.Lists.{every}
use Rattle.text.specs.declared.refusals.Refusal.{Refusal}
use Rattle.text.specs.declared.refusals.Refusal.TheVariants.{ShortBuffer, BadShape, RepeatedAttribute}
use Rattle.text.specs.Refusals.{number_of}
use Rattle.text.specs.Order.{Condition, gives, refusal_of, Unmet, first, given}
use Rattle.text.proofs.Laws.Tests.{cases, clash, zero_one}
use Rattle.text.proofs.Laws.Order.{first-has, given_by, not-given}
use Rattle.model.specs.Calls.{State, fresh}
use Rattle.stored.specs.RunCalls.{start_conditions}
use Rattle.stored.specs.Demand3.{Left, started}
use Rattle.documents.specs.Tokens.{Token, listed}
use Rattle.documents.specs.Document.{Event, opening, closing, text_here, comment_here, events_of}
use Rattle.filing.specs.Filing.{refused, Machine, event_order, end_order, file_events, file_end, file_tokens, Decided, OutcomeOf, shared_machine, Refused}
use Rattle.filing.specs.ReportRefusals.{stored_machine, ReportGives}
use Rattle.filing.specs.FiledReport.{RepeatsAttribute}
use Rattle.filing.proofs.Laws.Filing.FilingParts.{unless-refused, either-refused, events-refused}

abbrev other : Refusal → Bool
other r = not (eqb (number_of r) (number_of RepeatedAttribute))

abbrev other_given : Condition → Bool
other_given c = other (refusal_of c)

-- on a machine no event of which is refused so
module _ {S : Type 0} (k : Machine S) (s : S) (event-other : (t : S) (e : Event) → every other_given (event_order k t e) ≡ true) where
  tokens-other : (ts : List Token) (r : Refusal) → file_tokens k s ts ≡ refused r → other r ≡ true
  unfolding every
  tokens-other ts r h =
      either-refused (file_events k s (events_of ts)) (file_end k) r h
      (λ e. events-refused k (λ t es. Unit {0}) other (λ t e es q p k. first-has other_given _ q (event-other t e) k) (λ t e es p k. tt) (events_of ts) s r tt e)
      (λ t e. first-has other_given (end_order k t) r refl (unless-refused _ t r e))

  repeats-decided : (report : List ℕ) → OutcomeOf k s [] report (refused RepeatedAttribute) ↔ RepeatsAttribute report
  unfolding Decided
  repeats-decided report = (
    λ h. elim h [
      | inl (l, e) ↦ zero_one (cc)
      | inr (short, d) ↦ elim d [
        | inl (l, e) ↦ zero_one (cc)
        | inr (known, d) ↦ elim d [
          | inl (l, e) ↦ zero_one (cc)
          | inr (l, d) ↦ elim d [
            | inl ((run, again), e) ↦ (omega arith, cases (every listed report) (λ t. t) (λ f. absurd (known f)), (run, again))
            | inr (l, (run, f)) ↦ clash (tokens-other run.tokens RepeatedAttribute f) refl
          ]
        ]
      ]
    ],
    λ (short, known, (run, again)). inr (λ l. omega arith, inr (λ f. clash known f, inr (λ none. none run, inl ((run, again), refl)))),
  )

-- on the shared machine
shared-other : (set : FolderSet) (m : State) (e : Event) → every other_given (event_order (shared_machine set) m e) ≡ true
unfolding every
shared-other set m (opening n) = refl
shared-other set m (closing n) = refl
shared-other set m (text_here b) = refl
shared-other set m (comment_here b) = refl

pub repeats-refused : (set : FolderSet) (report : List ℕ) → Refused set report RepeatedAttribute ↔ RepeatsAttribute report
repeats-refused set = repeats-decided (shared_machine set) (fresh set) (shared-other set)

-- on what is stored, with any automaton and run: where the start is not refused
stored_other : (a : List ℕ) (t : Left) (e : Event) → every other_given (event_order (stored_machine a) t e) ≡ true
unfolding every
stored_other a t (opening n) = refl
stored_other a t (closing n) = refl
stored_other a t (text_here b) = refl
stored_other a t (comment_here b) = refl

none-given : (b d : Bool) (q r : Refusal) → (b ≡ true → ⊥) → (d ≡ true → ⊥) → given (gives b q ∷ gives d r ∷ []) ≡ 0
unfolding given first
none-given true d q r f g = absurd (f refl)
none-given false true q r f g = absurd (g refl)
none-given false false q r f g = refl

pub repeats-given : (a run report : List ℕ) → ReportGives a run report (refused RepeatedAttribute) ↔ (Unmet (start_conditions a run) × RepeatsAttribute report)
unfolding Decided
repeats-given a run report = (
  λ h. elim h [
    | inl (l, e) ↦ zero_one (cc)
    | inr (sized, d) ↦ elim d [
      | inl (l, e) ↦ zero_one (cc)
      | inr (formed, d) ↦ ((given_by (start_conditions a run)).accepted.0 (none-given _ _ ShortBuffer BadShape sized formed), own.0 d)
    ]
  ],
  λ (unmet, again).
      let (sized, later) = not-given _ _ _ ((given_by (start_conditions a run)).accepted.1 unmet) in
      let (formed, none) = not-given _ _ _ later in
      inr (λ t. clash t sized, inr (λ t. clash t formed, own.1 again)),
)
  where
    own : OutcomeOf (stored_machine a) (started a run) [] report (refused RepeatedAttribute) ↔ RepeatsAttribute report
    own = repeats-decided (stored_machine a) (started a run) (stored_other a) report
