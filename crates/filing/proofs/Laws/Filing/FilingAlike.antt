-- Machines that are alike file alike: of states that are related, the same refusal or again related states.
use Prim.Native.Nat.{ℕ}
use mathlib.Core.Path.{◌≡◌, refl, subst}
use mathlib.Core.Option.{Option, none, some}
use mathlib.Core.List.{List, [], ◌∷◌, ◌++◌}
use Rattle.text.specs.declared.refusals.Refusal.{Refusal}
use Rattle.text.specs.Order.{Condition, first}
use Rattle.documents.specs.Document.{Event, events_of}
use Rattle.documents.specs.Reading.{read_report}
use Rattle.filing.specs.Filing.{Outcome, refused, filed, number_given, and_then, unless, Machine, event_order, end_order, event_leaves, file_events}
use Rattle.filing.specs.Code.Filing.{tokens_in, report_tests, file_report}
use Rattle.text.proofs.Laws.Tests.{zero_one}

pub data Alike {S T : Type 0} (R : S → T → Type 0) : Outcome S → Outcome T → Type 0 where
  both_refused : (r : Refusal) → Alike R (refused r) (refused r)
  both_filed : {s : S} {t : T} → R s t → Alike R (filed s) (filed t)

pub same_number : {S T : Type 0} {R : S → T → Type 0} {o : Outcome S} {p : Outcome T} → Alike R o p → number_given o ≡ number_given p
same_number (both_refused r) = refl
same_number (both_filed x) = refl

pub alike-refused : {S T : Type 0} {R : S → T → Type 0} {o : Outcome S} {p : Outcome T} → Alike R o p → (r : Refusal) → o ≡ refused r → p ≡ refused r
alike-refused (both_refused q) r e = cc
alike-refused (both_filed x) r e = zero_one (cc)

pub alike-filed : {S T : Type 0} {R : S → T → Type 0} {o : Outcome S} {p : Outcome T} → Alike R o p → (s : S) → o ≡ filed s → (t : T) × (p ≡ filed t) × R s t
alike-filed (both_refused q) s e = zero_one (cc)
alike-filed {R = R} (both_filed {s = q} {t = t} x) s e =
    let same : q ≡ s = cc in
    (t, refl, subst (λ y. R y t) same x)

-- related states refuse an event alike, and are left related where it is taken
pub record Similar {S T : Type 0} (k : Machine S) (l : Machine T) (R : S → T → Type 0) : Type 0 where
  pub refusals : (s : S) (t : T) → R s t → (e : Event) → first (event_order k s e) ≡ first (event_order l t e)
  pub leaves : (s : S) (t : T) → R s t → (e : Event) → first (event_order k s e) ≡ none → R (event_leaves k s e) (event_leaves l t e)
  pub ends : (s : S) (t : T) → R s t → first (end_order k s) ≡ first (end_order l t)

module _ {S T : Type 0} {R : S → T → Type 0} where
  unless-alike : (x y : Option Refusal) (s : S) (t : T) → x ≡ y → (x ≡ none → R s t) → Alike R (unless x s) (unless y t)
  unless-alike none y s t e h = rw (← e) (both_filed (h refl))
  unless-alike (some r) y s t e h = rw (← e) (both_refused r)

  then-alike : {o : Outcome S} {p : Outcome T} {f : S → Outcome S} {g : T → Outcome T} → Alike R o p → ((s : S) (t : T) → R s t → Alike R (f s) (g t))
      → Alike R (and_then o f) (and_then p g)
  then-alike (both_refused r) h = both_refused r
  then-alike (both_filed x) h = h _ _ x

  module _ (k : Machine S) (l : Machine T) (i : Similar k l R) where
    events-alike : (es : List Event) (s : S) (t : T) → R s t → Alike R (file_events k s es) (file_events l t es)
    unfolding file_events
    events-alike [] s t x = both_filed x
    events-alike (e ∷ es) s t x = then-alike (unless-alike _ _ _ _ (i.refusals s t x e) (i.leaves s t x e)) (events-alike es)

    pub report-alike : (before : List Condition) (report : List ℕ) (s : S) (t : T) → R s t → Alike R (file_report k s before report) (file_report l t before report)
    unfolding file_report
    report-alike before report s t x =
        then-alike (unless-alike (first (before ++ report_tests report)) _ s t refl (λ n. x)) (λ s t x.
        then-alike (events-alike (events_of (tokens_in (read_report report))) s t x) (λ s t x. unless-alike _ _ s t (i.ends s t x) (λ n. x)))
