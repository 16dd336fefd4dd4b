-- What filing a report gives is what is computed: so every report has one outcome, and no other.
use Prim.Native.Nat.{ℕ}
use mathlib.Core.Path.{◌≡◌, refl, sym, ap, ◌∙◌, subst}
use mathlib.Core.Logic.{◌↔◌, inl, inr}
use mathlib.Core.Bool.{Bool, true, false, not}
use mathlib.Core.Option.{Option, none, some}
use mathlib.Core.List.{List, [], ◌∷◌, ◌++◌, map}
use lib.ListN.{length}
use borrow.Author.Tests.{ltb-true, lt-ltb, not-true}
use Rattle.text.specs.Lists.{every, any}
use Rattle.notation.specs.Sets.{FolderSet}
use Rattle.text.specs.declared.refusals.Refusal.{Refusal}
use Rattle.text.specs.declared.refusals.Refusal.TheVariants.{SyntaxError, RepeatedAttribute}
use Rattle.text.specs.Order.{Condition, gives, refusal_of, FirstOf, first, given}
use Rattle.model.specs.Calls.{State, fresh}
use Rattle.text.proofs.Laws.Tests.{clash, zero_one}
use Rattle.text.proofs.Laws.Order.{first-is, number-zero, unmet, later-unmet, first_then, first-before, first-has}
use Rattle.stored.specs.RunCalls.{start_conditions, start_refusal}
use Rattle.stored.specs.Demand3.{Left, started}
use Rattle.documents.specs.Limits.{max_report_bytes}
use Rattle.documents.specs.Tokens.{Token, listed, RunOfTokens}
use Rattle.text.specs.Read.{Read, fail, got}
use Rattle.documents.specs.Repeats.{Repeats, repeats_in}
use Rattle.documents.specs.Reading.{read_report}
use Rattle.documents.specs.Document.{Event, opening, closing, text_here, comment_here, events_of}
use Rattle.documents.proofs.Laws.Repeats.{repeats-is}
use Rattle.documents.proofs.Laws.Read.ReadSound.{found-run, run-found, none_found}
use Rattle.filing.specs.Filing.{Outcome, refused, filed, and_then, unless, Machine, event_order, end_order, file_events, file_tokens, Reason, reason, report_order, Decided, OutcomeOf, shared_machine, FilingGives, FiledWith}
use Rattle.filing.specs.ReportRefusals.{stored_machine, tested, ReportGives, of_lent}
use Rattle.filing.specs.Code.Filing.{is_no_run, tokens_in, report_tests, file_report, file_with}
use Rattle.filing.proofs.Laws.Filing.FilingParts.{unless-refused, either-refused, events-refused}

-- an event, and the end, is refused with the first of its order whose condition holds
pub refused-first : {S : Type 0} (order : List Condition) (s : S) (r : Refusal) → (unless (first order) s ≡ refused r) ↔ FirstOf order r
refused-first order s r = (λ e. (first-is order r).0 (unless-refused (first order) s r e), λ f. ap (λ (o : Option Refusal). unless o s) ((first-is order r).1 f))

-- reasons, each with its test
data Tests : List Reason → List Condition → Type 1 where
  no_tests : Tests [] []
  test : {holds : Type 0} {b : Bool} {r : Refusal} {later : List Reason} {tests : List Condition} → (b ≡ true) ↔ holds → Tests later tests
      → Tests (reason holds r ∷ later) (gives b r ∷ tests)

module _ {S : Type 0} (s : S) (k : S → Outcome S) (rest : Outcome S → Type 0) (o : Outcome S) where
  decided : {order : List Reason} {tests : List Condition} → Tests order tests → (first tests ≡ none → rest o ↔ (k s ≡ o)) → Decided order rest o ↔ (and_then (unless (first tests) s) k ≡ o)
  unfolding Decided first
  decided no_tests h = h refl
  decided (test {b = true} i t) h = (
    λ d. elim d [ inl (y, e) ↦ sym e | inr (n, e) ↦ absurd (n (i.0 refl)) ],
    λ e. inl (i.0 refl, sym e),
  )
  decided (test {b = false} i t) h =
      let later = decided t h in (
        λ d. elim d [ inl (y, e) ↦ clash (i.1 y) refl | inr (n, e) ↦ later.0 e ],
        λ e. inr (λ y. clash (i.1 y) refl, later.1 e),
      )

-- what is filed has passed each reason
module _ {S : Type 0} (rest : Outcome S → Type 0) (t : S) where
  decided-later : (order later : List Reason) → Decided (order ++ later) rest (filed t) → Decided later rest (filed t)
  unfolding Decided
  decided-later [] later d = d
  decided-later (reason holds r ∷ order) later (inl (y, e)) = zero_one (cc)
  decided-later (reason holds r ∷ order) later (inr (n, d)) = decided-later order later d

  decided-unmet : (holds : Type 0) (r : Refusal) (later : List Reason) → Decided (reason holds r ∷ later) rest (filed t) → holds → ⊥
  unfolding Decided
  decided-unmet holds r later (inl (y, e)) h = zero_one (cc)
  decided-unmet holds r later (inr (n, d)) h = n h

-- a filed report is a run of tokens that are all taken, and no tag of it repeats an attribute's name
pub filed-run : (set : FolderSet) (report : List ℕ) (m : State) → FiledWith set report m → (run : RunOfTokens report) × (file_tokens (shared_machine set) (fresh set) run.tokens ≡ filed m)
unfolding Decided
filed-run set report m f = decided-later (λ o. (run : RunOfTokens report) × (file_tokens (shared_machine set) (fresh set) run.tokens ≡ o)) m (report_order report) [] f

pub filed-unrepeated : (set : FolderSet) (report : List ℕ) (m : State) → FiledWith set report m → (run : RunOfTokens report) → Repeats run.tokens → ⊥
filed-unrepeated set report m f run again = decided-unmet _ m _ RepeatedAttribute [] (decided-later _ m (_ ∷ _ ∷ _ ∷ []) (_ ∷ []) f) (run, again)

both-tests : {order later : List Reason} {tests more : List Condition} → Tests order tests → Tests later more → Tests (order ++ later) (tests ++ more)
both-tests no_tests u = u
both-tests (test i t) u = test i (both-tests t u)

tested-tests : (tests : List Condition) → Tests (map tested tests) tests
tested-tests [] = no_tests
tested-tests (gives b r ∷ tests) = test (λ e. e, λ e. e) (tested-tests tests)

no_run : (report : List ℕ) (x : Read (List Token)) → read_report report ≡ x → (is_no_run x ≡ true) ↔ (RunOfTokens report → ⊥)
no_run report fail e = (λ h. none_found report e, λ h. refl)
no_run report (got ts r) e = (λ h. clash h refl, λ h. absurd (h (found-run report ts r e)))

-- the tokens of a report are those read
tokens-read : (report : List ℕ) (ts : List Token) (r : List ℕ) → read_report report ≡ got ts r → (run : RunOfTokens report) → ts ≡ run.tokens
tokens-read report ts r e run = let again = sym e ∙ run-found report run in cc

repeats-read : (report : List ℕ) (x : Read (List Token)) → read_report report ≡ x
    → (repeats_in (tokens_in x) ≡ true) ↔ ((run : RunOfTokens report) × Repeats run.tokens)
unfolding repeats_in any
repeats-read report fail e = (λ h. clash h refl, λ (run, q). absurd (none_found report e run))
repeats-read report (got ts r) e = (
  λ h. let run = found-run report ts r e in (run, subst Repeats (tokens-read report ts r e run) ((repeats-is ts).0 h)),
  λ (run, q). (repeats-is ts).1 (subst Repeats (sym (tokens-read report ts r e run)) q),
)

report-tests : (report : List ℕ) → Tests (report_order report) (report_tests report)
report-tests report =
    test (ltb-true max_report_bytes (length report), lt-ltb max_report_bytes (length report))
    (test (not-true (every listed report), λ h. ap not h)
    (test (no_run report (read_report report) refl)
    (test (repeats-read report (read_report report) refl) no_tests)))

tokens-found : {S : Type 0} (k : Machine S) (s : S) (report : List ℕ) (o : Outcome S) (x : Read (List Token)) → read_report report ≡ x → is_no_run x ≡ false
    → ((run : RunOfTokens report) × (file_tokens k s run.tokens ≡ o)) ↔ (file_tokens k s (tokens_in x) ≡ o)
tokens-found k s report o fail e h = clash refl h
tokens-found k s report o (got ts r) e h = (
  λ (run, f). ap (file_tokens k s) (tokens-read report ts r e run) ∙ f,
  λ f. let run = found-run report ts r e in (run, ap (file_tokens k s) (sym (tokens-read report ts r e run)) ∙ f),
)

outcome-is : {S : Type 0} (k : Machine S) (s : S) {before : List Reason} (tests : List Condition) → Tests before tests → (report : List ℕ) (o : Outcome S)
    → OutcomeOf k s before report o ↔ (file_report k s tests report ≡ o)
unfolding file_report
outcome-is k s tests t report o =
    decided s (λ t. file_tokens k t (tokens_in (read_report report))) _ o (both-tests t (report-tests report))
    (λ n. tokens-found k s report o (read_report report) refl (unmet _ SyntaxError _ (later-unmet (_ ∷ _ ∷ []) _ (later-unmet tests (report_tests report) n))))

-- with the shared machine of a set, and on what is stored
pub filing-is : (set : FolderSet) (report : List ℕ) (o : Outcome State) → FilingGives set report o ↔ (file_with set report ≡ o)
filing-is set report o = outcome-is _ (fresh set) [] no_tests report o

pub filing-only : (set : FolderSet) (report : List ℕ) (o p : Outcome State) → FilingGives set report o → FilingGives set report p → o ≡ p
filing-only set report o p f g = sym ((filing-is set report o).0 f) ∙ (filing-is set report p).0 g

pub report-is : (a run report : List ℕ) (o : Outcome Left) → ReportGives a run report o ↔ (file_report (stored_machine a) (started a run) (start_conditions a run) report ≡ o)
report-is a run report o = outcome-is (stored_machine a) (started a run) (start_conditions a run) (tested-tests (start_conditions a run)) report o

pub report-only : (a run report : List ℕ) (o p : Outcome Left) → ReportGives a run report o → ReportGives a run report p → o ≡ p
report-only a run report o p f g = sym ((report-is a run report o).0 f) ∙ (report-is a run report p).0 g

-- where the start is refused, so is the report; else its own conditions are all that is left
pub start-refused : (a run report : List ℕ) (r : Refusal) → first (start_conditions a run) ≡ some r → ReportGives a run report (refused r)
unfolding file_report
start-refused a run report r h = (report-is a run report (refused r)).1 (rw (first-before (start_conditions a run) (report_tests report) r h))

pub once-started : (a run report : List ℕ) → start_refusal a run ≡ 0
    → file_report (stored_machine a) (started a run) (start_conditions a run) report ≡ file_report (stored_machine a) (started a run) [] report
unfolding file_report start_refusal given
once-started a run report z = rw (first_then (start_conditions a run) (report_tests report) ((number-zero (first (start_conditions a run))).0 z))

-- 1 and 14 are the start's refusals, and none of the report's own
pub start-lent : (a run : List ℕ) (r : Refusal) → first (start_conditions a run) ≡ some r → of_lent r ≡ true
unfolding every
start-lent a run r h = first-has (λ c. of_lent (refusal_of c)) (start_conditions a run) r refl h

abbrev own : Condition → Bool
own c = not (of_lent (refusal_of c))

event-own : (a : List ℕ) (t : Left) (e : Event) → every own (event_order (stored_machine a) t e) ≡ true
unfolding every
event-own a t (opening n) = refl
event-own a t (closing n) = refl
event-own a t (text_here b) = refl
event-own a t (comment_here b) = refl

pub report-own : (a : List ℕ) (t : Left) (report : List ℕ) (r : Refusal) → file_report (stored_machine a) t [] report ≡ refused r → of_lent r ≡ false
unfolding file_report every
report-own a t report r h = not-true (of_lent r) (
    either-refused (unless (first (report_tests report)) t) _ r h (λ e. first-has own (report_tests report) r refl (unless-refused _ t r e)) (λ u e.
    either-refused (file_events (stored_machine a) u es) _ r e
    (λ g. events-refused (stored_machine a) (λ x l. Unit {0}) (λ q. not (of_lent q)) (λ x f l q p k. first-has own _ q (event-own a x f) k) (λ x f l p k. tt) es u r tt g)
    (λ v g. first-has own (end_order (stored_machine a) v) r refl (unless-refused _ v r g)))
    )
  where
    es : List Event
    es = events_of (tokens_in (read_report report))
