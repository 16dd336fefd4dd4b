-- Filing a report: its tokens in order, on a machine over any kind of state. The shared machine is one
-- such, and what is stored of it is another (ReportRefusals).
use Rattle.std.specs.Prelude.{ℕ, ◌<◌, ◌≡◌, Bool, true, false, not, ◌&&◌, ◌||◌, ◌⊎◌, List, [], ◌∷◌, ◌++◌, eqb, length}
use Rattle.std.proofs.Math.Option.{Option, none, some}
use Rattle.text.specs.Names.{Name}
use Rattle.notation.specs.Sets.{FolderSet}
use Rattle.text.specs.Lists.{every}
use Rattle.text.specs.declared.refusals.Refusal.{Refusal}
use Rattle.text.specs.declared.refusals.Refusal.TheVariants.{TooLarge, InvalidByte, SyntaxError, NotOneRoot, RepeatedAttribute}
use Rattle.text.specs.Refusals.{number_of}
use Rattle.text.specs.Order.{Condition, gives, first}
use Rattle.model.specs.Calls.{as_left, Call, open_call, close_call, State, fresh, accepted, step}
use Rattle.model.specs.Calls as calls
use Rattle.documents.specs.Limits.{max_report_bytes}
use Rattle.documents.specs.Tokens.{Token, blank, listed, RunOfTokens}
use Rattle.documents.specs.Repeats.{Repeats}
use Rattle.documents.specs.Document.{Event, opening, closing, text_here, comment_here, events_of}

-- refused, or filed with the state at the end
pub data Outcome (S : Type 0) : Type 0 where
  refused : Refusal → Outcome S
  filed : S → Outcome S

-- the number that is returned, 0 for a filed report
abbrev pub number_given : {S : Type 0} → Outcome S → ℕ
number_given (refused r) = number_of r
number_given (filed s) = 0

-- go on where nothing was refused
abbrev pub and_then : {S : Type 0} → Outcome S → (S → Outcome S) → Outcome S
and_then (refused r) k = refused r
and_then (filed s) k = k s

-- a refusal, if there is one, else the state
abbrev pub unless : {S : Type 0} → Option Refusal → S → Outcome S
unless none s = filed s
unless (some r) s = refused r

-- a machine over states S: the conditions of an open and of a close in their order, what one leaves that none of them refuses, and whether
-- no element is open, or none was opened yet
pub record Machine (S : Type 0) : Type 0 where
  pub open_order : S → Name → List Condition
  pub close_order : S → Name → List Condition
  pub opened : S → Name → S
  pub closed : S → S
  pub nothing_open : S → Bool
  pub no_root : S → Bool

module _ {S : Type 0} (k : Machine S) where
  -- an event's conditions: text outside the root is blank
  abbrev pub event_order : S → Event → List Condition
  event_order s (opening n) = k.open_order s n
  event_order s (closing n) = k.close_order s n
  event_order s (text_here b) = gives (k.nothing_open s && not (every blank b)) NotOneRoot ∷ []
  event_order s (comment_here b) = []

  -- what an event leaves that is not refused
  abbrev pub event_leaves : S → Event → S
  event_leaves s (opening n) = k.opened s n
  event_leaves s (closing n) = k.closed s
  event_leaves s (text_here b) = s
  event_leaves s (comment_here b) = s

  abbrev pub file_event : S → Event → Outcome S
  file_event s e = unless (first (event_order s e)) (event_leaves s e)

  unfoldable pub file_events : S → List Event → Outcome S
  file_events s [] = filed s
  file_events s (e ∷ es) = and_then (file_event s e) (λ t. file_events t es)

  -- at the end there was a root, and nothing is open
  abbrev pub end_order : S → List Condition
  end_order s = gives (k.no_root s || not (k.nothing_open s)) NotOneRoot ∷ []

  abbrev pub file_end : S → Outcome S
  file_end s = unless (first (end_order s)) s

  -- the tokens in order, each as what it is in the tree, and the end
  abbrev pub file_tokens : S → List Token → Outcome S
  file_tokens s ts = and_then (file_events s (events_of ts)) file_end

-- a refusal of a report as a whole, with its condition, which need not be a test
pub data Reason : Type 1 where
  reason : Type 0 → Refusal → Reason

abbrev pub report_order : List ℕ → List Reason
report_order report =
    reason (max_report_bytes < length report) TooLarge
    ∷ reason (every listed report ≡ false) InvalidByte
    ∷ reason (RunOfTokens report → ⊥) SyntaxError
    ∷ reason ((run : RunOfTokens report) × Repeats run.tokens) RepeatedAttribute
    ∷ []

-- refused with the first whose condition holds; where none does, as the rest says
unfoldable pub Decided : {S : Type 0} → List Reason → (Outcome S → Type 0) → Outcome S → Type 0
Decided [] rest o = rest o
Decided (reason holds r ∷ later) rest o = (holds × (o ≡ refused r)) ⊎ ((holds → ⊥) × Decided later rest o)

-- what filing a report from a state on gives: by the reasons before all others (1 and 14, of what is lent), by the report's, or by its tokens
abbrev pub OutcomeOf : {S : Type 0} → Machine S → S → List Reason → List ℕ → Outcome S → Type 0
OutcomeOf k s before report = Decided (before ++ report_order report) (λ o. (run : RunOfTokens report) × (file_tokens k s run.tokens ≡ o))

-- the shared machine of a set
abbrev pub shared_machine : FolderSet → Machine State
shared_machine set = record {
  open_order = calls.open_order;
  close_order = calls.close_order;
  opened = calls.opened set;
  closed = calls.closed;
  nothing_open = calls.nothing_open;
  no_root = λ m. eqb m.opens 0;
}

abbrev pub FilingGives : FolderSet → List ℕ → Outcome State → Type 0
FilingGives set report = OutcomeOf (shared_machine set) (fresh set) [] report

-- a report is refused so; and it is filed, with this machine at the end
abbrev pub Refused : FolderSet → List ℕ → Refusal → Type 0
Refused set report r = FilingGives set report (refused r)

abbrev pub FiledWith : FolderSet → List ℕ → State → Type 0
FiledWith set report m = FilingGives set report (filed m)

-- the opens and closes of events, in order; and whether the machine accepts a list of calls to the last
unfoldable pub calls_in : List Event → List Call
calls_in [] = []
calls_in (opening n ∷ es) = open_call as_left n ∷ calls_in es
calls_in (closing n ∷ es) = close_call as_left n ∷ calls_in es
calls_in (text_here b ∷ es) = calls_in es
calls_in (comment_here b ∷ es) = calls_in es

unfoldable pub all_accepted : FolderSet → State → List Call → Bool
all_accepted set m [] = true
all_accepted set m (call ∷ calls) = accepted m call && all_accepted set (step set m call) calls
