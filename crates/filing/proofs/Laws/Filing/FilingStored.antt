-- Filing on what is stored of the shared machine is filing on the shared machine.
use Prim.Native.Nat.{ℕ}
use mathlib.Core.Path.{◌≡◌, refl, sym, ap, ◌∙◌, subst}
use mathlib.Core.Option.{Option, none, some}
use mathlib.Core.List.{List, []}
use lib.Dec.{eqb}
use lib.ListN.{drop}
use Rattle.text.specs.Names.{Name}
use Rattle.notation.specs.Sets.{FolderSet}
use Rattle.text.specs.declared.refusals.Refusal.{Refusal}
use Rattle.text.specs.Order.{first, number_in, given}
use Rattle.model.specs.Calls.{as_left, open_call, close_call, State, opened, closed, nothing_open, open_order, close_order, fresh, refusal, step}
use Rattle.model.proofs.Laws.Machine.Moves.{Few, fresh-few}
use Rattle.text.proofs.Laws.Order.{number-some, number-zero}
use Rattle.model.proofs.Laws.Machine.Steps.{open-accepted-is, close-accepted-is, step-accepted}
use Rattle.stored.specs.Run.{run_size}
use Rattle.stored.specs.RunCalls.{depth_of, open_others, open_refusal, close_others, close_refusal}
use Rattle.stored.specs.Demand3.{Left, started}
use Rattle.stored.specs.Usable.{Usable}
use Rattle.stored.proofs.Laws.Running.Means.{Means}
use Rattle.stored.proofs.Laws.Running.Following.{left_of, few-step, one-leaves, start_left}
use Rattle.stored.proofs.Laws.Shapes.Given.{open-others, close-others, lent-usable}
use Rattle.stored.proofs.Laws.Shapes.Passing.{stored-depth, long-enough, all-shaped, open-refused, close-refused, none_open}
use Rattle.documents.specs.Document.{Event, opening, closing, text_here, comment_here}
use Rattle.filing.specs.Filing.{event_order, event_leaves, shared_machine}
use Rattle.filing.specs.ReportRefusals.{stored_machine}
use Rattle.filing.specs.Code.Filing.{file_report, file_with}
use Rattle.filing.proofs.Laws.Filing.FilingAlike.{Alike, Similar, report-alike}

-- a state of the machine, and what is stored of it; `rest` are the bytes behind the run
abbrev pub Stores : FolderSet → List ℕ → State → Left → Type 0
Stores s rest st t = Few s st [] × (t ≡ left_of s rest st)

same-refusal : (x y : Option Refusal) → number_in x ≡ number_in y → x ≡ y
same-refusal x none e = (number-zero x).0 e
same-refusal x (some r) e = (number-some x r).0 e

module _ (s : FolderSet) (a : List ℕ) (means : Means s a) (rest : List ℕ) where
  module _ (st : State) (few : Few s st []) where
    abbrev t : Left
    t = left_of s rest st

    usable : Usable a t.bytes t.counters
    unfolding given first
    usable = lent-usable a t.bytes t.counters (rw (long-enough s a means st few rest, all-shaped s a means st few rest))

    nothing-open : eqb (depth_of t.bytes) 0 ≡ nothing_open st
    nothing-open = rw (stored-depth s a means st few rest) (none_open st.levels)

    open-same : (e : Name) → first (open_others t.bytes t.counters e) ≡ first (open_order st e)
    unfolding given refusal
    open-same e = same-refusal _ _ (sym (open-others a t.bytes t.counters e usable) ∙ open-refused s a means st few rest as_left e)

    close-same : (e : Name) → first (close_others t.bytes e) ≡ first (close_order st e)
    unfolding given refusal
    close-same e = same-refusal _ _ (sym (close-others a t.bytes t.counters e usable) ∙ close-refused s a means st few rest as_left e)

    order_same : (e : Event) → first (event_order (shared_machine s) st e) ≡ first (event_order (stored_machine a) t e)
    order_same (opening n) = sym (open-same n)
    order_same (closing n) = sym (close-same n)
    order_same (text_here b) = rw nothing-open
    order_same (comment_here b) = refl

    left-same : (e : Event) → first (event_order (shared_machine s) st e) ≡ none → Stores s rest (event_leaves (shared_machine s) st e) (event_leaves (stored_machine a) t e)
    unfolding refusal
    left-same (opening n) ok =
        let call = open_call as_left n in
        let is : step s st call ≡ opened s st n = step-accepted s st call ((open-accepted-is st n).1 ok) in
        let zero : open_refusal a t.bytes t.counters n ≡ 0 = open-refused s a means st few rest as_left n ∙ ap number_in ok in
        (subst (λ (x : State). Few s x []) is (few-step s st call few), rw (zero, is) at (one-leaves s a means rest st few call))
    left-same (closing n) ok =
        let call = close_call as_left n in
        let is : step s st call ≡ closed st = step-accepted s st call ((close-accepted-is st n).1 ok) in
        let zero : close_refusal a t.bytes t.counters n ≡ 0 = close-refused s a means st few rest as_left n ∙ ap number_in ok in
        (subst (λ (x : State). Few s x []) is (few-step s st call few), rw (zero, is) at (one-leaves s a means rest st few call))
    left-same (text_here b) ok = (few, refl)
    left-same (comment_here b) ok = (few, refl)

  similar : Similar (shared_machine s) (stored_machine a) (Stores s rest)
  similar = record {
    refusals = λ st t x e. rw x.1 (order_same st x.0 e);
    leaves = λ st t x e n. rw x.1 (left-same st x.0 e n);
    ends = λ st t x. rw (x.1, nothing-open st x.0);
  }

-- a report from a fresh run on
pub report-stored : (s : FolderSet) (a : List ℕ) → Means s a → (buffer report : List ℕ)
    → Alike (Stores s (drop run_size buffer)) (file_with s report) (file_report (stored_machine a) (started a buffer) [] report)
report-stored s a means buffer report =
    report-alike _ _ (similar s a means (drop run_size buffer)) [] report (fresh s) (started a buffer) (fresh-few s, start_left s a means buffer)
