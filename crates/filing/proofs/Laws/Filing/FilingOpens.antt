-- A report is too short for 65,535 elements: opens are left at each of its tokens, so it is never refused with 7; and which numbers it is
-- refused with.
use Prim.Native.Nat.{ℕ, ◌+◌, ◌*◌, ◌≤◌, ◌<◌}
use mathlib.Core.Path.{◌≡◌, refl, sym, ap, ◌∙◌, subst}
use mathlib.Core.Bool.{Bool, true, false, not, ◌||◌, or-false}
use mathlib.Core.Logic.{inl, inr}
use mathlib.Core.Option.{none, some}
use mathlib.Core.List.{List, [], ◌∷◌, ◌++◌, drop_last, Memᴰ}
use lib.Dec.{leb, eqb}
use lib.ListN.{length, length-append}
use borrow.Author.Tests.{lt-leb, eqb-true}
use native.Mathlib.Omega.{arith}
use Rattle.text.specs.Names.{Name}
use Rattle.notation.specs.Sets.{FolderSet}
use Rattle.text.specs.declared.refusals.Refusal.{Refusal}
use Rattle.text.specs.declared.refusals.Refusal.TheVariants.{TooLarge, InvalidByte, SyntaxError, OverCapacity, RepeatedAttribute}
use Rattle.text.specs.Refusals.{number_of}
use Rattle.text.specs.Lists.{every, any}
use Rattle.model.specs.Limits.{max_opens}
use Rattle.text.specs.Order.{Condition, holds, refusal_of, first}
use Rattle.model.specs.Calls.{State, open_names, fresh, refusal}
use Rattle.text.proofs.Laws.Tests.{clash}
use Rattle.text.proofs.Laws.Lists.{any-is}
use Rattle.model.proofs.Laws.Machine.Steps.{close-accepted-is, names-opened}
use Rattle.documents.specs.Tokens.{Token, declaration, comment, start_tag, empty_tag, end_tag, text, print_attributes, print_token, print_tokens, RunOfTokens}
use Rattle.documents.specs.Document.{Event, opening, closing, text_here, comment_here, events_of}
use Rattle.documents.specs.Code.Events.{passed}
use Rattle.documents.specs.Limits.{max_report_bytes}
use Rattle.filing.specs.Filing.{Outcome, refused, filed, number_given, event_order, end_order, event_leaves, file_events, file_end, file_tokens, Decided, shared_machine, Refused}
use Rattle.filing.specs.FiledReport.{report_numbers}
use Rattle.filing.specs.Code.Filing.{file_with}
use Rattle.text.proofs.Laws.Order.{first-has}
use Rattle.filing.proofs.Laws.Filing.FilingParts.{unless-refused, either-refused, events-refused}
use Rattle.filing.proofs.Laws.Filing.FilingOrder.{filing-is}
use Rattle.filing.proofs.Laws.Filing.FilingRun.{close-names, opened-opens, closed-opens}

-- what follows a tag's `<` is no shorter than the tag's end
tag-length : (n a s end : List ℕ) → length end ≤ length (n ++ (a ++ (s ++ end)))
tag-length n a s end = omega (arith, length-append n (a ++ (s ++ end)), length-append a (s ++ end), length-append s end)

-- each open is that of a tag of its own, and a tag has at least `<` and `>`
passed-short : (ts : List Token) (names : List Name) → 2 * length (passed names (events_of ts)) ≤ length (print_tokens ts)
unfolding events_of passed print_tokens print_token
passed-short [] names = omega arith
passed-short (declaration ∷ ts) names = omega (arith, passed-short ts names, length-append (print_token declaration) (print_tokens ts))
passed-short (comment c ∷ ts) names = omega (arith, passed-short ts names, length-append (print_token (comment c)) (print_tokens ts))
passed-short (start_tag n l s ∷ ts) names =
    omega (arith, passed-short ts (names ++ (n ∷ [])), tag-length n (print_attributes l) s (62 ∷ []), length-append (print_token (start_tag n l s)) (print_tokens ts))
passed-short (empty_tag n l s ∷ ts) names =
    omega (arith, passed-short ts (drop_last (names ++ (n ∷ []))), tag-length n (print_attributes l) s (47 ∷ 62 ∷ []), length-append (print_token (empty_tag n l s)) (print_tokens ts))
passed-short (end_tag n s ∷ ts) names = omega (arith, passed-short ts (drop_last names), length-append (print_token (end_tag n s)) (print_tokens ts))
passed-short (text ps ∷ ts) names = omega (arith, passed-short ts names, length-append (print_token (text ps)) (print_tokens ts))

abbrev among : ℕ → Bool
among n = any (λ k. eqb k n) report_numbers

is_among : (n : ℕ) → among n ≡ true → Memᴰ n report_numbers
is_among n h =
    let (k, i, e) = any-is (λ k. eqb k n) report_numbers h in
    subst (λ (x : ℕ). Memᴰ x report_numbers) (eqb-true k n e) i

-- opens are left while few enough are to come
abbrev Few : State → List Event → Type 0
Few m es = m.opens + length (passed (open_names m) es) < max_opens

module _ (set : FolderSet) where
  few-kept : (m : State) (e : Event) (es : List Event) → Few m (e ∷ es) → first (event_order (shared_machine set) m e) ≡ none → Few (event_leaves (shared_machine set) m e) es
  unfolding passed refusal
  few-kept m (opening e) es p ok = omega (arith, opened-opens set m e, ap (λ (l : List Name). length (passed l es)) (names-opened set m e))
  few-kept m (closing e) es p ok =
      omega (arith, closed-opens m.levels m, ap (λ (l : List Name). length (passed l es)) (close-names set m e ((close-accepted-is m e).1 ok)))
  few-kept m (text_here b) es p ok = p
  few-kept m (comment_here b) es p ok = p

  -- a condition whose number is among them, or that does not hold
  abbrev allowed : Condition → Bool
  allowed c = among (number_of (refusal_of c)) || not (holds c)

  order-among : (order : List Condition) (r : Refusal) → every allowed order ≡ true → first order ≡ some r → among (number_of r) ≡ true
  order-among order r h e = sym (or-false (among (number_of r))) ∙ first-has allowed order r h e

  event-allowed : (m : State) (e : Event) → leb max_opens m.opens ≡ false → every allowed (event_order (shared_machine set) m e) ≡ true
  unfolding every any
  event-allowed m (opening e) left = rw left
  event-allowed m (closing e) left = refl
  event-allowed m (text_here b) left = refl
  event-allowed m (comment_here b) left = refl

  event-among : (m : State) (e : Event) (es : List Event) (r : Refusal) → Few m (e ∷ es) → first (event_order (shared_machine set) m e) ≡ some r → among (number_of r) ≡ true
  event-among m e es r p h = order-among (event_order (shared_machine set) m e) r (event-allowed m e (lt-leb max_opens m.opens (omega arith))) h

  end-among : (m : State) (r : Refusal) → file_end (shared_machine set) m ≡ refused r → among (number_of r) ≡ true
  unfolding every any
  end-among m r h = order-among (end_order (shared_machine set) m) r refl (unless-refused _ m r h)

  module _ (bytes : List ℕ) where
    fresh-few : length bytes ≤ max_report_bytes → (run : RunOfTokens bytes) → Few (fresh set) (events_of run.tokens)
    unfolding fresh max_opens max_report_bytes
    fresh-few short run = omega (arith, passed-short run.tokens [], ap length run.prints)

    tokens-among : (r : Refusal) → length bytes ≤ max_report_bytes → (run : RunOfTokens bytes) → file_tokens (shared_machine set) (fresh set) run.tokens ≡ refused r → among (number_of r) ≡ true
    tokens-among r short run h =
        let es = events_of run.tokens in
        either-refused (file_events (shared_machine set) (fresh set) es) (file_end (shared_machine set)) r h
        (λ e. events-refused (shared_machine set) Few (λ q. among (number_of q)) event-among few-kept es (fresh set) r (fresh-few short run) e)
        (λ m e. end-among m r e)

    refused-among : (r : Refusal) → Refused set bytes r → among (number_of r) ≡ true
    unfolding any Decided
    refused-among r h =
        let is : (q : Refusal) → among (number_of q) ≡ true → ◌≡◌ {A = Outcome State} (refused r) (refused q) → among (number_of r) ≡ true = λ q k e. let same : r ≡ q = cc in ap (λ (x : Refusal). among (number_of x)) same ∙ k in
        elim h [
          | inl (l, e) ↦ is TooLarge refl e
          | inr (short, d) ↦ elim d [
            | inl (l, e) ↦ is InvalidByte refl e
            | inr (l, d) ↦ elim d [
              | inl (l, e) ↦ is SyntaxError refl e
              | inr (l, d) ↦ elim d [
                | inl (l, e) ↦ is RepeatedAttribute refl e
                | inr (l, (run, f)) ↦ tokens-among r (omega arith) run f
              ]
            ]
          ]
        ]

    pub never-full : Refused set bytes OverCapacity → ⊥
    unfolding any
    never-full h = clash (refused-among OverCapacity h) refl

    -- the number given is 0 or one with which a report is refused
    pub given-among : Memᴰ (number_given (file_with set bytes)) report_numbers
    unfolding any
    given-among = is_among (number_given (file_with set bytes)) (go (file_with set bytes) refl)
      where
        go : (x : Outcome State) → file_with set bytes ≡ x → among (number_given x) ≡ true
        go (refused r) e = refused-among r ((filing-is set bytes (refused r)).1 e)
        go (filed m) e = refl
