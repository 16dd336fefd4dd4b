-- What an outcome comes from, over every kind of state.
use mathlib.Core.Path.{◌≡◌, refl, sym, ap, ◌∙◌}
use mathlib.Core.Bool.{Bool, true}
use mathlib.Core.Option.{Option, none, some}
use mathlib.Core.List.{List, [], ◌∷◌, ◌++◌}
use Rattle.text.specs.declared.refusals.Refusal.{Refusal}
use Rattle.text.specs.Refusals.{number_of}
use Rattle.text.proofs.Laws.Numbers.{one-refusal, some_number}
use Rattle.text.specs.Order.{first}
use Rattle.text.proofs.Laws.Tests.{zero_one}
use Rattle.documents.specs.Document.{Event}
use Rattle.filing.specs.Filing.{Outcome, refused, filed, number_given, and_then, unless, Machine, event_order, event_leaves, file_event, file_events}

module _ {S : Type 0} where
  pub given-refused : (o : Outcome S) (r : Refusal) → number_given o ≡ number_of r → o ≡ refused r
  given-refused (refused q) r e = ap refused (one-refusal q r e)
  given-refused (filed s) r e = absurd (some_number r (sym e))

  pub given-filed : (o : Outcome S) → number_given o ≡ 0 → (s : S) × (o ≡ filed s)
  given-filed (refused q) e = absurd (some_number q e)
  given-filed (filed s) e = (s, refl)

  pub unless-filed : (x : Option Refusal) (s t : S) → unless x s ≡ filed t → (x ≡ none) × (s ≡ t)
  unless-filed none s t e = (refl, cc)
  unless-filed (some r) s t e = zero_one (cc)

  pub unless-refused : (x : Option Refusal) (s : S) (r : Refusal) → unless x s ≡ refused r → x ≡ some r
  unless-refused none s r e = zero_one (cc)
  unless-refused (some q) s r e = cc

  pub both-filed : (o : Outcome S) (k : S → Outcome S) (t : S) → and_then o k ≡ filed t → (s : S) × (o ≡ filed s) × (k s ≡ filed t)
  both-filed (refused q) k t e = zero_one (cc)
  both-filed (filed s) k t e = (s, refl, e)

  pub either-refused : (o : Outcome S) (k : S → Outcome S) (r : Refusal) {X : Type 0} → and_then o k ≡ refused r → (o ≡ refused r → X) → ((s : S) → k s ≡ refused r → X) → X
  either-refused (refused q) k r e x y = x e
  either-refused (filed s) k r e x y = y s e

  pub then-filed : (o : Outcome S) → and_then o filed ≡ o
  then-filed (refused r) = refl
  then-filed (filed s) = refl

  pub then_same : (o : Outcome S) (k l : S → Outcome S) → ((s : S) → k s ≡ l s) → and_then o k ≡ and_then o l
  then_same (refused r) k l h = refl
  then_same (filed s) k l h = h s

  pub then-more : (o : Outcome S) (k l m : S → Outcome S) → ((s : S) → k s ≡ and_then (l s) m) → and_then o k ≡ and_then (and_then o l) m
  then-more (refused r) k l m h = refl
  then-more (filed s) k l m h = h s

  -- some events and then others
  pub events-append : (k : Machine S) (xs ys : List Event) (s : S) → file_events k s (xs ++ ys) ≡ and_then (file_events k s xs) (λ t. file_events k t ys)
  unfolding file_events
  events-append k [] ys s = refl
  events-append k (e ∷ xs) ys s =
      then-more (file_event k s e) (λ t. file_events k t (xs ++ ys)) (λ t. file_events k t xs) (λ t. file_events k t ys) (events-append k xs ys)

  -- what events are refused with, where each is refused only so while P holds, and each that is taken keeps P
  pub events-refused : (k : Machine S) (P : S → List Event → Type 0) (ok : Refusal → Bool)
      → ((s : S) (e : Event) (es : List Event) (r : Refusal) → P s (e ∷ es) → first (event_order k s e) ≡ some r → ok r ≡ true)
      → ((s : S) (e : Event) (es : List Event) → P s (e ∷ es) → first (event_order k s e) ≡ none → P (event_leaves k s e) es)
      → (es : List Event) (s : S) (r : Refusal) → P s es → file_events k s es ≡ refused r → ok r ≡ true
  unfolding file_events
  events-refused k P ok may keeps [] s r p h = zero_one (cc)
  events-refused k P ok may keeps (e ∷ es) s r p h =
      go (first (event_order k s e)) refl h (λ n g. events-refused k P ok may keeps es (event_leaves k s e) r (keeps s e es p n) g)
    where
      go : (x : Option Refusal) → first (event_order k s e) ≡ x → and_then (unless x (event_leaves k s e)) (λ t. file_events k t es) ≡ refused r
          → (first (event_order k s e) ≡ none → file_events k (event_leaves k s e) es ≡ refused r → ok r ≡ true) → ok r ≡ true
      go none n g later = later n g
      go (some q) n g later = let same : q ≡ r = cc in may s e es r p (n ∙ ap some same)
