-- A report that is taken: its calls are all accepted, they are its document's opens and closes in order, and these are balanced with one root.
use Prim.Native.Nat.{ℕ, suc, ◌+◌, ◌≤◌}
use mathlib.Core.Path.{◌≡◌, refl, sym, ap, ◌∙◌, subst}
use mathlib.Core.Bool.{Bool, true, false, not, ◌&&◌, ◌||◌, and-true, or-false, or_assoc}
use mathlib.Core.Option.{none}
use mathlib.Core.List.{List, [], ◌∷◌, ◌++◌, map, drop_last}
use lib.Dec.{eqb, ltb}
use lib.ListN.{length}
use borrow.Author.Tests.{lt-ltb, eqb-false, not-false}
use native.Mathlib.Omega.{arith}
use Rattle.text.specs.Names.{Name}
use Rattle.text.specs.Lists.{every, non_empty, any}
use Rattle.notation.specs.Sets.{FolderSet}
use Rattle.text.specs.declared.refusals.Refusal.TheVariants.{NotOneRoot}
use Rattle.notation.specs.Activity.{fits}
use Rattle.text.proofs.Laws.Bytes.SameName.{same_name-is}
use Rattle.text.specs.Order.{first}
use Rattle.model.specs.Calls.{as_left, open_call, close_call, Level, level, name_of, State, open_names, path_of_place, nothing_open, fresh, opened, closed_from, closed, refusal, accepted, step, after}
use Rattle.model.proofs.Laws.Machine.Calls.{open-accepted, Closable, close-accepted}
use Rattle.model.proofs.Laws.Machine.Steps.{open-accepted-is, close-accepted-is, step-accepted, names-opened, step-close-names}
use Rattle.model.proofs.Laws.Machine.Sound.{Sound, fresh-sound, open-sound, close-sound}
use Rattle.documents.specs.Tokens.{blank}
use Rattle.documents.specs.Document.{Event, opening, closing, text_here, comment_here}
use Rattle.documents.specs.Code.Events.{balanced, passed}
use Rattle.filing.specs.Filing.{filed, event_order, end_order, event_leaves, file_event, file_events, shared_machine, calls_in, all_accepted}
use Rattle.text.proofs.Laws.Tests.{zero_one, both_true, neither}
use Rattle.documents.proofs.Laws.Trees.Passed.{last_off}
use Rattle.text.proofs.Laws.Order.{unmet}
use Rattle.filing.proofs.Laws.Filing.FilingParts.{unless-filed, both-filed}
use Rattle.model.proofs.Laws.Machine.Matches.{opened-matched, closed-matched}

-- what holds at the end, and of each event if of those after it, holds of all events that are taken
module _ (set : FolderSet) (P : State → List Event → State → Type 0)
    (at-end : (n : State) → P n [] n)
    (at_open : (m n : State) (e : Name) (es : List Event) → accepted m (open_call as_left e) ≡ true → P (opened set m e) es n → P m (opening e ∷ es) n)
    (at-close : (m n : State) (e : Name) (es : List Event) → accepted m (close_call as_left e) ≡ true → P (closed m) es n → P m (closing e ∷ es) n)
    (at-text : (m n : State) (b : List ℕ) (es : List Event) → (nothing_open m && not (every blank b)) ≡ false → P m es n → P m (text_here b ∷ es) n)
    (at-comment : (m n : State) (b : List ℕ) (es : List Event) → P m es n → P m (comment_here b ∷ es) n) where
  at-event : (e : Event) (es : List Event) (m n : State) → first (event_order (shared_machine set) m e) ≡ none → P (event_leaves (shared_machine set) m e) es n → P m (e ∷ es) n
  unfolding refusal
  at-event (opening e) es m n ok p = at_open m n e es ((open-accepted-is m e).1 ok) p
  at-event (closing e) es m n ok p = at-close m n e es ((close-accepted-is m e).1 ok) p
  at-event (text_here b) es m n ok p = at-text m n b es (unmet (nothing_open m && not (every blank b)) NotOneRoot [] ok) p
  at-event (comment_here b) es m n ok p = at-comment m n b es p

  pub taken : (es : List Event) (m n : State) → file_events (shared_machine set) m es ≡ filed n → P m es n
  unfolding file_events
  taken [] m n h =
      let same : m ≡ n = cc in
      subst (λ (x : State). P x [] n) (sym same) (at-end n)
  taken (e ∷ es) m n h =
      let (m₂, f, g) = both-filed (file_event (shared_machine set) m e) (λ m₂. file_events (shared_machine set) m₂ es) n h in
      let (ok, is) = unless-filed (first (event_order (shared_machine set) m e)) (event_leaves (shared_machine set) m e) m₂ f in
      at-event e es m n ok (subst (λ (x : State). P x es n) (sym is) (taken es m₂ n g))

-- the machine at the end is the machine after the calls, and these are all accepted
pub taken-after : (set : FolderSet) (es : List Event) (m n : State) → file_events (shared_machine set) m es ≡ filed n → after set m (calls_in es) ≡ n
unfolding after calls_in
taken-after set =
    taken set (λ m es n. after set m (calls_in es) ≡ n) (λ n. refl)
    (λ m n e es a p. ap (λ (x : State). after set x (calls_in es)) (step-accepted set m (open_call as_left e) a) ∙ p)
    (λ m n e es a p. ap (λ (x : State). after set x (calls_in es)) (step-accepted set m (close_call as_left e) a) ∙ p)
    (λ m n b es l p. p)
    (λ m n b es p. p)

pub taken-accepted : (set : FolderSet) (es : List Event) (m n : State) → file_events (shared_machine set) m es ≡ filed n → all_accepted set m (calls_in es) ≡ true
unfolding all_accepted calls_in
taken-accepted set =
    taken set (λ m es n. all_accepted set m (calls_in es) ≡ true) (λ n. refl)
    (λ m n e es a p. both_true a (ap (λ (x : State). all_accepted set x (calls_in es)) (step-accepted set m (open_call as_left e) a) ∙ p))
    (λ m n e es a p. both_true a (ap (λ (x : State). all_accepted set x (calls_in es)) (step-accepted set m (close_call as_left e) a) ∙ p))
    (λ m n b es l p. p)
    (λ m n b es p. p)

-- Balance: the open names and whether there was an open are those of the machine

abbrev at : State → List Event → Bool
at m es = balanced (map name_of m.levels) (ltb 0 m.opens) es

end-balanced : (levels : List Level) (opens : ℕ) → (eqb opens 0 || not (not (non_empty levels))) ≡ false → balanced (map name_of levels) (ltb 0 opens) [] ≡ true
unfolding balanced
end-balanced [] opens h =
    let some-open : eqb opens 0 ≡ false = (neither (eqb opens 0) false h).0 in
    lt-ltb 0 opens (omega (arith, eqb-false opens 0 some-open))
end-balanced (l ∷ levels) opens h = zero_one (let z = (neither (eqb opens 0) true h).1 in cc)

open-balanced : (levels : List Level) (opens : ℕ) (e : Name) (es : List Event) → (ltb 0 opens && not (non_empty levels)) ≡ false → length levels ≤ opens
    → balanced (e ∷ map name_of levels) true es ≡ true → balanced (map name_of levels) (ltb 0 opens) (opening e ∷ es) ≡ true
unfolding balanced
open-balanced [] opens e es root h p =
    let unseen : ltb 0 opens ≡ false = sym (and-true (ltb 0 opens)) ∙ root in
    rw unseen p
open-balanced (level n w ∷ levels) opens e es root h p =
    let seen : ltb 0 opens ≡ true = lt-ltb 0 opens (omega arith) in
    rw seen p

text-balanced : (levels : List Level) (seen : Bool) (b : List ℕ) (es : List Event) → (not (non_empty levels) && not (every blank b)) ≡ false
    → balanced (map name_of levels) seen es ≡ true → balanced (map name_of levels) seen (text_here b ∷ es) ≡ true
unfolding balanced
text-balanced [] seen b es h p = both_true (not-false (every blank b) h) p
text-balanced (level n w ∷ levels) seen b es h p = p

comment-balanced : (levels : List Level) (seen : Bool) (b : List ℕ) (es : List Event)
    → balanced (map name_of levels) seen es ≡ true → balanced (map name_of levels) seen (comment_here b ∷ es) ≡ true
unfolding balanced
comment-balanced [] seen b es p = p
comment-balanced (level n w ∷ levels) seen b es p = p

abbrev Balances : FolderSet → State → List Event → State → Type 0
Balances set m es n = Sound set m → first (end_order (shared_machine set) n) ≡ none → at m es ≡ true

balance-open : (set : FolderSet) (m n : State) (e : Name) (es : List Event) → accepted m (open_call as_left e) ≡ true
    → Balances set (opened set m e) es n → Balances set m (opening e ∷ es) n
unfolding opened
balance-open set m n e es a p g u =
    let o = open-accepted m e a in
    open-balanced m.levels m.opens e es (sym g.root ∙ o.root) (omega (arith, g.balance))
    (ap (λ (b : Bool). balanced (e ∷ map name_of m.levels) b es) (sym (lt-ltb 0 (suc m.opens) (omega arith))) ∙ p (open-sound set m e o g) u)

close_at : (m : State) (e : Name) (c : Closable m e) (es : List Event) → at (closed_from (level e c.before ∷ c.outer) m) es ≡ true → at m (closing e ∷ es) ≡ true
unfolding closed_from balanced
close_at m e c es q = rw (c.innermost, (same_name-is e e).1 refl) q

balance-close : (set : FolderSet) (m n : State) (e : Name) (es : List Event) → accepted m (close_call as_left e) ≡ true
    → Balances set (closed m) es n → Balances set m (closing e ∷ es) n
balance-close set m n e es a p g u =
    let c = close-accepted m e a in
    let is : closed m ≡ closed_from (level e c.before ∷ c.outer) m = ap (λ (l : List Level). closed_from l m) c.innermost in
    close_at m e c es (subst (λ (x : State). at x es ≡ true) is (p (subst (Sound set) (sym is) (close-sound set m e c g)) u))

taken-balanced : (set : FolderSet) (es : List Event) (m n : State) → file_events (shared_machine set) m es ≡ filed n → Balances set m es n
taken-balanced set =
    taken set (Balances set) (λ n g u. end-balanced n.levels n.opens (unmet _ NotOneRoot [] u)) (balance-open set) (balance-close set)
    (λ m n b es l p g u. text-balanced m.levels (ltb 0 m.opens) b es l (p g u))
    (λ m n b es p g u. comment-balanced m.levels (ltb 0 m.opens) b es (p g u))

-- from a fresh machine
pub fresh-balanced : (set : FolderSet) (es : List Event) (n : State) → file_events (shared_machine set) (fresh set) es ≡ filed n → first (end_order (shared_machine set) n) ≡ none → balanced [] false es ≡ true
unfolding fresh
fresh-balanced set es n h u = taken-balanced set es (fresh set) n h (fresh-sound set) u

-- Matches and opens: the open names right after each open are those passed

pub close-names : (set : FolderSet) (m : State) (e : Name) → accepted m (close_call as_left e) ≡ true → drop_last (open_names m) ≡ open_names (closed m)
close-names set m e a =
    ap drop_last (step-close-names set m e a) ∙ last_off (open_names (step set m (close_call as_left e))) e ∙ ap open_names (step-accepted set m (close_call as_left e) a)

pub opened-opens : (set : FolderSet) (m : State) (e : Name) → (opened set m e).opens ≡ suc m.opens
unfolding opened
opened-opens set m e = refl

pub closed-opens : (levels : List Level) (m : State) → (closed_from levels m).opens ≡ m.opens
unfolding closed_from
closed-opens [] m = refl
closed-opens (level n w ∷ outer) m = refl

pub taken-matched : (set : FolderSet) (place : ℕ) (es : List Event) (m n : State) → file_events (shared_machine set) m es ≡ filed n
    → n.matched place ≡ (m.matched place || any (fits (path_of_place set place)) (passed (open_names m) es))
unfolding any passed
taken-matched set place =
    taken set (λ m es n. n.matched place ≡ (m.matched place || any (fits (path_of_place set place)) (passed (open_names m) es)))
    (λ n. sym (or-false (n.matched place)))
    (λ m n e es a p.
    p ∙ ap (λ (b : Bool). b || any (fits (path_of_place set place)) (passed (open_names (opened set m e)) es)) (opened-matched set m e place)
    ∙ ap (λ (l : List Name). (m.matched place || fits (path_of_place set place) l) || any (fits (path_of_place set place)) (passed l es)) (names-opened set m e)
    ∙ or_assoc (m.matched place) (fits (path_of_place set place) (open_names m ++ (e ∷ []))) (any (fits (path_of_place set place)) (passed (open_names m ++ (e ∷ [])) es)))
    (λ m n e es a p.
    p ∙ ap (λ (b : Bool). b || any (fits (path_of_place set place)) (passed (open_names (closed m)) es)) (closed-matched m.levels m place)
    ∙ ap (λ (l : List Name). m.matched place || any (fits (path_of_place set place)) (passed l es)) (sym (close-names set m e a)))
    (λ m n b es l p. p)
    (λ m n b es p. p)

pub taken-opens : (set : FolderSet) (es : List Event) (m n : State) → file_events (shared_machine set) m es ≡ filed n → n.opens ≡ m.opens + length (passed (open_names m) es)
unfolding passed
taken-opens set =
    taken set (λ m es n. n.opens ≡ m.opens + length (passed (open_names m) es))
    (λ n. omega arith)
    (λ m n e es a p. omega (arith, p, opened-opens set m e, ap (λ (l : List Name). length (passed l es)) (names-opened set m e)))
    (λ m n e es a p. omega (arith, p, closed-opens m.levels m, ap (λ (l : List Name). length (passed l es)) (close-names set m e a)))
    (λ m n b es l p. p)
    (λ m n b es p. p)
