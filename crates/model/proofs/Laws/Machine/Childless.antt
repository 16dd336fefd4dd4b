-- The failure moves counted are at most the depths of all childless elements added up. The moves down to a childless element are paid by
-- its depth: one open makes at most (length before + 1 − length after) of them.
use Prim.Native.Nat.{ℕ, suc, ◌+◌, ◌≤◌, pred}
use mathlib.Core.Path.{◌≡◌, refl, sym, ◌∙◌, ap, subst}
use mathlib.Core.Bool.{true, false}
use mathlib.Core.List.{List, [], ◌∷◌, map}
use native.Mathlib.Omega.{arith}
use lib.ListN.{length, length-map, length-reverse}
use Rattle.text.specs.Names.{Name}
use Rattle.notation.specs.Sets.{FolderSet}
use Rattle.model.specs.Walk.{walk, moves_of, arrived_at}
use Rattle.model.specs.Calls.{as_left, Call, open_call, close_call, level, name_of, State, open_names, depth, fresh, opened, closed_from, run}
use Rattle.model.specs.History.{accepted_calls, opens_in}
use Rattle.model.specs.Elements.{Element, element, Elements, elements, with_child, opening, closing, elements_of, open_elements, closed_elements, sum_depths, childless_depths}
use Rattle.model.proofs.Laws.Keywords.Walk.{walk-moves}
use Rattle.model.proofs.Laws.Machine.Calls.{Openable, Closable, always}
use Rattle.model.proofs.Laws.Machine.History.{run-opens-counted}
use Rattle.model.proofs.Laws.Machine.Sound.{Sound, fresh-sound, open-sound, close-sound, current-length}

-- `Paid gone moves prefix inner`: of the open elements only the innermost can be childless. While it is, the moves and the prefix, bar
-- its last symbol, are paid by the childless depths, `gone` being those of the closed elements; else the moves are
data Paid (gone moves prefix : ℕ) : List Element → Type 0 where
  settled : {inner : List Element} → sum_depths inner ≡ 0 → moves ≤ gone → Paid gone moves prefix inner
  pending : {d : ℕ} {outer : List Element} → d ≡ suc (length outer) → sum_depths outer ≡ 0 → moves + pred prefix ≤ d + gone → Paid gone moves prefix (element d true ∷ outer)

length-child : (inner : List Element) → length (with_child inner) ≡ length inner
length-child [] = refl
length-child (element d c ∷ outer) = refl

no-child : (inner : List Element) {gone moves prefix : ℕ} → Paid gone moves prefix inner → sum_depths (with_child inner) ≡ 0
unfolding sum_depths
no-child [] p = refl
no-child (element d true ∷ outer) (settled z m) = omega arith
no-child (element d false ∷ outer) (settled z m) = z
no-child (element d true ∷ outer) (pending e z m) = omega arith

abbrev AllPaid : Elements → ℕ → ℕ → ℕ → Type 0
AllPaid (elements inner gone) depth moves prefix = (length inner ≡ depth) × Paid (sum_depths gone) moves prefix inner

-- what an open costs: the moves k and the new prefix's length q, bar one, are paid by the old length p
pays : (inner : List Element) {gone m p : ℕ} (k q : ℕ) → p ≤ suc (length inner) → k + pred q ≤ p → Paid gone m p inner → m + k + pred q ≤ suc (length inner) + gone
pays inner k q l w (settled z m) = omega arith
pays (element d true ∷ outer) k q l w (pending e z m) = omega arith

open-paid : (es : Elements) (d m p k q : ℕ) → p ≤ suc d → k + pred q ≤ p → AllPaid es d m p → AllPaid (opening es) (suc d) (m + k) q
open-paid (elements inner gone) d m p k q l w a =
    (omega (arith, length-child inner, a.0), pending (ap suc (sym (length-child inner))) (no-child inner a.1) (pays inner k q (omega (arith, a.0)) w a.1))

close-paid : (es : Elements) (d m p q : ℕ) → AllPaid es (suc d) m p → AllPaid (closing es) d m q
unfolding sum_depths
close-paid (elements [] gone) d m p q a = absurd (omega (arith, a.0))
close-paid (elements (e ∷ outer) gone) d m p q a = (omega (arith, a.0), go e a.1)
  where
    go : (e : Element) → Paid (sum_depths gone) m p (e ∷ outer) → Paid (sum_depths (e ∷ gone)) m q outer
    go (element h true) (settled z l) = settled {inner = outer} (omega arith) (omega arith)
    go (element h false) (settled z l) = settled {inner = outer} (omega arith) (omega arith)
    go (element h true) (pending i z l) = settled z (omega arith)

paid : (es : Elements) (d m p : ℕ) → AllPaid es d m p → m ≤ childless_depths es
unfolding sum_depths
paid (elements inner gone) d m p a = go inner a.1
  where
    go : (inner : List Element) → Paid (sum_depths gone) m p inner → m ≤ sum_depths inner + sum_depths gone
    go inner (settled z l) = omega arith
    go (element h true ∷ outer) (pending i z l) = omega arith

-- depth, moves and prefix of a state against the elements of its accepted calls
abbrev Costs : FolderSet → State → List Call → Type 0
Costs set s h = Sound set s × AllPaid (elements_of h) (depth s) s.moves (length s.current)

fresh-costs : (set : FolderSet) → Costs set (fresh set) []
unfolding fresh elements_of sum_depths
fresh-costs set = (fresh-sound set, (refl, settled refl (omega arith)))

open-costs : (set : FolderSet) (s : State) (h : List Call) (e : Name) → Openable s e → Costs set s h → Costs set (opened set s e) (open_call as_left e ∷ h)
unfolding opened elements_of
open-costs set s h e o c =
    let w = walk set s.current e in
    (open-sound set s e o c.0, open-paid (elements_of h) (depth s) s.moves (length s.current) (moves_of w) (length (arrived_at w)) (current-length set s c.0) (walk-moves set s.current e) c.1)

close-costs : (set : FolderSet) (s : State) (h : List Call) (e : Name) (c : Closable s e) → Costs set s h → Costs set (closed_from (level e c.before ∷ c.outer) s) (close_call as_left e ∷ h)
unfolding closed_from elements_of
close-costs set s h e c k =
    let d : length s.levels ≡ suc (length c.outer) = ap length c.innermost in
    (close-sound set s e c k.0, close-paid (elements_of h) (length c.outer) s.moves (length s.current) (length c.before) (subst (λ (n : ℕ). AllPaid (elements_of h) n s.moves (length s.current)) d k.1))

costs : (set : FolderSet) (calls : List Call) → Costs set (run set calls) (accepted_calls set calls)
costs set calls = always set (Costs set) (open-costs set) (close-costs set) calls (fresh set) [] (fresh-costs set)

-- the failure moves counted are at most the depths of all childless elements added up
pub run-moves-childless : (set : FolderSet) (calls : List Call) → (run set calls).moves ≤ childless_depths (elements_of (accepted_calls set calls))
run-moves-childless set calls = let s = run set calls in paid (elements_of (accepted_calls set calls)) (depth s) s.moves (length s.current) (costs set calls).1

-- the open elements are as many as the open names
pub run-elements-open : (set : FolderSet) (calls : List Call) → length (open_elements (elements_of (accepted_calls set calls))) ≡ length (open_names (run set calls))
run-elements-open set calls =
    let s = run set calls in
    omega (arith, go (elements_of (accepted_calls set calls)) (costs set calls).1, length-reverse (map name_of s.levels), length-map s.levels name_of)
  where
    go : (es : Elements) → AllPaid es (depth (run set calls)) (run set calls).moves (length (run set calls).current) → length (open_elements es) ≡ depth (run set calls)
    go (elements inner gone) a = a.0

-- each accepted open opens an element of its own
counted-opens : (h : List Call) → length (open_elements (elements_of h)) + length (closed_elements (elements_of h)) ≡ opens_in h
unfolding elements_of opens_in
counted-opens [] = refl
counted-opens (open_call l n ∷ h) = go (elements_of h) (counted-opens h)
  where
    go : (es : Elements) → length (open_elements es) + length (closed_elements es) ≡ opens_in h → length (open_elements (opening es)) + length (closed_elements (opening es)) ≡ suc (opens_in h)
    go (elements inner gone) e = omega (arith, length-child inner)
counted-opens (close_call l n ∷ h) = go (elements_of h) (counted-opens h)
  where
    go : (es : Elements) → length (open_elements es) + length (closed_elements es) ≡ opens_in h → length (open_elements (closing es)) + length (closed_elements (closing es)) ≡ opens_in h
    go (elements [] gone) e = e
    go (elements (x ∷ inner) gone) e = omega arith

pub run-elements : (set : FolderSet) (calls : List Call) → let es = elements_of (accepted_calls set calls) in length (open_elements es) + length (closed_elements es) ≡ (run set calls).opens
run-elements set calls = counted-opens (accepted_calls set calls) ∙ sym (run-opens-counted set calls)
