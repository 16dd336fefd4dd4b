-- What one call does: an accepted open puts its name after the open names, an accepted close takes the last away and undoes the open, a
-- refused call leaves all as it is.
use Prim.Native.Nat.{ℕ}
use mathlib.Core.Path.{◌≡◌, refl, sym, ◌∙◌, ap}
use mathlib.Core.Bool.{true, false}
use mathlib.Core.Logic.{◌↔◌}
use mathlib.Core.Option.{none, some}
use mathlib.Core.List.{List, [], ◌∷◌, ◌++◌, map, reverse-cons}
use Rattle.text.specs.Names.{Name}
use Rattle.notation.specs.Sets.{FolderSet}
use Rattle.text.specs.declared.refusals.Refusal.{Refusal}
use Rattle.text.specs.Refusals.{number_of}
use Rattle.text.specs.Order.{refusal_of, FirstOf}
use Rattle.model.specs.Calls.{as_left, Call, open_call, close_call, Level, name_of, State, names_of, open_names, fresh, opened, closed_from, closed, open_order, close_order, order_of, refusal, accepted, done, step, after, run}
use Rattle.text.proofs.Laws.Order.{first-is, is-none, none_is}
use Rattle.model.proofs.Laws.Machine.Calls.{Closable, close-accepted}

-- the orders, by number
pub open_order-is : (s : State) (e : Name) → map (λ c. number_of (refusal_of c)) (open_order s e) ≡ 9 ∷ 5 ∷ 10 ∷ 11 ∷ 7 ∷ []
open_order-is s e = refl

pub close-order : (s : State) (e : Name) → map (λ c. number_of (refusal_of c)) (close_order s e) ≡ 9 ∷ 5 ∷ 10 ∷ 12 ∷ []
close-order s e = refl

-- a call lent all as last left is refused with the first of its order whose condition holds
pub refusal_is : (s : State) (call : Call) (r : Refusal) → (refusal s call ≡ some r) ↔ FirstOf (order_of s call) r
unfolding refusal
refusal_is s call r = first-is (order_of s call) r

-- and is else accepted
pub open-accepted-is : (s : State) (e : Name) → (accepted s (open_call as_left e) ≡ true) ↔ (refusal s (open_call as_left e) ≡ none)
unfolding accepted
open-accepted-is s e = (is-none (refusal s (open_call as_left e)), none_is (refusal s (open_call as_left e)))

pub close-accepted-is : (s : State) (e : Name) → (accepted s (close_call as_left e) ≡ true) ↔ (refusal s (close_call as_left e) ≡ none)
unfolding accepted
close-accepted-is s e = (is-none (refusal s (close_call as_left e)), none_is (refusal s (close_call as_left e)))

pub step-accepted : (set : FolderSet) (s : State) (call : Call) → accepted s call ≡ true → step set s call ≡ done set s call
unfolding step
step-accepted set s call a = rw a

-- a refused call leaves the machine as it is
pub step-refused : (set : FolderSet) (s : State) (call : Call) → accepted s call ≡ false → step set s call ≡ s
unfolding step
step-refused set s call a = rw a

-- an accepted open puts its name after the open names
pub names-opened : (set : FolderSet) (s : State) (e : Name) → open_names (opened set s e) ≡ open_names s ++ (e ∷ [])
unfolding opened
names-opened set s e = reverse-cons e (map name_of s.levels)

pub step-open-names : (set : FolderSet) (s : State) (e : Name) → accepted s (open_call as_left e) ≡ true → open_names (step set s (open_call as_left e)) ≡ open_names s ++ (e ∷ [])
step-open-names set s e a = ap open_names (step-accepted set s (open_call as_left e) a) ∙ names-opened set s e

-- an accepted close takes the last of them away
names-closed : (s : State) (e : Name) (c : Closable s e) → open_names s ≡ open_names (closed s) ++ (e ∷ [])
unfolding closed_from
names-closed s e c =
    ap names_of c.innermost
    ∙ (reverse-cons e (map name_of c.outer)
    ∙ ap (λ (l : List Level). open_names (closed_from l s) ++ (e ∷ [])) (sym c.innermost))

pub step-close-names : (set : FolderSet) (s : State) (e : Name) → accepted s (close_call as_left e) ≡ true → open_names s ≡ open_names (step set s (close_call as_left e)) ++ (e ∷ [])
step-close-names set s e a = names-closed s e (close-accepted s e a) ∙ ap (λ (t : State). open_names t ++ (e ∷ [])) (sym (step-accepted set s (close_call as_left e) a))

-- a close brings back names (and with them active steps) and current prefix from before the open; matches and failure moves stay
pub record Undone (s t : State) : Type 0 where
  pub names : open_names t ≡ open_names s
  pub prefix : t.current ≡ s.current

pub close-undoes : (set : FolderSet) (s : State) (e : Name) → Undone s (closed (opened set s e))
unfolding opened closed_from
close-undoes set s e = record { names = refl; prefix = refl }

pub close-keeps : (set : FolderSet) (s : State) (e : Name) (place : ℕ) → ((closed (opened set s e)).matched place ≡ (opened set s e).matched place) × ((closed (opened set s e)).moves ≡ (opened set s e).moves)
unfolding opened closed_from
close-keeps set s e place = (refl, refl)

pub after-append : (set : FolderSet) (s : State) (xs ys : List Call) → after set s (xs ++ ys) ≡ after set (after set s xs) ys
unfolding after
after-append set s [] ys = refl
after-append set s (x ∷ xs) ys = after-append set (step set s x) xs ys

-- one call more
pub one_more-is : (set : FolderSet) (calls : List Call) (call : Call) → run set (calls ++ (call ∷ [])) ≡ step set (run set calls) call
unfolding after
one_more-is set calls call = after-append set (fresh set) calls (call ∷ [])
