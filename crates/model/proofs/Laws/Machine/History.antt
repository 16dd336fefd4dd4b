-- The state's counts are how many calls were accepted, and its open names those opened and not yet closed.
use Prim.Native.Nat.{ℕ, zero, suc}
use mathlib.Core.Path.{◌≡◌, refl, sym, ◌∙◌, ap}
use mathlib.Core.List.{List, [], ◌∷◌, map, reverse}
use lib.ListN.{drop}
use Rattle.text.specs.Names.{Name}
use Rattle.notation.specs.Sets.{FolderSet}
use Rattle.model.specs.Calls.{as_left, Call, open_call, close_call, Level, level, name_of, State, open_names, fresh, opened, closed_from, run}
use Rattle.model.specs.History.{accepted_calls, opens_in, closes_in, unclosed, still_open}
use Rattle.model.proofs.Laws.Machine.Calls.{Closable, always}

pub record Counted (s : State) (h : List Call) : Type 0 where
  pub opens : s.opens ≡ opens_in h
  pub closes : s.closes ≡ closes_in h
  pub names : (taken : ℕ) → unclosed taken h ≡ drop taken (map name_of s.levels)

drop-none : (taken : ℕ) → ◌≡◌ {A = List Name} [] (drop taken [])
drop-none zero = refl
drop-none (suc k) = refl

pub fresh-counted : (set : FolderSet) → Counted (fresh set) []
unfolding fresh opens_in closes_in unclosed
fresh-counted set = record { opens = refl; closes = refl; names = drop-none }

pub open-counted : (set : FolderSet) (s : State) (h : List Call) (e : Name) → Counted s h → Counted (opened set s e) (open_call as_left e ∷ h)
unfolding opened opens_in closes_in unclosed
open-counted set s h e t = record { opens = ap suc t.opens; closes = t.closes; names = more t.names }
  where
    more : ((taken : ℕ) → unclosed taken h ≡ drop taken (map name_of s.levels)) → (taken : ℕ) → unclosed taken (open_call as_left e ∷ h) ≡ drop taken (e ∷ map name_of s.levels)
    more f zero = ap (λ (l : List Name). e ∷ l) (f zero)
    more f (suc k) = f k

pub close-counted : (s : State) (h : List Call) (e : Name) (c : Closable s e) → Counted s h → Counted (closed_from (level e c.before ∷ c.outer) s) (close_call as_left e ∷ h)
unfolding closed_from opens_in closes_in unclosed
close-counted s h e c t = record {
  opens = t.opens;
  closes = ap suc t.closes;
  names = λ taken. t.names (suc taken) ∙ ap (λ (l : List Level). drop (suc taken) (map name_of l)) c.innermost;
}

counted : (set : FolderSet) (calls : List Call) → Counted (run set calls) (accepted_calls set calls)
counted set calls = always set Counted (λ s h e o t. open-counted set s h e t) (λ s h e c t. close-counted s h e c t) calls (fresh set) [] (fresh-counted set)

-- accepted opens and accepted closes are how many such calls the list has
pub run-opens-counted : (set : FolderSet) (calls : List Call) → (run set calls).opens ≡ opens_in (accepted_calls set calls)
run-opens-counted set calls = (counted set calls).opens

pub run-closes-counted : (set : FolderSet) (calls : List Call) → (run set calls).closes ≡ closes_in (accepted_calls set calls)
run-closes-counted set calls = (counted set calls).closes

-- the open names are the names opened and not yet closed, in order
pub run-names-counted : (set : FolderSet) (calls : List Call) → open_names (run set calls) ≡ still_open set calls
run-names-counted set calls = ap reverse (sym ((counted set calls).names zero))
