-- Current prefix and active steps are those of the names opened and not yet closed, so a fresh machine that is given only the opens of
-- those names answers the same.
use Prim.Native.Nat.{ℕ, suc, ◌+◌, ◌≤◌}
use mathlib.Core.Path.{◌≡◌, refl, sym, ◌∙◌, ap, subst}
use mathlib.Core.Bool.{true, false}
use mathlib.Core.Logic.{◌↔◌}
use mathlib.Core.List.{List, [], ◌∷◌, ◌++◌, append_assoc, append-nil, Memᴰ}
use native.Mathlib.Omega.{arith}
use lib.ListN.{length}
use Rattle.text.specs.Names.{Name, name_form, too_long}
use Rattle.notation.specs.Sets.{FolderSet}
use Rattle.notation.specs.Fit.{Active}
use Rattle.notation.specs.Activity.{active}
use Rattle.notation.proofs.Laws.Meaning.Fit.{active-is}
use Rattle.model.specs.Limits.{max_depth, max_opens}
use Rattle.model.specs.Prefix.{CurrentPrefix, prefix_of}
use Rattle.model.specs.Calls.{as_left, Call, open_call, State, open_names, depth, path_of_place, active_step, fresh, opened, after, run}
use Rattle.model.specs.History.{still_open, opens_of, SameAnswers}
use Rattle.model.proofs.Laws.Keywords.Prefix.{current-prefix}
use Rattle.model.proofs.Laws.Machine.Calls.{Openable, accepted-open}
use Rattle.model.proofs.Laws.Machine.Sound.{run-prefix, run-depth, run-names}
use Rattle.model.proofs.Laws.Machine.History.{run-names-counted}
use Rattle.model.proofs.Laws.Machine.Steps.{step-accepted, names-opened}

-- the current prefix is the one that paper 01 defines for the names opened and not yet closed
pub run-current-prefix : (set : FolderSet) (calls : List Call) → CurrentPrefix set (still_open set calls) (run set calls).current
run-current-prefix set calls =
    rw (run-prefix set calls) (subst (λ (names : List Name). CurrentPrefix set names (prefix_of set (open_names (run set calls)))) (run-names-counted set calls) (current-prefix set (open_names (run set calls))))

-- and so are the active steps
pub run-active : (set : FolderSet) (calls : List Call) (place k : ℕ) → (active_step set (run set calls) place k ≡ true) ↔ Active (path_of_place set place) k (still_open set calls)
run-active set calls place k =
    let e = ap (λ (names : List Name). active (path_of_place set place) k names) (run-names-counted set calls) in
    (λ h. (active-is (path_of_place set place) k (still_open set calls)).1 (sym e ∙ h), λ a. e ∙ (active-is (path_of_place set place) k (still_open set calls)).0 a)

after_open-is : (set : FolderSet) (s : State) (n : Name) (calls : List Call) → Openable s n → after set s (open_call as_left n ∷ calls) ≡ after set (opened set s n) calls
unfolding after
after_open-is set s n calls ok = ap (λ (t : State). after set t calls) (step-accepted set s (open_call as_left n) (accepted-open s n ok))

opened-depth : (set : FolderSet) (s : State) (n : Name) → (depth (opened set s n) ≡ suc (depth s)) × ((opened set s n).opens ≡ suc s.opens) × ((opened set s n).root_closed ≡ s.root_closed)
unfolding opened
opened-depth set s n = (refl, refl, refl)

-- from a state whose root is not closed, opens of well-formed names within the limits are all accepted
all-open : (set : FolderSet) (names : List Name) (s : State) → ((n : Name) → Memᴰ n names → (name_form n ≡ true) × (too_long n ≡ false)) → s.root_closed ≡ false
    → depth s + length names ≤ max_depth → s.opens + length names ≤ max_opens
    → (open_names (after set s (opens_of names)) ≡ open_names s ++ names) × ((after set s (opens_of names)).opens ≡ s.opens + length names)
unfolding after
all-open set [] s g r d o = (sym (append-nil (open_names s)), omega arith)
all-open set (n ∷ names) s g r d o =
    let ok : Openable s n = record { form = (g n (Memᴰ.head refl)).0; short = (g n (Memᴰ.head refl)).1; root = r; shallow = omega arith; few = omega arith } in
    let e = after_open-is set s n (opens_of names) ok in
    let t = opened-depth set s n in
    let q = all-open set names (opened set s n) (λ m k. g m (Memᴰ.tail k)) (t.2 ∙ r) (omega (arith, t.0)) (omega (arith, t.1)) in (
      ap open_names e ∙ (q.0 ∙ (ap (λ (l : List Name). l ++ names) (names-opened set s n) ∙ append_assoc (open_names s) (n ∷ []) names)),
      omega (arith, ap (λ (u : State). u.opens) e, q.1, t.1),
    )

fresh-open : (set : FolderSet) (names : List Name) → ((n : Name) → Memᴰ n names → (name_form n ≡ true) × (too_long n ≡ false)) → length names ≤ max_depth → (open_names (run set (opens_of names)) ≡ names) × ((run set (opens_of names)).opens ≡ length names)
unfolding fresh max_depth max_opens
fresh-open set names g l = let q = all-open set names (fresh set) g refl (omega arith) (omega arith) in (q.0, omega (arith, q.1))

-- a fresh machine given only the opens of the open names accepts them all
pub replay-names : (set : FolderSet) (calls : List Call) → open_names (run set (opens_of (open_names (run set calls)))) ≡ open_names (run set calls)
replay-names set calls = (fresh-open set (open_names (run set calls)) (run-names set calls) (run-depth set calls)).0

pub replay-opens : (set : FolderSet) (calls : List Call) → (run set (opens_of (open_names (run set calls)))).opens ≡ length (open_names (run set calls))
replay-opens set calls = (fresh-open set (open_names (run set calls)) (run-names set calls) (run-depth set calls)).1

-- names, prefix and active steps are the same after any two lists of calls that leave the same names open
pub answers-by-names : (set : FolderSet) (calls others : List Call) → open_names (run set calls) ≡ open_names (run set others) → SameAnswers set (run set calls) (run set others)
answers-by-names set calls others e = record {
  names = e;
  prefix = run-prefix set calls ∙ (ap (prefix_of set) e ∙ sym (run-prefix set others));
  steps = λ place k. ap (λ (names : List Name). active (path_of_place set place) k names) e;
}

-- so a fresh machine given only the opens of the open names answers the same
pub replay : (set : FolderSet) (calls : List Call) → SameAnswers set (run set calls) (run set (opens_of (open_names (run set calls))))
replay set calls = answers-by-names set calls (opens_of (open_names (run set calls))) (sym (replay-names set calls))
