-- A path is matched exactly when it fitted right after some accepted open.
use Prim.Native.Nat.{ℕ, ◌<◌}
use mathlib.Core.Path.{◌≡◌, refl, sym, ◌∙◌, ap, subst}
use mathlib.Core.Bool.{true, false, ◌||◌}
use mathlib.Core.Logic.{◌⊎◌, inl, inr, ◌↔◌}
use mathlib.Core.List.{List, [], ◌∷◌, ◌++◌}
use native.Mathlib.Omega.{arith}
use lib.Dec.{ltb}
use lib.ListN.{length, get_or-eq_default}
use borrow.Author.Tests.{ltb-true, ltb-false}
use Rattle.text.specs.Names.{Name}
use Rattle.notation.specs.Sets.{Path, FolderSet}
use Rattle.notation.specs.Form.{paths_of}
use Rattle.notation.specs.Activity.{fits}
use Rattle.notation.proofs.Laws.Meaning.Fit.{fits-is}
use Rattle.model.specs.Calls.{as_left, otherwise, Call, open_call, close_call, Level, level, State, open_names, path_of_place, fresh, opened, closed_from, accepted, done, step, after, run}
use Rattle.model.specs.History.{FittedAfterOpen}
use Rattle.text.proofs.Laws.Tests.{cases, clash, either, either_left, either-right}
use Rattle.model.proofs.Laws.Machine.Calls.{lent-otherwise-open, lent-otherwise-close}
use Rattle.model.proofs.Laws.Machine.Steps.{step-accepted, step-refused, after-append, one_more-is}

-- this call is an accepted open, and the path fits right after it
pub record OpenFits (set : FolderSet) (s : State) (call : Call) (place : ℕ) : Type 0 where
  pub name : Name
  pub is_open : call ≡ open_call as_left name
  pub is_accepted : accepted s call ≡ true
  pub fitted : fits (path_of_place set place) (open_names (step set s call)) ≡ true

pub record SomeOpenFits (set : FolderSet) (s : State) (calls : List Call) (place : ℕ) : Type 0 where
  pub before : List Call
  pub call : Call
  pub later : List Call
  pub joined : before ++ (call ∷ later) ≡ calls
  pub fit : OpenFits set (after set s before) call place

-- a close changes no match
pub closed-matched : (levels : List Level) (s : State) (place : ℕ) → (closed_from levels s).matched place ≡ s.matched place
unfolding closed_from
closed-matched [] s place = refl
closed-matched (level n w ∷ outer) s place = refl

pub opened-matched : (set : FolderSet) (s : State) (e : Name) (place : ℕ) → (opened set s e).matched place ≡ (s.matched place || fits (path_of_place set place) (open_names (opened set s e)))
unfolding opened
opened-matched set s e place = refl

step-matched : (set : FolderSet) (s : State) (call : Call) (place : ℕ) → (step set s call).matched place ≡ true → (s.matched place ≡ true) ⊎ OpenFits set s call place
step-matched set s call place m = cases (accepted s call) (λ a. go call a m) (λ a. inl (ap (λ (t : State). t.matched place) (sym (step-refused set s call a)) ∙ m))
  where
    go : (call : Call) → accepted s call ≡ true → (step set s call).matched place ≡ true → (s.matched place ≡ true) ⊎ OpenFits set s call place
    go (open_call as_left e) a m =
        let e₁ = step-accepted set s (open_call as_left e) a in
        elim (either (s.matched place) (fits (path_of_place set place) (open_names (opened set s e))) (sym (opened-matched set s e place) ∙ (ap (λ (t : State). t.matched place) (sym e₁) ∙ m))) [
          | inl p ↦ inl p
          | inr q ↦ inr (record { name = e; is_open = refl; is_accepted = a; fitted = ap (λ (t : State). fits (path_of_place set place) (open_names t)) e₁ ∙ q })
        ]
    go (open_call otherwise e) a m = clash a (lent-otherwise-open s e)
    go (close_call as_left e) a m = inl (sym (closed-matched s.levels s place) ∙ (ap (λ (t : State). t.matched place) (sym (step-accepted set s (close_call as_left e) a)) ∙ m))
    go (close_call otherwise e) a m = clash a (lent-otherwise-close s e)

-- matches stay
step_stays : (set : FolderSet) (s : State) (call : Call) (place : ℕ) → s.matched place ≡ true → (step set s call).matched place ≡ true
step_stays set s call place m = cases (accepted s call) (λ a. ap (λ (t : State). t.matched place) (step-accepted set s call a) ∙ go call) (λ a. ap (λ (t : State). t.matched place) (step-refused set s call a) ∙ m)
  where
    go : (call : Call) → (done set s call).matched place ≡ true
    go (open_call l e) = opened-matched set s e place ∙ either_left (fits (path_of_place set place) (open_names (opened set s e))) m
    go (close_call l e) = closed-matched s.levels s place ∙ m

fits-matched : (set : FolderSet) (s : State) (call : Call) (place : ℕ) → OpenFits set s call place → (step set s call).matched place ≡ true
fits-matched set s call place o =
    let a : accepted s (open_call as_left o.name) ≡ true = subst (λ (c : Call). accepted s c ≡ true) o.is_open o.is_accepted in
    let q : fits (path_of_place set place) (open_names (step set s (open_call as_left o.name))) ≡ true = subst (λ (c : Call). fits (path_of_place set place) (open_names (step set s c)) ≡ true) o.is_open o.fitted in
    let e₁ = step-accepted set s (open_call as_left o.name) a in
    ap (λ (c : Call). (step set s c).matched place) o.is_open
    ∙ (ap (λ (t : State). t.matched place) e₁
    ∙ (opened-matched set s o.name place
    ∙ either-right (s.matched place) (ap (λ (t : State). fits (path_of_place set place) (open_names t)) (sym e₁) ∙ q)))

pub stays : (set : FolderSet) (calls : List Call) (s : State) (place : ℕ) → s.matched place ≡ true → (after set s calls).matched place ≡ true
unfolding after
stays set [] s place m = m
stays set (call ∷ calls) s place m = stays set calls (step set s call) place (step_stays set s call place m)

after-matched : (set : FolderSet) (calls : List Call) (s : State) (place : ℕ) → (after set s calls).matched place ≡ true → (s.matched place ≡ true) ⊎ SomeOpenFits set s calls place
unfolding after
after-matched set [] s place m = inl m
after-matched set (call ∷ calls) s place m = go (after-matched set calls (step set s call) place m)
  where
    go : ((step set s call).matched place ≡ true) ⊎ SomeOpenFits set (step set s call) calls place → (s.matched place ≡ true) ⊎ SomeOpenFits set s (call ∷ calls) place
    go (inl p) = elim (step-matched set s call place p) [
      | inl q ↦ inl q
      | inr o ↦ inr (record { before = []; call = call; later = calls; joined = refl; fit = o })
    ]
    go (inr f) = inr (record { before = call ∷ f.before; call = f.call; later = f.later; joined = ap (λ (l : List Call). call ∷ l) f.joined; fit = f.fit })

matched-after : (set : FolderSet) (calls : List Call) (s : State) (place : ℕ) → SomeOpenFits set s calls place → (after set s calls).matched place ≡ true
unfolding after
matched-after set calls s place f =
    ap (λ (l : List Call). (after set s l).matched place) (sym f.joined)
    ∙ (ap (λ (t : State). t.matched place) (after-append set s f.before (f.call ∷ f.later))
    ∙ stays set f.later (step set (after set s f.before) f.call) place (fits-matched set (after set s f.before) f.call place f.fit))

fresh-matched : (set : FolderSet) (place : ℕ) → (fresh set).matched place ≡ false
unfolding fresh
fresh-matched set place = refl

run-matched-open : (set : FolderSet) (calls : List Call) (place : ℕ) → ((run set calls).matched place ≡ true) ↔ SomeOpenFits set (fresh set) calls place
run-matched-open set calls place = (λ m. elim (after-matched set calls (fresh set) place m) [ inl p ↦ clash p (fresh-matched set place) | inr f ↦ f ], matched-after set calls (fresh set) place)

-- a path is matched exactly when it fitted right after some accepted open
pub run-matched : (set : FolderSet) (calls : List Call) (place : ℕ) → ((run set calls).matched place ≡ true) ↔ FittedAfterOpen set calls place
run-matched set calls place = (λ m. out ((run-matched-open set calls place).0 m), λ f. (run-matched-open set calls place).1 (into f))
  where
    path : Path
    path = path_of_place set place

    out : SomeOpenFits set (fresh set) calls place → FittedAfterOpen set calls place
    out f =
        let e = f.fit.name in
        let o = f.fit.is_open in
        record {
          before = f.before;
          name = e;
          later = f.later;
          joined = ap (λ (c : Call). f.before ++ (c ∷ f.later)) (sym o) ∙ f.joined;
          is_accepted = ap (accepted (run set f.before)) (sym o) ∙ f.fit.is_accepted;
          fitted = (fits-is path _).1 (ap (λ (s : State). fits path (open_names s)) (one_more-is set f.before (open_call as_left e)) ∙ (ap (λ (c : Call). fits path (open_names (step set (run set f.before) c))) (sym o) ∙ f.fit.fitted));
        }

    into : FittedAfterOpen set calls place → SomeOpenFits set (fresh set) calls place
    into f =
        let e = f.name in
        record {
          before = f.before;
          call = open_call as_left e;
          later = f.later;
          joined = f.joined;
          fit = record {
            name = e;
            is_open = refl;
            is_accepted = f.is_accepted;
            fitted = ap (λ (s : State). fits path (open_names s)) (sym (one_more-is set f.before (open_call as_left e))) ∙ (fits-is path _).0 f.fitted;
          };
        }

-- only a path that is there is matched
pub run-matched-there : (set : FolderSet) (calls : List Call) (place : ℕ) → (run set calls).matched place ≡ true → place < length (paths_of set)
run-matched-there set calls place m = cases (ltb place (length (paths_of set))) (λ t. ltb-true place (length (paths_of set)) t) (λ h.
    let f = (run-matched set calls place).0 m in
    let e : path_of_place set place ≡ [] = get_or-eq_default (paths_of set) [] (ltb-false place (length (paths_of set)) h) in
    absurd (omega (arith, f.fitted.there.0, f.fitted.there.1, ap length e)))
