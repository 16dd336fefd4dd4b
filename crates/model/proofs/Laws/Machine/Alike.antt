-- Which calls are accepted, and which names are open, does not depend on the folder set.
use Prim.Native.Nat.{suc}
use mathlib.Core.Path.{◌≡◌, refl, sym, ◌∙◌, ap}
use mathlib.Core.Bool.{not}
use mathlib.Core.List.{List, [], ◌∷◌, map, reverse, nil≢cons, cons≢nil, head-eq_of_cons-eq, tail-eq_of_cons-eq}
use lib.ListN.{length}
use Rattle.text.specs.Names.{Name, same_name}
use Rattle.notation.specs.Sets.{FolderSet}
use Rattle.text.specs.Lists.{non_empty}
use Rattle.text.specs.Order.{first}
use Rattle.model.specs.Calls.{Call, open_call, close_call, Level, level, name_of, State, open_names, fresh, opened, closed_from, is_innermost, refusal, accepted, done, step, after, run}
use Rattle.text.proofs.Laws.Tests.{cases}
use Rattle.model.proofs.Laws.Machine.Steps.{step-accepted, step-refused}

-- all but prefixes, matches and failure moves
pub record Alike (s t : State) : Type 0 where
  pub names : map name_of s.levels ≡ map name_of t.levels
  pub root : s.root_closed ≡ t.root_closed
  pub opens : s.opens ≡ t.opens
  pub closes : s.closes ≡ t.closes

record AlikeLevels (l k : List Level) : Type 0 where
  count : length l ≡ length k
  some : non_empty l ≡ non_empty k
  inner : (e : Name) → is_innermost l e ≡ is_innermost k e

alike-levels : (l k : List Level) → map name_of l ≡ map name_of k → AlikeLevels l k
alike-levels [] [] h = record { count = refl; some = refl; inner = λ e. refl }
alike-levels [] (level n w ∷ k) h = absurd (nil≢cons h)
alike-levels (level n w ∷ l) [] h = absurd (cons≢nil h)
alike-levels (level n w ∷ l) (level m v ∷ k) h =
    let r = alike-levels l k (tail-eq_of_cons-eq h) in
    record { count = ap suc r.count; some = refl; inner = λ e. ap (λ (x : Name). same_name x e) (head-eq_of_cons-eq h) }

alike-accepted : (s t : State) → Alike s t → (call : Call) → accepted s call ≡ accepted t call
unfolding accepted refusal first
alike-accepted s t a (open_call l e) = let r = alike-levels s.levels t.levels a.names in rw (a.root, a.opens, r.count)
alike-accepted s t a (close_call l e) = let r = alike-levels s.levels t.levels a.names in rw (r.some, r.inner e)

alike-opened : (a b : FolderSet) (s t : State) (e : Name) → Alike s t → Alike (opened a s e) (opened b t e)
unfolding opened
alike-opened a b s t e k = record { names = ap (λ (l : List Name). e ∷ l) k.names; root = k.root; opens = ap suc k.opens; closes = k.closes }

alike-closed : (l k : List Level) (s t : State) → s.levels ≡ l → t.levels ≡ k → Alike s t → Alike (closed_from l s) (closed_from k t)
unfolding closed_from
alike-closed [] [] s t p q a = a
alike-closed [] (level m v ∷ k) s t p q a = absurd (nil≢cons (ap (map name_of) (sym p) ∙ (a.names ∙ ap (map name_of) q)))
alike-closed (level n w ∷ l) [] s t p q a = absurd (cons≢nil (ap (map name_of) (sym p) ∙ (a.names ∙ ap (map name_of) q)))
alike-closed (level n w ∷ l) (level m v ∷ k) s t p q a =
    let h : map name_of l ≡ map name_of k = tail-eq_of_cons-eq (ap (map name_of) (sym p) ∙ (a.names ∙ ap (map name_of) q)) in
    let r = alike-levels l k h in
    record { names = h; root = ap not r.some; opens = a.opens; closes = ap suc a.closes }

alike-step : (a b : FolderSet) (s t : State) (call : Call) → Alike s t → Alike (step a s call) (step b t call)
alike-step a b s t call k = cases (accepted s call)
    (λ h. rw (step-accepted a s call h, step-accepted b t call (sym (alike-accepted s t k call) ∙ h)) (go call))
    (λ h. rw (step-refused a s call h, step-refused b t call (sym (alike-accepted s t k call) ∙ h)) k)
  where
    go : (call : Call) → Alike (done a s call) (done b t call)
    go (open_call l e) = alike-opened a b s t e k
    go (close_call l e) = alike-closed s.levels t.levels s t refl refl k

alike-after : (a b : FolderSet) (calls : List Call) (s t : State) → Alike s t → Alike (after a s calls) (after b t calls)
unfolding after
alike-after a b [] s t k = k
alike-after a b (call ∷ calls) s t k = alike-after a b calls (step a s call) (step b t call) (alike-step a b s t call k)

alike-fresh : (a b : FolderSet) → Alike (fresh a) (fresh b)
unfolding fresh
alike-fresh a b = record { names = refl; root = refl; opens = refl; closes = refl }

pub run-alike : (a b : FolderSet) (calls : List Call) → Alike (run a calls) (run b calls)
run-alike a b calls = alike-after a b calls (fresh a) (fresh b) (alike-fresh a b)

pub same-accepted : (a b : FolderSet) (calls : List Call) (call : Call) → accepted (run a calls) call ≡ accepted (run b calls) call
same-accepted a b calls call = alike-accepted (run a calls) (run b calls) (run-alike a b calls) call

pub same_names : (a b : FolderSet) (calls : List Call) → open_names (run a calls) ≡ open_names (run b calls)
same_names a b calls = ap reverse (run-alike a b calls).names
