-- What acceptance tells, and induction over lists of calls.
use Prim.Native.Nat.{◌<◌}
use mathlib.Core.Path.{◌≡◌, refl, sym, ap, subst}
use mathlib.Core.Bool.{true, false, cond}
use mathlib.Core.List.{List, [], ◌∷◌, Memᴰ}
use borrow.Author.Tests.{leb-false, lt-leb, not-false}
use Rattle.text.specs.Names.{Name, name_form, too_long}
use Rattle.notation.specs.Sets.{FolderSet}
use Rattle.text.proofs.Laws.Bytes.SameName.{same_name-is}
use Rattle.model.specs.Limits.{max_depth, max_opens}
use Rattle.model.specs.Words.{Word}
use Rattle.text.specs.Order.{Condition, holds, first}
use Rattle.model.specs.Calls.{as_left, otherwise, Call, open_call, close_call, Level, level, State, depth, opened, closed_from, is_innermost, open_order, close_order, refusal, accepted, done, step, after}
use Rattle.model.specs.History.{accepted_after}
use Rattle.text.proofs.Laws.Tests.{cases, clash}
use Rattle.text.proofs.Laws.Order.{first-none, is-none}

-- what an accepted open tells
pub record Openable (s : State) (e : Name) : Type 0 where
  pub form : name_form e ≡ true
  pub short : too_long e ≡ false
  pub root : s.root_closed ≡ false
  pub shallow : depth s < max_depth
  pub few : s.opens < max_opens

pub open-accepted : (s : State) (e : Name) → accepted s (open_call as_left e) ≡ true → Openable s e
unfolding accepted refusal
open-accepted s e h =
    let u : (c : Condition) → Memᴰ c (open_order s e) → holds c ≡ false = (first-none (open_order s e)).0 (is-none (first (open_order s e)) h) in
    record {
      form = not-false (name_form e) (u _ (Memᴰ.head refl));
      short = u _ (Memᴰ.tail (Memᴰ.head refl));
      root = u _ (Memᴰ.tail (Memᴰ.tail (Memᴰ.head refl)));
      shallow = leb-false max_depth (depth s) (u _ (Memᴰ.tail (Memᴰ.tail (Memᴰ.tail (Memᴰ.head refl)))));
      few = leb-false max_opens s.opens (u _ (Memᴰ.tail (Memᴰ.tail (Memᴰ.tail (Memᴰ.tail (Memᴰ.head refl))))));
    }

pub accepted-open : (s : State) (e : Name) → Openable s e → accepted s (open_call as_left e) ≡ true
unfolding accepted refusal first
accepted-open s e o = rw (o.form, o.short, o.root, lt-leb max_depth (depth s) o.shallow, lt-leb max_opens s.opens o.few)

-- what an accepted close tells: the innermost element has its name
pub record Closable (s : State) (e : Name) : Type 0 where
  pub before : Word
  pub outer : List Level
  pub innermost : s.levels ≡ level e before ∷ outer

innermost-is : (levels : List Level) (e : Name) → is_innermost levels e ≡ true → (w : Word) × (outer : List Level) × (levels ≡ level e w ∷ outer)
innermost-is [] e h = clash h refl
innermost-is (level n w ∷ outer) e h = (w, outer, ap (λ (m : Name). level m w ∷ outer) ((same_name-is n e).0 h))

pub close-accepted : (s : State) (e : Name) → accepted s (close_call as_left e) ≡ true → Closable s e
unfolding accepted refusal
close-accepted s e h =
    let u : (c : Condition) → Memᴰ c (close_order s e) → holds c ≡ false = (first-none (close_order s e)).0 (is-none (first (close_order s e)) h) in
    let r = innermost-is s.levels e (not-false (is_innermost s.levels e) (u _ (Memᴰ.tail (Memᴰ.tail (Memᴰ.tail (Memᴰ.head refl)))))) in
    record { before = r.0; outer = r.1; innermost = r.2 }

pub lent-otherwise-open : (s : State) (e : Name) → accepted s (open_call otherwise e) ≡ false
unfolding accepted
lent-otherwise-open s e = refl

pub lent-otherwise-close : (s : State) (e : Name) → accepted s (close_call otherwise e) ≡ false
unfolding accepted
lent-otherwise-close s e = refl

-- what holds of a state with its accepted calls, and goes on holding at each accepted open and close, holds after every list of calls
module _ (set : FolderSet) (P : State → List Call → Type 0)
    (at_open : (s : State) (h : List Call) (e : Name) → Openable s e → P s h → P (opened set s e) (open_call as_left e ∷ h))
    (at-close : (s : State) (h : List Call) (e : Name) → (c : Closable s e) → P s h → P (closed_from (level e c.before ∷ c.outer) s) (close_call as_left e ∷ h)) where
  at-accepted : (s : State) (h : List Call) (call : Call) → accepted s call ≡ true → P s h → P (done set s call) (call ∷ h)
  at-accepted s h (open_call as_left e) a p = at_open s h e (open-accepted s e a) p
  at-accepted s h (open_call otherwise e) a p = clash a (lent-otherwise-open s e)
  at-accepted s h (close_call as_left e) a p =
      let c = close-accepted s e a in
      subst (λ (l : List Level). P (closed_from l s) (close_call as_left e ∷ h)) (sym c.innermost) (at-close s h e c p)
  at-accepted s h (close_call otherwise e) a p = clash a (lent-otherwise-close s e)

  at-step : (s : State) (h : List Call) (call : Call) → P s h → P (step set s call) (cond (accepted s call) (call ∷ h) h)
  unfolding step
  at-step s h call p = cases (accepted s call) (λ a. rw a (at-accepted s h call a p)) (λ a. rw a p)

  pub always : (calls : List Call) (s : State) (h : List Call) → P s h → P (after set s calls) (accepted_after set s h calls)
  unfolding after accepted_after
  always [] s h p = p
  always (call ∷ calls) s h p = always calls (step set s call) (cond (accepted s call) (call ∷ h) h) (at-step s h call p)
