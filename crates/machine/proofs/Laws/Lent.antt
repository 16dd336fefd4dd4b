-- A call on lent counters: a function that copies the counters behind its `&mut`, passes them by value with slices of bytes, stores the
-- counters that the callee answers, and returns the answer. It meets whatever its callee says of the answer, the slices and the counters.
-- The slices stand before and after the counters, any number of them, by the lists of their kinds. One walk of the MIR, by hand, of any type
-- of the answer: what is about the slices is in `Slices`; the borrow of the counters is open over the call and closed at the stored value.
use mathlib.Core.Path.{◌≡◌, refl, subst}
use Prim.Native.Nat.{ℕ, suc}
use mathlib.Core.List.{[], ◌∷◌, ◌++◌, List}
use seplogic.Ra.Ura.{Ura}
use base.Fraction.{full_share}
use mir.Syntax.{named, Ty, Sym, Callee as Called, Fn, Local, local, value_local, ty_ref, ty_struct, tcons, tnil, mut, erased, place, field, deref, copy, assign, rv_opd, call, seq, return}
use mir.Val.{Val, vstruct, vcons, vnil}
use base.Logic.{SProp, ent, sep, ex, emp, id⊢}
use base.Fml.{Lft, Share, Fml, ftrue, fsep, flft, fbor, fres, fat}
use prog.Wp.{WpFn, Tables, no_local}
use types.Logic.{Logic, sem}
use contract.Monad.{fact}
use types.Kit.{Item, ‵, raw, some, later, ◌⊛◌, Goal, Step, step, ◌$◌, ◌∵◌, !, qed, move, keep, drop, use1, split, join, pick, rewrite, fsplit, fsplit3, fjoin, frame, await, updating, now as at_once, show, done}
use types.Run.{look, look_raw, init, store_raw, forget, stop, hop, fld, from, load, of_opd, and_then, no_more, assigns, land, returns, enter, alloc1, alloc0, params1, pass1, pass0, free1, free0}
use types.Part.{whole, sub, look_in}
use sound.WpLaws.{fm_of}
use denote.RattleType.{RattleType}
use denote.Laws.{Is, Typed, shows, Makes}
use types.SemTy.{Body}
use denote.Memory.{pointee, mem}
use denote.Ref.{MutBor, MutRef}
use denote.Steps.{only, opens, closes, owned, peeks, heard, nothing}
use denote.Struct.Steps.{spelt}
use denote.Struct.Laws as LL
use denote.Triple.Statement.{Contract, Triple}
use denote.Triple.Call.{calls_at}
use denote.Triple.Walked.{says}
use Rattle.stored.specs.declared.counters.Counters.{Counters}
use Rattle.stored.specs.contracts.counters.Counters as T
use Rattle.stored.proofs.counters.Counters.TheLaws as T'
use Rattle.machine.proofs.Laws.Slices.{Kinds, taken, onward, ready, handed, past, from-group, joined, env_of, lie, Ref, Each, Row, rest, swap, holds, flatly, spelled, held, values, onward-values, allocated, freed, told_in, taken_in, from_at, moved, readied, operands, Said, seen, lasting, ends, tokens}

-- a fact is had for what follows
infixr 0 ◌▸◌
abbrev ◌▸◌ : {X : Type 0} {Y : Type 1} → X → (X → Y) → Y
x ▸ k = k x

module _ (before after : Kinds) (τ : Ty) (ν : Sym) where
  -- the locals after the answer: the parameters; the callee's struct; what the slices before are passed on through; the counters by value; what the slices after are passed on through; the counters that the callee answers, to be stored
  abbrev others : List (List Local)
  others = taken before 0 ∷ (local (ty_ref (named (past (taken before 0) 0)) mut (pointee (T.the_row).written)) value_local ∷ []) ∷ taken after (suc (past (taken before 0) 0)) ∷ (local (ty_struct ν (tcons τ (tcons T'.mir tnil))) value_local ∷ []) ∷ onward before ∷ (local T'.mir value_local ∷ []) ∷ onward after ∷ (local T'.mir value_local ∷ []) ∷ []

  abbrev groups : List (List Local)
  groups = (local τ value_local ∷ []) ∷ others

  abbrev at : ℕ → ℕ → ℕ
  at = from-group groups

  abbrev lent_fn : Called → Fn
  lent_fn key = record {
    lifetimes = from-group others 3 0;
    outlives = [];
    ty_params = [];
    givens = 0;
    params = from-group others 3 0;
    locals = joined groups;
    body = ready before (at 1) (at 5) (seq (assign (place (at 6 0) []) (rv_opd (copy (place (at 2 0) (deref T'.mir ∷ []))))) (ready after (at 3) (at 7)
        (seq (call key (handed before (at 1) (at 5) (copy (place (at 6 0) []) ∷ handed after (at 3) (at 7) [])) (place (at 4 0) []))
        (seq (assign (place (at 8 0) []) (rv_opd (copy (place (at 4 0) (field 1 ∷ []))))) (seq (assign (place (at 2 0) (deref T'.mir ∷ [])) (rv_opd (copy (place (at 8 0) [])))) (seq (assign (place 0 []) (rv_opd (copy (place (at 4 0) (field 0 ∷ []))))) return))))));
  }

-- a contract over the tuples of `Slices`: where the slices are written out it is, by computing, the triple of the function's own signature and clauses
abbrev contract_of : {M : Type 1} {𝓤 : Ura M} (𝓛 : Logic 𝓤) {L S X Y : Type 0} → (L → S → Fml) → (L → X → Y → Fml) → (Y → List Val) → (R : RattleType) → (L → X → R.Denot → SProp 𝓤) → Contract 𝓤
contract_of {𝓤 = 𝓤} 𝓛 {L} {S} {X} {Y} toks own args R ensures = record {
  Ghost = (L × S × Unit {0} × X × Y) × Unit {0};
  args = λ y. args y.0.4;
  pre = λ y. sep 𝓤 (sep 𝓤 (sem 𝓛 (toks y.0.0 y.0.1)) (sem 𝓛 (own y.0.0 y.0.3 y.0.4))) (emp 𝓤);
  post = λ y v. 𝓛.H.⇛ (ex 𝓤 (λ (r : R.Denot). sep 𝓤 (sep 𝓤 (sem 𝓛 (toks y.0.0 y.0.1)) (sem 𝓛 (R.own_val r (v ∷ [])))) (ensures y.0.0 y.0.3 r)));
}

module _ (before after : Kinds) where
  -- what follows the slices before: the counters, lent or by value, and the slices after
  abbrev Tail : Type 0 → Type 0
  Tail X = Row X after (Unit {0})

  abbrev Refs : Type 0
  Refs = Each Ref after (Unit {0})

  abbrev Lasts : Type 0
  Lasts = Each Said after (Unit {0})

  abbrev without : {X Y : Type 0} → Y × X → X
  without z = z.1

  abbrev by_value : MutBor Counters × Refs → Counters × Refs
  by_value x = (x.0.now, x.1)

  abbrev tail-tokens : Tail Lft → Tail Share → Fml
  tail-tokens = tokens (λ (_ _ : Unit {0}). ftrue) after

  abbrev lent-tokens : Lft × Tail Lft → Share × Tail Share → Fml
  lent-tokens κ q = fsep (flft κ.0 q.0) (tail-tokens κ.1 q.1)

  abbrev lent-holds : Lft × Tail Lft → MutBor Counters × Refs → List Val × Tail (List Val) → Fml
  lent-holds κ x v = fsep ((MutRef erased κ.0 T.the_row).own_val x.0 v.0) (holds (λ (_ _ _ : Unit {0}). ftrue) after κ.1 x.1 v.1)

  abbrev by-holds : Tail Lft → Counters × Refs → List Val × Tail (List Val) → Fml
  by-holds κ x v = fsep ((T.the_row).own_val x.0 v.0) (holds (λ (_ _ _ : Unit {0}). ftrue) after κ x.1 v.1)

  abbrev mid-args : List Val × Tail (List Val) → List Val
  mid-args v = v.0 ++ flatly (λ (_ : Unit {0}). []) after v.1

  abbrev last_of : {Y X : Type 0} → (Y → X → Fml) → Tail Lft → Y × Refs → X × Lasts → Fml
  last_of c κ x w = fsep (c x.0 w.0) (lasting (λ (_ _ _ : Unit {0}). ftrue) after κ x.1 w.1)

  -- of the counters: their last value, and their borrow, closed
  abbrev lent-last : Lft → MutBor Counters → Counters → Fml
  lent-last κ x k = fsep (fres x.ghost_name ((T.the_row).coded.code k)) (fbor κ (Body (mem T.the_row) x.ref_ptr.0 x.ref_ptr.1 x.ghost_name))

  abbrev lent-lasts : Lft × Tail Lft → MutBor Counters × Refs → Counters × Lasts → Fml
  lent-lasts κ = last_of (lent-last κ.0) κ.1

  abbrev by-lasts : Tail Lft → Counters × Refs → Unit {0} × Lasts → Fml
  by-lasts = last_of (λ (_ : Counters) (_ : Unit {0}). ftrue)

  abbrev ends_of : {Y X : Type 0} → (X → Counters) → Y × Refs → X × Lasts → Counters × Refs
  ends_of c x w = (c w.0, ends (λ (_ _ : Unit {0}). tt) after x.1 w.1)

  abbrev stored : Counters → Unit {0} × Lasts → Counters × Lasts
  stored k w = (k, w.1)

  -- what is there at exit is what the callee says, with its counters for the lent ones
  ends-alike : (k : Counters) (ms : Kinds) (a : Each Ref ms (MutBor Counters × Refs)) (ws : Each Said ms (Unit {0} × Lasts))
      → ends (ends_of (λ (_ : Unit {0}). k)) ms (swap Ref by_value ms a) ws ≡ ends (ends_of (λ (c : Counters). c)) ms a (swap Said (stored k) ms ws)
  ends-alike k [] a ws = refl
  ends-alike k (m ∷ ms) a ws = λ i. (seen m a.0 ws.0, ends-alike k ms a.1 ws.1 i)

  -- the counters' part is taken out of what is had at entry, and put into what the callee asks and what is had at exit
  module _ {M : Type 1} {𝓤 : Ura M} {𝓛 : Logic 𝓤} {K : Type 0} where
    open 𝓛 use {H}

    tokens-out : K → (ms : Kinds) (κs : Row Lft ms (Lft × Tail Lft)) (qs : Row Share ms (Share × Tail Share)) {Γ : List (Item 𝓤)} {G : Goal 𝓤 H}
        → Step K 𝓛 (‵ (tokens tail-tokens ms (swap (λ _. Lft) without ms κs) (swap (λ _. Share) without ms qs)) ∷ ‵ (flft (rest (λ _. Lft) (Lft × Tail Lft) ms κs).0 (rest (λ _. Share) (Share × Tail Share) ms qs).0) ∷ Γ) G (‵ (tokens lent-tokens ms κs qs) ∷ Γ) G
    tokens-out t [] κs qs = step (λ s. fsplit t $ move t (1 ∷ 0 ∷ []) $ s)
    tokens-out t (m ∷ ms) κs qs = step (λ s. fsplit t $ move t (1 ∷ []) $ tokens-out t ms κs.1 qs.1 $ move t (2 ∷ 0 ∷ []) $ fjoin t $ s)

    tokens-in : K → (ms : Kinds) (κs : Row Lft ms (Lft × Tail Lft)) (qs : Row Share ms (Share × Tail Share)) {Γ : List (Item 𝓤)} {G : Goal 𝓤 H}
        → Step K 𝓛 (‵ (tokens lent-tokens ms κs qs) ∷ Γ) G (‵ (tokens tail-tokens ms (swap (λ _. Lft) without ms κs) (swap (λ _. Share) without ms qs)) ∷ ‵ (flft (rest (λ _. Lft) (Lft × Tail Lft) ms κs).0 (rest (λ _. Share) (Share × Tail Share) ms qs).0) ∷ Γ) G
    tokens-in t [] κs qs = step (λ s. move t (1 ∷ 0 ∷ []) $ fjoin t $ s)
    tokens-in t (m ∷ ms) κs qs = step (λ s. fsplit t $ move t (1 ∷ 2 ∷ []) $ tokens-in t ms κs.1 qs.1 $ move t (1 ∷ 0 ∷ []) $ fjoin t $ s)

    holds-in : K → (v : List Val × Tail (List Val)) (ms : Kinds) (κs : Row Lft ms (Lft × Tail Lft)) (a : Each Ref ms (MutBor Counters × Refs)) {Γ : List (Item 𝓤)} {G : Goal 𝓤 H}
        → Step K 𝓛 (‵ (holds by-holds ms (swap (λ _. Lft) without ms κs) (swap Ref by_value ms a) (spelled (MutBor Counters × Refs) v ms a)) ∷ Γ) G
        (‵ (held (Lft × Tail Lft) (MutBor Counters × Refs) ms κs a) ∷ ‵ (by-holds (rest (λ _. Lft) (Lft × Tail Lft) ms κs).1 (by_value (rest Ref (MutBor Counters × Refs) ms a)) v) ∷ Γ) G
    holds-in t v [] κs a = step (λ s. drop t $ s)
    holds-in t v (m ∷ ms) κs a = step (λ s. fsplit t $ move t (1 ∷ 2 ∷ []) $ holds-in t v ms κs.1 a.1 $ move t (1 ∷ 0 ∷ []) $ fjoin t $ s)

    lasting-in : K → (k : Counters) (ms : Kinds) (κs : Row Lft ms (Lft × Tail Lft)) (a : Each Ref ms (MutBor Counters × Refs)) (ws : Each Said ms (Unit {0} × Lasts)) {Γ : List (Item 𝓤)} {G : Goal 𝓤 H}
        → Step K 𝓛 (‵ (lasting lent-lasts ms κs a (swap Said (stored k) ms ws)) ∷ Γ) G
        (‵ (lasting by-lasts ms (swap (λ _. Lft) without ms κs) (swap Ref by_value ms a) ws) ∷ ‵ (lent-last (rest (λ _. Lft) (Lft × Tail Lft) ms κs).0 (rest Ref (MutBor Counters × Refs) ms a).0 k) ∷ Γ) G
    lasting-in t k [] κs a ws = step (λ s. fsplit t $ drop t $ move t (1 ∷ 0 ∷ []) $ fjoin t $ s)
    lasting-in t k (m ∷ ms) κs a ws = step (λ s. fsplit t $ move t (1 ∷ 2 ∷ []) $ lasting-in t k ms κs.1 a.1 ws.1 $ move t (1 ∷ 0 ∷ []) $ fjoin t $ s)

  -- an answer's type R, the callee's struct D of an answer and counters, and what both contracts say, of what is passed, the answer, and what is there at exit
  module _ (R D : RattleType) (τ : Ty) (ν : Sym) (key : Called) (ans : D.Denot → R.Denot) (cnt : D.Denot → Counters) (val : D.Denot → Val)
      (Says : Each Ref before (Counters × Refs) → R.Denot → Each Ref before (Counters × Refs) → Type 0)
      (fits : (r : R.Denot) (v : Val) → Is R r (v ∷ []) → Typed (τ ∷ []) (v ∷ []))
      (typed : (r : D.Denot) (v : Val) → Is D r (v ∷ []) → Typed (ty_struct ν (tcons τ (tcons T'.mir tnil)) ∷ []) (v ∷ []))
      (tells : (r : D.Denot) (v : Val) → Is D r (v ∷ []) → v ≡ vstruct (vcons (val r) (vcons (only (LL.vals T.the_type T'.the_laws (cnt r))) vnil)))
      (answered : (r : D.Denot) (v : Val) → Is D r (v ∷ []) → Is R (ans r) (val r ∷ []))
      (counted : (r : D.Denot) (v : Val) → Is D r (v ∷ []) → Is T.the_row (cnt r) (LL.vals T.the_type T'.the_laws (cnt r)))
    where
      abbrev vals : Counters → List Val
      vals = LL.vals T.the_type T'.the_laws

      module _ {M : Type 1} {𝓤 : Ura M} (𝓛 : Logic 𝓤) where
        abbrev lent_says : Row Lft before (Lft × Tail Lft) → Each Ref before (MutBor Counters × Refs) → R.Denot → Each Said before (Counters × Lasts) → SProp 𝓤
        lent_says κs a r ws = sep 𝓤 (sem 𝓛 (lasting lent-lasts before κs a ws)) (fact 𝓤 (Says (swap Ref by_value before a) r (ends (ends_of (λ (c : Counters). c)) before a ws)))

        abbrev by-says : Row Lft before (Tail Lft) → Each Ref before (Counters × Refs) → D.Denot → Each Said before (Unit {0} × Lasts) → SProp 𝓤
        by-says κs a r ws = sep 𝓤 (sem 𝓛 (lasting by-lasts before κs a ws)) (fact 𝓤 (Says a (ans r) (ends (ends_of (λ (_ : Unit {0}). cnt r)) before a ws)))

        abbrev Lent : Contract 𝓤
        Lent = contract_of 𝓛 (tokens lent-tokens before) (holds lent-holds before) (flatly mid-args before) R (λ κs a r. ex 𝓤 (lent_says κs a r))

        abbrev Callee : Contract 𝓤
        Callee = contract_of 𝓛 (tokens tail-tokens before) (holds by-holds before) (flatly mid-args before) D (λ κs a r. ex 𝓤 (by-says κs a r))

      module _ {M : Type 1} {𝓤 : Ura M} (𝓛 : Logic 𝓤) (makes : Makes 𝓛 R (Is R)) (𝓣 : Tables 𝓤 𝓛.H) (known : Triple 𝓤 (𝓣.C key) (Callee 𝓛))
          (κs : Row Lft before (Lft × Tail Lft)) (qs : Row Share before (Share × Tail Share)) (a : Each Ref before (MutBor Counters × Refs)) (vss : Row (List Val) before (List Val × Tail (List Val))) where
        open 𝓛 use {H}

        abbrev κ : Lft × Tail Lft
        κ = rest (λ _. Lft) (Lft × Tail Lft) before κs

        abbrev x : MutBor Counters × Refs
        x = rest Ref (MutBor Counters × Refs) before a

        abbrev v : List Val × Tail (List Val)
        v = (vals x.0.now, spelled (Unit {0}) tt after x.1)

        abbrev to-callee : (Callee 𝓛).Ghost
        to-callee = ((swap (λ _. Lft) without before κs, swap (λ _. Share) without before qs, tt, swap Ref by_value before a, spelled (MutBor Counters × Refs) v before a), tt)

        walk_of : ent 𝓤 ((Lent 𝓛).pre ((κs, qs, tt, a, vss), tt)) (WpFn 𝓤 H 𝓣.C 𝓣.Λ (lent_fn before after τ ν key) (flatly mid-args before vss) ((Lent 𝓛).post ((κs, qs, tt, a, vss), tt)))
        walk_of =
            qed 𝓛 ((‵ (tokens lent-tokens before κs qs) ⊛ ‵ (holds lent-holds before κs a vss)) ∷ ‵ ftrue ∷ []) ∵
            split ! $ tokens-out ! before κs qs $ enter ! 𝓣.C 𝓣.Λ (lent_fn before after τ ν key) (flatly mid-args before vss) _ $
            alloc1 ! (λ l₀. allocated ! (taken before 0) _ _ (λ bs. alloc1 ! (λ l₁. allocated ! (taken after (suc (past (taken before 0) 0))) _ _ (λ cs. alloc1 ! (λ l₂. allocated ! (onward before) _ _ (λ ds. alloc1 ! (λ l₃. allocated ! (onward after) _ _ (λ es. alloc1 ! (λ l₄.
            -- p says where each of the groups lies
            lie (no_local 𝓤 H) (groups before after τ ν) ((l₀, tt), (bs, ((l₁, tt), (cs, ((l₂, tt), (ds, ((l₃, tt), (es, ((l₄, tt), tt))))))))) ▸ λ p. alloc0 ! $ params1 ! $ move ! (2 ∷ 3 ∷ 4 ∷ 5 ∷ 6 ∷ 7 ∷ 8 ∷ 9 ∷ 10 ∷ 11 ∷ 12 ∷ 13 ∷ 14 ∷ 15 ∷ 16 ∷ 17 ∷ 18 ∷ 19 ∷ 20 ∷ 21 ∷ []) $ move ! (18 ∷ 12 ∷ []) $ taken_in ! lent-holds mid-args before 0 bs κs a vss $ fsplit ! $ told_in ! ((MutRef erased κ.0 T.the_row).own_val x.0) (flatly (λ (_ : Unit {0}). []) after (rest (λ _. List Val) (List Val × Tail (List Val)) before vss).1) (λ t. t.0) (λ _.
            move ! (14 ∷ []) $ pass1 ! (init ! 0 refl (tt, tt)) $ move ! (2 ∷ 13 ∷ []) $ taken_in ! (λ (_ _ _ : Unit {0}). ftrue) (λ (_ : Unit {0}). []) after (suc (past (taken before 0) 0)) cs κ.1 x.1 (rest (λ _. List Val) (List Val × Tail (List Val)) before vss).1 $ pass0 ! $ move ! (4 ∷ []) $ fsplit3 ! $ drop ! $
            keep ! (0 ∷ 1 ∷ 22 ∷ 6 ∷ 12 ∷ 3 ∷ 8 ∷ 5 ∷ 10 ∷ 14 ∷ 19 ∷ 7 ∷ 4 ∷ 21 ∷ 20 ∷ 18 ∷ 17 ∷ 16 ∷ 15 ∷ 13 ∷ 11 ∷ 9 ∷ 24 ∷ 25 ∷ []) $
            -- [what observes the counters; the borrow; its token; the slices before, and what they are passed on through; those after; _counters; their copy; the callee's struct; _0; what the slices own; their tokens; what frees the locals; the local of the counters to be stored, and what frees it]
            opens ! tt T.the_row {h = x.0.now} _ _ (λ vs. spelt ! T.the_row (Is T.the_row) (shows 𝓛 T.the_row) vals (LL.tells T.the_type T'.the_laws) full_share x.0.now vs _ _ $
            move ! (1 ∷ []) $ peeks ! T.the_row (Is T.the_row) (shows 𝓛 T.the_row) x.0.now (vals x.0.now) (λ was.
            -- [what they own; their cell; the open borrow; what observes and what holds their value; the slices before; …]
            move ! (5 ∷ 6 ∷ []) $ readied ! before (MutBor Counters × Refs) 0 bs ds (at before after τ ν 1) (at before after τ ν 5) a p.1.0 p.1.1.1.1.1.0 $
            assigns ! (of_opd ! (load ! (from_at ! p.1.1.0.0 (hop ! (look ! 9 refl) (stop !))) (look_raw ! 3 refl))) (from_at ! p.1.1.1.1.1.1.0.0 (stop !)) (init ! 10 refl ((LL.lawful T.the_type T'.the_laws 𝓛).typed x.0.now _ was).0) $
            move ! (7 ∷ 8 ∷ []) $ readied ! after (Unit {0}) (suc (past (taken before 0) 0)) cs es (at before after τ ν 3) (at before after τ ν 7) x.1 p.1.1.1.0 p.1.1.1.1.1.1.1.0 $
            -- the call: what the callee asks is put together
            move ! (4 ∷ 14 ∷ []) $ fjoin ! $ move ! (13 ∷ 0 ∷ []) $ holds-in ! v before κs a $ move ! (13 ∷ 0 ∷ []) $ join ! $ nothing ! $ move ! (1 ∷ 0 ∷ []) $ join ! $ use1 𝓛 (raw ((Callee 𝓛).pre to-callee)) (id⊢ 𝓤 _) $
            calls_at ! (fm_of 𝓤 H 𝓛.laws 𝓣) (Callee 𝓛) known to-callee (moved ! (3 ∷ 3 ∷ []) (2 ∷ 2 ∷ 2 ∷ []) refl (operands ! before (MutBor Counters × Refs) mid-args v 0 bs ds (at before after τ ν 1) (at before after τ ν 5) a p.1.0 p.1.1.1.1.1.0
            (and_then ! (load ! (from_at ! p.1.1.1.1.1.1.0.0 (stop !)) (look ! 10 refl)) (moved ! (3 ∷ 3 ∷ []) (2 ∷ 2 ∷ 2 ∷ []) refl
            (operands ! after (Unit {0}) (λ (_ : Unit {0}). []) tt (suc (past (taken before 0) 0)) cs es (at before after τ ν 3) (at before after τ ν 7) x.1 p.1.1.1.0 p.1.1.1.1.1.1.1.0 (no_more !)))))) (λ w.
            use1 𝓛 (later (some (λ (r : D.Denot). (‵ (tokens tail-tokens before to-callee.0.0 to-callee.0.1) ⊛ ‵ (D.own_val r (w ∷ []))) ⊛ some (λ ws. ‵ (lasting by-lasts before to-callee.0.0 to-callee.0.3 ws) ⊛ raw (fact 𝓤 (Says to-callee.0.3 (ans r) (ends (ends_of (λ (_ : Unit {0}). cnt r)) before to-callee.0.3 ws))))))) (id⊢ 𝓤 _) $
            await ! tt $ pick ! (λ r. split ! $ move ! (1 ∷ []) $ pick ! (λ ws. split ! $ move ! (1 ∷ []) $ heard ! (Says to-callee.0.3 (ans r) (ends (ends_of (λ (_ : Unit {0}). cnt r)) before to-callee.0.3 ws)) (λ e.
            move ! (1 ∷ []) $ split ! $ move ! (1 ∷ []) $ peeks ! D (Is D) (shows 𝓛 D) r (w ∷ []) (λ is.
            -- [the callee's struct; the tokens; what says the last values; the slices after and before; the counters' cell; …]
            land ! (from_at ! p.1.1.1.1.0.0 (stop !)) (init ! 13 refl (typed r w is).0) $ rewrite ! 13 (λ (u : Val). ‵ (fat full_share (ty_struct ν (tcons τ (tcons T'.mir tnil))) l₂ 0 u)) (tells r w is) refl $
            assigns ! (of_opd ! (load ! (from_at ! p.1.1.1.1.0.0 (fld ! refl (stop !))) (look_in ! 13 (sub ! 1 refl (whole !))))) (from_at ! p.1.1.1.1.1.1.1.1.0.0 (stop !)) (init ! 23 refl ((LL.lawful T.the_type T'.the_laws 𝓛).typed (cnt r) (vals (cnt r)) (counted r w is)).0) $
            assigns ! (of_opd ! (load ! (from_at ! p.1.1.1.1.1.1.1.1.0.0 (stop !)) (look ! 23 refl))) (from_at ! p.1.1.0.0 (hop ! (look ! 11 refl) (stop !))) (store_raw ! 7 refl ((LL.lawful T.the_type T'.the_laws 𝓛).typed (cnt r) (vals (cnt r)) (counted r w is)).0) $
            assigns ! (of_opd ! (load ! (from_at ! p.1.1.1.1.0.0 (fld ! refl (stop !))) (look_in ! 13 (sub ! 0 refl (whole !))))) (from ! (stop !)) (init ! 14 refl (fits (ans r) (val r) (answered r w is)).0) $
            owned ! T.the_row (Is T.the_row) (LL.makes T.the_type T'.the_plain 𝓛) (cnt r) (vals (cnt r)) (counted r w is) $ move ! (8 ∷ 0 ∷ 9 ∷ 10 ∷ 11 ∷ []) $ closes ! tt T.the_row (cnt r) (vals (cnt r)) _ _ $
            returns ! (look ! 13 refl) $ move ! (13 ∷ 14 ∷ 8 ∷ 15 ∷ 10 ∷ 16 ∷ 6 ∷ 17 ∷ 12 ∷ 18 ∷ 9 ∷ 19 ∷ 11 ∷ 20 ∷ 7 ∷ 21 ∷ 22 ∷ 23 ∷ []) $
            forget ! 0 refl $ free1 ! $ freed ! (env_of (taken before 0) bs) (values (MutBor Counters × Refs) before a) $ forget ! 0 refl $ free1 ! $ freed ! (env_of (taken after (suc (past (taken before 0) 0))) cs) (values (Unit {0}) after x.1) $
            forget ! 0 refl $ free1 ! $ freed ! (env_of (onward before) ds) (onward-values (MutBor Counters × Refs) before a) $ forget ! 0 refl $ free1 ! $ freed ! (env_of (onward after) es) (onward-values (Unit {0}) after x.1) $ forget ! 0 refl $ free1 ! $ free0 ! $
            -- [what observes the counters; the borrow; its token; the callee's struct; the tokens; what says the last values]
            updating ! $ at_once ! $ show ! (λ (r' : R.Denot). sep 𝓤 (sep 𝓤 (sem 𝓛 (tokens lent-tokens before κs qs)) (sem 𝓛 (R.own_val r' (val r ∷ [])))) (ex 𝓤 (lent_says 𝓛 κs a r'))) (ans r) $
            use1 𝓛 (‵ (fres x.0.ghost_name ((T.the_row).coded.code (cnt r)))) (𝓛.names.obs-res x.0.ghost_name ((T.the_row).coded.code (cnt r))) $ fjoin ! $ move ! (4 ∷ 0 ∷ []) $ lasting-in ! (cnt r) before κs a ws $ move ! (3 ∷ 1 ∷ []) $ tokens-in ! before κs qs $
            owned ! R (Is R) makes (ans r) (val r ∷ []) (answered r w is) $ move ! (1 ∷ 0 ∷ []) $ join ! $ frame ! $ keep ! (0 ∷ []) $ show ! (lent_says 𝓛 κs a (ans r)) (swap Said (stored (cnt r)) before ws) $
            says ! (subst (Says to-callee.0.3 (ans r)) (ends-alike (cnt r) before a ws) e) $ done !)))))))))))))))))

      pub lent-meets : {M : Type 1} {𝓤 : Ura M} (𝓛 : Logic 𝓤) → Makes 𝓛 R (Is R) → (𝓣 : Tables 𝓤 𝓛.H) → Triple 𝓤 (𝓣.C key) (Callee 𝓛) → Triple 𝓤 (WpFn 𝓤 𝓛.H 𝓣.C 𝓣.Λ (lent_fn before after τ ν key)) (Lent 𝓛)
      lent-meets 𝓛 makes 𝓣 known y = walk_of 𝓛 makes 𝓣 known y.0.0 y.0.1 y.0.3 y.0.4
