-- Slices of bytes that a function passes on to its callee, any number of them, each shared (`imm`) or `&mut` (`mut`), by the list of their kinds:
-- their MIR, where their locals lie, what they own and say, and the steps of a walk by hand that are about them. A `&mut` slice is passed on
-- through two locals of its own, a pointer and a slice; a shared one as it is. All go to the callee for good, at their own lifetimes.
use mathlib.Core.Path.{◌≡◌, refl, sym, subst}
use Prim.Native.Nat.{ℕ, zero, suc}
use mathlib.Core.List.{[], ◌∷◌, ◌++◌, List}
use lib.ListN.{length, get_or}
use seplogic.Ra.Ura.{Ura}
use base.Fraction.{full_share}
use mir.Syntax.{named, w8, Ty, Local, Mutability, Body, Opd as Operand, Step as Hop, local, value_local, ty_int, ty_ref, imm, mut, erased, place, field, deref, copy, assign, addr_of, aggregate, seq}
use mir.Val.{Val, vptr}
use base.Logic.{ent, via, guard_i}
use base.Fml.{Lft, Share, Fml, ftrue, fsep, feq, flft, fbor, fat, froom, fdies}
use prog.Wp.{Calls, Loops, Env, Spot, no_local, walk}
use types.Logic.{Logic, sem}
use contract.Monad.{fact_use}
use types.Kit.{Item, ‵, given, ⋆, sel, sel⊢, Goal, runs, allocs, passes, frees, Post, Seq, Step, step, ◌$◌, ◌∵◌, !, qed, move, drop, use1, learn, rewrite, regoal, fsplit, fsplit3, fjoin, fjoin3, done}
use types.Run.{Walks, Finds, Opds, well_typed, look, init, forget, stop, hop, fld, load, addr, and_then, no_more, assigns, alloc1, pass1, free1}
use types.Part.{agg, whole, sub, look_in}
use denote.Shadow.{shadow, shows_shadow}
use denote.Builtin.{u8}
use types.SemTy.{Arr, Body as Behind}
use types.Hole.{Holey}
use denote.Memory.{mem}
use denote.Ref.{Bor, MutBor, at_last}
use denote.Slice.{slice_val, MutSlice, ShrSlice, Room, finally, slice_ty}
use denote.Steps.{nothing}

abbrev pub Kinds : Type 0
Kinds = List Mutability

-- ---- the MIR: the parameters of slices, from the lifetime j on
abbrev pub taken : Kinds → ℕ → List Local
taken [] j = []
taken (m ∷ ms) j = local (slice_ty (ty_ref (named j) m (ty_int w8))) value_local ∷ taken ms (suc j)

-- the locals through which the `&mut` ones are passed on
abbrev pub onward : Kinds → List Local
onward [] = []
onward (imm ∷ ms) = onward ms
onward (mut ∷ ms) = local (ty_ref erased mut (ty_int w8)) value_local ∷ local (slice_ty (ty_ref erased mut (ty_int w8))) value_local ∷ onward ms

-- the parameters, the i-th of them the local f i, are made ready in the locals t i; and they are the callee's operands
abbrev pub ready : Kinds → (ℕ → ℕ) → (ℕ → ℕ) → Body → Body
ready [] f t b = b
ready (imm ∷ ms) f t b = ready ms (λ i. f (suc i)) t b
ready (mut ∷ ms) f t b = seq (assign (place (t 0) []) (addr_of (place (f 0) (field 0 ∷ deref (ty_int w8) ∷ [])))) (seq (assign (place (t 1) []) (aggregate (copy (place (t 0) []) ∷ copy (place (f 0) (field 1 ∷ [])) ∷ []))) (ready ms (λ i. f (suc i)) (λ i. t (suc (suc i))) b))

abbrev pub handed : Kinds → (ℕ → ℕ) → (ℕ → ℕ) → List Operand → List Operand
handed [] f t xs = xs
handed (imm ∷ ms) f t xs = copy (place (f 0) []) ∷ handed ms (λ i. f (suc i)) t xs
handed (mut ∷ ms) f t xs = copy (place (t 1) []) ∷ handed ms (λ i. f (suc i)) (λ i. t (suc (suc i))) xs

-- the locals come in groups: the i-th after a group, and the i-th from the k-th group on
abbrev pub past : List Local → ℕ → ℕ
past [] i = i
past (l ∷ ls) i = suc (past ls i)

abbrev pub from-group : List (List Local) → ℕ → ℕ → ℕ
from-group gs zero i = i
from-group [] (suc k) i = i
from-group (ls ∷ gs) (suc k) i = past ls (from-group gs k i)

abbrev pub joined : List (List Local) → List Local
joined [] = []
joined (ls ∷ gs) = ls ++ joined gs

-- ---- the blocks of locals; At: the locals from a place on are these; Lie: each group lies where the MIR says
abbrev Blocks : List Local → Type 0
Blocks [] = Unit {0}
Blocks (l ∷ ls) = ℕ × Blocks ls

abbrev pub env_of : (ls : List Local) → Blocks ls → List (Ty × ℕ)
env_of [] bs = []
env_of (local τ h ∷ ls) bs = (τ, bs.0) ∷ env_of ls bs.1

abbrev Groups : List (List Local) → Type 0
Groups [] = Unit {0}
Groups (ls ∷ gs) = Blocks ls × Groups gs

abbrev envs : (gs : List (List Local)) → Groups gs → List (Ty × ℕ)
envs [] bss = []
envs (ls ∷ gs) bss = env_of ls bss.0 ++ envs gs bss.1

abbrev At : (ℕ → Ty × ℕ) → List (Ty × ℕ) → Type 0
At E [] = Unit {0}
At E (e ∷ F) = (E 0 ≡ e) × At (λ i. E (suc i)) F

abbrev Lie : (ℕ → Ty × ℕ) → (gs : List (List Local)) → Groups gs → Type 0
Lie E [] bss = Unit {0}
Lie E (ls ∷ gs) bss = At E (env_of ls bss.0) × Lie (λ i. E (past ls i)) gs bss.1

module _ (no : Ty × ℕ) where
  here : (F G : List (Ty × ℕ)) → At (λ i. get_or (F ++ G) i no) F
  here [] G = tt
  here (e ∷ F) G = (refl, here F G)

  after-group : (ls : List Local) (bs : Blocks ls) (G : List (Ty × ℕ)) (i : ℕ) → get_or G i no ≡ get_or (env_of ls bs ++ G) (past ls i) no
  after-group [] bs G i = refl
  after-group (local τ h ∷ ls) bs G i = after-group ls bs.1 G i

  pub lie : (gs : List (List Local)) (bss : Groups gs) → Lie (λ i. get_or (envs gs bss) i no) gs bss
  lie [] bss = tt
  lie (ls ∷ gs) bss = (here (env_of ls bss.0) (envs gs bss.1), subst (λ (E : ℕ → Ty × ℕ). Lie E gs bss.1) (λ j i. after-group ls bss.0 (envs gs bss.1) i j) (lie gs bss.1))

-- what they hold: the first ones vs, and the others are room
abbrev cells : List (Ty × ℕ) → List Val → Fml
cells [] vs = ftrue
cells (e ∷ E) [] = fsep (froom e.0 e.1 zero) (cells E [])
cells (e ∷ E) (v ∷ vs) = fsep (fat full_share e.0 e.1 zero v) (cells E vs)

abbrev deaths : List (Ty × ℕ) → Fml
deaths [] = ftrue
deaths (e ∷ E) = fsep (fdies e.0 e.1) (deaths E)

-- ---- one X for each slice, nested to the right, and then a Z: so stand the lifetimes, the arguments and their machine values of a call
abbrev pub Ref : Mutability → Type 0
Ref imm = Bor (List ℕ)
Ref mut = MutBor (List ℕ)

-- its list, where it points, and its one machine value
abbrev pub now_of : (m : Mutability) → Ref m → List ℕ
now_of imm x = x.now
now_of mut x = x.now

abbrev ptr_of : (m : Mutability) → Ref m → ℕ × ℕ
ptr_of imm x = x.ref_ptr
ptr_of mut x = x.ref_ptr

abbrev vals_of : (m : Mutability) → Ref m → List Val
vals_of m x = slice_val (ptr_of m x) (length (now_of m x)) ∷ []

abbrev pub Each : (Mutability → Type 0) → Kinds → Type 0 → Type 0
Each X [] Z = Z
Each X (m ∷ ms) Z = X m × Each X ms Z

abbrev pub Row : Type 0 → Kinds → Type 0 → Type 0
Row X = Each (λ _. X)

abbrev pub rest : (X : Mutability → Type 0) (Z : Type 0) (ms : Kinds) → Each X ms Z → Z
rest X Z [] xs = xs
rest X Z (m ∷ ms) xs = rest X Z ms xs.1

abbrev pub swap : (X : Mutability → Type 0) {Z Z' : Type 0} → (Z → Z') → (ms : Kinds) → Each X ms Z → Each X ms Z'
swap X g [] xs = g xs
swap X g (m ∷ ms) xs = (xs.0, swap X g ms xs.1)

-- what a slice owns, and so says of its machine value. The lifetime's name in MIR is no part of it
abbrev owned_as : (m : Mutability) → Lft → Ref m → List Val → Fml
owned_as imm κ = (ShrSlice erased κ u8).own_val
owned_as mut κ = (MutSlice erased κ u8).own_val

told : (m : Mutability) (κ : Lft) (x : Ref m) (vs : List Val) → shadow (owned_as m κ x vs) → (vs ≡ vals_of m x) × Room u8 (length (now_of m x))
told imm κ x vs p = p.0
told mut κ x vs p = p.0

-- what is owned by them all, their machine values in a row, and these written out
abbrev pub holds : {Zκ Za Zv : Type 0} → (Zκ → Za → Zv → Fml) → (ms : Kinds) → Row Lft ms Zκ → Each Ref ms Za → Row (List Val) ms Zv → Fml
holds t [] κs a vss = t κs a vss
holds t (m ∷ ms) κs a vss = fsep (owned_as m κs.0 a.0 vss.0) (holds t ms κs.1 a.1 vss.1)

abbrev pub flatly : {Z : Type 0} → (Z → List Val) → (ms : Kinds) → Row (List Val) ms Z → List Val
flatly t [] vss = t vss
flatly t (m ∷ ms) vss = vss.0 ++ flatly t ms vss.1

abbrev pub spelled : (Z : Type 0) {Zv : Type 0} → Zv → (ms : Kinds) → Each Ref ms Z → Row (List Val) ms Zv
spelled Z v [] a = v
spelled Z v (m ∷ ms) a = (vals_of m a.0, spelled Z v ms a.1)

abbrev pub held : (Zκ Za : Type 0) (ms : Kinds) → Row Lft ms Zκ → Each Ref ms Za → Fml
held Zκ Za ms κs a = holds (λ (_ : Zκ) (_ : Za) (_ : Unit {0}). ftrue) ms κs a (spelled Za tt ms a)

abbrev pub values : (Z : Type 0) (ms : Kinds) → Each Ref ms Z → List Val
values Z ms a = flatly (λ (_ : Unit {0}). []) ms (spelled Z tt ms a)

abbrev pub onward-values : (Z : Type 0) (ms : Kinds) → Each Ref ms Z → List Val
onward-values Z [] a = []
onward-values Z (imm ∷ ms) a = onward-values Z ms a.1
onward-values Z (mut ∷ ms) a = vptr a.0.ref_ptr.0 a.0.ref_ptr.1 ∷ slice_val a.0.ref_ptr (length a.0.now) ∷ onward-values Z ms a.1

-- ---- the steps of a walk that are about slices
abbrev Alike : {M : Type 1} {𝓤 : Ura M} (𝓛 : Logic 𝓤) → List (Item 𝓤) → List (Item 𝓤) → Type 1
Alike {𝓤 = 𝓤} 𝓛 Γ Δ = ent 𝓤 (⋆ 𝓛 Γ) (⋆ 𝓛 Δ) × ent 𝓤 (⋆ 𝓛 Δ) (⋆ 𝓛 Γ)

-- the first parameter apart, of a shared slice, and of a `&mut` one, with its two locals
module _ {M : Type 1} {𝓤 : Ura M} (𝓛 : Logic 𝓤) (P S c : Fml) where
  apart : (Γ : List (Item 𝓤)) → Alike 𝓛 (‵ (fsep c P) ∷ ‵ S ∷ Γ) (‵ P ∷ ‵ S ∷ ‵ c ∷ Γ)
  apart Γ = (qed 𝓛 (‵ (fsep c P) ∷ ‵ S ∷ Γ) ∵ fsplit ! $ move ! (1 ∷ 2 ∷ 0 ∷ []) $ done !, qed 𝓛 (‵ P ∷ ‵ S ∷ ‵ c ∷ Γ) ∵ move ! (2 ∷ 0 ∷ []) $ fjoin ! $ done !)

  apart3 : (r d : Fml) (Γ : List (Item 𝓤)) → Alike 𝓛 (‵ (fsep c P) ∷ ‵ (fsep r (fsep d S)) ∷ Γ) (‵ P ∷ ‵ S ∷ ‵ d ∷ ‵ c ∷ ‵ r ∷ Γ)
  apart3 r d Γ = (qed 𝓛 (‵ (fsep c P) ∷ ‵ (fsep r (fsep d S)) ∷ Γ) ∵ fsplit ! $ move ! (2 ∷ []) $ fsplit3 ! $ move ! (4 ∷ 2 ∷ 1 ∷ 3 ∷ []) $ done !, qed 𝓛 (‵ P ∷ ‵ S ∷ ‵ d ∷ ‵ c ∷ ‵ r ∷ Γ) ∵ move ! (4 ∷ 2 ∷ 1 ∷ []) $ fjoin3 ! $ move ! (2 ∷ 1 ∷ []) $ fjoin ! $ done !)

module _ {M : Type 1} {𝓤 : Ura M} {𝓛 : Logic 𝓤} {K : Type 0} where
  open 𝓛 use {H}

  pub allocated : K → (ls more : List Local) (Kt : Env 𝓤 H → Goal 𝓤 H) {Γ : List (Item 𝓤)}
      → ((bs : Blocks ls) → Seq K 𝓛 (‵ (cells (env_of ls bs) []) ∷ ‵ (deaths (env_of ls bs)) ∷ Γ) (allocs more (λ E. Kt (env_of ls bs ++ E)))) → Seq K 𝓛 Γ (allocs (ls ++ more) Kt)
  allocated t [] more Kt k = nothing t $ nothing t $ k tt
  allocated t (local τ h ∷ ls) more Kt k = alloc1 t (λ b. allocated t ls more (λ E. Kt ((τ, b) ∷ E)) (λ bs. move t (2 ∷ 0 ∷ 3 ∷ 1 ∷ []) $ fjoin t $ move t (1 ∷ 2 ∷ []) $ fjoin t $ move t (1 ∷ 0 ∷ []) $ k (b, bs)))

  pub freed : K → (E : Env 𝓤 H) (vs : List Val) {F : Env 𝓤 H} {g : Goal 𝓤 H} {Γ : List (Item 𝓤)} → Step K 𝓛 Γ (frees F g) (‵ (cells E vs) ∷ ‵ (deaths E) ∷ Γ) (frees (E ++ F) g)
  freed t [] vs = step (λ s. drop t $ drop t $ s)
  freed t (e ∷ E) [] = step (λ s. fsplit t $ move t (2 ∷ []) $ fsplit t $ move t (2 ∷ 0 ∷ 3 ∷ 1 ∷ []) $ free1 t $ freed t E [] $ s)
  freed t (e ∷ E) (v ∷ vs) = step (λ s. fsplit t $ forget t 0 refl $ move t (2 ∷ []) $ fsplit t $ move t (2 ∷ 0 ∷ 3 ∷ 1 ∷ []) $ free1 t $ freed t E vs $ s)

  -- an argument's machine values are told by what is owned
  pub told_in : K → (F : List Val → Fml) (ws : List Val) {us vs : List Val} → (shadow (F vs) → vs ≡ us) → {E : Env 𝓤 H} {g : Goal 𝓤 H} {Γ : List (Item 𝓤)} → (shadow (F vs) → Seq K 𝓛 (‵ (F us) ∷ Γ) (passes E (us ++ ws) g)) → Seq K 𝓛 (‵ (F vs) ∷ Γ) (passes E (vs ++ ws) g)
  told_in t F ws {us} {vs} e {E} {g} k = use1 𝓛 (given (shadow (F vs)) (‵ (F vs))) (fact_use 𝓤 (shadow (F vs)) (shows_shadow 𝓛 (F vs)) (λ p. guard_i 𝓤 (shadow (F vs)) (sem 𝓛 (F vs)) p)) $
      learn t (λ p. rewrite t 0 (λ (zs : List Val). ‵ (F zs)) (e p) refl $ regoal t (λ (zs : List Val). passes E (zs ++ ws) g) (e p) refl $ k p)

  -- the slices are stored in their parameters
  pub taken_in : K → {Zκ Za Zv : Type 0} (T : Zκ → Za → Zv → Fml) (U : Zv → List Val) (ms : Kinds) (j : ℕ) (bs : Blocks (taken ms j)) (κs : Row Lft ms Zκ) (a : Each Ref ms Za) (vss : Row (List Val) ms Zv) {F : Env 𝓤 H} {g : Goal 𝓤 H} {Γ : List (Item 𝓤)}
      → Step K 𝓛 (‵ (T (rest (λ _. Lft) Zκ ms κs) (rest Ref Za ms a) (rest (λ _. List Val) Zv ms vss)) ∷ ‵ (cells (env_of (taken ms j) bs) (values Za ms a)) ∷ ‵ (held Zκ Za ms κs a) ∷ Γ) (passes F (U (rest (λ _. List Val) Zv ms vss)) g)
      (‵ (holds T ms κs a vss) ∷ ‵ (cells (env_of (taken ms j) bs) []) ∷ Γ) (passes (env_of (taken ms j) bs ++ F) (flatly U ms vss) g)
  taken_in t T U [] j bs κs a vss = step (λ s. nothing t $ move t (1 ∷ 2 ∷ 0 ∷ []) $ s)
  taken_in t T U (m ∷ ms) j bs κs a vss = step (λ s. fsplit t $ told_in t (owned_as m κs.0 a.0) (flatly U ms vss.1) (λ p. (told m κs.0 a.0 vss.0 p).0) (λ p.
      move t (2 ∷ []) $ fsplit t $ pass1 t (init t 0 refl (tt, (tt, (record { fits = (told m κs.0 a.0 vss.0 p).1.0 }, tt)))) $ move t (3 ∷ 1 ∷ []) $
      taken_in t T U ms (suc j) bs.1 κs.1 a.1 vss.1 $ move t (3 ∷ 1 ∷ []) $ fjoin t $ move t (3 ∷ 2 ∷ []) $ fjoin t $ move t (2 ∷ 1 ∷ 0 ∷ []) $ s))

  pub from_at : K → {Γ : List (Item 𝓤)} {E : Env 𝓤 H} {i : ℕ} {e : Ty × ℕ} {st : List Hop} {sp : Spot 𝓤 H} → get_or E i (no_local 𝓤 H) ≡ e → Walks K 𝓛 Γ E (e.0, e.1, zero) st sp → Finds K 𝓛 Γ E (place i st) sp
  from_at t {Γ} {E} {i} {e} {st} p w = record { go = λ Kt h. subst (λ (f : Ty × ℕ). ent 𝓤 (⋆ 𝓛 Γ) (walk 𝓤 H E (f.0, f.1, zero) st Kt)) (sym p) (w.go Kt h) }

  -- operands are read in a context that says the same
  read-in : K → (Γ Δ : List (Item 𝓤)) {E : Env 𝓤 H} {xs : List Operand} {vs : List Val} → Alike 𝓛 Γ Δ → Opds K 𝓛 Δ E xs vs → Opds K 𝓛 Γ E xs vs
  read-in t Γ Δ p o = record { go = λ Kt h. via 𝓤 (⋆ 𝓛 Δ) p.0 (o.go Kt (via 𝓤 (⋆ 𝓛 Γ) p.1 h)) }

  pub moved : K → {Γ : List (Item 𝓤)} {E : Env 𝓤 H} {xs : List Operand} {vs : List Val} (π ρ : List ℕ) → sel 𝓛 ρ (sel 𝓛 π Γ) ≡ Γ → Opds K 𝓛 (sel 𝓛 π Γ) E xs vs → Opds K 𝓛 Γ E xs vs
  moved t {Γ} π ρ e = read-in t Γ (sel 𝓛 π Γ) (sel⊢ 𝓛 π Γ, subst (λ (Δ : List (Item 𝓤)). ent 𝓤 (⋆ 𝓛 (sel 𝓛 π Γ)) (⋆ 𝓛 Δ)) e (sel⊢ 𝓛 ρ (sel 𝓛 π Γ)))

  -- the `&mut` slices are lent again
  pub readied : K → (ms : Kinds) (Z : Type 0) (j : ℕ) (bs : Blocks (taken ms j)) (ts : Blocks (onward ms)) (f t : ℕ → ℕ) (a : Each Ref ms Z) {E : Env 𝓤 H} → At (λ i. get_or E (f i) (no_local 𝓤 H)) (env_of (taken ms j) bs) → At (λ i. get_or E (t i) (no_local 𝓤 H)) (env_of (onward ms) ts)
      → {C : Calls 𝓤 H} {Λ : Loops 𝓤 H} {b : Body} {q : Post 𝓤 H} {Γ : List (Item 𝓤)} → Step K 𝓛 (‵ (cells (env_of (taken ms j) bs) (values Z ms a)) ∷ ‵ (cells (env_of (onward ms) ts) (onward-values Z ms a)) ∷ Γ) (runs C Λ E b q)
      (‵ (cells (env_of (taken ms j) bs) (values Z ms a)) ∷ ‵ (cells (env_of (onward ms) ts) []) ∷ Γ) (runs C Λ E (ready ms f t b) q)
  readied k [] Z j bs ts f t a p r = step (λ s. s)
  readied k (imm ∷ ms) Z j bs ts f t a p r = step (λ s. fsplit k $ move k (1 ∷ 2 ∷ []) $ readied k ms Z (suc j) bs.1 ts (λ i. f (suc i)) t a.1 p.1 r $ move k (2 ∷ 0 ∷ []) $ fjoin k $ s)
  readied k (mut ∷ ms) Z j bs ts f t a p r = step (λ s. fsplit k $ well_typed k (λ wt. move k (2 ∷ []) $ fsplit3 k $
      assigns k (addr k (from_at k p.0 (fld k refl (hop k (look_in k 3 (sub k 0 refl (whole k))) (stop k))))) (from_at k r.0 (stop k)) (init k 0 refl (tt, tt)) $
      assigns k (agg k (and_then k (load k (from_at k r.0 (stop k)) (look k 0 refl)) (and_then k (load k (from_at k p.0 (fld k refl (stop k))) (look_in k 3 (sub k 1 refl (whole k)))) (no_more k)))) (from_at k r.1.0 (stop k)) (init k 1 refl wt) $
      move k (4 ∷ 2 ∷ []) $ readied k ms Z (suc j) bs.1 ts.1.1 (λ i. f (suc i)) (λ i. t (suc (suc i))) a.1 p.1 r.1.1 $ move k (2 ∷ 3 ∷ 1 ∷ []) $ fjoin3 k $ move k (2 ∷ 1 ∷ []) $ fjoin k $ s))

  -- and all are read for the call
  pub operands : K → (ms : Kinds) (Z : Type 0) {Zv : Type 0} (U : Zv → List Val) (z : Zv) (j : ℕ) (bs : Blocks (taken ms j)) (ts : Blocks (onward ms)) (f t : ℕ → ℕ) (a : Each Ref ms Z) {E : Env 𝓤 H} → At (λ i. get_or E (f i) (no_local 𝓤 H)) (env_of (taken ms j) bs) → At (λ i. get_or E (t i) (no_local 𝓤 H)) (env_of (onward ms) ts)
      → {xs : List Operand} {Γ : List (Item 𝓤)} → Opds K 𝓛 (‵ (cells (env_of (taken ms j) bs) (values Z ms a)) ∷ ‵ (cells (env_of (onward ms) ts) (onward-values Z ms a)) ∷ Γ) E xs (U z)
      → Opds K 𝓛 (‵ (cells (env_of (taken ms j) bs) (values Z ms a)) ∷ ‵ (cells (env_of (onward ms) ts) (onward-values Z ms a)) ∷ Γ) E (handed ms f t xs) (flatly U ms (spelled Z z ms a))
  operands k [] Z U z j bs ts f t a p r o = o
  operands k (imm ∷ ms) Z U z j bs ts f t a p r {Γ = Γ} o =
      let c : Fml = fat full_share (slice_ty (ty_ref (named j) imm (ty_int w8))) bs.0 zero (slice_val a.0.ref_ptr (length a.0.now)) in
      let s = apart 𝓛 (cells (env_of (taken ms (suc j)) bs.1) (values Z ms a.1)) (cells (env_of (onward ms) ts) (onward-values Z ms a.1)) c Γ in
      read-in k _ _ s (and_then k (load k (from_at k p.0 (stop k)) (look k 2 refl)) (operands k ms Z U z (suc j) bs.1 ts (λ i. f (suc i)) t a.1 p.1 r {Γ = ‵ c ∷ Γ} (read-in k _ _ (s.1, s.0) o)))
  operands k (mut ∷ ms) Z U z j bs ts f t a p r {Γ = Γ} o =
      let c : Fml = fat full_share (slice_ty (ty_ref (named j) mut (ty_int w8))) bs.0 zero (slice_val a.0.ref_ptr (length a.0.now)) in
      let e : Fml = fat full_share (ty_ref erased mut (ty_int w8)) ts.0 zero (vptr a.0.ref_ptr.0 a.0.ref_ptr.1) in
      let d : Fml = fat full_share (slice_ty (ty_ref erased mut (ty_int w8))) ts.1.0 zero (slice_val a.0.ref_ptr (length a.0.now)) in
      let s = apart3 𝓛 (cells (env_of (taken ms (suc j)) bs.1) (values Z ms a.1)) (cells (env_of (onward ms) ts.1.1) (onward-values Z ms a.1)) c e d Γ in
      read-in k _ _ s (and_then k (load k (from_at k r.1.0 (stop k)) (look k 2 refl)) (operands k ms Z U z (suc j) bs.1 ts.1.1 (λ i. f (suc i)) (λ i. t (suc (suc i))) a.1 p.1 r.1.1 {Γ = ‵ d ∷ ‵ c ∷ ‵ e ∷ Γ} (read-in k _ _ (s.1, s.0) o)))

-- ---- what is said of a slice at exit, how it is seen there, and the tokens of the lifetimes. Of a `&mut` it is said what its last list is, which is
-- as long as the one that was passed, and its borrow is handed back, closed
abbrev pub Said : Mutability → Type 0
Said imm = Unit {0}
Said mut = List ℕ

abbrev pub left : (m : Mutability) → Lft → Ref m → Said m → Fml
left imm κ x w = ftrue
left mut κ x w = fsep (fsep (finally u8 x.ghost_name w) (feq ℕ (length w) (length x.now))) (fbor κ (Behind (Arr (Holey (mem u8)) (length x.now)) x.ref_ptr.0 x.ref_ptr.1 x.ghost_name))

abbrev pub seen : (m : Mutability) → Ref m → Said m → Ref m
seen imm x w = x
seen mut x w = at_last x w

abbrev pub lasting : {Zκ Za Zw : Type 0} → (Zκ → Za → Zw → Fml) → (ms : Kinds) → Row Lft ms Zκ → Each Ref ms Za → Each Said ms Zw → Fml
lasting t [] κs a ws = t κs a ws
lasting t (m ∷ ms) κs a ws = fsep (left m κs.0 a.0 ws.0) (lasting t ms κs.1 a.1 ws.1)

abbrev pub ends : {Za Zw Zz : Type 0} → (Za → Zw → Zz) → (ms : Kinds) → Each Ref ms Za → Each Said ms Zw → Each Ref ms Zz
ends t [] a ws = t a ws
ends t (m ∷ ms) a ws = (seen m a.0 ws.0, ends t ms a.1 ws.1)

abbrev pub tokens : {Zκ Zq : Type 0} → (Zκ → Zq → Fml) → (ms : Kinds) → Row Lft ms Zκ → Row Share ms Zq → Fml
tokens t [] κs qs = t κs qs
tokens t (m ∷ ms) κs qs = fsep (flft κs.0 qs.0) (tokens t ms κs.1 qs.1)
