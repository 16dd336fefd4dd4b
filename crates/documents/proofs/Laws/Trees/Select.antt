-- A path of the notation, from the document node, selects an element exactly when it fits the element's name list.
use Prim.Native.Nat.{ℕ, zero, suc, ◌+◌, ◌-◌, ◌≤◌, ◌<◌, pred}
use native.Mathlib.Omega.{arith}
use mathlib.Core.Path.{◌≡◌, refl, sym, ap, ◌∙◌}
use mathlib.Core.Logic.{◌↔◌}
use mathlib.Core.Bool.{true}
use mathlib.Core.List.{[], ◌∷◌}
use lib.ListN.{length, drop, length-drop}
use lib.Seq.{drop-cons, drop-length, drop-drop}
use Rattle.text.specs.Names.{Name}
use Rattle.notation.specs.Sets.{Test, label, star, Step, step, Path, axis_of, test_of, child as slash, descendant as double_slash}
use Rattle.notation.specs.Fit.{Takes, nth_step, Fits}
use Rattle.documents.specs.Tree.{Document, Place, Kind, element_node, kind_at, is_node}
use Rattle.documents.specs.XPath.{Child, LocationPath, start, IsElement, Passes, node_test, selects, with_step, spelled, selected}
use Rattle.documents.specs.NameList.{names_to}
use Rattle.documents.proofs.Laws.Trees.Places.{no-element, parent-node, above-or-self, self-or-above-to, self-or-above-from, names-length, names_at}
use Rattle.documents.proofs.Laws.Trees.Chain.{Link, Chain, nothing_yet, one_more-is, one_less, fits-chain, chain_fits}

-- a node passes a step's test exactly when it is an element whose name the test takes
passes-to : (t : Test) (k : Kind) → Passes (node_test t) k → (n : Name) × (k ≡ element_node n) × Takes t n
passes-to (label l) k e = (l, e, refl)
passes-to star k e =
    let is : IsElement k = e in
    (is.0, is.1, tt)

passes-from : (t : Test) (k : Kind) (n : Name) → k ≡ element_node n → Takes t n → Passes (node_test t) k
passes-from (label l) k n e h = cc
passes-from star k n e h = (n, e)

-- one step of the notation, from the node y to the node z: y is k + 1 levels above z
record Onward (d : Document) (s : Step) (y z : Place) : Type 0 where
  k : ℕ
  inside : k < length z
  from : y ≡ drop (suc k) z
  near : axis_of s ≡ slash → k ≡ 0
  name : Name
  kind : kind_at d z ≡ element_node name
  takes : Takes (test_of s) name

-- the first s steps of a path, spelled out
steps_to : Path → ℕ → LocationPath
steps_to p zero = start
steps_to p (suc s) = with_step (steps_to p s) (nth_step p (suc s))

steps-from : (p : Path) (n s : ℕ) → n + s ≡ length p → spelled (steps_to p s) (drop s p) ≡ steps_to p (length p)
unfolding steps_to spelled
steps-from p zero s h =
    let end : s ≡ length p = omega arith in
    rw (end, drop-length p)
steps-from p (suc n) s h =
    ap (spelled (steps_to p s)) (drop-cons p s (step slash star) (omega arith)) ∙ steps-from p n (suc s) (omega arith)

-- all of them are the path
all-steps : (p : Path) → spelled start p ≡ steps_to p (length p)
unfolding steps_to
all-steps p = steps-from p (length p) 0 (omega arith)

module _ (d : Document) where
  step-to : (before : LocationPath) (s : Step) (z : Place) → selects d (with_step before s) [] z
      → (y : Place) × selects d before [] y × Onward d s y z
  unfolding selects
  step-to before (step slash t) z (y, sel, ((i, e, there), pass)) =
      let (n, kind, takes) = passes-to t (kind_at d z) pass in
      (y, sel, record { k = 0; inside = rw e (omega arith); from = rw e refl; near = λ a. refl; name = n; kind = kind; takes = takes })
  step-to before (step double_slash t) z (x, above, (reached, pass)) =
      let below : Child d x z = reached in
      let (i, e, there) = below in
      let (y, sel, (axis, any)) = above in
      let (n, kind, takes) = passes-to t (kind_at d z) pass in
      let (k, l, up) = self-or-above-to d y x axis in (
        y,
        sel,
        record {
          k = k;
          inside = rw e (omega arith);
          from = rw e up;
          near = λ a. cc;
          name = n;
          kind = kind;
          takes = takes;
        },
      )

  step_from : (before : LocationPath) (s : Step) (y z : Place) → selects d before [] y → Onward d s y z → selects d (with_step before s) [] z
  unfolding selects
  step_from before s y [] h o = absurd (omega (arith, o.inside))
  step_from before (step slash t) y (i ∷ z) h o =
      let here : y ≡ z = o.from ∙ ap (λ (k : ℕ). drop (suc k) (i ∷ z)) (o.near refl) in
      (y, h, ((i, ap (◌∷◌ i) (sym here), ap is_node o.kind), passes-from t _ o.name o.kind o.takes))
  step_from before (step double_slash t) y (i ∷ z) h o =
      let there : is_node (kind_at d (i ∷ z)) ≡ true = ap is_node o.kind in (
        z,
        (y, h, (rw o.from (self-or-above-from d z o.k (parent-node d z i there) (omega (arith, o.inside))), tt)),
        ((i, refl, there), passes-from t _ o.name o.kind o.takes),
      )

  to-chain : (p : Path) (x : Place) (s j m : ℕ) → j + m ≡ length x → selects d (steps_to p s) [] (drop j x) → Chain p (names_to d x) s m
  unfolding steps_to selects
  to-chain p x zero j m h e =
      let none_left : m ≡ 0 = omega (arith, length-drop j x, ap length e) in
      rw none_left (nothing_yet p (names_to d x))
  to-chain p x (suc s) j m h sel =
      let (y, before, o) = step-to (steps_to p s) (nth_step p (suc s)) (drop j x) sel in
      let inside : suc o.k ≤ m = omega (arith, o.inside, length-drop j x) in
      let up : y ≡ drop (j + suc o.k) x = o.from ∙ drop-drop (suc o.k) j x in
      one_more-is p (names_to d x) s (m - suc o.k) m
      (to-chain p x s (j + suc o.k) (m - suc o.k) (omega arith) (rw up at before))
      (record {
        rises = omega arith;
        adjacent = λ a. omega (arith, o.near a);
        takes = rw (names_at d x j (pred m) (omega arith), o.kind) o.takes;
      })

  from-chain : (p : Path) (x : Place) (s j m : ℕ) → IsElement (kind_at d x) → j + m ≡ length x → Chain p (names_to d x) s m
      → selects d (steps_to p s) [] (drop j x)
  unfolding steps_to selects
  from-chain p x zero j m is h c =
      let all_left : j ≡ length x = omega (arith, c.from, c.to) in
      rw all_left (drop-length x)
  from-chain p x (suc s) j m is h c =
      let a = c.pos s in
      let link : Link p (names_to d x) s a m = rw c.to at (c.each s (omega arith)) in
      let k = pred (m - a) in
      let back : j + (m - a) ≡ j + suc k = omega (arith, link.rises) in
      let (n, kind) = above-or-self d x j is (omega (arith, link.rises)) in
      step_from (steps_to p s) (nth_step p (suc s)) (drop (j + (m - a)) x) (drop j x)
      (from-chain p x s (j + (m - a)) a is (omega (arith, link.rises)) (one_less p (names_to d x) s m c))
      (record {
        k = k;
        inside = omega (arith, link.rises, length-drop j x);
        from = rw back (sym (drop-drop (suc k) j x));
        near = λ e. omega (arith, link.adjacent e);
        name = n;
        kind = kind;
        takes = rw (names_at d x j (pred m) (omega (arith, link.rises)), kind) at link.takes;
      })

  fits-if : (p : Path) (x : Place) → 1 ≤ length p → selected d p x → Fits p (names_to d x)
  fits-if p x h sel =
      let chain : Chain p (names_to d x) (length p) (length x) = to-chain p x (length p) 0 (length x) (omega arith) (rw all-steps at sel) in
      chain_fits p (names_to d x) h (rw (names-length d x) chain)

  selected-to : (p : Path) (x : Place) → IsElement (kind_at d x) → selected d p x → Fits p (names_to d x)
  unfolding selects spelled
  selected-to [] x is sel = absurd (no-element d (rw sel at is))
  selected-to (s ∷ p) x is sel = fits-if (s ∷ p) x (omega arith) sel

  selected-from : (p : Path) (x : Place) → IsElement (kind_at d x) → Fits p (names_to d x) → selected d p x
  selected-from p x is f =
      rw all-steps
      (from-chain p x (length p) 0 (length x) is (omega arith) (rw (names-length d x) at (fits-chain p (names_to d x) f)))

  -- an element is selected exactly when the path fits its name list
  pub selected-is : (p : Path) (x : Place) → IsElement (kind_at d x) → selected d p x ↔ Fits p (names_to d x)
  selected-is p x is = (selected-to p x is, selected-from p x is)

  -- demand 2: a path selects at least one element of the tree exactly when it fits the name list of some element of the tree
  pub selects-some : (p : Path)
      → ((x : Place) × IsElement (kind_at d x) × selected d p x) ↔ ((x : Place) × IsElement (kind_at d x) × Fits p (names_to d x))
  selects-some p = (λ h. (h.0, h.1, selected-to p h.0 h.1 h.2), λ h. (h.0, h.1, selected-from p h.0 h.1 h.2))

-- what a path selects is elements alone: no text, no comment, and not the document node
pub selects-elements : (d : Document) (p : Path) (x : Place) → 1 ≤ length p → selected d p x → IsElement (kind_at d x)
unfolding steps_to
selects-elements d p x some sel =
    let last : length p ≡ suc (pred (length p)) = omega arith in
    let e : spelled start p ≡ steps_to p (suc (pred (length p))) = all-steps p ∙ ap (steps_to p) last in
    let (y, before, on) = step-to d (steps_to p (pred (length p))) (nth_step p (suc (pred (length p)))) x (rw e at sel) in
    (on.name, on.kind)
