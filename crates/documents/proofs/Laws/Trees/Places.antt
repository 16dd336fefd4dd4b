-- Places in a tree: what stands above a node is an element or the document node, and the descendant-or-self axis is the places above.
use Prim.Native.Nat.{ℕ, zero, suc, ◌+◌, ◌≤◌, ◌<◌}
use native.Mathlib.Omega.{arith}
use mathlib.Core.Path.{◌≡◌, refl, sym, ap, ◌∙◌}
use mathlib.Core.Logic.{inl, inr}
use mathlib.Core.Bool.{true, false≢true}
use mathlib.Core.List.{[], ◌∷◌}
use lib.ListN.{length, get_or, drop, length-append, get_or-append}
use lib.Seq.{get_or_at}
use Rattle.documents.specs.Tree.{Document, Place, Kind, Node, element, text, comment, Nodes, none, ◌then◌, kind_of, children_of, kind_in, children_in, children_at, kind_at, is_node}
use Rattle.documents.specs.XPath.{Descendant, a_child, a_child_of, OnAxis, descendant-or-self, IsElement}
use Rattle.documents.specs.NameList.{name_of, names_to}

-- only elements have children
none_in : (i : ℕ) → is_node (kind_in none i) ≡ true → ⊥
unfolding kind_in
none_in i h = false≢true h

parent_is : (x : Node) (j : ℕ) → is_node (kind_in (children_of x) j) ≡ true → IsElement (kind_of x)
parent_is (element n c) j h = (n, refl)
parent_is (text b) j h = absurd (none_in j h)
parent_is (comment b) j h = absurd (none_in j h)

parent_in : (xs : Nodes) (i j : ℕ) → is_node (kind_in (children_in xs i) j) ≡ true → IsElement (kind_in xs i)
unfolding kind_in children_in
parent_in none i j h = absurd (none_in j h)
parent_in (x then xs) zero j h = parent_is x j h
parent_in (x then xs) (suc i) j h = parent_in xs i j h

element-node : (k : Kind) → IsElement k → is_node k ≡ true
element-node k e = ap is_node e.1

module _ (d : Document) where
  pub parent : (x : Place) (i j : ℕ) → is_node (kind_at d (j ∷ i ∷ x)) ≡ true → IsElement (kind_at d (i ∷ x))
  unfolding kind_at children_at
  parent x i j h = parent_in (children_at d x) i j h

  -- the document node is no element
  pub no-element : IsElement (kind_at d []) → ⊥
  unfolding kind_at
  no-element (n, e) = let clash : ◌≡◌ {A = ℕ} 0 1 = cc in omega arith

  pub parent-node : (x : Place) (i : ℕ) → is_node (kind_at d (i ∷ x)) ≡ true → is_node (kind_at d x) ≡ true
  unfolding kind_at
  parent-node [] i h = refl
  parent-node (j ∷ x) i h = element-node _ (parent x j i h)

  -- what stands above a node, the document node aside, is an element
  pub above : (x : Place) (j : ℕ) → is_node (kind_at d x) ≡ true → suc j < length x → IsElement (kind_at d (drop (suc j) x))
  above [] j h l = absurd (omega arith)
  above (i ∷ []) j h l = absurd (omega arith)
  above (i ∷ k ∷ x) zero h l = parent x k i h
  above (i ∷ k ∷ x) (suc j) h l = above (k ∷ x) j (parent-node (k ∷ x) i h) (omega arith)

  pub above-or-self : (x : Place) (j : ℕ) → IsElement (kind_at d x) → j < length x → IsElement (kind_at d (drop j x))
  above-or-self x zero h l = h
  above-or-self x (suc j) h l = above x j (element-node _ h) l

  -- descendants, by the places above
  pub descendant-to : (x y : Place) → Descendant d x y → (k : ℕ) × (k < length y) × (x ≡ drop (suc k) y)
  descendant-to x y (a_child c) = (0, rw c.1 (omega arith), rw c.1 refl)
  descendant-to x y (a_child_of {y = z} h c) =
      let (k, l, e) = descendant-to x z h in
      (suc k, rw c.1 (omega arith), rw c.1 e)

  pub descendant-from : (y : Place) (k : ℕ) → is_node (kind_at d y) ≡ true → k < length y → Descendant d (drop (suc k) y) y
  descendant-from [] k h l = absurd (omega arith)
  descendant-from (i ∷ y) zero h l = a_child (i, refl, h)
  descendant-from (i ∷ y) (suc k) h l = a_child_of (descendant-from y k (parent-node y i h) (omega arith)) (i, refl, h)

  pub self-or-above-from : (y : Place) (k : ℕ) → is_node (kind_at d y) ≡ true → k ≤ length y → OnAxis d descendant-or-self (drop k y) y
  self-or-above-from y zero h l = inl refl
  self-or-above-from y (suc k) h l = inr (descendant-from y k h l)

  pub self-or-above-to : (x y : Place) → OnAxis d descendant-or-self x y → (k : ℕ) × (k ≤ length y) × (x ≡ drop k y)
  self-or-above-to x y (inl e) = (0, omega arith, sym e)
  self-or-above-to x y (inr h) =
      let (k, l, e) = descendant-to x y h in
      (suc k, l, e)

  -- the name list has a name for each element down to the node
  pub names-length : (x : Place) → length (names_to d x) ≡ length x
  unfolding names_to
  names-length [] = refl
  names-length (i ∷ x) = omega (arith, length-append (names_to d x) (name_of (kind_at d (i ∷ x)) ∷ []), names-length x)

  pub names_at : (x : Place) (j m : ℕ) → j + suc m ≡ length x → get_or (names_to d x) m [] ≡ name_of (kind_at d (drop j x))
  unfolding names_to
  names_at [] j m h = absurd (omega arith)
  names_at (i ∷ x) zero m h =
      get_or_at (names_to d x) (name_of (kind_at d (i ∷ x))) [] [] m (omega (arith, names-length x))
  names_at (i ∷ x) (suc j) m h =
      get_or-append (names_to d x) (name_of (kind_at d (i ∷ x)) ∷ []) [] m (omega (arith, names-length x))
      ∙ names_at x j m (omega arith)
