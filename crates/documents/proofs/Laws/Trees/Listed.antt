-- The name lists in document order are those of the elements of the tree.
use Prim.Native.Nat.{ℕ, zero, suc}
use native.Mathlib.Omega.{arith}
use mathlib.Core.Path.{◌≡◌, refl, sym, ap, ◌∙◌}
use mathlib.Core.Logic.{◌↔◌, ⊎_elim}
use mathlib.Core.Bool.{false≢true}
use mathlib.Core.List.Memᴰ
use mathlib.Core.List.{List, [], ◌∷◌, ◌++◌, append-nil, append_assoc, Memᴰ}
use Rattle.text.specs.Names.{Name}
use Rattle.documents.specs.Tree.{Document, Place, no_node, element_node, Node, element, text, comment, Nodes, none, ◌then◌, kind_of, children_of, kind_in, children_in, children_at, kind_at, is_node}
use Rattle.documents.specs.XPath.{IsElement}
use Rattle.documents.specs.NameList.{name_of, names_to, lists_of, lists_in, name_lists}
use Rattle.documents.proofs.Laws.Trees.Places.{no-element}

-- the place of sibling i, and one below it
abbrev at : Place → ℕ → Place
at y i = y ++ (i ∷ [])

-- a place below a sibling is a place among the sibling's children
children-below : (xs : Nodes) (y : Place) (i : ℕ) → children_at xs (at y i) ≡ children_at (children_in xs i) y
unfolding children_at
children-below xs [] i = refl
children-below xs (j ∷ y) i = ap (λ (c : Nodes). children_in c j) (children-below xs y i)

kind-below : (xs : Nodes) (j : ℕ) (y : Place) (i : ℕ) → kind_at xs (at (j ∷ y) i) ≡ kind_at (children_in xs i) (j ∷ y)
unfolding kind_at
kind-below xs j y i = ap (λ (c : Nodes). kind_in c j) (children-below xs y i)

names-below : (xs : Nodes) (y : Place) (i : ℕ) → names_to xs (at y i) ≡ name_of (kind_in xs i) ∷ names_to (children_in xs i) y
unfolding names_to kind_at children_at
names-below xs [] i = refl
names-below xs (j ∷ y) i =
    rw (names-below xs y i, children-below xs y i)

-- a sibling is the same one after another is put before all
kind-later : (x : Node) (xs : Nodes) (y : Place) (i : ℕ) → kind_at (x then xs) (at y (suc i)) ≡ kind_at xs (at y i)
unfolding kind_at kind_in children_in children_at
kind-later x xs [] i = refl
kind-later x xs (j ∷ y) i = rw (children-below (x then xs) y (suc i), children-below xs y i)

names-later : (x : Node) (xs : Nodes) (y : Place) (i : ℕ) → names_to (x then xs) (at y (suc i)) ≡ names_to xs (at y i)
unfolding kind_in children_in
names-later x xs y i = names-below (x then xs) y (suc i) ∙ sym (names-below xs y i)

-- a name list of siblings: the place of its element, y below sibling i
record Found (above : List Name) (xs : Nodes) (l : List Name) : Type 0 where
  y : Place
  i : ℕ
  is : IsElement (kind_at xs (at y i))
  names : l ≡ above ++ names_to xs (at y i)

later : (x : Node) {above : List Name} {xs : Nodes} {l : List Name} → Found above xs l → Found above (x then xs) l
later x {above} {xs} {l} f =
    record {
      y = f.y;
      i = suc f.i;
      is = rw (kind-later x xs f.y f.i) f.is;
      names = rw (names-later x xs f.y f.i) f.names;
    }

-- a place that is not the document node's has a sibling of the root's on top
last_of : (j : ℕ) (y : Place) → (z : Place) × (i : ℕ) × (j ∷ y ≡ at z i)
last_of j [] = ([], j, refl)
last_of j (k ∷ y) = let (z, i, e) = last_of k y in (j ∷ z, i, ap (◌∷◌ j) e)

module _ (above : List Name) (n : Name) (kids xs : Nodes) where
  names-first : (y : Place) → above ++ names_to (element n kids then xs) (at y 0) ≡ (above ++ (n ∷ [])) ++ names_to kids y
  unfolding kind_in children_in
  names-first y = rw (names-below (element n kids then xs) y 0, append_assoc above (n ∷ []) (names_to kids y))

  kind-first : (j : ℕ) (y : Place) → kind_at (element n kids then xs) (at (j ∷ y) 0) ≡ kind_at kids (j ∷ y)
  unfolding kind_in children_in
  kind-first j y = kind-below (element n kids then xs) j y 0

  first : Found above (element n kids then xs) (above ++ (n ∷ []))
  unfolding kind_at kind_in children_at names_to
  first = record { y = []; i = 0; is = (n, refl); names = refl }

  below : (l : List Name) → Found (above ++ (n ∷ [])) kids l → Found above (element n kids then xs) l
  below l f =
      record {
        y = at f.y f.i;
        i = 0;
        is = deeper f.y f.is;
        names = f.names ∙ sym (names-first (at f.y f.i));
      }
    where
      deeper : (y : Place) → IsElement (kind_at kids (at y f.i)) → IsElement (kind_at (element n kids then xs) (at (at y f.i) 0))
      deeper [] e = rw (kind-first f.i []) e
      deeper (j ∷ y) e = rw (kind-first j (at y f.i)) e

  member : ((y : Place) (i : ℕ) → IsElement (kind_at kids (at y i)) → Memᴰ ((above ++ (n ∷ [])) ++ names_to kids (at y i)) (lists_in (above ++ (n ∷ [])) kids))
      → (y : Place) → IsElement (kind_at (element n kids then xs) (at y 0))
      → Memᴰ (above ++ names_to (element n kids then xs) (at y 0)) (lists_of above (element n kids))
  unfolding lists_of names_to
  member inside [] e = Memᴰ.head (names-first [] ∙ append-nil (above ++ (n ∷ [])))
  member inside (j ∷ y) e =
      let (z, i, s) = last_of j y in
      Memᴰ.tail (Memᴰ.cast (names-first (j ∷ y) ∙ ap (λ (w : Place). (above ++ (n ∷ [])) ++ names_to kids w) s)
      (inside z i (rw (kind-first j y, s) at e)))

mutual
  unfolding lists_of lists_in

  to-of : (x : Node) (xs : Nodes) (above l : List Name) → Memᴰ l (lists_of above x) → Found above (x then xs) l
  to-of (element n kids) xs above l m =
      ⊎_elim (λ e. rw e (first above n kids xs)) (λ h. below above n kids xs l (to_in kids (above ++ (n ∷ [])) l h)) (Memᴰ.cases_cons m)
  to-of (text b) xs above l m = absurd (Memᴰ.not-nil m)
  to-of (comment b) xs above l m = absurd (Memᴰ.not-nil m)

  to_in : (xs : Nodes) (above l : List Name) → Memᴰ l (lists_in above xs) → Found above xs l
  to_in none above l m = absurd (Memᴰ.not-nil m)
  to_in (x then xs) above l m =
      ⊎_elim (λ h. to-of x xs above l h) (λ h. later x (to_in xs above l h)) (Memᴰ.append_cases (lists_of above x) m)

-- there is nothing in an empty list of siblings, and nothing below a text or a comment
none-children : (y : Place) → children_at none y ≡ none
unfolding children_at children_in
none-children [] = refl
none-children (i ∷ y) = rw (none-children y) refl

none-at : (j : ℕ) (y : Place) → IsElement (kind_at none (j ∷ y)) → ⊥
unfolding kind_at kind_in
none-at j y (n, e) = let clash : no_node ≡ element_node n = rw (none-children y) at e in false≢true (ap is_node clash)

empty-at : (y : Place) (i : ℕ) → IsElement (kind_at none (at y i)) → ⊥
empty-at [] i e = none-at i [] e
empty-at (j ∷ y) i e = none-at j (at y i) e

-- a node that is no element has none at it or below it
leaf-at : (x : Node) (xs : Nodes) → children_of x ≡ none → ((n : Name) → kind_of x ≡ element_node n → ⊥)
    → (y : Place) → IsElement (kind_at (x then xs) (at y 0)) → ⊥
unfolding kind_at kind_in children_in children_at
leaf-at x xs no_Kids no_name [] (n, e) = no_name n e
leaf-at x xs no_Kids no_name (j ∷ y) e = none-at j y (rw (kind-below (x then xs) j y 0, no_Kids) at e)

mutual
  unfolding lists_of lists_in

  from-of : (x : Node) (xs : Nodes) (above : List Name) (y : Place) → IsElement (kind_at (x then xs) (at y 0))
      → Memᴰ (above ++ names_to (x then xs) (at y 0)) (lists_of above x)
  from-of (element n kids) xs above y e = member above n kids xs (λ z i h. from_in kids (above ++ (n ∷ [])) z i h) y e
  from-of (text b) xs above y e = absurd (leaf-at (text b) xs refl (λ n c. let z : ◌≡◌ {A = ℕ} 0 1 = cc in omega arith) y e)
  from-of (comment b) xs above y e = absurd (leaf-at (comment b) xs refl (λ n c. let z : ◌≡◌ {A = ℕ} 0 1 = cc in omega arith) y e)

  from_in : (xs : Nodes) (above : List Name) (y : Place) (i : ℕ) → IsElement (kind_at xs (at y i))
      → Memᴰ (above ++ names_to xs (at y i)) (lists_in above xs)
  from_in none above y i e = absurd (empty-at y i e)
  from_in (x then xs) above y zero e = Memᴰ.append_left (lists_in above xs) (from-of x xs above y e)
  from_in (x then xs) above y (suc i) e =
      Memᴰ.append_right (lists_of above x)
      (Memᴰ.cast (ap (◌++◌ above) (names-later x xs y i)) (from_in xs above y i (rw (kind-later x xs y i) at e)))

-- the lists are the name lists of the tree's elements
pub listed-is : (d : Document) (l : List Name)
    → Memᴰ l (name_lists d) ↔ ((x : Place) × IsElement (kind_at d x) × (names_to d x ≡ l))
listed-is d l = (
  λ m. let f = to_in d [] l m in (at f.y f.i, f.is, sym f.names),
  λ h. from h.0 h.1 h.2,
)
  where
    from : (x : Place) → IsElement (kind_at d x) → names_to d x ≡ l → Memᴰ l (name_lists d)
    from [] e names = absurd (no-element d e)
    from (j ∷ y) e names =
        let (z, i, s) = last_of j y in
        Memᴰ.cast (sym names ∙ ap (names_to d) s) (from_in d [] z i (rw s at e))
