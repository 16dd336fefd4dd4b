-- The childless depths that the machine counts over calls are those of the document, and so is the number of elements.
use Prim.Native.Nat.{ℕ, suc, ◌+◌}
use mathlib.Core.Path.{◌≡◌, refl, sym, ap, ◌∙◌}
use mathlib.Core.Bool.{Bool, true, false, cond}
use mathlib.Core.List.{List, [], ◌∷◌, ◌++◌, append_assoc, append-nil}
use lib.Dec.{eqb}
use lib.ListN.{length, length-append}
use borrow.Author.Tests.{ne_eqb}
use native.Mathlib.Omega.{arith}
use Rattle.text.specs.Names.{Name}
use Rattle.notation.specs.Sets.{FolderSet}
use Rattle.model.specs.Calls.{as_left, Call, open_call, close_call, State, fresh, accepted, step}
use Rattle.model.specs.History.{accepted_after, accepted_calls}
use Rattle.model.specs.Elements.{Element, element as item, Elements, elements, with_child, opening as open_one, closing as close_one, elements_of, sum_depths, childless_depths}
use Rattle.documents.specs.Tree.{Node, element, text, comment, Nodes, none, ◌then◌}
use Rattle.documents.specs.NameList.{lists_of, lists_in}
use Rattle.documents.specs.Document.{Event, opening, closing, text_here, comment_here, events_at, events_in, element_here, elements_among, keep, document_of}
use Rattle.filing.specs.Filing.{calls_in, all_accepted}
use Rattle.filing.specs.Demand2.{count_at, count_in, childless_at, childless_in}
use Rattle.text.proofs.Laws.Tests.{and_left, and_right}

-- as many elements as name lists
mutual
  unfolding count_at count_in lists_of lists_in

  count_at-is : (x : Node) (above : List Name) → length (lists_of above x) ≡ count_at x
  count_at-is (element n kids) above = ap suc (count-in kids (above ++ (n ∷ [])))
  count_at-is (text b) above = refl
  count_at-is (comment b) above = refl

  pub count-in : (xs : Nodes) (above : List Name) → length (lists_in above xs) ≡ count_in xs
  count-in none above = refl
  count-in (x then xs) above = omega (arith, length-append (lists_of above x) (lists_in above xs), count_at-is x above, count-in xs above)

-- accepted calls, the last first
unfoldable pushed : List Call → List Call → List Call
pushed earlier [] = earlier
pushed earlier (call ∷ calls) = pushed (call ∷ earlier) calls

accepted-all : (set : FolderSet) (calls : List Call) (m : State) (earlier : List Call) → all_accepted set m calls ≡ true → accepted_after set m earlier calls ≡ pushed earlier calls
unfolding all_accepted accepted_after pushed
accepted-all set [] m earlier h = refl
accepted-all set (call ∷ calls) m earlier h =
    let now : accepted m call ≡ true = and_left _ _ h in
    rw now (accepted-all set calls (step set m call) (call ∷ earlier) (and_right (accepted m call) _ h))

-- the elements after some events
unfoldable after : Elements → List Event → Elements
after all [] = all
after all (opening n ∷ es) = after (open_one all) es
after all (closing n ∷ es) = after (close_one all) es
after all (text_here b ∷ es) = after all es
after all (comment_here b ∷ es) = after all es

elements-after : (es : List Event) (earlier : List Call) → elements_of (pushed earlier (calls_in es)) ≡ after (elements_of earlier) es
unfolding pushed calls_in after elements_of
elements-after [] earlier = refl
elements-after (opening n ∷ es) earlier = elements-after es (open_call as_left n ∷ earlier)
elements-after (closing n ∷ es) earlier = elements-after es (close_call as_left n ∷ earlier)
elements-after (text_here b ∷ es) earlier = elements-after es earlier
elements-after (comment_here b ∷ es) earlier = elements-after es earlier

-- the open elements after a node, and after siblings with `k` elements among them
abbrev after_node : Node → List Element → List Element
after_node (element n kids) inner = with_child inner
after_node (text b) inner = inner
after_node (comment b) inner = inner

abbrev after_many : ℕ → List Element → List Element
after_many k inner = cond (eqb k 0) inner (with_child inner)

child-length : (inner : List Element) → length (with_child inner) ≡ length inner
child-length [] = refl
child-length (item d c ∷ outer) = refl

node-length : (x : Node) (inner : List Element) → length (after_node x inner) ≡ length inner
node-length (element n kids) inner = child-length inner
node-length (text b) inner = refl
node-length (comment b) inner = refl

twice : (inner : List Element) → with_child (with_child inner) ≡ with_child inner
twice [] = refl
twice (item d c ∷ outer) = refl

either_way : (b : Bool) (l : List Element) → cond b l l ≡ l
either_way true l = refl
either_way false l = refl

then_many : (x : Node) (k : ℕ) (inner : List Element) → after_many k (after_node x inner) ≡ after_many (element_here x + k) inner
then_many (element n kids) k inner =
    let some : eqb (1 + k) 0 ≡ false = ne_eqb (1 + k) 0 (λ e. omega arith) in
    rw (some, twice inner) (either_way (eqb k 0) (with_child inner))
then_many (text b) k inner =
    let e : k ≡ 0 + k = omega arith in
    ap (λ (j : ℕ). after_many j inner) e
then_many (comment b) k inner =
    let e : k ≡ 0 + k = omega arith in
    ap (λ (j : ℕ). after_many j inner) e

-- the innermost element closes: childless if no element was among its children
closes-one : (k d : ℕ) (outer gone : List Element) → close_one (elements (after_many k (item d true ∷ outer)) gone) ≡ elements outer (item d (eqb k 0) ∷ gone)
closes-one k d outer gone = go (eqb k 0)
  where
    go : (b : Bool) → close_one (elements (cond b (item d true ∷ outer) (item d false ∷ outer)) gone) ≡ elements outer (item d b ∷ gone)
    go true = refl
    go false = refl

one-sum : (b : Bool) (d : ℕ) (gone : List Element) → sum_depths (item d b ∷ gone) ≡ cond b d 0 + sum_depths gone
unfolding sum_depths
one-sum true d gone = refl
one-sum false d gone = refl

record Closed (all : Elements) (inner : List Element) (sum : ℕ) (es : List Event) : Type 0 where
  pub gone : List Element
  pub sums : sum_depths gone ≡ sum
  pub same : all ≡ after (elements inner gone) es

mutual
  unfolding events_at events_in childless_at childless_in after elements_among

  at-node : (x : Node) (inner gone : List Element) (es : List Event)
      → Closed (after (elements inner gone) (events_at x ++ es)) (after_node x inner) (sum_depths gone + childless_at (length inner) x) es
  at-node (element n kids) inner gone es =
      let d : ℕ = suc (length inner) in
      let r = at-nodes kids (item d true ∷ with_child inner) gone (closing n ∷ es) in
      let deep : childless_in (suc (length (with_child inner))) kids ≡ childless_in d kids = ap (λ (k : ℕ). childless_in (suc k) kids) (child-length inner) in
      record {
        gone = item d (eqb (elements_among kids) 0) ∷ r.gone;
        sums = omega (arith, one-sum (eqb (elements_among kids) 0) d r.gone, r.sums, deep);
        same =
            ap (after (elements (item d true ∷ with_child inner) gone)) (append_assoc (events_in kids) (closing n ∷ []) es)
            ∙ r.same ∙ ap (λ (all : Elements). after all es) (closes-one (elements_among kids) d (with_child inner) r.gone);
      }
  at-node (text b) inner gone es = record { gone = gone; sums = omega arith; same = refl }
  at-node (comment b) inner gone es = record { gone = gone; sums = omega arith; same = refl }

  at-nodes : (xs : Nodes) (inner gone : List Element) (es : List Event)
      → Closed (after (elements inner gone) (events_in xs ++ es)) (after_many (elements_among xs) inner) (sum_depths gone + childless_in (length inner) xs) es
  at-nodes none inner gone es = record { gone = gone; sums = omega arith; same = refl }
  at-nodes (x then xs) inner gone es =
      let r = at-node x inner gone (events_in xs ++ es) in
      let q = at-nodes xs (after_node x inner) r.gone es in
      let deep : childless_in (length (after_node x inner)) xs ≡ childless_in (length inner) xs = ap (λ (k : ℕ). childless_in k xs) (node-length x inner) in
      record {
        gone = q.gone;
        sums = omega (arith, r.sums, q.sums, deep);
        same =
            ap (after (elements inner gone)) (append_assoc (events_at x) (events_in xs) es)
            ∙ r.same ∙ q.same ∙ ap (λ (l : List Element). after (elements l q.gone) es) (then_many x (elements_among xs) inner);
      }

whole-tree : (xs : Nodes) → childless_depths (after (elements [] []) (events_in xs)) ≡ childless_in 0 xs
unfolding after sum_depths
whole-tree xs =
    let r = at-nodes xs [] [] [] in
    ap (λ (es : List Event). childless_depths (after (elements [] []) es)) (sym (append-nil (events_in xs)))
    ∙ ap childless_depths r.same ∙ ap (λ (l : List Element). sum_depths l + sum_depths r.gone) (either_way (eqb (elements_among xs) 0) [])
    ∙ omega (arith, r.sums)

-- blanks outside the root have no part in it
kept-childless : (x : Node) (xs : Nodes) → childless_in 0 (keep x xs) ≡ childless_at 0 x + childless_in 0 xs
unfolding childless_in childless_at
kept-childless (element n kids) xs = refl
kept-childless (text b) xs = omega arith
kept-childless (comment b) xs = refl

document-childless : (xs : Nodes) → childless_in 0 (document_of xs) ≡ childless_in 0 xs
unfolding childless_in document_of
document-childless none = refl
document-childless (x then xs) = omega (arith, kept-childless x (document_of xs), document-childless xs)

-- the childless depths of a tree's calls, all accepted, are those of its document
pub calls-childless : (set : FolderSet) (xs : Nodes) → all_accepted set (fresh set) (calls_in (events_in xs)) ≡ true
    → childless_depths (elements_of (accepted_calls set (calls_in (events_in xs)))) ≡ childless_in 0 (document_of xs)
unfolding elements_of
calls-childless set xs h =
    ap (λ (calls : List Call). childless_depths (elements_of calls)) (accepted-all set (calls_in (events_in xs)) (fresh set) [] h)
    ∙ ap childless_depths (elements-after (events_in xs) [])
    ∙ whole-tree xs ∙ sym (document-childless xs)
