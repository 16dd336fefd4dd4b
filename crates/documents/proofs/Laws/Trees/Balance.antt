-- Tokens are those of a tree with one root exactly when their opens and closes are balanced, and then of one tree.
use Prim.Native.Nat.{ℕ, ◌+◌}
use native.Mathlib.Omega.{arith}
use mathlib.Core.Path.{◌≡◌, refl, sym, ap, ap₂, ◌∙◌}
use mathlib.Core.Logic.{◌↔◌}
use mathlib.Core.Bool.{Bool, true, false, not, true≢false, false≢true}
use mathlib.Core.List.{List, [], ◌∷◌, ◌++◌, append_assoc, append-nil, tail-eq_of_cons-eq}
use borrow.Author.Tests.{not-true}
use Rattle.text.specs.Names.{Name, same_name}
use Rattle.text.specs.Lists.{every}
use Rattle.text.proofs.Laws.Bytes.SameName.{same_name-is}
use Rattle.documents.specs.Tree.{Node, element, text, comment, Nodes, none, ◌then◌}
use Rattle.documents.specs.Tokens.{Token, blank}
use Rattle.documents.specs.Document.{Event, opening, closing, text_here, comment_here, events_of, events_at, events_in, elements_among, blank_among, TreeOf}
use Rattle.documents.specs.Code.Events.{balanced}
use Rattle.text.proofs.Laws.Tests.{zero_one, and_left, and_right, both_true}

-- the events of siblings inside an element leave the balance as it is
mutual
  unfolding events_at events_in balanced

  inside-at : (x : Node) (m : Name) (names : List Name) (seen : Bool) (es : List Event)
      → balanced (m ∷ names) seen (events_at x ++ es) ≡ balanced (m ∷ names) seen es
  inside-at (element n kids) m names seen es =
      rw (append_assoc (events_in kids) (closing n ∷ []) es, inside kids n (m ∷ names) seen (closing n ∷ es), (same_name-is n n).1 refl)
  inside-at (text b) m names seen es = refl
  inside-at (comment b) m names seen es = refl

  inside : (xs : Nodes) (m : Name) (names : List Name) (seen : Bool) (es : List Event)
      → balanced (m ∷ names) seen (events_in xs ++ es) ≡ balanced (m ∷ names) seen es
  inside none m names seen es = refl
  inside (x then xs) m names seen es =
      rw (append_assoc (events_at x) (events_in xs) es) (inside-at x m names seen (events_in xs ++ es) ∙ inside xs m names seen es)

-- siblings beside which no element was seen yet have one, or none
abbrev roots : Bool → ℕ
roots true = 0
roots false = 1

beside : (xs : Nodes) (seen : Bool) → elements_among xs ≡ roots seen → blank_among xs ≡ true → balanced [] seen (events_in xs) ≡ true
unfolding events_in balanced elements_among blank_among events_at
beside none true r b = refl
beside none false r b = absurd (omega arith)
beside (element n kids then xs) true r b = absurd (omega arith)
beside (element n kids then xs) false r b =
    rw (append_assoc (events_in kids) (closing n ∷ []) (events_in xs), inside kids n [] true (closing n ∷ events_in xs), (same_name-is n n).1 refl)
    (beside xs true (omega arith) b)
beside (text c then xs) seen r b =
    let now : every blank c ≡ true = and_left _ _ b in
    rw now (beside xs seen (omega arith) (and_right (every blank c) _ b))
beside (comment c then xs) seen r b = beside xs seen (omega arith) b

-- what balanced events are, with these names open: siblings and the close of the innermost, and so on outwards
Rest : List Name → Bool → List Event → Type 0
Rest [] seen es = (xs : Nodes) × (events_in xs ≡ es) × (elements_among xs ≡ roots seen) × (blank_among xs ≡ true)
Rest (m ∷ names) seen es = (xs : Nodes) × (after : List Event) × (es ≡ events_in xs ++ (closing m ∷ after)) × Rest names seen after

one_more-is : (x : Node) (m : Name) (names : List Name) (seen : Bool) (es : List Event)
    → Rest (m ∷ names) seen es → Rest (m ∷ names) seen (events_at x ++ es)
unfolding Rest events_in
one_more-is x m names seen es (xs, after, e, r) =
    (x then xs, after, ap (◌++◌ (events_at x)) e ∙ sym (append_assoc (events_at x) (events_in xs) (closing m ∷ after)), r)

rest : (es : List Event) (names : List Name) (seen : Bool) → balanced names seen es ≡ true → Rest names seen es
unfolding Rest balanced events_in events_at elements_among blank_among
rest [] [] seen h = (none, refl, ap roots (sym h), refl)
rest [] (m ∷ names) seen h = absurd (false≢true h)
rest (opening n ∷ es) [] seen h =
    let unseen : seen ≡ false = not-true seen (and_left _ _ h) in
    let (kids, after, e, (xs, same, r, b)) = rest es (n ∷ []) true (and_right (not seen) _ h) in
    (element n kids then xs, rw (append_assoc (events_in kids) (closing n ∷ []) (events_in xs), same, ← e), ap (λ (k : ℕ). 1 + k) r ∙ ap roots (sym unseen), b)
rest (opening n ∷ es) (m ∷ names) seen h =
    let (kids, after, e, r) = rest es (n ∷ m ∷ names) seen h in
    let all = one_more-is (element n kids) m names seen after r in
    rw (append_assoc (events_in kids) (closing n ∷ []) after, ← e) at all
rest (closing n ∷ es) [] seen h = absurd (false≢true h)
rest (closing n ∷ es) (m ∷ names) seen h =
    let same : m ≡ n = (same_name-is m n).0 (and_left _ _ h) in
    (none, es, ap (λ (k : Name). closing k ∷ es) (sym same), rest es names seen (and_right (same_name m n) _ h))
rest (text_here b ∷ es) [] seen h =
    let now : every blank b ≡ true = and_left _ _ h in
    let (xs, same, r, k) = rest es [] seen (and_right (every blank b) _ h) in
    (text b then xs, ap (◌∷◌ (text_here b)) same, omega arith, both_true now k)
rest (text_here b ∷ es) (m ∷ names) seen h = one_more-is (text b) m names seen es (rest es (m ∷ names) seen h)
rest (comment_here b ∷ es) [] seen h =
    let (xs, same, r, k) = rest es [] seen h in
    (comment b then xs, ap (◌∷◌ (comment_here b)) same, omega arith, k)
rest (comment_here b ∷ es) (m ∷ names) seen h = one_more-is (comment b) m names seen es (rest es (m ∷ names) seen h)

-- balanced tokens with one root are those of a tree, and only they
pub balanced-is : (ts : List Token) → (balanced [] false (events_of ts) ≡ true) ↔ TreeOf ts
unfolding Rest
balanced-is ts = (
  λ h.
      let (xs, same, r, b) = rest (events_of ts) [] false h in
      record { nodes = xs; same = same; one_root = r; blanks = b },
  λ t. ap (balanced [] false) (sym t.same) ∙ beside t.nodes false t.one_root t.blanks,
)

-- events that end siblings: none, or the close of their parent
abbrev ends : List Event → Bool
ends [] = true
ends (opening n ∷ es) = false
ends (closing n ∷ es) = true
ends (text_here b ∷ es) = false
ends (comment_here b ∷ es) = false

starts : (x : Node) (es : List Event) → ends (events_at x ++ es) ≡ false
unfolding events_at
starts (element n kids) es = refl
starts (text b) es = refl
starts (comment b) es = refl

mutual
  unfolding events_at events_in

  same_at : (x y : Node) (r s : List Event) → events_at x ++ r ≡ events_at y ++ s → (x ≡ y) × (r ≡ s)
  same_at (element n kids) (element m others) r s e =
      let name : n ≡ m = cc in
      let (inner, after) = same_in kids others (closing n ∷ r) (closing m ∷ s) refl refl
      (sym (append_assoc (events_in kids) (closing n ∷ []) r) ∙ tail-eq_of_cons-eq e ∙ append_assoc (events_in others) (closing m ∷ []) s) in
      (ap₂ element name inner, tail-eq_of_cons-eq after)
  same_at (element n kids) (text b) r s e = zero_one (cc)
  same_at (element n kids) (comment b) r s e = zero_one (cc)
  same_at (text a) (element m others) r s e = zero_one (cc)
  same_at (text a) (text b) r s e = (cc, tail-eq_of_cons-eq e)
  same_at (text a) (comment b) r s e = zero_one (cc)
  same_at (comment a) (element m others) r s e = zero_one (cc)
  same_at (comment a) (text b) r s e = zero_one (cc)
  same_at (comment a) (comment b) r s e = (cc, tail-eq_of_cons-eq e)

  same_in : (xs ys : Nodes) (r s : List Event) → ends r ≡ true → ends s ≡ true → events_in xs ++ r ≡ events_in ys ++ s → (xs ≡ ys) × (r ≡ s)
  same_in none none r s f g e = (refl, e)
  same_in none (y then ys) r s f g e =
      absurd (true≢false (sym f ∙ ap ends e ∙ ap ends (append_assoc (events_at y) (events_in ys) s) ∙ starts y (events_in ys ++ s)))
  same_in (x then xs) none r s f g e =
      absurd (true≢false (sym g ∙ ap ends (sym e) ∙ ap ends (append_assoc (events_at x) (events_in xs) r) ∙ starts x (events_in xs ++ r)))
  same_in (x then xs) (y then ys) r s f g e =
      let (here, there) = same_at x y (events_in xs ++ r) (events_in ys ++ s)
      (sym (append_assoc (events_at x) (events_in xs) r) ∙ e ∙ append_assoc (events_at y) (events_in ys) s) in
      let (later, after) = same_in xs ys r s f g there in
      (ap₂ ◌then◌ here later, after)

-- equal tokens are of one tree only
pub one-tree : (ts us : List Token) → ts ≡ us → (t : TreeOf ts) (u : TreeOf us) → t.nodes ≡ u.nodes
one-tree ts us e t u =
    (same_in t.nodes u.nodes [] [] refl refl
    (append-nil (events_in t.nodes) ∙ t.same ∙ ap events_of e ∙ sym u.same ∙ sym (append-nil (events_in u.nodes)))).0
