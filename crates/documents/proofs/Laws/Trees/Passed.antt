-- The name lists of a tree's elements are the lists of open names right after each open of its events, in the same order.
use mathlib.Core.Path.{◌≡◌, refl, sym, ap, ◌∙◌}
use mathlib.Core.Logic.{◌↔◌}
use mathlib.Core.List.{List, [], ◌∷◌, ◌++◌, drop_last, append_assoc, append-nil, Memᴰ}
use Rattle.text.specs.Names.{Name}
use Rattle.notation.specs.Sets.{Path}
use Rattle.notation.specs.Fit.{Fits}
use Rattle.documents.specs.Tree.{Node, element, text, comment, Nodes, none, ◌then◌, Place, kind_at}
use Rattle.documents.specs.XPath.{IsElement, selected}
use Rattle.documents.specs.Tokens.{Token}
use Rattle.documents.specs.NameList.{names_to, lists_of, lists_in, name_lists}
use Rattle.documents.specs.Document.{Event, closing, events_of, events_at, events_in, TreeOf, keep, document_of}
use Rattle.documents.specs.Code.Events.{passed}
use Rattle.documents.proofs.Laws.Trees.Select.{selects-some}
use Rattle.documents.proofs.Laws.Trees.Listed.{listed-is}

pub last_off : (l : List Name) (n : Name) → drop_last (l ++ (n ∷ [])) ≡ l
last_off [] n = refl
last_off (a ∷ []) n = refl
last_off (a ∷ b ∷ l) n = ap (◌∷◌ a) (last_off (b ∷ l) n)

mutual
  unfolding lists_of lists_in events_at events_in passed

  passed-at : (x : Node) (names : List Name) (es : List Event) → passed names (events_at x ++ es) ≡ lists_of names x ++ passed names es
  passed-at (element n kids) names es =
      let more : List Name = names ++ (n ∷ []) in
      let inner : passed more ((events_in kids ++ (closing n ∷ [])) ++ es) ≡ lists_in more kids ++ passed names es =
      rw (append_assoc (events_in kids) (closing n ∷ []) es, passed-in kids more (closing n ∷ es), last_off names n) in
      ap (◌∷◌ more) inner
  passed-at (text b) names es = refl
  passed-at (comment b) names es = refl

  passed-in : (xs : Nodes) (names : List Name) (es : List Event) → passed names (events_in xs ++ es) ≡ lists_in names xs ++ passed names es
  passed-in none names es = refl
  passed-in (x then xs) names es =
      rw (append_assoc (events_at x) (events_in xs) es, passed-at x names (events_in xs ++ es), passed-in xs names es)
      (sym (append_assoc (lists_of names x) (lists_in names xs) (passed names es)))

-- blanks outside the root have no part in it
kept : (x : Node) (xs : Nodes) → lists_in [] (keep x xs) ≡ lists_of [] x ++ lists_in [] xs
unfolding lists_of lists_in
kept (element n kids) xs = refl
kept (text b) xs = refl
kept (comment b) xs = refl

document-lists : (xs : Nodes) → name_lists (document_of xs) ≡ lists_in [] xs
unfolding lists_in document_of
document-lists none = refl
document-lists (x then xs) = kept x (document_of xs) ∙ ap (◌++◌ (lists_of [] x)) (document-lists xs)

pub passed_is : (xs : Nodes) → passed [] (events_in xs) ≡ name_lists (document_of xs)
unfolding passed
passed_is xs =
    ap (passed []) (sym (append-nil (events_in xs))) ∙ passed-in xs [] [] ∙ append-nil (lists_in [] xs) ∙ sym (document-lists xs)

-- demand 2, joined: a path selects an element of the tokens' document exactly when it fits the open names right after some open
pub selects-passed : (ts : List Token) (t : TreeOf ts) (p : Path)
    → ((x : Place) × IsElement (kind_at (document_of t.nodes) x) × selected (document_of t.nodes) p x)
    ↔ ((l : List Name) × Memᴰ l (passed [] (events_of ts)) × Fits p l)
selects-passed ts t p =
    let d = document_of t.nodes in
    let lists : name_lists d ≡ passed [] (events_of ts) = sym (passed_is t.nodes) ∙ ap (passed []) t.same in (
      λ h.
          let (x, is, f) = (selects-some d p).0 h in
          (names_to d x, rw lists at ((listed-is d (names_to d x)).1 (x, is, refl)), f),
      λ h.
          let (l, m, f) = h in
          let (x, is, names) = (listed-is d l).0 (rw lists m) in
          (selects-some d p).1 (x, is, rw names f),
    )
