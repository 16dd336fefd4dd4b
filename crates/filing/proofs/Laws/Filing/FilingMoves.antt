-- The failure moves that the machine counts over a report are those of its document, and a document has one count only.
use Prim.Native.Nat.{ℕ, ◌+◌}
use mathlib.Core.Path.{◌≡◌, refl, ap, ◌∙◌}
use mathlib.Core.Bool.{true}
use mathlib.Core.List.{List, [], ◌∷◌, ◌++◌, drop_last, append_assoc, append-nil}
use native.Mathlib.Omega.{arith}
use Rattle.text.specs.Names.{Name}
use Rattle.notation.specs.Sets.{FolderSet}
use Rattle.model.specs.Prefix.{prefix_of}
use Rattle.model.specs.Walk.{moves_of, walk}
use Rattle.model.specs.Calls.{as_left, open_call, close_call, Level, level, State, open_names, fresh, opened, closed_from, accepted, step, after, run}
use Rattle.model.proofs.Laws.Machine.Calls.{open-accepted, close-accepted}
use Rattle.model.proofs.Laws.Machine.Steps.{step-accepted, step-open-names, step-close-names}
use Rattle.model.proofs.Laws.Machine.MovesCounted.{open-moves, open-moves-only}
use Rattle.model.proofs.Laws.Machine.Sound.{Sound, fresh-sound, open-sound, close-sound}
use Rattle.documents.specs.Tree.{Node, element, text, comment, Nodes, none, ◌then◌}
use Rattle.documents.specs.Document.{Event, opening, closing, text_here, comment_here, events_at, events_in, document_of}
use Rattle.text.proofs.Laws.Tests.{and_left, and_right}
use Rattle.documents.proofs.Laws.Trees.Passed.{last_off}
use Rattle.filing.specs.Filing.{calls_in, all_accepted}
use Rattle.filing.specs.Printed.{MovesIn, no_nodes, of_element, of_text, of_comment}

-- the moves of events' walks, each from the current prefix of the names then open
unfoldable moves_over : FolderSet → List Name → List Event → ℕ
moves_over set names [] = 0
moves_over set names (opening n ∷ es) = moves_of (walk set (prefix_of set names) n) + moves_over set (names ++ (n ∷ [])) es
moves_over set names (closing n ∷ es) = moves_over set (drop_last names) es
moves_over set names (text_here b ∷ es) = moves_over set names es
moves_over set names (comment_here b ∷ es) = moves_over set names es

-- the machine counts them
module _ (set : FolderSet) where
  counted-open : (m : State) (e : Name) → Sound set m → accepted m (open_call as_left e) ≡ true
      → (step set m (open_call as_left e)).moves ≡ m.moves + moves_of (walk set (prefix_of set (open_names m)) e)
  unfolding opened
  counted-open m e g a =
      ap (λ (x : State). x.moves) (step-accepted set m (open_call as_left e) a) ∙ rw g.prefix

  open_kept : (m : State) (e : Name) → Sound set m → accepted m (open_call as_left e) ≡ true → Sound set (step set m (open_call as_left e))
  open_kept m e g a = rw (step-accepted set m (open_call as_left e) a) (open-sound set m e (open-accepted m e a) g)

  closed-moves : (levels : List Level) (m : State) → (closed_from levels m).moves ≡ m.moves
  unfolding closed_from
  closed-moves [] m = refl
  closed-moves (level n w ∷ outer) m = refl

  close-moves : (m : State) (e : Name) → accepted m (close_call as_left e) ≡ true → (step set m (close_call as_left e)).moves ≡ m.moves
  close-moves m e a = ap (λ (x : State). x.moves) (step-accepted set m (close_call as_left e) a) ∙ closed-moves m.levels m

  close-kept : (m : State) (e : Name) → Sound set m → accepted m (close_call as_left e) ≡ true → Sound set (step set m (close_call as_left e))
  unfolding closed_from
  close-kept m e g a =
      let c = close-accepted m e a in
      rw (step-accepted set m (close_call as_left e) a, c.innermost) (close-sound set m e c g)

  moves-over : (es : List Event) (m : State) → Sound set m → all_accepted set m (calls_in es) ≡ true
      → (after set m (calls_in es)).moves ≡ m.moves + moves_over set (open_names m) es
  unfolding all_accepted calls_in after moves_over
  moves-over [] m g h = omega arith
  moves-over (opening e ∷ es) m g h =
      let now : accepted m (open_call as_left e) ≡ true = and_left _ _ h in
      let t : State = step set m (open_call as_left e) in
      let names : open_names t ≡ open_names m ++ (e ∷ []) = step-open-names set m e now in
      omega (
        arith,
        moves-over es t (open_kept m e g now) (and_right (accepted m (open_call as_left e)) _ h),
        counted-open m e g now,
        ap (λ (l : List Name). moves_over set l es) names,
      )
  moves-over (closing e ∷ es) m g h =
      let now : accepted m (close_call as_left e) ≡ true = and_left _ _ h in
      let t : State = step set m (close_call as_left e) in
      let names : drop_last (open_names m) ≡ open_names t = ap drop_last (step-close-names set m e now) ∙ last_off (open_names t) e in
      omega (
        arith,
        moves-over es t (close-kept m e g now) (and_right (accepted m (close_call as_left e)) _ h),
        close-moves m e now,
        ap (λ (l : List Name). moves_over set l es) names,
      )
  moves-over (text_here b ∷ es) m g h = moves-over es m g h
  moves-over (comment_here b ∷ es) m g h = moves-over es m g h

-- and they are the document's
record Counts (set : FolderSet) (above : List Name) (xs : Nodes) (es : List Event) : Type 0 where
  pub moves : ℕ
  pub counted : MovesIn set above xs moves
  pub same : moves_over set above (events_in xs ++ es) ≡ moves + moves_over set above es

module _ (set : FolderSet) where
  mutual
    unfolding events_in events_at moves_over

    at-node : (x : Node) (xs : Nodes) (above : List Name) (es : List Event) → Counts set above xs es → Counts set above (x then xs) es
    at-node (element n kids) xs above es later =
        let inner = in-nodes kids (above ++ (n ∷ [])) (closing n ∷ (events_in xs ++ es)) in
        let all : ((events_in kids ++ (closing n ∷ [])) ++ events_in xs) ++ es ≡ events_in kids ++ (closing n ∷ (events_in xs ++ es)) = simp append_assoc in
        record {
          moves = moves_of (walk set (prefix_of set above) n) + (inner.moves + later.moves);
          counted = of_element (open-moves set above (prefix_of set above) n refl) inner.counted later.counted;
          same = omega (arith, ap (moves_over set (above ++ (n ∷ []))) all, inner.same, ap (λ (l : List Name). moves_over set l (events_in xs ++ es)) (last_off above n), later.same);
        }
    at-node (text b) xs above es later = record { moves = later.moves; counted = of_text later.counted; same = later.same }
    at-node (comment b) xs above es later = record { moves = later.moves; counted = of_comment later.counted; same = later.same }

    in-nodes : (xs : Nodes) (above : List Name) (es : List Event) → Counts set above xs es
    in-nodes none above es = record { moves = 0; counted = no_nodes; same = omega arith }
    in-nodes (x then xs) above es = at-node x xs above es (in-nodes xs above es)

  -- blanks outside the root have no part in it
  in-document : (xs : Nodes) (above : List Name) (k : ℕ) → MovesIn set above xs k → MovesIn set above (document_of xs) k
  unfolding document_of
  in-document none above k no_nodes = no_nodes
  in-document (element n kids then xs) above k (of_element own inner later) = of_element own inner (in-document xs above _ later)
  in-document (text b then xs) above k (of_text later) = in-document xs above k later
  in-document (comment b then xs) above k (of_comment later) = of_comment (in-document xs above k later)

  fresh-moves : (fresh set).moves ≡ 0
  unfolding fresh
  fresh-moves = refl

  fresh-names : open_names (fresh set) ≡ []
  unfolding fresh
  fresh-names = refl

  -- of a tree whose opens and closes are all accepted
  pub calls-moves : (xs : Nodes) → all_accepted set (fresh set) (calls_in (events_in xs)) ≡ true
      → MovesIn set [] (document_of xs) (run set (calls_in (events_in xs))).moves
  unfolding moves_over
  calls-moves xs h =
      let all = in-nodes xs [] [] in
      let is : (run set (calls_in (events_in xs))).moves ≡ all.moves =
      omega (
        arith,
        moves-over set (events_in xs) (fresh set) (fresh-sound set) h,
        fresh-moves,
        ap (λ (l : List Name). moves_over set l (events_in xs)) fresh-names,
        ap (moves_over set []) (append-nil (events_in xs)),
        all.same,
      ) in
      rw is (in-document xs [] all.moves all.counted)

  -- one count only
  pub moves-once : {xs : Nodes} {above : List Name} {j k : ℕ} → MovesIn set above xs j → MovesIn set above xs k → j ≡ k
  moves-once no_nodes no_nodes = refl
  moves-once (of_element own inner later) (of_element own₂ inner₂ later₂) =
      omega (arith, open-moves-only own own₂, moves-once inner inner₂, moves-once later later₂)
  moves-once (of_text later) (of_text later₂) = moves-once later later₂
  moves-once (of_comment later) (of_comment later₂) = moves-once later later₂
