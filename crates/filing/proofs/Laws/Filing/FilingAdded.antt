-- Whether a report is refused, and with which number, hangs on no set: two sets' machines are after the same calls throughout.
use Prim.Native.Nat.{ℕ}
use mathlib.Core.Path.{◌≡◌, refl, sym, ap, ◌∙◌}
use mathlib.Core.Bool.{Bool, true, false}
use mathlib.Core.Option.{none}
use mathlib.Core.List.{List, [], ◌∷◌, ◌++◌, map, Memᴰ}
use lib.ListN.{length, length-map}
use Rattle.text.specs.Names.{Name, same_name}
use Rattle.text.specs.Lists.{non_empty, any}
use Rattle.notation.specs.Sets.{Folder, FolderSet, folder_number}
use Rattle.notation.specs.Accepted.{Accepted}
use Rattle.notation.proofs.Laws.Refused.AcceptedSet.{accepted-faultless}
use Rattle.text.specs.Order.{first}
use Rattle.model.specs.Calls.{as_left, Call, open_call, close_call, Level, level, name_of, State, fresh, is_innermost, refusal, accepted, done, after, run}
use Rattle.model.specs.Folders.{places_of, folder_matched, HasFolders}
use Rattle.model.proofs.Laws.Machine.Steps.{open-accepted-is, close-accepted-is, step-accepted, one_more-is}
use Rattle.model.proofs.Laws.Machine.Alike.{run-alike, same-accepted}
use Rattle.model.proofs.Laws.Machine.Adding.{adding-folders}
use Rattle.documents.specs.Document.{Event, opening, closing, text_here, comment_here}
use Rattle.filing.specs.Filing.{Outcome, refused, filed, event_order, end_order, event_leaves, shared_machine, FiledWith}
use Rattle.filing.specs.Code.Filing.{file_with}
use Rattle.filing.specs.Demand2.{Added}
use Rattle.filing.proofs.Laws.Filing.FilingOrder.{filing-is}
use Rattle.filing.proofs.Laws.Filing.FilingAlike.{Alike, both_refused, both_filed, alike-filed, Similar, report-alike}

some-names : (l : List Level) → non_empty (map name_of l) ≡ non_empty l
some-names [] = refl
some-names (x ∷ l) = refl

abbrev innermost : List Name → Name → Bool
innermost [] e = false
innermost (n ∷ outer) e = same_name n e

innermost-names : (l : List Level) (e : Name) → is_innermost l e ≡ innermost (map name_of l) e
innermost-names [] e = refl
innermost-names (level n w ∷ l) e = refl

module _ (a b : FolderSet) where
  abbrev pub SameCalls : State → State → Type 0
  SameCalls m n = (calls : List Call) × (m ≡ run a calls) × (n ≡ run b calls)

  module _ (calls : List Call) where
    same-open : non_empty (run a calls).levels ≡ non_empty (run b calls).levels
    same-open = sym (some-names (run a calls).levels) ∙ ap non_empty (run-alike a b calls).names ∙ some-names (run b calls).levels

    same-depth : length (run a calls).levels ≡ length (run b calls).levels
    same-depth = sym (length-map (run a calls).levels name_of) ∙ ap length (run-alike a b calls).names ∙ length-map (run b calls).levels name_of

    same-innermost : (e : Name) → is_innermost (run a calls).levels e ≡ is_innermost (run b calls).levels e
    same-innermost e =
        innermost-names (run a calls).levels e ∙ ap (λ (l : List Name). innermost l e) (run-alike a b calls).names ∙ sym (innermost-names (run b calls).levels e)

    same-order : (e : Event) → first (event_order (shared_machine a) (run a calls) e) ≡ first (event_order (shared_machine b) (run b calls) e)
    same-order (opening e) = rw ((run-alike a b calls).root, (run-alike a b calls).opens, same-depth)
    same-order (closing e) = rw (same-open, same-innermost e)
    same-order (text_here t) = rw same-open
    same-order (comment_here t) = refl

    same_end : first (end_order (shared_machine a) (run a calls)) ≡ first (end_order (shared_machine b) (run b calls))
    same_end = rw ((run-alike a b calls).opens, same-open)

    -- one more call that both accept
    more : (call : Call) → accepted (run a calls) call ≡ true → SameCalls (done a (run a calls) call) (done b (run b calls) call)
    more call ok = (
      calls ++ (call ∷ []),
      sym (one_more-is a calls call ∙ step-accepted a (run a calls) call ok),
      sym (one_more-is b calls call ∙ step-accepted b (run b calls) call (sym (same-accepted a b calls call) ∙ ok)),
    )

    same_left : (e : Event) → first (event_order (shared_machine a) (run a calls) e) ≡ none
        → SameCalls (event_leaves (shared_machine a) (run a calls) e) (event_leaves (shared_machine b) (run b calls) e)
    unfolding refusal
    same_left (opening e) ok = more (open_call as_left e) ((open-accepted-is (run a calls) e).1 ok)
    same_left (closing e) ok = more (close_call as_left e) ((close-accepted-is (run a calls) e).1 ok)
    same_left (text_here t) ok = (calls, refl, refl)
    same_left (comment_here t) ok = (calls, refl, refl)

  similar : Similar (shared_machine a) (shared_machine b) SameCalls
  similar = record {
    refusals = λ m n x e. rw (x.1, x.2) (same-order x.0 e);
    leaves = λ m n x e ok. rw (x.1, x.2) (same_left x.0 e (rw x.1 at ok));
    ends = λ m n x. rw (x.1, x.2) (same_end x.0);
  }

  pub same-filing : (report : List ℕ) → Alike SameCalls (file_with a report) (file_with b report)
  unfolding after
  same-filing report = report-alike _ _ similar [] report (fresh a) (fresh b) ([], refl, refl)

-- the machine at the end; a refused report leaves a fresh one
abbrev pub end_of : FolderSet → Outcome State → State
end_of s (refused r) = fresh s
end_of s (filed m) = m

no-matches : (s : FolderSet) (l : List ℕ) → any (fresh s).matched l ≡ false
unfolding any fresh
no-matches s [] = refl
no-matches s (i ∷ l) = no-matches s l

-- adding folders
module _ (set larger : FolderSet) (text : List ℕ) (acc : Accepted text larger) (has : HasFolders larger set) where
  pub same-matched : (f : Folder) → Memᴰ f set → {o p : Outcome State} → Alike (SameCalls set larger) o p
      → folder_matched set (end_of set o) (folder_number f) ≡ folder_matched larger (end_of larger p) (folder_number f)
  same-matched f i (both_refused r) = no-matches set (places_of set (folder_number f)) ∙ sym (no-matches larger (places_of larger (folder_number f)))
  same-matched f i (both_filed (calls, is, other)) = rw (is, other) (adding-folders set larger has (accepted-faultless text larger acc) f i calls)

  pub added : (bytes : List ℕ) (m : State) → FiledWith set bytes m → Added set larger bytes m
  added bytes m f =
      let (n, h, c) = alike-filed (same-filing set larger bytes) m ((filing-is set bytes (filed m)).0 f) in
      record { machine = n; is_filed = (filing-is larger bytes (filed n)).1 h; same = λ x i. same-matched x i (both_filed c) }
