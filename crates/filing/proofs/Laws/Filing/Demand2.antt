-- Filing by XPath 1.0, whole: of every set, an accepted one too, and of all bytes.
use Prim.Native.Nat.{ℕ, ◌≤◌}
use mathlib.Core.Path.{◌≡◌, refl, sym, ap, ◌∙◌, subst}
use mathlib.Core.Logic.{◌↔◌}
use mathlib.Core.Bool.{true, false, not, ◌||◌, true≢false}
use mathlib.Core.Option.{none}
use mathlib.Core.List.{List, [], ◌∷◌}
use lib.Dec.{eqb}
use lib.ListN.{length}
use native.Mathlib.Omega.{arith}
use Rattle.text.specs.Names.{Name}
use Rattle.text.specs.Lists.{non_empty, any}
use Rattle.notation.specs.Sets.{FolderSet}
use Rattle.notation.specs.Activity.{fits}
use Rattle.notation.proofs.Laws.Meaning.Fit.{fits-is}
use Rattle.text.specs.declared.refusals.Refusal.TheVariants.{NotOneRoot}
use Rattle.text.specs.Order.{first}
use Rattle.model.specs.Calls.{Call, Level, State, open_names, path_of_place, fresh, run}
use Rattle.model.specs.Folders.{folder_matched}
use Rattle.model.specs.Elements.{elements_of, childless_depths}
use Rattle.model.specs.History.{accepted_calls}
use Rattle.text.proofs.Laws.Lists.{any-is, is_any}
use Rattle.model.proofs.Laws.Machine.Folders.{folder-matched}
use Rattle.model.proofs.Laws.Machine.Sound.{Sound, sound}
use Rattle.model.proofs.Laws.Machine.Whole.{whole}
use Rattle.documents.specs.Tokens.{RunOfTokens}
use Rattle.documents.specs.Document.{Event, events_of, TreeOf, Report, document_in}
use Rattle.documents.specs.Code.Events.{passed, passed_in}
use Rattle.documents.specs.NameList.{name_lists}
use Rattle.filing.specs.Filing.{filed, end_order, file_events, file_end, shared_machine, FiledWith, calls_in, all_accepted}
use Rattle.filing.specs.Code.Filing.{file_with}
use Rattle.filing.specs.Demand2.{count_in, childless_in, SelectsElement, FolderSelects, OfDocument, Demand2}
use Rattle.text.proofs.Laws.Tests.{neither}
use Rattle.documents.proofs.Laws.Trees.Balance.{balanced-is}
use Rattle.documents.proofs.Laws.Trees.Passed.{passed_is}
use Rattle.documents.proofs.Laws.Trees.OneDocument.{one-document, report-selects}
use Rattle.text.proofs.Laws.Order.{unmet}
use Rattle.filing.proofs.Laws.Filing.FilingParts.{unless-filed, both-filed}
use Rattle.filing.proofs.Laws.Filing.FilingOrder.{filed-run, filed-unrepeated, filing-is, filing-only}
use Rattle.filing.proofs.Laws.Filing.FilingRun.{taken-after, taken-accepted, fresh-balanced, taken-matched, taken-opens}
use Rattle.filing.proofs.Laws.Filing.FilingChildless.{count-in, calls-childless}
use Rattle.filing.proofs.Laws.Filing.FilingAdded.{added}

fresh-matched : (set : FolderSet) (place : ℕ) (l : List (List Name)) → ((fresh set).matched place || any (fits (path_of_place set place)) l) ≡ any (fits (path_of_place set place)) l
unfolding fresh
fresh-matched set place l = refl

fresh-names : (set : FolderSet) → open_names (fresh set) ≡ []
unfolding fresh
fresh-names set = refl

fresh-opens : (set : FolderSet) → (fresh set).opens ≡ 0
unfolding fresh
fresh-opens set = refl

none_open : (l : List Level) → not (not (non_empty l)) ≡ false → length l ≡ 0
none_open [] h = refl
none_open (x ∷ l) h = absurd (true≢false h)

module _ (set : FolderSet) (bytes : List ℕ) (m : State) (f : FiledWith set bytes m) where
  tokens-run : RunOfTokens bytes
  tokens-run = (filed-run set bytes m f).0

  abbrev events : List Event
  events = events_of tokens-run.tokens

  ended : (file_events (shared_machine set) (fresh set) events ≡ filed m) × (first (end_order (shared_machine set) m) ≡ none)
  unfolding tokens-run
  ended =
      let (n, k, g) = both-filed (file_events (shared_machine set) (fresh set) events) (file_end (shared_machine set)) m (filed-run set bytes m f).1 in
      let (u, is) = unless-filed (first (end_order (shared_machine set) n)) n m g in
      (k ∙ ap filed is, ap (λ (x : State). first (end_order (shared_machine set) x)) (sym is) ∙ u)

  filed-events : file_events (shared_machine set) (fresh set) events ≡ filed m
  filed-events = ended.0

  tree : TreeOf tokens-run.tokens
  tree = (balanced-is tokens-run.tokens).0 (fresh-balanced set events m filed-events ended.1)

  abbrev report : Report bytes
  report = record { run = tokens-run; tree = tree }

  after-calls : run set (calls_in events) ≡ m
  after-calls = taken-after set events (fresh set) m filed-events

  all-taken : all_accepted set (fresh set) (calls_in events) ≡ true
  all-taken = taken-accepted set events (fresh set) m filed-events

  -- matched: some passed list fits
  matched-passed : (place : ℕ) → m.matched place ≡ any (fits (path_of_place set place)) (passed_in report)
  matched-passed place =
      taken-matched set place events (fresh set) m filed-events
      ∙ fresh-matched set place (passed (open_names (fresh set)) events)
      ∙ ap (λ (l : List Name). any (fits (path_of_place set place)) (passed l events)) (fresh-names set)

  paths : (place : ℕ) → (m.matched place ≡ true) ↔ SelectsElement (document_in report) (path_of_place set place)
  paths place = (
    λ h.
        let (l, i, t) = any-is (fits (path_of_place set place)) (passed_in report) (sym (matched-passed place) ∙ h) in
        (report-selects bytes report (path_of_place set place)).1 (l, i, (fits-is (path_of_place set place) l).1 t),
    λ h.
        let (l, i, t) = (report-selects bytes report (path_of_place set place)).0 h in
        matched-passed place ∙ is_any (fits (path_of_place set place)) (passed_in report) i ((fits-is (path_of_place set place) l).0 t),
  )

  folders : (number : ℕ) → (folder_matched set m number ≡ true) ↔ FolderSelects set (document_in report) number
  folders number = (
    λ h.
        let r = (folder-matched set m number).0 h in
        (r.place, r.of_folder, (paths r.place).0 r.is_matched),
    λ h.
        let (place, i, s) = h in
        (folder-matched set m number).1 (record { place = place; of_folder = i; is_matched = (paths place).1 s }),
  )

  opens : m.opens ≡ count_in (document_in report)
  opens =
      let lists : passed (open_names (fresh set)) events ≡ name_lists (document_in report) =
      ap (λ (l : List Name). passed l events) (fresh-names set) ∙ ap (passed []) (sym tree.same) ∙ passed_is tree.nodes in
      omega (arith, taken-opens set events (fresh set) m filed-events, fresh-opens set, ap length lists, count-in (document_in report) [])

  closes : m.closes ≡ count_in (document_in report)
  closes =
      let g : Sound set m = subst (Sound set) after-calls (sound set (calls_in events)) in
      let shut : length m.levels ≡ 0 = none_open m.levels (neither (eqb m.opens 0) (not (not (non_empty m.levels))) (unmet _ NotOneRoot [] ended.1)).1 in
      omega (arith, g.balance, shut, opens)

  moves : m.moves ≤ childless_in 0 (document_in report)
  moves =
      let calls : List Call = calls_in events in
      let most : m.moves ≤ childless_depths (elements_of (accepted_calls set calls)) =
      subst (λ (x : State). x.moves ≤ childless_depths (elements_of (accepted_calls set calls))) after-calls (whole set calls).moves in
      let same : childless_depths (elements_of (accepted_calls set calls)) ≡ childless_in 0 (document_in report) =
      subst (λ (es : List Event). childless_depths (elements_of (accepted_calls set (calls_in es))) ≡ childless_in 0 (document_in report)) tree.same
      (calls-childless set tree.nodes (ap (λ (es : List Event). all_accepted set (fresh set) (calls_in es)) tree.same ∙ all-taken)) in
      omega (arith, most, same)

  pub of-document : OfDocument set bytes m
  of-document = record {
    report = report;
    only = λ other. one-document bytes other report;
    no_repeats = filed-unrepeated set bytes m f;
    all_taken = all-taken;
    machine = after-calls;
    paths = paths;
    folders = folders;
    opens = opens;
    closes = closes;
    moves = moves;
  }

pub demand2 : (set : FolderSet) (bytes : List ℕ) → Demand2 set bytes
demand2 set bytes = record {
  gives = (file_with set bytes, (filing-is set bytes (file_with set bytes)).1 refl);
  only = filing-only set bytes;
  document = of-document set bytes;
  adding = λ text larger acc has m f. added set larger text acc has bytes m f;
}
