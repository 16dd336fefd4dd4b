-- Filing by XPath 1.0, of the call itself: what it answers and leaves, and what is then asked, by the report's document.
use Prim.Native.Nat.{ℕ, ◌≤◌, ◌<◌}
use mathlib.Core.Path.{◌≡◌, refl, sym, ap, ◌∙◌, subst}
use mathlib.Core.Bool.{Bool, true}
use mathlib.Core.Logic.{◌↔◌}
use mathlib.Core.List.{List, [], ◌++◌, Memᴰ}
use lib.Dec.{eqb}
use lib.ListN.{length, drop}
use borrow.Author.Tests.{eq-eqb}
use Rattle.notation.specs.Sets.{Folder, FolderSet, folder_number}
use Rattle.notation.specs.Form.{paths_of}
use Rattle.text.specs.declared.refusals.Refusal.{Refusal}
use Rattle.text.specs.declared.refusals.Refusal.TheVariants.{RepeatedAttribute}
use Rattle.text.specs.Refusals.{number_of}
use Rattle.text.specs.Answers.{Answer, value}
use Rattle.notation.specs.declared.PathPlace.{PathPlace}
use Rattle.notation.specs.declared.FolderNumber.{FolderNumber}
use Rattle.model.specs.Calls.{Call, State, path_of_place}
use Rattle.model.specs.History.{FittedAfterOpen}
use Rattle.model.specs.Folders.{folder_matched}
use Rattle.stored.specs.Run.{run_size, run_of}
use Rattle.stored.specs.RunCalls.{start_run, no_counters}
use Rattle.stored.specs.Asking.{ask_path, ask_folder}
use Rattle.stored.specs.Demand3.{Left, started, Answers, HasFolder, HasMatchedPath}
use Rattle.stored.specs.declared.counters.Counters.{Counters}
use Rattle.text.proofs.Laws.Lists.{is_any}
use Rattle.model.proofs.Laws.Machine.Matches.{run-matched}
use Rattle.model.proofs.Laws.Machine.Moves.{Few, fresh-few}
use Rattle.stored.proofs.Laws.Running.Means.{Means}
use Rattle.stored.proofs.Laws.Running.FolderPlaces.{has_number}
use Rattle.stored.proofs.Laws.Running.Asking.{ask-folder}
use Rattle.stored.proofs.Laws.Running.Following.{left_of, start_left}
use Rattle.stored.proofs.Laws.Running.Demand3.{path-answers, folder-answers, start-accepted}
use Rattle.documents.specs.Document.{events_of, document_in}
use Rattle.filing.specs.Filing.{Outcome, refused, filed, number_given, calls_in, Refused}
use Rattle.filing.specs.Demand2.{childless_in, SelectsElement, FolderSelects, OfDocument}
use Rattle.filing.specs.ReportRefusals.{stored_machine, left_by, Files}
use Rattle.filing.specs.Code.Filing.{file_report, file_with}
use Rattle.filing.specs.FiledReport.{FiledReport, report_numbers, Demand2Bytes}
use Rattle.stored.proofs.Laws.Building.BuiltSet.{built-means}
use Rattle.filing.proofs.Laws.Filing.FilingParts.{given-refused, given-filed}
use Rattle.filing.proofs.Laws.Filing.FilingOrder.{filing-is, report-is, once-started, report-own}
use Rattle.filing.proofs.Laws.Filing.FilingRepeats.{repeats-refused}
use Rattle.filing.proofs.Laws.Filing.FilingAlike.{Alike, same_number, alike-refused, alike-filed}
use Rattle.filing.proofs.Laws.Filing.FilingAdded.{same-filing, end_of, same-matched}
use Rattle.filing.proofs.Laws.Filing.FilingOpens.{given-among}
use Rattle.filing.proofs.Laws.Filing.FilingStored.{Stores, report-stored}
use Rattle.filing.proofs.Laws.Filing.Demand2.{of-document}

-- where one holds exactly if the other does, the answer is to both
same-answers : {there one other : Type 0} {answer : Answer Bool} → one ↔ other → Answers there one answer → Answers there other answer
same-answers i h = record {
  yes = (λ e. i.0 (h.yes.0 e), λ o. h.yes.1 (i.1 o));
  no = (λ e. let n = h.no.0 e in (n.0, λ o. n.1 (i.1 o)), λ n. h.no.1 (n.0, λ o. n.1 (i.0 o)));
  gone = h.gone;
}

-- what is asked after the calls of a filed report
module _ (s : FolderSet) (a : List ℕ) (w : Means s a) (rest report : List ℕ) (m : State) (d : OfDocument s report m) where
  abbrev calls : List Call
  calls = calls_in (events_of d.report.run.tokens)

  selects : (place : ℕ) → FittedAfterOpen s calls place ↔ SelectsElement (document_in d.report) (path_of_place s place)
  selects place = (
    λ f. (d.paths place).0 (ap (λ (x : State). x.matched place) (sym d.machine) ∙ (run-matched s calls place).1 f),
    λ x. (run-matched s calls place).0 (ap (λ (x : State). x.matched place) d.machine ∙ (d.paths place).1 x),
  )

  ask-places : (place : PathPlace)
      → Answers (place.0 < length (paths_of s)) (SelectsElement (document_in d.report) (path_of_place s place.0)) (ask_path a (run_of s m ++ rest) place)
  ask-places place =
      subst (λ (x : State). Answers (place.0 < length (paths_of s)) (SelectsElement (document_in d.report) (path_of_place s place.0)) (ask_path a (run_of s x ++ rest) place)) d.machine
      (same-answers (selects place.0) (path-answers s a w rest calls place))

  folder-selects : (number : ℕ) → HasMatchedPath s a (run_of s m ++ rest) number ↔ FolderSelects s (document_in d.report) number
  folder-selects number = (
    λ f. (f.place, f.of_folder, (ask-places (record { 0 = f.place })).yes.0 f.is_matched),
    λ f. record { place = f.0; of_folder = f.1; is_matched = (ask-places (record { 0 = f.0 })).yes.1 f.2 },
  )

  ask-folders : (number : FolderNumber) → Answers (HasFolder s number.0) (FolderSelects s (document_in d.report) number.0) (ask_folder a (run_of s m ++ rest) number)
  ask-folders number =
      same-answers (folder-selects number.0)
      (subst (λ (x : State). Answers (HasFolder s number.0) (HasMatchedPath s a (run_of s x ++ rest) number.0) (ask_folder a (run_of s x ++ rest) number)) d.machine
      (folder-answers s a w rest calls number))

-- what the call answers and leaves
module _ (s : FolderSet) (a : List ℕ) (w : Means s a) (lent : List ℕ) (long : run_size ≤ length lent) (c : Counters) (report : List ℕ)
    (answer : ℕ) (run' : List ℕ) (c' : Counters) (f : Files a lent c report answer run' c') where
  abbrev rest : List ℕ
  rest = drop run_size lent

  outcome-is : file_report (stored_machine a) (started a lent) [] report ≡ f.outcome
  outcome-is = sym (once-started a lent report (start-accepted s a w lent long)) ∙ (report-is a lent report f.outcome).0 f.given

  -- the outcome is what is stored of the machine's
  outcomes : Alike (Stores s rest) (file_with s report) f.outcome
  outcomes = rw outcome-is at (report-stored s a w lent report)

  pub answer-is : answer ≡ number_given (file_with s report)
  answer-is = f.answers ∙ sym (same_number outcomes)

  left_is : (o : Outcome Left) (t : Left) → f.outcome ≡ o → left_by a lent c o ≡ t → (run' ≡ t.bytes) × (c' ≡ t.counters)
  left_is o t e h =
      let all : left_by a lent c f.outcome ≡ t = ap (left_by a lent c) e ∙ h in
      (f.run_after ∙ ap (λ (x : Left). x.bytes) all, f.counters_after ∙ ap (λ (x : Left). x.counters) all)

  left-refused : (r : Refusal) → file_with s report ≡ refused r → (run' ≡ start_run a lent) × (c' ≡ no_counters)
  left-refused r e =
      let is = alike-refused outcomes r e in
      left_is (refused r) (started a lent) is (rw (report-own a (started a lent) report r (outcome-is ∙ is)))

  pub left-filed : (m : State) → file_with s report ≡ filed m → Few s m [] × (run' ≡ (left_of s rest m).bytes) × (c' ≡ (left_of s rest m).counters)
  left-filed m e =
      let (t, is, (few, stored)) = alike-filed outcomes m e in
      let (r, k) = left_is (filed t) (left_of s rest m) is stored in
      (few, r, k)

  refused-leaves : (x : Outcome State) → file_with s report ≡ x → (answer ≡ 0 → ⊥) → (run' ≡ start_run a lent) × (c' ≡ no_counters)
  refused-leaves (refused r) e h = left-refused r e
  refused-leaves (filed m) e h = absurd (h (answer-is ∙ ap number_given e))

  filed-leaves : (m : State) → file_with s report ≡ filed m → FiledReport s a report lent run' c'
  filed-leaves m e =
      let is = (filing-is s report (filed m)).1 e in
      let d : OfDocument s report m = of-document s report m is in
      let (few, r, k) = left-filed m e in
      record {
        machine = m;
        is_filed = is;
        of_document = d;
        run_left = r;
        paths = λ place. rw r (ask-places s a w rest report m d place);
        folders = λ number. rw r (ask-folders s a w rest report m d number);
        opens = ap (λ (x : Counters). x.opens) k ∙ d.opens;
        closes = ap (λ (x : Counters). x.closes) k ∙ d.closes;
        moves = ap (λ (x : Counters). x.moves) k;
        moves_most = subst (λ (x : Counters). x.moves ≤ childless_in 0 (document_in d.report)) (sym k) d.moves;
      }

  -- the run left is that of the machine at the end
  run_end : (x : Outcome State) → file_with s report ≡ x → Few s (end_of s x) [] × (run' ≡ run_of s (end_of s x) ++ rest)
  run_end (refused r) e = (fresh-few s, (left-refused r e).0 ∙ ap (λ (t : Left). t.bytes) (start_left s a w lent))
  run_end (filed m) e = let (few, r, k) = left-filed m e in (few, r)

  -- a folder of the set is answered by its matches
  folder-asked : (x : Folder) → Memᴰ x s → ask_folder a run' (record { 0 = folder_number x }) ≡ value (folder_matched s (end_of s (file_with s report)) (folder_number x))
  folder-asked x i =
      let n = folder_number x in
      let there : has_number s n ≡ true = is_any (λ y. eqb (folder_number y) n) s i (eq-eqb n n refl) in
      let (few, is) = run_end (file_with s report) refl in
      rw is (ask-folder s a w (end_of s (file_with s report)) few rest (record { 0 = n }) ∙ rw there)

-- of every set and its automaton, every run lent of the size of a run or more, and every report
pub demand2-bytes : (s : FolderSet) (a : List ℕ) → Means s a → (lent : List ℕ) → run_size ≤ length lent → (c : Counters) (report : List ℕ)
    (answer : ℕ) (run' : List ℕ) (c' : Counters) → Files a lent c report answer run' c' → Demand2Bytes s a report lent answer run' c'
demand2-bytes s a w lent long c report answer run' c' f =
    let is = answer-is s a w lent long c report answer run' c' f in
    let refusals : (r : Refusal) → (answer ≡ number_of r) ↔ Refused s report r = λ r. (
      λ e. (filing-is s report (refused r)).1 (given-refused (file_with s report) r (sym is ∙ e)),
      λ h. is ∙ ap number_given ((filing-is s report (refused r)).0 h),
    ) in
    let again = repeats-refused s report in
    record {
      refusals = refusals;
      repeats = (λ e. again.0 ((refusals RepeatedAttribute).0 e), λ h. (refusals RepeatedAttribute).1 (again.1 h));
      filings = (
        λ e. let (m, h) = given-filed (file_with s report) (sym is ∙ e) in (m, (filing-is s report (filed m)).1 h),
        λ h. is ∙ ap number_given ((filing-is s report (filed h.0)).0 h.1),
      );
      numbers = subst (λ (n : ℕ). Memᴰ n report_numbers) (sym is) (given-among s report);
      refused_leaves = refused-leaves s a w lent long c report answer run' c' f (file_with s report) refl;
      filed_leaves = λ e.
          let (m, h) = given-filed (file_with s report) (sym is ∙ e) in
          filed-leaves s a w lent long c report answer run' c' f m h;
      adding = λ text before b larger acc has built lent₂ long₂ c₂ other run₂ c₃ g.
          let v = built-means text larger acc before b built in
          let both = same-filing s larger report in
          record {
            answers = answer-is larger b v lent₂ long₂ c₂ report other run₂ c₃ g ∙ sym (same_number both) ∙ sym is;
            folders = λ x i.
                folder-asked larger b v lent₂ long₂ c₂ report other run₂ c₃ g x (has x i)
                ∙ ap value (sym (same-matched s larger text acc has x i both))
                ∙ sym (folder-asked s a w lent long c report answer run' c' f x i);
          };
    }
