-- What holds after any list of calls, of every accepted set, every buffer and every list of calls.
use Prim.Native.Nat.{ℕ, ◌+◌, ◌≤◌, ◌<◌, pred}
use mathlib.Core.Path.{◌≡◌, refl, sym, ◌∙◌, ap, ap₂, subst}
use mathlib.Core.Bool.{Bool, true, false, ◌&&◌, cond}
use mathlib.Core.Logic.{◌↔◌}
use mathlib.Core.Option.{Option, none, some}
use mathlib.Core.List.Memᴰ
use mathlib.Core.List.{List, [], ◌∷◌, ◌++◌, Memᴰ}
use native.Mathlib.Omega.{arith}
use borrow.Author.Tests.{ltb-true, ltb-false, lt-ltb, le-ltb, le-leb, eqb-true, eq-eqb}
use lib.Dec.{ltb, eqb}
use lib.ListN.{length, get_or, drop, get_or-eq_default}
use Rattle.text.specs.Names.{Name, within}
use Rattle.notation.specs.Sets.{FolderSet, folder_number}
use Rattle.notation.specs.Form.{paths_of}
use Rattle.text.specs.Answers.{Answer, value, said, says}
use Rattle.text.proofs.Laws.Said.{said-refused}
use Rattle.text.proofs.Laws.Numbers.{some_number}
use Rattle.notation.specs.Fit.{name_at, Active}
use Rattle.text.specs.declared.refusals.Refusal.{Refusal}
use Rattle.text.specs.declared.refusals.Refusal.TheVariants.{NotFound}
use Rattle.text.specs.Refusals.{number_of}
use Rattle.notation.specs.declared.PathPlace.{PathPlace}
use Rattle.notation.specs.declared.FolderNumber.{FolderNumber}
use Rattle.model.specs.Prefix.{prefix_of}
use Rattle.model.specs.Walk.{moves_of, walk}
use Rattle.text.specs.Order.{first, number_in, given}
use Rattle.model.specs.Calls.{as_left, Call, open_call, close_call, State, open_names, path_of_place, active_step, refusal, run}
use Rattle.model.specs.History.{still_open, FittedAfterOpen, opens_of, SameAnswers}
use Rattle.model.specs.Moves.{OpenMoves}
use Rattle.model.specs.Folders.{places_of, folder_matched}
use Rattle.stored.specs.Automaton.{automaton_size, automaton_of}
use Rattle.stored.specs.Run.{run_size, run_of}
use Rattle.std.specs.Prelude.{Result}
use Rattle.stored.specs.RunCalls.{start_refusal, open_refusal, open_walk, close_refusal}
use Rattle.stored.specs.RunContracts.{Opens, Closes}
use Rattle.stored.specs.Asking.{ask_path, ask_folder, ask_step, ask_prefix, name_refusal, ask_name}
use Rattle.stored.specs.Demand3.{Made, made_open, made_close, calls_of, Left, started, Calls, OpenAnswered, is_refused, is_accepted, Answers, HasFolder, HasMatchedPath, StepThere, PrefixAnswered, SameAsked, Holds, Demand3, Demand3Whole}
use Rattle.stored.specs.declared.counters.Counters.{Counters}
use Rattle.text.proofs.Laws.Tests.{cases, clash, both_true}
use Rattle.text.proofs.Laws.Lists.{any-is, is_any}
use Rattle.model.proofs.Laws.Machine.Matches.{run-matched, run-matched-there}
use Rattle.model.proofs.Laws.Machine.Moves.{Few}
use Rattle.model.proofs.Laws.Machine.History.{run-names-counted}
use Rattle.model.proofs.Laws.Machine.MovesCounted.{open-moves}
use Rattle.model.proofs.Laws.Machine.Whole.{whole}
use Rattle.model.proofs.Laws.Machine.Folders.{folder-matched}
use Rattle.stored.proofs.Laws.Building.Built.{built-is}
use Rattle.stored.proofs.Laws.Running.Means.{Means, means}
use Rattle.stored.proofs.Laws.Shapes.Passing.{all-shaped, open-refused, close-refused}
use Rattle.stored.proofs.Laws.Running.FolderPlaces.{has_number, Placed, missing, at, placed}
use Rattle.stored.proofs.Laws.Running.Asking.{asked, within-out, ask-path, ask-folder, ask-step, ask-prefix, ask-name-refused, ask-name}
use Rattle.stored.proofs.Laws.Running.MadeCalls.{calls-split, split-open, split-close}
use Rattle.stored.proofs.Laws.Running.Following.{left_of, opened-moves, left_by-is, few-run}

-- a computed answer says what it is of
answers-from : (there holds : Type 0) (answer : Answer Bool) (tb hb : Bool) → answer ≡ asked tb hb → (tb ≡ true) ↔ there → (hb ≡ true) ↔ holds → (holds → there) → Answers there holds answer
answers-from there holds answer true true e t h i = record {
  yes = (λ p. h.0 refl, λ p. e);
  no = (λ p. absurd (let z : ◌≡◌ {A = ℕ} 0 1 = cc in omega arith), λ p. absurd (p.1 (h.0 refl)));
  gone = (λ p. absurd (let z : ◌≡◌ {A = ℕ} 0 1 = cc in omega arith), λ p. absurd (p (t.0 refl)));
}
answers-from there holds answer true false e t h i = record {
  yes = (λ p. absurd (let z : ◌≡◌ {A = ℕ} 0 1 = cc in omega arith), λ p. clash (h.1 p) refl);
  no = (λ p. (t.0 refl, λ q. clash (h.1 q) refl), λ p. e);
  gone = (λ p. absurd (let z : ◌≡◌ {A = ℕ} 0 1 = cc in omega arith), λ p. absurd (p (t.0 refl)));
}
answers-from there holds answer false true e t h i = clash (t.1 (i (h.0 refl))) refl
answers-from there holds answer false false e t h i = record {
  yes = (λ p. absurd (let z : ◌≡◌ {A = ℕ} 0 1 = cc in omega arith), λ p. clash (h.1 p) refl);
  no = (λ p. absurd (let z : ◌≡◌ {A = ℕ} 0 1 = cc in omega arith), λ p. clash (t.1 p.0) refl);
  gone = (λ p q. clash (t.1 q) refl, λ p. e);
}

below-is : (i n : ℕ) → (ltb i n ≡ true) ↔ (i < n)
below-is i n = (ltb-true i n, lt-ltb i n)

within_in : (k n : ℕ) → 1 ≤ k → k ≤ n → within 1 n k ≡ true
within_in k n lo hi = both_true (le-leb 1 k lo) (le-leb k n hi)

within-not : (k n : ℕ) → ((1 ≤ k) × (k ≤ n) → ⊥) → within 1 n k ≡ false
within-not k n h = cases (within 1 n k) (λ t. absurd (h (within-out k n t))) (λ t. t)

module _ (s : FolderSet) (a : List ℕ) (m : Means s a) (rest : List ℕ) (calls : List Call) where
  abbrev st : State
  st = run s calls

  abbrev bytes : List ℕ
  bytes = run_of s st ++ rest

  abbrev few : Few s st []
  few = few-run s calls

  abbrev held : List Name
  held = still_open s calls

  counted : open_names st ≡ held
  counted = (whole s calls).names

  pub path-answers : (place : PathPlace) → Answers (place.0 < length (paths_of s)) (FittedAfterOpen s calls place.0) (ask_path a bytes place)
  path-answers place =
      let i = place.0 in
      answers-from (i < length (paths_of s)) (FittedAfterOpen s calls i) (ask_path a bytes place) (ltb i (length (paths_of s))) (st.matched i)
      (ask-path s a m st few rest place) (below-is i (length (paths_of s))) (run-matched s calls i) (λ f. run-matched-there s calls i ((run-matched s calls i).1 f))

  place-yes : (i : ℕ) → (ask_path a bytes (record { 0 = i }) ≡ value true) ↔ (st.matched i ≡ true)
  place-yes i = let p = path-answers (record { 0 = i }) in (λ e. (run-matched s calls i).1 (p.yes.0 e), λ e. p.yes.1 ((run-matched s calls i).0 e))

  has-folder : (number : ℕ) → (has_number s number ≡ true) ↔ HasFolder s number
  has-folder number = (
    λ t. let r = any-is (λ f. eqb (folder_number f) number) s t in record { folder = r.0; of_set = r.1; has = eqb-true (folder_number r.0) number r.2 },
    λ f. is_any (λ f. eqb (folder_number f) number) s f.of_set (eq-eqb (folder_number f.folder) number f.has),
  )

  place-folder : (number place : ℕ) → Memᴰ place (places_of s number) → has_number s number ≡ true
  place-folder number place p = go (placed 0 0 0 number s m.rising)
    where
      go : Placed 0 0 number s → has_number s number ≡ true
      go (missing f x y) = absurd (Memᴰ.not-nil (subst (Memᴰ place) y p))
      go (at i f l x y) = f

  pub folder-answers : (number : FolderNumber) → Answers (HasFolder s number.0) (HasMatchedPath s a bytes number.0) (ask_folder a bytes number)
  folder-answers number =
      let n = number.0 in
      let fm = folder-matched s st n in
      answers-from (HasFolder s n) (HasMatchedPath s a bytes n) (ask_folder a bytes number) (has_number s n) (folder_matched s st n)
      (ask-folder s a m st few rest number) (has-folder n) (
        λ t. let f = fm.0 t in record { place = f.place; of_folder = f.of_folder; is_matched = (place-yes f.place).1 f.is_matched },
        λ f. fm.1 (record { place = f.place; of_folder = f.of_folder; is_matched = (place-yes f.place).0 f.is_matched }),
      )
      (λ f. (has-folder n).0 (place-folder n f.place f.of_folder))

  step-there : (i k : ℕ) → ((ltb i (length (paths_of s)) && within 1 (length (get_or (paths_of s) i [])) k) ≡ true) ↔ StepThere s i k
  step-there i k = (there, λ t. both_true (lt-ltb i (length (paths_of s)) t.0) (within_in k (length (get_or (paths_of s) i [])) t.1 t.2))
    where
      there : (ltb i (length (paths_of s)) && within 1 (length (get_or (paths_of s) i [])) k) ≡ true → StepThere s i k
      there t = cases (ltb i (length (paths_of s)))
          (λ p. let q = within-out k (length (get_or (paths_of s) i [])) (rw p at t) in (ltb-true i (length (paths_of s)) p, q.0, q.1))
          (λ p. clash (rw p at t) refl)

  active-there : (i k : ℕ) → Active (path_of_place s i) k held → StepThere s i k
  active-there i k x = cases (ltb i (length (paths_of s))) (λ p. (ltb-true i (length (paths_of s)) p, x.there.0, x.there.1)) (λ p.
      let e : get_or (paths_of s) i [] ≡ [] = get_or-eq_default (paths_of s) [] (ltb-false i (length (paths_of s)) p) in
      absurd (omega (arith, x.there.0, x.there.1, ap length e)))

  pub step-answers : (place : PathPlace) (k : ℕ) → Answers (StepThere s place.0 k) (Active (path_of_place s place.0) k held) (ask_step a bytes place k)
  step-answers place k =
      let i = place.0 in
      answers-from (StepThere s i k) (Active (path_of_place s i) k held) (ask_step a bytes place k) (ltb i (length (paths_of s)) && within 1 (length (get_or (paths_of s) i [])) k) (active_step s st i k)
      (ask-step s a m st few rest place k) (step-there i k) ((whole s calls).steps i k) (active-there i k)

  pub name-answers : (d : ℕ) → 1 ≤ d → d ≤ length held → (ask_name a bytes d ≡ name_at held d) × (name_refusal a bytes d ≡ 0)
  name-answers d lo hi =
      let w : within 1 (length (open_names st)) d ≡ true = within_in d (length (open_names st)) lo (omega (arith, ap length counted)) in
      (ask-name s a m st few rest d ∙ rw w (ap (λ (l : List Name). name_at l d) counted), ask-name-refused s a m st few rest d ∙ rw w)

  pub no-name-answers : (d : ℕ) → ((1 ≤ d) × (d ≤ length held) → ⊥) → (ask_name a bytes d ≡ []) × (name_refusal a bytes d ≡ number_of NotFound)
  no-name-answers d h =
      let w : within 1 (length (open_names st)) d ≡ false = within-not d (length (open_names st)) (λ p. h (p.0, omega (arith, ap length counted, p.1))) in
      (ask-name s a m st few rest d ∙ rw w, ask-name-refused s a m st few rest d ∙ rw w)

  pub prefix-answers : PrefixAnswered s held (ask_prefix a bytes)
  prefix-answers = record { word = st.current; is_prefix = (whole s calls).prefix; answered = ask-prefix s a m st few rest }

-- two lists of calls with the same answers of the machine are answered the same
module _ (s : FolderSet) (a : List ℕ) (m : Means s a) (rest more : List ℕ) (calls others : List Call) (same : SameAnswers s (run s calls) (run s others)) where
  pub same_asked : SameAsked a (run_of s (run s calls) ++ rest) (run_of s (run s others) ++ more)
  same_asked =
      let f = few-run s calls in
      let g = few-run s others in
      record {
        names = λ d. ask-name s a m (run s calls) f rest d ∙ ap (λ (l : List Name). cond (within 1 (length l) d) (get_or l (pred d) []) []) same.names ∙ sym (ask-name s a m (run s others) g more d);
        refusals = λ d. ask-name-refused s a m (run s calls) f rest d ∙ ap (λ (l : List Name). cond (within 1 (length l) d) 0 13) same.names ∙ sym (ask-name-refused s a m (run s others) g more d);
        steps = λ place k.
            ask-step s a m (run s calls) f rest place k
            ∙ ap (λ (b : Bool). asked (ltb place.0 (length (paths_of s)) && within 1 (length (get_or (paths_of s) place.0 [])) k) b) (same.steps place.0 k)
            ∙ sym (ask-step s a m (run s others) g more place k);
        prefix = ask-prefix s a m (run s calls) f rest ∙ ap (λ w. value (length w)) same.prefix ∙ sym (ask-prefix s a m (run s others) g more);
      }

-- an open's answer by the machine's refusal
open-answer : (s : FolderSet) (before : List Call) (e : Name) (o : Option Refusal) (moves : ℕ) → refusal (run s before) (open_call as_left e) ≡ o
    → OpenMoves s (still_open s before) e moves → OpenAnswered s before e (said (number_in o) moves)
open-answer s before e none moves is m = is_accepted is m
open-answer s before e (some r) moves is m = rw (said-refused (number_of r) moves (some_number r)) (is_refused is)

module _ (s : FolderSet) (a : List ℕ) (m : Means s a) (buffer : List ℕ) where
  -- what calls answer, lent what the calls before left
  open-answers : (before : List Made) (u v : Left) (e : Name) (answer : Result ℕ Refusal) → Calls a (started a buffer) before u → Opens a u.bytes u.counters e answer v.bytes v.counters
      → OpenAnswered s (calls_of before) e (says answer)
  open-answers before u v e answer c o =
      let st = run s (calls_of before) in
      let few = few-run s (calls_of before) in
      let rest = drop run_size buffer in
      let k = moves_of (walk s st.current e) in
      let is : says answer ≡ said (number_in (refusal st (open_call as_left e))) k =
      o.answers
      ∙ ap (λ (x : Left). said (open_refusal a x.bytes x.counters e) (open_walk a x.bytes e).moves) (left_by-is s a m buffer c)
      ∙ rw (open-refused s a m st few rest as_left e, opened-moves s a m rest st few e) in
      subst (OpenAnswered s (calls_of before) e) (sym is) (open-answer s (calls_of before) e (refusal st (open_call as_left e)) k refl (open-moves s (still_open s (calls_of before)) st.current e (few.0.prefix ∙ ap (prefix_of s) (run-names-counted s (calls_of before)))))

  close-answers : (before : List Made) (u v : Left) (e : Name) (answer : ℕ) → Calls a (started a buffer) before u → Closes a u.bytes u.counters e answer v.bytes v.counters
      → answer ≡ number_in (refusal (run s (calls_of before)) (close_call as_left e))
  close-answers before u v e answer c o =
      let st = run s (calls_of before) in
      o.answers
      ∙ ap (λ (x : Left). close_refusal a x.bytes x.counters e) (left_by-is s a m buffer c)
      ∙ close-refused s a m st (few-run s (calls_of before)) (drop run_size buffer) as_left e

  holds : (made : List Made) (t : Left) → Calls a (started a buffer) made t → Holds s a made (calls_of made) (still_open s (calls_of made)) t
  holds made t c =
      let calls = calls_of made in
      let rest = drop run_size buffer in
      let e : t ≡ left_of s rest (run s calls) = left_by-is s a m buffer c in
      let w = whole s calls in
      record {
        open_answers = λ before later n answer is.
            let d : Calls a (started a buffer) (before ++ (made_open as_left n answer ∷ later)) t = rw is c in
            let (u, front, back) = calls-split a before d in
            let (v, o) = split-open a back in
            open-answers before u v n answer front o;
        close_answers = λ before later n answer is.
            let d : Calls a (started a buffer) (before ++ (made_close as_left n answer ∷ later)) t = rw is c in
            let (u, front, back) = calls-split a before d in
            let (v, o) = split-close a back in
            close-answers before u v n answer front o;
        paths = λ place. rw e (path-answers s a m rest calls place);
        folders = λ number. rw e (folder-answers s a m rest calls number);
        names = λ d lo hi. rw e (name-answers s a m rest calls d lo hi);
        no_names = λ d h. rw e (no-name-answers s a m rest calls d h);
        steps = λ place k. rw e (step-answers s a m rest calls place k);
        prefix = rw e (prefix-answers s a m rest calls);
        replayed = λ other again u is d.
            let more : u ≡ left_of s (drop run_size other) (run s (opens_of (still_open s calls))) = rw is at (left_by-is s a m other d) in
            rw (e, more) (same_asked s a m rest (drop run_size other) calls (opens_of (still_open s calls)) w.replayed);
        balance = rw e (w.balance ∙ ap (λ (l : List Name). (run s calls).closes + length l) w.names);
        opens = rw e refl;
        closes = rw e refl;
        opens_counted = rw e w.opens;
        closes_counted = rw e w.closes;
        moves = rw e refl;
        moves_counted = rw e w.moves_counted;
        moves_most = rw e w.moves;
        passes = rw e (all-shaped s a m (run s calls) (few-run s calls) rest);
      }

-- a start on it is accepted
pub start-accepted : (s : FolderSet) (a : List ℕ) → Means s a → (buffer : List ℕ) → run_size ≤ length buffer → start_refusal a buffer ≡ 0
unfolding start_refusal given first
start-accepted s a m buffer long = rw (le-ltb (length a) automaton_size m.long, le-ltb (length buffer) run_size long, m.shaped)

-- with all that a run needs of its automaton
pub demand3-means : (s : FolderSet) (a : List ℕ) → Means s a → (buffer : List ℕ) → run_size ≤ length buffer → Demand3 s a buffer
demand3-means s a m buffer long =
    let ok = start-accepted s a m buffer long in
    record {
      starts = λ c answer t h. (h.answers ∙ ok, ap₂ (λ (x : List ℕ) (y : Counters). record { bytes = x; counters = y }) (rw ok at h.run_after) (rw ok at h.counters_after));
      calls = holds s a m buffer;
    }

pub demand3 : Demand3Whole
demand3 text before a s accepted built buffer long =
    rw (built-is text before a s accepted built) (demand3-means s (automaton_of s ++ drop automaton_size before) (means text s accepted (drop automaton_size before)) buffer long)
