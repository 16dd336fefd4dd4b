-- The outcomes of a report's calls as the code makes them, token after token.
use Prim.Native.Nat.{ℕ, zero, suc, ◌-◌, ◌≤◌, ◌<◌}
use native.Mathlib.Omega.{arith}
use mathlib.Core.Path.{◌≡◌, refl, sym, ap, ap₂, ◌∙◌}
use mathlib.Core.Bool.{Bool, true, false, not, ◌||◌, cond, and-false, or-false, or-true}
use mathlib.Core.Option.{Option, none, some}
use mathlib.Core.List.{List, [], ◌∷◌}
use lib.Dec.{eqb}
use lib.ListN.{length, drop}
use borrow.Author.Tests.{eq-eqb, ne_eqb, lt-ltb, le-ltb, le-leb, not-true, not-false}
use Rattle.text.proofs.Laws.Tests.{clash, neither}
use Rattle.text.specs.Names.{Name}
use Rattle.text.specs.declared.refusals.Refusal.{Refusal}
use Rattle.text.specs.declared.refusals.Refusal.TheVariants.{TooLarge, InvalidByte, SyntaxError, NotOneRoot, RepeatedAttribute}
use Rattle.text.specs.Refusals.{number_of}
use Rattle.text.proofs.Laws.Numbers.{some_number}
use Rattle.text.specs.Lists.{every, any}
use Rattle.std.specs.Prelude.{Result, Ok, Err, Option as Maybe, Some, None}
use Rattle.std.specs.Option.{ok_or}
use Rattle.std.specs.Result.{is_err}
use Rattle.text.specs.Answers.{refusal_in}
use Rattle.text.specs.Order.{gives, first, number_in, given}
use Rattle.stored.specs.RunCalls.{depth_of, start_conditions, start_refusal, start_run, open_others, open_refusal, open_walk, open_run, open_counters, close_others, close_run, close_counters, no_counters}
use Rattle.stored.specs.RunContracts.{Starts, Opens, Closes}
use Rattle.stored.specs.Usable.{Usable}
use Rattle.stored.specs.Demand3.{Left, started}
use Rattle.stored.specs.declared.counters.Counters.{Counters}
use Rattle.text.proofs.Laws.Results.{number_in_said}
use Rattle.stored.proofs.Laws.Shapes.Given.{open-others, close-others}
use Rattle.stored.proofs.Laws.Shapes.Kept.{start-usable}
use Rattle.stored.proofs.Laws.Running.Restart.{start-restart, open-restart, close-restart}
use Rattle.documents.specs.Limits.{max_report_bytes}
use Rattle.reports.specs.declared.tokens.Found.{Found}
use Rattle.reports.specs.declared.tokens.Kind.{Kind}
use Rattle.reports.proofs.Laws.Read.Reaches.{never}
use Rattle.reports.proofs.Laws.Read.RunAt.{Was, was_read}
use Rattle.documents.specs.Tokens.{Token, declaration, comment, start_tag, empty_tag, end_tag, text, listed, is_declaration}
use Rattle.text.specs.Read.{Read, fail, got, then_read}
use Rattle.documents.specs.Reading.{read_token, read_report}
use Rattle.documents.specs.Document.{events_of_token, events_of}
use Rattle.documents.specs.Repeats.{attributes_of, names_repeat, repeats_in}
use Rattle.documents.proofs.Laws.Repeats.{none-repeat}
use Rattle.reports.specs.Seen.{text_kind, shown, found_of}
use Rattle.reports.specs.Code.Seen.{tag_name, name_of_token}
use Rattle.filing.specs.Filing.{Outcome, refused, filed, number_given, and_then, unless, file_events}
use Rattle.filing.specs.ReportRefusals.{stored_machine, left_by, Files}
use Rattle.filing.specs.Code.Filing.{is_no_run, tokens_in, file_report}
use Rattle.filing.specs.Code.Taking.{Answered, Taking, file_open, file_close, file_text, late_declaration, with_repeat, step_found, file_last, run_from}
use Rattle.filing.proofs.Laws.Filing.FilingParts.{then-filed, then_same, then-more, events-append}
use Rattle.filing.proofs.Laws.Filing.FilingOrder.{report-is, start-refused, start-lent, once-started, report-own}
use Rattle.reports.proofs.Laws.Read.Next.{tokens_from, token-next, from_end, from-none, from-late, from_next}

-- a refusal stops; else it goes on
pub stops : (o : Outcome Left) (n : ℕ) (run : List ℕ) (c : Counters) → Answered o n run c → (k : Left → Outcome Left) → (n ≡ 0 → ⊥) → Answered (and_then o k) n run c
stops (refused r) n run c t k h = t
stops (filed l) n run c t k h = absurd (h t.0)

pub goes_on : (o : Outcome Left) (n : ℕ) (run : List ℕ) (c : Counters) → Answered o n run c → n ≡ 0 → o ≡ filed (record { bytes = run; counters = c })
goes_on (refused r) n run c t z = absurd (some_number r (sym t ∙ z))
goes_on (filed l) n run c t z = ap filed t.1

-- what is missing is refused
pub missing : {A : Type 0} (m : Maybe A) (q r : Refusal) → ok_or m q ≡ Err r → (m ≡ None) × (q ≡ r)
missing None q r e = (refl, cc)
missing (Some x) q r e = cc

pub there_is : {A : Type 0} (m : Maybe A) (q : Refusal) (x : A) → ok_or m q ≡ Ok x → m ≡ Some x
there_is None q x e = cc
there_is (Some y) q x e = cc

-- a result is an error where its number is not 0
pub err_number : {A : Type 0} (r : Result A Refusal) → is_err r ≡ true → refusal_in r ≡ 0 → ⊥
err_number (Ok v) h z = clash h refl
err_number (Err q) h z = some_number q z

pub ok_number : {A : Type 0} (r : Result A Refusal) → is_err r ≡ false → refusal_in r ≡ 0
ok_number (Ok v) h = refl
ok_number (Err q) h = clash refl h

-- the calls

settled : (x : Option Refusal) (n : ℕ) (run' run₁ run₀ : List ℕ) (c' c₁ c₀ : Counters) → n ≡ number_in x → run' ≡ cond (eqb n 0) run₁ run₀ → c' ≡ cond (eqb n 0) c₁ c₀
    → Answered (unless x (record { bytes = run₁; counters = c₁ })) n run' c'
settled none n run' run₁ run₀ c' c₁ c₀ e h k =
    let p : run' ≡ run₁ = rw e at h in
    let q : c' ≡ c₁ = rw e at k in
    (e, rw (p, q))
settled (some r) n run' run₁ run₀ c' c₁ c₀ e h k = e

restarted : (a : List ℕ) (n : ℕ) (run' run₁ run₀ : List ℕ) → run' ≡ cond (eqb n 0) run₁ run₀ → (n ≡ 0 → start_run a run₁ ≡ start_run a run₀) → start_run a run' ≡ start_run a run₀
restarted a zero run' run₁ run₀ h k = ap (start_run a) h ∙ k refl
restarted a (suc n) run' run₁ run₀ h k = ap (start_run a) (rw (ne_eqb (suc n) 0 (λ z. omega arith)) at h)

module _ (a run : List ℕ) (c : Counters) (e : Name) (u : Usable a run c) (run' : List ℕ) (c' : Counters) where
  abbrev t : Left
  t = record { bytes = run; counters = c }

  pub open-taken : (answer : Result ℕ Refusal) → Opens a run c e answer run' c' → Taking a run (file_open a t e) (refusal_in answer) run' c'
  unfolding given
  open-taken answer o =
      let n = refusal_in answer in
      let same : n ≡ open_refusal a run c e = number_in_said answer (open_refusal a run c e) (open_walk a run e).moves o.answers in
      let r = rw (← same) at o.run_after in
      record {
        answered = settled (first (open_others run c e)) n run' (open_run a run e) run c' (open_counters a run c e) c (same ∙ open-others a run c e u) r (rw (← same) at o.counters_after);
        restarts = restarted a n run' (open_run a run e) run r (λ z. open-restart a run c e (sym same ∙ z));
      }

  pub close-taken : (n : ℕ) → Closes a run c e n run' c' → Taking a run (file_close a t e) n run' c'
  unfolding given
  close-taken n o =
      let r = rw (← o.answers) at o.run_after in
      record {
        answered = settled (first (close_others run e)) n run' (close_run run) run c' (close_counters c) c (o.answers ∙ close-others a run c e u) r (rw (← o.answers) at o.counters_after);
        restarts = restarted a n run' (close_run run) run r (λ z. close-restart a run c e (sym o.answers ∙ z));
      }

-- calls, and nothing more after a refusal; or then others
pub taken-stops : (a run : List ℕ) (o : Outcome Left) (k : Left → Outcome Left) (n : ℕ) (run' : List ℕ) (c' : Counters) → Taking a run o n run' c' → (n ≡ 0 → ⊥)
    → Taking a run (and_then o k) n run' c'
taken-stops a run o k n run' c' t h = record { answered = stops o n run' c' t.answered k h; restarts = t.restarts }

pub taken-on : (a run : List ℕ) (o : Outcome Left) (k : Left → Outcome Left) (n₁ : ℕ) (run₁ : List ℕ) (c₁ : Counters) (n : ℕ) (run' : List ℕ) (c' : Counters)
    → Taking a run o n₁ run₁ c₁ → n₁ ≡ 0 → Taking a run₁ (k (record { bytes = run₁; counters = c₁ })) n run' c' → Taking a run (and_then o k) n run' c'
taken-on a run o k n₁ run₁ c₁ n run' c' t z u = rw (goes_on o n₁ run₁ c₁ t.answered z) (record { answered = u.answered; restarts = u.restarts ∙ t.restarts })

pub taken_here : (a run : List ℕ) (o : Outcome Left) (n : ℕ) (c' : Counters) → Answered o n run c' → Taking a run o n run c'
taken_here a run o n c' t = record { answered = t; restarts = refl }

-- a tag that repeats an attribute's name

-- in one token or in a later one
repeat-then : (b later : Bool) (o : Outcome Left) (k l m : Left → Outcome Left) → ((t : Left) → k t ≡ and_then (l t) m)
    → and_then (with_repeat (b || later) o) k ≡ and_then (with_repeat later (and_then (with_repeat b o) l)) m
repeat-then true true o k l m h = refl
repeat-then true false o k l m h = refl
repeat-then false true o k l m h = refl
repeat-then false false o k l m h = then-more o k l m h

-- a token makes this of an outcome: 15, or its events
abbrev token_taken : List ℕ → Outcome Left → Token → Outcome Left
token_taken a o x = and_then (with_repeat (names_repeat (attributes_of x)) o) (λ t. file_events (stored_machine a) t (events_of_token x))

-- and so it does by what the code says of it, in bytes no longer than a report's
text-events : (a : List ℕ) (o : Outcome Left) (e : Name) (b : Bool) → step_found a o (text_kind b) e ≡ and_then o (λ t. file_text t b)
text-events a o e true = refl
text-events a o e false = refl

found-events : (total : ℕ) → total ≤ max_report_bytes → (a : List ℕ) (o : Outcome Left) (x : Token) (at : ℕ) → step_found a o (shown total x at) (name_of_token x) ≡ token_taken a o x
unfolding file_events first
found-events total short a o declaration at = rw none-repeat
found-events total short a o (comment c) at = rw none-repeat
found-events total short a o (start_tag n l b) at = rw (le-leb total max_report_bytes short) (then_same (with_repeat (names_repeat l) o) _ _ (λ t. sym (then-filed _)))
found-events total short a o (empty_tag n l b) at =
    rw (le-leb total max_report_bytes short)
    (then_same (with_repeat (names_repeat l) o) _ _ (λ t. then_same (file_open a t n) _ _ (λ t₂. sym (then-filed (file_close a t₂ n)))))
found-events total short a o (end_tag n b) at = rw none-repeat (then_same o _ _ (λ t. sym (then-filed _)))
found-events total short a o (text ps) at = text-events a o [] _ ∙ rw none-repeat (then_same o _ _ (λ t. sym (then-filed _)))

late-text : (at : ℕ) (b : Bool) → late_declaration at (text_kind b) ≡ false
late-text at true = refl
late-text at false = refl

late-shown : (total : ℕ) (x : Token) (at : ℕ) → late_declaration at (shown total x at) ≡ not (eqb at 0 || not (is_declaration x))
late-shown total declaration at = rw or-false
late-shown total (comment c) at = rw or-true
late-shown total (start_tag n l b) at = rw or-true
late-shown total (empty_tag n l b) at = rw or-true
late-shown total (end_tag n b) at = rw or-true
late-shown total (text ps) at = rw or-true (late-text at _)

-- the rest of the tokens after one
after : (a : List ℕ) (o : Outcome Left) (x : Token) (m : Read (List Token))
    → run_from a o (then_read m (λ ts r. got (x ∷ ts) r)) ≡ run_from a (token_taken a o x) m
unfolding events_of repeats_in any
after a o x fail = refl
after a o x (got ts r) =
    repeat-then (names_repeat (attributes_of x)) (repeats_in ts) o _ _ _ (events-append (stored_machine a) (events_of_token x) (events_of ts))

abbrev pub RunAt : List ℕ → Outcome Left → List ℕ → ℕ → Outcome Left
RunAt a o s i = run_from a o (tokens_from s (eqb i 0) i)

pub taken-end : (a s : List ℕ) (i : ℕ) (o : Outcome Left) → length s ≤ i → RunAt a o s i ≡ o
unfolding file_events events_of repeats_in any
taken-end a s i o h = ap (run_from a o) (from_end s i (eqb i 0) h) ∙ then-filed o

module _ (a s : List ℕ) (short : length s ≤ max_report_bytes) (i : ℕ) (inside : i < length s) (o : Outcome Left) where
  -- the rest goes on from an offset, and makes of an outcome what the rest from here makes
  abbrev Goes : ℕ → Outcome Left → Type 0
  Goes next p = (i < next) × ((next ≤ length s) × (RunAt a p s next ≡ RunAt a o s i))

  goes-late : (t : Token) (r : List ℕ) → read_token (drop i s) ≡ got t r → (eqb i 0 || not (is_declaration t)) ≡ false → RunAt a o s i ≡ refused SyntaxError
  goes-late t r e h =
      let (first, d) = neither (eqb i 0) (not (is_declaration t)) h in
      rw first (ap (run_from a o) (from-late s i t r inside e (not-false (is_declaration t) d)))

  goes-next : (t : Token) (r : List ℕ) → read_token (drop i s) ≡ got t r → (eqb i 0 || not (is_declaration t)) ≡ true → Goes (length s - length r) (token_taken a o t)
  goes-next t r e h =
      let end = length s - length r in
      let next = token-next s i t r e in
      let past : eqb end 0 ≡ false = ne_eqb end 0 (omega (arith, next.1)) in
      (next.1, (next.2, rw past (sym (ap (run_from a o) (from_next s i (eqb i 0) t r inside e h) ∙ after a o t (tokens_from s false end)))))

  goes_same : {n m : ℕ} {p q : Outcome Left} → n ≡ m → p ≡ q → Goes m q → Goes n p
  goes_same e f g = rw (e, f) g

  -- where there is none, 9 is given
  none-at : found_of (length s) i (read_token (drop i s)) ≡ None → RunAt a o s i ≡ refused SyntaxError
  none-at e = go (read_token (drop i s)) refl e
    where
      go : (m : Read Token) → read_token (drop i s) ≡ m → found_of (length s) i m ≡ None → RunAt a o s i ≡ refused SyntaxError
      go fail is e = ap (run_from a o) (from-none s i (eqb i 0) inside is)
      go (got t r) is e = never (sym e)

  module _ (f : Found) (found : found_of (length s) i (read_token (drop i s)) ≡ Some f) where
    was : Was s i f
    was = was_read s i f found

    late-is : late_declaration i f.kind ≡ not (eqb i 0 || not (is_declaration was.token))
    late-is = ap (late_declaration i) was.kind ∙ late-shown (length s) was.token i

    -- and for a declaration past offset 0
    late-at : late_declaration i f.kind ≡ true → RunAt a o s i ≡ refused SyntaxError
    late-at h = goes-late was.token was.rest was.read (not-true (eqb i 0 || not (is_declaration was.token)) (sym late-is ∙ h))

    -- after any other it goes on behind it
    next-at : late_declaration i f.kind ≡ false → Goes f.end (step_found a o f.kind (tag_name (read_token (drop i s))))
    next-at h =
        let first : (eqb i 0 || not (is_declaration was.token)) ≡ true = not-false (eqb i 0 || not (is_declaration was.token)) (sym late-is ∙ h) in
        let step = ap₂ (λ (k : Kind) (m : Read Token). step_found a o k (tag_name m)) was.kind was.read ∙ found-events (length s) short a o was.token i in
        goes_same was.end step (goes-next was.token was.rest was.read first)

-- text, which outside the root is blank
module _ (a run : List ℕ) (c : Counters) where
  abbrev here : Left
  here = record { bytes = run; counters = c }

  pub text-blank : Taking a run (file_text here true) 0 run c
  unfolding first
  text-blank = rw and-false (record { answered = (refl, refl); restarts = refl })

  pub text-outside : depth_of run ≡ 0 → Taking a run (file_text here false) (number_of NotOneRoot) run c
  unfolding first
  text-outside z = rw (eq-eqb (depth_of run) 0 z) (record { answered = refl; restarts = refl })

  pub text-inside : (depth_of run ≡ 0 → ⊥) → Taking a run (file_text here false) 0 run c
  unfolding first
  text-inside h = rw (ne_eqb (depth_of run) 0 h) (record { answered = (refl, refl); restarts = refl })

  -- the end
  pub end-rootless : c.opens ≡ 0 → Taking a run (file_last here) (number_of NotOneRoot) run c
  unfolding first
  end-rootless z = rw (eq-eqb c.opens 0 z) (record { answered = refl; restarts = refl })

  pub end-open : (depth_of run ≡ 0 → ⊥) → Taking a run (file_last here) (number_of NotOneRoot) run c
  unfolding first
  end-open z = rw (ne_eqb (depth_of run) 0 z, or-true (eqb c.opens 0)) (record { answered = refl; restarts = refl })

  pub end-well : (c.opens ≡ 0 → ⊥) → depth_of run ≡ 0 → Taking a run (file_last here) 0 run c
  unfolding first
  end-well y z = rw (ne_eqb c.opens 0 y, eq-eqb (depth_of run) 0 z) (record { answered = (refl, refl); restarts = refl })

-- 2 and 8, and else the tokens
module _ (a : List ℕ) (t : Left) (s : List ℕ) where
  pub report-long : max_report_bytes < length s → file_report (stored_machine a) t [] s ≡ refused TooLarge
  unfolding file_report first
  report-long h = rw (lt-ltb max_report_bytes (length s) h)

  pub report-foreign : length s ≤ max_report_bytes → every listed s ≡ false → file_report (stored_machine a) t [] s ≡ refused InvalidByte
  unfolding file_report first
  report-foreign h k = rw (le-ltb max_report_bytes (length s) h, k)

  pub report-run : length s ≤ max_report_bytes → every listed s ≡ true → file_report (stored_machine a) t [] s ≡ and_then (run_from a (filed t) (read_report s)) file_last
  unfolding file_report first
  report-run h k = rw (le-ltb max_report_bytes (length s) h, k) (go (read_report s))
    where
      unless-repeat : (b : Bool) (k : Left → Outcome Left) → and_then (unless (first (gives b RepeatedAttribute ∷ [])) t) (λ t. and_then (k t) file_last) ≡ and_then (and_then (with_repeat b (filed t)) k) file_last
      unless-repeat true k = refl
      unless-repeat false k = refl

      go : (x : Read (List Token))
          → and_then (unless (first (gives (is_no_run x) SyntaxError ∷ gives (repeats_in (tokens_in x)) RepeatedAttribute ∷ [])) t) (λ t. and_then (file_events (stored_machine a) t (events_of (tokens_in x))) file_last)
          ≡ and_then (run_from a (filed t) x) file_last
      go fail = refl
      go (got ts r) = unless-repeat (repeats_in ts) (λ t. file_events (stored_machine a) t (events_of ts))

  pub report-taken : {run run' : List ℕ} {n : ℕ} {c' : Counters} → length s ≤ max_report_bytes → every listed s ≡ true → Taking a run (and_then (run_from a (filed t) (read_report s)) file_last) n run' c'
      → Taking a run (file_report (stored_machine a) t [] s) n run' c'
  report-taken h k x = rw (report-run h k) x

-- the start, and then the report
module _ (a run : List ℕ) (c : Counters) (n₁ : ℕ) (run₁ : List ℕ) (c₁ : Counters) (s : Starts a run c n₁ run₁ c₁) where
  pub filed-refused : (report : List ℕ) → (n₁ ≡ 0 → ⊥) → Files a run c report n₁ run₁ c₁
  unfolding start_refusal given
  filed-refused report h = go (first (start_conditions a run)) refl
    where
      no : eqb (start_refusal a run) 0 ≡ false
      no = ne_eqb _ _ (λ z. h (s.answers ∙ z))

      go : (x : Option Refusal) → first (start_conditions a run) ≡ x → Files a run c report n₁ run₁ c₁
      go none e = absurd (h (s.answers ∙ ap number_in e))
      go (some r) e =
          let lent = start-lent a run r e in
          record {
            outcome = refused r;
            given = start-refused a run report r e;
            answers = s.answers ∙ ap number_in e;
            run_after = rw lent (rw no at s.run_after);
            counters_after = rw lent (rw no at s.counters_after);
          }

  module _ (z : n₁ ≡ 0) where
    starts : start_refusal a run ≡ 0
    starts = sym s.answers ∙ z

    fresh : run₁ ≡ start_run a run
    fresh = rw starts at s.run_after

    counted : c₁ ≡ no_counters
    counted = rw starts at s.counters_after

    pub fresh-run : Usable a run₁ c₁
    fresh-run = rw (fresh, counted) (start-usable a run starts)

    -- the report, with what it makes of the fresh run
    module _ (report : List ℕ) (n : ℕ) (run₂ : List ℕ) (c₂ : Counters)
        (t : Taking a run₁ (file_report (stored_machine a) (record { bytes = run₁; counters = c₁ }) [] report) n run₂ c₂) where
      abbrev o : Outcome Left
      o = file_report (stored_machine a) (started a run) [] report

      same : Answered o n run₂ c₂
      same = rw (fresh, counted) at t.answered

      numbered : (x : Outcome Left) → Answered x n run₂ c₂ → n ≡ number_given x
      numbered (refused r) h = h
      numbered (filed l) h = h.0

      pub filed-done : n ≡ 0 → (run' : List ℕ) (c' : Counters) → run' ≡ run₂ → c' ≡ c₂ → Files a run c report n run' c'
      filed-done e run' c' p q =
          let done = goes_on o n run₂ c₂ same e in
          record {
            outcome = o;
            given = (report-is a run report o).1 (once-started a run report starts);
            answers = numbered o same;
            run_after = p ∙ sym (ap (λ (x : Outcome Left). (left_by a run c x).bytes) done);
            counters_after = q ∙ sym (ap (λ (x : Outcome Left). (left_by a run c x).counters) done);
          }

      fresh-left : (n ≡ 0 → ⊥) → (x : Outcome Left) → o ≡ x → Answered x n run₂ c₂ → left_by a run c x ≡ started a run
      fresh-left h (refused r) e k = rw (report-own a (started a run) report r e)
      fresh-left h (filed l) e k = absurd (h k.0)

      pub filed-fresh : (n ≡ 0 → ⊥) → (run' : List ℕ) (c' : Counters) → run' ≡ start_run a run₂ → c' ≡ no_counters → Files a run c report n run' c'
      filed-fresh h run' c' p q =
          let left = fresh-left h o refl same in
          record {
            outcome = o;
            given = (report-is a run report o).1 (once-started a run report starts);
            answers = numbered o same;
            run_after = p ∙ t.restarts ∙ rw fresh (start-restart a run) ∙ sym (ap (λ (x : Left). x.bytes) left);
            counters_after = q ∙ sym (ap (λ (x : Left). x.counters) left);
          }

    -- a report that is refused before its tokens leaves the run as it was started
    pub filed-early : (report : List ℕ) (r : Refusal) → file_report (stored_machine a) (record { bytes = run₁; counters = c₁ }) [] report ≡ refused r → Files a run c report (number_of r) run₁ c₁
    filed-early report r e =
        filed-fresh report (number_of r) run₁ c₁ (rw e (taken_here a run₁ (refused r) (number_of r) c₁ refl)) (some_number r) run₁ c₁ (rw fresh (sym (start-restart a run))) counted

-- a turn of the loop: what was taken has an outcome, of which the tokens from here make the outcome of all
pub record Turn (a s : List ℕ) (i n : ℕ) (run : List ℕ) (c : Counters) (all : Outcome Left) : Type 0 where
  pub outcome : Outcome Left
  pub answered : Answered outcome n run c
  pub same : RunAt a outcome s i ≡ all

module _ (a s : List ℕ) (short : length s ≤ max_report_bytes) (i : ℕ) (inside : i < length s) (n : ℕ) (run : List ℕ) (c : Counters) (all : Outcome Left) (t : Turn a s i n run c all) where
  abbrev met : Maybe Found
  met = found_of (length s) i (read_token (drop i s))

  -- no token, or a late declaration
  pub turn-none : met ≡ None → all ≡ refused SyntaxError
  turn-none e = sym t.same ∙ none-at a s short i inside t.outcome e

  module _ (f : Found) (e : met ≡ Some f) where
    pub turn-late : late_declaration i f.kind ≡ true → all ≡ refused SyntaxError
    turn-late h = sym t.same ∙ late-at a s short i inside t.outcome f e h

    -- any other
    module _ (h : late_declaration i f.kind ≡ false) where
      abbrev step : Outcome Left
      step = step_found a t.outcome f.kind (tag_name (read_token (drop i s)))

      goes : Goes a s short i inside t.outcome f.end step
      goes = next-at a s short i inside t.outcome f e h

      pub turn-past : (i < f.end) × (f.end ≤ length s)
      turn-past = (goes.0, goes.1.0)

      pub turn-taken : (n' : ℕ) (run' : List ℕ) (c' : Counters) → Taking a run step n' run' c' → Turn a s f.end n' run' c' all
      turn-taken n' run' c' x = record {
        outcome = step;
        answered = x.answered;
        same = goes.1.1 ∙ t.same;
      }
