-- Every public call, of any bytes.
use Prim.Native.Nat.{ℕ}
use mathlib.Core.Path.{◌≡◌, refl, sym, ap, ◌∙◌, subst}
use mathlib.Core.Bool.{true, cond}
use mathlib.Core.Logic.{◌↔◌, ◌⊎◌, inl, inr}
use mathlib.Core.List.{List}
use borrow.Author.Tests.{ne_eqb}
use Rattle.text.specs.declared.refusals.Refusal.{Refusal}
use Rattle.text.specs.declared.refusals.Refusal.TheVariants.{ShortBuffer, BadShape, RepeatedAttribute}
use Rattle.text.specs.Refusals.{number_of}
use Rattle.text.specs.Answers.{says}
use Rattle.notation.specs.Layout.{set_size}
use Rattle.notation.specs.Reads.{text_of, path_at, folder_of}
use Rattle.notation.specs.ReadSet.{read_into}
use Rattle.notation.specs.WriteText.{text_conditions}
use Rattle.text.proofs.Laws.Numbers.{one-refusal, fifteen-numbers}
use Rattle.text.specs.Order.{Unmet}
use Rattle.text.proofs.Laws.Order.{answers_by}
use Rattle.stored.specs.Automaton.{automaton_size}
use Rattle.stored.specs.Build.{built_into, write_conditions}
use Rattle.stored.specs.RunCalls.{start_conditions, start_refusal, start_run, no_counters, open_conditions, open_refusal, open_walk, close_conditions, close_refusal}
use Rattle.stored.specs.Asking.{ask_conditions, ask_refusal, has_path, has_folder, has_step, has_depth, ask_path, ask_folder, ask_step, ask_prefix, name_refusal}
use Rattle.stored.specs.Demand3.{Left, started}
use Rattle.stored.proofs.Laws.Running.OpenName.{no_name}
use Rattle.stored.specs.declared.counters.Counters.{Counters}
use Rattle.filing.specs.Filing.{Outcome, refused, filed, number_given}
use Rattle.filing.specs.ReportRefusals.{ReportGives, of_lent, left_by, Files}
use Rattle.filing.specs.FiledReport.{RepeatsAttribute}
use Rattle.filing.specs.Listing.{refused_line}
use Rattle.filing.specs.Listed.{listing_conditions, listing_in, refused_conditions}
use Rattle.filing.specs.Limits.{listing_size}
use Rattle.filing.specs.Printed.{PrintedFor}
use Rattle.filing.specs.Demand1.{ReportJudged, Demand1}
use Rattle.filing.proofs.Laws.Filing.FilingParts.{given-refused, given-filed}
use Rattle.filing.proofs.Laws.Filing.FilingOrder.{report-only}
use Rattle.filing.proofs.Laws.Filing.FilingRepeats.{repeats-given}
use Rattle.filing.proofs.Laws.Listing.PrintedText.{listing-total}
use Rattle.filing.proofs.Laws.Demand1.Shown.{printed-by}
use Rattle.filing.proofs.Laws.Demand1.Sets.{set-judged}
use Rattle.filing.proofs.Laws.Demand1.Calls.{given_is, kept, some-given, some-said, written-by}

-- a report
module _ (a run : List ℕ) (c : Counters) (report : List ℕ) (answer : ℕ) (run' : List ℕ) (c' : Counters) (f : Files a run c report answer run' c') where
  why : (r : Refusal) → answer ≡ number_of r → f.outcome ≡ refused r
  why r e = given-refused f.outcome r (sym f.answers ∙ e)

  number : (o : Outcome Left) → ReportGives a run report o → answer ≡ number_given o
  number o w = f.answers ∙ ap number_given (report-only a run report f.outcome o f.given w)

  taken : answer ≡ 0 → (t : Left) × ReportGives a run report (filed t)
  taken e = let (t, is) = given-filed f.outcome (sym f.answers ∙ e) in (t, subst (ReportGives a run report) is f.given)

  left_by-is : (r : Refusal) (t : Left) → f.outcome ≡ refused r → cond (of_lent r) (record { bytes = run; counters = c }) (started a run) ≡ t → (run' ≡ t.bytes) × (c' ≡ t.counters)
  left_by-is r t e h =
      let all : left_by a run c f.outcome ≡ t = ap (left_by a run c) e ∙ h in
      (f.run_after ∙ ap (λ (t : Left). t.bytes) all, f.counters_after ∙ ap (λ (t : Left). t.counters) all)

  left-untouched : (answer ≡ number_of ShortBuffer) ⊎ (answer ≡ number_of BadShape) → (run' ≡ run) × (c' ≡ c)
  left-untouched (inl e) = left_by-is ShortBuffer (record { bytes = run; counters = c }) (why ShortBuffer e) refl
  left-untouched (inr e) = left_by-is BadShape (record { bytes = run; counters = c }) (why BadShape e) refl

  -- it is filed, or refused
  either-of : (o : Outcome Left) → f.outcome ≡ o → (answer ≡ 0) ⊎ ((r : Refusal) × (answer ≡ number_of r) × (f.outcome ≡ refused r))
  either-of (refused r) e = inr (r, f.answers ∙ ap number_given e, e)
  either-of (filed t) e = inl (f.answers ∙ ap number_given e)

  left-fresh : (answer ≡ number_of ShortBuffer → ⊥) → (answer ≡ number_of BadShape → ⊥) → (answer ≡ 0 → ⊥) → (run' ≡ start_run a run) × (c' ≡ no_counters)
  left-fresh h k n = elim (either-of f.outcome refl) [
    | inl e ↦ absurd (n e)
    | inr (r, is, e) ↦ left_by-is r (started a run) e (rw (ne_eqb (number_of r) (number_of ShortBuffer) (λ x. h (is ∙ x)), ne_eqb (number_of r) (number_of BadShape) (λ x. k (is ∙ x))))
  ]

  refusals-of : (r : Refusal) → (answer ≡ number_of r) ↔ ReportGives a run report (refused r)
  refusals-of r = (λ e. subst (ReportGives a run report) (why r e) f.given, number (refused r))

  again : ReportGives a run report (refused RepeatedAttribute) ↔ (Unmet (start_conditions a run) × RepeatsAttribute report)
  again = repeats-given a run report

  report-judged : ReportJudged a run c report answer run' c'
  report-judged = record {
    refusals = refusals-of;
    repeats = (λ e. again.0 ((refusals-of RepeatedAttribute).0 e), λ h. (refusals-of RepeatedAttribute).1 (again.1 h));
    accepted = (taken, λ t. number (filed t.0) t.1);
    either = elim (either-of f.outcome refl) [ inl e ↦ inl e | inr (r, is, e) ↦ inr (r, is) ];
    untouched = left-untouched;
    fresh = left-fresh;
  }

pub demand1 : Demand1
unfolding start_refusal open_refusal close_refusal ask_refusal ask_path ask_folder ask_step ask_prefix name_refusal
demand1 = record {
  fifteen = fifteen-numbers;
  different = one-refusal;
  reads = λ text before answer after r. set-judged set_size text before answer after (λ v. read_into v before) (λ r. refl) r.short r.judged;
  builds = λ text before answer after b. set-judged automaton_size text before answer after (λ v. built_into v before) (λ r. refl) b.short b.judged;
  writes_text = λ part before answer after w. written-by (text_conditions part before) (text_of part) before answer after w;
  writes_set = λ a before answer after w. written-by (write_conditions a before) (text_of a) before answer after w;
  starts = λ a run c answer run' c' s. (
    given_is (start_conditions a run) answer s.answers,
    λ n. let h = some-given (start_refusal a run) answer s.answers n in (s.run_after ∙ kept (start_refusal a run) _ run h, s.counters_after ∙ kept (start_refusal a run) _ c h),
  );
  opens = λ a run c e answer run' c' o. (
    answers_by (open_conditions a run c e) (open_walk a run e).moves (says answer) o.answers,
    λ n. let h = some-said (open_refusal a run c e) (open_walk a run e).moves (says answer) o.answers n in
        (o.run_after ∙ kept (open_refusal a run c e) _ run h, o.counters_after ∙ kept (open_refusal a run c e) _ c h),
  );
  closes = λ a run c e answer run' c' s. (
    given_is (close_conditions a run c e) answer s.answers,
    λ n. let h = some-given (close_refusal a run c e) answer s.answers n in (s.run_after ∙ kept (close_refusal a run c e) _ run h, s.counters_after ∙ kept (close_refusal a run c e) _ c h),
  );
  paths = λ a run place answer e. answers_by (ask_conditions a run (has_path (path_at a place))) _ _ e;
  folders = λ a run number answer e. answers_by (ask_conditions a run (has_folder (folder_of a number))) _ _ e;
  steps = λ a run place s answer e. answers_by (ask_conditions a run (has_step (path_at a place) s)) _ _ e;
  prefixes = λ a run answer e. answers_by (ask_conditions a run true) _ _ e;
  names = λ a run d number shown e o. (given_is (ask_conditions a run.now (has_depth run.now d)) number e, λ n. no_name run shown (o.empty (λ z. n (e ∙ z))));
  files = report-judged;
  lists = λ a run c before answer after w. written-by (listing_conditions a run c before) (listing_in a run c) before answer after w;
  lists_refusal = λ n before answer after w. written-by (refused_conditions before) (refused_line n) before answer after w;
  prints = printed-by listing_size PrintedFor listing-total;
}
