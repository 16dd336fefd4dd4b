-- A program's whole job, whatever it shows of a filed report: from what building and filing left to what is printed.
use Rattle.std.specs.Prelude.{Result, Ok, Err}
use Prim.Native.Nat.{ℕ, ◌≤◌}
use mathlib.Core.Path.{◌≡◌, refl, sym, ap, ◌∙◌, subst}
use mathlib.Core.Bool.{Bool, true, false, ◌||◌, true≢false}
use mathlib.Core.List.{List, []}
use lib.Dec.{ltb}
use lib.ListN.{length, drop}
use borrow.Author.Tests.{ltb-false}
use native.Mathlib.Omega.{arith}
use Rattle.text.specs.declared.refusals.Refusal.{Refusal}
use Rattle.text.specs.declared.refusals.Refusal.TheVariants.{ShortBuffer}
use Rattle.text.specs.Refusals.{number_of}
use Rattle.text.specs.Order.{Condition, given}
use Rattle.text.specs.Written.{TextWritten}
use Rattle.text.proofs.Laws.Numbers.{number-within, some_number}
use Rattle.text.proofs.Laws.Order.{given-none}
use Rattle.text.proofs.Laws.Tests.{cases, clash}
use Rattle.notation.specs.Sets.{FolderSet}
use Rattle.notation.specs.Accepted.{Accepted}
use Rattle.notation.specs.Judged.{RefusedText, Verdict, refuses, accepts, Judged, verdict_number}
use Rattle.model.specs.Calls.{State}
use Rattle.stored.specs.Automaton.{automaton_size}
use Rattle.stored.specs.Run.{run_size}
use Rattle.stored.specs.RunCalls.{no_counters}
use Rattle.stored.specs.Build.{Built, built_into}
use Rattle.stored.specs.declared.counters.Counters.{Counters}
use Rattle.stored.proofs.Laws.Building.BuiltSet.{built-means}
use Rattle.stored.proofs.Laws.Running.Means.{Means, means}
use Rattle.filing.specs.Filing.{refused, filed, number_given, Refused, FiledWith}
use Rattle.filing.specs.ReportRefusals.{Files}
use Rattle.filing.specs.Code.Filing.{file_with}
use Rattle.filing.specs.Listing.{refused_line}
use Rattle.filing.specs.FiledReport.{Demand2Bytes}
use Rattle.filing.specs.Shown.{Faithful, ShownOf, its_number, its_text, ShownText, of_refused_set, of_set, too_small, PrintsText, PrintsBy, FilesText, set_refused, report_refused, report_filed, ShownAs, PrintsWith}
use Rattle.filing.proofs.Laws.Filing.FilingOrder.{filing-is}
use Rattle.filing.proofs.Laws.Filing.FromBytes.{answer-is, demand2-bytes}
use Rattle.filing.proofs.Laws.Listing.Shown.{Total, shown-some}
use Rattle.filing.proofs.Laws.Listing.Written.{refused-length}
use Rattle.text.proofs.Laws.Output.{written-whole}

-- where nothing is too small
module _ (size : ℕ) (a run out : List ℕ) (h : too_small size a run out ≡ false) where
  none-small : (ltb (length a) automaton_size ≡ false) × ((ltb (length run) run_size ≡ false) × (ltb (length out) size ≡ false))
  unfolding too_small
  none-small = go (ltb (length a) automaton_size) (ltb (length run) run_size) (ltb (length out) size) h
    where
      go : (p q r : Bool) → ((p || q) || r) ≡ false → (p ≡ false) × ((q ≡ false) × (r ≡ false))
      go false false r e = (refl, (refl, e))
      go false true r e = absurd (true≢false e)
      go true q r e = absurd (true≢false e)

  automaton-room : automaton_size ≤ length a
  automaton-room = ltb-false (length a) automaton_size none-small.0

  run_room : run_size ≤ length run
  run_room = ltb-false (length run) run_size none-small.1.0

  pub out_room : size ≤ length out
  out_room = ltb-false (length out) size none-small.1.1

-- a text no longer than the size that nothing refuses, in a buffer of the size
pub text-printed : {size : ℕ} {order : List Condition} {text out after : List ℕ} {answer : Result ℕ Refusal} → length text ≤ size → size ≤ length out
    → TextWritten order text out answer after → given order ≡ 0 → PrintsText size text out answer after
text-printed {text = text} {out} {answer = answer} fits room w z = let whole = written-whole text out answer z (omega arith) w.answers w.leaves in record { fits = fits; answers = whole.0; leaves = whole.1 }

module _ (size : ℕ) (For : FolderSet → List ℕ → List ℕ → Type 0) (text report a run out : List ℕ) where
  too_small-is : too_small size a run out ≡ true → PrintsBy size For text report a run out (Err ShortBuffer) a run out
  too_small-is h = record {
    short = λ _. (refl, (refl, (refl, refl)));
    printed = λ f. clash h f;
    built = λ f. clash h f;
    kept = λ f. clash h f;
    filed = λ f. clash h f;
  }

  module _ (h : too_small size a run out ≡ false) where
    room : size ≤ length out
    room = out_room size a run out h

    -- by the text's verdict
    module _ {n : ℕ} {a' : List ℕ} (b : Built text a n a') where
      built-by : (v : Verdict) → Judged text v → (n ≡ verdict_number v) × (a' ≡ built_into v a)
      built-by = b.judged (automaton-room size a run out h)

      refused-by : (r : Refusal) → RefusedText text r → n ≡ number_of r
      refused-by r j = (built-by (refuses r) j).0

    module _ {a' : List ℕ} (b : Built text a 0 a') where
      none_refuses : {A : Type 0} (r : Refusal) → RefusedText text r → A
      none_refuses r j = absurd (some_number r (sym (refused-by b r j)))

      -- with an accepted set
      outcome-is : (s : FolderSet) → Accepted text s → {n : ℕ} {run' : List ℕ} {c' : Counters} → Files a' run no_counters report n run' c' → n ≡ number_given (file_with s report)
      outcome-is s acc {n} {run'} {c'} f = answer-is s a' (built-means text s acc a a' b) run (run_room size a run out h) no_counters report n run' c' f

      refused-outcome : (s : FolderSet) → Accepted text s → (r : Refusal) → Refused s report r → {n : ℕ} {run' : List ℕ} {c' : Counters} → Files a' run no_counters report n run' c'
          → n ≡ number_of r
      refused-outcome s acc r g f = outcome-is s acc f ∙ ap number_given ((filing-is s report (refused r)).0 g)

      filed-outcome : (s : FolderSet) → Accepted text s → (m : State) → FiledWith s report m → {n : ℕ} {run' : List ℕ} {c' : Counters} → Files a' run no_counters report n run' c'
          → n ≡ 0
      filed-outcome s acc m g f = outcome-is s acc f ∙ ap number_given ((filing-is s report (filed m)).0 g)

    module _ {shows : List ℕ → List ℕ → Counters → List ℕ → Result ℕ Refusal → List ℕ → Type 0} (faithful : Faithful size For shows) {after : List ℕ} {answer : Result ℕ Refusal} where
      -- the line of a refusal
      line-printed : {n : ℕ} (r : Refusal) → n ≡ number_of r → TextWritten [] (refused_line n) out answer after → PrintsText size (refused_line (number_of r)) out answer after
      line-printed {n} r e w =
          let fits : length (refused_line (number_of r)) ≤ size = omega (arith, faithful.line, refused-length (number_of r) (omega (arith, number-within r))) in
          text-printed fits room (rw e at w) given-none

      -- a set that is refused
      set-refused : {n : ℕ} {a' : List ℕ} → (n ≡ 0 → ⊥) → Built text a n a' → TextWritten [] (refused_line n) out answer after → PrintsBy size For text report a run out answer a' run after
      set-refused {n} some b w = record {
        short = λ t. clash t h;
        printed = λ _. of-text;
        built = λ _ v j. (built-by b v j).1;
        kept = λ _ r j. refl;
        filed = λ _ s acc. absurd (some (built-by b (accepts s) acc).0);
      }
        where
          of-text : (bytes : List ℕ) → ShownText For text report bytes → PrintsText size bytes out answer after
          of-text bytes (of_refused_set {r = r} j) = line-printed r (refused-by b r j) w
          of-text bytes (of_set {s = s} acc x) = absurd (some (built-by b (accepts s) acc).0)

      -- a set that is built, and any report
      module _ {a' : List ℕ} (b : Built text a 0 a') {n : ℕ} {run' : List ℕ} {c' : Counters} (f : Files a' run no_counters report n run' c')
          (of-report : (s : FolderSet) → Accepted text s → (bytes : List ℕ) → ShownOf For s report bytes → PrintsText size bytes out answer after) where
        with-set : PrintsBy size For text report a run out answer a' run' after
        with-set = record {
          short = λ t. clash t h;
          printed = λ _. of-text;
          built = λ _ v j. (built-by b v j).1;
          kept = λ _ r j. none_refuses b r j;
          filed = λ _ s acc. (n, c', f);
        }
          where
            of-text : (bytes : List ℕ) → ShownText For text report bytes → PrintsText size bytes out answer after
            of-text bytes (of_refused_set {r = r} j) = none_refuses b r j
            of-text bytes (of_set {s = s} acc x) = of-report s acc bytes x

      report-refused : {n : ℕ} {a' run' : List ℕ} {c' : Counters} → (n ≡ 0 → ⊥) → Built text a 0 a' → Files a' run no_counters report n run' c'
          → TextWritten [] (refused_line n) out answer after → PrintsBy size For text report a run out answer a' run' after
      report-refused {n} some b f w = with-set b f of-report
        where
          of-report : (s : FolderSet) → Accepted text s → (bytes : List ℕ) → ShownOf For s report bytes → PrintsText size bytes out answer after
          of-report s acc bytes (its_number r g) = line-printed r (refused-outcome b s acc r g f) w
          of-report s acc bytes (its_text m g x) = absurd (some (filed-outcome b s acc m g f))

      report-filed : {a' run' : List ℕ} {c' : Counters} → Built text a 0 a' → Files a' run no_counters report 0 run' c' → shows a' run' c' out answer after
          → PrintsBy size For text report a run out answer a' run' after
      report-filed {a'} {run'} {c'} b f w = with-set b f of-report
        where
          of-report : (s : FolderSet) → Accepted text s → (bytes : List ℕ) → ShownOf For s report bytes → PrintsText size bytes out answer after
          of-report s acc bytes (its_number r g) = absurd (some_number r (sym (refused-outcome b s acc r g f)))
          of-report s acc bytes (its_text m g x) =
              let (own, y, p) = faithful.filed text a a' s acc b report run (run_room size a run out h) no_counters run' c' f out room answer after w in
              subst (λ (z : List ℕ). PrintsText size z out answer after) (faithful.once s report own bytes y x) p

      -- by what building and filing left
      shown-by : {a' run' : List ℕ} (r : Result Counters Refusal) → FilesText text report a run r a' run' → ShownAs shows r a' run' out answer after
          → PrintsBy size For text report a run out answer a' run' after
      shown-by (Err r) (set_refused b) w = set-refused (some_number r) b w
      shown-by (Err r) (report_refused c' b f) w = report-refused (some_number r) b f w
      shown-by (Ok c') (report_filed b f) w = report-filed b f w

  pub prints_by : {shows : List ℕ → List ℕ → Counters → List ℕ → Result ℕ Refusal → List ℕ → Type 0} → Faithful size For shows → {answer : Result ℕ Refusal} {a' run' out' : List ℕ}
      → PrintsWith shows size text report a run out answer a' run' out' → PrintsBy size For text report a run out answer a' run' out'
  prints_by faithful p =
      cases (too_small size a run out)
      (λ y. let (e, same) = p.short y in rw (e, same.0, same.1.0, same.1.1) (too_small-is y))
      (λ n. let (r, f, w) = p.done n in shown-by n faithful r f w)

  module _ (answer : Result ℕ Refusal) (a' run' out' : List ℕ) (p : PrintsBy size For text report a run out answer a' run' out') (h : too_small size a run out ≡ false) where
    -- in buffers of their sizes a text is printed
    pub some-printed : Total For → (shown : List ℕ) × PrintsText size shown out answer out'
    some-printed shows = let (bytes, x) = shown-some For shows text report in (bytes, p.printed h bytes x)

    -- an accepted set's printed call files as `Demand2Bytes` says
    pub demand2-printed : (s : FolderSet) → Accepted text s → (n : ℕ) × (c' : Counters) × Demand2Bytes s a' report run n run' c'
    demand2-printed s acc =
        let (n, c', files) = p.filed h s acc in
        let w = subst (Means s) (sym (p.built h (accepts s) acc)) (means text s acc (drop automaton_size a)) in
        (n, c', demand2-bytes s a' w run (run_room size a run out h) no_counters report n run' c' files)
