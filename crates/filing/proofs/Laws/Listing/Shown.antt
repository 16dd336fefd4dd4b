-- Every text and report have exactly one text that is shown, whatever is shown of a filed report.
use Prim.Native.Nat.{ℕ}
use mathlib.Core.Path.{◌≡◌, refl, ap, subst}
use mathlib.Core.List.{List}
use Rattle.notation.specs.Sets.{FolderSet}
use Rattle.text.specs.declared.refusals.Refusal.{Refusal}
use Rattle.text.specs.Refusals.{number_of}
use Rattle.notation.specs.Judged.{Verdict, refuses, accepts, Judged}
use Rattle.model.specs.Calls.{State}
use Rattle.text.proofs.Laws.Tests.{zero_one}
use Rattle.notation.proofs.Laws.Refused.Judging.{some-verdict, only-verdict}
use Rattle.filing.specs.Filing.{Outcome, refused, filed, FiledWith}
use Rattle.filing.specs.Code.Filing.{file_with}
use Rattle.filing.specs.Listing.{refused_line}
use Rattle.filing.specs.Shown.{Unique, ShownOf, its_number, its_text, ShownText, of_refused_set, of_set}
use Rattle.filing.proofs.Laws.Filing.FilingOrder.{filing-is, filing-only}

-- of each filed report a text is shown
abbrev pub Total : (FolderSet → List ℕ → List ℕ → Type 0) → Type 0
Total For = (s : FolderSet) (report : List ℕ) (m : State) → FiledWith s report m → (bytes : List ℕ) × For s report bytes

module _ (For : FolderSet → List ℕ → List ℕ → Type 0) where
  module _ (once : Unique For) (report : List ℕ) where
    pub of-report-once : (s : FolderSet) (x y : List ℕ) → ShownOf For s report x → ShownOf For s report y → x ≡ y
    of-report-once s x y (its_number r h) (its_number q g) =
        let e = filing-only s report (refused r) (refused q) h g in
        let same : r ≡ q = cc in
        ap (λ (z : Refusal). refused_line (number_of z)) same
    of-report-once s x y (its_number r h) (its_text m f p) = let e = filing-only s report (refused r) (filed m) h f in zero_one (cc)
    of-report-once s x y (its_text m f p) (its_number r h) = let e = filing-only s report (filed m) (refused r) f h in zero_one (cc)
    of-report-once s x y (its_text m f p) (its_text n g q) = once s report x y p q

    pub shown-once : (text x y : List ℕ) → ShownText For text report x → ShownText For text report y → x ≡ y
    shown-once text x y (of_refused_set {r = r} j) (of_refused_set {r = q} k) =
        let e = only-verdict text (refuses r) (refuses q) j k in
        let same : r ≡ q = cc in
        ap (λ (z : Refusal). refused_line (number_of z)) same
    shown-once text x y (of_refused_set {r = r} j) (of_set {s = s} acc p) = let e = only-verdict text (refuses r) (accepts s) j acc in zero_one (cc)
    shown-once text x y (of_set {s = s} acc p) (of_refused_set {r = r} j) = let e = only-verdict text (accepts s) (refuses r) acc j in zero_one (cc)
    shown-once text x y (of_set {s = s} acc p) (of_set {s = t} bcc q) =
        let e = only-verdict text (accepts s) (accepts t) acc bcc in
        let same : s ≡ t = cc in
        of-report-once t x y (subst (λ (z : FolderSet). ShownOf For z report x) same p) q

  module _ (shows : Total For) (text report : List ℕ) where
    pub of-report : (s : FolderSet) (o : Outcome State) → file_with s report ≡ o → (bytes : List ℕ) × ShownOf For s report bytes
    of-report s (refused r) e = (refused_line (number_of r), its_number r ((filing-is s report (refused r)).1 e))
    of-report s (filed m) e = let f = (filing-is s report (filed m)).1 e in let (bytes, x) = shows s report m f in (bytes, its_text m f x)

    pub shown-some : (bytes : List ℕ) × ShownText For text report bytes
    shown-some = let (v, j) = some-verdict text in go v j
      where
        go : (v : Verdict) → Judged text v → (bytes : List ℕ) × ShownText For text report bytes
        go (refuses r) j = (refused_line (number_of r), of_refused_set j)
        go (accepts s) acc = let (bytes, x) = of-report s (file_with s report) refl in (bytes, of_set acc x)
