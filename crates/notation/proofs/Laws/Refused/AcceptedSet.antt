-- An accepted text is that of one set, which has no fault and fits the limits. The bytes of its set are equal only for equal texts.
use Prim.Native.Nat.{ℕ}
use mathlib.Core.Path.{◌≡◌, sym, ap, ◌∙◌}
use mathlib.Core.List.{List, [], ◌++◌}
use Rattle.notation.specs.Sets.{FolderSet}
use Rattle.notation.specs.Form.{over_bytes, faults}
use Rattle.notation.specs.Accepted.{Accepted}
use Rattle.notation.specs.Layout.{set_part}
use Rattle.notation.specs.Reads.{text_of}
use Rattle.notation.proofs.Laws.Reading.Folders.{print-same}
use Rattle.notation.proofs.Laws.Faults.Numbers.{no-fault}
use Rattle.notation.proofs.Laws.Refused.Fitting.{Fitting}
use Rattle.notation.proofs.Laws.Refused.WithinLimits.{fitting}
use Rattle.notation.proofs.Laws.Stored.Words.{same_text}
use Rattle.notation.proofs.Laws.Stored.Reads.{text-read}

module _ (text : List ℕ) (s : FolderSet) (a : Accepted text s) where
  pub accepted-one : (t : FolderSet) → Accepted text t → s ≡ t
  accepted-one t b = print-same s t a.well b.well (a.prints ∙ sym b.prints)

  pub accepted-faultless : faults s ≡ []
  accepted-faultless = (no-fault s).1 (a.rising, a.names, a.paths)

  pub accepted-fits : Fitting s
  accepted-fits = fitting s a.well (ap over_bytes a.prints ∙ a.short) accepted-faultless a.room

  -- the bytes of its set give the text back
  pub text-back : (rest : List ℕ) → text_of (set_part s ++ rest) ≡ text
  text-back rest = text-read s accepted-fits rest ∙ a.prints

pub part_same : (text text' : List ℕ) (s t : FolderSet) → Accepted text s → Accepted text' t → set_part s ≡ set_part t → text ≡ text'
part_same text text' s t a b e =
    sym a.prints ∙ (same_text s t (accepted-fits text s a).bytes (accepted-fits text' t b).bytes e ∙ b.prints)
