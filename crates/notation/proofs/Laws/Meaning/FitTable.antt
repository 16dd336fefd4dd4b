-- Every row of the table of fits holds of the definition by positions. The rows are computed, and the law of Fit carries them over.
use mathlib.Core.Path.{◌≡◌, refl, sym, ◌∙◌}
use mathlib.Core.Logic.{◌↔◌, ⊎_elim}
use mathlib.Core.Bool.{Bool, true, false, ◌&&◌, and-eq-true_iff, beq}
use mathlib.Core.List.Memᴰ
use mathlib.Core.List.{List, [], ◌∷◌, Memᴰ}
use Rattle.notation.specs.Fit.{Fits}
use Rattle.text.specs.Names.{same_name}
use Rattle.notation.specs.Activity.{here, active_reversed, seen_reversed, fits}
use Rattle.notation.specs.FitTable.{Row, fit_table}
use Rattle.notation.proofs.Laws.Meaning.Fit.{fits-is}

right : Row → Bool
right r = beq (fits r.path r.names) r.answer

all_right : List Row → Bool
all_right [] = true
all_right (r ∷ rs) = right r && all_right rs

same : (x y : Bool) → beq x y ≡ true → x ≡ y
same true true t = refl
same true false t = sym t
same false true t = t
same false false t = refl

at : (rs : List Row) → all_right rs ≡ true → (r : Row) → Memᴰ r rs → fits r.path r.names ≡ r.answer
unfolding right all_right
at [] t r m = absurd (Memᴰ.not-nil m)
at (x ∷ rs) t r m =
    let both = (and-eq-true_iff (right x) (all_right rs)).0 t in
    ⊎_elim
    (λ e.
    let now = same (fits x.path x.names) x.answer both.0 in
    rw e now)
    (λ later. at rs both.1 r later)
    (Memᴰ.cases_cons m)

computed : all_right fit_table ≡ true
unfolding fit_table right all_right active_reversed seen_reversed here same_name
computed = refl

pub fit-table : (r : Row) → Memᴰ r fit_table → Fits r.path r.names ↔ (r.answer ≡ true)
fit-table r m =
    let e = at fit_table computed r m in
    (λ f. sym e ∙ (fits-is r.path r.names).0 f, λ t. (fits-is r.path r.names).1 (e ∙ t))
