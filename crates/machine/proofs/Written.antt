-- What is left behind a reference that was written.
use Rattle.std.proofs.Common.{◌≡◌, ℕ, List, ap, ◌∙◌}
use Rattle.std.specs.Borrow.{MutBor}
use Rattle.stored.specs.Usable.{Usable}
use Rattle.stored.specs.declared.counters.Counters.{Counters}

abbrev pub holding : MutBor (List ℕ) → List ℕ → MutBor (List ℕ)
holding r x = record r { now = x }

-- the same reference, written again
pub written_again : (r : MutBor (List ℕ)) {s t : MutBor (List ℕ)} {w x y : List ℕ} → s ≡ holding r w → t ≡ holding s x → x ≡ y → t ≡ holding r y
written_again r {s} {t} {w} {x} {y} p q e = q ∙ ap (λ (b : MutBor (List ℕ)). holding b x) p ∙ ap (holding r) e

pub usable_same : {a run run' : List ℕ} {c c' : Counters} → Usable a run c → run' ≡ run → c' ≡ c → Usable a run' c'
usable_same u p q = rw (p, q) u
