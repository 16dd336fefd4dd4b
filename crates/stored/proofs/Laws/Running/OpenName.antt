-- The part of a run that is handed back as an open name has the bytes that `ask_name` says.
use Prim.Native.Nat.{ℕ, ◌+◌, ◌-◌}
use mathlib.Core.Path.{◌≡◌, ap, ◌∙◌}
use mathlib.Core.List.{List, []}
use native.Mathlib.Omega.{arith}
use borrow.Author.Tests.{eqb-true, eqb-false}
use lib.Dec.{eqb}
use lib.ListN.{take, drop}
use denote.Ref.{Bor}
use Rattle.text.specs.Part.{PartOf}
use Rattle.text.proofs.Laws.Tests.{cases}
use Rattle.stored.specs.Run.{row_at, name_in}
use Rattle.stored.specs.RunCalls.{name_length, stored_name}
use Rattle.stored.specs.Asking.{name_refusal, ask_name, RowName, OpenName}

-- the bytes of a row's name
pub row-name : (run : Bor (List ℕ)) (d : ℕ) (r : Bor (List ℕ)) → RowName run d r → r.now ≡ stored_name run.now d
row-name run d r p =
    let w : row_at d + name_in + name_length run.now d - (row_at d + name_in) ≡ name_length run.now d = omega arith in
    p.shows ∙ ap (λ (n : ℕ). take n (drop (row_at d + name_in) run.now)) w

-- and of an empty part
pub no_name : (run r : Bor (List ℕ)) → PartOf run 0 0 r → r.now ≡ []
no_name run r p = p.shows

pub open-name-bytes : (a : List ℕ) (run : Bor (List ℕ)) (d : ℕ) (r : Bor (List ℕ)) → OpenName a run d r → r.now ≡ ask_name a run.now d
unfolding ask_name
open-name-bytes a run d r o =
    cases (eqb (name_refusal a run.now d) 0)
    (λ t. rw t (row-name run d r (o.shown (eqb-true _ 0 t))))
    (λ t. rw t (no_name run r (o.empty (eqb-false _ 0 t))))
