-- No open makes more failure moves than elements may be open.
use Prim.Native.Nat.{◌*◌, ◌≤◌}
use mathlib.Core.List.{List, [], ◌∷◌}
use native.Mathlib.Omega.{arith}
use Rattle.text.specs.Names.{Name}
use Rattle.notation.specs.Sets.{FolderSet}
use Rattle.model.specs.Limits.{max_depth}
use Rattle.model.specs.Calls.{as_left, Call, open_call, level, State, fresh, opened, closed_from, run}
use Rattle.model.proofs.Laws.Keywords.Walk.{walk-moves}
use Rattle.model.proofs.Laws.Machine.Calls.{Openable, Closable, always}
use Rattle.model.proofs.Laws.Machine.Sound.{Sound, fresh-sound, open-sound, close-sound, current-length}

-- what every list of calls keeps, with the bound
abbrev pub Few : FolderSet → State → List Call → Type 0
Few set s h = Sound set s × (s.moves ≤ max_depth * s.opens)

pub fresh-few : (set : FolderSet) → Few set (fresh set) []
unfolding fresh max_depth
fresh-few set = (fresh-sound set, omega arith)

pub open-few : (set : FolderSet) (s : State) (h : List Call) (e : Name) → Openable s e → Few set s h → Few set (opened set s e) (open_call as_left e ∷ h)
unfolding opened max_depth
open-few set s h e o f = (open-sound set s e o f.0, omega (arith, walk-moves set s.current e, current-length set s f.0, o.shallow, f.1))

pub close-few : (set : FolderSet) (s : State) (h : List Call) (e : Name) (c : Closable s e) → Few set s h → Sound set (closed_from (level e c.before ∷ c.outer) s) × ((closed_from (level e c.before ∷ c.outer) s).moves ≤ max_depth * (closed_from (level e c.before ∷ c.outer) s).opens)
unfolding closed_from
close-few set s h e c f = (close-sound set s e c f.0, f.1)

-- failure moves ≤ 64 × opens
pub run-moves-opens : (set : FolderSet) (calls : List Call) → (run set calls).moves ≤ max_depth * (run set calls).opens
run-moves-opens set calls = (always set (Few set) (open-few set) (close-few set) calls (fresh set) [] (fresh-few set)).1
