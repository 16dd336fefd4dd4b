-- The failure moves counted are those of the walks of the accepted opens added up, and that is the only such number.
use Prim.Native.Nat.{ℕ, ◌+◌}
use mathlib.Core.Path.{◌≡◌, refl, sym, ◌∙◌, ap, ap₂}
use mathlib.Core.List.{List, [], ◌∷◌, reverse}
use Rattle.text.specs.Names.{Name}
use Rattle.notation.specs.Sets.{FolderSet}
use Rattle.model.specs.Words.{Word}
use Rattle.model.specs.Prefix.{prefix_of}
use Rattle.model.specs.Walk.{moves_of, arrived_at, walk}
use Rattle.model.specs.Calls.{as_left, Call, open_call, close_call, level, State, fresh, opened, closed_from, run}
use Rattle.model.specs.History.{accepted_calls, names_left}
use Rattle.model.specs.Moves.{OpenMoves, MovesCounted, none, an_open, a_close}
use Rattle.model.proofs.Laws.Keywords.Prefix.{current-prefix, current-prefix-only}
use Rattle.model.proofs.Laws.Keywords.Walk.{walk_is, walk-only}
use Rattle.model.proofs.Laws.Machine.Calls.{Openable, Closable, always}
use Rattle.model.proofs.Laws.Machine.History.{Counted, fresh-counted, open-counted, close-counted}
use Rattle.model.proofs.Laws.Machine.Sound.{Sound, fresh-sound, open-sound, close-sound}

-- an open from the current prefix of the names makes the moves that its computed walk counts
pub open-moves : (set : FolderSet) (names : List Name) (w : Word) (e : Name) → w ≡ prefix_of set names → OpenMoves set names e (moves_of (walk set w e))
open-moves set names w e p = record { from = w; is_prefix = rw p (current-prefix set names); to = arrived_at (walk set w e); walks = walk_is set w e }

-- and no other number of them
pub open-moves-computed : {set : FolderSet} {names : List Name} {e : Name} {moves : ℕ} → OpenMoves set names e moves → moves ≡ moves_of (walk set (prefix_of set names) e)
open-moves-computed {set} {names} {e} m = ap moves_of (sym (walk-only m.walks)) ∙ ap (λ (w : Word). moves_of (walk set w e)) (current-prefix-only set names m.from m.is_prefix)

pub open-moves-only : {set : FolderSet} {names : List Name} {e : Name} {one other : ℕ} → OpenMoves set names e one → OpenMoves set names e other → one ≡ other
open-moves-only m n = open-moves-computed m ∙ sym (open-moves-computed n)

unfoldable sum : FolderSet → List Call → ℕ
sum set [] = 0
sum set (open_call l e ∷ earlier) = sum set earlier + moves_of (walk set (prefix_of set (names_left earlier)) e)
sum set (close_call l e ∷ earlier) = sum set earlier

counted-sum : {set : FolderSet} {h : List Call} {moves : ℕ} → MovesCounted set h moves → moves ≡ sum set h
unfolding sum
counted-sum none = refl
counted-sum (an_open t m) = ap₂ (λ (x y : ℕ). x + y) (counted-sum t) (open-moves-computed m)
counted-sum (a_close t) = counted-sum t

pub moves-only : {set : FolderSet} {h : List Call} {one other : ℕ} → MovesCounted set h one → MovesCounted set h other → one ≡ other
moves-only t u = counted-sum t ∙ sym (counted-sum u)

-- what every list of calls keeps
record Kept (set : FolderSet) (s : State) (h : List Call) : Type 0 where
  sound : Sound set s
  counted : Counted s h
  moves : MovesCounted set h s.moves

fresh_kept : (set : FolderSet) → Kept set (fresh set) []
unfolding fresh
fresh_kept set = record { sound = fresh-sound set; counted = fresh-counted set; moves = none }

open_kept : (set : FolderSet) (s : State) (h : List Call) (e : Name) → Openable s e → Kept set s h → Kept set (opened set s e) (open_call as_left e ∷ h)
unfolding opened
open_kept set s h e o k = record {
  sound = open-sound set s e o k.sound;
  counted = open-counted set s h e k.counted;
  moves = an_open k.moves (open-moves set (names_left h) s.current e (k.sound.prefix ∙ ap (λ (l : List Name). prefix_of set (reverse l)) (sym (k.counted.names 0))));
}

close-kept : (set : FolderSet) (s : State) (h : List Call) (e : Name) (c : Closable s e) → Kept set s h → Kept set (closed_from (level e c.before ∷ c.outer) s) (close_call as_left e ∷ h)
unfolding closed_from
close-kept set s h e c k = record {
  sound = close-sound set s e c k.sound;
  counted = close-counted s h e c k.counted;
  moves = a_close k.moves;
}

-- the failure moves counted are those of the accepted opens' walks
pub run-moves-counted : (set : FolderSet) (calls : List Call) → MovesCounted set (accepted_calls set calls) (run set calls).moves
run-moves-counted set calls = (always set (Kept set) (open_kept set) (close-kept set) calls (fresh set) [] (fresh_kept set)).moves
