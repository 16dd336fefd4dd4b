-- What the methods of a reading promise. (A reading keeps a fact of Taking's, so its own file names it.)
use Rattle.std.specs.Prelude.{ℕ, ◌<◌, ◌≡◌, true, false, List, drop, Option, Some, None, MatchOption}
use Rattle.std.specs.Borrow.{MutBor}
use Rattle.text.specs.Read.{Read, fail, got, starts_with}
use Rattle.notation.specs.Code.Taking.{State, state}
use Rattle.notation.specs.declared.take.Reading.{Reading}

-- the bytes that are not read yet
abbrev pub ahead : Reading → List ℕ
ahead r = drop r.tally.at r.text.now

abbrev pub state_of : Reading → State
state_of r = state r.tally r.part.now

-- the text and the buffer stay the same
pub record Kept (r u : Reading) : Type 0 where
  pub text : u.text ≡ r.text
  pub part : u.part.ghost_name ≡ r.part.ghost_name

-- an item was read at r, counted and written, and u stands behind it
pub record Got {A : Type 0} (read : List ℕ → Read A) (take : A → State → State) (r u : Reading) : Type 0 where
  pub item : A
  pub was : read (ahead r) ≡ got item (ahead u)
  pub taken : state_of u ≡ take item (state_of r)

-- nothing that can be read stands at r, or an item is taken
pub record Takes {A : Type 0} (read : List ℕ → Read A) (take : A → State → State) (r : Reading) (x : Option (Unit {0})) (u : Reading) : Type 0 where
  pub kept : Kept r u
  pub came : MatchOption x (read (ahead r) ≡ fail) (λ _. Got read take r u)

-- where an item was there, its bytes are behind u
pub record Moves (r : Reading) (x : Option (Unit {0})) (u : Reading) : Type 0 where
  pub kept : Kept r u
  pub on : x ≡ Some tt → r.tally.at < u.tally.at

-- a call of a closure at r, which leaves u
abbrev pub At : (MutBor Reading → Option (Unit {0}) → MutBor Reading → Type 0) → Reading → Option (Unit {0}) → Reading → Type 0
At post r x u = (p : MutBor Reading) × (q : MutBor Reading) × post p x q × (p.now ≡ r) × (q.now ≡ u)

-- items one after the other, as long as the word of one stands ahead
pub data Ran (word : List ℕ) (item : Reading → Option (Unit {0}) → Reading → Type 0) : Reading → Option (Unit {0}) → Reading → Type 0 where
  ended : {r : Reading} → starts_with word (ahead r) ≡ false → Ran word item r (Some tt) r
  stopped : {r u : Reading} → starts_with word (ahead r) ≡ true → item r None u → Ran word item r None u
  went_on : {r u v : Reading} {x : Option (Unit {0})} → starts_with word (ahead r) ≡ true → item r (Some tt) u → Ran word item u x v → Ran word item r x v
