-- What was read item by item was read as many.
use Prim.Native.Nat.{ℕ, ◌<◌}
use mathlib.Core.Path.{◌≡◌, refl, ap, ◌∙◌}
use mathlib.Core.Bool.{true}
use mathlib.Core.List.{List, [], ◌∷◌}
use native.Mathlib.Omega.{arith}
use Rattle.std.specs.Prelude.{Option, Some, None}
use Rattle.std.specs.Borrow.{MutBor}
use Rattle.text.specs.Read.{Read, fail, got, then_read, starts_with, read_many}
use Rattle.text.proofs.Laws.ReadMany.{many-none}
use Rattle.notation.specs.Code.Taking.{State, take_all}
use Rattle.notation.specs.Code.Readings.{ahead, state_of, Kept, Got, Takes, Moves, At, Ran, ended, stopped, went_on}
use Rattle.notation.specs.declared.take.Reading.{Reading}

kept-same : (r : Reading) → Kept r r
kept-same r = record { text = refl; part = refl }

pub kept-both : {r u v : Reading} → Kept r u → Kept u v → Kept r v
kept-both k l = record { text = l.text ∙ k.text; part = l.part ∙ k.part }

module _ {A : Type 0} {read : List ℕ → Read A} {take : A → State → State} where
  -- an item that counts its bytes moves on
  pub moves : ((a : A) (s : State) → s.tally.at < (take a s).tally.at) → {r u : Reading} {x : Option (Unit {0})} → Takes read take r x u → Moves r x u
  moves grows {r} {u} {x} t = record { kept = t.kept; on = λ e. go (rw e at t.came) }
    where
      go : Got read take r u → r.tally.at < u.tally.at
      go g = omega (arith, grows g.item (state_of r), ap (λ (s : State). s.tally.at) g.taken)

  at-ends : {post : MutBor Reading → Option (Unit {0}) → MutBor Reading → Type 0} → ((p : MutBor Reading) (x : Option (Unit {0})) (q : MutBor Reading) → post p x q → Takes read take p.now x q.now)
      → {r u : Reading} {x : Option (Unit {0})} → At post r x u → Takes read take r x u
  at-ends one {r} {u} {x} (p, q, called, e, f) = rw (← e, ← f) (one p x q called)

  module _ (word : List ℕ)
      (more : (l : List ℕ) → starts_with word l ≡ true → read_many (starts_with word) read l ≡ then_read (read l) (λ a r. then_read (read_many (starts_with word) read r) (λ m r₂. got (a ∷ m) r₂)))
    where
      -- an item, and then the others
      one-more : (r u v : Reading) (x : Option (Unit {0})) → starts_with word (ahead r) ≡ true → Takes read take r (Some tt) u → Takes (read_many (starts_with word) read) (take_all take) u x v
          → Takes (read_many (starts_with word) read) (take_all take) r x v
      unfolding take_all
      one-more r u v None y one rest = record { kept = kept-both one.kept rest.kept; came = more (ahead r) y ∙ rw (one.came.was, rest.came) }
      one-more r u v (Some e) y one rest = record {
        kept = kept-both one.kept rest.kept;
        came = record {
          item = one.came.item ∷ rest.came.item;
          was = more (ahead r) y ∙ rw (one.came.was, rest.came.was);
          taken = rest.came.taken ∙ ap (take_all take rest.came.item) one.came.taken;
        };
      }
          -- the calls of a closure that takes one

      pub calls-take : {post : MutBor Reading → Option (Unit {0}) → MutBor Reading → Type 0} → ((p : MutBor Reading) (x : Option (Unit {0})) (q : MutBor Reading) → post p x q → Takes read take p.now x q.now)
          → {r u : Reading} {x : Option (Unit {0})} → Ran word (At post) r x u → Takes (read_many (starts_with word) read) (take_all take) r x u
      unfolding take_all
      calls-take one {r} (ended n) = record { kept = kept-same r; came = record { item = []; was = many-none (starts_with word) read (ahead r) n; taken = refl } }
      calls-take one {r} {u} (stopped y t) = let o = at-ends one t in record { kept = o.kept; came = more (ahead r) y ∙ rw o.came }
      calls-take one {r} {u = v} {x} (went_on {u} y t rest) = one-more r u v x y (at-ends one t) (calls-take one rest)

-- what the last of several calls answers is what all of them come to
module _ {A B : Type 0} {read : List ℕ → Read A} {take : A → State → State} {read₂ : List ℕ → Read B} {take₂ : B → State → State} where
  pub last-takes : {r v u : Reading} (x : Option (Unit {0})) → Kept r v → Takes read take v x u → (read (ahead v) ≡ fail → read₂ (ahead r) ≡ fail)
      → (Got read take v u → Got read₂ take₂ r u) → Takes read₂ take₂ r x u
  last-takes None k t failed taken = record { kept = kept-both k t.kept; came = failed t.came }
  last-takes (Some e) k t failed taken = record { kept = kept-both k t.kept; came = taken t.came }
