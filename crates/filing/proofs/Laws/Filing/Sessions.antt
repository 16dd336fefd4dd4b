-- What a session's calls make of it, one after the other.
use Prim.Native.Nat.{ℕ}
use mathlib.Core.Path.{◌≡◌, refl, ap, ◌∙◌}
use mathlib.Core.List.{List}
use Rattle.std.specs.Prelude.{Result}
use Rattle.std.specs.Borrow.{Bor}
use Rattle.text.specs.Names.{Name}
use Rattle.text.specs.declared.refusals.Refusal.{Refusal}
use Rattle.text.specs.Answers.{refusal_in}
use Rattle.stored.specs.RunContracts.{Opens, Closes}
use Rattle.stored.specs.Demand3.{Left}
use Rattle.machine.specs.declared.run.session.Session.{Session}
use Rattle.machine.specs.Session.{Kept}
use Rattle.filing.specs.Filing.{Outcome, and_then}
use Rattle.filing.specs.Code.Taking.{Answered, Takes, left_in, file_open, file_close}
use Rattle.filing.proofs.Laws.Filing.Taking.{open-taken, close-taken, taken_here, taken-stops, taken-on}

pub kept_same : (s : Session) → Kept s s
kept_same s = record { automaton = refl; run = refl; counters = refl }

pub kept-on : {s t u : Session} → Kept s t → Kept t u → Kept s u
kept-on k l = record { automaton = l.automaton ∙ k.automaton; run = l.run ∙ k.run; counters = l.counters ∙ k.counters }

pub takes_here : (s : Session) (o : Outcome Left) (n : ℕ) → Answered o n s.run.now s.counters.now → Takes s o n s
takes_here s o n t = record { kept = kept_same s; taking = taken_here s.a.now s.run.now o n s.counters.now t }

pub opened : (s t : Session) (e : Name) (answer : Result ℕ Refusal) → Opens s.a.now s.run.now s.counters.now e answer t.run.now t.counters.now → Kept s t
    → Takes s (file_open s.a.now (left_in s) e) (refusal_in answer) t
opened s t e answer o k = record { kept = k; taking = open-taken s.a.now s.run.now s.counters.now e s.usable t.run.now t.counters.now answer o }

pub closed : (s t : Session) (e : Name) (n : ℕ) → Closes s.a.now s.run.now s.counters.now e n t.run.now t.counters.now → Kept s t
    → Takes s (file_close s.a.now (left_in s) e) n t
closed s t e n o k = record { kept = k; taking = close-taken s.a.now s.run.now s.counters.now e s.usable t.run.now t.counters.now n o }

-- nothing more after a refusal; or then others
pub takes-stop : {s t : Session} {o : Outcome Left} {n : ℕ} (k : Left → Outcome Left) → Takes s o n t → (n ≡ 0 → ⊥) → Takes s (and_then o k) n t
takes-stop {s} {t} {o} {n} k x h = record { kept = x.kept; taking = taken-stops s.a.now s.run.now o k n t.run.now t.counters.now x.taking h }

pub takes-on : {s t u : Session} {o : Outcome Left} {m n : ℕ} (k : Left → Outcome Left) → Takes s o m t → m ≡ 0 → Takes t (k (left_in t)) n u → Takes s (and_then o k) n u
takes-on {s} {t} {u} {o} {m} {n} k x z y =
    let same = ap (λ (b : Bor (List ℕ)). b.now) x.kept.automaton in
    record { kept = kept-on x.kept y.kept; taking = taken-on s.a.now s.run.now o k m t.run.now t.counters.now n u.run.now u.counters.now x.taking z (rw same at y.taking) }
