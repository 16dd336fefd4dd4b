-- What the calls of a report's tokens answer, by what the code says of each token (follows the code; laws tie it to the tokens' events).
use Rattle.std.specs.Prelude.{ℕ, ◌-◌, ◌≤◌, ◌≡◌, Bool, true, false, not, ◌&&◌, List, [], ◌∷◌, eqb, length, take, drop}
use Rattle.text.specs.Names.{Name, name_form}
use Rattle.text.specs.declared.refusals.Refusal.TheVariants.{SyntaxError, NotOneRoot, RepeatedAttribute}
use Rattle.text.specs.Refusals.{number_of}
use Rattle.text.specs.Order.{gives, first}
use Rattle.stored.specs.RunCalls.{depth_of, start_run}
use Rattle.stored.specs.Demand3.{Left}
use Rattle.stored.specs.declared.counters.Counters.{Counters}
use Rattle.reports.specs.Seen.{name_of, from_in, to_in}
use Rattle.reports.specs.declared.tokens.Kind.{Kind}
use Rattle.reports.specs.declared.tokens.Kind.TheVariants.{Declaration, Comment, Start, Empty, End, Blank, Text}
use Rattle.documents.specs.Tokens.{Token}
use Rattle.documents.specs.Repeats.{repeats_in}
use Rattle.text.specs.Read.{Read, fail, got}
use Rattle.documents.specs.Document.{opening, closing, events_of}
use Rattle.machine.specs.declared.run.session.Session.{Session}
use Rattle.machine.specs.Session.{Kept}
use Rattle.filing.specs.Filing.{Outcome, refused, filed, and_then, unless, file_event, file_events, file_end}
use Rattle.filing.specs.ReportRefusals.{stored_machine}

-- number, run and counters, as the code has them, are those of an outcome
abbrev pub Answered : Outcome Left → ℕ → List ℕ → Counters → Type 0
Answered (refused r) n run c = n ≡ number_of r
Answered (filed t) n run c = (n ≡ 0) × (t ≡ record { bytes = run; counters = c })

-- what calls on a run make of it, with this outcome: what they leave starts as it would have
pub record Taking (a run : List ℕ) (o : Outcome Left) (n : ℕ) (run' : List ℕ) (c' : Counters) : Type 0 where
  pub answered : Answered o n run' c'
  pub restarts : start_run a run' ≡ start_run a run

-- run and counters as a session has them
abbrev pub left_in : Session → Left
left_in s = record { bytes = s.run.now; counters = s.counters.now }

-- what calls make of a session, which stays that of the same run
pub record Takes (s : Session) (o : Outcome Left) (n : ℕ) (t : Session) : Type 0 where
  pub kept : Kept s t
  pub taking : Taking s.a.now s.run.now o n t.run.now t.counters.now

abbrev pub file_open : List ℕ → Left → Name → Outcome Left
file_open a t e = file_event (stored_machine a) t (opening e)

abbrev pub file_close : List ℕ → Left → Name → Outcome Left
file_close a t e = file_event (stored_machine a) t (closing e)

-- text, by whether it is all blank
abbrev pub file_text : Left → Bool → Outcome Left
file_text t all = unless (first (gives (eqb (depth_of t.bytes) 0 && not all) NotOneRoot ∷ [])) t

-- a declaration past offset 0
abbrev pub late_declaration : ℕ → Kind → Bool
late_declaration at Declaration = not (eqb at 0)
late_declaration at Comment = false
late_declaration at (Start n twice) = false
late_declaration at (Empty n twice) = false
late_declaration at (End n) = false
late_declaration at Blank = false
late_declaration at Text = false

-- a tag's name has name form
abbrev pub Named : Kind → Name → Type 0
Named Declaration e = Unit {0}
Named Comment e = Unit {0}
Named (Start n twice) e = name_form e ≡ true
Named (Empty n twice) e = name_form e ≡ true
Named (End n) e = name_form e ≡ true
Named Blank e = Unit {0}
Named Text e = Unit {0}

-- the bytes of a tag's name, where it stands; none of another token
abbrev pub name_bytes : List ℕ → Kind → Name
name_bytes s k = take (to_in (name_of k) - from_in (name_of k)) (drop (from_in (name_of k)) s)

-- a tag's name lies within the report, and has name form
pub record NamedIn (s : List ℕ) (k : Kind) : Type 0 where
  pub low : from_in (name_of k) ≤ to_in (name_of k)
  pub high : to_in (name_of k) ≤ length s
  pub formed : Named k (name_bytes s k)

-- what a token makes of what was filed before it, with its tag's name
abbrev pub file_found : List ℕ → Left → Kind → Name → Outcome Left
file_found a t Declaration e = filed t
file_found a t Comment e = filed t
file_found a t (Start n twice) e = file_open a t e
file_found a t (Empty n twice) e = and_then (file_open a t e) (λ u. file_close a u e)
file_found a t (End n) e = file_close a t e
file_found a t Blank e = file_text t true
file_found a t Text e = file_text t false

-- a tag that repeats an attribute's name
abbrev pub repeats : Kind → Bool
repeats Declaration = false
repeats Comment = false
repeats (Start n twice) = twice
repeats (Empty n twice) = twice
repeats (End n) = false
repeats Blank = false
repeats Text = false

-- 15 for a tag that repeats an attribute's name, whatever was answered before
abbrev pub with_repeat : Bool → Outcome Left → Outcome Left
with_repeat true o = refused RepeatedAttribute
with_repeat false o = o

-- what a token makes of an outcome, with its tag's name
abbrev pub step_found : List ℕ → Outcome Left → Kind → Name → Outcome Left
step_found a o k e = and_then (with_repeat (repeats k) o) (λ t. file_found a t k e)

-- the end asks nothing of the automaton
abbrev pub file_last : Left → Outcome Left
file_last t = file_end (stored_machine []) t

-- what the rest of the tokens makes of an outcome: 9 comes first of all, then 15
abbrev pub run_from : List ℕ → Outcome Left → Read (List Token) → Outcome Left
run_from a o fail = refused SyntaxError
run_from a o (got ts r) = and_then (with_repeat (repeats_in ts) o) (λ t. file_events (stored_machine a) t (events_of ts))
