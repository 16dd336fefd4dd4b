-- Everything that the calls make passes the shape test, and on it an open and a close are refused as the machine says.
use Prim.Native.Nat.{ℕ, zero, suc, ◌+◌, ◌*◌, ◌≤◌}
use mathlib.Core.Path.{◌≡◌, refl, sym, ◌∙◌, ap}
use mathlib.Core.Bool.{Bool, true, false, not, ◌&&◌}
use mathlib.Core.List.{List, [], ◌∷◌, ◌++◌, map, reverse, reverse-cons}
use native.Mathlib.Omega.{arith}
use borrow.Author.Tests.{le-leb, le-ltb, lt-ltb, eq-eqb, ne_eqb, leb-false}
use lib.Dec.{ltb, eqb}
use lib.ListN.{length, get_or, take, length-append, length-map, length-reverse}
use lib.Seq.{get_or_at}
use Rattle.text.specs.Names.{max_name, Name, name_form, too_long, same_name}
use Rattle.notation.specs.Sets.{FolderSet}
use Rattle.text.specs.Lists.{non_empty}
use Rattle.text.specs.declared.refusals.Refusal.TheVariants.{SyntaxError, NameTooLong, NotOneRoot, MismatchedClose}
use Rattle.notation.specs.Reads.{label_count}
use Rattle.model.specs.Limits.{max_depth, max_opens}
use Rattle.model.specs.Prefix.{prefix_of}
use Rattle.text.specs.Order.{Condition, gives, first, number_in, given}
use Rattle.model.specs.Calls.{Lent, open_call, close_call, Level, level, name_of, State, names_of, open_names, depth, is_innermost, refusal}
use Rattle.stored.specs.Automaton.{automaton_size, state_of, all_labels}
use Rattle.stored.specs.Run.{run_size, run_of}
use Rattle.stored.specs.RunCalls.{depth_of, stored_name, row_shaped, run_shaped, counters_shaped, shaped, too_short, root_closed, open_refusal, close_refusal}
use Rattle.stored.specs.declared.counters.Counters.{Counters}
use Rattle.text.proofs.Laws.Tests.{both_true}
use Rattle.model.proofs.Laws.Keywords.Prefix.{current-prefix}
use Rattle.stored.proofs.Laws.Bytes.AllBelow.{is_all}
use Rattle.stored.proofs.Laws.Tables.States.{state-within}
use Rattle.model.proofs.Laws.Machine.Sound.{Sound, sound-names}
use Rattle.model.proofs.Laws.Machine.Moves.{Few}
use Rattle.stored.proofs.Laws.Running.RunBytes.{Short, short-at, run_length-is, depth-read, length_at, name-at, state-at}
use Rattle.stored.proofs.Laws.Running.Means.{Means}

-- the counters of a state
abbrev pub counters_of : State → Counters
counters_of st = record { opens = st.opens; closes = st.closes; moves = st.moves }

module _ (s : FolderSet) (st : State) (g : Sound s st) where
  pub names-length : length (open_names st) ≡ depth st
  names-length = length-reverse (map name_of st.levels) ∙ length-map st.levels name_of

  pub names-deep : length (open_names st) ≤ max_depth
  names-deep = omega (arith, names-length, g.shallow)

  pub names-short : Short (open_names st)
  names-short n k = omega (arith, leb-false (suc max_name) (length n) (sound-names s st g n k).1)

-- with nothing open, what comes after 10 is not asked
nothing_left : (x y : Bool) (later other : List Condition) → given (gives x SyntaxError ∷ gives y NameTooLong ∷ gives true NotOneRoot ∷ later) ≡ given (gives x SyntaxError ∷ gives y NameTooLong ∷ gives true NotOneRoot ∷ other)
unfolding given first
nothing_left true y later other = refl
nothing_left false true later other = refl
nothing_left false false later other = refl

-- the innermost name
last_name : (n : Name) (outer : List Name) → get_or ([] ∷ reverse (n ∷ outer)) (suc (length outer)) [] ≡ n
last_name n outer =
    ap (λ (l : List Name). get_or l (length outer) []) (reverse-cons n outer) ∙ get_or_at (reverse outer) n [] [] (length outer) (length-reverse outer)

close-order-given : (levels : List Level) (stored e : Name) (x y : Bool) → stored ≡ get_or ([] ∷ names_of levels) (length levels) []
    → given (gives x SyntaxError ∷ gives y NameTooLong ∷ gives (eqb (length levels) 0) NotOneRoot ∷ gives (not (same_name stored e)) MismatchedClose ∷ [])
    ≡ given (gives x SyntaxError ∷ gives y NameTooLong ∷ gives (not (non_empty levels)) NotOneRoot ∷ gives (not (is_innermost levels e)) MismatchedClose ∷ [])
close-order-given [] stored e x y h = nothing_left x y _ _
close-order-given (level n w ∷ outer) stored e x y h =
    let last : stored ≡ n = h ∙ ap (λ (k : ℕ). get_or ([] ∷ names_of (level n w ∷ outer)) (suc k) []) (sym (length-map outer name_of)) ∙ last_name n (map name_of outer) in
    rw (last, ne_eqb (suc (length outer)) 0 (λ z. omega arith))

pub none_open : (l : List Level) → eqb (length l) 0 ≡ not (non_empty l)
none_open [] = refl
none_open (x ∷ l) = ne_eqb (suc (length l)) 0 (λ e. omega arith)

module _ (s : FolderSet) (a : List ℕ) (m : Means s a) (st : State) (few : Few s st []) (rest : List ℕ) where
  abbrev g : Sound s st
  g = few.0

  abbrev names : List Name
  names = open_names st

  abbrev run : List ℕ
  run = run_of s st ++ rest

  pub stored-depth : depth_of run ≡ depth st
  stored-depth = depth-read s names st.matched (names-deep s st g) (names-short s st g) rest ∙ names-length s st g

  label-count : label_count a ≡ length (all_labels s)
  label-count = m.tables.labels

  row-shaped : (d : ℕ) → d ≤ length names → row_shaped a run d ≡ true
  row-shaped d h =
      rw (length_at s names st.matched (names-deep s st g) (names-short s st g) rest d h, state-at s names st.matched (names-deep s st g) (names-short s st g) rest d h m.fit, label-count)
      (both_true (le-leb (length (get_or ([] ∷ names) d [])) max_name (short-at names d h (names-short s st g)))
      (le-leb (state_of s (prefix_of s (take d names))) (suc (length (all_labels s))) (state-within s (prefix_of s (take d names)) (current-prefix s (take d names)).starts)))

  -- the run of a state passes the shape test
  pub run-shaped : run_shaped a run ≡ true
  unfolding run_shaped
  run-shaped =
      rw stored-depth
      (both_true (le-leb (depth st) max_depth g.shallow) (is_all (suc (depth st)) (row_shaped a run) (λ d h. row-shaped d (omega (arith, names-length s st g)))))

  -- and so do its counters
  pub counters-shaped : counters_shaped run (counters_of st) ≡ true
  unfolding counters_shaped
  counters-shaped =
      rw stored-depth
      (both_true (le-leb st.opens max_opens g.few)
      (both_true (eq-eqb st.opens (st.closes + depth st) g.balance) (le-leb st.moves (max_depth * st.opens) few.1)))

  pub all-shaped : shaped a run (counters_of st) ≡ true
  unfolding shaped
  all-shaped = both_true m.shaped (both_true run-shaped counters-shaped)

  pub long-enough : too_short a run ≡ false
  long-enough =
      rw (
        le-ltb (length a) automaton_size m.long,
        le-ltb (length run) run_size (omega (arith, length-append (run_of s st) rest, run_length-is s names st.matched (names-deep s st g) (names-short s st g))),
      )

  root-same : root_closed run (counters_of st) ≡ st.root_closed
  root-same = rw (stored-depth, g.root, some-opens st.opens) (ap (λ (b : Bool). ltb 0 st.opens && b) (none_open st.levels))
    where
      some-opens : (n : ℕ) → not (eqb n 0) ≡ ltb 0 n
      some-opens zero = refl
      some-opens (suc n) = rw (ne_eqb (suc n) 0 (λ e. omega arith), lt-ltb 0 (suc n) (omega arith))

  -- an open lent all as last left is refused as the machine says
  pub open-refused : (l : Lent) (e : Name) → open_refusal a run (counters_of st) e ≡ number_in (refusal st (open_call l e))
  unfolding open_refusal refusal given first
  open-refused l e = rw (long-enough, all-shaped, root-same, stored-depth)

  stored_last : stored_name run (depth_of run) ≡ get_or ([] ∷ names) (depth st) []
  stored_last = rw stored-depth (name-at s names st.matched (names-deep s st g) (names-short s st g) rest (depth st) (omega (arith, names-length s st g)))

  -- and so is a close
  pub close-refused : (l : Lent) (e : Name) → close_refusal a run (counters_of st) e ≡ number_in (refusal st (close_call l e))
  unfolding close_refusal refusal given first
  close-refused l e =
      rw (long-enough, all-shaped, stored-depth)
      (close-order-given st.levels (stored_name run (depth st)) e (not (name_form e)) (too_long e) (ap (stored_name run) (sym stored-depth) ∙ stored_last))
