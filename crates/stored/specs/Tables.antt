-- What is stored in an automaton's tables, of any bytes, and the walk over them. For the automaton of a set these are the shared machine's
-- (laws); for any other bytes they are what the calls answer by.
use Rattle.std.specs.Prelude.{ℕ, zero, suc, ◌+◌, not, ◌&&◌, cond, List, eqb}
use Rattle.text.specs.Names.{Name, same_name}
use Rattle.notation.specs.Limits.{max_labels}
use Rattle.notation.specs.Reads.{word16, label_name}
use Rattle.stored.specs.Automaton.{parent_in, fail_in, size_in, other_in, first_in, far_in, bits_in, start_at, head_entry_at, link_entry_at, hash}
use Rattle.stored.specs.declared.walk.Walk.{Walk}

abbrev pub head_at : List ℕ → ℕ → ℕ
head_at a h = word16 a (head_entry_at h)

abbrev pub next_at : List ℕ → ℕ → ℕ
next_at a l = word16 a (link_entry_at l)

abbrev pub parent_at : List ℕ → ℕ → ℕ
parent_at a l = word16 a (link_entry_at l + parent_in)

abbrev pub fail_at : List ℕ → ℕ → ℕ
fail_at a l = word16 a (link_entry_at l + fail_in)

abbrev pub size_at : List ℕ → ℕ → ℕ
size_at a l = word16 a (link_entry_at l + size_in)

abbrev pub other_at : List ℕ → ℕ → ℕ
other_at a l = word16 a (link_entry_at l + other_in)

abbrev pub first_at : List ℕ → ℕ → ℕ
first_at a l = word16 a (link_entry_at l + first_in)

abbrev pub far_at : List ℕ → ℕ → ℕ
far_at a l = word16 a (link_entry_at l + far_in)

abbrev pub bits_at : List ℕ → ℕ → ℕ
bits_at a l = word16 a (link_entry_at l + bits_in)

abbrev pub start_of : List ℕ → ℕ
start_of a = word16 a start_at

-- of states: the length of the word, and the failure move; state 0 is the empty word and 1 is `#`
unfoldable pub size_of : List ℕ → ℕ → ℕ
size_of a zero = 0
size_of a (suc zero) = 1
size_of a (suc (suc l)) = size_at a l

unfoldable pub fail_of : List ℕ → ℕ → ℕ
fail_of a zero = 0
fail_of a (suc zero) = 0
fail_of a (suc (suc l)) = fail_at a l

-- places of labels, each 1 more than its label, 0 for none; `more` bounds how many labels are looked at

-- the place with name e on the chain of its hash
unfoldable pub look_from : ℕ → List ℕ → Name → ℕ → ℕ
look_from zero a e k = 0
look_from (suc more) a e zero = 0
look_from (suc more) a e (suc l) = cond (same_name (label_name a l) e) (suc l) (look_from more a e (other_at a l))

unfoldable pub look_up : List ℕ → Name → ℕ
look_up a e = look_from max_labels a e (head_at a (hash e))

abbrev pub first_after : List ℕ → ℕ → ℕ
first_after a zero = 0
first_after a (suc l) = first_at a l

-- the first label with name e
unfoldable pub first_of : List ℕ → Name → ℕ
first_of a e = first_after a (look_up a e)

-- the state of the word of state q followed by a name, 0 for none: of the labels of that name, from place k on, the first whose parent is q
unfoldable pub goto_from : ℕ → List ℕ → ℕ → ℕ → ℕ
goto_from zero a q k = 0
goto_from (suc more) a q zero = 0
goto_from (suc more) a q (suc l) = cond (eqb (parent_at a l) q) (suc (suc l)) (goto_from more a q (next_at a l))

unfoldable pub goto_by : List ℕ → ℕ → ℕ → ℕ
goto_by a q k = goto_from max_labels a q k

abbrev pub goto : List ℕ → ℕ → Name → ℕ
goto a q e = goto_by a q (first_of a e)

abbrev pub one_more : Walk → Walk
one_more w = record { moves = w.moves + 1; state = w.state }

-- the walk from state q by the name whose first label has place k; `more` bounds its failure moves
unfoldable pub walk_from : ℕ → List ℕ → ℕ → ℕ → Walk
walk_from zero a q k = record { moves = 0; state = goto_by a q k }
walk_from (suc more) a q k =
    cond (eqb (goto_by a q k) 0 && not (eqb q 0)) (one_more (walk_from more a (fail_of a q) k)) (record { moves = 0; state = goto_by a q k })

unfoldable pub walk_by : List ℕ → ℕ → ℕ → Walk
walk_by a q k = walk_from (size_of a q) a q k

abbrev pub walk_over : List ℕ → ℕ → Name → Walk
walk_over a q e = walk_by a q (first_of a e)
