-- The shape test of an automaton: each stored number in its range, every failure link to a shorter word, the text within its limit. It fails
-- for nothing else.
use Rattle.std.specs.Prelude.{ℕ, zero, suc, ◌+◌, ◌*◌, Bool, true, ◌&&◌, ◌||◌, List, leb, ltb, eqb, get_or}
use Rattle.text.specs.Names.{within, max_name}
use Rattle.notation.specs.Limits.{max_set_bytes, max_number, max_paths, max_steps, max_labels}
use Rattle.notation.specs.Layout.{step_kinds, steps_at}
use Rattle.notation.specs.Reads.{text_len, folder_count, path_count, step_count, label_count, stored_number, stored_first, path_first, path_steps, path_begin, path_length, label_begin, label_length, label_step}
use Rattle.stored.specs.Automaton.{hashes}
use Rattle.stored.specs.Tables.{head_at, next_at, parent_at, fail_at, size_at, other_at, first_at, far_at, start_of, size_of}

-- the test holds of every number below n
unfoldable pub all_below : ℕ → (ℕ → Bool) → Bool
all_below zero f = true
all_below (suc n) f = all_below n f && f n

abbrev pub counts_shaped : List ℕ → Bool
counts_shaped a =
    leb (text_len a) max_set_bytes && (leb (folder_count a) max_paths && (leb (path_count a) max_paths
    && (leb (step_count a) (max_paths * max_steps) && (leb (label_count a) max_labels && leb (start_of a) 1))))

abbrev pub folder_shaped : List ℕ → ℕ → Bool
folder_shaped a i = within 1 max_number (stored_number a i) && leb (stored_first a i) (path_count a)

-- a path has 1 to 16 of the stored steps, and its text lies within the set's
abbrev pub path_shaped : List ℕ → ℕ → Bool
path_shaped a i =
    within 1 max_steps (path_steps a i) && (leb (path_first a i + path_steps a i) (step_count a) && leb (path_begin a i + path_length a i) (text_len a))

abbrev pub step_shaped : List ℕ → ℕ → Bool
step_shaped a i = ltb (get_or a (steps_at + i) 0) step_kinds

-- a label's bytes lie within the set's text and are no more than a name's; its step is one of the stored steps
abbrev pub label_shaped : List ℕ → ℕ → Bool
label_shaped a i =
    leb (label_begin a i + label_length a i) (text_len a) && (leb (label_length a i) max_name && ltb (label_step a i) (step_count a))

abbrev pub head_shaped : List ℕ → ℕ → Bool
head_shaped a h = leb (head_at a h) (label_count a)

-- a place after label l: that of a later label, or none
abbrev pub later_place : List ℕ → ℕ → ℕ → Bool
later_place a l k = eqb k 0 || (ltb (suc l) k && leb k (label_count a))

-- the labels of a name and the names of a hash go on to a later label or end; the first label is one, or none
abbrev pub chain_shaped : List ℕ → ℕ → Bool
chain_shaped a l =
    later_place a l (next_at a l) && (later_place a l (other_at a l) && (later_place a l (far_at a l) && leb (first_at a l) (label_count a)))

-- a failure link leads to a state, and to a shorter word
abbrev pub fail_shaped : List ℕ → ℕ → Bool
fail_shaped a l = leb (fail_at a l) (suc (label_count a)) && ltb (size_of a (fail_at a l)) (size_at a l)

-- states are those of labels; a word has at most a path's steps and `#`
abbrev pub link_shaped : List ℕ → ℕ → Bool
link_shaped a l = chain_shaped a l && (leb (parent_at a l) (suc (label_count a)) && (leb (size_at a l) (suc max_steps) && fail_shaped a l))

-- the set's tables
abbrev pub set_shaped : List ℕ → Bool
set_shaped a =
    all_below (folder_count a) (folder_shaped a) && (all_below (path_count a) (path_shaped a)
    && (all_below (step_count a) (step_shaped a) && all_below (label_count a) (label_shaped a)))

unfoldable pub automaton_shaped : List ℕ → Bool
automaton_shaped a = counts_shaped a && (set_shaped a && (all_below hashes (head_shaped a) && all_below (label_count a) (link_shaped a)))
