-- The pass over an automaton's bytes that stores each label's parent and the length of its word, step by step in set order. It follows the
-- code; a law says that it stores those of the automaton's definition.
use Rattle.std.specs.Prelude.{ℕ, zero, suc, ◌+◌, ◌≤◌, Bool, true, false, cond, List, eqb, ltb, Option, Some, None}
use Rattle.std.proofs.lemmas.List.Edits.{sets}
use Rattle.notation.specs.Limits.{max_labels}
use Rattle.text.specs.Bytes.{le16}
use Rattle.notation.specs.Reads.{label_count, label_name, path_at, step_at}
use Rattle.notation.specs.declared.reads.StoredPath.{StoredPath}
use Rattle.notation.specs.declared.reads.StoredStep.{StoredStep}
use Rattle.stored.specs.Automaton.{parent_in, size_in, link_entry_at}
use Rattle.stored.specs.Tables.{size_of, goto}
use Rattle.stored.specs.Usable.{Searchable}
use Rattle.stored.specs.declared.place.Place.{Place}

-- the bytes, and how far the pass is: the labels and the paths met, and the state of the word before the next step
pub record Passed : Type 0 where
  pub bytes : List ℕ
  pub place : Place

-- the path begins with step i
abbrev pub starts_at : Option StoredPath → ℕ → Bool
starts_at (Some p) i = eqb p.first i
starts_at None i = false

-- before a step's test: a path's first step starts from `#` or, by `//`, from nothing; `//` starts from nothing
abbrev pub root_state : Bool → ℕ
root_state true = 0
root_state false = 1

abbrev pub entered : Bool → Bool → Place → Place
entered true deep at = record { labels = at.labels; paths = at.paths + 1; state = root_state deep }
entered false true at = record { labels = at.labels; paths = at.paths; state = 0 }
entered false false at = at

-- after `*` the word is empty
abbrev pub emptied : Place → Place
emptied at = record { labels = at.labels; paths = at.paths; state = 0 }

-- a label: its parent is the state before it, its word one symbol longer
abbrev pub word_stored : ℕ → ℕ → List ℕ → List ℕ
word_stored l q a = sets (sets a (link_entry_at l + parent_in) (le16 q)) (link_entry_at l + size_in) (le16 (size_of a q + 1))

abbrev pub followed : Place → List ℕ → Passed
followed at a = record {
  bytes = a;
  place = record { labels = at.labels + 1; paths = at.paths; state = goto a at.state (label_name a at.labels) };
}

unfoldable pub labelled : Place → List ℕ → Passed
labelled at a =
    cond (ltb at.labels max_labels) (followed at (word_stored at.labels at.state a)) (record { bytes = a; place = at })

abbrev pub tested : Bool → Place → List ℕ → Passed
tested true at a = record { bytes = a; place = emptied at }
tested false at a = labelled at a

abbrev pub passed_by : Option StoredStep → Bool → Place → List ℕ → Passed
passed_by (Some x) first at a = tested x.star (entered first x.descendant at) a
passed_by None first at a = record { bytes = a; place = at }

unfoldable pub passed : ℕ → Place → List ℕ → Passed
passed i at a = passed_by (step_at a i) (starts_at (path_at a (record { 0 = at.paths })) i) at a

-- so many steps, from step i on
unfoldable pub parented : ℕ → ℕ → Place → List ℕ → List ℕ
parented zero i at a = a
parented (suc left) i at a = parented left (i + 1) (passed i at a).place (passed i at a).bytes

abbrev pub before_paths : Place
before_paths = record { labels = 0; paths = 0; state = 0 }

-- between steps the chains can be searched, no more paths are met than steps, and the state is one
pub record Sound (most : ℕ) (at : Place) (a : List ℕ) : Type 0 where
  pub searchable : Searchable a
  pub paths : at.paths ≤ most
  pub state : at.state ≤ suc (label_count a)
