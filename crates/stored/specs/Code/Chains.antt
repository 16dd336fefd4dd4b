-- The pass over an automaton's bytes that links the labels by name, from the last label to the first. It follows the code; a law says that
-- what it leaves is the heads and chains of the automaton's definition.
use Rattle.std.specs.Prelude.{ℕ, zero, suc, ◌+◌, List}
use Rattle.std.proofs.lemmas.List.Edits.{sets}
use Rattle.text.specs.Bytes.{le16}
use Rattle.notation.specs.Reads.{label_name}
use Rattle.stored.specs.Automaton.{other_in, first_in, head_entry_at, link_entry_at, hash}
use Rattle.stored.specs.Tables.{head_at, first_at, look_up}
use Rattle.stored.specs.Usable.{Lookable}

-- label l is the last of a new name: it becomes the first of the chain of hash h
abbrev pub entered : ℕ → ℕ → List ℕ → List ℕ
entered h l a =
    sets (sets (sets a (link_entry_at l + other_in) (le16 (head_at a h))) (link_entry_at l + first_in) (le16 (l + 1))) (head_entry_at h) (le16 (l + 1))

-- label l becomes the first of the name whose last label is r
abbrev pub preceded : ℕ → ℕ → List ℕ → List ℕ
preceded r l a = sets (sets a (link_entry_at l) (le16 (first_at a r))) (link_entry_at r + first_in) (le16 (l + 1))

-- by the place of the name's last label
abbrev pub linked_at : ℕ → ℕ → ℕ → List ℕ → List ℕ
linked_at zero h l a = entered h l a
linked_at (suc r) h l a = preceded r l a

unfoldable pub linked : ℕ → List ℕ → List ℕ
linked l a = linked_at (look_up a (label_name a l)) (hash (label_name a l)) l a

-- the labels below l, the last first
unfoldable pub chained : ℕ → List ℕ → List ℕ
chained zero a = a
chained (suc l) a = chained l (linked l a)

-- a name can be looked up at each of these labels
unfoldable pub Linkable : ℕ → List ℕ → Type 0
Linkable zero a = Unit {0}
Linkable (suc l) a = Lookable a × Linkable l (linked l a)
