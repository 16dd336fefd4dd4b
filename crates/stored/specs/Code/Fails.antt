-- The pass over an automaton's bytes that makes the failure links, by increasing word length. It follows the code; a law says that what it
-- leaves is the failure links of the automaton's definition.
use Rattle.std.specs.Prelude.{ℕ, zero, suc, ◌+◌, ◌≤◌, ◌<◌, ◌≡◌, cond, List, eqb, length}
use Rattle.std.proofs.lemmas.List.Edits.{sets}
use Rattle.text.specs.Bytes.{le16}
use Rattle.notation.specs.Reads.{label_count, label_name}
use Rattle.stored.specs.Automaton.{fail_in, automaton_size, link_entry_at}
use Rattle.stored.specs.Tables.{parent_at, size_at, size_of, fail_of, walk_over}
use Rattle.stored.specs.Usable.{Walkable}

-- where the walk arrives from the parent's failure state with the label's name; the words of one symbol have no parent
unfoldable pub fail_to : List ℕ → ℕ → ℕ
fail_to a l = cond (eqb (parent_at a l) 0) 0 (walk_over a (fail_of a (parent_at a l)) (label_name a l)).state

abbrev pub failed : ℕ → List ℕ → List ℕ
failed l a = sets a (link_entry_at l + fail_in) (le16 (fail_to a l))

-- the failure link of label l, if its word has n symbols
unfoldable pub failed_if : ℕ → ℕ → List ℕ → List ℕ
failed_if n l a = cond (eqb (size_at a l) n) (failed l a) a

-- those of the labels below l, the first label first
unfoldable pub failed_below : ℕ → ℕ → List ℕ → List ℕ
failed_below n zero a = a
failed_below n (suc l) a = failed_if n l (failed_below n l a)

-- those of all labels whose words have at most n symbols
unfoldable pub failed_to : ℕ → ℕ → List ℕ → List ℕ
failed_to labels zero a = a
failed_to labels (suc n) a = failed_below (suc n) labels (failed_to labels n a)

-- what the tables satisfy all the while: a word is one symbol longer than its parent's
pub record Growing (a : List ℕ) : Type 0 where
  pub room : automaton_size ≤ length a
  pub walkable : Walkable a
  pub parent : (l : ℕ) → l < label_count a → parent_at a l ≤ suc (label_count a)
  pub grown : (l : ℕ) → l < label_count a → size_at a l ≡ suc (size_of a (parent_at a l))
