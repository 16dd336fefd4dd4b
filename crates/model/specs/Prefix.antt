-- The current prefix (paper 01: the held word) and the failure function, as longest ends of a word.
use Rattle.std.specs.Prelude.{◌≤◌, ◌<◌, ◌≡◌, cond, ◌⊎◌, length}
use mathlib.Core.List.{List, [], ◌∷◌, ◌++◌, map, tail}
use Rattle.text.specs.Names.{Name}
use Rattle.notation.specs.Sets.{FolderSet}
use Rattle.model.specs.Words.{document, name, Word, Begins, begins}

-- `# n1 .. nm`, for the open names n1 .. nm
abbrev pub word_of : List Name → Word
word_of names = document ∷ map name names

pub record EndOf (whole end : Word) : Type 0 where
  pub front : Word
  pub joined : front ++ end ≡ whole

-- a word that can be a current prefix: it begins a keyword or is empty
abbrev pub IsPrefix : FolderSet → Word → Type 0
IsPrefix set w = Begins set w ⊎ (w ≡ [])

-- the longest end of a word that begins a keyword; it may be empty, and is so where there are no keywords
pub record LongestEnd (set : FolderSet) (whole end : Word) : Type 0 where
  pub is_end : EndOf whole end
  pub starts : IsPrefix set end
  pub longest : (v : Word) → EndOf whole v → Begins set v → length v ≤ length end

-- the longest proper end that does
pub record LongestProperEnd (set : FolderSet) (whole end : Word) : Type 0 where
  pub is_end : EndOf whole end
  pub proper : length end < length whole
  pub starts : IsPrefix set end
  pub longest : (v : Word) → EndOf whole v → length v < length whole → Begins set v → length v ≤ length end

-- the current prefix of the open names
abbrev pub CurrentPrefix : FolderSet → List Name → Word → Type 0
CurrentPrefix set names = LongestEnd set (word_of names)

-- the same, computed: try the word, then its tail
unfoldable pub longest_end : FolderSet → Word → Word
longest_end set [] = []
longest_end set (s ∷ w) = cond (begins set (s ∷ w)) (s ∷ w) (longest_end set w)

unfoldable pub prefix_of : FolderSet → List Name → Word
prefix_of set names = longest_end set (word_of names)

-- the failure function, of a word that is not empty
unfoldable pub failure : FolderSet → Word → Word
failure set w = longest_end set (tail w)
