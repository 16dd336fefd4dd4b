-- Words over the document node and names; the keywords of a path (paper 01: The shared machine).
use Rattle.std.specs.Prelude.{◌≡◌, Bool, true, false, ◌&&◌}
use mathlib.Core.List.{List, [], ◌∷◌, ◌++◌, Memᴰ}
use Rattle.text.specs.Names.{Name, same_name}
use Rattle.notation.specs.Sets.{child, descendant, label, star, step, Path, FolderSet}
use Rattle.notation.specs.Form.{paths_of}
use Rattle.text.specs.Lists.{any}

-- the document node `#`, and names
pub data Symbol : Type 0 where
  document : Symbol
  name : Name → Symbol

abbrev pub Word : Type 0
Word = List Symbol

-- a run of symbols that a cut or the path's end closes is a keyword, unless it is empty
abbrev pub ended : Word → List Word
ended [] = []
ended (s ∷ w) = (s ∷ w) ∷ []

-- a path cut at every `//` and every `*`; `w` is the run before the steps that are left
unfoldable pub cut : Word → Path → List Word
cut w [] = ended w
cut w (step child (label n) ∷ p) = cut (w ++ (name n ∷ [])) p
cut w (step child star ∷ p) = ended w ++ cut [] p
cut w (step descendant (label n) ∷ p) = ended w ++ cut (name n ∷ []) p
cut w (step descendant star ∷ p) = ended w ++ cut [] p

-- a path whose first step is `/` gets `#` put before it
abbrev pub before : Path → Word
before [] = []
before (step child t ∷ p) = document ∷ []
before (step descendant t ∷ p) = []

-- the keywords of a path
unfoldable pub keywords : Path → List Word
keywords p = cut (before p) p

-- for each label of a path, in order, the run that ends with it; `w` is the run before the steps that are left
unfoldable pub label_words : Word → Path → List Word
label_words w [] = []
label_words w (step child (label n) ∷ p) = (w ++ (name n ∷ [])) ∷ label_words (w ++ (name n ∷ [])) p
label_words w (step child star ∷ p) = label_words [] p
label_words w (step descendant (label n) ∷ p) = (name n ∷ []) ∷ label_words (name n ∷ []) p
label_words w (step descendant star ∷ p) = label_words [] p

-- some keyword of some path of the set begins with the word
pub record Begins (set : FolderSet) (word : Word) : Type 0 where
  pub path : Path
  pub of_set : Memᴰ path (paths_of set)
  pub keyword : Word
  pub of_path : Memᴰ keyword (keywords path)
  pub rest : Word
  pub joined : word ++ rest ≡ keyword

-- the same, computed
abbrev pub same_symbol : Symbol → Symbol → Bool
same_symbol document document = true
same_symbol document (name b) = false
same_symbol (name a) document = false
same_symbol (name a) (name b) = same_name a b

unfoldable pub starts_with : Word → Word → Bool
starts_with w [] = true
starts_with [] (s ∷ v) = false
starts_with (t ∷ w) (s ∷ v) = same_symbol t s && starts_with w v

unfoldable pub begins : FolderSet → Word → Bool
begins set word = any (λ p. any (λ k. starts_with k word) (keywords p)) (paths_of set)
