-- What an automaton holds of its set, by what is stored; of the automaton of a set these are its folders and the texts of its paths (laws).
use Rattle.std.specs.Prelude.{ℕ, List, Option}
use Rattle.notation.specs.Reads.{folder_count, folder_at, folder_top, path_text}
use Rattle.notation.specs.declared.PathPlace.{PathPlace}
use Rattle.notation.specs.declared.reads.StoredFolder.{StoredFolder}

-- the count of folders
unfoldable pub folders_held : List ℕ → ℕ
folders_held a = folder_count a

-- the number of folder i, the place of its first path, and its count of paths
unfoldable pub folder_held : List ℕ → ℕ → Option StoredFolder
folder_held a i = folder_at a i

-- the largest number of such an answer
abbrev pub top_held : Option StoredFolder → ℕ
top_held f = folder_top f

-- the text of the path of a place
unfoldable pub path_held : List ℕ → PathPlace → List ℕ
path_held a place = path_text a place
