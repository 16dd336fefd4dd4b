-- Every limit of the notation, once. A proof that needs the number says `unfolding` of its name.
use Rattle.std.specs.Prelude.{ℕ}

-- bytes of a folder set
unfoldable pub max_set_bytes : ℕ
max_set_bytes = 16384

-- the highest folder number
unfoldable pub max_number : ℕ
max_number = 9999

-- steps of a path
unfoldable pub max_steps : ℕ
max_steps = 16

-- paths of a set
unfoldable pub max_paths : ℕ
max_paths = 128

-- labels of a set, repeats counted
unfoldable pub max_labels : ℕ
max_labels = 1024
