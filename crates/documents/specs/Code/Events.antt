-- A document read from left to right, as filing takes it: open names, and the lists of them right after each open.
use Rattle.std.specs.Prelude.{ℕ, Bool, true, false, not, ◌&&◌}
use mathlib.Core.List.{List, [], ◌∷◌, ◌++◌, drop_last}
use Rattle.text.specs.Names.{Name, same_name}
use Rattle.text.specs.Lists.{every}
use Rattle.documents.specs.Tokens.{blank}
use Rattle.documents.specs.Document.{Event, opening, closing, text_here, comment_here, events_of, Report}

-- The events are those of a tree. `names` are the open names, innermost first, `seen` says whether the root was opened: opens and closes
-- match, there is one root, and text outside it is blank
unfoldable pub balanced : List Name → Bool → List Event → Bool
balanced [] seen [] = seen
balanced (m ∷ names) seen [] = false
balanced [] seen (opening n ∷ es) = not seen && balanced (n ∷ []) true es
balanced (m ∷ names) seen (opening n ∷ es) = balanced (n ∷ m ∷ names) seen es
balanced [] seen (closing n ∷ es) = false
balanced (m ∷ names) seen (closing n ∷ es) = same_name m n && balanced names seen es
balanced [] seen (text_here b ∷ es) = every blank b && balanced [] seen es
balanced (m ∷ names) seen (text_here b ∷ es) = balanced (m ∷ names) seen es
balanced [] seen (comment_here b ∷ es) = balanced [] seen es
balanced (m ∷ names) seen (comment_here b ∷ es) = balanced (m ∷ names) seen es

-- the lists of open names, outermost first, right after each open
unfoldable pub passed : List Name → List Event → List (List Name)
passed names [] = []
passed names (opening n ∷ es) = (names ++ (n ∷ [])) ∷ passed (names ++ (n ∷ [])) es
passed names (closing n ∷ es) = passed (drop_last names) es
passed names (text_here b ∷ es) = passed names es
passed names (comment_here b ∷ es) = passed names es

-- the lists of open names that the report's opens pass through
abbrev pub passed_in : {bytes : List ℕ} → Report bytes → List (List Name)
passed_in r = passed [] (events_of r.run.tokens)
