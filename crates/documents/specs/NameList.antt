-- The name list of an element: the names from the outermost element down to it, which are the names open while it is the innermost.
use Rattle.std.specs.Prelude.{List, [], ◌∷◌, ◌++◌}
use Rattle.text.specs.Names.{Name}
use Rattle.documents.specs.Tree.{Document, Place, Kind, no_node, document_node, element_node, text_node, comment_node, kind_at, Node, element, text, comment, Nodes, none, ◌then◌}

-- an element's name; the others have none
abbrev pub name_of : Kind → Name
name_of no_node = []
name_of document_node = []
name_of (element_node n) = n
name_of text_node = []
name_of comment_node = []

unfoldable pub names_to : Document → Place → List Name
names_to d [] = []
names_to d (i ∷ x) = names_to d x ++ (name_of (kind_at d (i ∷ x)) ∷ [])

-- the name lists of all elements of a node or of siblings, and below them, in document order; `above` is their parent's name list
unfoldable mutual
  pub lists_of : List Name → Node → List (List Name)
  lists_of above (element n children) = (above ++ (n ∷ [])) ∷ lists_in (above ++ (n ∷ [])) children
  lists_of above (text b) = []
  lists_of above (comment b) = []

  pub lists_in : List Name → Nodes → List (List Name)
  lists_in above none = []
  lists_in above (x then xs) = lists_of above x ++ lists_in above xs

-- of a whole document
abbrev pub name_lists : Document → List (List Name)
name_lists d = lists_in [] d
