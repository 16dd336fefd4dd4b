-- The document tree, as XPath 1.0's section 5 has it within the subset: the document node (the Recommendation's root node), elements with
-- a name and children in document order, texts and comments. Attributes are on neither axis that a path uses and are not nodes here.
use Rattle.std.specs.Prelude.{ℕ, zero, suc, Bool, true, false, List, [], ◌∷◌}
use Rattle.text.specs.Names.{Name}

infixr 40 ◌then◌
mutual
  pub data Node : Type 0 where
    element : Name → Nodes → Node
    text : List ℕ → Node
    comment : List ℕ → Node

  -- siblings in document order
  pub data Nodes : Type 0 where
    none : Nodes
    ◌then◌ : Node → Nodes → Nodes

-- a document: the children of its document node
abbrev pub Document : Type 0
Document = Nodes

-- Nodes have identity: a node is a place in the tree, so that two equal elements are two nodes. [] is the place of the document node,
-- and i ∷ x that of child i, counted from 0, of the node at x
abbrev pub Place : Type 0
Place = List ℕ

-- what stands at a place: no node, or a node of one of these kinds
pub data Kind : Type 0 where
  no_node : Kind
  document_node : Kind
  element_node : Name → Kind
  text_node : Kind
  comment_node : Kind

abbrev pub kind_of : Node → Kind
kind_of (element n children) = element_node n
kind_of (text b) = text_node
kind_of (comment b) = comment_node

abbrev pub children_of : Node → Nodes
children_of (element n children) = children
children_of (text b) = none
children_of (comment b) = none

-- the kind of sibling i, and its children
unfoldable pub kind_in : Nodes → ℕ → Kind
kind_in none i = no_node
kind_in (x then xs) zero = kind_of x
kind_in (x then xs) (suc i) = kind_in xs i

unfoldable pub children_in : Nodes → ℕ → Nodes
children_in none i = none
children_in (x then xs) zero = children_of x
children_in (x then xs) (suc i) = children_in xs i

-- the children of the node at a place, and that node's kind
unfoldable pub children_at : Document → Place → Nodes
children_at d [] = d
children_at d (i ∷ x) = children_in (children_at d x) i

unfoldable pub kind_at : Document → Place → Kind
kind_at d [] = document_node
kind_at d (i ∷ x) = kind_in (children_at d x) i

abbrev pub is_node : Kind → Bool
is_node no_node = false
is_node document_node = true
is_node (element_node n) = true
is_node text_node = true
is_node comment_node = true
