-- Location paths, as section 2 of the Recommendation XPath 1.0 defines them, in its order.
use Rattle.std.specs.Prelude.{◌≡◌, true, ◌⊎◌, [], ◌∷◌, ℕ}
use Rattle.text.specs.Names.{Name}
use Rattle.notation.specs.Sets.{Test, label, star, Step, step, Path, child as slash, descendant as double_slash}
use Rattle.documents.specs.Tree.{Document, Place, Kind, element_node, kind_at, is_node}

-- 2.2 Axes
pub data Axis : Type 0 where
  child descendant-or-self : Axis

-- the children of the context node
abbrev pub Child : Document → Place → Place → Type 0
Child d x y = (i : ℕ) × (y ≡ i ∷ x) × (is_node (kind_at d y) ≡ true)

-- a descendant is a child, or a child of a descendant
pub data Descendant (d : Document) (x : Place) : Place → Type 0 where
  a_child : {y : Place} → Child d x y → Descendant d x y
  a_child_of : {y z : Place} → Descendant d x y → Child d y z → Descendant d x z

-- the context node and its descendants
abbrev pub OnAxis : Document → Axis → Place → Place → Type 0
OnAxis d child x y = Child d x y
OnAxis d descendant-or-self x y = (y ≡ x) ⊎ Descendant d x y

-- 2.3 Node Tests. The principal node type of both axes is element
pub data NodeTest : Type 0 where
  named : Name → NodeTest
  * : NodeTest
  node : NodeTest

abbrev pub IsElement : Kind → Type 0
IsElement k = (n : Name) × (k ≡ element_node n)

-- a name passes an element of that name, `*` passes any element, node() passes every node
abbrev pub Passes : NodeTest → Kind → Type 0
Passes (named n) k = k ≡ element_node n
Passes * k = IsElement k
Passes node k = Unit {0}

-- 2.1 Location Steps: an axis and a node test; no predicates. A step selects the nodes of its axis that pass its test
infix 50 ◌::◌
pub data LocationStep : Type 0 where
  ◌::◌ : Axis → NodeTest → LocationStep

-- a node-set: which places are in it
abbrev pub NodeSet : Type 1
NodeSet = Place → Type 0

abbrev pub selects_step : Document → LocationStep → Place → NodeSet
selects_step d (a :: t) x y = OnAxis d a x y × Passes t (kind_at d y)

-- 2 Location Paths: steps, composed from left to right
infixl 40 ◌/◌
pub data LocationPath : Type 0 where
  start : LocationPath
  ◌/◌ : LocationPath → LocationStep → LocationPath

-- each node that the steps before select is a context node for the next step, and what it selects from all of them is joined. Before the
-- first step there is the context node alone
unfoldable pub selects : Document → LocationPath → Place → NodeSet
selects d start x y = y ≡ x
selects d (initial / s) x z = (y : Place) × selects d initial x y × selects_step d s y z

-- 2.5 Abbreviated Syntax: a step without an axis is a child step, and `//` stands for `/descendant-or-self::node()/`
abbrev pub node_test : Test → NodeTest
node_test (label n) = named n
node_test star = *

abbrev pub with_step : LocationPath → Step → LocationPath
with_step before (step slash t) = before / child :: node_test t
with_step before (step double_slash t) = before / descendant-or-self :: node / child :: node_test t

-- a path of the notation, spelled out from left to right
unfoldable pub spelled : LocationPath → Path → LocationPath
spelled before [] = before
spelled before (s ∷ p) = spelled (with_step before s) p

-- the nodes that a path of the notation selects in a document: it is an absolute location path, its steps go from the document node
abbrev pub selected : Document → Path → NodeSet
selected d p = selects d (spelled start p) []
