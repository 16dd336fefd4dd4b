-- From a run of tokens to the document: the opens, closes, texts and comments that the tokens are, and the tree that has these in this order.
use Rattle.std.specs.Prelude.{ℕ, ◌+◌, ◌≡◌, Bool, true, ◌&&◌, List, [], ◌∷◌, ◌++◌}
use Rattle.text.specs.Names.{Name}
use Rattle.text.specs.Lists.{every}
use Rattle.documents.specs.Tree.{Node, element, text, comment, Nodes, none, ◌then◌, Document}
use Rattle.documents.specs.Tokens.{Token, declaration, start_tag, empty_tag, end_tag, text as text_token, comment as comment_token, print_parts, blank, RunOfTokens}

pub data Event : Type 0 where
  opening : Name → Event
  closing : Name → Event
  text_here : List ℕ → Event
  comment_here : List ℕ → Event

-- an empty-element tag is an open and a close; the declaration is nothing in the tree
abbrev pub events_of_token : Token → List Event
events_of_token declaration = []
events_of_token (comment_token c) = comment_here c ∷ []
events_of_token (start_tag n l s) = opening n ∷ []
events_of_token (empty_tag n l s) = opening n ∷ closing n ∷ []
events_of_token (end_tag n s) = closing n ∷ []
events_of_token (text_token ps) = text_here (print_parts ps) ∷ []

unfoldable pub events_of : List Token → List Event
events_of [] = []
events_of (t ∷ ts) = events_of_token t ++ events_of ts

-- the events of a node and of siblings, in document order: an element opens, then come its children, then it closes
unfoldable mutual
  pub events_at : Node → List Event
  events_at (element n children) = opening n ∷ (events_in children ++ (closing n ∷ []))
  events_at (text b) = text_here b ∷ []
  events_at (comment b) = comment_here b ∷ []

  pub events_in : Nodes → List Event
  events_in none = []
  events_in (x then xs) = events_at x ++ events_in xs

-- how many elements there are among siblings; whether their texts are blank
abbrev pub element_here : Node → ℕ
element_here (element n children) = 1
element_here (text b) = 0
element_here (comment b) = 0

abbrev pub blank_here : Node → Bool
blank_here (element n children) = true
blank_here (text b) = every blank b
blank_here (comment b) = true

unfoldable pub elements_among : Nodes → ℕ
elements_among none = 0
elements_among (x then xs) = element_here x + elements_among xs

unfoldable pub blank_among : Nodes → Bool
blank_among none = true
blank_among (x then xs) = blank_here x && blank_among xs

-- the tokens are those of a tree with one root, and outside the root is no text that is not blank
pub record TreeOf (ts : List Token) : Type 0 where
  pub nodes : Nodes
  pub same : events_in nodes ≡ events_of ts
  pub one_root : elements_among nodes ≡ 1
  pub blanks : blank_among nodes ≡ true

-- the document of a tree: XPath 1.0 (5.1) has no nodes for the blanks outside the root
abbrev pub keep : Node → Nodes → Nodes
keep (element n children) xs = element n children then xs
keep (text b) xs = xs
keep (comment b) xs = comment b then xs

unfoldable pub document_of : Nodes → Document
document_of none = none
document_of (x then xs) = keep x (document_of xs)

-- a report with a document: its bytes are a run of tokens, and these are those of a tree with one root
pub record Report (bytes : List ℕ) : Type 0 where
  pub run : RunOfTokens bytes
  pub tree : TreeOf run.tokens

-- the document in which a path selects
abbrev pub document_in : {bytes : List ℕ} → Report bytes → Document
document_in r = document_of r.tree.nodes
