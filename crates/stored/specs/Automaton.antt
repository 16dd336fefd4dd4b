-- The automaton: a set's bytes as the notation keeps them, and the shared machine's tables after them. What is stored
-- is the definitions written down; numbers take two bytes, the lower first, and spare bytes are 0.
-- The layout is the program's choice: which tables there are, where they stand and which number a word has. What every choice has in common:
-- its tables mean the shared machine (Compiled), the set's text is written back from it, and its runs answer as the machine does (Demand3).
use Rattle.std.specs.Prelude.{ℕ, zero, suc, ◌+◌, ◌*◌, ◌/◌, ◌%◌, Bool, true, false, not, ◌&&◌, cond, List, [], ◌∷◌, ◌++◌, map, leb, eqb, length, get_or}
use Rattle.text.specs.Names.{Name, same_name}
use Rattle.text.specs.Lists.{any}
use Rattle.notation.specs.Limits.{max_paths, max_steps, max_labels}
use Rattle.notation.specs.Sets.{label, star, Step, step, Path, FolderSet, axis_of, test_of}
use Rattle.notation.specs.Form.{paths_of, steps_of, labels_of}
use Rattle.notation.specs.Layout.{word_size, set_size, set_part}
use Rattle.text.specs.Bytes.{le16, joined, padded}
use Rattle.notation.specs.Reads.{is_descendant, is_star}
use Rattle.model.specs.Words.{document, name, Word, same_symbol, before, label_words, begins}
use Rattle.model.specs.Prefix.{failure}

-- sizes and offsets

unfoldable pub hashes : ℕ
hashes = 256

-- of a label's links: the next label of its name, the parent, the failure link, the length of its word, the next name of its hash, the first
-- label of its name, the next label of its name in a later byte of a mask, and the bits of the steps in its own byte
abbrev pub parent_in : ℕ
parent_in = word_size

abbrev pub fail_in : ℕ
fail_in = parent_in + word_size

abbrev pub size_in : ℕ
size_in = fail_in + word_size

abbrev pub other_in : ℕ
other_in = size_in + word_size

abbrev pub first_in : ℕ
first_in = other_in + word_size

abbrev pub far_in : ℕ
far_in = first_in + word_size

abbrev pub bits_in : ℕ
bits_in = far_in + word_size

unfoldable pub link_size : ℕ
link_size = bits_in + word_size

-- bytes of a mask: one bit a step
unfoldable pub mask_size : ℕ
unfolding max_paths max_steps
mask_size = max_paths * max_steps / 8

-- the masks in the order in which they stand: `*`; `/` and `//` of a step that is not the first; `//` and `/` of a first step; the last step
abbrev pub star_mask : ℕ
star_mask = 0

abbrev pub child_mask : ℕ
child_mask = star_mask + 1

abbrev pub descendant_mask : ℕ
descendant_mask = child_mask + 1

abbrev pub anywhere_mask : ℕ
anywhere_mask = descendant_mask + 1

abbrev pub root_mask : ℕ
root_mask = anywhere_mask + 1

abbrev pub last_mask : ℕ
last_mask = root_mask + 1

abbrev pub mask_count : ℕ
mask_count = last_mask + 1

abbrev pub all_masks : ℕ
all_masks = mask_count * mask_size

unfoldable pub heads_at : ℕ
unfolding set_size
heads_at = set_size

unfoldable pub links_at : ℕ
unfolding heads_at hashes
links_at = heads_at + word_size * hashes

unfoldable pub masks_at : ℕ
unfolding links_at link_size max_labels
masks_at = links_at + link_size * max_labels

unfoldable pub start_at : ℕ
unfolding masks_at mask_size
start_at = masks_at + all_masks

unfoldable pub automaton_size : ℕ
automaton_size = 65536

-- the chain head of a hash, the links of a label, a mask
abbrev pub head_entry_at : ℕ → ℕ
head_entry_at h = heads_at + word_size * h

abbrev pub link_entry_at : ℕ → ℕ
link_entry_at l = links_at + link_size * l

abbrev pub mask_at : ℕ → ℕ
mask_at m = masks_at + mask_size * m

-- a hash of a name
unfoldable pub hash_from : ℕ → Name → ℕ
unfolding hashes
hash_from h [] = h
hash_from h (b ∷ n) = hash_from ((31 * h + b) % hashes) n

abbrev pub hash : Name → ℕ
hash n = hash_from 0 n

-- the number of the first element that passes the test, counted from k; 0 for none
unfoldable pub find {ℓ} : {A : Type ℓ} → (A → Bool) → ℕ → List A → ℕ
find test k [] = 0
find test k (a ∷ l) = cond (test a) k (find test (suc k) l)

-- the labels of a set and, for each, the word of its keyword that ends with it
abbrev pub all_steps : FolderSet → List Step
all_steps s = steps_of (paths_of s)

abbrev pub all_labels : FolderSet → List Name
all_labels s = labels_of (all_steps s)

unfoldable pub words_in : List Path → List Word
words_in [] = []
words_in (p ∷ ps) = label_words (before p) p ++ words_in ps

abbrev pub all_words : FolderSet → List Word
all_words s = words_in (paths_of s)

unfoldable pub same_word : Word → Word → Bool
same_word [] [] = true
same_word [] (t ∷ v) = false
same_word (s ∷ w) [] = false
same_word (s ∷ w) (t ∷ v) = same_symbol s t && same_word w v

-- states: 0 is the empty word, 1 is `#`, and a word that ends with a label is 2 more than the place of the first label that ends it. Which
-- label stands for a word is a choice; that no two words share a number is what matters (Compiled.one)
unfoldable pub state_among : List Word → Word → ℕ
state_among words [] = 0
state_among words (document ∷ []) = 1
state_among words (document ∷ s ∷ w) = find (same_word (document ∷ s ∷ w)) 2 words
state_among words (name n ∷ w) = find (same_word (name n ∷ w)) 2 words

abbrev pub state_of : FolderSet → Word → ℕ
state_of s w = state_among (all_words s) w

-- a word without its last symbol
unfoldable pub shortened : Word → Word
shortened [] = []
shortened (s ∷ []) = []
shortened (s ∷ t ∷ w) = s ∷ shortened (t ∷ w)

-- f 0, f 1, .. , n values
unfoldable pub tabulate : (ℕ → ℕ) → ℕ → List ℕ
tabulate f zero = []
tabulate f (suc n) = tabulate f n ++ (f n ∷ [])

abbrev pub bit : Bool → ℕ
bit true = 1
bit false = 0

-- eight bits of a byte, the first in the lowest place
unfoldable pub packed : (ℕ → Bool) → ℕ
packed b = bit (b 0) + 2 * bit (b 1) + 4 * bit (b 2) + 8 * bit (b 3) + 16 * bit (b 4) + 32 * bit (b 5) + 64 * bit (b 6) + 128 * bit (b 7)

-- bits 8 j to 8 j + 7 are byte j
abbrev pub byte_of : (ℕ → Bool) → ℕ → ℕ
byte_of b j = packed (λ k. b (8 * j + k))

abbrev pub bit_bytes : (ℕ → Bool) → ℕ → List ℕ
bit_bytes b n = tabulate (byte_of b) n

-- labels by name: a chain for each hash has one label of every different name of that hash, its last one, which has the place of the name's
-- first one, from where the labels of the name are linked. A place is 1 more than the label's, 0 for none

abbrev pub has_hash : ℕ → Name → Bool
has_hash h n = eqb (hash n) h

abbrev pub named : Name → Name → Bool
named e n = same_name n e

-- no later label has the name
abbrev pub is_last : Name → List Name → Bool
is_last n later = not (any (named n) later)

abbrev pub last_of_hash : ℕ → Name → List Name → Bool
last_of_hash h n later = has_hash h n && is_last n later

-- the number of the first name that passes the test, which sees the names behind it as well, counted from k; 0 for none
unfoldable pub find_with_later : (Name → List Name → Bool) → ℕ → List Name → ℕ
find_with_later test k [] = 0
find_with_later test k (n ∷ later) = cond (test n later) k (find_with_later test (suc k) later)

abbrev pub head_of : List Name → ℕ → ℕ
head_of names h = find_with_later (last_of_hash h) 1 names

abbrev pub heads : List Name → List ℕ
heads names = tabulate (head_of names) hashes

-- the next label of the same name and, of a name's last label, the next name of its hash and the name's first label
pub record Chain : Type 0 where
  pub next : ℕ
  pub other : ℕ
  pub first : ℕ

abbrev pub if_last : Name → List Name → ℕ → ℕ
if_last n later v = cond (is_last n later) v 0

abbrev pub chain_of : List Name → ℕ → Name → List Name → Chain
chain_of names k n later = record {
  next = find (named n) (suc (suc k)) later;
  other = if_last n later (find_with_later (last_of_hash (hash n)) (suc (suc k)) later);
  first = if_last n later (find (named n) 1 names);
}

unfoldable pub chains_from : List Name → ℕ → List Name → List Chain
chains_from names k [] = []
chains_from names k (n ∷ later) = chain_of names k n later ∷ chains_from names (suc k) later

abbrev pub chains : List Name → List Chain
chains names = chains_from names 0 names

-- a label with its step
pub record Mark : Type 0 where
  pub name : Name
  pub step : ℕ

unfoldable pub marks_from : ℕ → List Step → List Mark
marks_from k [] = []
marks_from k (step x (label n) ∷ ss) = record { name = n; step = k } ∷ marks_from (suc k) ss
marks_from k (step x star ∷ ss) = marks_from (suc k) ss

abbrev pub marks : FolderSet → List Mark
marks s = marks_from 0 (all_steps s)

-- step i has one of these labels, of name e
unfoldable pub takes : Name → List Mark → ℕ → Bool
takes e ms i = any (λ m. named e m.name && eqb m.step i) ms

-- a label of name e whose step stands in byte b of a mask or behind it
abbrev pub reaches : Name → ℕ → Mark → Bool
reaches e b m = named e m.name && leb b (m.step / 8)

-- labels of one name whose steps stand in one byte of a mask are taken together: the next label of the name in a later byte, and the bits of
-- the steps in this byte from this label on, with the byte's number behind them
pub record Group : Type 0 where
  pub far : ℕ
  pub bits : ℕ

abbrev pub group_of : ℕ → Mark → List Mark → Group
group_of k m later = record {
  far = find (reaches m.name (suc (m.step / 8))) (suc (suc k)) later;
  bits = byte_of (takes m.name (m ∷ later)) (m.step / 8) + 256 * (m.step / 8);
}

unfoldable pub groups_from : ℕ → List Mark → List Group
groups_from k [] = []
groups_from k (m ∷ later) = group_of k m later ∷ groups_from (suc k) later

abbrev pub groups : List Mark → List Group
groups ms = groups_from 0 ms

-- a label's links: its chain and group, the states of its word without the last symbol and of the longest proper end of its word that begins a
-- keyword, and the length of its word
pub record Link : Type 0 where
  pub next : ℕ
  pub parent : ℕ
  pub fail : ℕ
  pub size : ℕ
  pub other : ℕ
  pub first : ℕ
  pub far : ℕ
  pub bits : ℕ

abbrev pub link : Chain → Group → ℕ → ℕ → ℕ → Link
link c g parent fail size = record {
  next = c.next;
  parent = parent;
  fail = fail;
  size = size;
  other = c.other;
  first = c.first;
  far = g.far;
  bits = g.bits;
}

abbrev pub link_entry : Link → List ℕ
link_entry k = le16 k.next ++ (le16 k.parent ++ (le16 k.fail ++ (le16 k.size ++ (le16 k.other ++ (le16 k.first
    ++ (le16 k.far ++ le16 k.bits))))))

-- the three lists have one length, that of the labels (law)
unfoldable pub links_of : FolderSet → List Chain → List Group → List Word → List Link
links_of s [] gs words = []
links_of s (c ∷ cs) [] words = []
links_of s (c ∷ cs) (g ∷ gs) [] = []
links_of s (c ∷ cs) (g ∷ gs) (w ∷ words) =
    link c g (state_of s (shortened w)) (state_of s (failure s w)) (length w) ∷ links_of s cs gs words

abbrev pub links : FolderSet → List Link
links s = links_of s (chains (all_labels s)) (groups (marks s)) (all_words s)

-- masks: one bit a step in set order, eight steps a byte, the first step in the lowest bit

-- a step with whether it is the first and the last of its path
pub data Role : Type 0 where
  role : Step → Bool → Bool → Role

unfoldable pub roles_from : Bool → Path → List Role
roles_from first [] = []
roles_from first (s ∷ []) = role s first true ∷ []
roles_from first (s ∷ t ∷ p) = role s first false ∷ roles_from false (t ∷ p)

unfoldable pub roles_in : List Path → List Role
roles_in [] = []
roles_in (p ∷ ps) = roles_from true p ++ roles_in ps

abbrev pub roles : FolderSet → List Role
roles s = roles_in (paths_of s)

abbrev pub is_star_role : Role → Bool
is_star_role (role s first last) = is_star (test_of s)

abbrev pub is_child_role : Role → Bool
is_child_role (role s first last) = not first && not (is_descendant (axis_of s))

abbrev pub is_descendant_role : Role → Bool
is_descendant_role (role s first last) = not first && is_descendant (axis_of s)

abbrev pub is_anywhere_role : Role → Bool
is_anywhere_role (role s first last) = first && is_descendant (axis_of s)

abbrev pub is_root_role : Role → Bool
is_root_role (role s first last) = first && not (is_descendant (axis_of s))

abbrev pub is_last_role : Role → Bool
is_last_role (role s first last) = last

-- the test of role i; no for a role that is not there
unfoldable pub role_at : (Role → Bool) → List Role → ℕ → Bool
role_at f [] i = false
role_at f (r ∷ rs) zero = f r
role_at f (r ∷ rs) (suc i) = role_at f rs i

-- the test that mask m holds of each step
abbrev pub mask_test : ℕ → Role → Bool
mask_test m = get_or (is_star_role ∷ is_child_role ∷ is_descendant_role ∷ is_anywhere_role ∷ is_root_role ∷ is_last_role ∷ []) m (λ r. false)

-- so many masks, from mask m on: bit i is the mask's test of step i
unfoldable pub masks_from : ℕ → ℕ → FolderSet → List ℕ
masks_from zero m s = []
masks_from (suc left) m s = bit_bytes (role_at (mask_test m) (roles s)) mask_size ++ masks_from left (suc m) s

abbrev pub masks : FolderSet → List ℕ
masks s = masks_from mask_count star_mask s

-- the bytes of the tables
unfoldable pub head_bytes : List ℕ → List ℕ
head_bytes hs = joined (map le16 hs)

unfoldable pub link_bytes : List Link → List ℕ
link_bytes ls = padded (link_size * max_labels) (joined (map link_entry ls))

-- a set's bytes with any heads, links, masks and initial state
unfoldable pub assembled : FolderSet → List ℕ → List Link → List ℕ → ℕ → List ℕ
assembled s hs ls ms first = padded automaton_size (set_part s ++ (head_bytes hs ++ (link_bytes ls ++ (ms ++ le16 first))))

-- a fresh run is in state 1 where `#` begins a keyword, else in state 0
abbrev pub start_state : FolderSet → ℕ
start_state s = bit (begins s (document ∷ []))

-- the automaton of a set
unfoldable pub automaton_of : FolderSet → List ℕ
automaton_of s = assembled s (heads (all_labels s)) (links s) (masks s) (start_state s)
