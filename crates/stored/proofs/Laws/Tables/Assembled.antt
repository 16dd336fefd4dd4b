-- The bytes of an automaton in the making: a set's bytes with any heads, links, masks and initial state. What is stored is read back, and a
-- store into one of them gives the bytes with that one changed.
use Prim.Native.Nat.{ℕ, ◌+◌, ◌-◌, ◌*◌, ◌≤◌, ◌<◌}
use native.Mathlib.Nat.{add-zero, mul-le-mul_left}
use native.Mathlib.Omega.{arith}
use mathlib.Core.Path.{◌≡◌, refl, sym, ap, ◌∙◌}
use mathlib.Core.List.{List, [], ◌∷◌, ◌++◌, map, append_assoc, append-nil}
use lib.ListN.{length, get_or, set, replicate, length-append, length-map, length-set, length-replicate}
use lib.Seq.{sets, set-append_left, set-set, get_or-set_same}
use Rattle.notation.specs.Limits.{max_labels}
use Rattle.notation.specs.Sets.{FolderSet}
use Rattle.notation.specs.Print.{print}
use Rattle.notation.specs.Layout.{set_size, set_part, tables_of, word_size}
use Rattle.text.specs.Bytes.{le16, joined, padded}
use Rattle.notation.specs.Reads.{word16}
use Rattle.notation.proofs.Laws.Stored.Stands.{Stands, left, right, read}
use Rattle.notation.proofs.Laws.Stored.Sections.{layout-length}
use Rattle.notation.proofs.Laws.Fill.Padded.{length-padded}
use Rattle.notation.proofs.Laws.Stored.Entries.{map-width, map_at, joined_length, entry}
use Rattle.notation.proofs.Laws.Refused.Fitting.{Fitting, roomy}
use Rattle.notation.proofs.Laws.Stored.Words.{word_read, words-read}
use Rattle.stored.specs.Automaton.{hashes, link_size, mask_size, heads_at, links_at, masks_at, start_at, automaton_size, Chain, Group, Link, link, link_entry, head_bytes, link_bytes, assembled, parent_in, fail_in, size_in, other_in, first_in, far_in, bits_in, all_masks, head_entry_at, link_entry_at}
use Rattle.stored.specs.Tables.{head_at, next_at, parent_at, fail_at, size_at, other_at, first_at, far_at, bits_at, start_of}
use Rattle.stored.proofs.Laws.Tables.Chained.{no_chain}
use Rattle.stored.proofs.Laws.Bytes.Stores.{sets-left, past, sets-whole, sets-table, set-map, zeros, zero-entries, zeros-padded}

-- how a link's label is linked by name
abbrev pub chain_in : Link → Chain
chain_in k = record { next = k.next; other = k.other; first = k.first }

abbrev pub group_in : Link → Group
group_in k = record { far = k.far; bits = k.bits }

-- a link with some of its numbers changed
abbrev pub with_chain : Chain → Link → Link
with_chain c k = link c (group_in k) k.parent k.fail k.size

abbrev pub with_next : ℕ → Link → Link
with_next v k = with_chain (record { next = v; other = k.other; first = k.first }) k

abbrev pub with_other : ℕ → Link → Link
with_other v k = with_chain (record { next = k.next; other = v; first = k.first }) k

abbrev pub with_first : ℕ → Link → Link
with_first v k = with_chain (record { next = k.next; other = k.other; first = v }) k

abbrev pub with_group : Group → Link → Link
with_group g k = link (chain_in k) g k.parent k.fail k.size

abbrev pub with_parent : ℕ → Link → Link
with_parent v k = link (chain_in k) (group_in k) v k.fail k.size

abbrev pub with_failure : ℕ → Link → Link
with_failure v k = link (chain_in k) (group_in k) k.parent v k.size

abbrev pub with_length : ℕ → Link → Link
with_length v k = link (chain_in k) (group_in k) k.parent k.fail v

abbrev pub no_group : Group
no_group = record { far = 0; bits = 0 }

abbrev pub no_link : Link
no_link = link no_chain no_group 0 0 0

-- tables of the right sizes
pub record Sized (hs : List ℕ) (ls : List Link) (ms : List ℕ) : Type 0 where
  pub heads : length hs ≡ hashes
  pub links : length ls ≤ max_labels
  pub masks : length ms ≡ all_masks

-- the spare bytes
unfoldable spare : List ℕ
spare = replicate (automaton_size - (start_at + word_size)) 0

-- sizes
link-width : (k : Link) → length (link_entry k) ≡ link_size
unfolding link_size
link-width k = refl

heads-size : (hs : List ℕ) → length hs ≡ hashes → length (head_bytes hs) ≡ word_size * hashes
unfolding head_bytes
heads-size hs e = joined_length (map-width le16 word_size (λ v. refl) hs) ∙ ap (λ (m : ℕ). word_size * m) (length-map hs le16 ∙ e)

links-fit : (ls : List Link) → length ls ≤ max_labels → length (joined (map link_entry ls)) ≤ link_size * max_labels
links-fit ls h = rw (joined_length (map-width link_entry link_size link-width ls), length-map ls link_entry) (mul-le-mul_left link_size h)

links-size : (ls : List Link) → length ls ≤ max_labels → length (link_bytes ls) ≡ link_size * max_labels
unfolding link_bytes
links-size ls h = length-padded (link_size * max_labels) (joined (map link_entry ls)) (links-fit ls h)

-- the numbers are small enough
room : start_at + word_size ≤ automaton_size
unfolding start_at automaton_size masks_at links_at heads_at set_size
room = omega arith

link-place : (l o : ℕ) → link_entry_at l + o ≡ heads_at + (word_size * hashes + (link_size * l + o))
unfolding links_at
link-place l o = omega arith

mask-place : (i : ℕ) → masks_at + i ≡ heads_at + (word_size * hashes + (link_size * max_labels + i))
unfolding masks_at links_at
mask-place i = omega arith

-- zeros from the set's end to the automaton's
total : automaton_size - set_size ≡ word_size * hashes + (link_size * max_labels + (all_masks + (word_size + (automaton_size - (start_at + word_size)))))
unfolding automaton_size set_size hashes link_size max_labels mask_size start_at
total = omega arith

zero-heads : head_bytes (replicate hashes 0) ≡ replicate (word_size * hashes) 0
unfolding head_bytes
zero-heads = zero-entries le16 0 word_size hashes refl

zero-link : link_entry no_link ≡ replicate link_size 0
unfolding link_size
zero-link = refl

zero-links : (n : ℕ) → n ≤ max_labels → link_bytes (replicate n no_link) ≡ replicate (link_size * max_labels) 0
unfolding link_bytes
zero-links n h =
    rw (zero-entries link_entry no_link link_size n zero-link) (zeros-padded (link_size * max_labels) (link_size * n) (mul-le-mul_left link_size h))

-- number i of a link
abbrev numbers : Link → List ℕ
numbers k = k.next ∷ k.parent ∷ k.fail ∷ k.size ∷ k.other ∷ k.first ∷ k.far ∷ k.bits ∷ []

link-read : {part : List ℕ} {at : ℕ} (k : Link) (i : ℕ) → i < length (numbers k) → get_or (numbers k) i 0 < 65536 → Stands at (link_entry k) part → word16 part (at + word_size * i) ≡ get_or (numbers k) i 0
unfolding joined
link-read {at = at} k i h b t = words-read at (numbers k) i h b t

module _ (s : FolderSet) (fit : Fitting s) where
  set-length : length (set_part s) ≡ heads_at
  unfolding set_part heads_at
  set-length = layout-length (print s) (tables_of s) (roomy s fit)

  tables : List ℕ → List Link → List ℕ → ℕ → List ℕ
  tables hs ls ms f = set_part s ++ (head_bytes hs ++ (link_bytes ls ++ (ms ++ le16 f)))

  tables-length : (hs : List ℕ) (ls : List Link) (ms : List ℕ) (f : ℕ) → Sized hs ls ms → length (tables hs ls ms f) ≡ start_at + word_size
  unfolding tables start_at masks_at links_at
  tables-length hs ls ms f z =
      omega (
        arith,
        set-length,
        heads-size hs z.heads,
        links-size ls z.links,
        z.masks,
        length-append (set_part s) (head_bytes hs ++ (link_bytes ls ++ (ms ++ le16 f))),
        length-append (head_bytes hs) (link_bytes ls ++ (ms ++ le16 f)),
        length-append (link_bytes ls) (ms ++ le16 f),
        length-append ms (le16 f),
      )

  module _ (hs : List ℕ) (ls : List Link) (ms : List ℕ) (f : ℕ) (z : Sized hs ls ms) where
    pub assembled-length : length (assembled s hs ls ms f) ≡ automaton_size
    unfolding assembled tables
    assembled-length = length-padded automaton_size (tables hs ls ms f) (rw (tables-length hs ls ms f z) room)

    -- its parts, one after the other
    parts : (rest : List ℕ) → assembled s hs ls ms f ++ rest ≡ set_part s ++ (head_bytes hs ++ (link_bytes ls ++ (ms ++ (le16 f ++ (spare ++ rest)))))
    unfolding assembled padded tables spare
    parts rest = rw (tables-length hs ls ms f z) (simp append_assoc)

  -- a set's bytes stand first, so that what is read of a set is read of it
  pub after-set : (hs : List ℕ) (ls : List Link) (ms : List ℕ) (f : ℕ) (rest : List ℕ) → (more : List ℕ) × (assembled s hs ls ms f ++ rest ≡ set_part s ++ more)
  unfolding assembled padded tables
  after-set hs ls ms f rest =
      ((head_bytes hs ++ (link_bytes ls ++ (ms ++ le16 f))) ++ (replicate (automaton_size - length (tables hs ls ms f)) 0 ++ rest), simp append_assoc)

  module _ (hs : List ℕ) (ls : List Link) (ms : List ℕ) (f : ℕ) (z : Sized hs ls ms) (rest : List ℕ) where
    -- where the parts stand
    from_heads : Stands heads_at (head_bytes hs ++ (link_bytes ls ++ (ms ++ (le16 f ++ (spare ++ rest))))) (assembled s hs ls ms f ++ rest)
    from_heads = record { before = set_part s; after = []; split = parts hs ls ms f z rest ∙ ap (λ (l : List ℕ). set_part s ++ l) (sym (append-nil _)); size = set-length }

    from-links : Stands links_at (link_bytes ls ++ (ms ++ (le16 f ++ (spare ++ rest)))) (assembled s hs ls ms f ++ rest)
    unfolding links_at
    from-links = right (head_bytes hs) _ heads_at links_at (rw (heads-size hs z.heads)) from_heads

    from-masks : Stands masks_at (ms ++ (le16 f ++ (spare ++ rest))) (assembled s hs ls ms f ++ rest)
    unfolding masks_at
    from-masks = right (link_bytes ls) _ links_at masks_at (rw (links-size ls z.links)) from-links

    from_start : Stands start_at (le16 f ++ (spare ++ rest)) (assembled s hs ls ms f ++ rest)
    unfolding start_at
    from_start = right ms _ masks_at start_at (rw z.masks) from-masks

    -- what is read
    pub head_read : (h : ℕ) → h < hashes → get_or hs h 0 < 65536 → head_at (assembled s hs ls ms f ++ rest) h ≡ get_or hs h 0
    unfolding head_bytes
    head_read h k b = words-read heads_at hs h (rw z.heads k) b (left (head_bytes hs) _ from_heads)

    link-stands : (l : ℕ) → l < length ls → Stands (link_entry_at l) (link_entry (get_or ls l no_link)) (assembled s hs ls ms f ++ rest)
    unfolding link_bytes padded
    link-stands l h =
        let m : l < length (map link_entry ls) = rw (length-map ls link_entry) h in
        rw (← map_at link_entry no_link ls l h)
        (entry l (map-width link_entry link_size link-width ls) m (left (joined (map link_entry ls)) _ (left (link_bytes ls) _ from-links)))

    pub next-read : (l : ℕ) → l < length ls → (get_or ls l no_link).next < 65536 → next_at (assembled s hs ls ms f ++ rest) l ≡ (get_or ls l no_link).next
    next-read l h b = rw add-zero at (link-read (get_or ls l no_link) 0 (omega arith) b (link-stands l h))

    pub parent-read : (l : ℕ) → l < length ls → (get_or ls l no_link).parent < 65536 → parent_at (assembled s hs ls ms f ++ rest) l ≡ (get_or ls l no_link).parent
    parent-read l h b = link-read (get_or ls l no_link) 1 (omega arith) b (link-stands l h)

    pub fail-read : (l : ℕ) → l < length ls → (get_or ls l no_link).fail < 65536 → fail_at (assembled s hs ls ms f ++ rest) l ≡ (get_or ls l no_link).fail
    fail-read l h b = link-read (get_or ls l no_link) 2 (omega arith) b (link-stands l h)

    pub size-read : (l : ℕ) → l < length ls → (get_or ls l no_link).size < 65536 → size_at (assembled s hs ls ms f ++ rest) l ≡ (get_or ls l no_link).size
    size-read l h b = link-read (get_or ls l no_link) 3 (omega arith) b (link-stands l h)

    pub other-read : (l : ℕ) → l < length ls → (get_or ls l no_link).other < 65536 → other_at (assembled s hs ls ms f ++ rest) l ≡ (get_or ls l no_link).other
    other-read l h b = link-read (get_or ls l no_link) 4 (omega arith) b (link-stands l h)

    pub first_read : (l : ℕ) → l < length ls → (get_or ls l no_link).first < 65536 → first_at (assembled s hs ls ms f ++ rest) l ≡ (get_or ls l no_link).first
    first_read l h b = link-read (get_or ls l no_link) 5 (omega arith) b (link-stands l h)

    pub far-read : (l : ℕ) → l < length ls → (get_or ls l no_link).far < 65536 → far_at (assembled s hs ls ms f ++ rest) l ≡ (get_or ls l no_link).far
    far-read l h b = link-read (get_or ls l no_link) 6 (omega arith) b (link-stands l h)

    pub bits-read : (l : ℕ) → l < length ls → (get_or ls l no_link).bits < 65536 → bits_at (assembled s hs ls ms f ++ rest) l ≡ (get_or ls l no_link).bits
    bits-read l h b = link-read (get_or ls l no_link) 7 (omega arith) b (link-stands l h)

    pub mask-read : (i : ℕ) → i < all_masks → get_or (assembled s hs ls ms f ++ rest) (masks_at + i) 0 ≡ get_or ms i 0
    mask-read i h = read i (rw z.masks h) (left ms _ from-masks)

    pub start-read : f < 65536 → start_of (assembled s hs ls ms f ++ rest) ≡ f
    start-read b = word_read f start_at b (left (le16 f) _ from_start)

    -- what a store gives
    pub head-put : (h v : ℕ) → h < hashes → sets (assembled s hs ls ms f ++ rest) (head_entry_at h) (le16 v) ≡ assembled s (set hs h v) ls ms f ++ rest
    unfolding head_bytes
    head-put h v k =
        let tail = link_bytes ls ++ (ms ++ (le16 f ++ (spare ++ rest))) in
        let m : h < length (map le16 hs) = rw (length-map hs le16, z.heads) k in
        let z' : Sized (set hs h v) ls ms = record { heads = length-set hs h v ∙ z.heads; links = z.links; masks = z.masks } in
        rw (parts hs ls ms f z rest, parts (set hs h v) ls ms f z' rest)
        (past (set_part s) (head_bytes hs ++ tail) heads_at (head_entry_at h) (word_size * h) (le16 v) set-length refl
        ∙ ap (λ (l : List ℕ). set_part s ++ l)
        (sets-whole h (le16 v) tail (map-width le16 word_size (λ v. refl) hs) m refl
        ∙ ap (λ (es : List (List ℕ)). joined es ++ tail) (set-map le16 hs h v)))

    -- a store into an entry of the links
    link-put : (l o v : ℕ) (k : Link) → l < length ls → o + word_size ≤ link_size → sets (link_entry (get_or ls l no_link)) o (le16 v) ≡ link_entry k
        → sets (assembled s hs ls ms f ++ rest) (link_entry_at l + o) (le16 v) ≡ assembled s hs (set ls l k) ms f ++ rest
    unfolding link_bytes
    link-put l o v k h b e =
        let tail = ms ++ (le16 f ++ (spare ++ rest)) in
        let m : l < length (map link_entry ls) = rw (length-map ls link_entry) h in
        let z' : Sized hs (set ls l k) ms = record { heads = z.heads; links = rw (length-set ls l k) z.links; masks = z.masks } in
        rw (parts hs ls ms f z rest, parts hs (set ls l k) ms f z' rest)
        (past (set_part s) (head_bytes hs ++ (link_bytes ls ++ tail)) heads_at (link_entry_at l + o) (word_size * hashes + (link_size * l + o)) (le16 v) set-length (link-place l o)
        ∙ ap (λ (r : List ℕ). set_part s ++ r)
        (past (head_bytes hs) (link_bytes ls ++ tail) (word_size * hashes) (word_size * hashes + (link_size * l + o)) (link_size * l + o) (le16 v) (heads-size hs z.heads) refl
        ∙ ap (λ (r : List ℕ). head_bytes hs ++ r)
        (sets-table (link_size * max_labels) l o (le16 v) tail (map-width link_entry link_size link-width ls) m b
        ∙ ap (λ (es : List (List ℕ)). padded (link_size * max_labels) (joined es) ++ tail)
        (ap (λ (x : List ℕ). set (map link_entry ls) l (sets x o (le16 v))) (map_at link_entry no_link ls l h)
        ∙ ap (λ (x : List ℕ). set (map link_entry ls) l x) e ∙ set-map link_entry ls l k))))

    pub next-put : (l v : ℕ) → l < length ls
        → sets (assembled s hs ls ms f ++ rest) (link_entry_at l) (le16 v) ≡ assembled s hs (set ls l (with_next v (get_or ls l no_link))) ms f ++ rest
    unfolding link_size
    next-put l v h = rw add-zero at (link-put l 0 v (with_next v (get_or ls l no_link)) h (omega arith) refl)

    pub parent-put : (l v : ℕ) → l < length ls
        → sets (assembled s hs ls ms f ++ rest) (link_entry_at l + parent_in) (le16 v) ≡ assembled s hs (set ls l (with_parent v (get_or ls l no_link))) ms f ++ rest
    unfolding link_size
    parent-put l v h = link-put l parent_in v (with_parent v (get_or ls l no_link)) h (omega arith) refl

    pub fail-put : (l v : ℕ) → l < length ls
        → sets (assembled s hs ls ms f ++ rest) (link_entry_at l + fail_in) (le16 v) ≡ assembled s hs (set ls l (with_failure v (get_or ls l no_link))) ms f ++ rest
    unfolding link_size
    fail-put l v h = link-put l fail_in v (with_failure v (get_or ls l no_link)) h (omega arith) refl

    pub size-put : (l v : ℕ) → l < length ls
        → sets (assembled s hs ls ms f ++ rest) (link_entry_at l + size_in) (le16 v) ≡ assembled s hs (set ls l (with_length v (get_or ls l no_link))) ms f ++ rest
    unfolding link_size
    size-put l v h = link-put l size_in v (with_length v (get_or ls l no_link)) h (omega arith) refl

    pub other-put : (l v : ℕ) → l < length ls
        → sets (assembled s hs ls ms f ++ rest) (link_entry_at l + other_in) (le16 v) ≡ assembled s hs (set ls l (with_other v (get_or ls l no_link))) ms f ++ rest
    unfolding link_size
    other-put l v h = link-put l other_in v (with_other v (get_or ls l no_link)) h (omega arith) refl

    pub first-put : (l v : ℕ) → l < length ls
        → sets (assembled s hs ls ms f ++ rest) (link_entry_at l + first_in) (le16 v) ≡ assembled s hs (set ls l (with_first v (get_or ls l no_link))) ms f ++ rest
    unfolding link_size
    first-put l v h = link-put l first_in v (with_first v (get_or ls l no_link)) h (omega arith) refl

    far-put : (l v : ℕ) → l < length ls
        → sets (assembled s hs ls ms f ++ rest) (link_entry_at l + far_in) (le16 v) ≡ assembled s hs (set ls l (with_group (record { far = v; bits = (get_or ls l no_link).bits }) (get_or ls l no_link))) ms f ++ rest
    unfolding link_size
    far-put l v h = link-put l far_in v (with_group (record { far = v; bits = (get_or ls l no_link).bits }) (get_or ls l no_link)) h (omega arith) refl

    bits_put : (l v : ℕ) → l < length ls
        → sets (assembled s hs ls ms f ++ rest) (link_entry_at l + bits_in) (le16 v) ≡ assembled s hs (set ls l (with_group (record { far = (get_or ls l no_link).far; bits = v }) (get_or ls l no_link))) ms f ++ rest
    unfolding link_size
    bits_put l v h = link-put l bits_in v (with_group (record { far = (get_or ls l no_link).far; bits = v }) (get_or ls l no_link)) h (omega arith) refl

    pub mask-put : (i v : ℕ) → i < all_masks → set (assembled s hs ls ms f ++ rest) (masks_at + i) v ≡ assembled s hs ls (set ms i v) f ++ rest
    mask-put i v h =
        let tail = le16 f ++ (spare ++ rest) in
        let z' : Sized hs ls (set ms i v) = record { heads = z.heads; links = z.links; masks = length-set ms i v ∙ z.masks } in
        rw (parts hs ls ms f z rest, parts hs ls (set ms i v) f z' rest)
        (past (set_part s) (head_bytes hs ++ (link_bytes ls ++ (ms ++ tail))) heads_at (masks_at + i) (word_size * hashes + (link_size * max_labels + i)) (v ∷ []) set-length (mask-place i)
        ∙ ap (λ (r : List ℕ). set_part s ++ r)
        (past (head_bytes hs) (link_bytes ls ++ (ms ++ tail)) (word_size * hashes) (word_size * hashes + (link_size * max_labels + i)) (link_size * max_labels + i) (v ∷ []) (heads-size hs z.heads) refl
        ∙ ap (λ (r : List ℕ). head_bytes hs ++ r)
        (past (link_bytes ls) (ms ++ tail) (link_size * max_labels) (link_size * max_labels + i) i (v ∷ []) (links-size ls z.links) refl
        ∙ ap (λ (r : List ℕ). link_bytes ls ++ r) (set-append_left ms tail i v (rw z.masks h)))))

    front-size : length (set_part s ++ (head_bytes hs ++ (link_bytes ls ++ ms))) ≡ start_at
    unfolding start_at masks_at links_at
    front-size =
        omega (
          arith,
          set-length,
          heads-size hs z.heads,
          links-size ls z.links,
          z.masks,
          length-append (set_part s) (head_bytes hs ++ (link_bytes ls ++ ms)),
          length-append (head_bytes hs) (link_bytes ls ++ ms),
          length-append (link_bytes ls) ms,
        )

    pub start-put : (v : ℕ) → sets (assembled s hs ls ms f ++ rest) start_at (le16 v) ≡ assembled s hs ls ms v ++ rest
    start-put v =
        let front = set_part s ++ (head_bytes hs ++ (link_bytes ls ++ ms)) in
        let size : length front ≡ start_at = front-size in
        let p : (g : ℕ) → front ++ (le16 g ++ (spare ++ rest)) ≡ assembled s hs ls ms g ++ rest = λ g. rw (parts hs ls ms g z rest) (simp append_assoc) in
        rw (← p f, ← p v)
        (past front (le16 f ++ (spare ++ rest)) start_at start_at 0 (le16 v) size (sym (add-zero start_at))
        ∙ ap (λ (r : List ℕ). front ++ r) (sets-left (le16 v) (le16 f) (spare ++ rest) 0 (omega arith)))

  pub group-put : (hs : List ℕ) (ls : List Link) (ms : List ℕ) (f : ℕ) → Sized hs ls ms → (rest : List ℕ) (l : ℕ) (g : Group) → l < length ls
      → sets (sets (assembled s hs ls ms f ++ rest) (link_entry_at l + far_in) (le16 g.far)) (link_entry_at l + bits_in) (le16 g.bits) ≡ assembled s hs (set ls l (with_group g (get_or ls l no_link))) ms f ++ rest
  group-put hs ls ms f z rest l g h =
      let x = with_group (record { far = g.far; bits = (get_or ls l no_link).bits }) (get_or ls l no_link) in
      let z' : Sized hs (set ls l x) ms = record { heads = z.heads; links = rw (length-set ls l x) z.links; masks = z.masks } in
      ap (λ (a : List ℕ). sets a (link_entry_at l + bits_in) (le16 g.bits)) (far-put hs ls ms f z rest l g.far h)
      ∙ bits_put hs (set ls l x) ms f z' rest l g.bits (rw (length-set ls l x) h)
      ∙ rw (get_or-set_same ls l x no_link h, set-set ls l x (with_group g (get_or ls l no_link)))

  -- a set's bytes with zeros behind them are such bytes, of zeros
  pub zeros-assembled : (n : ℕ) → n ≤ max_labels
      → set_part s ++ replicate (automaton_size - set_size) 0 ≡ assembled s (replicate hashes 0) (replicate n no_link) (replicate all_masks 0) 0
  unfolding spare
  zeros-assembled n h =
      let d = automaton_size - (start_at + word_size) in
      let z : Sized (replicate hashes 0) (replicate n no_link) (replicate all_masks 0) = record {
        heads = length-replicate hashes 0;
        links = rw (length-replicate n no_link) h;
        masks = length-replicate all_masks 0;
      } in
      sym (
      sym (append-nil (assembled s (replicate hashes 0) (replicate n no_link) (replicate all_masks 0) 0))
      ∙ parts (replicate hashes 0) (replicate n no_link) (replicate all_masks 0) 0 z []
      ∙ ap (λ (l : List ℕ). set_part s ++ l)
      (rw (
        zero-heads,
        zero-links n h,
        append-nil {A = ℕ} (replicate d 0),
        zeros (automaton_size - set_size) (word_size * hashes) (link_size * max_labels + (all_masks + (word_size + d))) total,
        zeros (link_size * max_labels + (all_masks + (word_size + d))) (link_size * max_labels) (all_masks + (word_size + d)) refl,
        zeros (all_masks + (word_size + d)) all_masks (word_size + d) refl,
        zeros (word_size + d) word_size d refl,
      ))
      )
