-- Numbers of two bytes are read as they were stored; so are the counts and the text of a read set.
use Prim.Native.Nat.{ℕ, ◌+◌, ◌*◌, ◌/◌, ◌%◌, ◌≤◌, ◌<◌, suc-le-suc, zero-le}
use mathlib.Core.Path.{◌≡◌, refl, sym, ap, ◌∙◌}
use mathlib.Core.List.{List, [], ◌∷◌, ◌++◌, map}
use native.Mathlib.Nat.{add-zero}
use native.Mathlib.Omega.{arith}
use lib.ListN.{length, get_or, take, drop, length-map}
use Rattle.notation.specs.Limits.{max_set_bytes}
use Rattle.notation.specs.Sets.{FolderSet}
use Rattle.notation.specs.Print.{print}
use Rattle.notation.specs.Layout.{Tables, word_size, text_len_at, text_at, layout, tables_of, set_part}
use Rattle.text.specs.Bytes.{le16, joined}
use Rattle.notation.specs.Reads.{word16}
use Rattle.notation.proofs.Laws.Stored.Stands.{Stands, read, slice}
use Rattle.notation.proofs.Laws.Stored.Entries.{entry, map-width, map_at}
use Rattle.notation.proofs.Laws.Stored.Sections.{counts-stand, text-stands}

pub word_read : {part : List ℕ} (v at : ℕ) → v < 65536 → Stands at (le16 v) part → word16 part at ≡ v
unfolding word16
word_read {part} v at h s =
    let low : get_or part (at + 0) 0 ≡ v % 256 = read 0 (omega arith) s in
    let low' : get_or part at 0 ≡ v % 256 = rw add-zero at low in
    let high : get_or part (at + 1) 0 ≡ v / 256 % 256 = read 1 (omega arith) s in
    omega arith

-- numbers one after the other
abbrev pub words : List ℕ → List ℕ
words vs = joined (map le16 vs)

pub words-read : {part : List ℕ} (place : ℕ) (vs : List ℕ) (i : ℕ) → i < length vs → get_or vs i 0 < 65536 → Stands place (words vs) part → word16 part (place + word_size * i) ≡ get_or vs i 0
words-read place vs i h k s =
    let m : i < length (map le16 vs) = rw (length-map vs le16) h in
    word_read (get_or vs i 0) (place + word_size * i) k (rw (← map_at le16 0 vs i h) (entry i (map-width le16 word_size (λ v. refl) vs) m s))

pub words-head : {part : List ℕ} (place v : ℕ) (vs : List ℕ) → v < 65536 → Stands place (words (v ∷ vs)) part → word16 part place ≡ v
words-head place v vs k s = rw add-zero at (words-read place (v ∷ vs) 0 (suc-le-suc zero-le) k s)

-- the stored length and text say the text
stored-text : (text : List ℕ) (t : Tables) → length text < 65536 → take (word16 (layout text t ++ []) text_len_at) (drop text_at (layout text t ++ [])) ≡ text
unfolding joined
stored-text text t h =
    rw (words-head text_len_at (length text) (length t.folders ∷ length t.paths ∷ length t.steps ∷ length t.labels ∷ []) h (counts-stand text t []))
    (slice (text-stands text t []))

-- equal tables only from equal texts
pub same_text : (s t : FolderSet) → length (print s) ≤ max_set_bytes → length (print t) ≤ max_set_bytes → set_part s ≡ set_part t → print s ≡ print t
unfolding set_part max_set_bytes
same_text s t hs ht e =
    sym (stored-text (print s) (tables_of s) (omega arith))
    ∙ ap (λ (l : List ℕ). take (word16 (l ++ []) text_len_at) (drop text_at (l ++ []))) e
    ∙ stored-text (print t) (tables_of t) (omega arith)
