-- The automaton of a set that fits its limits has the laws of `Compiled`, whatever stands behind it; so for every accepted set.
use Prim.Native.Nat.{ℕ, suc, ◌+◌, ◌*◌, ◌/◌, ◌%◌, ◌≤◌, ◌<◌}
use mathlib.Core.Path.{◌≡◌, refl, sym, ◌∙◌, ap}
use mathlib.Core.Bool.{false}
use mathlib.Core.Logic.{inl, inr}
use mathlib.Core.List.Memᴰ
use mathlib.Core.List.{List, [], ◌∷◌, ◌++◌, Memᴰ}
use native.Mathlib.Omega.{arith}
use lib.ListN.{length, get_or, length-append}
use Rattle.text.specs.Names.{Name}
use Rattle.notation.specs.Limits.{max_paths, max_steps}
use Rattle.notation.specs.Sets.{child, descendant, label, star, step, Path, FolderSet}
use Rattle.notation.specs.Form.{paths_of, steps_of}
use Rattle.notation.specs.Layout.{set_part}
use Rattle.notation.specs.Reads.{label_step}
use Rattle.notation.specs.Accepted.{Accepted}
use Rattle.notation.proofs.Laws.Refused.Fitting.{Fitting}
use Rattle.notation.proofs.Laws.Stored.Reads.{paths-read, steps-read, labels-read}
use Rattle.notation.proofs.Laws.Refused.AcceptedSet.{accepted-fits}
use Rattle.model.specs.Words.{document, name, Word, before, label_words, begins}
use Rattle.model.specs.Prefix.{IsPrefix, failure}
use Rattle.model.specs.Walk.{followed_by}
use Rattle.model.specs.Calls.{fresh}
use Rattle.stored.specs.Automaton.{hashes, mask_size, masks_at, all_steps, all_labels, all_words, state_of, heads, head_of, marks, takes, links, roles, role_at, masks, bit_bytes, byte_of, start_state, automaton_of, mask_test, mask_count, all_masks, Link}
use Rattle.stored.specs.Tables.{start_of, size_at, far_at, bits_at, size_of}
use Rattle.stored.specs.Marked.{marked}
use Rattle.stored.specs.Bits.{bit_of, bit_in}
use Rattle.stored.specs.Compiled.{Compiled}
use Rattle.text.proofs.Laws.Tests.{cases}
use Rattle.model.proofs.Laws.Keywords.Prefix.{longest-end}
use Rattle.model.proofs.Laws.Keywords.Labels.{LabelWord}
use Rattle.stored.proofs.Laws.Bytes.Tabulate.{tabulate-length}
use Rattle.stored.proofs.Laws.Bytes.Bits.{bit-small, bits-bit}
use Rattle.stored.proofs.Laws.Tables.States.{words_count, among-label, at-among, state-empty, state-root, StateKind, of_empty, of_root, of_label, state-kind, state-one, state-none, state-within}
use Rattle.stored.proofs.Laws.Tables.Assembled.{Sized, chain_in, no_link, after-set, fail-read, size-read, far-read, bits-read, mask-read, start-read}
use Rattle.stored.proofs.Laws.Tables.Goto.{Linked, goto-is}
use Rattle.stored.proofs.Laws.Tables.Links.{marks-count, links-length, links-at}
use Rattle.stored.proofs.Laws.Tables.Linked.{small, linked-here}
use Rattle.stored.proofs.Laws.Tables.Walked.{FailAt, fail-word, walk-over}
use Rattle.stored.proofs.Laws.Bytes.MaskRows.{place, role_bits, all-bits, masks-are}
use Rattle.stored.proofs.Laws.Building.Masked.{bit_in-is, byte-in, all-roles-length, all_small}
use Rattle.stored.proofs.Laws.Tables.LookedUp.{first-of}
use Rattle.stored.proofs.Laws.Tables.Marked.{no_mark, group_at, Grouped, marks-rise, marks-names, label-mark, marked-first}
use Rattle.stored.proofs.Laws.Tables.Searched.{behind-within}
use Rattle.stored.proofs.Laws.Tables.SetReads.{LabelStep, label-owner}
use Rattle.stored.proofs.Laws.Building.Groups.{far-behind, bits_small}
use Rattle.stored.proofs.Laws.Building.Placed.{before-short}

-- a label's word has at most its path's steps and `#`
pub word-short : (p : Path) (w u : Word) → Memᴰ u (label_words w p) → length u ≤ length w + length p
unfolding label_words
word-short [] w u m = absurd (Memᴰ.not-nil m)
word-short (step child (label n) ∷ p) w u m =
    elim (Memᴰ.cases_cons m) [
      | inl e ↦ omega (arith, ap length e, length-append w (name n ∷ []))
      | inr t ↦ omega (arith, word-short p (followed_by w n) u t, length-append w (name n ∷ []))
    ]
word-short (step child star ∷ p) w u m = omega (arith, word-short p [] u m)
word-short (step descendant (label n) ∷ p) w u m =
    elim (Memᴰ.cases_cons m) [ inl e ↦ omega (arith, ap length e) | inr t ↦ omega (arith, word-short p (name n ∷ []) u t) ]
word-short (step descendant star ∷ p) w u m = omega (arith, word-short p [] u m)

pub label-short : (s : FolderSet) (u : Word) (l : LabelWord s u) → length u ≤ suc (length l.path)
label-short s u l = omega (arith, word-short l.path (before l.path) u l.at_label, before-short l.path)

path-short : (ps : List Path) {p : Path} → Memᴰ p ps → length p ≤ length (steps_of ps)
unfolding steps_of
path-short [] m = absurd (Memᴰ.not-nil m)
path-short (q ∷ ps) {p} m =
    elim (Memᴰ.cases_cons m) [
      | inl e ↦ omega (arith, ap length e, length-append q (steps_of ps))
      | inr t ↦ omega (arith, path-short ps t, length-append q (steps_of ps))
    ]

pub failure-prefix : (s : FolderSet) (w : Word) → IsPrefix s (failure s w)
unfolding failure
failure-prefix s w = (longest-end s _).starts

-- a fresh run's state
begin-state : (s : FolderSet) → start_state s ≡ state_of s (fresh s).current
unfolding fresh
begin-state s = cases (begins s (document ∷ [])) (λ h. rw h (sym (state-root s (document ∷ []) refl))) (λ h. rw h (sym (state-empty s [] refl)))

byte-place : (m i : ℕ) → masks_at + mask_size * m + i / 8 ≡ masks_at + place m i / 8
unfolding mask_size
byte-place m i = omega arith

bit-place : (m i : ℕ) → i % 8 ≡ place m i % 8
unfolding mask_size
bit-place m i = omega arith

module _ (s : FolderSet) (fit : Fitting s) (rest : List ℕ) where
  few-roles : length (roles s) ≤ 8 * mask_size
  few-roles = omega (arith, all-roles-length (paths_of s), fit.steps, all_small)

  pub automaton-sized : Sized (heads (all_labels s)) (links s) (masks s)
  automaton-sized = record {
    heads = tabulate-length (head_of (all_labels s)) hashes;
    links = omega (arith, links-length s, fit.labels);
    masks = ap length (sym (masks-are s few-roles)) ∙ tabulate-length (byte_of (role_bits 0 (roles s) (λ k. false))) all_masks;
  }

  pub automaton-linked : Linked s (automaton_of s ++ rest)
  unfolding automaton_of
  automaton-linked = linked-here s fit (links s) (masks s) (start_state s) automaton-sized rest (links-length s) (λ l h. ap chain_in (links-at s l h)) (λ l h. ap (λ (k : Link). k.parent) (links-at s l h))

  fails : (l : ℕ) → l < length (all_labels s) → FailAt s (automaton_of s ++ rest) l
  unfolding automaton_of
  fails l h =
      let e : (get_or (links s) l no_link).fail ≡ state_of s (failure s (get_or (all_words s) l [])) = ap (λ (k : Link). k.fail) (links-at s l h) in
      fail-read s fit (heads (all_labels s)) (links s) (masks s) (start_state s) automaton-sized rest l (omega (arith, links-length s))
      (rw e (small (length (all_labels s)) _ fit.labels (state-within s _ (failure-prefix s (get_or (all_words s) l [])))))
      ∙ e

  short : (l : ℕ) → l < length (all_labels s) → length (get_or (all_words s) l []) < 65536
  unfolding max_paths max_steps
  short l h =
      let w = among-label s (at-among (all_words s) [] l (omega (arith, words_count s))) in
      omega (arith, label-short s (get_or (all_words s) l []) w, path-short (paths_of s) w.of_set, fit.steps)

  sizes : (l : ℕ) → l < length (all_labels s) → size_at (automaton_of s ++ rest) l ≡ length (get_or (all_words s) l [])
  unfolding automaton_of
  sizes l h =
      let e : (get_or (links s) l no_link).size ≡ length (get_or (all_words s) l []) = ap (λ (k : Link). k.size) (links-at s l h) in
      size-read s fit (heads (all_labels s)) (links s) (masks s) (start_state s) automaton-sized rest l (omega (arith, links-length s)) (rw e (short l h)) ∙ e

  size_word : (w : Word) → IsPrefix s w → size_of (automaton_of s ++ rest) (state_of s w) ≡ length w
  unfolding size_of
  size_word w p = go (state-kind s w p)
    where
      go : StateKind s w → size_of (automaton_of s ++ rest) (state_of s w) ≡ length w
      go (of_empty e i) = rw i (sym (ap length e))
      go (of_root e i) = rw i (sym (ap length e))
      go (of_label x) = rw x.is (sizes x.index x.below ∙ ap length x.word)

  -- the set's own bytes
  set_first : (more : List ℕ) × (automaton_of s ++ rest ≡ set_part s ++ more)
  unfolding automaton_of
  set_first = after-set s fit (heads (all_labels s)) (links s) (masks s) (start_state s) rest

  owner_here : (l : ℕ) → l < length (all_labels s) → LabelStep s l (label_step (automaton_of s ++ rest) l)
  unfolding automaton_of
  owner_here = label-owner s fit (heads (all_labels s)) (links s) (masks s) (start_state s) rest

  pub automaton-grouped : Grouped (marks s) (automaton_of s ++ rest)
  unfolding automaton_of
  automaton-grouped = record { far = far; bits = bits }
    where
      far : (l : ℕ) → l < length (marks s) → far_at (automaton_of s ++ rest) l ≡ (group_at (marks s) l).far
      far l h =
          let i : l < length (all_labels s) = rw (marks-count s) at h in
          let e : (get_or (links s) l no_link).far ≡ (group_at (marks s) l).far = ap (λ (k : Link). k.far) (links-at s l i) in
          far-read s fit (heads (all_labels s)) (links s) (masks s) (start_state s) automaton-sized rest l (rw (links-length s) i)
          (rw e (small (length (all_labels s)) _ fit.labels (omega (arith, behind-within (all_labels s) l _ i (far-behind s fit l i))))) ∙ e

      bits : (l : ℕ) → l < length (marks s) → bits_at (automaton_of s ++ rest) l ≡ (group_at (marks s) l).bits
      bits l h =
          let i : l < length (all_labels s) = rw (marks-count s) at h in
          let o = owner_here l i in
          let e : (get_or (links s) l no_link).bits ≡ (group_at (marks s) l).bits = ap (λ (k : Link). k.bits) (links-at s l i) in
          let b : (get_or (marks s) l no_mark).step < length (all_steps s) = rw (label-mark s l _ o) o.below in
          bits-read s fit (heads (all_labels s)) (links s) (masks s) (start_state s) automaton-sized rest l (rw (links-length s) i) (rw e (bits_small s fit l i b)) ∙ e

  marked-here : (e : Name) (i : ℕ) → marked (automaton_of s ++ rest) e i ≡ takes e (marks s) i
  marked-here e i =
      rw (first-of s (automaton_of s ++ rest) automaton-linked.chained e, ← marks-names 0 (all_steps s))
      (marked-first (marks s) (automaton_of s ++ rest) automaton-grouped (marks-rise 0 (all_steps s)) (rw (marks-count s) fit.labels) e i)

  mask-bit : (m : ℕ) → m < mask_count → (i : ℕ) → i < 8 * mask_size → bit_in (automaton_of s ++ rest) (masks_at + mask_size * m) i ≡ role_at (mask_test m) (roles s) i
  unfolding automaton_of
  mask-bit m k i h =
      let j : place m i / 8 < all_masks = byte-in m i k h in
      rw (byte-place m i)
      (ap (λ (x : ℕ). bit_of x (i % 8))
      (mask-read s fit (heads (all_labels s)) (links s) (masks s) (start_state s) automaton-sized rest (place m i / 8) j
      ∙ ap (λ (l : List ℕ). get_or l (place m i / 8) 0) (sym (masks-are s few-roles)))
      ∙ ap (λ (x : ℕ). bit_of (get_or (bit_bytes (role_bits 0 (roles s) (λ q. false)) all_masks) (place m i / 8) 0) x) (bit-place m i)
      ∙ bits-bit (role_bits 0 (roles s) (λ q. false)) all_masks (place m i) (bit_in-is m i k h)
      ∙ all-bits m k i h (roles s) few-roles)

  start-here : start_of (automaton_of s ++ rest) ≡ start_state s
  unfolding automaton_of
  start-here = start-read s fit (heads (all_labels s)) (links s) (masks s) (start_state s) automaton-sized rest (omega (arith, bit-small (begins s (document ∷ []))))

  pub compiled-fitting : Compiled s (automaton_of s ++ rest)
  compiled-fitting =
      let x = set_first in
      record {
        paths = rw x.1 (paths-read s fit x.0);
        steps = rw x.1 (steps-read s fit x.0);
        labels = rw x.1 (labels-read s fit x.0);
        goes = λ w p e h. goto-is s (automaton_of s ++ rest) automaton-linked w p e;
        stops = λ w p e h. goto-is s (automaton_of s ++ rest) automaton-linked w p e ∙ state-none s w e h;
        one = state-one s;
        none = state-empty s [] refl;
        within = λ w p. rw (x.1, labels-read s fit x.0) (state-within s w p);
        fail = λ w p. fail-word s (automaton_of s ++ rest) w p (λ l h b. fails l h);
        size = size_word;
        walks = λ w p e. walk-over s (automaton_of s ++ rest) automaton-linked e w p (λ l h b. fails l h) (size_word w p);
        marked = marked-here;
        masks = mask-bit;
        start = start-here;
        begin = begin-state s;
      }

-- every accepted set's automaton
pub compiled : (text : List ℕ) (s : FolderSet) → Accepted text s → (rest : List ℕ) → Compiled s (automaton_of s ++ rest)
compiled text s a rest = compiled-fitting s (accepted-fits text s a) rest
