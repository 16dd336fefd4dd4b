-- From a read set's bytes to its automaton: the passes one after the other.
use Prim.Native.Nat.{ℕ, ◌+◌, ◌-◌, min}
use native.Mathlib.Omega.{arith}
use mathlib.Core.Path.{◌≡◌, sym, ap, ◌∙◌}
use mathlib.Core.List.{List, ◌++◌, append_assoc}
use lib.ListN.{length, drop, replicate, length-replicate}
use lib.Seq.{take_at, drop-append-add, drop-drop}
use Rattle.notation.specs.Limits.{max_labels}
use Rattle.notation.specs.Sets.{FolderSet}
use Rattle.notation.specs.Print.{print}
use Rattle.notation.specs.Accepted.{Accepted}
use Rattle.notation.specs.Layout.{set_size, set_part, tables_of}
use Rattle.notation.specs.Reads.{label_count}
use Rattle.notation.proofs.Laws.Stored.Sections.{layout-length}
use Rattle.notation.proofs.Laws.Refused.Fitting.{Fitting, roomy}
use Rattle.notation.proofs.Laws.Refused.AcceptedSet.{accepted-fits}
use Rattle.stored.specs.Automaton.{hashes, automaton_size, all_labels, heads, Link, assembled, automaton_of, all_masks}
use Rattle.stored.specs.Usable.{Searchable}
use Rattle.stored.specs.Code.Chains.{Linkable}
use Rattle.stored.specs.Code.Fails.{Growing}
use Rattle.stored.specs.Code.Masks.{with_masks, with_start}
use Rattle.stored.specs.Code.Passes.{ReadIn, cleared, with_chains, with_groups, with_parents, with_fails, made}
use Rattle.stored.proofs.Laws.Tables.Assembled.{no_link, zeros-assembled}
use Rattle.stored.proofs.Laws.Building.Accepting.{accepted-full}
use Rattle.stored.proofs.Laws.Building.Chains.{chain_links}
use Rattle.stored.proofs.Laws.Building.Groups.{group_links}
use Rattle.stored.proofs.Laws.Tables.Linking.{word_links, word-links, chains-linkable, chains-made, groups-made, groups-searchable, parents-made}
use Rattle.stored.proofs.Laws.Building.Staged.{Short, stage-grows}
use Rattle.stored.proofs.Laws.Building.Fails.{fails-made}
use Rattle.stored.proofs.Laws.Building.Finished.{masks-and-start}
use Rattle.stored.proofs.Laws.Shapes.BuiltShape.{words-short}

size-split : automaton_size ≡ set_size + (automaton_size - set_size)
unfolding automaton_size set_size
size-split = omega arith

module _ {text : List ℕ} (s : FolderSet) (acc : Accepted text s) (rest : List ℕ) where
  fit : Fitting s
  fit = accepted-fits text s acc

  short : Short s
  short = words-short s acc.paths

  -- no masks yet, and what stands behind the automaton
  zeros : List ℕ
  zeros = replicate all_masks 0

  behind : List ℕ
  behind = drop (automaton_size - set_size) rest

  zeros-length : length zeros ≡ all_masks
  unfolding zeros
  zeros-length = length-replicate all_masks 0

  stage : List Link → List ℕ
  stage ls = assembled s (heads (all_labels s)) ls zeros 0 ++ behind

  part_length : length (set_part s) ≡ set_size
  unfolding set_part
  part_length = layout-length (print s) (tables_of s) (roomy s fit)

  after : drop automaton_size (set_part s ++ rest) ≡ behind
  unfolding behind
  after =
      ap (λ (n : ℕ). drop n (set_part s ++ rest)) (size-split ∙ ap (λ (n : ℕ). n + (automaton_size - set_size)) (sym part_length))
      ∙ drop-append-add (set_part s) rest (automaton_size - set_size)

  from-zeros : cleared (set_part s ++ rest) ≡ assembled s (replicate hashes 0) (replicate (length (all_labels s)) no_link) zeros 0 ++ behind
  unfolding cleared zeros
  from-zeros =
      rw (take_at (set_part s) rest set_size part_length, after)
      (sym (append_assoc (set_part s) (replicate (automaton_size - set_size) 0) behind)
      ∙ ap (λ (l : List ℕ). l ++ behind) (zeros-assembled s fit (length (all_labels s)) fit.labels))

  chains-stage : with_chains (cleared (set_part s ++ rest)) ≡ stage (chain_links s)
  unfolding stage
  chains-stage = ap with_chains from-zeros ∙ chains-made s fit zeros 0 behind zeros-length

  groups-stage : with_groups (with_chains (cleared (set_part s ++ rest))) ≡ stage (group_links s)
  unfolding stage
  groups-stage = ap with_groups chains-stage ∙ groups-made s fit zeros 0 behind zeros-length

  parents-stage : with_parents (with_groups (with_chains (cleared (set_part s ++ rest)))) ≡ stage (word_links s)
  unfolding stage
  parents-stage = ap with_parents groups-stage ∙ parents-made s fit zeros 0 behind zeros-length (accepted-full text s acc)

  -- what the passes ask for
  pub cleared-ready : Linkable (min (label_count (cleared (set_part s ++ rest))) max_labels) (cleared (set_part s ++ rest))
  cleared-ready = rw from-zeros (chains-linkable s fit zeros 0 behind zeros-length)

  pub groups-ready : Searchable (with_groups (with_chains (cleared (set_part s ++ rest))))
  unfolding stage
  groups-ready = rw groups-stage (groups-searchable s fit zeros 0 behind zeros-length)

  pub parents-ready : Growing (with_parents (with_groups (with_chains (cleared (set_part s ++ rest)))))
  unfolding stage
  parents-ready = rw parents-stage (stage-grows s fit short zeros 0 zeros-length behind (word_links s) (word-links s))

  -- and what they make
  pub made-is : made (set_part s ++ rest) ≡ automaton_of s ++ drop automaton_size (set_part s ++ rest)
  unfolding made stage zeros
  made-is =
      ap (λ (a : List ℕ). with_start (with_masks (with_fails a))) parents-stage
      ∙ ap (λ (a : List ℕ). with_start (with_masks a)) (fails-made s fit short zeros 0 zeros-length behind (word_links s) (word-links s))
      ∙ masks-and-start s fit acc.well behind
      ∙ ap (λ (l : List ℕ). automaton_of s ++ l) (sym after)

-- bytes behind the automaton stay
pub behind-same : {text : List ℕ} (s : FolderSet) (acc : Accepted text s) (before : List ℕ) → drop automaton_size (set_part s ++ drop set_size before) ≡ drop automaton_size before
unfolding behind
behind-same s acc before =
    after s acc (drop set_size before)
    ∙ drop-drop (automaton_size - set_size) set_size before
    ∙ ap (λ (n : ℕ). drop n before) (sym size-split)

-- the same, of bytes that an accepted set has been read into
module _ (a : List ℕ) (r : ReadIn a) where
  pub cleared-read-in : (b : List ℕ) → b ≡ cleared a → Linkable (min (label_count b) max_labels) b
  cleared-read-in b p = rw (p, r.bytes) (cleared-ready r.set r.accepted r.rest)

  pub groups-read-in : (b d g : List ℕ) → b ≡ cleared a → d ≡ with_chains b → g ≡ with_groups d → Searchable g
  groups-read-in b d g p q o = rw (o, q, p, r.bytes) (groups-ready r.set r.accepted r.rest)

  pub parents-read-in : (b d g e : List ℕ) → b ≡ cleared a → d ≡ with_chains b → g ≡ with_groups d → e ≡ with_parents g → Growing e
  parents-read-in b d g e p q o t = rw (t, o, q, p, r.bytes) (parents-ready r.set r.accepted r.rest)
