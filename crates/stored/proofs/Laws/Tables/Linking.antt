-- The passes of the chains and of the parents, one after the other, from links of zeros: what they leave are the set's links but for the
-- failure links, which are 0.
use Prim.Native.Nat.{ℕ, ◌<◌, min}
use native.Mathlib.Omega.{arith}
use mathlib.Core.Path.{◌≡◌, ap, ◌∙◌}
use mathlib.Core.Logic.{inl}
use mathlib.Core.Bool.{true}
use mathlib.Core.List.{List, [], ◌++◌}
use lib.ListN.{length, get_or, replicate}
use Rattle.notation.specs.Limits.{max_labels}
use Rattle.notation.specs.Sets.{FolderSet}
use Rattle.notation.specs.Form.{paths_of}
use Rattle.text.specs.Lists.{non_empty, every}
use Rattle.notation.specs.Reads.{step_count, label_count}
use Rattle.notation.proofs.Laws.Refused.Fitting.{Fitting}
use Rattle.stored.specs.Automaton.{hashes, all_labels, all_words, heads, marks, Link, link, assembled, all_masks}
use Rattle.stored.specs.Usable.{Searchable}
use Rattle.stored.specs.Code.Chains.{chained, Linkable}
use Rattle.stored.specs.Code.Groups.{grouped_below}
use Rattle.stored.specs.Code.Parents.{parented, before_paths}
use Rattle.stored.proofs.Laws.Bytes.Tabulate.{tabulate-length}
use Rattle.stored.proofs.Laws.Tables.Assembled.{chain_in, group_in, no_link, Sized}
use Rattle.stored.proofs.Laws.Tables.Chained.{chain_at}
use Rattle.stored.proofs.Laws.Tables.Marked.{group_at}
use Rattle.stored.proofs.Laws.Tables.SetReads.{label-count}
use Rattle.stored.proofs.Laws.Tables.States.{words_count}
use Rattle.stored.proofs.Laws.Tables.Linked.{chained-here}
use Rattle.stored.proofs.Laws.Tables.Searched.{chained-searchable}
use Rattle.stored.proofs.Laws.Building.Chains.{chain_links, linkable, chained-is}
use Rattle.stored.proofs.Laws.Building.Groups.{group_links, group-count, group-link, grouped-is}
use Rattle.stored.proofs.Laws.Building.Placed.{flagged, placed, length-placed, placed_at}
use Rattle.stored.proofs.Laws.Building.Parents.{parented-is}
use Rattle.stored.proofs.Laws.Building.Staged.{Links}

-- after the pass of the parents and lengths
unfoldable pub word_links : FolderSet → List Link
word_links s = placed s (all_words s) (group_links s)

module _ (s : FolderSet) where
  group-here : (l : ℕ) → l < length (all_labels s) → chain_in (get_or (group_links s) l no_link) ≡ chain_at (all_labels s) l
  group-here l h = ap chain_in (group-link s l h)

  word_at : (l : ℕ) → l < length (all_labels s)
      → get_or (word_links s) l no_link ≡ flagged s (get_or (all_words s) l []) (link (chain_at (all_labels s) l) (group_at (marks s) l) 0 0 0)
  unfolding word_links
  word_at l h =
      placed_at s (all_words s) (group_links s) l (rw (words_count s) h) (rw (group-count s) h) ∙ ap (flagged s (get_or (all_words s) l [])) (group-link s l h)

  -- the links that the pass of the failure links starts from
  pub word-links : Links s (word_links s)
  unfolding word_links
  word-links = record {
    count = length-placed s (all_words s) (group_links s) ∙ group-count s;
    chain = λ l h. ap chain_in (word_at l h);
    group = λ l h. ap group_in (word_at l h);
    parent = λ l h. ap (λ (k : Link). k.parent) (word_at l h);
    fail = λ l h. inl (ap (λ (k : Link). k.fail) (word_at l h));
    size = λ l h. ap (λ (k : Link). k.size) (word_at l h);
  }

module _ (s : FolderSet) (fit : Fitting s) (ms : List ℕ) (f : ℕ) (rest : List ℕ) (masks : length ms ≡ all_masks) where
  -- no label linked yet
  blank : List ℕ
  blank = assembled s (replicate hashes 0) (replicate (length (all_labels s)) no_link) ms f ++ rest

  -- the count of labels that the code goes by
  counted : min (label_count blank) max_labels ≡ length (all_labels s)
  unfolding blank
  counted = omega (arith, label-count s fit (replicate hashes 0) (replicate (length (all_labels s)) no_link) ms f rest, fit.labels)

  -- the chains
  pub chains-linkable : Linkable (min (label_count (assembled s (replicate hashes 0) (replicate (length (all_labels s)) no_link) ms f ++ rest)) max_labels) (assembled s (replicate hashes 0) (replicate (length (all_labels s)) no_link) ms f ++ rest)
  unfolding blank
  chains-linkable = rw counted (linkable s fit ms f rest masks)

  pub chains-made : chained (min (label_count (assembled s (replicate hashes 0) (replicate (length (all_labels s)) no_link) ms f ++ rest)) max_labels) (assembled s (replicate hashes 0) (replicate (length (all_labels s)) no_link) ms f ++ rest)
      ≡ assembled s (heads (all_labels s)) (chain_links s) ms f ++ rest
  unfolding blank
  chains-made = ap (λ (m : ℕ). chained m blank) counted ∙ chained-is s fit ms f rest masks

  -- the groups
  pub groups-made : grouped_below (min (label_count (assembled s (heads (all_labels s)) (chain_links s) ms f ++ rest)) max_labels) (assembled s (heads (all_labels s)) (chain_links s) ms f ++ rest)
      ≡ assembled s (heads (all_labels s)) (group_links s) ms f ++ rest
  groups-made =
      let a : List ℕ = assembled s (heads (all_labels s)) (chain_links s) ms f ++ rest in
      let n : min (label_count a) max_labels ≡ length (all_labels s) = omega (arith, label-count s fit (heads (all_labels s)) (chain_links s) ms f rest, fit.labels) in
      ap (λ (m : ℕ). grouped_below m a) n ∙ grouped-is s fit ms f rest masks

  -- the tables can then be searched
  pub groups-searchable : Searchable (assembled s (heads (all_labels s)) (group_links s) ms f ++ rest)
  groups-searchable =
      let z : Sized (heads (all_labels s)) (group_links s) ms = record { heads = tabulate-length _ hashes; links = omega (arith, group-count s, fit.labels); masks = masks } in
      chained-searchable s (assembled s (heads (all_labels s)) (group_links s) ms f ++ rest)
      (chained-here s fit (group_links s) ms f z rest (group-count s) (group-here s)) (label-count s fit (heads (all_labels s)) (group_links s) ms f rest)

  -- the parents and lengths
  pub parents-made : every non_empty (paths_of s) ≡ true
      → parented (step_count (assembled s (heads (all_labels s)) (group_links s) ms f ++ rest)) 0 before_paths (assembled s (heads (all_labels s)) (group_links s) ms f ++ rest)
      ≡ assembled s (heads (all_labels s)) (word_links s) ms f ++ rest
  unfolding word_links
  parents-made over_capacity = parented-is s fit (group_links s) ms f rest (group-count s) masks (group-here s) over_capacity
