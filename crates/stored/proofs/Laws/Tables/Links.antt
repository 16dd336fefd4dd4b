-- The links of a set, by their place.
use Prim.Native.Nat.{ℕ, zero, suc, ◌<◌}
use mathlib.Core.Path.{◌≡◌, refl, sym, ◌∙◌, ap, ap₂}
use mathlib.Core.List.{List, [], ◌∷◌}
use native.Mathlib.Omega.{arith}
use lib.ListN.{length, get_or, length-map}
use Rattle.notation.specs.Sets.{FolderSet}
use Rattle.model.specs.Words.{Word}
use Rattle.model.specs.Prefix.{failure}
use Rattle.stored.specs.Automaton.{all_steps, all_labels, all_words, state_of, shortened, Chain, chains, Mark, marks, Group, groups, Link, link, links_of, links}
use Rattle.stored.proofs.Laws.Tables.Assembled.{no_group, no_link}
use Rattle.stored.proofs.Laws.Tables.Chained.{no_chain, chain_at, chain-at, chains-length}
use Rattle.stored.proofs.Laws.Tables.Marked.{group_at, groups-at, groups-length, marks-names}
use Rattle.stored.proofs.Laws.Tables.States.{words_count}

of_length : (s : FolderSet) (cs : List Chain) (gs : List Group) (words : List Word) → length cs ≡ length gs → length cs ≡ length words → length (links_of s cs gs words) ≡ length cs
unfolding links_of
of_length s [] gs words g h = refl
of_length s (c ∷ cs) [] words g h = absurd (omega arith)
of_length s (c ∷ cs) (x ∷ gs) [] g h = absurd (omega arith)
of_length s (c ∷ cs) (x ∷ gs) (w ∷ words) g h = ap suc (of_length s cs gs words (omega arith) (omega arith))

-- a link with a word's numbers
abbrev link_of : FolderSet → Word → Chain → Group → Link
link_of s w c g = link c g (state_of s (shortened w)) (state_of s (failure s w)) (length w)

of_at : (s : FolderSet) (cs : List Chain) (gs : List Group) (words : List Word) (l : ℕ) → length cs ≡ length gs → length cs ≡ length words → l < length cs
    → get_or (links_of s cs gs words) l no_link ≡ link_of s (get_or words l []) (get_or cs l no_chain) (get_or gs l no_group)
unfolding links_of
of_at s [] gs words l g e h = absurd (omega arith)
of_at s (c ∷ cs) [] words l g e h = absurd (omega arith)
of_at s (c ∷ cs) (x ∷ gs) [] l g e h = absurd (omega arith)
of_at s (c ∷ cs) (x ∷ gs) (w ∷ words) zero g e h = refl
of_at s (c ∷ cs) (x ∷ gs) (w ∷ words) (suc l) g e h = of_at s cs gs words l (omega arith) (omega arith) (omega arith)

module _ (s : FolderSet) where
  pub marks-count : length (marks s) ≡ length (all_labels s)
  marks-count = sym (length-map (marks s) (λ (m : Mark). m.name)) ∙ ap length (marks-names 0 (all_steps s))

  chains-count : length (chains (all_labels s)) ≡ length (all_labels s)
  chains-count = chains-length (all_labels s) 0 (all_labels s)

  pub as-groups : length (chains (all_labels s)) ≡ length (groups (marks s))
  as-groups = chains-count ∙ sym (groups-length 0 (marks s) ∙ marks-count)

  as-words : length (chains (all_labels s)) ≡ length (all_words s)
  as-words = chains-count ∙ sym (words_count s)

  pub links-length : length (links s) ≡ length (all_labels s)
  links-length = of_length s (chains (all_labels s)) (groups (marks s)) (all_words s) as-groups as-words ∙ chains-count

  pub links-at : (l : ℕ) → l < length (all_labels s) → get_or (links s) l no_link ≡ link_of s (get_or (all_words s) l []) (chain_at (all_labels s) l) (group_at (marks s) l)
  links-at l h =
      of_at s (chains (all_labels s)) (groups (marks s)) (all_words s) l as-groups as-words (rw chains-count h)
      ∙ ap₂ (link_of s (get_or (all_words s) l [])) (chain-at (all_labels s) l h) (groups-at (marks s) l (rw marks-count h))
