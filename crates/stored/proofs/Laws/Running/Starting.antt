-- What a start leaves is the fresh run.
use Prim.Native.Nat.{ℕ, suc, ◌+◌, ◌-◌}
use mathlib.Core.Path.{◌≡◌, refl, sym, ◌∙◌, ap, ap₂}
use mathlib.Core.Bool.{Bool, true, false, ◌&&◌, cond, and-false}
use mathlib.Core.List.Memᴰ
use mathlib.Core.List.{List, [], ◌∷◌, ◌++◌, append_assoc, append-nil}
use native.Mathlib.Omega.{arith}
use native.Mathlib.Nat.{add-zero}
use lib.Dec.{ltb, eqb}
use lib.ListN.{length, drop, replicate, length-replicate, replicate-append-replicate}
use lib.Seq.{sets}
use Rattle.text.specs.Names.{max_name}
use Rattle.notation.specs.Sets.{Path, FolderSet}
use Rattle.notation.specs.Form.{paths_of}
use Rattle.text.specs.Bytes.{le16, joined, padded}
use Rattle.notation.specs.Layout.{word_size}
use Rattle.notation.specs.Activity.{active, seen}
use Rattle.notation.proofs.Laws.Fill.Padded.{sets-front, padded-none}
use Rattle.notation.proofs.Laws.Meaning.Innermost.{active-none, seen_none}
use Rattle.model.specs.Words.{document, begins}
use Rattle.model.specs.Prefix.{longest_end, prefix_of}
use Rattle.stored.specs.Automaton.{mask_size, state_among, state_of, start_state, bit_bytes}
use Rattle.model.specs.Calls.{fresh}
use Rattle.stored.specs.Tables.{start_of}
use Rattle.stored.specs.Run.{matches_at, rows_at, name_in, active_in, seen_in, row_size, row_at, run_size, step_bit, match_bit, active_bits, seen_bits, row_of, rows_from, run_with, run_of}
use Rattle.stored.specs.Run as layout
use Rattle.stored.specs.RunCalls.{start_run}
use Rattle.text.proofs.Laws.Tests.{cases}
use Rattle.stored.proofs.Laws.Bytes.Stores.{past, zeros}
use Rattle.stored.proofs.Laws.Running.RunBytes.{Short, row_bytes, zeros_from, run-parts}
use Rattle.stored.proofs.Laws.Bytes.MaskRows.{bits-same, bits_none}
use Rattle.stored.proofs.Laws.Running.Means.{Means}

none-active : (ps : List Path) (i : ℕ) → step_bit (λ p k. active p k []) ps i ≡ false
unfolding step_bit
none-active [] i = refl
none-active (p ∷ ps) i = cases (ltb i (length p)) (λ t. rw (t, active-none p (suc i))) (λ t. rw (t, none-active ps (i - length p)))

none_seen : (ps : List Path) (i : ℕ) → step_bit (λ p k. seen p k []) ps i ≡ false
unfolding step_bit
none_seen [] i = refl
none_seen (p ∷ ps) i = cases (ltb i (length p)) (λ t. rw (t, seen_none p (suc i))) (λ t. rw (t, none_seen ps (i - length p)))

none-matched : (ps : List Path) (place i : ℕ) → match_bit (λ k. false) place ps i ≡ false
unfolding match_bit
none-matched [] place i = refl
none-matched (p ∷ ps) place i = go (ltb i (length p)) (none-matched ps (suc place) (i - length p))
  where
    go : (b : Bool) → match_bit (λ k. false) (suc place) ps (i - length p) ≡ false → cond b (eqb (suc i) (length p) && false) (match_bit (λ k. false) (suc place) ps (i - length p)) ≡ false
    go true h = and-false (eqb (suc i) (length p))
    go false h = h

-- a row of bits of none is zeros
no_bits : (f : ℕ → Bool) (n : ℕ) → ((i : ℕ) → f i ≡ false) → bit_bytes f n ≡ replicate n 0
no_bits f n h = bits-same f (λ i. false) n (λ i k. h i) ∙ bits_none n

-- the state of nothing open
start-state : (s : FolderSet) → state_of s (prefix_of s []) ≡ start_state s
unfolding prefix_of longest_end state_among
start-state s = cases (begins s (document ∷ [])) (λ t. rw t) (λ t. rw t)

gather : (two bits head state tail : List ℕ) → two ++ (bits ++ (((head ++ state) ++ (bits ++ bits)) ++ (tail ++ []))) ≡ (two ++ (bits ++ head)) ++ (state ++ (bits ++ (bits ++ tail)))
gather two bits head state tail = simp (append_assoc, append-nil {A = ℕ})

none-short : Short []
none-short n m = absurd (Memᴰ.not-nil m)

head-zeros : padded max_name [] ≡ replicate max_name 0
head-zeros = padded-none max_name

zero-head : (q : ℕ) → ◌≡◌ {A = List ℕ} (0 ∷ (padded max_name [] ++ le16 q)) (replicate layout.state_in 0 ++ le16 q)
unfolding layout.state_in name_in
zero-head q = rw head-zeros (ap (λ (l : List ℕ). l ++ le16 q) (replicate-append-replicate 1 max_name 0))

first-place : row_at 0 + layout.state_in ≡ word_size + (mask_size + layout.state_in)
unfolding rows_at matches_at
first-place = omega arith

behind : run_size - (row_at 0 + layout.state_in + word_size) ≡ mask_size + (mask_size + (run_size - row_at 1))
unfolding rows_at matches_at row_size seen_in active_in layout.state_in name_in max_name mask_size run_size
behind = omega arith

fits : run_size ≡ row_at 0 + layout.state_in + (word_size + (run_size - (row_at 0 + layout.state_in + word_size)))
unfolding rows_at matches_at layout.state_in name_in max_name mask_size run_size
fits = omega arith

three : (a b c : ℕ) → replicate a 0 ++ (replicate b 0 ++ replicate c 0) ≡ replicate {A = ℕ} (a + (b + c)) 0
three a b c = simp (replicate-append-replicate {A = ℕ})

module _ (s : FolderSet) where
  first-row : row_bytes s [] ≡ (replicate layout.state_in 0 ++ le16 (start_state s)) ++ (replicate mask_size 0 ++ replicate mask_size 0)
  unfolding rows_from row_of joined
  first-row =
      let q = state_of s (prefix_of s []) in
      append-nil (row_of s [] [])
      ∙ ap (λ (l : List ℕ). 0 ∷ l) (sym (append_assoc (padded max_name []) (le16 q) (bit_bytes (active_bits s []) mask_size ++ bit_bytes (seen_bits s []) mask_size)))
      ∙ ap (λ (l : List ℕ). l ++ (bit_bytes (active_bits s []) mask_size ++ bit_bytes (seen_bits s []) mask_size)) (zero-head q)
      ∙ rw (
        start-state s,
        no_bits (active_bits s []) mask_size (none-active (paths_of s)),
        no_bits (seen_bits s []) mask_size (none_seen (paths_of s)),
      )

  fresh-bytes : run_with s [] (λ k. false) ≡ replicate (row_at 0 + layout.state_in) 0 ++ (le16 (start_state s) ++ replicate (run_size - (row_at 0 + layout.state_in + word_size)) 0)
  unfolding zeros_from
  fresh-bytes =
      sym (append-nil (run_with s [] (λ k. false)))
      ∙ run-parts s [] (λ k. false) (omega arith) none-short []
      ∙ rw (no_bits (match_bit (λ k. false) 0 (paths_of s)) mask_size (none-matched (paths_of s) 0), first-row, behind, first-place)
      (gather (replicate word_size 0) (replicate mask_size 0) (replicate layout.state_in 0) (le16 (start_state s)) (replicate (run_size - row_at 1) 0)
      ∙ ap₂ (λ (x y : List ℕ). x ++ (le16 (start_state s) ++ y)) (three word_size mask_size layout.state_in) (three mask_size mask_size (run_size - row_at 1)))

  -- what a start leaves is the fresh run
  pub start-run : (a : List ℕ) → Means s a → (run : List ℕ) → start_run a run ≡ run_of s (fresh s) ++ drop run_size run
  unfolding start_run fresh
  start-run a m run =
      let at = row_at 0 + layout.state_in in
      let k = run_size - (at + word_size) in
      let all : run_size ≡ at + (word_size + k) = fits in
      let stored : sets (replicate run_size 0) at (le16 (start_of a)) ≡ run_with s [] (λ k. false) =
      rw m.tables.start
      (ap (λ (l : List ℕ). sets l at (le16 (start_state s))) (zeros run_size at (word_size + k) all ∙ ap (λ (l : List ℕ). replicate at 0 ++ l) (zeros (word_size + k) word_size k refl))
      ∙ (past (replicate at 0) (replicate word_size 0 ++ replicate k 0) at at 0 (le16 (start_state s)) (length-replicate at 0) (sym (add-zero at))
      ∙ ap (λ (l : List ℕ). replicate at 0 ++ l) (sets-front (replicate word_size 0) (replicate k 0) (le16 (start_state s)) refl)
      ∙ sym fresh-bytes)) in
      ap (λ (l : List ℕ). l ++ drop run_size run) stored
