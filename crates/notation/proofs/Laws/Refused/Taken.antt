-- What taking a whole text comes to: its refusal, and, of an accepted one, the bytes of its set.
use Prim.Native.Nat.{ℕ, ◌+◌, ◌-◌, ◌≤◌, min}
use native.Mathlib.Omega.{arith}
use native.Mathlib.Nat.{zero-add}
use mathlib.Core.Path.{◌≡◌, sym, ap, ◌∙◌}
use mathlib.Core.List.{List, [], ◌++◌, append_assoc}
use borrow.Author.Tests.{ltb-false}
use lib.ListN.{length, drop, replicate, length-append, length-replicate}
use lib.Seq.{sets, sets-eq, drop-drop}
use borrow.Rule.Slice.PartMut.{put_mid}
use Rattle.std.specs.Prelude.{Result, Ok, Err}
use Rattle.text.specs.declared.refusals.Refusal.{Refusal}
use Rattle.text.specs.Bytes.{le16}
use Rattle.text.specs.Read.{fail, got}
use Rattle.text.proofs.Laws.Tests.{cases}
use Rattle.notation.specs.Limits.{max_set_bytes}
use Rattle.notation.specs.Sets.{FolderSet}
use Rattle.notation.specs.Print.{header, print}
use Rattle.notation.specs.Form.{paths_of, steps_of, labels_of, over_bytes, over_limits}
use Rattle.notation.specs.Accepted.{Accepted}
use Rattle.notation.specs.Layout.{text_at, set_size, set_part}
use Rattle.notation.specs.Code.Reader.{read_set}
use Rattle.notation.specs.Code.Taking.{nothing, State, state, moved, take_set, SetTaken, tally_refusal, read_refusal, text_refusal, answered}
use Rattle.notation.specs.declared.tally.Tally.{Tally}
use Rattle.notation.proofs.Laws.Reading.Folders.{set_back}
use Rattle.notation.proofs.Laws.Taking.Grown.{folders-grown}
use Rattle.notation.proofs.Laws.Taking.FirstFault.{set-fault}
use Rattle.notation.proofs.Laws.Fill.Filled.{set-filled, set-counted}
use Rattle.notation.proofs.Laws.Refused.AcceptedSet.{accepted-fits}

set-verdict : (s : FolderSet) (part : List ℕ) (r : List ℕ) → tally_refusal (take_set s (state nothing part)).tally ≡ read_refusal (got s r)
unfolding take_set moved over_limits
set-verdict s part r =
    let begun = moved (length header) (state nothing part) in
    let g = folders-grown s begun in
    rw (set-fault s begun, g.paths ∙ zero-add (length (paths_of s)), g.labels ∙ zero-add (length (labels_of (steps_of (paths_of s)))))

pub taken_verdict : (text part : List ℕ) (t : Tally) (after : List ℕ) → SetTaken text part t after → tally_refusal t ≡ read_refusal (read_set text)
taken_verdict text part t after k =
    ap (λ (s : State). tally_refusal s.tally) k.taken ∙ set-verdict k.set part k.rest ∙ ap read_refusal (sym k.was)

-- an accepted text is within the limit of its bytes
pub short_text : (text : List ℕ) → Ok tt ≡ answered (text_refusal text) → length text ≤ max_set_bytes
unfolding text_refusal
short_text text z = cases (over_bytes text) (λ t. absurd (none-err (rw t at z))) (λ f. ltb-false max_set_bytes (length text) f)
  where
    none-err : {r : Refusal} → ◌≡◌ {A = Result (Unit {0}) Refusal} (Ok tt) (Err r) → ⊥
    none-err e = let n : ◌≡◌ {A = ℕ} 0 1 = cc in omega arith

-- a buffer that has room is cleared, and the text copied into it
pub cleared-copied : (text part copied : List ℕ) → set_size ≤ length part → length text ≤ max_set_bytes → copied ≡ text
    → put_mid text_at (text_at + length text - text_at) (replicate (min set_size (length part)) 0 ++ drop set_size part) copied ≡ sets (replicate set_size 0 ++ drop set_size part) text_at text
unfolding set_size max_set_bytes text_at
cleared-copied text part copied room few same =
    let all : min set_size (length part) ≡ set_size = omega arith in
    let size : text_at + length text - text_at ≡ length text = omega arith in
    let whole : List ℕ = replicate set_size 0 ++ drop set_size part in
    let fits : text_at + length text ≤ length whole = omega (arith, length-append (replicate set_size 0) (drop set_size part), length-replicate {A = ℕ} set_size 0) in
    rw (all, size, same, drop-drop (length text) text_at whole, sets-eq text whole text_at fits, append_assoc)

-- and is laid out
module _ (text rest : List ℕ) (s : FolderSet) (a : Accepted text s) where
  abbrev cleared : List ℕ
  cleared = sets (replicate set_size 0 ++ rest) text_at text

  reads : read_set text ≡ got s []
  reads = ap read_set (sym a.prints) ∙ set_back s a.well

  pub unread : read_set text ≡ fail → ⊥
  unread e = let z : ◌≡◌ {A = ℕ} 0 1 = let n = sym reads ∙ e in cc in omega arith

  pub laid_out : (t : Tally) (after : List ℕ) → SetTaken text cleared t after
      → sets after 0 (le16 (length text) ++ (le16 t.folders ++ (le16 t.paths ++ (le16 t.steps ++ le16 t.labels)))) ≡ set_part s ++ rest
  laid_out t after k =
      let one : k.set ≡ s = read_one (sym k.was ∙ reads) in
      let all : state t after ≡ take_set s (state nothing cleared) = k.taken ∙ ap (λ (x : FolderSet). take_set x (state nothing cleared)) one in
      ap put all ∙ rw (← a.prints) (ap (sets (take_set s (state nothing (sets (replicate set_size 0 ++ rest) text_at (print s)))).part 0) (set-counted s _) ∙ set-filled s rest (accepted-fits text s a))
    where
      put : State → List ℕ
      put x = sets x.part 0 (le16 (length text) ++ (le16 x.tally.folders ++ (le16 x.tally.paths ++ (le16 x.tally.steps ++ le16 x.tally.labels))))

      read_one : {q : FolderSet} {r : List ℕ} → got q r ≡ got s [] → q ≡ s
      read_one e = cc

pub ruleset filled = (cleared-copied, unread)
