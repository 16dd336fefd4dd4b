-- What an automaton holds of a set: on one of the right shape a folder's number has four digits at most, and on any a matched place is one of
-- those that there can be.
use Rattle.std.proofs.Common.{Option, Some, None}
use Prim.Native.Nat.{ℕ, ◌≤◌, ◌<◌}
use mathlib.Core.Path.{◌≡◌}
use mathlib.Core.Bool.{true, ◌&&◌, and-false}
use mathlib.Core.List.{List}
use native.Mathlib.Omega.{arith}
use lib.Dec.{leb, ltb}
use lib.ListN.{length}
use borrow.Author.Tests.{ltb-true}
use Rattle.notation.specs.Limits.{max_number, max_paths}
use Rattle.notation.specs.Layout.{set_size}
use Rattle.notation.specs.Reads.{present, folder_count, folder_there, folder_at, path_count, path_at}
use Rattle.notation.specs.declared.reads.StoredFolder.{StoredFolder}
use Rattle.stored.specs.Shape.{automaton_shaped}
use Rattle.stored.specs.HeldSet.{folder_held}
use Rattle.stored.specs.Asking.{place_matched}
use Rattle.text.proofs.Laws.Tests.{cases, both, clash}
use Rattle.stored.proofs.Laws.Shapes.Shaped.{shaped-is}

-- the number of a folder that is there
abbrev pub number_held : Option StoredFolder → ℕ
number_held (Some f) = f.number.0
number_held None = 0

pub number-most : (a : List ℕ) → automaton_shaped a ≡ true → (i : ℕ) → number_held (folder_held a i) ≤ max_number
unfolding folder_held folder_at present
number-most a h i =
    cases (folder_there a i)
    (λ t.
    let b = both (leb set_size (length a)) (ltb i (folder_count a) && ltb i max_paths) t in
    rw t ((shaped-is a h).folder i (ltb-true i (folder_count a) (both (ltb i (folder_count a)) (ltb i max_paths) b.1).0)).number)
    (λ f. rw f (omega arith))

pub place-below : (a run : List ℕ) (i : ℕ) → place_matched a run (record { 0 = i }) ≡ true → i < max_paths
unfolding place_matched path_at present
place-below a run i h =
    cases (ltb i max_paths)
    (λ t. ltb-true i max_paths t)
    (λ f. clash h (cases (leb set_size (length a)) (λ x. rw (f, x, and-false (ltb i (path_count a)))) (λ x. rw x)))
