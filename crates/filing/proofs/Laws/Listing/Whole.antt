-- Of the automaton of a set and the run of a machine's state, in a buffer of a listing's size, nothing is refused and the listing of the set
-- and the state is written.
use Rattle.std.specs.Prelude.{Result}
use Rattle.text.specs.declared.refusals.Refusal.{Refusal}
use Prim.Native.Nat.{ℕ, ◌≤◌, max}
use native.Mathlib.Omega.{arith}
use mathlib.Core.Path.{◌≡◌, refl}
use mathlib.Core.List.{List, [], ◌++◌}
use lib.ListN.{length}
use borrow.Author.Tests.{le-ltb}
use Rattle.notation.specs.Sets.{FolderSet}
use Rattle.model.specs.Calls.{State}
use Rattle.stored.specs.Run.{run_of}
use Rattle.text.specs.Order.{first, given}
use Rattle.text.specs.Written.{TextWritten}
use Rattle.model.proofs.Laws.Machine.Moves.{Few}
use Rattle.stored.proofs.Laws.Running.Means.{Means}
use Rattle.stored.proofs.Laws.Shapes.Passing.{counters_of, all-shaped, long-enough}
use Rattle.filing.specs.Limits.{listing_size}
use Rattle.filing.specs.Listing.{listing}
use Rattle.filing.specs.Listed.{listing_in, listing_room, listing_conditions, listing_refusal, ListingWritten}
use Rattle.filing.proofs.Laws.Listing.Same.{listing-same}
use Rattle.filing.proofs.Laws.Listing.Sizes.{listing-short}

module _ (s : FolderSet) (a : List ℕ) (m : Means s a) (st : State) (few : Few s st []) (rest : List ℕ) where
  abbrev run : List ℕ
  run = run_of s st ++ rest

  same : listing_in a run (counters_of st) ≡ listing s st
  same = listing-same s a m st few rest (counters_of st) refl refl

  pub listing-fits : length (listing s st) ≤ listing_size
  listing-fits = listing-short s m.fit st few.0.few few.1

  room-is : listing_room a run (counters_of st) ≡ listing_size
  unfolding listing_room
  room-is =
      let e : max listing_size (length (listing s st)) ≡ listing_size = omega (arith, listing-fits) in
      rw (all-shaped s a m st few rest, same, e)

  pub not-refused : (out : List ℕ) → listing_size ≤ length out → listing_refusal a run (counters_of st) out ≡ 0
  unfolding given first
  not-refused out h = rw (long-enough s a m st few rest, room-is, le-ltb (length out) listing_size h, all-shaped s a m st few rest)

  pub listing-written : (out after : List ℕ) (answer : Result ℕ Refusal) → listing_size ≤ length out → ListingWritten a run (counters_of st) out answer after
      → TextWritten (listing_conditions a run (counters_of st) out) (listing s st) out answer after
  listing-written out after answer h w = rw same at w
