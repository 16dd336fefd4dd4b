use Prim.Native.Nat.{◌≤◌}
use mathlib.Core.Path.{◌≡◌}
use Rattle.arrayvec.specs.ArrayVec.{array_vec_len}
use Rattle.sheets.specs.SheetIn.{matched_from}
use Rattle.sheets.proofs.rows.matched_places.Given as goal

abbrev pub invariant-loop-place : goal.invariant-loop-place
invariant-loop-place l = record {
  few : array_vec_len l.places ≤ l.place;
  are : l.places.items ≡ matched_from l.a l.run 0 l.place;
}
