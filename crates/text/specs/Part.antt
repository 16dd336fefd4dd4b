-- What hands back bytes that it was lent: which part of them.
use Rattle.std.specs.Prelude.{ℕ, ◌+◌, ◌-◌, ◌≡◌, List, take, drop}
use Rattle.std.specs.Borrow.{Bor}

-- r is the part of s from one offset to another. A slice is where it begins, a block of memory and an offset in it, and its bytes
pub record PartOf (s : Bor (List ℕ)) (from to : ℕ) (r : Bor (List ℕ)) : Type 0 where
  pub begins : r.ref_ptr ≡ (s.ref_ptr.0, s.ref_ptr.1 + from)
  pub shows : r.now ≡ take (to - from) (drop from s.now)
