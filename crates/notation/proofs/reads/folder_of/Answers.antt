-- `reads::folder_of`: the search among the folders is the search of the code.
use Prim.Native.Nat.{ℕ, zero, suc}
use mathlib.Core.Path.{◌≡◌, refl, sym, ◌∙◌}
use mathlib.Core.List.{List}
use native.Mathlib.Numerals.{add-one}
use native.Mathlib.Omega.{arith}
use borrow.Author.Rules.{rules}
use borrow.Author.Tests.{lt-leb, le-leb, tests}
use lib.Dec.{eqb}
use Rattle.std.specs.List.{find, range_with_len}
use Rattle.std.proofs.lemmas.Iterator.Adapters.{option_map_id}
use Rattle.std.proofs.lemmas.Iterator.{YieldsList-from_range}
use Rattle.std.proofs.lemmas.Iterator.Search.{find_from_yields_List}
use Rattle.notation.specs.Limits.{max_paths}
use Rattle.notation.specs.Reads.{stored_number, search_folder, folder_of}
use Rattle.notation.specs.Layout.{folders_at, folder_size, set_size}
use Rattle.notation.proofs.reads.folder_of.Goals as goal

searched : (part : List ℕ) (number i left : ℕ) → find (λ k. eqb (stored_number part k) number) (range_with_len i left) ≡ search_folder part number i left
unfolding search_folder
searched part number i zero = refl
searched part number i (suc left) = rw (add-one, searched part number (suc i) left)

pub returns-then-part-lt-SET_SIZE : goal.returns-then-part-lt-SET_SIZE
unfolding folder_of set_size
returns-then-part-lt-SET_SIZE c = rw (lt-leb set_size _ c.if-part-lt-SET_SIZE.true)

pub returns : goal.returns
unfolding folder_of set_size max_paths folders_at folder_size
returns c =
    let part = c.args.part.now in
    let number = c.args.number.0 in
    let top = c.min-top.result in
    let found = find_from_yields_List (λ k. eqb (stored_number part k) number) c.find.new.self _ c.find.result c.find.ensures.ran (YieldsList-from_range 0 top top refl (omega arith))
    (λ x b q k. search (rules, tests)) in
    rw (le-leb set_size _ c.if-part-lt-SET_SIZE.false, ← c.folders.ensures.0, ← c.min-top.ensures)
    (sym (option_map_id c.find.result) ∙ (found ∙ searched part number 0 top))
