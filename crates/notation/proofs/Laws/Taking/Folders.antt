-- Lines of folders, and the whole text, taken as they are read.
use Prim.Native.Nat.{ℕ, ◌+◌, ◌-◌, ◌*◌, ◌/◌, ◌%◌, ◌≤◌, ◌<◌}
use native.Mathlib.Omega.{arith}
use native.Mathlib.Nat.{add_assoc}
use mathlib.Core.Path.{◌≡◌, refl, sym, ap, ◌∙◌}
use mathlib.Core.Bool.{Bool, true, false}
use mathlib.Core.List.{List, [], ◌∷◌, ◌++◌}
use lib.Dec.{eqb, ltb}
use lib.ListN.{length, drop, length-append, length-drop, drop_of_length-le}
use lib.Seq.{sets}
use borrow.Author.Tests.{eqb-true, eqb-false}
use Rattle.std.specs.Prelude.{Option, None, Some, MatchOption}
use Rattle.std.specs.Bool.{then_some}
use Rattle.text.specs.Decimal.{decimal, digits}
use Rattle.text.specs.Lists.{non_empty}
use Rattle.text.specs.Numbers.{number_found}
use Rattle.text.specs.Read.{Read, fail, got, then_read, when, read_word, read_number}
use Rattle.text.specs.declared.numbers.Number.{Number}
use Rattle.text.proofs.Laws.Tests.{cases}
use Rattle.text.proofs.Laws.Reads.{WhenRead, holds-got, behind}
use Rattle.text.proofs.Laws.ReadNumber.{number-sound}
use Rattle.notation.specs.Limits.{max_number}
use Rattle.notation.specs.Sets.{Path, Folder, folder}
use Rattle.notation.specs.Print.{folder_word, header, footer, print_folder}
use Rattle.notation.specs.Layout.{folder_size, folders_at, folder_entry}
use Rattle.notation.specs.Code.Reader.{read_paths, read_line, read_folder, read_folders, read_set}
use Rattle.notation.specs.Code.Taking.{number_counted, State, state, moved, take_all, take_path, take_number, number_taken, take_line, take_folder, take_set, nothing, Small, SetTaken}
use Rattle.notation.specs.Code.Readings.{ahead, state_of, Kept, Got, Takes}
use Rattle.notation.specs.declared.tally.Tally.{Tally}
use Rattle.notation.specs.declared.take.Reading.{Reading}
use Rattle.notation.proofs.Laws.Taking.Grown.{paths-grown, folder-grown}
use Rattle.notation.proofs.Laws.Taking.Readings.{last-takes}

folder-long : (f : Folder) → 1 ≤ length (print_folder f)
unfolding print_folder folder_word
folder-long (folder n ps) = omega arith

pub folder-moves : (f : Folder) (s : State) → s.tally.at < (take_folder f s).tally.at
folder-moves f s = omega (arith, (folder-grown f s).at, folder-long f)

-- the paths of a line, and its end
module _ (r r₁ : Reading) where
  pub paths-unread : Takes read_paths (take_all take_path) r None r₁ → read_line (ahead r) ≡ fail
  unfolding read_line
  paths-unread t = rw t.came

  module _ (g : Got read_paths (take_all take_path) r r₁) where
    many : r₁.tally.paths ≡ r.tally.paths + length g.item
    many = let n = paths-grown g.item (state_of r) in let t = ap State.tally g.taken in omega (arith, n.paths, ap Tally.paths t)

    pub no-paths : r₁.tally.paths ≡ r.tally.paths → read_line (ahead r) ≡ fail
    unfolding read_line
    no-paths e = rw g.was (go g.item (omega (arith, many)))
      where
        go : (ps : List Path) → length ps ≡ 0 → when (non_empty ps) (then_read (read_word footer (ahead r₁)) (λ w l. got ps l)) ≡ fail
        go [] z = refl
        go (p ∷ ps) z = absurd (omega arith)

    pub line-takes : (x : Option (Unit {0})) (u : Reading) → (r₁.tally.paths ≡ r.tally.paths → ⊥) → Kept r r₁ → Takes (read_word footer) (λ _. moved (length footer)) r₁ x u → Takes read_line take_line r x u
    unfolding read_line
    line-takes x u n k t =
        last-takes x k t (λ e. rw (g.was, some, e)) (λ l. record { item = g.item; was = rw (g.was, some, l.was); taken = l.taken ∙ ap (moved (length footer)) g.taken })
      where
        some : non_empty g.item ≡ true
        some = go g.item many
          where
            go : (ps : List Path) → r₁.tally.paths ≡ r.tally.paths + length ps → non_empty ps ≡ true
            go [] z = absurd (n (omega arith))
            go (p ∷ ps) z = refl

-- a number has a digit at least
digit-some : (n : ℕ) → 1 ≤ length (decimal n)
unfolding decimal digits
digit-some n =
    cases (ltb n 10) (λ t. rw (t, length) (omega arith)) (λ f. rw (f, length) (omega (arith, length-append (digits n (n / 10)) ((48 + n % 10) ∷ []))))

-- a number that was found at an offset, or none
module _ (text : List ℕ) (at : ℕ) where
  pub number-none : None ≡ number_found (length text) (read_number max_number (drop at text)) → read_number max_number (drop at text) ≡ fail
  number-none e = go (read_number max_number (drop at text)) e
    where
      go : (m : Read ℕ) → None ≡ number_found (length text) m → m ≡ fail
      go fail is = refl
      go (got k r) is = cc

  pub number-stands : (n : Number) → at ≤ length text → Some n ≡ number_found (length text) (read_number max_number (drop at text))
      → (read_number max_number (drop at text) ≡ got n.value (drop n.end text)) × (n.end ≡ at + length (decimal n.value)) × (n.end ≤ length text)
  number-stands n on e = go (read_number max_number (drop at text)) (number-sound max_number (drop at text)) e
    where
      go : (m : Read ℕ) → WhenRead (λ k r. (1 ≤ k) × (k ≤ max_number) × (decimal k ++ r ≡ drop at text)) m → Some n ≡ number_found (length text) m
          → (m ≡ got n.value (drop n.end text)) × (n.end ≡ at + length (decimal n.value)) × (n.end ≤ length text)
      go fail s is = cc
      go (got k r) s is =
          let (low, high, front) = holds-got s in
          let end : length text - length r ≡ at + length (decimal k) = omega (arith, ap length front, length-append (decimal k) r, length-drop at text) in
          let same : n ≡ record { value = k; end = length text - length r } = cc in
          rw (same, end) (ap (got k) (sym (behind text (decimal k) r at front)), refl, omega (arith, end))

-- it is counted, and is no more than its bytes
module _ (text : List ℕ) (t : Tally) (k : Small text t) (n : Number) (e : Some n ≡ number_found (length text) (read_number max_number (drop t.at text))) where
  pub number-small : Small text (number_counted n.value n.end t)
  number-small =
      let s = number-stands text t.at n k.at e in
      let long = digit-some n.value in
      record {
        short = k.short;
        at = s.2;
        folders = omega (arith, k.folders, s.1);
        paths = omega (arith, k.paths, s.1);
        steps = omega (arith, k.steps, s.1);
        labels = omega (arith, k.labels, s.1);
      }

  pub number-counted : (part : List ℕ) → state (number_counted n.value n.end t) (sets part (folders_at + folder_size * t.folders) (folder_entry n.value t.paths)) ≡ number_taken n.value (state t part)
  number-counted part = let s = number-stands text t.at n k.at e in rw s.1

-- the word before a number, the number, and its line
module _ (r r₁ r₂ : Reading) (w : Got (read_word folder_word) (λ _. moved (length folder_word)) r r₁) where
  pub number-unread : Takes (read_number max_number) number_taken r₁ None r₂ → read_folder (ahead r) ≡ fail
  unfolding read_folder
  number-unread t = rw (w.was, t.came)

  after-word : (n : ℕ) (s : State) → number_taken n (moved (length folder_word) s) ≡ take_number n s
  unfolding moved
  after-word n s = rw (add_assoc s.tally.at (length folder_word) (length (decimal n)))

  pub folder-takes : (x : Option (Unit {0})) (u : Reading) → Got (read_number max_number) number_taken r₁ r₂ → Kept r r₂ → Takes read_line take_line r₂ x u → Takes read_folder take_folder r x u
  unfolding read_folder take_folder
  folder-takes x u n k t =
      last-takes x k t (λ e. rw (w.was, n.was, e)) (λ l. record {
        item = folder n.item l.item;
        was = rw (w.was, n.was, l.was);
        taken = l.taken ∙ ap (take_line l.item) (n.taken ∙ ap (number_taken n.item) w.taken ∙ after-word n.item (state_of r));
      })

-- the first line, the folders, the last line, and no byte more
module _ (r r₁ r₂ : Reading) (w : Got (read_word header) (λ _. moved (length header)) r r₁) where
  pub folders-unread : Takes read_folders (take_all take_folder) r₁ None r₂ → read_set (ahead r) ≡ fail
  unfolding read_set
  folders-unread t = rw (w.was, t.came)

  module _ (g : Got read_folders (take_all take_folder) r₁ r₂) (u : Reading) where
    pub no-footer : Takes (read_word footer) (λ _. moved (length footer)) r₂ None u → read_set (ahead r) ≡ fail
    unfolding read_set
    no-footer t = rw (w.was, g.was, t.came)

    pub set-takes : Got (read_word footer) (λ _. moved (length footer)) r₂ u → Kept r u → Takes read_set take_set r (then_some (eqb u.tally.at (length u.text.now)) tt) u
    unfolding read_set take_set
    set-takes l k = record { kept = k; came = go (eqb u.tally.at (length u.text.now)) refl }
      where
        some : (l : List ℕ) → 1 ≤ length l → non_empty l ≡ true
        some [] m = absurd (omega arith)
        some (b ∷ l) m = refl

        go : (b : Bool) → eqb u.tally.at (length u.text.now) ≡ b → MatchOption (then_some {T = Unit {0}} b tt) (read_set (ahead r) ≡ fail) (λ _. Got read_set take_set r u)
        go true y =
            let ended : ahead u ≡ [] = drop_of_length-le u.text.now {i = u.tally.at} (omega (arith, eqb-true u.tally.at (length u.text.now) y)) in
            record {
              item = g.item;
              was = rw (w.was, g.was, l.was, ended);
              taken = l.taken ∙ ap (moved (length footer)) (g.taken ∙ ap (take_all take_folder g.item) w.taken);
            }
        go false n =
            rw (w.was, g.was, l.was, some (ahead u) (omega (arith, eqb-false u.tally.at (length u.text.now) n, u.small.at, length-drop u.tally.at u.text.now)))

-- from before the first byte on
pub set_taken : {text before after : List ℕ} (r u : Reading) → Got read_set take_set r u → r.tally ≡ nothing → r.text.now ≡ text → r.part.now ≡ before → after ≡ u.part.now → SetTaken text before u.tally after
set_taken r u g tally text part left = record {
  set = g.item;
  rest = ahead u;
  was = rw (tally, text) at g.was;
  taken = rw left (g.taken ∙ rw (tally, part));
}

pub ruleset numbers = (number-none, number-stands, number-small, number-counted)
