-- Items one after the other, and with a separator between them: they are read back as they were printed, and what was read prints to what
-- stood there.
use Prim.Native.Nat.{ℕ, zero, suc, ◌≤◌, ◌<◌}
use native.Mathlib.Omega.{arith}
use mathlib.Core.Path.{◌≡◌, refl, sym, ap}
use mathlib.Core.Bool.{Bool, true, false}
use mathlib.Core.List.{List, [], ◌∷◌, ◌++◌, append_assoc, append-nil}
use lib.ListN.{length, length-append}
use Rattle.text.specs.Lists.{every, non_empty}
use Rattle.text.specs.Read.{Read, got, then_read, starts_with, read_up_to, read_many, print_many, read_after, read_separated, print_separated}
use Rattle.text.proofs.Laws.Tests.{cases, clash, both_true}
use Rattle.text.proofs.Laws.Lists.{every-head, every_rest, every_append}
use Rattle.text.proofs.Laws.Scans.{begins-short}
use Rattle.text.proofs.Laws.Reads.{WhenRead, gotten, then-holds, holds-map, cond-holds, then_same, word_back, word-begins, word_sound}

-- an item begins wherever one is printed, and none at the end of the bytes
pub record Begins {A : Type 0} (ahead : List ℕ → Bool) (print : A → List ℕ) (ok : A → Bool) : Type 0 where
  pub here : (a : A) (r : List ℕ) → ok a ≡ true → ahead (print a ++ r) ≡ true
  pub none : ahead [] ≡ false

-- an item is read back wherever this may follow it, and another item may
pub record Back {A : Type 0} (item : List ℕ → Read A) (print : A → List ℕ) (ok : A → Bool) (after : List ℕ → Bool) : Type 0 where
  pub back : (a : A) (r : List ℕ) → ok a ≡ true → after r ≡ true → item (print a ++ r) ≡ got a r
  pub next : (a : A) (r : List ℕ) → ok a ≡ true → after (print a ++ r) ≡ true

-- an item that was read is within its rule and prints to what stood there
pub record Sound {A : Type 0} (ahead : List ℕ → Bool) (item : List ℕ → Read A) (print : A → List ℕ) (ok : A → Bool) : Type 0 where
  pub sound : (l : List ℕ) → ahead l ≡ true → WhenRead (λ a r. (ok a ≡ true) × (print a ++ r ≡ l)) (item l)

module _ {A : Type 0} (ahead : List ℕ → Bool) (item : List ℕ → Read A) where
  up-to-none : (n : ℕ) (l : List ℕ) → ahead l ≡ false → read_up_to n ahead item l ≡ got [] l
  unfolding read_up_to
  up-to-none zero l f = refl
  up-to-none (suc n) l f = rw f

  pub many-none : (l : List ℕ) → ahead l ≡ false → read_many ahead item l ≡ got [] l
  many-none l f = up-to-none (length l) l f

-- a test that holds of the bytes of each item holds of all their bytes
pub many-every : {A : Type 0} (print : A → List ℕ) (ok : A → Bool) (test : ℕ → Bool) → ((a : A) → ok a ≡ true → every test (print a) ≡ true)
    → (m : List A) → every ok m ≡ true → every test (print_many print m) ≡ true
unfolding print_many every
many-every print ok test f [] h = refl
many-every print ok test f (a ∷ m) h =
    every_append test (print a) (print_many print m) (f a (every-head ok a m h)) (many-every print ok test f m (every_rest ok a m h))

module _ {A : Type 0} {ahead : List ℕ → Bool} {item : List ℕ → Read A} {print : A → List ℕ} {ok : A → Bool} (one : Sound ahead item print ok) where
  up-to-sound : (n : ℕ) (l : List ℕ) → WhenRead (λ m r. (every ok m ≡ true) × (print_many print m ++ r ≡ l)) (read_up_to n ahead item l)
  unfolding read_up_to print_many every
  up-to-sound zero l = gotten (refl, refl)
  up-to-sound (suc n) l =
      cond-holds (ahead l)
      (λ t.
      then-holds (one.sound l t) (λ a r now.
      then-holds (up-to-sound n r) (λ m r₂ more.
      gotten (both_true now.0 more.0, rw (append_assoc (print a) (print_many print m) r₂, more.1) now.1))))
      (λ f. gotten (refl, refl))

  pub many-sound : (l : List ℕ) → WhenRead (λ m r. (every ok m ≡ true) × (print_many print m ++ r ≡ l)) (read_many ahead item l)
  many-sound l = up-to-sound (length l) l

module _ {A : Type 0} {ahead : List ℕ → Bool} {print : A → List ℕ} {ok : A → Bool} (begun : Begins ahead print ok) where
  some_bytes : (a : A) → ok a ≡ true → 1 ≤ length (print a)
  some_bytes a h = at_least (print a) (rw append-nil at (begun.here a [] h))
    where
      at_least : (l : List ℕ) → ahead l ≡ true → 1 ≤ length l
      at_least [] t = clash t begun.none
      at_least (b ∷ l) t = omega arith

  pub many-length : (m : List A) → every ok m ≡ true → length m ≤ length (print_many print m)
  unfolding print_many
  many-length [] h = omega arith
  many-length (a ∷ m) h =
      omega (arith, length-append (print a) (print_many print m), some_bytes a (every-head ok a m h), many-length m (every_rest ok a m h))

  module _ {item : List ℕ → Read A} {after : List ℕ → Bool} (one : Back item print ok after) where
    follows : (m : List A) (r : List ℕ) → every ok m ≡ true → after r ≡ true → after (print_many print m ++ r) ≡ true
    unfolding print_many
    follows [] r h k = k
    follows (a ∷ m) r h k = rw append_assoc (one.next a (print_many print m ++ r) (every-head ok a m h))

    up-to-back : (n : ℕ) (m : List A) (r : List ℕ) → every ok m ≡ true → after r ≡ true → ahead r ≡ false → length m ≤ n
        → read_up_to n ahead item (print_many print m ++ r) ≡ got m r
    unfolding read_up_to print_many
    up-to-back n [] r h k f s = up-to-none ahead item n r f
    up-to-back zero (a ∷ m) r h k f s = absurd (omega arith)
    up-to-back (suc n) (a ∷ m) r h k f s =
        let now : ok a ≡ true = every-head ok a m h in
        let rest : every ok m ≡ true = every_rest ok a m h in
        rw (
          append_assoc (print a) (print_many print m) r,
          begun.here a (print_many print m ++ r) now,
          one.back a (print_many print m ++ r) now (follows m r rest k),
          up-to-back n m r rest k f (omega arith),
        )

    pub many-back : (m : List A) (r : List ℕ) → every ok m ≡ true → after r ≡ true → ahead r ≡ false
        → read_many ahead item (print_many print m ++ r) ≡ got m r
    many-back m r h k f = up-to-back _ m r h k f (omega (arith, length-append (print_many print m) r, many-length m h))

  module _ {item : List ℕ → Read A} (one : Sound ahead item print ok) where
    -- what was read has a byte at least
    pub shorter : (l : List ℕ) → ahead l ≡ true → WhenRead (λ (a : A) r. length r < length l) (item l)
    shorter l t = holds-map (one.sound l t) (λ a r g. omega (arith, some_bytes a g.0, length-append (print a) r, ap length g.1))

    -- as many steps as bytes are enough
    enough : (n k : ℕ) (l : List ℕ) → length l ≤ n → length l ≤ k → read_up_to n ahead item l ≡ read_up_to k ahead item l
    unfolding read_up_to
    enough zero k [] g h = sym (up-to-none ahead item k [] begun.none)
    enough zero k (b ∷ l) g h = absurd (omega arith)
    enough (suc n) zero [] g h = up-to-none ahead item (suc n) [] begun.none
    enough (suc n) zero (b ∷ l) g h = absurd (omega arith)
    enough (suc n) (suc k) l g h =
        cases (ahead l)
        (λ t.
        rw t (then_same (shorter l t) (λ a r s.
        ap (λ (x : Read (List A)). then_read x (λ m r₂. got (a ∷ m) r₂)) (enough n k r (omega arith) (omega arith)))))
        (λ f. rw f)

    -- where one begins it is read, and then the others
    pub many_more : (l : List ℕ) → ahead l ≡ true
        → read_many ahead item l ≡ then_read (item l) (λ a r. then_read (read_many ahead item r) (λ m r₂. got (a ∷ m) r₂))
    unfolding read_up_to
    many_more [] t = clash t begun.none
    many_more (b ∷ l) t =
        rw t (then_same (shorter (b ∷ l) t) (λ a r s.
        ap (λ (x : Read (List A)). then_read x (λ m r₂. got (a ∷ m) r₂)) (enough (length l) (length r) r (omega arith) (omega arith))))

-- items with a separator between them, which has a byte at least
module _ {A : Type 0} (b : ℕ) (w : List ℕ) (item : List ℕ → Read A) (print : A → List ℕ) (ok : A → Bool) where
  abbrev separator : List ℕ
  separator = b ∷ w

  abbrev print_after : A → List ℕ
  print_after a = separator ++ print a

  after-begins : Begins (starts_with separator) print_after ok
  after-begins = record { here = λ a r h. rw append_assoc (word-begins separator (print a ++ r)); none = begins-short separator [] (omega arith) }

  -- what may follow an item, a separator may
  pub separated-back : (after : List ℕ → Bool) → ((a : A) (r : List ℕ) → ok a ≡ true → after r ≡ true → item (print a ++ r) ≡ got a r)
      → ((r : List ℕ) → after (separator ++ r) ≡ true)
      → (a : A) (m : List A) (r : List ℕ) → every ok (a ∷ m) ≡ true → after r ≡ true → starts_with separator r ≡ false
      → read_separated separator item (print_separated separator print (a ∷ m) ++ r) ≡ got (a ∷ m) r
  unfolding read_separated print_separated
  separated-back after back next a m r h k f =
      let rest : every ok m ≡ true = every_rest ok a m h in
      let one : Back (read_after separator item) print_after ok after =
      record {
        back = λ x s g e. rw (append_assoc separator (print x) s, word_back separator (print x ++ s)) (back x s g e);
        next = λ x s g. rw (append_assoc separator (print x) s) (next (print x ++ s));
      } in
      rw (
        append_assoc (print a) (print_many print_after m) r,
        back a (print_many print_after m ++ r) (every-head ok a m h) (follows after-begins one m r rest k),
        many-back after-begins one m r rest k f,
      )

  pub separated-sound : ((l : List ℕ) → WhenRead (λ a r. (ok a ≡ true) × (print a ++ r ≡ l)) (item l))
      → (l : List ℕ) → WhenRead (λ m r. (every ok m ≡ true) × (non_empty m ≡ true) × (print_separated separator print m ++ r ≡ l)) (read_separated separator item l)
  unfolding read_separated print_separated every
  separated-sound sound l =
      let one : Sound (starts_with separator) (read_after separator item) print_after ok =
      record {
        sound = λ x t. then-holds (word_sound separator x) (λ u s e.
            holds-map (sound s) (λ a r g. (g.0, rw (append_assoc separator (print a) r, g.1) e)));
      } in
      then-holds (sound l) (λ a r now.
      then-holds (many-sound one r) (λ m r₂ more.
      gotten (both_true now.0 more.0, refl, rw (append_assoc (print a) (print_many print_after m) r₂, more.1) now.1)))
