-- What a call's contract says where it refuses, and where it is accepted.
use Prim.Native.Nat.{ℕ}
use mathlib.Core.Path.{◌≡◌, sym, ◌∙◌, ap}
use mathlib.Core.Bool.{true, false}
use mathlib.Core.List.{List}
use lib.Dec.{eqb}
use borrow.Author.Tests.{eq-eqb, ne_eqb}
use Rattle.std.specs.Prelude.{Result, Ok, Err}
use Rattle.std.specs.Result.{IsErrAnd}
use Rattle.text.specs.declared.refusals.Refusal.{Refusal}
use Rattle.text.specs.Refusals.{number_of}
use Rattle.text.specs.Names.{Name, name_form}
use Rattle.text.specs.declared.refusals.Refusal.TheVariants.{SyntaxError}
use Rattle.text.specs.Answers.{says, refusal_in}
use Rattle.text.specs.Order.{given}
use Rattle.text.proofs.Laws.Numbers.{some_number}
use Rattle.text.proofs.Laws.Results.{err_says, ok_says}
use Rattle.stored.specs.RunCalls.{lent_conditions, open_others, close_others, open_refusal, open_run, open_walk, after_open, open_counters, close_refusal, close_run, close_counters}
use Rattle.stored.specs.RunContracts.{Opens, Closes}
use Rattle.stored.specs.Usable.{Usable}
use Rattle.stored.proofs.Laws.Shapes.Given.{open_lent, open-others, open-unformed, close-lent, close-others, close-unformed}
use Rattle.stored.specs.declared.counters.Counters.{Counters}
use Rattle.stored.specs.declared.walk.Walk.{Walk}

module _ (a run : List ℕ) (c : Counters) (e : Name) where
  open-refused : (r : Refusal) → number_of r ≡ open_refusal a run c e → Opens a run c e (Err r) run c
  open-refused r is =
      let no : eqb (open_refusal a run c e) 0 ≡ false = ne_eqb _ _ (λ z. some_number r (is ∙ z)) in
      record { answers = err_says r _ _ is; run_after = rw no; counters_after = rw no }

  -- by what is lent, and by the rest
  pub open-not-lent : (r : Result ℕ Refusal) (d : Refusal) → IsErrAnd r (λ y. y ≡ d) → number_of d ≡ given (lent_conditions a run c) → Opens a run c e r run c
  open-not-lent (Ok v) d h is = absurd h
  open-not-lent (Err q) d h is =
      let n : number_of q ≡ given (lent_conditions a run c) = ap number_of h ∙ is in
      open-refused q (n ∙ sym (open_lent a run c e (λ z. some_number q (n ∙ z))))

  pub open-not-next : (r : Result ℕ Refusal) (d : Refusal) → IsErrAnd r (λ y. y ≡ d) → number_of d ≡ given (open_others run c e) → Usable a run c → Opens a run c e r run c
  open-not-next (Ok v) d h is u = absurd h
  open-not-next (Err q) d h is u = open-refused q (ap number_of h ∙ is ∙ sym (open-others a run c e u))

  pub open-not-formed : Usable a run c → name_form e ≡ false → Opens a run c e (Err SyntaxError) run c
  open-not-formed u f = open-refused SyntaxError (sym (open-unformed a run c e u f))

  pub open-accepted : (w : Walk) (run' : List ℕ) (c' : Counters) → open_refusal a run c e ≡ 0 → w ≡ open_walk a run e → run' ≡ open_run a run e → c' ≡ after_open c w.moves → Opens a run c e (Ok w.moves) run' c'
  unfolding open_counters
  open-accepted w run' c' z walked is counted =
      let yes : eqb (open_refusal a run c e) 0 ≡ true = eq-eqb _ _ z in
      record {
        answers = ap (λ (x : Walk). says (Ok x.moves)) walked ∙ ok_says _ _ (sym z);
        run_after = rw yes is;
        counters_after = rw yes (counted ∙ ap (λ (x : Walk). after_open c x.moves) walked);
      }

  close-refused : (r : Refusal) → number_of r ≡ close_refusal a run c e → Closes a run c e (number_of r) run c
  close-refused r is =
      let no : eqb (close_refusal a run c e) 0 ≡ false = ne_eqb _ _ (λ z. some_number r (is ∙ z)) in
      record { answers = is; run_after = rw no; counters_after = rw no }

  pub close-not-lent : (r : Result (Unit {0}) Refusal) (d : Refusal) → IsErrAnd r (λ y. y ≡ d) → number_of d ≡ given (lent_conditions a run c) → Closes a run c e (refusal_in r) run c
  close-not-lent (Ok v) d h is = absurd h
  close-not-lent (Err q) d h is =
      let n : number_of q ≡ given (lent_conditions a run c) = ap number_of h ∙ is in
      close-refused q (n ∙ sym (close-lent a run c e (λ z. some_number q (n ∙ z))))

  pub close-not-next : (r : Result (Unit {0}) Refusal) (d : Refusal) → IsErrAnd r (λ y. y ≡ d) → number_of d ≡ given (close_others run e) → Usable a run c → Closes a run c e (refusal_in r) run c
  close-not-next (Ok v) d h is u = absurd h
  close-not-next (Err q) d h is u = close-refused q (ap number_of h ∙ is ∙ sym (close-others a run c e u))

  pub close-not-formed : Usable a run c → name_form e ≡ false → Closes a run c e (number_of SyntaxError) run c
  close-not-formed u f = close-refused SyntaxError (sym (close-unformed a run c e u f))

  pub close-accepted : (run' : List ℕ) (c' : Counters) → close_refusal a run c e ≡ 0 → run' ≡ close_run run → c' ≡ close_counters c → Closes a run c e 0 run' c'
  close-accepted run' c' z is counted =
      let yes : eqb (close_refusal a run c e) 0 ≡ true = eq-eqb _ _ z in
      record { answers = sym z; run_after = rw yes is; counters_after = rw yes counted }
