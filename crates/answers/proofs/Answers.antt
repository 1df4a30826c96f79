-- The number and the place of an answer are those that it was made of.
use Prim.Native.Nat.{ℕ}
use mathlib.Core.Path.{◌≡◌}
use borrow.Author.Tests.{eq-eqb, ne_eqb}
use Rattle.lists.proofs.Cases.{cases, eq_or_ne}
use Rattle.answers.specs.declared.Answer.TheVariants.{Done, Refused}
use Rattle.answers.specs.Answers.{answer_of, number_of, place_of}

module _ (number place : ℕ) where
  pub answer_done : number ≡ 0 → answer_of number place ≡ Done
  unfolding answer_of
  answer_done e = rw (eq-eqb number 0 e)

  pub answer_refused : (number ≡ 0 → ⊥) → answer_of number place ≡ Refused number place
  unfolding answer_of
  answer_refused n = rw (ne_eqb number 0 n)

  -- THE CLAIM: an answer has the number that it was made of: 0 is done, any other a refusal
  pub number_of_answer : number_of (answer_of number place) ≡ number
  number_of_answer = cases (eq_or_ne number 0) (λ e. rw (answer_done e, e)) (λ n. rw (answer_refused n))

  -- THE CLAIM: an answer has the place that it was made of; done names none
  pub place_of_answer : (number ≡ 0 → place ≡ 0) → place_of (answer_of number place) ≡ place
  place_of_answer h = cases (eq_or_ne number 0) (λ e. rw (answer_done e, h e)) (λ n. rw (answer_refused n))
