-- Load by way of what is read of the file, and what its answer tells.
use Prim.Native.Nat.{ℕ}
use mathlib.Core.Path.{◌≡◌, refl, sym, ◌∙◌}
use mathlib.Core.Bool.{true, false}
use mathlib.Core.Logic.{◌↔◌}
use mathlib.Core.List.{List}
use borrow.Author.Tests.{eqb-true, eq-eqb, not-true, not-false}
use Rattle.lists.proofs.Cases.{by_test}
use Rattle.lists.proofs.Refusals.{first_none}
use Rattle.lists.proofs.Numbered.{nth_replicate}
use Rattle.tables.specs.declared.Tables.{Tables}
use Rattle.tables.specs.Tables.{blank_tables}
use Rattle.decoding.specs.Decoding.{decoded}
use Rattle.reading.specs.Verdict.{verdict, accepted, refused_reading, accepted_reading, reading_of}
use Rattle.reading.specs.Acceptance.{MeetsRules}
use Rattle.reading.proofs.Accepted.{load_tests, accepted_iff, number_zero, refusal_placed}
use Rattle.trains.specs.Train.{off}
use Rattle.answers.specs.declared.Answer.TheVariants.{Done, Refused}
use Rattle.answers.specs.declared.Refusal.{Refusal}
use Rattle.answers.specs.Answers.{answer_of, number_of, place_of}
use Rattle.answers.specs.Refusals.{refusal_number}
use Rattle.answers.proofs.Refusals.{refused_answer}
use Rattle.area.specs.declared.Outcome.{Outcome}
use Rattle.loading.specs.Load.{fresh, blank, loaded, AllZero}
use Rattle.answers.proofs.Answers.{answer_done, number_of_answer, place_of_answer}

module _ (file : List ℕ) where
  blank_fresh : fresh blank_tables ≡ blank
  unfolding fresh blank
  blank_fresh = refl

  accepted_verdict : (verdict file).holds ≡ false → ((verdict file).number ≡ 0) × ((verdict file).place ≡ 0)
  unfolding verdict
  accepted_verdict e = rw (first_none (load_tests file) e) (refl, refl)

  -- what is read of the file makes the outcome
  pub loaded_by_reading :
      record { answer = answer_of (reading_of file).number (reading_of file).place; area = fresh (reading_of file).tables } ≡ loaded file
  unfolding loaded reading_of
  loaded_by_reading =
      by_test (verdict file).holds
      (λ h. rw (h, blank_fresh))
      (λ h. rw (h, (accepted_verdict h).0, (accepted_verdict h).1))

  -- what is read of it tells the tables of an accepted file, or the refusal and its place
  pub loaded_done : {T : Tables} → accepted_reading T ≡ reading_of file → ◌≡◌ {A = Outcome} (record { answer = Done; area = fresh T }) (loaded file)
  unfolding answer_of
  loaded_done e = rw (← e) at loaded_by_reading

  pub loaded_refused :
      (r : Refusal) (p : ℕ) → refused_reading (refusal_number r) p ≡ reading_of file
      → ◌≡◌ {A = Outcome} (record { answer = Refused (refusal_number r) p; area = fresh blank_tables }) (loaded file)
  loaded_refused r p e = rw (← e, refused_answer r p) at loaded_by_reading

  -- THE CLAIM: load answers done if and only if the file meets the ten rules
  pub done_iff : (number_of (loaded file).answer ≡ 0) ↔ MeetsRules file
  unfolding loaded
  done_iff = (
    λ e. (accepted_iff file).0 (sym (number_zero file) ∙ eq-eqb (verdict file).number 0 (sym (number_of_answer (verdict file).number (verdict file).place) ∙ e)),
    λ m. number_of_answer (verdict file).number (verdict file).place ∙ eqb-true (verdict file).number 0 (number_zero file ∙ (accepted_iff file).1 m),
  )

  -- THE CLAIM: the answer's number and place are those of the first rule broken, 0 and 0 for none; `refusal-placed` says what the place is
  pub answer_verdict : (number_of (loaded file).answer ≡ (verdict file).number) × (place_of (loaded file).answer ≡ (verdict file).place)
  unfolding loaded
  answer_verdict = (
    number_of_answer (verdict file).number (verdict file).place,
    place_of_answer (verdict file).number (verdict file).place (refusal_placed file).done,
  )

  -- an accepted file is answered done
  pub done_answer : accepted file ≡ true → (loaded file).answer ≡ Done
  unfolding loaded answer_of
  done_answer e = rw (accepted_verdict (not-true (verdict file).holds e)).0

  -- a refusal is never numbered 0
  pub refused_number : {number place : ℕ} → (loaded file).answer ≡ Refused number place → number_of (loaded file).answer ≡ 0 → ⊥
  unfolding loaded
  refused_number {number} {place} e z =
      let n = (verdict file).number in
      let p = (verdict file).place in
      let done : Done ≡ Refused number place = sym (answer_done n p (sym (number_of_answer n p) ∙ z)) ∙ e in
      cc

  -- THE CLAIM: load's refusal gives the blank record
  pub refused_blank : accepted file ≡ false → (loaded file).area ≡ blank
  unfolding loaded
  refused_blank e = rw (not-false (verdict file).holds e)

  -- THE CLAIM: a loaded area has the file's tables, no allocations and no trains; the step due is speed
  pub done_fresh : accepted file ≡ true → (loaded file).area ≡ fresh (decoded file)
  unfolding loaded
  done_fresh e = rw (not-true (verdict file).holds e)

-- THE CLAIM: the blank record is all zero
pub blank_zero : AllZero blank
unfolding blank blank_tables
blank_zero =
    record {
      numbers = (refl, refl, refl, refl, refl);
      lengths = nth_replicate 0 62;
      limits = nth_replicate 0 62;
      next = nth_replicate 0 124;
      previous = nth_replicate 0 124;
      flags = nth_replicate 0 62;
      routebytes = nth_replicate 0 960;
      allocations = nth_replicate 0 62;
      trains = nth_replicate off 24;
      due = refl;
    }
