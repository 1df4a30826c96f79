-- Document 02, R-3: "files accepted until now load as before".
use Prim.Native.Nat.{ℕ}
use mathlib.Core.Path.{◌≡◌, sym, ◌∙◌}
use mathlib.Core.Bool.{true, false}
use mathlib.Core.Logic.{◌⊎◌, inl, inr}
use mathlib.Core.List.{List}
use native.Mathlib.Omega.{arith}
use borrow.Author.Tests.{not-true}
use Rattle.lists.proofs.Cases.{cases}
use Rattle.tables.specs.Bounds.{Bounds, bounds, smaller_bounds}
use Rattle.decoding.specs.Decoding.{decoded}
use Rattle.reading.specs.Verdict.{verdict_within, verdict, accepted_within, accepted}
use Rattle.reading.proofs.Wider.{still_accepted, newly_accepted}
use Rattle.answers.specs.Answers.{number_of}
use Rattle.answers.proofs.Answers.{number_of_answer}
use Rattle.loading.specs.Load.{fresh}
use Rattle.loading.specs.Before.{loaded_within, LoadsAsBefore}
use Rattle.loading.proofs.Loading.{done_answer, done_fresh}

module _ (file : List ℕ) where
  -- a file that some bounds accept gave its tables with them
  within_fresh : (β : Bounds) → accepted_within β file ≡ true → (loaded_within β file).area ≡ fresh (decoded file)
  within_fresh β e = rw (not-true (verdict_within β file).holds e)

  -- THE CLAIM: a file that the smaller bounds accept is answered done, and its record is the one that it had with them
  pub as_before : accepted_within smaller_bounds file ≡ true → LoadsAsBefore file
  as_before e =
      let now : accepted file ≡ true = unfold verdict in still_accepted smaller_bounds bounds file (omega arith) (omega arith) e in
      record {
        answer = done_answer file now;
        area = done_fresh file now ∙ sym (within_fresh smaller_bounds e);
        tables = done_fresh file now;
      }

  -- THE CLAIM: a file that only the bounds in force accept is one that the smaller ones refuse with 4 or 6
  pub only_now :
      accepted file ≡ true → accepted_within smaller_bounds file ≡ false
      → (number_of (loaded_within smaller_bounds file).answer ≡ 4) ⊎ (number_of (loaded_within smaller_bounds file).answer ≡ 6)
  unfolding verdict
  only_now e refused =
      let told = number_of_answer (verdict_within smaller_bounds file).number (verdict_within smaller_bounds file).place in
      cases (newly_accepted smaller_bounds bounds file e refused) (λ n. inl (told ∙ n)) (λ n. inr (told ∙ n))
