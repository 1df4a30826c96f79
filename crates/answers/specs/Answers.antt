-- The papers' number and place for each case of an answer, and the answer of a number and a place.
use Rattle.std.specs.Prelude.{ℕ, eqb, if◌then◌else◌}
use Rattle.answers.specs.declared.Answer.{Answer}
use Rattle.answers.specs.declared.Answer.TheVariants.{Done, Refused}

-- 0 is done, any other number a refusal
unfoldable pub answer_of : ℕ → ℕ → Answer
answer_of number place = if eqb number 0 then Done else Refused number place

abbrev pub number_of : Answer → ℕ
number_of Done = 0
number_of (Refused number place) = number

abbrev pub place_of : Answer → ℕ
place_of Done = 0
place_of (Refused number place) = place
