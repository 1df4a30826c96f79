-- Which refusal a call, a report and a write are answered with (document 01, "Refusals"; document 02, R-1, R-4): 11 first, whatever comes
-- after it; then those of the laws in trains/proofs/Refusals, and of a write 22. The numbers are the papers', and each has place 0.
use Prim.Native.Nat.{ℕ}
use mathlib.Core.Path.{◌≡◌, refl, ap}
use mathlib.Core.Bool.{true, false, not}
use mathlib.Core.List.{List, ◌∷◌}
use lib.ListN.{length}
use borrow.Author.Tests.{eq-eqb, ne_eqb}
use Rattle.lists.specs.Tests.{Test, ◌⇒◌, first_of}
use Rattle.lists.proofs.Refusals.{placeless, first_placeless}
use Rattle.trains.specs.Due.{request_due, grant_due, position_due}
use Rattle.trains.specs.Train.{Journey}
use Rattle.trains.specs.Cycle.{due_tests, wish_tests}
use Rattle.trains.specs.EnterLeave.{entry_tests, exit_tests}
use Rattle.answers.specs.declared.Answer.{Answer}
use Rattle.answers.specs.declared.Answer.TheVariants.{Done, Refused}
use Rattle.answers.specs.Answers.{answer_of}
use Rattle.area.specs.declared.Area.{Area}
use Rattle.area.specs.Sound.{sound}
use Rattle.area.specs.Calls.{enter_call, leave_call, speed_call, request_call, grant_call, position_call, reported}
use Rattle.area.specs.Write.{write_answer}

-- the answer by the first of some tests that holds
abbrev answer_by : List Test → Answer
answer_by tests = answer_of (first_of tests).number (first_of tests).place

module _ (a : Area) where
  -- THE CLAIM: on an unsound record every call is answered 11, whatever it names and whatever step is due; a report gives zeros
  module _ (bad : sound a ≡ false) where
    pub enter_unsound : (t : ℕ) (j : Journey) (v : ℕ) → (enter_call a t j v).answer ≡ Refused 11 0
    unfolding enter_call answer_of
    enter_unsound t j v = rw bad

    pub leave_unsound : (t : ℕ) → (leave_call a t).answer ≡ Refused 11 0
    unfolding leave_call answer_of
    leave_unsound t = rw bad

    pub speed_unsound : (wishes : List ℕ) → (speed_call a wishes).answer ≡ Refused 11 0
    unfolding speed_call answer_of
    speed_unsound wishes = rw bad

    pub steps_unsound : ((request_call a).answer ≡ Refused 11 0) × ((grant_call a).answer ≡ Refused 11 0) × ((position_call a).answer ≡ Refused 11 0)
    unfolding request_call grant_call position_call answer_of
    steps_unsound = (rw bad, rw bad, rw bad)

    pub report_unsound : reported a ≡ record { answer = Refused 11 0; allocated = 0; free = 0 }
    unfolding reported answer_of
    report_unsound = rw bad

    pub write_unsound : (buffer : List ℕ) → write_answer a buffer ≡ Refused 11 0
    unfolding write_answer answer_of
    write_unsound buffer = rw bad

  -- THE CLAIM: on a sound record a call is answered by the first of its tests after 11 that holds, and a report is done
  module _ (ok : sound a ≡ true) where
    by_rest : (rest : List Test) → placeless rest ≡ true → answer_by (not (sound a) ⇒ 11 ∷ rest) ≡ answer_of (first_of rest).number 0
    by_rest rest plain = rw ok (ap (answer_of (first_of rest).number) (first_placeless rest plain))

    pub enter_sound :
        (t : ℕ) (j : Journey) (v : ℕ)
        → (enter_call a t j v).answer ≡ answer_of (first_of (entry_tests a.tables a.allocations a.trains t j v)).number 0
    unfolding enter_call
    enter_sound t j v = by_rest (entry_tests a.tables a.allocations a.trains t j v) refl

    pub leave_sound : (t : ℕ) → (leave_call a t).answer ≡ answer_of (first_of (exit_tests a.tables a.trains t)).number 0
    unfolding leave_call
    leave_sound t = by_rest (exit_tests a.tables a.trains t) refl

    pub speed_sound : (wishes : List ℕ) → (speed_call a wishes).answer ≡ answer_of (first_of (wish_tests a.due (length wishes))).number 0
    unfolding speed_call
    speed_sound wishes = by_rest (wish_tests a.due (length wishes)) refl

    pub request_sound : (request_call a).answer ≡ answer_of (first_of (due_tests request_due a.due)).number 0
    unfolding request_call
    request_sound = by_rest (due_tests request_due a.due) refl

    pub grant_sound : (grant_call a).answer ≡ answer_of (first_of (due_tests grant_due a.due)).number 0
    unfolding grant_call
    grant_sound = by_rest (due_tests grant_due a.due) refl

    pub position_sound : (position_call a).answer ≡ answer_of (first_of (due_tests position_due a.due)).number 0
    unfolding position_call
    position_sound = by_rest (due_tests position_due a.due) refl

    pub report_sound : (reported a).answer ≡ Done
    unfolding reported answer_of
    report_sound = rw ok

    -- THE CLAIM: a write is answered 22 where the buffer has not 2,560 bytes, and only there
    pub write_buffer : (buffer : List ℕ) → (length buffer ≡ 2560 → ⊥) → write_answer a buffer ≡ Refused 22 0
    unfolding write_answer answer_of
    write_buffer buffer other = rw (ok, ne_eqb (length buffer) 2560 other)

    pub write_done : (buffer : List ℕ) → length buffer ≡ 2560 → write_answer a buffer ≡ Done
    unfolding write_answer answer_of
    write_done buffer whole = rw (ok, eq-eqb (length buffer) 2560 whole)
