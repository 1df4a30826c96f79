-- The calls on an area (document 01, "The calls" and "Refusals" 11 to 21; document 02, R-4, refusal 23). Each has its tests in the paper's
-- order, of which the first that holds is the answer, and the record that it hands back when none holds; a refusal hands back the record
-- as it came.
use Rattle.std.specs.Prelude.{ℕ, not, List, ◌∷◌, length, if◌then◌else◌}
use Rattle.lists.specs.Words.{each}
use Rattle.lists.specs.Tests.{Test, ◌⇒◌, first_of}
use Rattle.summary.specs.Summary.{summary_of}
use Rattle.trains.specs.Due.{speed_due, request_due, grant_due, position_due}
use Rattle.trains.specs.Train.{Journey, off, entered}
use Rattle.trains.specs.Cycle.{due_tests, wish_tests, sped, requested, moved, freed}
use Rattle.trains.specs.Grant.{granted, calmed}
use Rattle.trains.specs.EnterLeave.{first_segment, taken_by, freed_by, becomes, entry_tests, exit_tests}
use Rattle.area.specs.declared.Area.{Area}
use Rattle.area.specs.declared.Outcome.{Outcome}
use Rattle.area.specs.declared.Report.{Report}
use Rattle.answers.specs.Answers.{answer_of}
use Rattle.area.specs.Sound.{sound}

-- the first test that holds refuses; where none does, the step is finished
abbrev pub outcome_by : Test → Area → Area → Outcome
outcome_by t new old = record { answer = answer_of t.number t.place; area = if t.holds then old else new }

abbrev pub outcome : List Test → Area → Area → Outcome
outcome tests new old = outcome_by (first_of tests) new old

-- ---- enter (train t, journey j, speed v)
abbrev pub enter_tests : Area → ℕ → Journey → ℕ → List Test
enter_tests a t j v = not (sound a) ⇒ 11 ∷ entry_tests a.tables a.allocations a.trains t j v

unfoldable pub after_enter : Area → ℕ → Journey → ℕ → Area
after_enter a t j v =
    record {
      tables = a.tables;
      allocations = each (taken_by (first_segment a.tables j.route) t) a.allocations;
      trains = each (becomes t (entered j v)) a.trains;
      due = a.due;
    }

unfoldable pub enter_call : Area → ℕ → Journey → ℕ → Outcome
enter_call a t j v = outcome (enter_tests a t j v) (after_enter a t j v) a

-- ---- leave (train t)
abbrev pub leave_tests : Area → ℕ → List Test
leave_tests a t = not (sound a) ⇒ 11 ∷ exit_tests a.tables a.trains t

unfoldable pub after_leave : Area → ℕ → Area
after_leave a t =
    record { tables = a.tables; allocations = each (freed_by t) a.allocations; trains = each (becomes t off) a.trains; due = a.due }

unfoldable pub leave_call : Area → ℕ → Outcome
leave_call a t = outcome (leave_tests a t) (after_leave a t) a

-- ---- speed, with wishes
abbrev pub speed_tests : Area → List ℕ → List Test
speed_tests a wishes = not (sound a) ⇒ 11 ∷ wish_tests a.due (length wishes)

unfoldable pub after_speed : Area → List ℕ → Area
after_speed a wishes =
    record {
      tables = a.tables;
      allocations = a.allocations;
      trains = each (sped a.tables a.allocations wishes) a.trains;
      due = request_due;
    }

unfoldable pub speed_call : Area → List ℕ → Outcome
speed_call a wishes = outcome (speed_tests a wishes) (after_speed a wishes) a

-- ---- request, grant, position
abbrev pub step_tests : ℕ → Area → List Test
step_tests step a = not (sound a) ⇒ 11 ∷ due_tests step a.due

unfoldable pub after_request : Area → Area
after_request a =
    record {
      tables = a.tables;
      allocations = a.allocations;
      trains = each (requested a.tables a.allocations) a.trains;
      due = grant_due;
    }

unfoldable pub request_call : Area → Outcome
request_call a = outcome (step_tests request_due a) (after_request a) a

unfoldable pub after_grant : Area → Area
after_grant a =
    let allocations = each (granted a.tables a.trains) a.allocations in
    record {
      tables = a.tables;
      allocations = allocations;
      trains = each (calmed a.tables a.allocations allocations) a.trains;
      due = position_due;
    }

unfoldable pub grant_call : Area → Outcome
grant_call a = outcome (step_tests grant_due a) (after_grant a) a

unfoldable pub after_position : Area → Area
after_position a =
    record {
      tables = a.tables;
      allocations = each (freed a.tables a.trains) a.allocations;
      trains = each (λ (t : ℕ). moved a.tables) a.trains;
      due = speed_due;
    }

unfoldable pub position_call : Area → Outcome
position_call a = outcome (step_tests position_due a) (after_position a) a

-- ---- report: on refusal zeros
unfoldable pub reported : Area → Report
reported a =
    if sound a
    then record {
      answer = answer_of 0 0;
      allocated = (summary_of a.allocations a.tables.segments).allocated;
      free = (summary_of a.allocations a.tables.segments).free;
    }
    else record { answer = answer_of 11 0; allocated = 0; free = 0 }
