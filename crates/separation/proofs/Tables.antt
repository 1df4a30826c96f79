-- No call changes the tables: a refusal hands back the record as it came, and each step's record has the tables that it was handed.
use mathlib.Core.Path.{◌≡◌, refl, ◌∙◌}
use mathlib.Core.List.{List, [], ◌∷◌}
use Rattle.lists.specs.Tests.{Test, first_of}
use Rattle.lists.proofs.Cases.{if_case}
use Rattle.trains.specs.Due.{request_due, grant_due, position_due}
use Rattle.area.specs.declared.Area.{Area}
use Rattle.area.specs.Calls.{outcome, enter_tests, leave_tests, speed_tests, step_tests, enter_call, after_enter, leave_call, after_leave, speed_call, after_speed, request_call, after_request, grant_call, after_grant, position_call, after_position}
use Rattle.separation.specs.Calls.{Call, Enter, Leave, Speed, Request, Grant, Position, called}
use Rattle.separation.specs.Runs.{World, next, after_from}

outcome_tables : (tests : List Test) (new a : Area) → new.tables ≡ a.tables → (outcome tests new a).area.tables ≡ a.tables
outcome_tables tests new a e = if_case (λ (x : Area). x.tables ≡ a.tables) (first_of tests).holds (λ _. refl) (λ _. e)

pub called_tables : (a : Area) (c : Call) → (called a c).area.tables ≡ a.tables
unfolding called enter_call after_enter leave_call after_leave speed_call after_speed request_call after_request grant_call after_grant position_call after_position
called_tables a (Enter t j v) = outcome_tables (enter_tests a t j v) (after_enter a t j v) a refl
called_tables a (Leave t) = outcome_tables (leave_tests a t) (after_leave a t) a refl
called_tables a (Speed wishes) = outcome_tables (speed_tests a wishes) (after_speed a wishes) a refl
called_tables a Request = outcome_tables (step_tests request_due a) (after_request a) a refl
called_tables a Grant = outcome_tables (step_tests grant_due a) (after_grant a) a refl
called_tables a Position = outcome_tables (step_tests position_due a) (after_position a) a refl

-- THE CLAIM: after any list of calls from any record the tables are those that it began with
pub after_tables : (w : World) (calls : List Call) → (after_from w calls).area.tables ≡ w.area.tables
unfolding after_from next
after_tables w [] = refl
after_tables w (c ∷ calls) = after_tables (next w c) calls ∙ called_tables w.area c
