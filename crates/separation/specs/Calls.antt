-- The six calls that stand in a list, each with its arguments (document 01, "Whole runs"; document 02, R-4).
use Rattle.std.specs.Prelude.{ℕ, List}
use Rattle.trains.specs.Train.{Journey}
use Rattle.area.specs.declared.Area.{Area}
use Rattle.area.specs.declared.Outcome.{Outcome}
use Rattle.area.specs.Calls.{enter_call, leave_call, speed_call, request_call, grant_call, position_call}

pub data Call : Type 0 where
  Enter : (train : ℕ) (journey : Journey) (speed : ℕ) → Call
  Leave : (train : ℕ) → Call
  Speed : (wishes : List ℕ) → Call
  Request : Call
  Grant : Call
  Position : Call

-- the answer to a call on an area record, and the record that it hands back
unfoldable pub called : Area → Call → Outcome
called a (Enter t j v) = enter_call a t j v
called a (Leave t) = leave_call a t
called a (Speed wishes) = speed_call a wishes
called a Request = request_call a
called a Grant = grant_call a
called a Position = position_call a
