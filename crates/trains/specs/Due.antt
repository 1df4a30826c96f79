-- The steps of a cycle (document 01, "The calls": "Order: speed, request, grant, position, speed"). The step due is one of these numbers.
use Rattle.std.specs.Prelude.{ℕ}

abbrev pub speed_due : ℕ
speed_due = 0

abbrev pub request_due : ℕ
request_due = 1

abbrev pub grant_due : ℕ
grant_due = 2

abbrev pub position_due : ℕ
position_due = 3
