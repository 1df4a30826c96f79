-- The call that the code reads of a record, as one of those that stand in a list.
use Rattle.separation.specs.Calls as list
use Rattle.runs.specs.declared.Call as code
use Rattle.runs.specs.declared.Call.TheVariants.{Enter, Leave, Speed, Request, Grant, Position}

abbrev pub spelled : code.TheVariants.the_data → list.Call
spelled (Enter t r v l) = list.Enter t (record { route = r; length = l }) v
spelled (Leave t) = list.Leave t
spelled (Speed wishes) = list.Speed wishes.now
spelled Request = list.Request
spelled Grant = list.Grant
spelled Position = list.Position
