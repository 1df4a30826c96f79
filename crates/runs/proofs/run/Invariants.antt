-- After each call the calls that are left lead from the record in hand to what the whole run comes to, and the numbers of the answers so far
-- stand in the buffer.
use Prim.Native.Nat.{◌*◌}
use mathlib.Core.Path.{◌≡◌}
use lib.ListN.{drop}
use Rattle.runs.proofs.Laws.{Going}
use Rattle.runs.proofs.run.Given as goal

abbrev pub invariant-loop-answer : goal.invariant-loop-answer
invariant-loop-answer l =
    Going l.script l.initial.answers l.initial.area l.answers l.area l.calls × (l.rest ≡ drop (32 * l.calls) l.script) × (l.answer-index ≡ l.calls)
