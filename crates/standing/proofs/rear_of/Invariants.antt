-- However far the walk back has come, the rear's place is the one that the definition finds from there.
use mathlib.Core.Path.{◌≡◌}
use Rattle.trains.specs.Train.{rear_from, rear_of}
use Rattle.standing.proofs.rear_of.Given as goal

abbrev pub invariant-loop-p : goal.invariant-loop-p
invariant-loop-p l = rear_from l.t.routebytes l.t.lengths l.x.route l.p l.back ≡ rear_of l.t l.x

abbrev pub decreases-loop-p : goal.decreases-loop-p
decreases-loop-p l = l.p
