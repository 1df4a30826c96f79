-- S(speed) is never below the speed, so with speed due the difference can be taken.
use native.Mathlib.Omega.{arith}
use Rattle.braking.proofs.Laws.{S-above}
use Rattle.soundness.proofs.to_run.Goals as goal

pub overflow_sub-result : goal.overflow_sub-result
overflow_sub-result c =
    omega (arith, c.braking_distance-distance.ensures, S-above c.args.braking c.requires c.args.speed)
