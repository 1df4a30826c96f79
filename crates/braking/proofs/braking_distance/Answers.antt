use native.Mathlib.Omega.{arith}
use Rattle.braking.proofs.Laws.{S-bound}
use Rattle.braking.proofs.KeptSpeed.{kept_start, kept_turn, kept_last, kept_end, kept_within}
use Rattle.braking.proofs.braking_distance.Goals as goal

pub loop-falling-init : goal.loop-falling-init
loop-falling-init c = search kept_start

-- the kept speed falls, and the sum fits
pub overflow_add-sum : goal.overflow_add-sum
overflow_add-sum c =
    omega (arith, kept_within c.args.braking (omega arith) c.args.speed c.loop-falling.sum c.loop-falling.falling c.loop-falling.invariant, S-bound c.args.braking (omega arith) 65535 c.args.speed (omega arith))

pub loop-falling-preserved-then-rate-falling : goal.loop-falling-preserved-then-rate-falling
loop-falling-preserved-then-rate-falling c = search kept_turn

pub loop-falling-preserved : goal.loop-falling-preserved
loop-falling-preserved c = search kept_last

pub returns : goal.returns
returns c = search kept_end
