-- The invariant is the sentence of document 02, R-5. It holds before the first turn, after a turn and after the last, and at the end it
-- gives the answer: one law for each.
use Rattle.braking.specs.KeptSpeed.{KeptSum}
use Rattle.braking.proofs.braking_distance.Given as goal

abbrev pub invariant-loop-falling : goal.invariant-loop-falling
invariant-loop-falling l = KeptSum l.braking l.speed l.sum l.falling

abbrev pub decreases-loop-falling : goal.decreases-loop-falling
decreases-loop-falling l = l.falling
