use Rattle.separation.specs.Calls.{called}
use Rattle.kept.proofs.Laws.{answered}
use Rattle.running.proofs.leave.Goals as goal

pub returns : goal.returns
unfolding called
returns c = answered _ _ _ c.leaving.ensures
