-- None fails exactly where all hold.
use Rattle.lists.proofs.Loops.{none_every}
use Rattle.lists.proofs.every.Goals as goal

pub returns : goal.returns
returns g c = λ p e. none_every _ _ _ _ (c.first_failing.ensures p e) c.is_none.ensures
