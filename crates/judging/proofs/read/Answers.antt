-- The bytes that are looked at are the caller's whole file.
use Rattle.judging.proofs.Sized.{read_sized}
use Rattle.judging.proofs.read.Goals as goal

pub returns-in-Ok : goal.returns-in-Ok
returns-in-Ok c =
    let whole = c.in-Ok.ensures.1 in read_sized _ _ _ whole.long whole.same c.judge.ensures.verdict c.judge.ensures.tables
