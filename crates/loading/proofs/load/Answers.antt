use Rattle.loading.proofs.Loading.{loaded_done, loaded_refused}
use Rattle.loading.proofs.load.Goals as goal

pub returns-in-Ok : goal.returns-in-Ok
returns-in-Ok c = rw c.fresh_area.ensures (loaded_done _ c.in-Ok.ensures)

pub returns-in-Err : goal.returns-in-Err
returns-in-Err c = rw (c.fresh_area-in-Err.ensures, c.at.ensures, c.blank.ensures) (loaded_refused _ _ _ c.in-Err.ensures)
