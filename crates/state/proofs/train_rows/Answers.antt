-- Each train's row, one after the other.
use Rattle.state.specs.State.{train_bytes}
use Rattle.state.proofs.Laws.{rows_flat}
use Rattle.state.proofs.train_rows.Goals as goal

pub returns : goal.returns
returns c =
    let made = c.each.ensures (λ n x. train_bytes x) (λ n x y p. p) in
    rw made (rows_flat _)
