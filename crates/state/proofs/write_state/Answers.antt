-- The 64 bytes before the trains and then the trains' rows are put into the buffer, and read back as the record, whose arrays have their
-- lengths.
use mathlib.Core.Path.{◌≡◌, ◌∙◌}
use lib.ListN.{length}
use native.Mathlib.Omega.{arith}
use borrow.Author.Rules.{rules}
use Rattle.trains.specs.Train.{most_trains}
use Rattle.state.proofs.Laws.{rows_long, state_put}
use Rattle.state.proofs.Back.{state_back}
use Rattle.state.proofs.write_state.Goals as goal

pub returns : goal.returns
returns c =
    let area = c.args.area.now in
    let segments : length area.allocations ≡ 62 = search rules in
    let rows = c.as_flattened.ensures.value ∙ c.train_rows.ensures in
    let long = rw (rows, rows_long area.trains) at c.as_flattened.ensures.len in
    let trains : length area.trains ≡ most_trains = omega (arith, long) in
    let new = c.put-2.ensures ∙ rw (c.put.ensures, c.head_bytes.ensures, rows) (state_put area segments _) in
    record { buffer_after = new; reads_back = rw new (state_back area segments trains _) }
