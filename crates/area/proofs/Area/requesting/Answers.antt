use Rattle.std.proofs.Common.{refl, sym, ◌∙◌}
use Rattle.trains.specs.Due.{request_due}
use Rattle.trains.specs.Cycle.{due_tests}
use Rattle.cycle.proofs.Laws.{requested_beside}
use Rattle.area.specs.Calls.{after_request, request_call}
use Rattle.area.proofs.Laws.{found_spots, found_places, unsound_by, refused_by, finished_by}
use Rattle.area.proofs.Area.requesting.Goals as goal

pub returns-in_err-spots : goal.returns-in_err-spots
unfolding request_call
returns-in_err-spots c =
    let a = c.args.self.now in
    unsound_by (due_tests request_due a.due) (after_request a) a _ c.from_residual.ensures.1 (sym c.in_err-spots.was ∙ c.examine.ensures)

pub returns-in_err-check_due : goal.returns-in_err-check_due
unfolding request_call
returns-in_err-check_due c =
    let a = c.args.self.now in
    let found = found_spots a (sym c.in_ok-spots.was ∙ c.examine.ensures) in
    refused_by (due_tests request_due a.due) (after_request a) a _ _ c.from_residual-in_err-check_due.ensures.1 found c.in_err-check_due.ensures

pub returns : goal.returns
unfolding request_call after_request
returns c =
    let a = c.args.self.now in
    let found = sym c.in_ok-spots.was ∙ c.examine.ensures in
    finished_by (due_tests request_due a.due) (after_request a) a (found_spots a found) c.in_ok-check_due.ensures (rw (requested_beside a.tables a.allocations a.trains (found_places a found) c.requested_all.ensures) refl)
