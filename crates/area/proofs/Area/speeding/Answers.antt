use Rattle.std.proofs.Common.{refl, sym, ◌∙◌}
use lib.ListN.{length}
use Rattle.trains.specs.Cycle.{wish_tests}
use Rattle.cycle.proofs.Laws.{sped_beside}
use Rattle.area.specs.Calls.{after_speed, speed_call}
use Rattle.area.proofs.Laws.{found_spots, found_places, unsound_by, refused_by, finished_by}
use Rattle.area.proofs.Area.speeding.Goals as goal

pub returns-in_err-spots : goal.returns-in_err-spots
unfolding speed_call
returns-in_err-spots c =
    let a = c.args.self.now in
    unsound_by (wish_tests a.due (length c.args.wishes.now)) (after_speed a c.args.wishes.now) a _ c.from_residual.ensures.1 (sym c.in_err-spots.was ∙ c.examine.ensures)

pub returns-in_err-check_wishes : goal.returns-in_err-check_wishes
unfolding speed_call
returns-in_err-check_wishes c =
    let a = c.args.self.now in
    let found = found_spots a (sym c.in_ok-spots.was ∙ c.examine.ensures) in
    refused_by (wish_tests a.due (length c.args.wishes.now)) (after_speed a c.args.wishes.now) a _ _ c.from_residual-in_err-check_wishes.ensures.1 found c.in_err-check_wishes.ensures

pub returns : goal.returns
unfolding speed_call after_speed
returns c =
    let a = c.args.self.now in
    let found = sym c.in_ok-spots.was ∙ c.examine.ensures in
    finished_by (wish_tests a.due (length c.args.wishes.now)) (after_speed a c.args.wishes.now) a (found_spots a found) c.in_ok-check_wishes.ensures (rw (sped_beside a.tables a.allocations a.trains (found_places a found) _ c.sped_all.ensures) refl)
