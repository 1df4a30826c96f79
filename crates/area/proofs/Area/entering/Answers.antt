use Rattle.std.proofs.Common.{refl, sym, ◌∙◌}
use Rattle.trains.specs.Train.{Journey}
use Rattle.trains.specs.EnterLeave.{entry_tests}
use Rattle.area.specs.Calls.{after_enter, enter_call}
use Rattle.area.proofs.Laws.{found_spots, unsound_by, refused_by, finished_by}
use Rattle.area.proofs.Area.entering.Goals as goal

pub returns-in_err-examine : goal.returns-in_err-examine
unfolding enter_call
returns-in_err-examine c =
    let a = c.args.self.now in
    let j : Journey = record { route = c.args.route; length = c.args.length } in
    unsound_by (entry_tests a.tables a.allocations a.trains c.args.train j c.args.speed) (after_enter a c.args.train j c.args.speed) a _ c.from_residual.ensures.1 (sym c.in_err-examine.was ∙ c.examine.ensures)

pub returns-in_err-entry : goal.returns-in_err-entry
unfolding enter_call
returns-in_err-entry c =
    let a = c.args.self.now in
    let j : Journey = record { route = c.args.route; length = c.args.length } in
    let found = found_spots a (sym c.in_ok-examine.was ∙ c.examine.ensures) in
    refused_by (entry_tests a.tables a.allocations a.trains c.args.train j c.args.speed) (after_enter a c.args.train j c.args.speed) a _ _ c.from_residual-in_err-entry.ensures.1 found c.in_err-entry.ensures.tests

pub returns : goal.returns
unfolding enter_call after_enter
returns c =
    let a = c.args.self.now in
    let j : Journey = record { route = c.args.route; length = c.args.length } in
    let found = sym c.in_ok-examine.was ∙ c.examine.ensures in
    let e = c.in_ok-entry.ensures.entry in
    finished_by (entry_tests a.tables a.allocations a.trains c.args.train j c.args.speed) (after_enter a c.args.train j c.args.speed) a (found_spots a found) c.in_ok-entry.ensures.tests
    (rw (c.with_entry.ensures, c.with_entry-2.ensures, c.entered-x.ensures, e.0, e.1, e.2) refl)
