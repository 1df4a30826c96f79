use Rattle.std.proofs.Common.{refl, sym, ◌∙◌}
use Rattle.trains.specs.EnterLeave.{exit_tests}
use Rattle.area.specs.Calls.{after_leave, leave_call}
use Rattle.area.proofs.Laws.{found_spots, unsound_by, refused_by, finished_by}
use Rattle.area.proofs.Area.leaving.Goals as goal

pub returns-in_err-examine : goal.returns-in_err-examine
unfolding leave_call
returns-in_err-examine c =
    let a = c.args.self.now in
    unsound_by (exit_tests a.tables a.trains c.args.train) (after_leave a c.args.train) a _ c.from_residual.ensures.1 (sym c.in_err-examine.was ∙ c.examine.ensures)

pub returns-in_err-n : goal.returns-in_err-n
unfolding leave_call
returns-in_err-n c =
    let a = c.args.self.now in
    let found = found_spots a (sym c.in_ok-examine.was ∙ c.examine.ensures) in
    refused_by (exit_tests a.tables a.trains c.args.train) (after_leave a c.args.train) a _ _ c.from_residual-in_err-n.ensures.1 found c.in_err-n.ensures.tests

pub returns : goal.returns
unfolding leave_call after_leave
returns c =
    let a = c.args.self.now in
    let found = sym c.in_ok-examine.was ∙ c.examine.ensures in
    finished_by (exit_tests a.tables a.trains c.args.train) (after_leave a c.args.train) a (found_spots a found) c.in_ok-n.ensures.tests (rw (c.freed_all.ensures, c.with_entry.ensures, c.off.ensures, c.in_ok-n.ensures.number) refl)
