use Rattle.std.proofs.Common.{refl, sym, ◌∙◌}
use Rattle.trains.specs.Due.{grant_due}
use Rattle.trains.specs.Cycle.{due_tests}
use Rattle.area.specs.Calls.{after_grant, grant_call}
use Rattle.area.proofs.Laws.{found_spots, unsound_by, refused_by, finished_by}
use Rattle.area.proofs.Area.granting.Goals as goal

pub returns-in_err-examine : goal.returns-in_err-examine
unfolding grant_call
returns-in_err-examine c =
    let a = c.args.self.now in
    unsound_by (due_tests grant_due a.due) (after_grant a) a _ c.from_residual.ensures.1 (sym c.in_err-examine.was ∙ c.examine.ensures)

pub returns-in_err-check_due : goal.returns-in_err-check_due
unfolding grant_call
returns-in_err-check_due c =
    let a = c.args.self.now in
    let found = found_spots a (sym c.in_ok-examine.was ∙ c.examine.ensures) in
    refused_by (due_tests grant_due a.due) (after_grant a) a _ _ c.from_residual-in_err-check_due.ensures.1 found c.in_err-check_due.ensures

pub returns : goal.returns
unfolding grant_call after_grant
returns c =
    let a = c.args.self.now in
    let found = sym c.in_ok-examine.was ∙ c.examine.ensures in
    finished_by (due_tests grant_due a.due) (after_grant a) a (found_spots a found) c.in_ok-check_due.ensures (rw (c.calmed_all.ensures, c.granted_all-allocations.ensures) refl)
