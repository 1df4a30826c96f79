use Rattle.std.proofs.Common.{refl, sym, ◌∙◌}
use Rattle.answers.specs.declared.Refusal.TheVariants.{Unsound}
use Rattle.answers.proofs.Answers.{answer_done}
use Rattle.answers.proofs.Refusals.{refused_answer}
use Rattle.area.specs.Calls.{reported}
use Rattle.area.proofs.Laws.{found_spots, found_unsound}
use Rattle.area.proofs.Area.report.Goals as goal

pub returns-in-Err : goal.returns-in-Err
unfolding reported
returns-in-Err c =
    let f = found_unsound c.args.self.now (sym c.in-Err.is ∙ c.examine.ensures) in
    rw (c.at.ensures, f.0, f.1, refused_answer Unsound 0) refl

pub returns : goal.returns
unfolding reported
returns c =
    rw (found_spots c.args.self.now (sym c.in_default.is ∙ c.examine.ensures), c.summary_of-allocated.ensures, answer_done 0 0 refl) refl
