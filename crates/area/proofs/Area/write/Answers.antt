use Rattle.std.proofs.Common.{refl}
use Rattle.answers.proofs.Answers.{answer_done}
use Rattle.answers.proofs.Refusals.{refused_answer}
use Rattle.area.specs.Write.{write_answer}
use Rattle.area.proofs.Area.write.Goals as goal

pub returns-in-Ok-clause-value : goal.returns-in-Ok-clause-value
unfolding write_answer
returns-in-Ok-clause-value c = rw (← c.in-Ok.ensures.answer, answer_done 0 0 refl) refl

pub returns-in-Err-clause-value : goal.returns-in-Err-clause-value
unfolding write_answer
returns-in-Err-clause-value c = rw (c.at.ensures, ← c.in-Err.ensures.answer, refused_answer c.in-Err.refusal 0) refl
