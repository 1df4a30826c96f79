-- After a refusal nothing is run; after done the run starts from the loaded record, and demand 3 holds of every run.
use Rattle.runs.proofs.Laws.{file_refused, file_run}
use Rattle.runs.proofs.run_file.Goals as goal

pub returns-in-Refused : goal.returns-in-Refused
returns-in-Refused c = file_refused _ _ c.args.answers.now _ c.load-answer.ensures c.in-Refused.is

pub returns : goal.returns
returns c =
    file_run _ _ c.args.answers.now _ c.load-answer.ensures c.in_default.is _ c.run-ran.ensures.value _ c.run-ran.ensures.answers_after
