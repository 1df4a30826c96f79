-- The record is the one that the bytes spell, the run is the script's from that record, and what is written is the state that it comes to.
use Rattle.rbu.proofs.Laws.{record_told}
use Rattle.rbu.proofs.rbu_run_record.Goals as goal

pub returns : goal.returns
returns c =
    record_told c.args.file.now c.args.script.now c.args.answers.now c.args.state.now c.record_of.result c.record_of.ensures _
    c.run-run.ensures.value _ c.run-run.ensures.answers_after _ (c.write_state.ensures.buffer_after, c.write_state.ensures.reads_back)
