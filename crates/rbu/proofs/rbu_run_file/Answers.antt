-- Load's number decides: at 0 the state of the run is written, at any other the buffer stays as it was; the rest is what `run_file` gives.
use Rattle.rbu.proofs.Laws.{told_done, told_refused}
use Rattle.rbu.proofs.rbu_run_file.Goals as goal

pub returns-then-n-eq0 : goal.returns-then-n-eq0
returns-then-n-eq0 c =
    told_done c.args.file.now c.args.script.now c.args.answers.now _ _ c.run_file-ran.ensures _ _ c.tell-n.ensures.0 c.tell-n.ensures.1 _
    c.if-n-eq0.true _ (c.write_state.ensures.buffer_after, c.write_state.ensures.reads_back)

pub returns-else-n-eq0 : goal.returns-else-n-eq0
returns-else-n-eq0 c =
    told_refused c.args.file.now c.args.script.now c.args.answers.now _ _ c.run_file-ran.ensures _ _ c.tell-n.ensures.0 c.tell-n.ensures.1 _
    c.if-n-eq0.false
