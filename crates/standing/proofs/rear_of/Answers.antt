use mathlib.Core.Path.{sym, ◌∙◌}
use native.Mathlib.Omega.{arith}
use Rattle.trains.proofs.Rear.{rear_more, rear_first, rear_here}
use Rattle.standing.proofs.rear_of.Goals as goal
use Rattle.standing.proofs.rear_of.Goals.{then-loop-p-test+else-back-gt0, else-loop-p-test}

pub loop-p-preserved : goal.loop-p-preserved
loop-p-preserved c =
    rw (c.saturating_sub-back-in-loop-p.ensures, c.length.ensures, c.segment_at.ensures)
    (sym (rear_more _ _ _ c.loop-p.p c.loop-p.back (omega arith) (λ z. omega arith)) ∙ c.loop-p.invariant)

pub returns : goal.returns
returns c =
    let T = c.args.t.now in
    elim c.loop-p-test.branch [
      | then-loop-p-test+else-back-gt0 w ↦ omega (arith, rear_here T.routebytes T.lengths c.args.x.route c.loop-p.p c.loop-p.back (omega arith) (omega arith))
      | else-loop-p-test w ↦ omega (arith, rear_first T.routebytes T.lengths c.args.x.route c.loop-p.p c.loop-p.back (omega arith))
    ]
