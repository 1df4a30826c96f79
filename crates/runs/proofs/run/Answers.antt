use native.Mathlib.Omega.{arith}
use mathlib.Core.Path.{refl}
use Rattle.runs.proofs.Laws.{going_begin, going_on, going_short, going_other, going_full}
use Rattle.runs.proofs.run.Goals as goal

pub loop-answer-init : goal.loop-answer-init
loop-answer-init c = (going_begin _ _ _, refl, refl)

pub loop-answer-preserved : goal.loop-answer-preserved
loop-answer-preserved c =
    let l = c.loop-answer.invariant in
    let cut = c.in-Some.ensures.cases in
    going_on _ _ _ _ _ _ l.0 l.1 cut.0 cut.1 l.2 (omega arith) c.in-Some-call_of.ensures c.on-outcome.ensures c.number_of.ensures

pub returns-in_default : goal.returns-in_default
returns-in_default c =
    let l = c.loop-answer.invariant in
    going_short _ _ _ _ _ _ l.0 l.1 c.in_default.ensures.cases c.loop-answer.answer-index

pub returns-in_default-call_of : goal.returns-in_default-call_of
returns-in_default-call_of c =
    let l = c.loop-answer.invariant in
    going_other _ _ _ _ _ _ l.0 l.1 c.in-Some.ensures.cases.0 c.in_default-call_of.ensures c.loop-answer.answer-index

pub returns-after-loop-answer : goal.returns-after-loop-answer
returns-after-loop-answer c =
    let l = c.loop-answer.invariant in
    going_full _ _ _ _ _ _ l.0 (omega arith)
