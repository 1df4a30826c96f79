use Rattle.std.proofs.lemmas.List.{length-replicate}
use Rattle.lists.proofs.Loops.{make_begin, make_more, make_over}
use Rattle.lists.proofs.each.Goals as goal

pub loop-i-init : goal.loop-i-init
loop-i-init g c = λ f p. make_begin c.told-xs (length-replicate _ _)

pub loop-i-preserved : goal.loop-i-preserved
loop-i-preserved g c = λ f p. make_more (c.loop-i.invariant f p) c.index-xs-i.result c.loop-i-test.true (p _ _ _ c.f.ensures)

pub returns : goal.returns
returns g c = λ f p. make_over (c.loop-i.invariant f p) c.loop-i-test.false
