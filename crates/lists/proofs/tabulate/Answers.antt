use Rattle.std.proofs.Common.{◌∙◌}
use Rattle.std.proofs.lemmas.List.{length-replicate}
use Rattle.lists.proofs.Loops.{make_begin, make_more, make_over}
use Rattle.lists.proofs.Numbered.{each_tabulate}
use Rattle.lists.proofs.tabulate.Goals as goal

pub loop-i-init : goal.loop-i-init
loop-i-init g c = λ f p. make_begin (length-replicate _ _) (length-replicate _ _)

pub loop-i-preserved : goal.loop-i-preserved
loop-i-preserved g c = λ f p. make_more (c.loop-i.invariant f p) c.index-new-i.result c.loop-i-test.true (p _ _ c.f.ensures)

pub returns : goal.returns
returns g c = λ f p. make_over (c.loop-i.invariant f p) c.loop-i-test.false ∙ each_tabulate f _ _ (length-replicate _ _)
