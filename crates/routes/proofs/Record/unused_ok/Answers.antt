use Prim.Native.Nat.{◌+◌, ◌-◌}
use mathlib.Core.Path.{◌≡◌, sym, ◌∙◌}
use native.Mathlib.Omega.{arith}
use Rattle.lists.proofs.Loops.{every_none, every_next}
use Rattle.tables.specs.Bounds.{longest_route}
use Rattle.routes.proofs.Routes.{blank_record}
use Rattle.routes.proofs.Record.unused_ok.Goals as goal

pub loop-p-init : goal.loop-p-init
loop-p-init c = sym (every_none _)

pub loop-p-preserved : goal.loop-p-preserved
loop-p-preserved c =
    let e : c.loop-p.p + 1 - 1 ≡ c.loop-p.p = omega arith in
    rw (every_next, e, c.byte.ensures, c.loop-p.invariant)

pub returns : goal.returns
returns c = let e : c.loop-p.p ≡ longest_route + 1 = omega (arith, c.loop-p.auto.p-end) in rw e at c.loop-p.invariant ∙ blank_record _ _
