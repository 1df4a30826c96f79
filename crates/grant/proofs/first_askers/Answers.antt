use Prim.Native.Nat.{◌+◌, ◌-◌}
use mathlib.Core.Path.{◌≡◌, ◌∙◌}
use mathlib.Core.Bool.{true}
use native.Mathlib.Omega.{arith}
use borrow.Author.Tests.{eq-eqb, ne_eqb}
use borrow.Author.Rules.{rules}
use Rattle.trains.specs.Train.{most_trains}
use Rattle.grant.proofs.Askers.{overtakes, askers_begin, askers_taken, askers_kept, askers_over}
use Rattle.grant.proofs.first_askers.Goals as goal
use Rattle.grant.proofs.first_askers.Goals.{then-u-eq0, then-u-eq0-via-then-u-eq0, then-u-eq0-via-else-u-eq0+then-goes_before, else-u-eq0+else-goes_before}

pub loop-n-init : goal.loop-n-init
loop-n-init c = askers_begin _ _

pub loop-n-preserved : goal.loop-n-preserved
loop-n-preserved c =
    let one : c.loop-n.n + 1 - 1 ≡ c.loop-n.n = omega arith in
    let before = c.entry-u.ensures in
    rw one
    (elim c.if-u-eq0.branch [
      | then-u-eq0 w ↦
          let over : overtakes c.args.t.now c.args.trains.now c.loop-n.n c.entry-u.result ≡ true =
          elim w.then-u-eq0.branch [
            | then-u-eq0-via-then-u-eq0 v ↦ rw (eq-eqb _ _ v.if-u-eq0.true)
            | then-u-eq0-via-else-u-eq0+then-goes_before v ↦ rw (ne_eqb _ _ v.if-u-eq0.false, ← v.goes_before.ensures) v.if-goes_before.true
          ] in
          w.first-is ∙ w.set_entry.ensures ∙ askers_taken _ _ _ _ _ _ c.loop-n.auto.n c.loop-n.invariant (search rules) before over
      | else-u-eq0+else-goes_before w ↦
          w.first-is ∙ askers_kept _ _ _ _ _ _ c.loop-n.auto.n c.loop-n.invariant (search rules) before (rw (ne_eqb _ _ w.if-u-eq0.false, ← w.goes_before.ensures) w.if-goes_before.false)
    ])

pub returns : goal.returns
returns c =
    let e : c.loop-n.n - 1 ≡ most_trains = omega arith in
    rw e at c.loop-n.invariant ∙ askers_over _ _
