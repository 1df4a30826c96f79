use native.Mathlib.Omega.{arith}
use mathlib.Core.Path.{sym, ◌∙◌}
use Rattle.lists.proofs.Cases.{facts}
use Rattle.routes.proofs.Routes.{bad_count, bad_rest, Counted, walk_begin, first_fails, walk_more, number_fails, step_fails, walk_over}
use Rattle.routes.proofs.Record.used_ok.Goals as goal
use Rattle.routes.proofs.Record.used_ok.Goals.{Else-not-is_blank_after}

counted : (c : Else-not-is_blank_after) → Counted c.args.self.now.t.now.routebytes c.args.self.now.r c.count-count.result
counted c =
    record {
      read = c.count-count.ensures;
      bounds = sym c.is_within.ensures ∙ c.if-not-is_within.false;
      rest = sym c.is_blank_after.ensures ∙ c.if-not-is_blank_after.false;
    }

pub returns-then-not-is_within : goal.returns-then-not-is_within
returns-then-not-is_within c = bad_count _ _ _ _ c.count-count.ensures (sym c.is_within.ensures ∙ c.if-not-is_within.true)

pub returns-then-not-is_blank_after : goal.returns-then-not-is_blank_after
returns-then-not-is_blank_after c = bad_rest _ _ _ _ (sym c.is_blank_after.ensures ∙ c.if-not-is_blank_after.true)

pub returns-then-not-is_within-2 : goal.returns-then-not-is_within-2
returns-then-not-is_within-2 c =
    first_fails _ _ _ _ (counted (goal.at.returns-then-not-is_within-2 c).Else-not-is_blank_after) c.byte-before.ensures
    (sym c.is_within-2.ensures ∙ c.if-not-is_within-2.true)

pub loop-p-init : goal.loop-p-init
loop-p-init c =
    walk_begin _ _ _ _ (counted (goal.at.loop-p-init c).Else-not-is_blank_after) c.byte-before.ensures
    (sym c.is_within-2.ensures ∙ c.if-not-is_within-2.false)

pub byte-segment-requires : goal.byte-segment-requires
byte-segment-requires c = let f = simp facts at c.loop-p.invariant.counted.bounds in omega arith

pub returns-then-not-is_within-3 : goal.returns-then-not-is_within-3
returns-then-not-is_within-3 c =
    number_fails _ _ _ _ c.loop-p.invariant c.loop-p-test.true c.byte-segment.ensures (sym c.is_within-in-loop-p.ensures ∙ c.if-not-is_within-3.true)

pub returns-then-not-links_to : goal.returns-then-not-links_to
returns-then-not-links_to c =
    step_fails _ _ _ _ c.loop-p.invariant c.loop-p-test.true c.byte-segment.ensures (sym c.links_to.ensures ∙ c.if-not-links_to.true)

pub loop-p-preserved : goal.loop-p-preserved
loop-p-preserved c =
    walk_more _ _ _ _ c.loop-p.invariant c.loop-p-test.true c.byte-segment.ensures
    (sym c.is_within-in-loop-p.ensures ∙ c.if-not-is_within-3.false) (sym c.links_to.ensures ∙ c.if-not-links_to.false)

pub returns : goal.returns
returns c = walk_over _ _ _ _ c.loop-p.invariant c.loop-p-test.false
