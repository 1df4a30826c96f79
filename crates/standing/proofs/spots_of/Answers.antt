use Prim.Native.Nat.{ℕ, ◌+◌}
use mathlib.Core.Path.{◌≡◌, sym, ◌∙◌}
use lib.ListN.{get_or, replicate, length-replicate}
use Rattle.lists.proofs.Numbered.{nth_index, nth_replicate}
use Rattle.lists.proofs.Loops.{make_begin, make_more, make_keep, make_over}
use Rattle.trains.specs.Train.{off}
use Rattle.standing.specs.Spots.{no_spot}
use Rattle.standing.proofs.spots_of.Goals as goal
use Rattle.standing.proofs.spots_of.Goals.{then-is_on, else-is_on}

blank_at : (i : ℕ) → get_or (replicate 24 no_spot) i no_spot ≡ no_spot
blank_at i = sym (nth_index no_spot (replicate 24 no_spot) i) ∙ nth_replicate no_spot 24 (i + 1)

pub loop-i-init : goal.loop-i-init
loop-i-init c = rw c.nowhere-spots.ensures (make_begin c.told-trains (length-replicate 24 no_spot))

pub loop-i-preserved : goal.loop-i-preserved
loop-i-preserved c =
    elim c.if-is_on.branch [
      | then-is_on w ↦ rw w.spots-is (make_more c.loop-i.invariant off c.loop-i-test.true (rw (sym c.is_on.ensures ∙ w.if-is_on.true) w.spot_of.ensures))
      | else-is_on w ↦ rw w.spots-is (make_keep c.loop-i.invariant off no_spot c.loop-i-test.true (rw (sym c.is_on.ensures ∙ w.if-is_on.false) (blank_at c.loop-i.i)))
    ]

pub returns : goal.returns
returns c = make_over c.loop-i.invariant c.loop-i-test.false
