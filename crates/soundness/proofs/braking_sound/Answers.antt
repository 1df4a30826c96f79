-- A train without next that is more than `d` before its segment's end stops within it, since S(speed) ≤ `d`.
use Prim.Native.Nat.{◌+◌, ◌≤◌}
use native.Mathlib.Omega.{arith}
use borrow.Author.Tests.{lt-ltb}
use Rattle.tables.specs.Tables.{braking_distance}
use Rattle.trains.specs.Sound.{to_run, braking_sound}
use Rattle.trains.proofs.Safety.{run_within}
use Rattle.soundness.proofs.braking_sound.Goals as goal

pub returns-then-position-from-2 : goal.returns-then-position-from-2
unfolding braking_sound
returns-then-position-from-2 c =
    let S = braking_distance c.args.t.now in
    let way = to_run S c.args.due c.args.x.speed in
    let w : way ≤ S c.args.x.speed = run_within S c.args.due c.args.x.speed in
    simp (
      c.if-spot.false,
      lt-ltb (c.from-position.result + c.from-else-spot.result) c.from-length.result c.if-position-from-2.true,
      lt-ltb (c.args.x.position + way) c.args.spot.length (omega (arith, w, c.requires.1)),
    )
