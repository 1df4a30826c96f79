-- The part that the definition names lies within the file, so it can be cut out there, and its bytes and its place are the definition's.
use Prim.Native.Nat.{◌+◌, ◌-◌}
use mathlib.Core.Path.{◌≡◌, refl}
use native.Mathlib.Omega.{arith}
use Rattle.view.proofs.View.{view_within}
use Rattle.view.proofs.route_view.Goals as goal

pub slice_bounds-result-end : goal.slice_bounds-result-end
slice_bounds-result-end c =
    omega (arith, c.view_of-view.ensures.0, c.view_of-view.ensures.1, view_within c.args.file.now c.args.route)

pub returns : goal.returns
returns c =
    let m : c.view_of-view.result.start + c.view_of-view.result.count - c.view_of-view.result.start ≡ c.view_of-view.result.count = omega arith in
    record { bytes = rw (← c.view_of-view.ensures.0, ← c.view_of-view.ensures.1, m); object = refl; offset = rw (← c.view_of-view.ensures.0) }
