-- The records of a block are 480 bytes of the 960.
use Prim.Native.Nat.{ℕ, ◌+◌, ◌-◌, ◌*◌}
use mathlib.Core.Path.{◌≡◌, ap, ◌∙◌}
use native.Mathlib.Omega.{arith}
use lib.ListN.{take, drop, length-take, length-drop}
use Rattle.encoding.proofs.Rows.{routes_part}
use Rattle.encoding.proofs.route_rows.Goals as goal

pub returns : goal.returns
returns c =
    let e : 32 * c.args.before + 480 - 32 * c.args.before ≡ 480 = omega arith in (
      ap (λ (n : ℕ). take n (drop (32 * c.args.before) c.args.t.now.routebytes)) e ∙ routes_part c.args.t.now.routebytes c.args.before (omega arith),
      simp (length-take, length-drop) (omega arith),
    )
