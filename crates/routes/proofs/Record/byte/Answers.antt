-- Counted from 1 the byte is entry 32 * r - 31 + p, so its index is one less, which lies within the 960 bytes.
use Prim.Native.Nat.{◌+◌, ◌-◌, ◌*◌}
use mathlib.Core.Path.{◌≡◌, sym}
use native.Mathlib.Omega.{arith}
use Rattle.lists.proofs.Numbered.{nth_in}
use Rattle.tables.specs.Tables.{segment_at}
use Rattle.routes.proofs.Record.byte.Goals as goal

pub returns : goal.returns
unfolding segment_at
returns c =
    let e : 32 * c.args.self.now.r - 31 + c.args.p - 1 ≡ 32 * c.args.self.now.r - 32 + c.args.p = omega arith in
    sym (rw e at (nth_in 0 c.args.self.now.t.now.routebytes (32 * c.args.self.now.r - 31 + c.args.p) (omega arith)))
