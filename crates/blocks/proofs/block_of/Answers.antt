-- A file of 2,560 bytes holds five whole blocks, so for k below 5 the 512 bytes from 512 * k on are there: they are block k.
use Prim.Native.Nat.{ℕ, ◌+◌, ◌*◌, ◌-◌}
use mathlib.Core.Path.{◌≡◌, ap}
use native.Mathlib.Omega.{arith}
use lib.ListN.{take, drop, length-take, length-drop}
use Rattle.file.specs.Blocks.{block}
use Rattle.blocks.proofs.block_of.Goals as goal

pub returns : goal.returns
unfolding block
returns c =
    let e : 512 * c.args.k + 512 - 512 * c.args.k ≡ 512 = omega arith in
    (ap (λ (n : ℕ). take n (drop (512 * c.args.k) c.args.file.now)) e, simp (length-take, length-drop) (omega (arith, c.told-file)))
