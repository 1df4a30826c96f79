use Prim.Native.Nat.{ℕ, ◌+◌, ◌<◌}
use mathlib.Core.List.{List}
use mathlib.Core.Path.{◌≡◌, refl, ap, ◌∙◌}
use native.Mathlib.Nat.{mod-add-mod, add-mod-mod}
use native.Mathlib.Omega.{arith}
use lib.ListN.{length, take, length-take}
use lib.Seq.{get_or-take}
use Rattle.lists.proofs.Loops.{fold_more}
use Rattle.file.specs.Bytes.{byte_at}
use Rattle.file.specs.Blocks.{Sums, sums, add_byte}
use Rattle.blocks.proofs.check_of.Invariants.{reduced}
use Rattle.blocks.proofs.check_of.Goals as goal

-- a byte may be added to the whole sums and the sum reduced after
sums-more :
    (s : List ℕ) (i first second : ℕ) → i < length s → sums (take i s) ≡ reduced first second
    → sums (take (i + 1) s) ≡ reduced (first + byte_at s i) (second + (first + byte_at s i))
unfolding sums
sums-more s i first second below before =
    let b = byte_at s i in
    fold_more add_byte (record { first = 0; second = 0 }) s i 0 below ∙ ap (λ (z : Sums). add_byte z b) before
    ∙ simp (mod-add-mod, add-mod-mod)

pub slice_bounds-byte-items-end : goal.slice_bounds-byte-items-end
slice_bounds-byte-items-end c = simp length-take (omega arith)

pub loop-byte-init : goal.loop-byte-init
unfolding sums
loop-byte-init c = (omega arith, omega arith, omega arith, refl)

pub loop-byte-preserved : goal.loop-byte-preserved
loop-byte-preserved c =
    let i = c.loop-byte.byte-index in
    let long : length (take 510 c.args.block.now) ≡ 510 = simp length-take (omega arith) in
    let below : i < 510 = omega (arith, long) in
    let fits : byte_at (take 510 c.args.block.now) i < 256 = rw (get_or-take 510 c.args.block.now i 0 below) (omega (arith, c.type_inv.block i)) in
    (omega arith, omega (arith, fits), omega (arith, fits), sums-more _ i _ _ (omega (arith, long)) c.loop-byte.invariant.3)
