-- The sums are kept whole, which fits 32 bits for 510 bytes: reduced once at the end they are what reducing at each byte gives.
use Prim.Native.Nat.{ℕ, ◌*◌, ◌≤◌, ◌%◌}
use mathlib.Core.Path.{◌≡◌}
use lib.ListN.{take}
use Rattle.file.specs.Layout.{in_tail}
use Rattle.file.specs.Blocks.{Sums, sums}
use Rattle.blocks.proofs.check_of.Given as goal

-- whole sums, reduced
abbrev pub reduced : ℕ → ℕ → Sums
reduced first second = record { first = first % 255; second = second % 255 }

abbrev pub invariant-loop-byte : goal.invariant-loop-byte
invariant-loop-byte l =
    (l.byte-index ≤ 510) × (l.first ≤ 255 * l.byte-index) × (l.second ≤ 130050 * l.byte-index)
    × (sums (take l.byte-index (take in_tail.check l.block)) ≡ reduced l.first l.second)
