-- The loop stops at the first byte that is not zero, which makes the test false; where it comes to the end, every byte was zero.
use Prim.Native.Nat.{ℕ, ◌+◌, ◌-◌}
use mathlib.Core.Path.{◌≡◌}
use mathlib.Core.Bool.{Bool, true}
use mathlib.Core.List.{List}
use lib.Dec.{eqb}
use Rattle.lists.specs.Words.{every}
use Rattle.file.specs.Bytes.{byte_at}
use Rattle.octets.proofs.are_zeros.Given as goal

abbrev pub zeroAt : List ℕ → ℕ → ℕ → Bool
zeroAt s first k = eqb (byte_at s (first + k - 1)) 0

abbrev pub invariant-loop-i : goal.invariant-loop-i
invariant-loop-i l = every (l.i - l.first) (zeroAt l.s l.first) ≡ true
