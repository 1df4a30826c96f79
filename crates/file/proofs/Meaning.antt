-- What the tests of a block mean, in the paper's words.
use Prim.Native.Nat.{ℕ, ◌+◌, ◌-◌, ◌≤◌}
use mathlib.Core.Path.{◌≡◌}
use mathlib.Core.Bool.{true}
use mathlib.Core.List.{List}
use native.Mathlib.Omega.{arith}
use lib.ListN.{take}
use lib.Dec.{eqb}
use borrow.Author.Tests.{eqb-true, eq-eqb}
use Rattle.lists.proofs.Cases.{facts}
use Rattle.lists.proofs.Loops.{every_at, every_all}
use Rattle.file.specs.Bytes.{byte_at, zeros}
use Rattle.file.specs.Layout.{in_tail, kind_of}
use Rattle.file.specs.Blocks.{sums, intact, filed}

-- THE CLAIM: the bytes from the first to the last place are zero, both included
pub zeros_means : (s : List ℕ) (first last : ℕ) → zeros s first last ≡ true → (i : ℕ) → first ≤ i → i ≤ last → byte_at s i ≡ 0
unfolding zeros
zeros_means s first last h i low high =
    let e : first + (i + 1 - first) - 1 ≡ i = omega arith in
    let zero = every_at (λ (k : ℕ). eqb (byte_at s (first + k - 1)) 0) (last + 1 - first) h (i + 1 - first) (omega arith) (omega arith) in
    rw e at (eqb-true (byte_at s (first + (i + 1 - first) - 1)) 0 zero)

-- and bytes that are zero one by one are zeros
pub all_zeros : (s : List ℕ) (first last : ℕ) → ((i : ℕ) → first ≤ i → i ≤ last → byte_at s i ≡ 0) → zeros s first last ≡ true
unfolding zeros
all_zeros s first last zero-at =
    every_all (λ (k : ℕ). eqb (byte_at s (first + k - 1)) 0) (last + 1 - first)
    (λ k low high. eq-eqb (byte_at s (first + k - 1)) 0 (zero-at (first + k - 1) (omega arith) (omega arith)))

module _ (b : List ℕ) where
  -- THE CLAIM: kind, block number and zeros of a block that is filed as block k
  pub filed_means :
      (k : ℕ) → filed b k ≡ true
      → (byte_at b in_tail.kind ≡ kind_of k) × (byte_at b in_tail.number ≡ k)
      × ((i : ℕ) → in_tail.zeros ≤ i → i ≤ in_tail.zeros_last → byte_at b i ≡ 0)
  unfolding filed
  filed_means k h = let f = simp facts at h in (f.0.0.0, f.0.0.1, zeros_means b in_tail.zeros in_tail.zeros_last f.0.1)

  -- THE CLAIM: both sums of a block that is intact are the two that are stored
  pub intact_means :
      intact b ≡ true
      → ((sums (take in_tail.check b)).first ≡ byte_at b in_tail.check) × ((sums (take in_tail.check b)).second ≡ byte_at b (in_tail.check + 1))
  unfolding intact
  intact_means h = let f = simp facts at h in (f.0, f.1)
