-- The laws of a braking sum whose falling speed is kept: what a loop cites before its first turn, after each, and at its end.
use Prim.Native.Nat.{ℕ, ◌+◌, ◌-◌, ◌≤◌}
use mathlib.Core.Path.{◌≡◌, sym}
use native.Mathlib.Omega.{arith}
use Rattle.braking.specs.Braking.{S}
use Rattle.braking.specs.KeptSpeed.{KeptSum}
use Rattle.braking.proofs.Laws.{S-none, S-step, S-above}

-- THE CLAIM: before the first turn nothing has been added, and the kept speed is v
pub kept_start : (b v : ℕ) → KeptSum b v 0 v
unfolding KeptSum
kept_start b v = omega arith

-- THE CLAIM: once the kept speed is 0, the sum is S(v)
pub kept_end : (b v sum kept : ℕ) → KeptSum b v sum kept → kept ≤ 0 → sum ≡ S b v
unfolding KeptSum
kept_end b v sum kept so_far h = omega (arith, S-none b kept h)

module _ (b : ℕ) (rate : 1 ≤ b) (v sum kept : ℕ) (so_far : KeptSum b v sum kept) where
  -- THE CLAIM: a turn adds the kept speed and lowers it by b, and what was so before it is so after it
  pub kept_turn : KeptSum b v (sum + kept) (kept - b)
  unfolding KeptSum
  kept_turn = omega (arith, S-step b rate kept)

  -- THE CLAIM: so is it after the last turn, which adds a kept speed of at most b and lowers it to 0
  pub kept_last : kept ≤ b → KeptSum b v (sum + kept) 0
  kept_last h = let none : kept - b ≡ 0 = omega arith in rw (sym none) kept_turn

  -- the sum after the turn to come is not above S(v)
  pub kept_within : sum + kept ≤ S b v
  unfolding KeptSum
  kept_within = omega (arith, S-above b rate kept)
