-- The braking sum with the falling speed kept (document 02, R-5). b is the speed lost by one cycle of full braking, v the speed at the
-- start, sum what has been added so far, kept the falling speed. A turn adds the kept speed, and then lowers it by b, to 0 at the last.
use Rattle.std.specs.Prelude.{ℕ, ◌+◌, ◌≡◌}
use Rattle.braking.specs.Braking.{S}

-- "After each turn the sum so far and S of the kept speed together make S(v)"
unfoldable pub KeptSum : (b v sum kept : ℕ) → Type 0
KeptSum b v sum kept = sum + S b kept ≡ S b v
