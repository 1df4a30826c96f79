-- The way run under full braking (document 01, "Units and braking"). b is the speed lost by one cycle of full braking, v a speed.
use Rattle.std.specs.Prelude.{ℕ, zero, suc, ◌+◌, ◌-◌}

-- the first n terms of v + (v - b) + (v - 2b) + ..; `-` stops at 0, so a term that is not positive adds nothing
unfoldable pub falling_sum : ℕ → ℕ → ℕ → ℕ
falling_sum zero b v = 0
falling_sum (suc n) b v = v + falling_sum n b (v - b)

-- S(v) of document 01: all the positive terms. With b at least 1 there are at most v of them
unfoldable pub S : ℕ → ℕ → ℕ
S b v = falling_sum v b v

-- B(v) of document 01, the way still run after this cycle
unfoldable pub B : ℕ → ℕ → ℕ
B b v = S b v - v
