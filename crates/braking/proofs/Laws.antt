-- Laws of S and B, for a braking rate b of at least 1.
use Prim.Native.Nat.{ℕ, zero, suc, ◌+◌, ◌-◌, ◌*◌, ◌≤◌}
use mathlib.Core.Path.{◌≡◌, refl, sym, ap, ◌∙◌}
use native.Mathlib.Nat.{le_trans, le_refl, zero-sub, mul-le-mul, add-le-add}
use native.Mathlib.Omega.{arith}
use Rattle.braking.specs.Braking.{falling_sum, S, B}

-- ---- the sum by its number of terms
sum_of_zero : (n b : ℕ) → falling_sum n b 0 ≡ 0
unfolding falling_sum
sum_of_zero zero b = refl
sum_of_zero (suc n) b = rw zero-sub (omega (arith, sum_of_zero n b))

sum_of_none : (n b v : ℕ) → v ≤ 0 → falling_sum n b v ≡ 0
sum_of_none n b v h = let z : v ≡ 0 = omega arith in rw z (sum_of_zero n b)

-- terms beyond the positive ones add nothing
sum_enough : (n m b v : ℕ) → 1 ≤ b → v ≤ n → v ≤ m → falling_sum n b v ≡ falling_sum m b v
unfolding falling_sum
sum_enough zero zero b v hb hn hm = refl
sum_enough zero (suc m) b v hb hn hm = sym (sum_of_none (suc m) b v hn)
sum_enough (suc n) zero b v hb hn hm = sum_of_none (suc n) b v hm
sum_enough (suc n) (suc m) b v hb hn hm = ap (λ (x : ℕ). v + x) (sum_enough n m b (v - b) hb (omega arith) (omega arith))

sum_mono : (n b v w : ℕ) → v ≤ w → falling_sum n b v ≤ falling_sum n b w
unfolding falling_sum
sum_mono zero b v w h = omega arith
sum_mono (suc n) b v w h = omega (arith, sum_mono n b (v - b) (w - b) (omega arith))

-- twice the sum is at most v * (v + 1): with b = 1 it is that
sum_bound : (n b v : ℕ) → 1 ≤ b → v ≤ n → 2 * falling_sum n b v ≤ v * (v + 1)
unfolding falling_sum
sum_bound zero b v hb h = omega arith
sum_bound (suc n) b zero hb h = omega (arith, sum_of_zero (suc n) b)
sum_bound (suc n) b (suc w) hb h =
    let low : suc w - b ≤ w = omega arith in
    omega (arith, sum_bound n b (suc w - b) hb (omega arith), mul-le-mul low (add-le-add low (le_refl 1)))

-- ---- S
-- THE CLAIM: S(0) = 0
pub S-none : (b v : ℕ) → v ≤ 0 → S b v ≡ 0
unfolding S
S-none b v h = sum_of_none v b v h

module _ (b : ℕ) (rate : 1 ≤ b) where
  -- THE CLAIM: S(v) = v + S(v - b): this cycle's way, and the way from the lowered speed
  pub S-step : (v : ℕ) → S b v ≡ v + S b (v - b)
  unfolding S falling_sum
  S-step v =
      sum_enough v (suc v) b v rate (omega arith) (omega arith)
      ∙ ap (λ (x : ℕ). v + x) (sum_enough v (v - b) b (v - b) rate (omega arith) (omega arith))

  -- THE CLAIM: where v is at most `b`, no term after it is positive: S(v) = v, the last cycle
  pub S-last : (v : ℕ) → v ≤ b → S b v ≡ v
  S-last v h = omega (arith, S-step v, S-none b (v - b) (omega arith))

  pub S-above : (v : ℕ) → v ≤ S b v
  S-above v = omega (arith, S-step v)

  pub S-mono : (v w : ℕ) → v ≤ w → S b v ≤ S b w
  unfolding S
  S-mono v w h = omega (arith, sum_mono w b v w h, sum_enough v w b v rate (omega arith) h)

  -- for every speed up to a top speed; with top 65,535 the bound fits 32 bits
  pub S-bound : (top v : ℕ) → v ≤ top → 2 * S b v ≤ top * (top + 1)
  unfolding S
  S-bound top v h = le_trans (sum_bound v b v rate (le_refl v)) (mul-le-mul h (add-le-add h (le_refl 1)))

  -- ---- B
  -- THE CLAIM: B(v) = S(v - b): the way still run after this cycle is that from the lowered speed
  pub B-step : (v : ℕ) → B b v ≡ S b (v - b)
  unfolding B
  B-step v = omega (arith, S-step v)
