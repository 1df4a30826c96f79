-- The braking distance for every rate and speed.
use Rattle.std.specs.Prelude.{ℕ, eqb, if◌then◌else◌}
use Rattle.braking.specs.Braking.{S}

-- 0 at a rate of 0, which no area has
unfoldable pub distance_at : (rate speed : ℕ) → ℕ
distance_at rate speed = if eqb rate 0 then 0 else S rate speed
