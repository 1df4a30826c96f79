-- Speed keeps what holds of a train on the area. That rests on the law of the braking distance term by term, which stands here, in a crate
-- without code: only the function of `braking` may sum by it (docs/changes/R-5.md).
use Prim.Native.Nat.{ℕ, ◌+◌, ◌-◌, ◌<◌}
use mathlib.Core.Path.{◌≡◌}
use mathlib.Core.Bool.{Bool, false}
use Rattle.braking.proofs.Laws.{S-step}
use Rattle.tables.specs.declared.Tables.{Tables}
use Rattle.tables.specs.Tables.{braking_distance}
use Rattle.tables.specs.Facts.{Consistent}
use Rattle.trains.specs.declared.Train.{Train}
use Rattle.trains.specs.Due.{speed_due, request_due}
use Rattle.trains.specs.Train.{with_speed, own_length, holds_next}
use Rattle.trains.specs.Spot.{spot_of}
use Rattle.trains.specs.Cycle.{new_speed}
use Rattle.trains.proofs.Safety.{TrainOk}
use Rattle.trains.proofs.SafeSpeed.{stops_by, ok_by}

module _ (T : Tables) (K : Consistent T) where
  -- after a cycle at speed v, the distance of the speed that a cycle of full braking leaves
  pub distance_step : (v : ℕ) → braking_distance T v ≡ v + braking_distance T (v - T.braking)
  distance_step = S-step T.braking K.rate

  module _ (held : ℕ → ℕ) (t : ℕ) (x : Train) (way : ℕ) (got : ℕ → Bool) (ok : TrainOk T speed_due held t x way got) (wish : ℕ) where
    abbrev speed_now : ℕ
    speed_now = new_speed T.braking (spot_of T held t x) x wish

    new_stops : holds_next T held t x ≡ false → x.position + braking_distance T speed_now < own_length T x
    new_stops = stops_by T K held t x way got ok wish (distance_step x.speed)

    pub speed_ok : TrainOk T request_due held t (with_speed x speed_now) way got
    speed_ok = ok_by T K held t x way got ok wish new_stops
