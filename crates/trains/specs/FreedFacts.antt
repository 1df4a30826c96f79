-- When a segment is freed at position, as a plain fact (document 02, R-4: "until the rear is at or past its end, and is freed only then").
use Rattle.std.specs.Prelude.{ℕ, ◌+◌, ◌≤◌, ◌<◌, ◌≡◌}
use Rattle.tables.specs.declared.Tables.{Tables}
use Rattle.tables.specs.Tables.{segment_at}
use Rattle.trains.specs.declared.Train.{Train}
use Rattle.trains.specs.Way.{start_after, way_of}

-- train x runs on by its speed, and so its rear comes to the end of segment s or past it. Said with + since the rear may lie before the
-- route's start
pub record RearPasses (T : Tables) (x : Train) (s : ℕ) : Type 0 where
  pub place : ℕ
  pub of_route : (1 ≤ place) × (place ≤ x.place)
  pub segment : segment_at T.routebytes x.route place ≡ s
  pub before : way_of T x < start_after T x.route place + x.length
  pub after : start_after T x.route place + x.length ≤ way_of T x + x.speed
