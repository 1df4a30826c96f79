-- Where the segments of a route start, counted along the route from its entry (document 01, "Whole runs"), and how far along it the
-- record has a train's front.
use Rattle.std.specs.Prelude.{ℕ, zero, suc, ◌+◌, ◌-◌}
use Rattle.lists.specs.Words.{at}
use Rattle.tables.specs.declared.Tables.{Tables}
use Rattle.tables.specs.Tables.{segment_at}
use Rattle.trains.specs.declared.Train.{Train}

-- the summed lengths of the first n segments of route r: segment n + 1 of the route starts there
unfoldable pub start_after : Tables → ℕ → ℕ → ℕ
start_after T r zero = 0
start_after T r (suc n) = start_after T r n + at T.lengths (segment_at T.routebytes r (suc n))

-- the way of a train's front, by the record
abbrev pub way_of : Tables → Train → ℕ
way_of T x = start_after T x.route (x.place - 1) + x.position
