-- What a train's rear leaves at a position step (document 02, R-4), as the step works it out. That just this is freed is law `left_is`
-- (trains/Freed): at most one segment is.
use Rattle.std.specs.Prelude.{ℕ, not, ◌&&◌, List, eqb, if◌then◌else◌}
use Rattle.tables.specs.declared.Tables.{Tables}
use Rattle.tables.specs.Tables.{segment_at}
use Rattle.trains.specs.declared.Train.{Train}
use Rattle.trains.specs.Train.{is_on, rear_in}

-- the segment at the place of the rear before the step, where that is not the place of the rear of the train after it; 0 where it is
unfoldable pub left_in : (routebytes lengths : List ℕ) (rear : ℕ) → Train → ℕ
left_in routebytes lengths rear x =
    if is_on x && not (eqb (rear_in routebytes lengths x) rear) then segment_at routebytes x.route rear else 0

abbrev pub left_of : Tables → ℕ → Train → ℕ
left_of T = left_in T.routebytes T.lengths
