-- Where a train stands: what the tables and the allocations say of it there. The conditions and steps of a train read this.
-- T are the tables of the area, `held` says who holds a segment, t is the number of the train, x the train.
use Rattle.std.specs.Prelude.{ℕ, ◌&&◌, List, ltb, eqb}
use Rattle.lists.specs.Words.{at}
use Rattle.tables.specs.declared.Tables.{Tables}
use Rattle.tables.specs.Tables.{count_of}
use Rattle.trains.specs.declared.Train.{Train}
use Rattle.trains.specs.declared.Spot.{Spot}
use Rattle.trains.specs.Train.{own_in, next_in, near_in, rear_in, holds_all_in}

-- its route's count; its own segment's length and limit; its rear's place, and whether every segment under it is allocated to it; its
-- next, the limit there, and whether it exists and is allocated to it; near
abbrev pub spot_in : (routebytes lengths limits : List ℕ) (d : ℕ) (held : ℕ → ℕ) (t : ℕ) → Train → Spot
spot_in routebytes lengths limits d held t x =
    record {
      count = count_of routebytes x.route;
      length = at lengths (own_in routebytes x);
      limit = at limits (own_in routebytes x);
      rear = rear_in routebytes lengths x;
      holdsall = holds_all_in routebytes lengths held t x;
      next = next_in routebytes x;
      nextlimit = at limits (next_in routebytes x);
      holds = ltb 0 (next_in routebytes x) && eqb (held (next_in routebytes x)) t;
      near = near_in (at lengths (own_in routebytes x)) d x;
    }

abbrev pub spot_of : Tables → (held : ℕ → ℕ) → ℕ → Train → Spot
spot_of T = spot_in T.routebytes T.lengths T.limits T.margin
