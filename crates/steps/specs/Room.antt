-- What the move of a train asks of it, which a sound record's trains meet.
use Rattle.std.specs.Prelude.{◌+◌, ◌<◌}
use Rattle.trains.specs.declared.Train.{Train}

-- its place has room for one more in a byte, and its position for its speed in 32 bits
pub record Room (x : Train) : Type 0 where
  pub place : x.place < 255
  pub position : x.position + x.speed < 4294967296
