-- Every call on a sound record hands back a sound one, whether a list from a file leads to that record or not (docs/RULES.md, "A sound
-- record").
use Rattle.std.specs.Prelude.{◌≡◌, true, length}
use Rattle.tables.specs.Bounds.{most_segments}
use Rattle.trains.specs.Train.{most_trains}
use Rattle.area.specs.declared.Area.{Area}
use Rattle.area.specs.Sound.{sound}
use Rattle.separation.specs.Calls.{Call, called}

-- a sound record; that it has 62 allocations and 24 trains is what the type of a record says
pub record SoundRecord (a : Area) : Type 0 where
  pub segments : length a.allocations ≡ most_segments
  pub numbers : length a.trains ≡ most_trains
  pub ok : sound a ≡ true

-- THE CLAIM, proved in proofs/Stays: whatever call it is, and whether it is done or refused
abbrev pub StaysSound : Type 0
StaysSound = (a : Area) (c : Call) → SoundRecord a → SoundRecord (called a c).area
