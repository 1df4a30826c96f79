-- What the test of an area's trains asks of them and of where they stand, which consistent tables give.
use Rattle.std.specs.Prelude.{ℕ, ◌≤◌, ◌≡◌, true, List}
use Rattle.tables.specs.Tables.{distance_in}
use Rattle.trains.specs.declared.Train.{Train}
use Rattle.trains.specs.declared.Spot.{Spot}
use Rattle.trains.specs.Train.{train_at}
use Rattle.trains.specs.Sound.{place_sound}
use Rattle.standing.specs.Spots.{spot_at}

-- of a train whose place is sound, S(limit) ≤ `d`
pub record Stopping (R b d : ℕ) (spots : List Spot) (trains : List Train) : Type 0 where
  pub rate : 1 ≤ b
  pub stops :
      (t : ℕ) → 1 ≤ (train_at trains t).route → place_sound R (spot_at spots t) (train_at trains t) ≡ true → distance_in b (spot_at spots t).limit ≤ d
