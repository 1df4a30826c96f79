-- Where each train of an area stands, as a list beside the trains. A train off stands nowhere.
use Rattle.std.specs.Prelude.{ℕ, false, List, if◌then◌else◌}
use Rattle.lists.specs.Words.{nth, at, each}
use Rattle.tables.specs.declared.Tables.{Tables}
use Rattle.trains.specs.declared.Train.{Train}
use Rattle.trains.specs.declared.Spot.{Spot}
use Rattle.trains.specs.Train.{is_on}
use Rattle.trains.specs.Spot.{spot_of}

-- nowhere
abbrev pub no_spot : Spot
no_spot = record { count = 0; length = 0; limit = 0; rear = 0; holdsall = false; next = 0; nextlimit = 0; holds = false; near = false }

abbrev pub stands_of : Tables → (held : ℕ → ℕ) → ℕ → Train → Spot
stands_of T held t x = if is_on x then spot_of T held t x else no_spot

abbrev pub spots_of : Tables → List ℕ → List Train → List Spot
spots_of T A trains = each (stands_of T (at A)) trains

-- the spot of a train's number
abbrev pub spot_at : List Spot → ℕ → Spot
spot_at = nth no_spot
