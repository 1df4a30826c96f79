-- The conditions of "A sound record" (document 01; document 02, R-4) on one train and on one allocation.
-- T are the tables of the area, A its allocations, due the step due, t the number of a train, x the train, p where it stands, s a
-- segment, h who holds it.
use Rattle.std.specs.Prelude.{ℕ, ◌+◌, ◌-◌, Bool, ◌&&◌, ◌||◌, List, leb, ltb, eqb, if◌then◌else◌}
use Rattle.lists.specs.Words.{at}
use Rattle.tables.specs.declared.Tables.{Tables}
use Rattle.tables.specs.Tables.{braking_distance}
use Rattle.trains.specs.declared.Train.{Train}
use Rattle.trains.specs.declared.Spot.{Spot}
use Rattle.trains.specs.Due.{speed_due, grant_due}
use Rattle.trains.specs.Train.{length_ok, asking, train_at, is_on, occupied, ahead}
use Rattle.trains.specs.Spot.{spot_of}
use Rattle.trains.specs.Cycle.{wants}

-- a train off is all zero: "a train off has count 0" too
abbrev pub off_sound : Train → Bool
off_sound x =
    eqb x.place 0 && eqb x.position 0 && eqb x.speed 0 && eqb x.length 0 && eqb x.asks 0 && eqb x.count 0

-- a train on: route 1 to R, place 1 to the route's count, position < length, speed ≤ limit; "a record with a train on whose length is
-- outside that is unsound"; every segment under it is allocated to it
unfoldable pub place_sound : (R : ℕ) → Spot → Train → Bool
place_sound R p x =
    leb x.route R && leb 1 x.place && leb x.place p.count
    && ltb x.position p.length && leb x.speed p.limit && length_ok x.length && p.holdsall

-- the way still to run under full braking, S being the area's braking distance: B(speed) = S(speed) - speed with speed due, S(speed) with
-- another step due
unfoldable pub to_run : (S : ℕ → ℕ) (due speed : ℕ) → ℕ
to_run S due v = if eqb due speed_due then S v - v else S v

-- while next is not allocated to it, or there is none: position + the way still to run < length;
-- while it is, another step is due and position + speed ≥ length: speed ≤ next's limit
unfoldable pub braking_sound : (S : ℕ → ℕ) (due : ℕ) → Spot → Train → Bool
braking_sound S due p x =
    if p.holds
    then eqb due speed_due || ltb (x.position + x.speed) p.length || leb x.speed p.nextlimit
    else ltb (x.position + to_run S due x.speed) p.length

-- it asks exactly when grant is due, it is near and next exists and isn't its own
unfoldable pub asking_sound : (due : ℕ) → Spot → Train → Bool
asking_sound due p x = eqb x.asks (asking (eqb due grant_due && wants p))

-- all of it, of a train that stands at p
unfoldable pub stands_sound : (R : ℕ) (S : ℕ → ℕ) (due : ℕ) → Spot → Train → Bool
stands_sound R S due p x = if is_on x then place_sound R p x && braking_sound S due p x && asking_sound due p x else off_sound x

abbrev pub train_sound : Tables → List ℕ → ℕ → ℕ → Train → Bool
train_sound T A due t x = stands_sound T.routes (braking_distance T) due (spot_of T (at A) t x) x

-- a segment that is allocated to a train: at most N; the train is on, and the segment is under it or its next
abbrev pub holder_sound : Tables → Train → ℕ → Bool
holder_sound T x s = leb s T.segments && is_on x && (occupied T x s || ahead T x s)

-- an allocation is 0 or the number of a train on; above N it is 0
unfoldable pub allocation_sound : Tables → List Train → ℕ → ℕ → Bool
allocation_sound T trains s h = eqb h 0 || holder_sound T (train_at trains h) s
