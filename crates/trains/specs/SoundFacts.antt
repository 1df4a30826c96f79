-- What the conditions of "A sound record" on a train and on an allocation mean, as plain facts (document 01; document 02, R-4).
-- T are the tables of the area, A its allocations, due the step due, t the number of a train, x the train, s a segment, h who holds it.
use Rattle.std.specs.Prelude.{ℕ, ◌+◌, ◌≤◌, ◌<◌, ◌≡◌, ◌⊎◌, true, false, ◌&&◌, List, eqb}
use Rattle.lists.specs.Words.{at}
use Rattle.tables.specs.declared.Tables.{Tables}
use Rattle.tables.specs.Tables.{count_of, segment_at, braking_distance}
use Rattle.trains.specs.declared.Train.{Train}
use Rattle.trains.specs.Due.{speed_due, grant_due}
use Rattle.trains.specs.Train.{longest_train, asking, train_at, own_length, own_limit, next_limit, holds_next}
use Rattle.trains.specs.Spot.{spot_of}
use Rattle.trains.specs.Cycle.{wants}
use Rattle.trains.specs.Sound.{to_run}
use Rattle.trains.specs.Way.{start_after, way_of}

-- the segment at place p of its route is under it, lengths summed from the route's start: its front has arrived there, and its rear, which
-- lies its length behind, is neither at that segment's end nor past it
pub record UnderBy (T : Tables) (x : Train) (p : ℕ) : Type 0 where
  pub place : (1 ≤ p) × (p ≤ x.place)
  pub rear : way_of T x < start_after T x.route p + x.length

-- segment s is under it; segment s is its next
pub record IsUnder (T : Tables) (x : Train) (s : ℕ) : Type 0 where
  pub place : ℕ
  pub under : UnderBy T x place
  pub segment : segment_at T.routebytes x.route place ≡ s

pub record IsNext (T : Tables) (x : Train) (s : ℕ) : Type 0 where
  pub later : x.place < count_of T.routebytes x.route
  pub segment : segment_at T.routebytes x.route (x.place + 1) ≡ s

-- a train on
pub record SoundTrain (T : Tables) (A : List ℕ) (due t : ℕ) (x : Train) : Type 0 where
  pub route : x.route ≤ T.routes
  pub place : (1 ≤ x.place) × (x.place ≤ count_of T.routebytes x.route)
  pub position : x.position < own_length T x
  pub speed : x.speed ≤ own_limit T x
  pub length : (1 ≤ x.length) × (x.length ≤ longest_train)
  -- every segment under it is allocated to it
  pub under : (s : ℕ) → IsUnder T x s → at A s ≡ t
  -- while next is not allocated to it, or there is none
  pub stops : holds_next T (at A) t x ≡ false → x.position + to_run (braking_distance T) due x.speed < own_length T x
  -- while next is allocated to it, another step is due and position + speed ≥ length
  pub next : holds_next T (at A) t x ≡ true → speed_due < due → own_length T x ≤ x.position + x.speed → x.speed ≤ next_limit T x
  -- asking is 1 exactly then, and 0 otherwise
  pub asks : x.asks ≡ asking (eqb due grant_due && wants (spot_of T (at A) t x))

-- an allocation that is not 0
pub record SoundAllocation (T : Tables) (trains : List Train) (s h : ℕ) : Type 0 where
  pub segment : s ≤ T.segments
  pub on : 1 ≤ (train_at trains h).route
  pub whose : IsUnder T (train_at trains h) s ⊎ IsNext T (train_at trains h) s
