-- Where a train is, by its way (document 01, "Whole runs") and its length (document 02, R-4). T are the tables of the file, t is a train,
-- s a segment, p a place of the train's route, counted from 1.
use Rattle.std.specs.Prelude.{ℕ, zero, suc, ◌+◌, ◌-◌, ◌≤◌, ◌<◌, ◌≡◌, true, eqb, if◌then◌else◌}
use Rattle.lists.specs.Words.{at}
use Rattle.tables.specs.declared.Tables.{Tables}
use Rattle.tables.specs.Tables.{count_of, segment_at, braking_distance}
use Rattle.trains.specs.Train.{train_at}
use Rattle.trains.specs.Sound.{to_run}
use Rattle.trains.specs.Way.{start_after}
use Rattle.separation.specs.Runs.{World}

module _ (T : Tables) (w : World) where
  -- train t is on the area
  abbrev pub OnArea : (t : ℕ) → Type 0
  OnArea t = w.history.on t ≡ true

  abbrev pub route_of : (t : ℕ) → ℕ
  route_of t = (w.history.journey t).route

  abbrev pub length_of : (t : ℕ) → ℕ
  length_of t = (w.history.journey t).length

  abbrev pub way_of : (t : ℕ) → ℕ
  way_of t = w.history.way t

  -- the segment at a place of its route
  abbrev pub segment_on : (t p : ℕ) → ℕ
  segment_on t p = segment_at T.routebytes (route_of t) p

  -- its own segment: the one of its route that starts at or before its way and ends beyond it, lengths summed from the route's start
  pub record OwnPlace (t p : ℕ) : Type 0 where
    pub on : OnArea t
    pub place : (1 ≤ p) × (p ≤ count_of T.routebytes (route_of t))
    pub starts : start_after T (route_of t) (p - 1) ≤ way_of t
    pub ends : way_of t < start_after T (route_of t) p

  -- it has one, and no other
  pub record HasOwn (t : ℕ) : Type 0 where
    pub place : ℕ
    pub own : OwnPlace t place
    pub only : (p : ℕ) → OwnPlace t p → p ≡ place

  -- the segment at place p of its route is under it: its front has arrived there, and its rear is neither at that segment's end nor past
  -- it. The rear is at way - length, said with + since it may lie before the route's start
  pub record Under (t p : ℕ) : Type 0 where
    pub on : OnArea t
    pub place : (1 ≤ p) × (p ≤ count_of T.routebytes (route_of t))
    pub arrived : start_after T (route_of t) (p - 1) ≤ way_of t
    pub rear : way_of t < start_after T (route_of t) p + length_of t

  -- "'On a segment' now means that it is under the train": train t is on segment s
  pub record OnSegment (t s : ℕ) : Type 0 where
    pub place : ℕ
    pub under : Under t place
    pub segment : segment_on t place ≡ s

  -- segment s was granted next to it: s is its next, and a grant step answered done since its enter allocated s to it
  pub record GrantedNext (t s : ℕ) : Type 0 where
    pub place : ℕ
    pub own : OwnPlace t place
    pub later : place < count_of T.routebytes (route_of t)
    pub next : segment_on t (place + 1) ≡ s
    pub granted : w.history.granted t s ≡ true

  -- its position: its way less its own segment's start
  abbrev pub position_of : (t p : ℕ) → ℕ
  position_of t p = way_of t - start_after T (route_of t) (p - 1)

  -- its speed is the one that the calls give
  abbrev pub speed_of : (t : ℕ) → ℕ
  speed_of t = (train_at w.area.trains t).speed

  -- the way still to run under full braking: B(speed) with speed due, S(speed) with another step due
  abbrev pub still_to_run : (t : ℕ) → ℕ
  still_to_run t = to_run (braking_distance T) w.area.due (speed_of t)

  -- the summed lengths of the segments of its route from place p on that are allocated to it, up to the first that is not, at most n
  unfoldable pub held_from : (n t p : ℕ) → ℕ
  held_from zero t p = 0
  held_from (suc n) t p = if eqb (at w.area.allocations (segment_on t p)) t then at T.lengths (segment_on t p) + held_from n t (p + 1) else 0

  -- the summed lengths of its own segment and of those allocated to it that follow on its route without a gap
  abbrev pub reach : (t p : ℕ) → ℕ
  reach t p = at T.lengths (segment_on t p) + held_from (count_of T.routebytes (route_of t) - p) t (p + 1)
