-- The same list worked through with trains that keep their way in the place of a place and a position, which are worked out of it wherever
-- the record is looked at (document 01, "Whole runs"; document 02, R-4).
use Rattle.std.specs.Prelude.{ℕ, ◌+◌, ◌-◌, List, [], ◌∷◌, ◌++◌, ltb, eqb, if◌then◌else◌}
use Rattle.lists.specs.Words.{nth, each, tabulate, least}
use Rattle.tables.specs.declared.Tables.{Tables}
use Rattle.tables.specs.Tables.{count_of}
use Rattle.trains.specs.declared.Train.{Train}
use Rattle.trains.specs.Train.{most_trains, Journey, journey_of, off, train_at}
use Rattle.trains.specs.Way.{start_after}
use Rattle.answers.specs.declared.Answer.{Answer}
use Rattle.area.specs.declared.Area.{Area}
use Rattle.area.specs.declared.Outcome.{Outcome}
use Rattle.loading.specs.Load.{loaded}
use Rattle.separation.specs.Calls.{Call, Enter, Leave, Speed, Request, Grant, Position, called}
use Rattle.separation.specs.Runs.{is_done}

-- a train that has a way and neither place nor position, and its length beside the way; route 0 is a train off
pub record WayTrain : Type 0 where
  pub journey : Journey
  pub way : ℕ
  pub speed : ℕ
  pub asks : ℕ
  pub count : ℕ

abbrev pub off_way : WayTrain
off_way = record { journey = journey_of off; way = 0; speed = 0; asks = 0; count = 0 }

pub record WayWorld : Type 0 where
  pub tables : Tables
  pub allocations : List ℕ
  pub trains : List WayTrain
  pub due : ℕ
  pub answers : List Answer

abbrev pub way_train_at : WayWorld → ℕ → WayTrain
way_train_at i t = nth off_way i.trains t

-- the place of a way: the first of the route that ends beyond it
unfoldable pub place_of_way : Tables → (route way : ℕ) → ℕ
place_of_way T r way = least (count_of T.routebytes r) (λ (p : ℕ). ltb way (start_after T r p))

-- the train that the record shows
unfoldable pub shown_train : Tables → WayTrain → Train
shown_train T i =
    if ltb 0 i.journey.route
    then record {
      route = i.journey.route;
      place = place_of_way T i.journey.route i.way;
      position = i.way - start_after T i.journey.route (place_of_way T i.journey.route i.way - 1);
      speed = i.speed;
      length = i.journey.length;
      asks = i.asks;
      count = i.count;
    }
    else off

abbrev pub shown : WayWorld → Area
shown i = record { tables = i.tables; allocations = i.allocations; trains = each (λ (t : ℕ). shown_train i.tables) i.trains; due = i.due }

-- a way after a call answered done: 0 at an enter, and more by the speed at a position step
abbrev pub way_after : Call → (t : ℕ) → WayTrain → ℕ
way_after (Enter u j v) t i = if eqb t u then 0 else i.way
way_after (Leave u) t i = i.way
way_after (Speed wishes) t i = i.way
way_after Request t i = i.way
way_after Grant t i = i.way
way_after Position t i = i.way + i.speed

-- journey, speed, asking and count are those of the train that the call hands back
abbrev pub way_train_by : WayWorld → Call → Outcome → ℕ → WayTrain
way_train_by i c o t =
    record {
      journey = journey_of (train_at o.area.trains t);
      way = if is_done o.answer then way_after c t (way_train_at i t) else (way_train_at i t).way;
      speed = (train_at o.area.trains t).speed;
      asks = (train_at o.area.trains t).asks;
      count = (train_at o.area.trains t).count;
    }

abbrev pub way_world_by : WayWorld → Call → Outcome → WayWorld
way_world_by i c o =
    record {
      tables = o.area.tables;
      allocations = o.area.allocations;
      trains = tabulate most_trains (way_train_by i c o);
      due = o.area.due;
      answers = i.answers ++ (o.answer ∷ []);
    }

unfoldable pub next_by_ways : WayWorld → Call → WayWorld
next_by_ways i c = way_world_by i c (called (shown i) c)

unfoldable pub by_ways_from : WayWorld → List Call → WayWorld
by_ways_from i [] = i
by_ways_from i (c ∷ calls) = by_ways_from (next_by_ways i c) calls

unfoldable pub by_ways : (file : List ℕ) → List Call → WayWorld
by_ways file calls =
    by_ways_from
    (record {
      tables = (loaded file).area.tables;
      allocations = (loaded file).area.allocations;
      trains = tabulate most_trains (λ (t : ℕ). off_way);
      due = (loaded file).area.due;
      answers = [];
    })
    calls
