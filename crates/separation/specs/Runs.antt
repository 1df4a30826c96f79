-- A list of calls worked through (document 01, "Whole runs"; document 02, R-4).
use Rattle.std.specs.Prelude.{ℕ, ◌+◌, Bool, true, false, not, ◌&&◌, ◌||◌, List, [], ◌∷◌, ◌++◌, eqb, if◌then◌else◌}
use Rattle.lists.specs.Words.{at}
use Rattle.trains.specs.declared.Train.{Train}
use Rattle.trains.specs.Train.{Journey, journey_of, off, train_at}
use Rattle.answers.specs.declared.Answer.{Answer}
use Rattle.area.specs.declared.Area.{Area}
use Rattle.area.specs.declared.Outcome.{Outcome}
use Rattle.answers.specs.Answers.{number_of}
use Rattle.loading.specs.Load.{loaded}
use Rattle.separation.specs.Calls.{Call, Enter, Leave, Speed, Request, Grant, Position, called}

-- what the list tells of each train by its number; nothing of it is read off the record's trains on, routes, lengths, places or
-- positions
pub record History : Type 0 where
  -- it is on the area: from an enter of it answered done until the next leave of it answered done
  pub on : ℕ → Bool
  -- the route and the length that this enter named
  pub journey : ℕ → Journey
  -- its way: 0 at that enter, and more by its speed at each position step answered done
  pub way : ℕ → ℕ
  -- segments by number: a grant step answered done since that enter allocated it to the train
  pub granted : ℕ → ℕ → Bool

-- the area record as the calls hand it on, what the list tells, and the answers in their order
pub record World : Type 0 where
  pub area : Area
  pub history : History
  pub answers : List Answer

-- f, but x at n
abbrev pub put : {A : Type 0} → (ℕ → A) → ℕ → A → ℕ → A
put f n x k = if eqb k n then x else f k

-- an enter of train t on journey j
abbrev pub at_enter : History → ℕ → Journey → History
at_enter h t j =
    record { on = put h.on t true; journey = put h.journey t j; way = put h.way t 0; granted = put h.granted t (λ (s : ℕ). false) }

abbrev pub at_leave : History → (t : ℕ) → History
at_leave h t = record { on = put h.on t false; journey = h.journey; way = h.way; granted = h.granted }

-- a grant step, by the allocations before (A) and after it (A'); "allocated it to the train": changed the holder to this train
abbrev pub at_grant : History → (A A' : List ℕ) → History
at_grant h A A' =
    record {
      on = h.on;
      journey = h.journey;
      way = h.way;
      granted = λ (t s : ℕ). h.granted t s || (not (eqb (at A s) t) && eqb (at A' s) t);
    }

-- a position step of the trains X
abbrev pub at_position : History → (X : List Train) → History
at_position h X = record { on = h.on; journey = h.journey; way = λ (t : ℕ). h.way t + (train_at X t).speed; granted = h.granted }

-- what a call answered done adds; a is the record that it was handed, b the one that it handed back
unfoldable pub noted : History → Call → (a b : Area) → History
noted h (Enter t j v) a b = at_enter h t j
noted h (Leave t) a b = at_leave h t
noted h (Speed wishes) a b = h
noted h Request a b = h
noted h Grant a b = at_grant h a.allocations b.allocations
noted h Position a b = at_position h a.trains

abbrev pub is_done : Answer → Bool
is_done x = eqb (number_of x) 0

-- each call is handed the record that the one before handed back, after a refusal too
abbrev pub world_by : World → Call → Outcome → World
world_by w c o =
    record {
      area = o.area;
      history = if is_done o.answer then noted w.history c w.area o.area else w.history;
      answers = w.answers ++ (o.answer ∷ []);
    }

unfoldable pub next : World → Call → World
next w c = world_by w c (called w.area c)

unfoldable pub after_from : World → List Call → World
after_from w [] = w
after_from w (c ∷ calls) = after_from (next w c) calls

-- before the first call
abbrev pub no_history : History
no_history =
    record { on = λ (t : ℕ). false; journey = λ (t : ℕ). journey_of off; way = λ (t : ℕ). 0; granted = λ (t s : ℕ). false }

unfoldable pub begin : Area → World
begin a = record { area = a; history = no_history; answers = [] }

-- after a list of calls that starts from the record that load gives of a file
unfoldable pub after : (file : List ℕ) → List Call → World
after file calls = after_from (begin (loaded file).area) calls
