-- What becomes of the trains and of one segment's allocation at grant (document 01, "The calls"; document 02, R-2).
-- T are the tables of the area, A its allocations, A' those after the step, t the number of a train, x the train, s the number of a
-- segment, from 1, h who holds it.
use Rattle.std.specs.Prelude.{ℕ, ◌+◌, min, Bool, ◌&&◌, List, eqb, if◌then◌else◌}
use Rattle.lists.specs.Words.{at}
use Rattle.tables.specs.declared.Tables.{Tables}
use Rattle.trains.specs.declared.Train.{Train}
use Rattle.trains.specs.Train.{most_trains, answered, train_at, wanted}
use Rattle.trains.specs.Order.{goes_before, foremost}

-- what a train asks for; 0 where it asks for nothing
unfoldable pub asked : Tables → Train → ℕ
asked T x = if eqb x.asks 1 then wanted T x else 0

-- what the train of a number counts
abbrev pub train_count : List Train → ℕ → ℕ
train_count trains t = (train_at trains t).count

-- who is served first of those that ask for s: none of them goes before it; 0 where none asks
unfoldable pub served : Tables → List Train → ℕ → ℕ
served T trains s = foremost (goes_before (train_count trains)) most_trains (λ (t : ℕ). eqb (asked T (train_at trains t)) s)

-- *Grant*: each unallocated segment goes to the train that is served first. The trains are those before the step, and so are their
-- counts
unfoldable pub granted : Tables → List Train → ℕ → ℕ → ℕ
granted T trains s h = if eqb h 0 then served T trains s else h

-- train t was granted s at this step: s was free before it, and is allocated to t after it
abbrev pub was_granted : (A A' : List ℕ) → ℕ → ℕ → Bool
was_granted A A' t s = eqb (at A s) 0 && eqb (at A' s) t

-- the count stops here
abbrev pub most_count : ℕ
most_count = 65535

-- "each train counts the grant steps at which it asked and got nothing; the count .. stops at 65,535 and returns to 0 on a grant". A
-- train that does not ask keeps its count
unfoldable pub count_after : (asks gets : Bool) → ℕ → ℕ
count_after asks gets count = if asks then (if gets then 0 else min (count + 1) most_count) else count

-- train x of number t after the step: all asking ends, and its count is brought up to date
unfoldable pub calmed : Tables → (A A' : List ℕ) → ℕ → Train → Train
calmed T A A' t x = answered x (count_after (eqb x.asks 1) (was_granted A A' t (asked T x)) x.count)
