-- DEMAND 3: what is claimed of every list of calls, sentence by sentence. The proof stands in proofs/.
use Rattle.std.specs.Prelude.{ℕ, ◌+◌, ◌≤◌, ◌<◌, ◌≡◌, ◌⊎◌, true, List}
use Rattle.lists.specs.Words.{nth, at}
use Rattle.tables.specs.declared.Tables.{Tables}
use Rattle.decoding.specs.Decoding.{decoded}
use Rattle.trains.specs.Train.{train_at, is_on}
use Rattle.answers.specs.declared.Answer.TheVariants.{Done}
use Rattle.answers.specs.Answers.{number_of, place_of}
use Rattle.loading.specs.Load.{loaded}
use Rattle.area.specs.Sound.{sound}
use Rattle.separation.specs.Calls.{Call}
use Rattle.separation.specs.Runs.{World, after}
use Rattle.separation.specs.Where.{OnArea, route_of, length_of, segment_on, OwnPlace, HasOwn, OnSegment, GrantedNext, position_of, speed_of, still_to_run, reach}

-- T are the tables of the file, w is what a list of calls comes to; t and u are trains, s is a segment, p a place of the train's route
pub record Separated (T : Tables) (w : World) : Type 0 where
  -- "no two trains are on one segment"
  pub apart : (t u s : ℕ) → OnSegment T w t s → OnSegment T w u s → t ≡ u
  -- "every segment that a train is on is allocated to it"
  pub allocated : (t s : ℕ) → OnSegment T w t s → at w.area.allocations s ≡ t
  -- "and its speed isn't above the limit there": "the speed limit remains that of the front's segment". Of the other segments under a
  -- train it is not claimed, and it is not so: once the front has left a slow segment, the train may run faster than that segment's limit
  -- while its rear is still in it
  pub slow : (t p : ℕ) → OwnPlace T w t p → speed_of T w t ≤ at T.limits (segment_on T w t p)
  -- "every allocated segment is one that its train is on or was granted next"
  pub only : (t s : ℕ) → 1 ≤ t → at w.area.allocations s ≡ t → OnSegment T w t s ⊎ GrantedNext T w t s
  -- "every train, braking fully from the next speed step on, stops within the segments then allocated to it": position + the way
  -- still to run is less than the summed lengths of its own segment and of those that follow without a gap
  pub stops : (t p : ℕ) → OwnPlace T w t p → position_of T w t p + still_to_run T w t < reach T w t p
  -- a train on the area has one own segment, where its front is, and no other: it never runs past its route's end
  pub own : (t : ℕ) → OnArea T w t → HasOwn T w t
  -- "the record handed back holds the same trains on, routes": those of the list, with the lengths that the enters named, and the tables
  -- those of the file
  pub tables : w.area.tables ≡ T
  pub trains_on : (t : ℕ) → is_on (train_at w.area.trains t) ≡ w.history.on t
  pub routes : (t : ℕ) → OnArea T w t → (train_at w.area.trains t).route ≡ route_of T w t
  pub lengths : (t : ℕ) → OnArea T w t → (train_at w.area.trains t).length ≡ length_of T w t
  -- "the record's place and position are these": those of the way
  pub places : (t p : ℕ) → OwnPlace T w t p → (train_at w.area.trains t).place ≡ p
  pub positions : (t p : ℕ) → OwnPlace T w t p → (train_at w.area.trains t).position ≡ position_of T w t p
  -- the record is sound, so that no call of the list was answered 11; and every answer's place is 0, as the table of refusals has it.
  -- Answers are counted from 1
  pub is_sound : sound w.area ≡ true
  pub never_unsound : (k : ℕ) → number_of (nth Done w.answers k) ≡ 11 → ⊥
  pub placeless : (k : ℕ) → place_of (nth Done w.answers k) ≡ 0

-- THE CLAIM, proved in proofs/Demand3: for every file that load answers with done, and every list of the six calls, refused ones
-- included, in any order, with any arguments. It holds after every call of a list as well as at its end: the calls up to there are
-- a list too
abbrev pub Demand3 : Type 0
Demand3 = (file : List ℕ) → number_of (loaded file).answer ≡ 0 → (calls : List Call) → Separated (decoded file) (after file calls)
