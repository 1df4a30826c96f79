-- The edges of what is under a train and of what it frees (document 02, R-4), worked out in numbers.
use Prim.Native.Nat.{ℕ}
use mathlib.Core.Path.{◌≡◌, refl}
use mathlib.Core.Bool.{Bool, true, false}
use mathlib.Core.List.{List, [], ◌∷◌}
use lib.ListN.{replicate}
use Rattle.lists.specs.Words.{nth, at, every, least}
use Rattle.tables.specs.declared.Tables.{Tables}
use Rattle.tables.specs.Tables.{segment_at}
use Rattle.trains.specs.declared.Train.{Train}
use Rattle.trains.specs.Train.{own_in, rear_from, rear_in, occupied_in, occupied, holds_all_in}
use Rattle.trains.specs.Cycle.{moves_in, moved_in, released}

-- a line of five segments of 1000 decimetres each, all on route 1
pub line : Tables
line =
    record {
      segments = 5;
      routes = 1;
      gmax = 100;
      braking = 100;
      margin = 100;
      lengths = replicate 5 1000;
      limits = replicate 5 100;
      next = [];
      previous = [];
      flags = [];
      routebytes = 5 ∷ 1 ∷ 2 ∷ 3 ∷ 4 ∷ 5 ∷ [];
    }

-- a train with its front at a position of segment 4
abbrev train : (position speed length : ℕ) → Train
train position speed length = record { route = 1; place = 4; position = position; speed = speed; length = length; asks = 0; count = 0 }

-- which of the segments 1 to 5 are under it; which it frees in a position step
abbrev under : Train → List Bool
under x = occupied line x 1 ∷ occupied line x 2 ∷ occupied line x 3 ∷ occupied line x 4 ∷ occupied line x 5 ∷ []

abbrev frees : Train → List Bool
frees x = released line x 1 ∷ released line x 2 ∷ released line x 3 ∷ released line x 4 ∷ released line x 5 ∷ []

-- THE CLAIM: a rear at a segment's end is not in it, a decimetre further back it is, a decimetre on it is not
pub rear_at_an_end : under (train 500 0 2500) ≡ (false ∷ true ∷ true ∷ true ∷ false ∷ [])
unfolding line occupied_in rear_in rear_from least segment_at nth
rear_at_an_end = refl

pub rear_before_an_end : under (train 500 0 2501) ≡ (true ∷ true ∷ true ∷ true ∷ false ∷ [])
unfolding line occupied_in rear_in rear_from least segment_at nth
rear_before_an_end = refl

pub rear_past_an_end : under (train 501 0 2500) ≡ (false ∷ true ∷ true ∷ true ∷ false ∷ [])
unfolding line occupied_in rear_in rear_from least segment_at nth
rear_past_an_end = refl

-- THE CLAIM: a train of length 1 with its front at a segment's start has the segment behind under it, and a decimetre on its own alone
pub one_long_at_a_start : under (train 0 0 1) ≡ (false ∷ false ∷ true ∷ true ∷ false ∷ [])
unfolding line occupied_in rear_in rear_from least segment_at nth
one_long_at_a_start = refl

pub one_long_past_a_start : under (train 1 0 1) ≡ (false ∷ false ∷ false ∷ true ∷ false ∷ [])
unfolding line occupied_in rear_in rear_from least segment_at nth
one_long_past_a_start = refl

-- THE CLAIM: a rear outside the area: all segments up to the front's are under the train, and no more
pub rear_outside : under (train 500 0 20000) ≡ (true ∷ true ∷ true ∷ true ∷ false ∷ [])
unfolding line occupied_in rear_in rear_from least segment_at nth
rear_outside = refl

-- THE CLAIM: a segment is freed in the step in which the rear comes to its end, not in the one before it and not in the one after it
pub freed_in_its_step : frees (train 490 10 2500) ≡ (true ∷ false ∷ false ∷ false ∷ false ∷ [])
unfolding line occupied_in rear_in rear_from least segment_at nth released moved_in moves_in own_in
freed_in_its_step = refl

pub not_before : frees (train 480 10 2500) ≡ (false ∷ false ∷ false ∷ false ∷ false ∷ [])
unfolding line occupied_in rear_in rear_from least segment_at nth released moved_in moves_in own_in
not_before = refl

pub not_after : frees (train 500 10 2500) ≡ (false ∷ false ∷ false ∷ false ∷ false ∷ [])
unfolding line occupied_in rear_in rear_from least segment_at nth released moved_in moves_in own_in
not_after = refl

-- THE CLAIM: a front that leaves its segment does not free it, be the train as short as it may
pub front_leaves : frees (train 990 10 1) ≡ (false ∷ false ∷ false ∷ false ∷ false ∷ [])
unfolding line occupied_in rear_in rear_from least segment_at nth released moved_in moves_in own_in
front_leaves = refl

-- THE CLAIM: all segments under a train are asked for: the rear's, those between and the front's
pub all_asked :
    (holds_all_in line.routebytes line.lengths (at (0 ∷ 1 ∷ 1 ∷ 1 ∷ [])) 1 (train 500 0 2500) ≡ true)
    × (holds_all_in line.routebytes line.lengths (at (0 ∷ 0 ∷ 1 ∷ 1 ∷ [])) 1 (train 500 0 2500) ≡ false)
    × (holds_all_in line.routebytes line.lengths (at (0 ∷ 1 ∷ 0 ∷ 1 ∷ [])) 1 (train 500 0 2500) ≡ false)
    × (holds_all_in line.routebytes line.lengths (at (0 ∷ 1 ∷ 1 ∷ 0 ∷ [])) 1 (train 500 0 2500) ≡ false)
unfolding line holds_all_in rear_in rear_from every segment_at nth
all_asked = (refl, refl, refl, refl)
