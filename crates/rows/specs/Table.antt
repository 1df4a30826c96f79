-- The certain values and the edges of document 01 ("Units and braking" and "Area A") and of document 02, R-2 to R-4, as rows of one
-- table, with one computed test.
use Rattle.std.specs.Prelude.{ℕ, Bool, true, false, not, ◌&&◌, List, [], ◌∷◌, eqb}
use Rattle.lists.specs.Words.{at, every}
use Rattle.braking.specs.Braking.{S, B}
use Rattle.tables.specs.Bounds.{smaller_bounds}
use Rattle.trains.specs.declared.Train.{Train}
use Rattle.trains.specs.Due.{position_due}
use Rattle.trains.specs.Train.{Journey, off, train_at}
use Rattle.trains.specs.Sound.{train_sound, allocation_sound}
use Rattle.area.specs.declared.Area.{Area}
use Rattle.answers.specs.declared.Answer.{Answer}
use Rattle.answers.specs.Answers.{number_of, place_of}
use Rattle.loading.specs.Load.{loaded}
use Rattle.loading.specs.Before.{loaded_within}
use Rattle.area.specs.Calls.{enter_call, grant_call, position_call}
use Rattle.separation.specs.Calls.{Call, Enter}
use Rattle.separation.specs.Runs.{is_done, after}
use Rattle.rows.specs.AreaA.{header, segments, file, header_a, segments_a, header_fast, segments_fast, segments_slow, segments1000, segments1, moving, merging, beyond, on, line, fourth}

pub data Row : Type 0 where
  -- with this b, S(v) = way; and B(v) = way
  ValueS : (b v way : ℕ) → Row
  ValueB : (b v way : ℕ) → Row
  -- load answers this file with this number and place; and with the smaller bounds
  Load : (bytes : List ℕ) (number place : ℕ) → Row
  Before : (bytes : List ℕ) (number place : ℕ) → Row
  -- after the call position on this record, the train has this place and position; and segment 1 is allocated so
  Move : (before : Area) (train place position : ℕ) → Row
  Held : (before : Area) (holder : ℕ) → Row
  -- after the call grant on this record, segment 3 is allocated so, and trains 1 and 2 count so
  Grants : (before : Area) (holder count1 count2 : ℕ) → Row
  -- position answers this record with this number; and an enter of train 1 at this speed into the area that load makes of this file
  Moves : (before : Area) (number : ℕ) → Row
  Enters : (bytes : List ℕ) (journey : Journey) (speed number : ℕ) → Row
  -- on the line, a train 1 that stands so is sound with these allocations of segments 1 to 5; and each allocation is
  Stands : (x : Train) (allocations : List ℕ) (trainOk allocationsOk : Bool) → Row
  -- load answers this file with done, and after these calls the train is on the area and the segment is allocated to it
  Run : (bytes : List ℕ) (calls : List Call) (train segment : ℕ) → Row
  -- an edge in two halves
  Both : Row → Row → Row

-- an answer has this number and place
abbrev pub is : Answer → (number place : ℕ) → Bool
is answer number place = eqb (number_of answer) number && eqb (place_of answer) place

-- two tests agree
abbrev pub same : Bool → Bool → Bool
same true b = b
same false b = not b

-- the test of one row
unfoldable pub holds : Row → Bool
holds (ValueS b v way) = eqb (S b v) way
holds (ValueB b v way) = eqb (B b v) way
holds (Load bytes number place) = is (loaded bytes).answer number place
holds (Before bytes number place) = is (loaded_within smaller_bounds bytes).answer number place
holds (Move before train place position) =
    eqb (train_at (position_call before).area.trains train).place place
    && eqb (train_at (position_call before).area.trains train).position position
holds (Held before holder) = eqb (at (position_call before).area.allocations 1) holder
holds (Grants before holder count1 count2) =
    eqb (at (grant_call before).area.allocations 3) holder
    && eqb (train_at (grant_call before).area.trains 1).count count1
    && eqb (train_at (grant_call before).area.trains 2).count count2
holds (Moves before number) = eqb (number_of (position_call before).answer) number
holds (Enters bytes journey speed number) = eqb (number_of (enter_call (loaded bytes).area 1 journey speed).answer) number
holds (Stands x allocations trainOk allocationsOk) =
    same (train_sound line allocations position_due 1 x) trainOk
    && same (every 5 (λ (s : ℕ). allocation_sound line (x ∷ []) s (at allocations s))) allocationsOk
holds (Run bytes calls train segment) =
    is_done (loaded bytes).answer && (after bytes calls).history.on train && eqb (at (after bytes calls).area.allocations segment) train
holds (Both x y) = holds x && holds y

-- the test of all rows
unfoldable pub all_hold : List Row → Bool
all_hold [] = true
all_hold (x ∷ rows) = holds x && all_hold rows

-- the values of S and B, the four edges of document 01, the edges of R-3, two runs, the edges of R-4, a train too fast for its next, and
-- the edges of R-2
unfoldable pub table : List Row
table =
    ValueS 10 5 5
    ∷ ValueS 10 10 10
    ∷ ValueS 10 11 12
    ∷ ValueS 10 295 4500
    ∷ ValueS 10 300 4650
    ∷ ValueS 300 300 300
    ∷ ValueS 1 1000 500500
    -- "b = 1 and v = 2000 gives 2,001,000"
    ∷ ValueS 1 2000 2001000
    ∷ ValueB 10 300 4350
    -- "`d` 4649 is 5"
    ∷ Load (file (header 300 10 4649 121 41) segments_a) 5 0
    -- "Length 4950 is 6, 4951 passes"
    ∷ Both
    (Load (file header_a (segments 6000 300 4950 290 8000 290 211 174)) 6 2)
    (Load (file header_a (segments 6000 300 4951 290 8000 290 212 158)) 0 0)
    -- "Limit 289 on segment 3 is 9"
    ∷ Load (file header_a (segments 6000 300 5500 290 8000 289 250 78)) 9 1
    -- "Position + speed equal to the length moves on to 0"
    ∷ Move (moving 1 5710 290 1 1 1) 1 2 0
    -- "`gmax` may be 1 to 2000": 2000 passes, 2001 is 4
    ∷ Both (Load (file (header 2000 1 2003001 199 142) segments_fast) 0 0) (Load (file (header 2001 1 2003001 200 138) segments_fast) 4 0)
    -- S(2000) in rule 5: with `b` 1, `d` 2,001,000 passes and 2,000,999 is 5
    ∷ Both (Load (file header_fast segments_fast) 0 0) (Load (file (header 2000 1 2000999 237 101) segments_fast) 5 0)
    -- "lengths may be up to 4,000,000": 4,000,000 passes, 4,000,001 is 6
    ∷ Both
    (Load (file header_a (segments 6000 300 4000000 290 8000 290 176 112)) 0 0)
    (Load (file header_a (segments 6000 300 4000001 290 8000 290 177 96)) 6 2)
    -- "`d` .. may be up to 4,000,000": 4,000,000 passes rule 4, but no length is left above `d` + `gmax`, and it is 6; 4,000,001 is 4
    ∷ Both (Load (file (header 1 1 4000000 79 71) segments_slow) 6 1) (Load (file (header 1 1 4000001 80 63) segments_slow) 4 0)
    -- with `gmax` 1 and lengths 4,000,000, `d` 3,999,998 passes and 3,999,999 is 6
    ∷ Both (Load (file (header 1 1 3999998 77 88) segments_slow) 0 0) (Load (file (header 1 1 3999999 78 80) segments_slow) 6 1)
    -- the bounds "until now", each at its edge
    ∷ Both (Before (file (header 1000 1 501501 159 60) segments1000) 0 0) (Before (file (header 1001 1 501501 160 56) segments1000) 4 0)
    ∷ Both
    (Before (file header_a (segments 6000 300 1000000 290 8000 290 251 222)) 0 0)
    (Before (file header_a (segments 6000 300 1000001 290 8000 290 252 206)) 6 2)
    ∷ Both (Before (file (header 1 1 1000000 154 16) segments1) 6 1) (Before (file (header 1 1 1000001 155 8) segments1) 4 0)
    -- two more of rule 4: `b` above `gmax` is 4, `d` 0 is 4
    ∷ Both (Load (file (header 300 301 4650 158 71) segments_a) 4 0) (Load (file (header 300 10 0 62 21) segments_a) 4 0)
    -- 4 comes first where 4, 5 and 6 are due, and 5 where 5 and 6 are
    ∷ Both
    (Load (file (header 2001 1 2000999 238 97) (segments 4000001 2000 4000001 2000 4000001 2000 109 78)) 4 0)
    (Load (file (header 2000 1 2000999 237 101) (segments 4000001 2000 4000001 2000 4000001 2000 109 78)) 5 0)
    -- a run with a train on it: what the claim of whole runs asks for is met; so it is on a fast line
    ∷ Run (file header_a segments_a) (Enter 1 (on 1 1) 250 ∷ []) 1 1
    ∷ Run (file header_fast segments_fast) (Enter 1 (on 1 20000) 2000 ∷ []) 1 1
    -- "until the rear is at or past its end": length 1, the front at 0 of segment 3: segment 1 is still the train's; a decimetre on it is
    -- freed
    ∷ Both (Held (moving 1 5710 290 1 1 1) 1) (Held (moving 2 0 1 1 1 1) 0)
    -- 6,000 long, the front at 5,999 and at 6,000
    ∷ Both (Held (moving 2 5989 10 6000 1 1) 1) (Held (moving 2 5990 10 6000 1 1) 0)
    -- longer than the route: not freed
    ∷ Held (moving 2 7980 10 20000 1 1) 1
    -- "a record with a train on whose length is outside that is unsound"
    ∷ Both (Moves (moving 1 0 0 1 1 0) 0) (Moves (moving 1 0 0 0 1 0) 11)
    ∷ Both (Moves (moving 1 0 0 20000 1 0) 0) (Moves (moving 1 0 0 20001 1 0) 11)
    -- "all of these segments are allocated to that train": a segment under it is free; one behind its rear is still its own
    ∷ Both (Moves (moving 2 5999 0 6000 0 1) 11) (Moves (moving 2 6000 0 6000 1 1) 11)
    -- under a train 2,500 long, 500 into segment 4, are 2, 3 and 4: its rear is at the end of segment 1. All three are its own, the one before
    -- is not, and neither the rear's nor the middle one may be free
    ∷ Both (Stands (fourth 500 2500) (0 ∷ 1 ∷ 1 ∷ 1 ∷ 0 ∷ []) true true) (Stands (fourth 500 2500) (1 ∷ 1 ∷ 1 ∷ 1 ∷ 0 ∷ []) true false)
    ∷ Both (Stands (fourth 500 2500) (0 ∷ 0 ∷ 1 ∷ 1 ∷ 0 ∷ []) false true) (Stands (fourth 500 2500) (0 ∷ 1 ∷ 0 ∷ 1 ∷ 0 ∷ []) false true)
    -- a decimetre longer, and segment 1 is under it too; as long as its way and longer, 1 to 4 are
    ∷ Both (Stands (fourth 500 2501) (0 ∷ 1 ∷ 1 ∷ 1 ∷ 0 ∷ []) false true) (Stands (fourth 500 2501) (1 ∷ 1 ∷ 1 ∷ 1 ∷ 0 ∷ []) true true)
    ∷ Both (Stands (fourth 500 3500) (1 ∷ 1 ∷ 1 ∷ 1 ∷ 0 ∷ []) true true) (Stands (fourth 500 20000) (1 ∷ 1 ∷ 1 ∷ 1 ∷ 0 ∷ []) true true)
    -- its next may be its own
    ∷ Stands (fourth 500 2500) (0 ∷ 1 ∷ 1 ∷ 1 ∷ 1 ∷ []) true true
    -- "speed ≤ next's limit": position + speed is past the end of segment 1, segment 3 is its own, and the limit there is 290
    ∷ Both (Moves (moving 1 5800 290 1 1 1) 0) (Moves (moving 1 5800 300 1 1 1) 11)
    -- "Turned away: 23, length outside the bounds, after 16"
    ∷ Both (Enters (file header_a segments_a) (on 1 1) 250 0) (Enters (file header_a segments_a) (on 1 0) 250 23)
    ∷ Both (Enters (file header_a segments_a) (on 1 20000) 250 0) (Enters (file header_a segments_a) (on 1 20001) 250 23)
    ∷ Both (Enters (file header_a segments_a) (on 3 0) 250 16) (Enters (file header_a segments_a) (on 1 0) 301 23)
    -- "equal counts go to the higher train number"; "asked and got nothing": train 1 counts one more
    ∷ Both (Grants (merging 0 0 0 off) 2 1 0) (Grants (merging 7 7 0 off) 2 8 0)
    -- "the highest count wins", and "returns to 0 on a grant"
    ∷ Both (Grants (merging 1 0 0 off) 1 0 1) (Grants (merging 7 8 0 off) 2 8 0)
    -- "stops at 65,535": from 65,534 it comes there, and there it stays; train 3 has the segment, and both ask in vain
    ∷ Both (Grants (merging 65534 65535 0 off) 2 65535 0) (Grants (merging 65534 65535 3 beyond) 3 65535 65535)
    ∷ []
