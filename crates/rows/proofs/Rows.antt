-- The rows of the table hold: what load answers to the files, what the calls position and enter make of a record, and the computed test.
use Rattle.std.specs.Prelude.{if◌then◌else◌}
use Prim.Native.Nat.{ℕ}
use mathlib.Core.Path.{◌≡◌, refl, ap, ◌∙◌}
use mathlib.Core.Bool.{Bool, true, false, ◌&&◌}
use mathlib.Core.List.{List, [], ◌∷◌}
use lib.Dec.{leb, ltb}
use lib.ListN.{replicate}
use Rattle.lists.specs.Words.{nth, at, each, every, least}
use Rattle.lists.specs.Tests.{first_of}
use Rattle.lists.proofs.Cases.{by_test}
use Rattle.file.specs.Bytes.{two, two_at}
use Rattle.braking.specs.Braking.{falling_sum, S, B}
use Rattle.tables.specs.Bounds.{bounds, smaller_bounds}
use Rattle.tables.specs.Tables.{count_of, segment_at}
use Rattle.tables.specs.Rules.{meets}
use Rattle.tables.proofs.Consistency.{meets_iff}
use Rattle.decoding.specs.Decoding.{decoded}
use Rattle.tables.specs.declared.Tables.{Tables}
use Rattle.trains.specs.declared.Train.{Train}
use Rattle.trains.specs.Due.{grant_due, position_due}
use Rattle.trains.specs.Train.{length_ok, off, train_at, own_in, next_in, rear_from, rear_in, occupied_in, holds_all_in, ahead_in, wanted_in}
use Rattle.trains.specs.Cycle.{wants, moves_in, moved_in, moved, released, freed}
use Rattle.trains.specs.Order.{goes_before, foremost}
use Rattle.trains.specs.Grant.{asked, served, granted, count_after, calmed}
use Rattle.trains.specs.EnterLeave.{entry_tests}
use Rattle.trains.specs.Sound.{place_sound, to_run, braking_sound, asking_sound, stands_sound, train_sound, allocation_sound}
use Rattle.answers.specs.declared.Answer.TheVariants.{Done, Refused}
use Rattle.answers.specs.Answers.{answer_of, number_of}
use Rattle.answers.proofs.Answers.{number_of_answer}
use Rattle.loading.specs.Load.{fresh, loaded}
use Rattle.loading.specs.Before.{loaded_within}
use Rattle.area.specs.declared.Area.{Area}
use Rattle.area.specs.Sound.{sound}
use Rattle.area.specs.Calls.{after_enter, enter_call, after_grant, grant_call, after_position, position_call}
use Rattle.reading.specs.Verdict.{verdict}
use Rattle.reading.proofs.Accepted.{accepted_iff}
use Rattle.loading.proofs.Loading.{done_iff}
use Rattle.loading.proofs.Fresh.{fresh_sound}
use Rattle.separation.specs.Calls.{Enter, called}
use Rattle.separation.specs.Runs.{World, noted, world_by, next, after_from, begin, after}
use Rattle.separation.proofs.Demand3.{file_fresh, from_fresh}
use Rattle.rows.specs.AreaA.{header, segments, file, header_a, segments_a, header_fast, segments_fast, segments_slow, segments1000, segments1, moving, merging, beyond, on, line}
use Rattle.rows.specs.Table.{holds, all_hold, table}
use Rattle.rows.proofs.AreaA.{tables_of, tables, left, found, answered}

-- load reads the bounds in force
load_answer : (bytes : List ℕ) → (loaded bytes).answer ≡ (loaded_within bounds bytes).answer
unfolding loaded verdict
load_answer bytes = refl

-- Area A's file passes; with an edge's change, the rule that the edge breaks answers
area_a_lem : (loaded (file header_a segments_a)).answer ≡ Done
unfolding found left answer_of
area_a_lem = load_answer _ ∙ answered 300 10 4650 122 33 6000 300 5500 290 8000 290 251 42 bounds (left 0 true true 0 0) refl

margin_4649 : (loaded (file (header 300 10 4649 121 41) segments_a)).answer ≡ Refused 5 0
unfolding found left answer_of
margin_4649 = load_answer _ ∙ answered 300 10 4649 121 41 6000 300 5500 290 8000 290 251 42 bounds (left 0 true false 0 0) refl

length_4950 : (loaded (file header_a (segments 6000 300 4950 290 8000 290 211 174))).answer ≡ Refused 6 2
unfolding found left answer_of
length_4950 = load_answer _ ∙ answered 300 10 4650 122 33 6000 300 4950 290 8000 290 211 174 bounds (left 0 true true 2 0) refl

length_4951 : (loaded (file header_a (segments 6000 300 4951 290 8000 290 212 158))).answer ≡ Done
unfolding found left answer_of
length_4951 = load_answer _ ∙ answered 300 10 4650 122 33 6000 300 4951 290 8000 290 212 158 bounds (left 0 true true 0 0) refl

limit_289 : (loaded (file header_a (segments 6000 300 5500 290 8000 289 250 78))).answer ≡ Refused 9 1
unfolding found left answer_of
limit_289 = load_answer _ ∙ answered 300 10 4650 122 33 6000 300 5500 290 8000 289 250 78 bounds (left 0 true true 0 1) refl

gmax_2000 : (loaded (file (header 2000 1 2003001 199 142) segments_fast)).answer ≡ Done
unfolding found left answer_of
gmax_2000 = load_answer _ ∙ answered 2000 1 2003001 199 142 4000000 2000 4000000 2000 4000000 2000 106 126 bounds (left 0 true true 0 0) refl

gmax_2001 : (loaded (file (header 2001 1 2003001 200 138) segments_fast)).answer ≡ Refused 4 0
unfolding found left answer_of
gmax_2001 = load_answer _ ∙ answered 2001 1 2003001 200 138 4000000 2000 4000000 2000 4000000 2000 106 126 bounds (left 0 false true 0 0) refl

margin_2001000 : (loaded (file header_fast segments_fast)).answer ≡ Done
unfolding found left answer_of
margin_2001000 = load_answer _ ∙ answered 2000 1 2001000 238 93 4000000 2000 4000000 2000 4000000 2000 106 126 bounds (left 0 true true 0 0) refl

margin_2000999 : (loaded (file (header 2000 1 2000999 237 101) segments_fast)).answer ≡ Refused 5 0
unfolding found left answer_of
margin_2000999 = load_answer _ ∙ answered 2000 1 2000999 237 101 4000000 2000 4000000 2000 4000000 2000 106 126 bounds (left 0 true false 0 0) refl

length_4000000 : (loaded (file header_a (segments 6000 300 4000000 290 8000 290 176 112))).answer ≡ Done
unfolding found left answer_of
length_4000000 = load_answer _ ∙ answered 300 10 4650 122 33 6000 300 4000000 290 8000 290 176 112 bounds (left 0 true true 0 0) refl

length_4000001 : (loaded (file header_a (segments 6000 300 4000001 290 8000 290 177 96))).answer ≡ Refused 6 2
unfolding found left answer_of
length_4000001 = load_answer _ ∙ answered 300 10 4650 122 33 6000 300 4000001 290 8000 290 177 96 bounds (left 0 true true 2 0) refl

margin_4000000 : (loaded (file (header 1 1 4000000 79 71) segments_slow)).answer ≡ Refused 6 1
unfolding found left answer_of
margin_4000000 = load_answer _ ∙ answered 1 1 4000000 79 71 4000000 1 4000000 1 4000000 1 229 237 bounds (left 0 true true 1 0) refl

margin_4000001 : (loaded (file (header 1 1 4000001 80 63) segments_slow)).answer ≡ Refused 4 0
unfolding found left answer_of
margin_4000001 = load_answer _ ∙ answered 1 1 4000001 80 63 4000000 1 4000000 1 4000000 1 229 237 bounds (left 0 false true 0 0) refl

margin_3999998 : (loaded (file (header 1 1 3999998 77 88) segments_slow)).answer ≡ Done
unfolding found left answer_of
margin_3999998 = load_answer _ ∙ answered 1 1 3999998 77 88 4000000 1 4000000 1 4000000 1 229 237 bounds (left 0 true true 0 0) refl

margin_3999999 : (loaded (file (header 1 1 3999999 78 80) segments_slow)).answer ≡ Refused 6 1
unfolding found left answer_of
margin_3999999 = load_answer _ ∙ answered 1 1 3999999 78 80 4000000 1 4000000 1 4000000 1 229 237 bounds (left 0 true true 1 0) refl

gmax_1000 : (loaded_within smaller_bounds (file (header 1000 1 501501 159 60) segments1000)).answer ≡ Done
unfolding found left answer_of
gmax_1000 = answered 1000 1 501501 159 60 1000000 1000 1000000 1000 1000000 1000 136 33 smaller_bounds (left 0 true true 0 0) refl

gmax_1001 : (loaded_within smaller_bounds (file (header 1001 1 501501 160 56) segments1000)).answer ≡ Refused 4 0
unfolding found left answer_of
gmax_1001 = answered 1001 1 501501 160 56 1000000 1000 1000000 1000 1000000 1000 136 33 smaller_bounds (left 0 false true 0 0) refl

length_1000000 : (loaded_within smaller_bounds (file header_a (segments 6000 300 1000000 290 8000 290 251 222))).answer ≡ Done
unfolding found left answer_of
length_1000000 = answered 300 10 4650 122 33 6000 300 1000000 290 8000 290 251 222 smaller_bounds (left 0 true true 0 0) refl

length_1000001 : (loaded_within smaller_bounds (file header_a (segments 6000 300 1000001 290 8000 290 252 206))).answer ≡ Refused 6 2
unfolding found left answer_of
length_1000001 = answered 300 10 4650 122 33 6000 300 1000001 290 8000 290 252 206 smaller_bounds (left 0 true true 2 0) refl

margin_1000000 : (loaded_within smaller_bounds (file (header 1 1 1000000 154 16) segments1)).answer ≡ Refused 6 1
unfolding found left answer_of
margin_1000000 = answered 1 1 1000000 154 16 1000000 1 1000000 1 1000000 1 199 57 smaller_bounds (left 0 true true 1 0) refl

margin_1000001 : (loaded_within smaller_bounds (file (header 1 1 1000001 155 8) segments1)).answer ≡ Refused 4 0
unfolding found left answer_of
margin_1000001 = answered 1 1 1000001 155 8 1000000 1 1000000 1 1000000 1 199 57 smaller_bounds (left 0 false true 0 0) refl

rate_301 : (loaded (file (header 300 301 4650 158 71) segments_a)).answer ≡ Refused 4 0
unfolding found left answer_of
rate_301 = load_answer _ ∙ answered 300 301 4650 158 71 6000 300 5500 290 8000 290 251 42 bounds (left 0 false true 0 0) refl

margin_0 : (loaded (file (header 300 10 0 62 21) segments_a)).answer ≡ Refused 4 0
unfolding found left answer_of
margin_0 = load_answer _ ∙ answered 300 10 0 62 21 6000 300 5500 290 8000 290 251 42 bounds (left 0 false true 0 0) refl

all_due : (loaded (file (header 2001 1 2000999 238 97) (segments 4000001 2000 4000001 2000 4000001 2000 109 78))).answer ≡ Refused 4 0
unfolding found left answer_of
all_due = load_answer _ ∙ answered 2001 1 2000999 238 97 4000001 2000 4000001 2000 4000001 2000 109 78 bounds (left 0 false true 0 0) refl

two_due : (loaded (file (header 2000 1 2000999 237 101) (segments 4000001 2000 4000001 2000 4000001 2000 109 78))).answer ≡ Refused 5 0
unfolding found left answer_of
two_due = load_answer _ ∙ answered 2000 1 2000999 237 101 4000001 2000 4000001 2000 4000001 2000 109 78 bounds (left 0 true false 0 0) refl

-- a record of Area A: its tables are those of a file that passes
tables_a : meets (decoded (file header_a segments_a)) ≡ true
tables_a = (meets_iff _).1 ((done_iff _).0 (ap number_of area_a_lem)).tables

abbrev T : Tables
T = tables_of 300 10 4650 6000 300 5500 290 8000 290

-- a record of Area A is sound where its step due, its trains and its allocations are
abbrev in_a : (A : List ℕ) (X : List Train) (due : ℕ) → Area
in_a A X due = record { tables = decoded (file header_a segments_a); allocations = A; trains = X; due = due }

abbrev parts_sound : (A : List ℕ) (X : List Train) (due : ℕ) → Bool
parts_sound A X due =
    leb due position_due && every 24 (λ (t : ℕ). train_sound T A due t (train_at X t)) && every 62 (λ (s : ℕ). allocation_sound T X s (at A s))

is_sound_lem : (A : List ℕ) (X : List Train) (due : ℕ) → sound (in_a A X due) ≡ parts_sound A X due
unfolding sound
is_sound_lem A X due = rw (tables_a, tables)

-- with position due
module _ (place position speed length first third : ℕ) where
  abbrev before : Area
  before = moving place position speed length first third

  abbrev A : List ℕ
  A = first ∷ 0 ∷ third ∷ replicate 59 0

  abbrev X : List Train
  X = record { route = 1; place = place; position = position; speed = speed; length = length; asks = 0; count = 0 } ∷ replicate 23 off

  abbrev moving_sound : Bool
  moving_sound = parts_sound A X position_due

  moved_on : moving_sound ≡ true → train_at (position_call before).area.trains 1 ≡ moved T (train_at X 1)
  unfolding position_call after_position moving each nth
  moved_on ok = rw (is_sound_lem A X position_due ∙ ok, tables)

  held_by : moving_sound ≡ true → at (position_call before).area.allocations 1 ≡ freed T X 1 first
  unfolding position_call after_position moving each nth
  held_by ok = rw (is_sound_lem A X position_due ∙ ok, tables)

  answered_by : number_of (position_call before).answer ≡ (if moving_sound then 0 else 11)
  unfolding position_call moving answer_of
  answered_by = rw (is_sound_lem A X position_due) (by_test moving_sound (λ e. rw e) (λ e. rw e))

-- with grant due, both trains before the merge
module _ (count1 count2 third : ℕ) (train3 : Train) where
  abbrev merge : Area
  merge = merging count1 count2 third train3

  abbrev Aₘ : List ℕ
  Aₘ = 1 ∷ 2 ∷ third ∷ replicate 59 0

  abbrev Xₘ : List Train
  Xₘ =
      record { route = 1; place = 1; position = 1350; speed = 0; length = 1; asks = 1; count = count1 }
      ∷ record { route = 2; place = 1; position = 850; speed = 0; length = 1; asks = 1; count = count2 }
      ∷ train3
      ∷ replicate 21 off

  abbrev merge_sound : Bool
  merge_sound = parts_sound Aₘ Xₘ grant_due

  -- what a grant makes of it: who holds segment 3, and what trains 1 and 2 count
  abbrev Merged : (holder after1 after2 : ℕ) → Type 0
  Merged holder after1 after2 =
      (at (grant_call merge).area.allocations 3 ≡ holder)
      × ((train_at (grant_call merge).area.trains 1).count ≡ after1)
      × ((train_at (grant_call merge).area.trains 2).count ≡ after2)

  abbrev count_ofₘ : ℕ → ℕ
  count_ofₘ t = (calmed T Aₘ (each (granted T Xₘ) Aₘ) t (train_at Xₘ t)).count

  merged :
      (holder after1 after2 : ℕ) → merge_sound ≡ true → granted T Xₘ 3 third ≡ holder → count_ofₘ 1 ≡ after1 → count_ofₘ 2 ≡ after2
      → Merged holder after1 after2
  unfolding grant_call after_grant merging each nth
  merged holder after1 after2 ok h c d = rw (is_sound_lem Aₘ Xₘ grant_due ∙ ok, tables) (h, c, d)

-- train 1 enters the area that load makes of a file of Area A's shape, at a speed that segment 1 allows
module _ (gmax b d first0 second0 length1 limit1 length2 limit2 length3 limit3 first1 second1 l v : ℕ) where
  abbrev bytes : List ℕ
  bytes = file (header gmax b d first0 second0) (segments length1 limit1 length2 limit2 length3 limit3 first1 second1)

  abbrev area : Area
  area = fresh (decoded bytes)

  abbrev entering : World
  entering = world_by (begin area) (Enter 1 (on 1 l) v) (record { answer = Done; area = after_enter area 1 (on 1 l) v })

  one_call : (a : Area) → after_from (begin a) (Enter 1 (on 1 l) v ∷ []) ≡ world_by (begin a) (Enter 1 (on 1 l) v) (enter_call a 1 (on 1 l) v)
  unfolding after_from next called begin
  one_call a = refl

  entered :
      sound area ≡ true → length_ok l ≡ true → ltb (two_at (two limit1) 0) v ≡ false
      → enter_call area 1 (on 1 l) v ≡ record { answer = Done; area = after_enter area 1 (on 1 l) v }
  unfolding enter_call answer_of
  entered ok long slow = rw (ok, long) (unfold fresh in rw tables (unfold tables_of segment_at nth in rw slow))

  run : (loaded bytes).answer ≡ Done → length_ok l ≡ true → ltb (two_at (two limit1) 0) v ≡ false → after bytes (Enter 1 (on 1 l) v ∷ []) ≡ entering
  run done long slow =
      let zero = ap number_of done in
      from_fresh bytes zero (Enter 1 (on 1 l) v ∷ [])
      ∙ (one_call area
      ∙ ap (world_by (begin area) (Enter 1 (on 1 l) v)) (entered (fresh_sound bytes ((accepted_iff bytes).1 ((done_iff bytes).0 zero))) long slow))

  first_allocated : at (after_enter area 1 (on 1 l) v).allocations 1 ≡ 1
  unfolding after_enter fresh each nth
  first_allocated = rw tables (unfold tables_of segment_at in refl)

-- the records of Area A that a position step moves are sound
sounds :
    (moving_sound 1 5710 290 1 1 1 ≡ true) × (moving_sound 2 0 1 1 1 1 ≡ true) × (moving_sound 2 5989 10 6000 1 1 ≡ true)
    × (moving_sound 2 5990 10 6000 1 1 ≡ true) × (moving_sound 2 7980 10 20000 1 1 ≡ true)
unfolding tables_of every least stands_sound place_sound braking_sound asking_sound allocation_sound to_run wants own_in next_in rear_in rear_from holds_all_in occupied_in ahead_in count_of segment_at nth S falling_sum
sounds = (refl, refl, refl, refl, refl)

-- and so are those of the merge
merges : (c d : ℕ) → (merge_sound c d 0 off ≡ true) × (merge_sound c d 3 beyond ≡ true)
unfolding tables_of every least stands_sound place_sound braking_sound asking_sound allocation_sound to_run wants own_in next_in rear_in rear_from holds_all_in occupied_in ahead_in count_of segment_at nth S falling_sum
merges c d = (refl, refl)

mergers :
    Merged 0 0 0 off 2 1 0 × Merged 7 7 0 off 2 8 0 × Merged 1 0 0 off 1 0 1 × Merged 7 8 0 off 2 8 0 × Merged 65534 65535 0 off 2 65535 0
    × Merged 65534 65535 3 beyond 3 65535 65535
unfolding tables_of granted calmed asked served foremost goes_before count_after wanted_in next_in count_of segment_at nth each
mergers = (
  merged 0 0 0 off 2 1 0 (merges 0 0).0 refl refl refl,
  merged 7 7 0 off 2 8 0 (merges 7 7).0 refl refl refl,
  merged 1 0 0 off 1 0 1 (merges 1 0).0 refl refl refl,
  merged 7 8 0 off 2 8 0 (merges 7 8).0 refl refl refl,
  merged 65534 65535 0 off 2 65535 0 (merges 65534 65535).0 refl refl refl,
  merged 65534 65535 3 beyond 3 65535 65535 (merges 65534 65535).1 refl refl refl,
)

-- what an enter of train 1 into Area A is answered with: the first of its tests that holds, on Area A's tables with nothing allocated and no
-- train on
enters_a :
    (r l v : ℕ)
    → number_of (enter_call (loaded (file header_a segments_a)).area 1 (on r l) v).answer
    ≡ (first_of (entry_tests (tables_of 300 10 4650 6000 300 5500 290 8000 290) (replicate 62 0) (replicate 24 off) 1 (on r l) v)).number
unfolding enter_call fresh
enters_a r l v =
    let zero = ap number_of area_a_lem in
    rw (file_fresh (file header_a segments_a) zero, fresh_sound (file header_a segments_a) ((accepted_iff _).1 ((done_iff _).0 zero)), tables)
    (number_of_answer _ _)

-- THE CLAIM: the values of S and B, the edges of document 01 and those of R-2 to R-4 hold, as rows of one table; so do the runs with a train
-- on them
pub rows_hold : all_hold table ≡ true
unfolding all_hold table holds line tables_of every least stands_sound place_sound braking_sound asking_sound allocation_sound to_run wants own_in next_in rear_in rear_from holds_all_in occupied_in ahead_in count_of segment_at nth freed released moved_in moves_in
rows_hold =
    rw (
      moved_on 1 5710 290 1 1 1 sounds.0,
      margin_4649,
      length_4950,
      length_4951,
      limit_289,
      gmax_2000,
      gmax_2001,
      margin_2001000,
      margin_2000999,
      length_4000000,
      length_4000001,
      margin_4000000,
      margin_4000001,
      margin_3999998,
      margin_3999999,
      gmax_1000,
      gmax_1001,
      length_1000000,
      length_1000001,
      margin_1000000,
      margin_1000001,
      rate_301,
      margin_0,
      all_due,
      two_due,
      area_a_lem,
      run 300 10 4650 122 33 6000 300 5500 290 8000 290 251 42 1 250 area_a_lem refl refl,
      run 2000 1 2001000 238 93 4000000 2000 4000000 2000 4000000 2000 106 126 20000 2000 margin_2001000 refl refl,
      first_allocated,
      first_allocated,
      held_by 1 5710 290 1 1 1 sounds.0,
      held_by 2 0 1 1 1 1 sounds.1,
      held_by 2 5989 10 6000 1 1 sounds.2,
      held_by 2 5990 10 6000 1 1 sounds.3,
      held_by 2 7980 10 20000 1 1 sounds.4,
      answered_by 1 0 0 1 1 0,
      answered_by 1 0 0 0 1 0,
      answered_by 1 0 0 20000 1 0,
      answered_by 1 0 0 20001 1 0,
      answered_by 2 5999 0 6000 0 1,
      answered_by 2 6000 0 6000 1 1,
      answered_by 1 5800 290 1 1 1,
      answered_by 1 5800 300 1 1 1,
      enters_a 1 1 250,
      enters_a 1 0 250,
      enters_a 1 20000 250,
      enters_a 1 20001 250,
      enters_a 3 0 250,
      enters_a 1 0 301,
    )
    (rw (
      mergers.0.0,
      mergers.0.1,
      mergers.0.2,
      mergers.1.0,
      mergers.1.1,
      mergers.1.2,
      mergers.2.0,
      mergers.2.1,
      mergers.2.2,
      mergers.3.0,
      mergers.3.1,
      mergers.3.2,
      mergers.4.0,
      mergers.4.1,
      mergers.4.2,
      mergers.5.0,
      mergers.5.1,
      mergers.5.2,
    )
    (unfold S B falling_sum noted begin in refl))
