-- The test of a sound record decides the facts that it stands for.
use Prim.Native.Nat.{ℕ, ◌≤◌, ◌<◌}
use mathlib.Core.Path.{◌≡◌}
use mathlib.Core.Logic.{inl, inr, ◌↔◌}
use mathlib.Core.Bool.{Bool, true}
use native.Mathlib.Omega.{arith}
use lib.ListN.{length}
use borrow.Author.Tests.{leb-true, le-leb, eq-eqb}
use Rattle.lists.specs.Words.{at}
use Rattle.lists.proofs.Cases.{and_iff, cases, lt_or_le, eq_or_ne}
use Rattle.lists.proofs.Loops.{every_at, every_all}
use Rattle.lists.proofs.Numbered.{nth_zero, nth_out}
use Rattle.tables.specs.Bounds.{most_segments}
use Rattle.tables.specs.Facts.{Meets}
use Rattle.tables.proofs.Consistency.{consistent, meets_iff}
use Rattle.trains.specs.Due.{position_due}
use Rattle.trains.specs.Train.{most_trains, off, train_at, own_of, own_length}
use Rattle.trains.specs.Spot.{spot_of}
use Rattle.trains.specs.Cycle.{low, upper_end}
use Rattle.trains.specs.Sound.{train_sound, allocation_sound}
use Rattle.trains.proofs.Laws.{on_numbered}
use Rattle.trains.proofs.Safety.{own_is}
use Rattle.trains.proofs.SafeSpeed.{low_high}
use Rattle.trains.specs.SoundFacts.{SoundTrain}
use Rattle.trains.proofs.Soundness.{train_iff, off_iff, allocation_iff}
use Rattle.steps.specs.Room.{Room}
use Rattle.area.specs.declared.Area.{Area}
use Rattle.area.specs.Sound.{sound}
use Rattle.area.specs.SoundFacts.{SoundArea}

module _ (a : Area) where
  abbrev train_test : ℕ → Bool
  train_test t = train_sound a.tables a.allocations a.due t (train_at a.trains t)

  abbrev allocation_test : ℕ → Bool
  allocation_test s = allocation_sound a.tables a.trains s (at a.allocations s)

  -- an allocation of 0 is sound
  none_sound : (s : ℕ) → at a.allocations s ≡ 0 → allocation_test s ≡ true
  unfolding allocation_sound
  none_sound s e = rw (eq-eqb (at a.allocations s) 0 e)

  -- THE CLAIM: the tables of a sound record meet the rules
  pub sound_meets : sound a ≡ true → Meets a.tables
  unfolding sound
  sound_meets h = let f = simp and_iff at h in (meets_iff a.tables).0 f.0.0.0

module _ (a : Area) (long : length a.trains ≡ most_trains) where
  -- a train on has not come to its segment's end, where the trains of all numbers are sound
  inside :
      ((t : ℕ) → 1 ≤ t → t ≤ most_trains → 1 ≤ (train_at a.trains t).route → SoundTrain a.tables a.allocations a.due t (train_at a.trains t))
      → (h : ℕ) → 1 ≤ (train_at a.trains h).route → (train_at a.trains h).position < own_length a.tables (train_at a.trains h)
  inside ons h on = let n = on_numbered a.trains long h on in (ons h n.0 n.1 on).position

  sound_facts : sound a ≡ true → SoundArea a
  unfolding sound
  sound_facts h =
      let f = simp and_iff at h in
      let each-train = every_at (train_test a) most_trains f.0.1 in
      let each-segment = every_at (allocation_test a) most_segments f.1 in
      let ons : (t : ℕ) → 1 ≤ t → t ≤ most_trains → 1 ≤ (train_at a.trains t).route → SoundTrain a.tables a.allocations a.due t (train_at a.trains t) =
      λ t low high on. (train_iff a.tables a.allocations a.due t (train_at a.trains t) on).0 (each-train t low high) in
      record {
        tables = (meets_iff a.tables).0 f.0.0.0;
        due = leb-true a.due position_due f.0.0.1;
        offs = λ t low high z. (off_iff a.tables a.allocations a.due t (train_at a.trains t) z).0 (each-train t low high);
        ons = ons;
        allocations =
            λ s low high.
            cases (eq_or_ne (at a.allocations s) 0) (λ z. inl z)
            (λ n.
            inr ((allocation_iff a.tables a.trains s (at a.allocations s) low (omega arith) (inside ons (at a.allocations s))).0 (each-segment s low high)));
      }

  facts_sound : SoundArea a → sound a ≡ true
  unfolding sound
  facts_sound f =
      let each-train : (t : ℕ) → 1 ≤ t → t ≤ most_trains → train_test a t ≡ true =
      λ t low high.
      cases (lt_or_le 0 (train_at a.trains t).route)
      (λ o. (train_iff a.tables a.allocations a.due t (train_at a.trains t) o).1 (f.ons t low high o))
      (λ z. (off_iff a.tables a.allocations a.due t (train_at a.trains t) (omega arith)).1 (f.offs t low high (omega arith))) in
      let each-segment : (s : ℕ) → 1 ≤ s → s ≤ most_segments → allocation_test a s ≡ true =
      λ s low high.
      cases (eq_or_ne (at a.allocations s) 0) (none_sound a s)
      (λ n.
      cases (f.allocations s low high) (λ z. none_sound a s z)
      (λ g. (allocation_iff a.tables a.trains s (at a.allocations s) low (omega arith) (inside f.ons (at a.allocations s))).1 g)) in
      rw (
        (meets_iff a.tables).1 f.tables,
        le-leb a.due position_due f.due,
        every_all (train_test a) most_trains each-train,
        every_all (allocation_test a) most_segments each-segment,
      )

  -- THE CLAIM: the test decides the facts, of a record of 24 trains
  pub sound_iff : (sound a ≡ true) ↔ SoundArea a
  sound_iff = (sound_facts, facts_sound)

-- THE CLAIM: in a sound record low ≤ the upper end of every train's speed range
pub range_sound :
    (a : Area) → SoundArea a → (t : ℕ) → 1 ≤ t → t ≤ most_trains → 1 ≤ (train_at a.trains t).route
    → low a.tables.braking (train_at a.trains t) ≤ upper_end (spot_of a.tables (at a.allocations) t (train_at a.trains t))
range_sound a f t from to on =
    let x = train_at a.trains t in
    let s = f.ons t from to on in
    low_high a.tables (consistent a.tables f.tables) (at a.allocations) t x
    (record { route_low = on; route_high = s.route; place_low = s.place.0; place_high = s.place.1 })
    s.speed

-- the trains of a sound record have the room that a move asks for
pub room_of : (a : Area) → SoundArea a → length a.trains ≡ 24 → (t : ℕ) → Room (train_at a.trains t)
room_of a f long t =
    cases (lt_or_le t 1) (λ z. room_off (nth_zero off a.trains t (omega arith)))
    (λ from.
    cases (lt_or_le most_trains t) (λ out. room_off (nth_out off a.trains t (omega arith)))
    (λ to.
    cases (lt_or_le 0 (train_at a.trains t).route) (room_on from to)
    (λ z. room_off (f.offs t from to (omega arith)))))
  where
    room_off : train_at a.trains t ≡ off → Room (train_at a.trains t)
    room_off e = rw e (record { place = omega arith; position = omega arith })

    room_on : 1 ≤ t → t ≤ most_trains → 1 ≤ (train_at a.trains t).route → Room (train_at a.trains t)
    room_on from to on =
        let x = train_at a.trains t in
        let s = f.ons t from to on in
        let K = consistent a.tables f.tables in
        let own = own_is a.tables K x (record { route_low = on; route_high = s.route; place_low = s.place.0; place_high = s.place.1 }) in
        record {
          place = omega (arith, s.place, K.counted x.route on s.route);
          position = omega (arith, s.position, s.speed, K.short (own_of a.tables x) own, K.limited (own_of a.tables x) own, K.gmax);
        }
