-- Where the trains are sound, nothing is left of the allocations when what each train may hold is taken away exactly where every allocation
-- is sound.
use Prim.Native.Nat.{ℕ, ◌≤◌}
use mathlib.Core.Path.{◌≡◌, sym, ap, ◌∙◌}
use mathlib.Core.Logic.{inl, inr}
use mathlib.Core.Bool.{Bool, true, false, ◌&&◌, ◌||◌, and-eq-true_iff}
use mathlib.Core.List.{List}
use native.Mathlib.Omega.{arith}
use lib.Dec.{leb, eqb}
use lib.ListN.{length}
use borrow.Author.Tests.{ltb-true, eqb-true, lt-ltb, le-leb, eq-eqb, ne_eqb}
use Rattle.lists.specs.Words.{at, every, some}
use Rattle.lists.proofs.Cases.{by_test, cases, eq_or_ne, not_both, is_false, and_iff, either, either_yes}
use Rattle.lists.proofs.Loops.{every_at, every_same}
use Rattle.lists.proofs.Some.{some_found, found_some}
use Rattle.tables.specs.declared.Tables.{Tables}
use Rattle.tables.specs.Bounds.{most_segments}
use Rattle.tables.specs.Facts.{Consistent}
use Rattle.trains.specs.declared.Train.{Train}
use Rattle.trains.specs.declared.Spot.{Spot}
use Rattle.trains.specs.Train.{most_trains, train_at, is_on, next_of, holds_next, occupied, occupied_in, ahead}
use Rattle.trains.specs.Sound.{train_sound, allocation_sound}
use Rattle.trains.specs.SoundFacts.{SoundTrain}
use Rattle.trains.proofs.Laws.{on_numbered}
use Rattle.trains.proofs.Segments.{occupied_iff, next_ahead, ahead_next}
use Rattle.trains.proofs.Safety.{OnRoute, under_is, next_is, held_next}
use Rattle.trains.proofs.Soundness.{train_iff}
use Rattle.standing.specs.Spots.{spots_of, spot_at}
use Rattle.standing.proofs.Laws.{spot_at_lem}
use Rattle.soundness.specs.Covered.{covers, left_over}

module _
    (T : Tables) (K : Consistent T) (A : List ℕ) (due : ℕ) (trains : List Train) {spots : List Spot} (long : length trains ≡ most_trains)
    (e : spots ≡ spots_of T A trains) (sound : every most_trains (λ (t : ℕ). train_sound T A due t (train_at trains t)) ≡ true) where
  -- what a train may hold: what is under it, and its next where that is allocated to it
  abbrev may_hold : (t s : ℕ) → Bool
  may_hold t s = is_on (train_at trains t) && (occupied T (train_at trains t) s || (holds_next T (at A) t (train_at trains t) && eqb s (next_of T (train_at trains t))))

  covers_is : (t s : ℕ) → 1 ≤ t → t ≤ most_trains → covers T.routebytes (spot_at spots t) (train_at trains t) s ≡ may_hold t s
  unfolding covers occupied_in
  covers_is t s low high =
      by_test (is_on (train_at trains t)) (λ o. rw (spot_at_lem T A trains long e t low high, o)) (λ o. rw o)

  facts : (t : ℕ) → 1 ≤ t → t ≤ most_trains → 1 ≤ (train_at trains t).route → SoundTrain T A due t (train_at trains t)
  facts t low high on = (train_iff T A due t (train_at trains t) on).0 (every_at _ most_trains sound t low high)

  -- a train that may hold a segment does
  holds_it : (t s : ℕ) → 1 ≤ t → t ≤ most_trains → may_hold t s ≡ true → (at A s ≡ t) × (allocation_sound T trains s t ≡ true)
  unfolding allocation_sound
  holds_it t s low high h =
      let x = train_at trains t in
      let f = (and-eq-true_iff (is_on x) (occupied T x s || (holds_next T (at A) t x && eqb s (next_of T x)))).0 h in
      let on = ltb-true 0 x.route f.0 in
      let q = facts t low high on in
      let o : OnRoute T x.route x.place = record { route_low = on; route_high = q.route; place_low = q.place.0; place_high = q.place.1 } in
      let some : eqb t 0 ≡ false = ne_eqb t 0 (λ z. omega arith) in
      cases (either (occupied T x s) (holds_next T (at A) t x && eqb s (next_of T x)) f.1)
      (λ u.
      (q.under s ((occupied_iff T x q.position s).0 u), rw (some, le-leb s T.segments (under_is T K x o u).to, f.0, u)))
      (λ n.
      let g = (and-eq-true_iff (holds_next T (at A) t x) (eqb s (next_of T x))).0 n in
      let m = held_next T K (at A) t x g.0 in
      let same = eqb-true s (next_of T x) g.1 in
      let low : 1 ≤ s = omega (arith, m.0, same) in
      let there : ahead T x s ≡ true = next_ahead T x low (sym same) in
      let upto : s ≤ T.segments = omega (arith, (next_is T K x o m.0).segment.to, same) in
      (ap (at A) same ∙ m.1, rw (some, le-leb s T.segments upto, f.0, either_yes (occupied T x s) (ahead T x s) (inr there))))

  -- the holder of a sound allocation may hold it
  may_hold_lem : (s : ℕ) → 1 ≤ at A s → allocation_sound T trains s (at A s) ≡ true → (at A s ≤ most_trains) × (may_hold (at A s) s ≡ true)
  unfolding allocation_sound
  may_hold_lem s some h =
      let t = at A s in
      let x = train_at trains t in
      let g : (leb s T.segments && is_on x && (occupied T x s || ahead T x s)) ≡ true = rw (ne_eqb t 0 (λ z. omega arith)) at h in
      let f = simp and_iff at g in
      let on = ltb-true 0 x.route f.0.1 in
      let high = (on_numbered trains long t on).1 in (
        high,
        rw f.0.1 (either_yes (occupied T x s) (holds_next T (at A) t x && eqb s (next_of T x))
            (cases (either (occupied T x s) (ahead T x s) f.1) (λ u. inl u)
            (λ u.
            let n = ahead_next T x u in
            inr (rw (lt-ltb 0 (next_of T x) (omega (arith, n.0, n.1)), eq-eqb (at A (next_of T x)) t (ap (at A) n.1), eq-eqb s (next_of T x) (sym n.1)))))),
      )

  free : (s : ℕ) → at A s ≡ 0 → allocation_sound T trains s (at A s) ≡ true
  unfolding allocation_sound
  free s z = rw (eq-eqb (at A s) 0 z)

  -- of one segment, the two tests agree
  same_at :
      (s : ℕ) → 1 ≤ s → s ≤ most_segments
      → eqb (left_over T.routebytes spots trains most_trains s (at A s)) 0 ≡ allocation_sound T trains s (at A s)
  same_at s low high =
      let covered : ℕ → Bool = λ t. covers T.routebytes (spot_at spots t) (train_at trains t) s in
      by_test (some most_trains covered)
      (λ y.
      let f = some_found covered most_trains y in
      let h = holds_it f.number s f.low f.high (sym (covers_is f.number s f.low f.high) ∙ f.holds) in
      rw y (sym (ap (allocation_sound T trains s) h.0 ∙ h.1)))
      (λ n.
      rw n
      (cases (eq_or_ne (at A s) 0) (λ z. eq-eqb (at A s) 0 z ∙ sym (free s z))
      (λ z.
      ne_eqb (at A s) 0 z
      ∙ sym (is_false (allocation_sound T trains s (at A s))
      (λ h.
      let m = may_hold_lem s (omega arith) h in
      not_both (some most_trains covered)
      (found_some covered most_trains (at A s) (omega arith) m.0 (covers_is (at A s) s (omega arith) m.0 ∙ m.1)) n)))))

  pub allocations_same :
      every most_segments (λ (s : ℕ). eqb (left_over T.routebytes spots trains most_trains s (at A s)) 0)
      ≡ every most_segments (λ (s : ℕ). allocation_sound T trains s (at A s))
  allocations_same = every_same most_segments _ _ same_at
