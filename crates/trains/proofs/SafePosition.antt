-- Position keeps what holds of a train on the area.
use Prim.Native.Nat.{ℕ, ◌+◌, ◌-◌, ◌≤◌, ◌<◌}
use mathlib.Core.Path.{◌≡◌, refl, sym, ◌∙◌}
use mathlib.Core.Logic.{◌⊎◌, inl, inr}
use mathlib.Core.Bool.{Bool, true, false, not, ◌&&◌, and-false}
use native.Mathlib.Omega.{arith}
use borrow.Author.Tests.{lt-ltb}
use Rattle.lists.proofs.Cases.{by_test, cases, lt_or_le, not_both, facts}
use Rattle.tables.specs.declared.Tables.{Tables}
use Rattle.tables.specs.Tables.{segment_at, braking_distance}
use Rattle.tables.specs.Facts.{Consistent}
use Rattle.tables.proofs.Distance.{distance_above}
use Rattle.trains.specs.declared.Train.{Train}
use Rattle.trains.specs.Due.{speed_due, position_due}
use Rattle.trains.specs.Train.{moved_to, own_in, own_of, next_in, next_of, own_length, holds_next, occupied, ahead}
use Rattle.trains.specs.Cycle.{moves_in, moves_on, moved, moved_in, released}
use Rattle.trains.proofs.Segments.{occupied_beneath, beneath_occupied, own_occupied, ahead_next, ahead_same}
use Rattle.trains.proofs.Safety.{TrainOk, run_now, run_later, own_is, next_is, in_margin, held_next, holds_not}
use Rattle.trains.proofs.Moved.{beyond_free, next_free, Moved, stays_on, goes_on, under_before}

module _ (T : Tables) (K : Consistent T) where
  module _ (held : ℕ → ℕ) (t : ℕ) (x : Train) (way : ℕ) (got : ℕ → Bool) (ok : TrainOk T position_due held t x way got) where
    later_stops : holds_next T held t x ≡ false → x.position + braking_distance T x.speed < own_length T x
    later_stops o = rw (run_later (braking_distance T) position_due x.speed (omega arith)) at (ok.stops o)

    -- a train that moves on holds its next
    move_held : own_length T x ≤ x.position + x.speed → holds_next T held t x ≡ true
    move_held past =
        by_test (holds_next T held t x) (λ e. e) (λ e. absurd (omega (arith, later_stops e, distance_above T K x.speed)))

    -- what is freed where the train becomes y: what was under it and no longer is
    abbrev gone : Train → ℕ → Bool
    gone y s = occupied T x s && not (occupied T y s)

    -- y is the train after the step, and held' says who holds a segment then: what was its own and was not freed, and nothing more
    module _
        (y : Train) (m : Moved T K x y) (held' : ℕ → ℕ)
        (to : (s : ℕ) → held s ≡ t → gone y s ≡ false → held' s ≡ t)
        (from : (s : ℕ) → held' s ≡ t → (held s ≡ t) × (gone y s ≡ false)) where
      -- what is under it afterwards is its own, if that is so of what its front has come upon
      holds_after :
          ((p : ℕ) → x.place < p → p ≤ y.place → held (segment_at T.routebytes x.route p) ≡ t) → (s : ℕ) → occupied T y s ≡ true → held' s ≡ t
      holds_after come s e =
          let b = occupied_beneath T y e in
          let same : segment_at T.routebytes x.route b.place ≡ s = rw (sym m.route) b.segment in
          cases (lt_or_le x.place b.place)
          (λ l.
          let free : occupied T x s ≡ false = rw (← same) (beyond_free T K x ok.on_route b.place l (omega (arith, b.high, m.upto))) in
          to s (rw (← same) (come b.place l b.high)) (rw free))
          (λ l.
          let was = under_before T K x y ok.inside m b.place b.low l b.rear in
          to s (ok.holds s (beneath_occupied T x (record { place = b.place; low = b.low; high = l; rear = was; segment = same }))) (rw (e, and-false)))

      -- what is its own afterwards was under it and still is, or was ahead of it
      only_after : (s : ℕ) → held' s ≡ t → (occupied T y s ≡ true) ⊎ ((ahead T x s ≡ true) × (got s ≡ true))
      only_after s e =
          let f = from s e in
          cases (ok.only s f.0)
          (λ q. by_test (occupied T y s) (λ u. inl u) (λ u. let g = rw (q, u) at f.1 in not_both true refl g))
          (λ q. inr q)

    pub further_ok :
        (held' : ℕ → ℕ) → x.position + x.speed < own_length T x
        → let y = moved_to x x.place (x.position + x.speed) in
        ((s : ℕ) → held s ≡ t → gone y s ≡ false → held' s ≡ t)
        → ((s : ℕ) → held' s ≡ t → (held s ≡ t) × (gone y s ≡ false))
        → TrainOk T speed_due held' t y (way + x.speed) got
    unfolding own_in next_in
    further_ok held' short to from =
        let y : Train = moved_to x x.place (x.position + x.speed) in
        let m = stays_on T K x ok.on_route short in
        let kept : 1 ≤ next_of T x → held (next_of T x) ≡ t → held' (next_of T x) ≡ t = λ some e. to (next_of T x) e (rw (next_free T K x ok.on_route some)) in
        record {
          on_route = ok.on_route;
          inside = short;
          slow = ok.slow;
          long = ok.long;
          holds = holds_after y m held' to from (λ p l h. absurd (omega arith));
          only = λ s e. cases (only_after y m held' to from s e) (λ q. inl q) (λ q. inr (ahead_same T x y refl refl s ∙ q.0, q.1));
          stops =
              λ o.
              rw (run_now (braking_distance T) x.speed)
              (omega (arith, later_stops (holds_not T K held held' t x kept o), distance_above T K x.speed));
          next_slow = λ o d h. absurd (omega arith);
          walked = omega (arith, ok.walked);
          asks_well = ok.asks_well;
        }

    -- its front stands on its next, which is long enough to stop in
    pub move_ok :
        (held' : ℕ → ℕ) → own_length T x ≤ x.position + x.speed
        → let y = moved_to x (x.place + 1) (x.position + x.speed - own_length T x) in
        ((s : ℕ) → held s ≡ t → gone y s ≡ false → held' s ≡ t)
        → ((s : ℕ) → held' s ≡ t → (held s ≡ t) × (gone y s ≡ false))
        → TrainOk T speed_due held' t y (way + x.speed) got
    unfolding own_in
    move_ok held' past to from =
        let y : Train = moved_to x (x.place + 1) (x.position + x.speed - own_length T x) in
        let n = move_held past in
        let p = held_next T K held t x n in
        let s = next_is T K x ok.on_route p.0 in
        let m = goes_on T K x ok.on_route ok.inside ok.slow past p.0 in
        let long = K.long (next_of T x) s.segment in
        let fast = K.limited (own_of T x) (own_is T K x ok.on_route) in
        let e : segment_at T.routebytes x.route (x.place + 1) ≡ next_of T x = sym s.same in
        record {
          on_route = record { route_low = ok.on_route.route_low; route_high = ok.on_route.route_high; place_low = omega arith; place_high = omega (arith, s.later) };
          inside = m.inside;
          slow = rw e (ok.next_slow n (omega arith) past);
          long = ok.long;
          holds = holds_after y m held' to from (λ q l h. let i : q ≡ x.place + 1 = omega arith in rw (i, e) p.1);
          only =
              λ z h.
              cases (only_after y m held' to from z h) (λ q. inl q)
              (λ q. inl (own_occupied T y (omega arith) (e ∙ (ahead_next T x q.0).1)));
          stops = λ o. rw e (omega (arith, run_now (braking_distance T) x.speed, ok.inside, distance_above T K x.speed, in_margin T K x ok.on_route x.speed ok.slow));
          next_slow = λ o d h. absurd (omega arith);
          walked = omega (arith, ok.walked, m.way);
          asks_well = ok.asks_well;
        }

  -- what the definition of a move makes of a train: further in its segment, or on to its next
  pub position_ok :
      (held held' : ℕ → ℕ) (t : ℕ) (x : Train) (way : ℕ) (got : ℕ → Bool) → TrainOk T position_due held t x way got
      → ((s : ℕ) → held s ≡ t → released T x s ≡ false → held' s ≡ t)
      → ((s : ℕ) → held' s ≡ t → (held s ≡ t) × (released T x s ≡ false))
      → TrainOk T speed_due held' t (moved T x) (way + x.speed) got
  unfolding moves_in moved_in released
  position_ok held held' t x way got ok to from =
      by_test (moves_on T x)
      (λ goes.
      let f = simp facts at goes in
      let to' = rw goes at to in
      let from' = rw goes at from in
      rw goes (move_ok held t x way got ok held' (omega arith) to' from'))
      (λ stays.
      let h = rw (lt-ltb 0 x.route ok.on_route.route_low) at stays in
      let f = simp facts at h in
      let to' = rw stays at to in
      let from' = rw stays at from in
      rw stays (further_ok held t x way got ok held' (omega arith) to' from'))
