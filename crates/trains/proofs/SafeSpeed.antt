-- Speed keeps what holds of a train on the area: the parts of the proof. The whole, `speed_ok`, stands in separation/proofs/SafeSpeed,
-- beside the law of the braking distance that it rests on.
use Prim.Native.Nat.{ℕ, ◌+◌, ◌-◌, ◌≤◌, ◌<◌, min, max}
use mathlib.Core.Path.{◌≡◌, refl}
use mathlib.Core.Bool.{Bool, true, false, not, ◌&&◌, and-eq-true_iff}
use native.Mathlib.Omega.{arith}
use borrow.Author.Tests.{leb-false}
use Rattle.lists.proofs.Cases.{if_case, by_test}
use Rattle.tables.specs.declared.Tables.{Tables}
use Rattle.tables.specs.Tables.{braking_distance}
use Rattle.tables.specs.Facts.{Consistent}
use Rattle.tables.proofs.Distance.{distance_above}
use Rattle.trains.specs.declared.Train.{Train}
use Rattle.trains.specs.Due.{speed_due, request_due}
use Rattle.trains.specs.Train.{with_speed, own_in, own_of, next_in, next_of, own_length, own_limit, next_limit, near, holds_next}
use Rattle.trains.specs.Spot.{spot_of}
use Rattle.trains.specs.Cycle.{low, upper_end, new_speed}
use Rattle.trains.proofs.Safety.{OnRoute, TrainOk, run_now, run_later, holds_there, only_there, own_is, next_is, in_margin, held_next}

module _ (T : Tables) (K : Consistent T) where
  -- THE CLAIM: low is never above the upper end, so that the order in which a clamp looks at its ends plays no part
  pub low_high :
      (held : ℕ → ℕ) (t : ℕ) (x : Train) → OnRoute T x.route x.place → x.speed ≤ own_limit T x
      → low T.braking x ≤ upper_end (spot_of T held t x)
  low_high held t x o slow =
      if_case (λ (h : ℕ). x.speed - T.braking ≤ h) (near T x && holds_next T held t x)
      (λ e.
      let q = ((and-eq-true_iff (near T x) (holds_next T held t x)).0 e).1 in
      let s = next_is T K x o (held_next T K held t x q).0 in
      let g = K.gentle (own_of T x) (next_of T x) (own_is T K x o) s.follows in
      omega arith)
      (λ e. omega arith)

  module _ (held : ℕ → ℕ) (t : ℕ) (x : Train) (way : ℕ) (got : ℕ → Bool) (ok : TrainOk T speed_due held t x way got) (wish : ℕ) where
    abbrev speed_now : ℕ
    speed_now = new_speed T.braking (spot_of T held t x) x wish

    new_slow : speed_now ≤ own_limit T x
    unfolding new_speed
    new_slow =
        if_case (λ (v : ℕ). v ≤ own_limit T x) (near T x && not (holds_next T held t x)) (λ e. omega (arith, ok.slow))
        (λ e.
        if_case (λ (h : ℕ). max (x.speed - T.braking) (min h wish) ≤ own_limit T x) (near T x && holds_next T held t x)
        (λ n. omega (arith, ok.slow)) (λ n. omega (arith, ok.slow)))

    -- far from the end any speed within the limit stops within the segment
    far_stops : near T x ≡ false → (v : ℕ) → v ≤ own_limit T x → x.position + braking_distance T v < own_length T x
    far_stops n v h =
        let l = K.long (own_of T x) (own_is T K x ok.on_route) in
        omega (arith, leb-false (own_length T x - T.margin) x.position n, in_margin T K x ok.on_route v h)

    new_next : holds_next T held t x ≡ true → own_length T x ≤ x.position + speed_now → speed_now ≤ next_limit T x
    unfolding new_speed
    new_next o h =
        by_test (near T x)
        (λ n.
        let s = next_is T K x ok.on_route (held_next T K held t x o).0 in
        let g = K.gentle (own_of T x) (next_of T x) (own_is T K x ok.on_route) s.follows in
        rw (n, o) (omega (arith, ok.slow)))
        (λ n. absurd (omega (arith, far_stops n speed_now new_slow, distance_above T K speed_now)))

    -- while its next is not allocated to it, it stops within its segment, if S(speed) = speed + S(speed - b) for the braking distance S
    pub stops_by :
        braking_distance T x.speed ≡ x.speed + braking_distance T (x.speed - T.braking) → holds_next T held t x ≡ false
        → x.position + braking_distance T speed_now < own_length T x
    unfolding new_speed
    stops_by lowered o =
        by_test (near T x)
        (λ n. rw (n, o) (omega (arith, ok.stops o, run_now (braking_distance T) x.speed, lowered)))
        (λ n. far_stops n speed_now new_slow)

    -- all of it is kept if, while its next is not allocated to it, it stops within its segment
    pub ok_by :
        (holds_next T held t x ≡ false → x.position + braking_distance T speed_now < own_length T x)
        → TrainOk T request_due held t (with_speed x speed_now) way got
    unfolding own_in next_in
    ok_by new_stops =
        record {
          on_route = ok.on_route;
          inside = ok.inside;
          slow = new_slow;
          long = ok.long;
          holds = holds_there T held t x (with_speed x speed_now) got refl refl refl refl ok.holds;
          only = only_there T held t x (with_speed x speed_now) got refl refl refl refl ok.only;
          stops = λ o. rw (run_later (braking_distance T) request_due speed_now (omega arith)) (new_stops o);
          next_slow = λ o d h. new_next o h;
          walked = ok.walked;
          asks_well = ok.asks_well;
        }
