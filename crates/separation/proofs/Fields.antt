-- From what is kept, each sentence of the claim.
use Prim.Native.Nat.{ℕ, zero, suc, ◌+◌, ◌-◌, ◌≤◌, ◌<◌}
use mathlib.Core.Path.{◌≡◌, refl, sym, ap, ◌∙◌}
use mathlib.Core.Logic.{◌⊎◌, inl, inr, ◌↔◌}
use mathlib.Core.Bool.{true}
use native.Mathlib.Nat.{le_trans}
use native.Mathlib.Omega.{arith}
use borrow.Author.Tests.{eq-eqb}
use Rattle.lists.specs.Words.{at}
use Rattle.lists.proofs.Cases.{by_test, cases, lt_or_le}
use Rattle.tables.specs.declared.Tables.{Tables}
use Rattle.tables.specs.Tables.{count_of, segment_at, braking_distance}
use Rattle.tables.specs.Facts.{Consistent}
use Rattle.trains.specs.declared.Train.{Train}
use Rattle.trains.specs.Train.{train_at, own_in, own_of, next_of, holds_next, rear_of, occupied}
use Rattle.trains.specs.Sound.{to_run}
use Rattle.trains.specs.Way.{start_after}
use Rattle.trains.proofs.Rear.{start_step, start_mono, rear_iff}
use Rattle.trains.proofs.Segments.{occupied_beneath, beneath_occupied, ahead_next}
use Rattle.trains.proofs.Safety.{TrainOk, run_within, next_is, in_margin, held_next}
use Rattle.separation.specs.Runs.{World}
use Rattle.separation.specs.Where.{OnArea, route_of, length_of, segment_on, OwnPlace, HasOwn, OnSegment, GrantedNext, position_of, speed_of, still_to_run, held_from, reach}
use Rattle.separation.proofs.Places.{one_place}
use Rattle.separation.proofs.Kept.{Kept, routes, lengths}

module _ (T : Tables) (K : Consistent T) (w : World) (k : Kept T w.area.allocations w.area.trains w.area.due w.history) where
  abbrev x : ℕ → Train
  x t = train_at w.area.trains t

  -- the record's route and length are those of the list
  pub route_of_lem : (t : ℕ) → OnArea T w t → (x t).route ≡ route_of T w t
  route_of_lem t o = routes T w.area.allocations w.area.trains w.area.due w.history k t o

  pub length_of_lem : (t : ℕ) → OnArea T w t → (x t).length ≡ length_of T w t
  length_of_lem t o = lengths T w.area.allocations w.area.trains w.area.due w.history k t o

  abbrev ok : (t : ℕ) → OnArea T w t → TrainOk T w.area.due (at w.area.allocations) t (x t) (w.history.way t) (w.history.granted t)
  ok t o = k.ons t o

  -- the way, by the route of the list
  walked : (t : ℕ) → OnArea T w t → w.history.way t ≡ start_after T (route_of T w t) ((x t).place - 1) + (x t).position
  walked t o = rw (sym (route_of_lem t o)) (ok t o).walked

  own_segment : (t : ℕ) → OnArea T w t → own_of T (x t) ≡ segment_on T w t (x t).place
  unfolding own_in
  own_segment t o = rw (route_of_lem t o)

  -- the record's place is an own place
  own_here : (t : ℕ) → OnArea T w t → OwnPlace T w t (x t).place
  own_here t o =
      let i = (ok t o).inside in
      let s = start_step T (route_of T w t) (x t).place (ok t o).on_route.place_low in
      record {
        on = o;
        place = ((ok t o).on_route.place_low, rw (sym (route_of_lem t o)) (ok t o).on_route.place_high);
        starts = omega (arith, walked t o);
        ends = omega (arith, walked t o, s, rw (own_segment t o) at i);
      }

  -- and the only one
  pub has_own : (t : ℕ) → OnArea T w t → HasOwn T w t
  has_own t o =
      let q = own_here t o in
      record {
        place = (x t).place;
        own = q;
        only = λ p r. one_place T (route_of T w t) (w.history.way t) p (x t).place r.place.0 q.place.0 r.starts r.ends q.starts q.ends;
      }

  pub here : (t p : ℕ) → OwnPlace T w t p → (x t).place ≡ p
  unfolding has_own
  here t p o = sym ((has_own t o.on).only p o)

  -- the record's own segment is the one at an own place
  own_at : (t p s : ℕ) → OwnPlace T w t p → segment_on T w t p ≡ s → own_of T (x t) ≡ s
  own_at t p s o e = own_segment t o.on ∙ (ap (segment_on T w t) (here t p o) ∙ e)

  -- a place that its front has come to is not after its front's
  arrived_upto : (t p : ℕ) → OnArea T w t → start_after T (route_of T w t) (p - 1) ≤ w.history.way t → p ≤ (x t).place
  arrived_upto t p o h =
      let e = (own_here t o).ends in
      cases (lt_or_le (x t).place p) (λ l. absurd (omega (arith, h, e, start_mono T (route_of T w t) (x t).place (p - 1) (omega arith)))) (λ l. l)

  -- by the way and the length of the list, and by the record, the same places are under it
  rear_same :
      (t p : ℕ) → OnArea T w t → 1 ≤ p → p ≤ (x t).place
      → (rear_of T (x t) ≤ p) ↔ (w.history.way t < start_after T (route_of T w t) p + length_of T w t)
  rear_same t p o low high = (
    λ h. rw (route_of_lem t o, length_of_lem t o, ← walked t o) at ((rear_iff T (x t) (ok t o).inside p low high).0 h),
    λ h. (rear_iff T (x t) (ok t o).inside p low high).1 (rw (route_of_lem t o, length_of_lem t o, ← walked t o) h),
  )

  on_occupied : (t s : ℕ) → OnSegment T w t s → occupied T (x t) s ≡ true
  on_occupied t s o =
      let u = o.under in
      let high = arrived_upto t o.place u.on u.arrived in
      beneath_occupied T (x t)
      (record {
        place = o.place;
        low = u.place.0;
        high = high;
        rear = (rear_same t o.place u.on u.place.0 high).1 u.rear;
        segment = rw (route_of_lem t u.on) o.segment;
      })

  occupied_on : (t s : ℕ) → OnArea T w t → occupied T (x t) s ≡ true → OnSegment T w t s
  occupied_on t s o e =
      let b = occupied_beneath T (x t) e in
      let q = own_here t o in
      record {
        place = b.place;
        under =
            record {
              on = o;
              place = (b.low, omega (arith, b.high, q.place.1));
              arrived = omega (arith, q.starts, start_mono T (route_of T w t) (b.place - 1) ((x t).place - 1) (omega (arith, b.high)));
              rear = (rear_same t b.place o b.low b.high).0 b.rear;
            };
        segment = ap (λ (r : ℕ). segment_at T.routebytes r b.place) (sym (route_of_lem t o)) ∙ b.segment;
      }

  -- a train on the area is on a segment, by its way and the length that its enter named, exactly where the record has the segment under it
  pub on_iff : (t s : ℕ) → OnArea T w t → OnSegment T w t s ↔ (occupied T (x t) s ≡ true)
  on_iff t s o = (on_occupied t s, occupied_on t s o)

  pub is_allocated : (t s : ℕ) → OnSegment T w t s → at w.area.allocations s ≡ t
  is_allocated t s o = (ok t o.under.on).holds s (on_occupied t s o)

  pub is_apart : (t u s : ℕ) → OnSegment T w t s → OnSegment T w u s → t ≡ u
  is_apart t u s a b = sym (is_allocated t s a) ∙ is_allocated u s b

  pub is_slow : (t p : ℕ) → OwnPlace T w t p → speed_of T w t ≤ at T.limits (segment_on T w t p)
  is_slow t p o = rw (own_at t p (segment_on T w t p) o refl) at (ok t o.on).slow

  pub is_only : (t s : ℕ) → 1 ≤ t → at w.area.allocations s ≡ t → OnSegment T w t s ⊎ GrantedNext T w t s
  is_only t s some e =
      let o : OnArea T w t = rw e at (k.holders s (omega arith)) in
      cases ((ok t o).only s e) (λ q. inl (occupied_on t s o q))
      (λ q.
      let a = ahead_next T (x t) q.0 in
      let n = next_is T K (x t) (ok t o).on_route (omega (arith, a.0, a.1)) in
      let later : (x t).place < count_of T.routebytes (route_of T w t) = rw (sym (route_of_lem t o)) n.later in
      let same : segment_on T w t ((x t).place + 1) ≡ s = rw (sym (route_of_lem t o)) (sym n.same) ∙ a.1 in
      inr (record { place = (x t).place; own = own_here t o; later = later; next = same; granted = q.1 }))

  -- the first of the segments from place p on counts where it is allocated to the train
  held_first :
      (n t p s : ℕ) → 1 ≤ n → segment_on T w t p ≡ s → at w.area.allocations s ≡ t
      → at T.lengths s ≤ held_from T w n t p
  unfolding held_from
  held_first zero t p s some same e = absurd (omega arith)
  held_first (suc n) t p s some same e = rw (same, eq-eqb (at w.area.allocations s) t e) (omega arith)

  -- where its next is allocated to a train, its reach goes as far as that at least
  next_reached :
      (t : ℕ) → OnArea T w t → 1 ≤ next_of T (x t) → at w.area.allocations (next_of T (x t)) ≡ t
      → at T.lengths (own_of T (x t)) + at T.lengths (next_of T (x t)) ≤ reach T w t (x t).place
  next_reached t o some e =
      let n = next_is T K (x t) (ok t o).on_route some in
      let later : (x t).place < count_of T.routebytes (route_of T w t) = rw (sym (route_of_lem t o)) n.later in
      let same : segment_on T w t ((x t).place + 1) ≡ next_of T (x t) = rw (sym (route_of_lem t o)) (sym n.same) in
      let more = held_first (count_of T.routebytes (route_of T w t) - (x t).place) t ((x t).place + 1) (next_of T (x t)) (omega arith) same e in
      omega (arith, more, ap (at T.lengths) (own_segment t o))

  run_margin : (t : ℕ) → OnArea T w t → to_run (braking_distance T) w.area.due (x t).speed ≤ T.margin
  run_margin t o =
      le_trans (run_within (braking_distance T) w.area.due (x t).speed) (in_margin T K (x t) (ok t o).on_route (x t).speed (ok t o).slow)

  stops_here : (t : ℕ) → OnArea T w t → (x t).position + still_to_run T w t < reach T w t (x t).place
  stops_here t o =
      by_test (holds_next T (at w.area.allocations) t (x t))
      (λ h.
      let p = held_next T K (at w.area.allocations) t (x t) h in
      let n = next_is T K (x t) (ok t o).on_route p.0 in
      omega (arith, (ok t o).inside, run_margin t o, K.long (next_of T (x t)) n.segment, next_reached t o p.0 p.1))
      (λ h. omega (arith, (ok t o).stops h, ap (at T.lengths) (own_segment t o)))

  pub is_position : (t p : ℕ) → OwnPlace T w t p → (x t).position ≡ position_of T w t p
  is_position t p o = omega (arith, walked t o.on, ap (λ (q : ℕ). start_after T (route_of T w t) (q - 1)) (here t p o))

  pub is_stopping : (t p : ℕ) → OwnPlace T w t p → position_of T w t p + still_to_run T w t < reach T w t p
  is_stopping t p o = rw (sym (is_position t p o), sym (here t p o)) (stops_here t o.on)
