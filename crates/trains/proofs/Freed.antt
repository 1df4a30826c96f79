-- What a train frees at position: one segment at the most, the one at its rear's place; nothing while its rear is outside the area.
use Rattle.std.specs.Prelude.{if◌then◌else◌}
use Prim.Native.Nat.{ℕ, ◌+◌, ◌-◌, ◌≤◌, ◌<◌}
use mathlib.Core.Path.{◌≡◌, refl, sym, ap, ◌∙◌}
use mathlib.Core.Logic.{◌↔◌}
use mathlib.Core.List.{List}
use mathlib.Core.Bool.{true, false, not, and-eq-true_iff}
use native.Mathlib.Omega.{arith}
use lib.Dec.{eqb}
use borrow.Author.Tests.{eq-eqb, ne_eqb, lt-ltb, not-true}
use Rattle.lists.specs.Words.{at}
use Rattle.lists.proofs.Cases.{by_test, cases, lt_or_le, eq_or_ne, not_both, is_false, facts}
use Rattle.tables.specs.declared.Tables.{Tables}
use Rattle.tables.specs.Tables.{count_of, segment_at, braking_distance}
use Rattle.tables.specs.Facts.{Consistent}
use Rattle.tables.proofs.Distance.{distance_above}
use Rattle.tables.proofs.Routes.{one_place_of}
use Rattle.trains.specs.declared.Train.{Train}
use Rattle.trains.specs.Train.{own_in, own_of, next_of, own_length, own_limit, holds_next, rear_of, occupied}
use Rattle.trains.specs.Cycle.{moves_in, moves_on, moved_in, moved, released}
use Rattle.trains.specs.Way.{start_after, way_of}
use Rattle.trains.specs.FreedFacts.{RearPasses}
use Rattle.trains.specs.SoundFacts.{SoundTrain}
use Rattle.trains.specs.Due.{position_due}
use Rattle.trains.proofs.Rear.{start_step, start_mono, rear_iff, rear_low_of}
use Rattle.trains.proofs.Segments.{occupied_beneath, beneath_occupied, rear_upto}
use Rattle.trains.proofs.Safety.{OnRoute, run_later, held_next, own_is}
use Rattle.trains.proofs.Moved.{Moved, stays_on, goes_on, rear_after, under_before}

-- a train on the area that a position step can move: what a sound record says of it
pub record Movable (T : Tables) (x : Train) : Type 0 where
  pub on_route : OnRoute T x.route x.place
  pub inside : x.position < own_length T x
  pub slow : x.speed ≤ own_limit T x
  pub next : own_length T x ≤ x.position + x.speed → 1 ≤ next_of T x

-- with position due, a train that would pass its segment's end holds its next
pub sound_movable : (T : Tables) → Consistent T → (A : List ℕ) (t : ℕ) (x : Train) → 1 ≤ x.route → SoundTrain T A position_due t x → Movable T x
sound_movable T K A t x on s =
    record {
      on_route = record { route_low = on; route_high = s.route; place_low = s.place.0; place_high = s.place.1 };
      inside = s.position;
      slow = s.speed;
      next =
          λ past.
          by_test (holds_next T (at A) t x) (λ h. (held_next T K (at A) t x h).0)
          (λ h.
          let stop = rw (run_later (braking_distance T) position_due x.speed (omega arith)) at (s.stops h) in
          absurd (omega (arith, past, stop, distance_above T K x.speed)));
    }

module _ (T : Tables) (K : Consistent T) (x : Train) (v : Movable T x) where
  abbrev r : ℕ
  r = x.route

  pub is_moved : Moved T K x (moved T x)
  unfolding moves_in moved_in
  is_moved =
      by_test (moves_on T x)
      (λ goes.
      let f = simp facts at goes in
      let past : own_length T x ≤ x.position + x.speed = omega arith in
      rw goes (goes_on T K x v.on_route v.inside v.slow past (v.next past)))
      (λ stays.
      let h = rw (lt-ltb 0 r v.on_route.route_low) at stays in
      let f = simp facts at h in
      rw stays (stays_on T K x v.on_route (omega arith)))

  -- a segment that is freed: where on its route
  record Left (s : ℕ) : Type 0 where
    pub passed : RearPasses T x s
    pub rear : rear_of T x ≤ passed.place
    pub gone : passed.place < rear_of T (moved T x)

  -- a place up to the front's from the rear's of the train after the step on is under it
  still : (p : ℕ) → 1 ≤ p → p ≤ x.place → rear_of T (moved T x) ≤ p → occupied T (moved T x) (segment_at T.routebytes r p) ≡ true
  still p low high h =
      let m = is_moved in
      beneath_occupied T (moved T x)
      (record { place = p; low = low; high = omega (arith, m.forward); rear = h; segment = ap (λ (k : ℕ). segment_at T.routebytes k p) m.route })

  left_where : (s : ℕ) → released T x s ≡ true → Left s
  unfolding released
  left_where s e =
      let f = (and-eq-true_iff (occupied T x s) (not (occupied T (moved T x) s))).0 e in
      let b = occupied_beneath T x f.0 in
      let m = is_moved in
      let out : rear_of T (moved T x) ≤ b.place → ⊥ = λ h. not_both (occupied T (moved T x) s) (rw b.segment at (still b.place b.low b.high h)) (not-true _ f.1) in
      let upto : b.place ≤ (moved T x).place = omega (arith, b.high, m.forward) in
      let past : start_after T r b.place + x.length ≤ way_of T x + x.speed =
      cases (lt_or_le (way_of T x + x.speed) (start_after T r b.place + x.length))
      (λ l. absurd (out ((rear_after T K x (moved T x) m b.place b.low upto).1 l)))
      (λ l. l) in
      record {
        passed =
            record {
              place = b.place;
              of_route = (b.low, b.high);
              segment = b.segment;
              before = (rear_iff T x v.inside b.place b.low b.high).0 b.rear;
              after = past;
            };
        rear = b.rear;
        gone = cases (lt_or_le b.place (rear_of T (moved T x))) (λ l. l) (λ l. absurd (out l));
      }

  -- a place from the rear's on that the rear leaves behind is freed
  place_released :
      (p : ℕ) → 1 ≤ p → p ≤ x.place → rear_of T x ≤ p → p < rear_of T (moved T x) → released T x (segment_at T.routebytes r p) ≡ true
  unfolding released
  place_released p low high from behind =
      let o = v.on_route in
      let m = is_moved in
      let was : occupied T x (segment_at T.routebytes r p) ≡ true =
      beneath_occupied T x (record { place = p; low = low; high = high; rear = from; segment = refl }) in
      let gone : occupied T (moved T x) (segment_at T.routebytes r p) ≡ false =
      is_false (occupied T (moved T x) (segment_at T.routebytes r p))
      (λ e.
      let b = occupied_beneath T (moved T x) e in
      let same : segment_at T.routebytes r b.place ≡ segment_at T.routebytes r p =
      ap (λ (k : ℕ). segment_at T.routebytes k b.place) (sym m.route) ∙ b.segment in
      let q = one_place_of T K r b.place p o.route_low o.route_high b.low (omega (arith, b.high, m.upto)) low (omega (arith, high, o.place_high)) same in
      omega (arith, b.rear, q, behind)) in
      rw (was, gone)

  passes_released : (s : ℕ) → RearPasses T x s → released T x s ≡ true
  passes_released s a =
      let m = is_moved in
      let low = a.of_route.0 in
      let high = a.of_route.1 in
      let from = (rear_iff T x v.inside a.place low high).1 a.before in
      let behind : a.place < rear_of T (moved T x) =
      cases (lt_or_le a.place (rear_of T (moved T x))) (λ l. l)
      (λ l. absurd (omega (arith, a.after, (rear_after T K x (moved T x) m a.place low (omega (arith, high, m.forward))).0 l))) in
      rw a.segment at (place_released a.place low high from behind)

  -- a place's segment is longer than a train runs in one cycle
  longer : (p : ℕ) → 1 ≤ p → p ≤ x.place → x.speed < at T.lengths (segment_at T.routebytes r p)
  longer p low high =
      let o = v.on_route in
      let i = K.placed r p o.route_low o.route_high low (omega (arith, o.place_high)) in
      omega (arith, K.long (segment_at T.routebytes r p) i, K.limited (own_of T x) (own_is T K x o), v.slow)

  -- so two places of which the rear passes the ends in one step are one
  not_two : (s u : ℕ) (a : RearPasses T x s) (b : RearPasses T x u) → a.place < b.place → ⊥
  not_two s u a b l =
      omega (
        arith,
        a.before,
        b.after,
        start_mono T r a.place (b.place - 1) (omega arith),
        start_step T r b.place b.of_route.0,
        longer b.place b.of_route.0 b.of_route.1,
      )

  same_place : (s u : ℕ) → RearPasses T x s → RearPasses T x u → s ≡ u
  same_place s u a b =
      let e : a.place ≡ b.place =
      cases (lt_or_le a.place b.place) (λ l. absurd (not_two s u a b l))
      (λ l. cases (lt_or_le b.place a.place) (λ k. absurd (not_two u s b a k)) (λ k. omega arith)) in
      sym a.segment ∙ (ap (segment_at T.routebytes r) e ∙ b.segment)

  -- THE CLAIM: a segment is freed at position exactly where the rear comes to its end or past it in that step
  pub released_iff : (s : ℕ) → (released T x s ≡ true) ↔ RearPasses T x s
  released_iff s = (λ e. (left_where s e).passed, passes_released s)

  -- THE CLAIM: at most one segment is freed for a train in one position step
  pub one_freed : (s u : ℕ) → released T x s ≡ true → released T x u ≡ true → s ≡ u
  one_freed s u a b = same_place s u (left_where s a).passed (left_where u b).passed

  -- THE CLAIM: while the rear is outside the area nothing is freed
  pub outside_frees_none : way_of T x + x.speed ≤ x.length → (s : ℕ) → released T x s ≡ false
  outside_frees_none outside s =
      is_false (released T x s)
      (λ e.
      let l = left_where s e in
      let p = l.passed in
      omega (arith, p.after, outside, start_step T r p.place p.of_route.0, longer p.place p.of_route.0 p.of_route.1))

  inside_by : (y : Train) → y.route ≡ r → y.position < own_length T y → y.position < at T.lengths (segment_at T.routebytes r y.place)
  unfolding own_in
  inside_by y e h = rw e at h

  -- THE CLAIM: a train at least as long as its whole route frees nothing
  pub long_frees_none : start_after T r (count_of T.routebytes r) ≤ x.length → (s : ℕ) → released T x s ≡ false
  long_frees_none long =
      let m = is_moved in
      let y = moved T x in
      outside_frees_none
      (omega (
        arith,
        m.way,
        inside_by y m.route m.inside,
        start_step T r y.place (omega (arith, m.forward, v.on_route.place_low)),
        start_mono T r y.place (count_of T.routebytes r) m.upto,
        long,
      ))

  -- the rear does not go back
  rear_forward : rear_of T x ≤ rear_of T (moved T x)
  rear_forward =
      let low = rear_low_of T (moved T x) in
      cases (lt_or_le x.place (rear_of T (moved T x)))
      (λ l. omega (arith, rear_upto T x v.on_route.place_low, l))
      (λ l. under_before T K x (moved T x) v.inside is_moved (rear_of T (moved T x)) low l (omega arith))

  -- what is freed is the segment at the rear's place, where the rear leaves that place
  pub left_is :
      (s : ℕ) → 1 ≤ s
      → eqb (if not (eqb (rear_of T (moved T x)) (rear_of T x)) then segment_at T.routebytes r (rear_of T x) else 0) s ≡ released T x s
  unfolding released
  left_is s some =
      cases (eq_or_ne (rear_of T (moved T x)) (rear_of T x))
      (λ e.
      rw (eq-eqb (rear_of T (moved T x)) (rear_of T x) e, ne_eqb 0 s (λ z. omega arith))
      (sym (is_false (released T x s) (λ q. let l = left_where s q in omega (arith, l.rear, l.gone, e)))))
      (λ n.
      let ahead : rear_of T x < rear_of T (moved T x) = omega (arith, rear_forward) in
      let first = place_released (rear_of T x) (rear_low_of T x) (rear_upto T x v.on_route.place_low) (omega arith) ahead in
      rw (ne_eqb (rear_of T (moved T x)) (rear_of T x) n)
      (cases (eq_or_ne (segment_at T.routebytes r (rear_of T x)) s)
      (λ q. rw (eq-eqb _ s q) (sym (rw q at first)))
      (λ q. rw (ne_eqb _ s q) (sym (is_false (released T x s) (λ w. q (one_freed _ s first w)))))))
