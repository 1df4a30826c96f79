-- A train whose front has run on by its speed: where it is then, and what is under it.
use Prim.Native.Nat.{ℕ, ◌+◌, ◌-◌, ◌≤◌, ◌<◌}
use mathlib.Core.Path.{◌≡◌, refl, sym}
use mathlib.Core.Logic.{◌↔◌}
use mathlib.Core.Bool.{false}
use native.Mathlib.Omega.{arith}
use Rattle.lists.proofs.Cases.{is_false}
use Rattle.tables.specs.declared.Tables.{Tables}
use Rattle.tables.specs.Tables.{count_of, segment_at}
use Rattle.tables.specs.Facts.{Consistent}
use Rattle.tables.proofs.Routes.{segments_rise}
use Rattle.trains.specs.declared.Train.{Train}
use Rattle.trains.specs.Train.{moved_to, own_in, own_of, next_of, own_length, own_limit, rear_of, occupied}
use Rattle.trains.specs.Way.{start_after}
use Rattle.trains.proofs.Rear.{start_step, rear_iff}
use Rattle.trains.proofs.Segments.{occupied_beneath}
use Rattle.trains.proofs.Safety.{OnRoute, own_is, next_is}

module _ (T : Tables) (K : Consistent T) where
  -- a segment further on along its route is not under a train
  pub beyond_free :
      (x : Train) → OnRoute T x.route x.place → (p : ℕ) → x.place < p → p ≤ count_of T.routebytes x.route
      → occupied T x (segment_at T.routebytes x.route p) ≡ false
  beyond_free x o p beyond high =
      is_false (occupied T x (segment_at T.routebytes x.route p))
      (λ e.
      let b = occupied_beneath T x e in
      let up = segments_rise T K x.route b.place p o.route_low o.route_high b.low (omega (arith, b.high)) high in
      omega (arith, up, b.segment))

  pub next_free : (x : Train) → OnRoute T x.route x.place → 1 ≤ next_of T x → occupied T x (next_of T x) ≡ false
  next_free x o some =
      let n = next_is T K x o some in
      rw n.same (beyond_free x o (x.place + 1) (omega arith) (omega (arith, n.later)))

  -- train y is train x when its front has run on by its speed
  pub record Moved (x y : Train) : Type 0 where
    pub route : y.route ≡ x.route
    pub length : y.length ≡ x.length
    pub forward : x.place ≤ y.place
    pub upto : y.place ≤ count_of T.routebytes x.route
    pub inside : y.position < own_length T y
    pub way :
        start_after T x.route (y.place - 1) + y.position ≡ start_after T x.route (x.place - 1) + x.position + x.speed

  pub stays_on :
      (x : Train) → OnRoute T x.route x.place → x.position + x.speed < own_length T x → Moved x (moved_to x x.place (x.position + x.speed))
  unfolding own_in
  stays_on x o short =
      record { route = refl; length = refl; forward = omega arith; upto = o.place_high; inside = short; way = omega arith }

  pub goes_on :
      (x : Train) → OnRoute T x.route x.place → x.position < own_length T x → x.speed ≤ own_limit T x → own_length T x ≤ x.position + x.speed
      → 1 ≤ next_of T x → Moved x (moved_to x (x.place + 1) (x.position + x.speed - own_length T x))
  unfolding own_in
  goes_on x o inside slow past some =
      let n = next_is T K x o some in
      let e : segment_at T.routebytes x.route (x.place + 1) ≡ next_of T x = sym n.same in
      let long = K.long (next_of T x) n.segment in
      let fast = K.limited (own_of T x) (own_is T K x o) in
      let back : x.place + 1 - 1 ≡ x.place = omega arith in
      record {
        route = refl;
        length = refl;
        forward = omega arith;
        upto = omega (arith, n.later);
        inside = rw e (omega (arith, inside, slow, long, fast));
        way = rw back (omega (arith, start_step T x.route x.place o.place_low, past));
      }

  -- its rear after the step, by its way before it
  pub rear_after :
      (x y : Train) → Moved x y → (p : ℕ) → 1 ≤ p → p ≤ y.place
      → (rear_of T y ≤ p) ↔ (start_after T x.route (x.place - 1) + x.position + x.speed < start_after T x.route p + x.length)
  rear_after x y m p from upto = (
    λ h. rw (m.route, m.length, m.way) at ((rear_iff T y m.inside p from upto).0 h),
    λ h. (rear_iff T y m.inside p from upto).1 (rw (m.route, m.length, m.way) h),
  )

  -- what is under it after the step and not ahead of where its front was, was under it before
  pub under_before :
      (x y : Train) → x.position < own_length T x → Moved x y → (p : ℕ) → 1 ≤ p → p ≤ x.place → rear_of T y ≤ p → rear_of T x ≤ p
  under_before x y inside m p low high h =
      (rear_iff T x inside p low high).1 (omega (arith, (rear_after x y m p low (omega (arith, m.forward))).0 h))
