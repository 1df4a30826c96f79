-- The three names for a train's segments, opened: what is under it lies at a place from its rear's to its front's, what may be allocated
-- ahead of it is its next, and that is what it asks for. Other proofs know them by these laws.
use Prim.Native.Nat.{ℕ, ◌+◌, ◌≤◌, ◌<◌}
use mathlib.Core.Path.{◌≡◌, refl, sym, ◌∙◌}
use mathlib.Core.Logic.{◌↔◌, inl, inr}
use mathlib.Core.Bool.{Bool, true, ◌&&◌, ◌||◌}
use native.Mathlib.Omega.{arith}
use lib.Dec.{leb, ltb, eqb}
use borrow.Author.Tests.{ltb-true, eqb-true, eq-eqb, lt-ltb, le-ltb, le-leb}
use Rattle.lists.proofs.Cases.{facts, cases, lt_or_le, either, either_yes}
use Rattle.lists.proofs.Loops.{every_at, every_all}
use Rattle.lists.proofs.Some.{some_found, found_some}
use Rattle.tables.specs.declared.Tables.{Tables}
use Rattle.tables.specs.Tables.{count_of, segment_at}
use Rattle.trains.specs.declared.Train.{Train}
use Rattle.trains.specs.Train.{own_in, own_of, next_in, next_of, own_length, rear_in, rear_of, occupied_in, occupied, holds_all_in, ahead_in, ahead, wanted_in, wanted}
use Rattle.trains.specs.SoundFacts.{IsUnder, IsNext}
use Rattle.trains.proofs.Rear.{rear_high, rear_iff}

-- segment s is under train x: where on its route
pub record Beneath (T : Tables) (x : Train) (s : ℕ) : Type 0 where
  pub place : ℕ
  pub low : 1 ≤ place
  pub high : place ≤ x.place
  pub rear : rear_of T x ≤ place
  pub segment : segment_at T.routebytes x.route place ≡ s

module _ (T : Tables) (x : Train) where
  abbrev under : ℕ → ℕ → Bool
  under s p = leb (rear_of T x) p && eqb (segment_at T.routebytes x.route p) s

  pub occupied_beneath : {s : ℕ} → occupied T x s ≡ true → Beneath T x s
  unfolding occupied_in
  occupied_beneath {s} e =
      let i = some_found (under s) x.place e in
      let f = simp facts at i.holds in
      record { place = i.number; low = i.low; high = i.high; rear = f.0; segment = f.1 }

  pub beneath_occupied : {s : ℕ} → Beneath T x s → occupied T x s ≡ true
  unfolding occupied_in
  beneath_occupied {s} b =
      found_some (under s) x.place b.place b.low b.high
      (rw (le-leb (rear_of T x) b.place b.rear, eq-eqb (segment_at T.routebytes x.route b.place) s b.segment))

  -- the rear is no further on than the front
  pub rear_upto : 1 ≤ x.place → rear_of T x ≤ x.place
  unfolding rear_in
  rear_upto low = rear_high T x.route x.place _ x.place low (omega arith)

  -- its own segment is under it
  pub own_occupied : {s : ℕ} → 1 ≤ x.place → own_of T x ≡ s → occupied T x s ≡ true
  unfolding own_in
  own_occupied {s} low e =
      beneath_occupied (record { place = x.place; low = low; high = omega arith; rear = rear_upto low; segment = e })

  -- the test of a record: every segment under it is allocated to it
  pub all_held_iff :
      (held : ℕ → ℕ) (t : ℕ)
      → (holds_all_in T.routebytes T.lengths held t x ≡ true) ↔ ((s : ℕ) → occupied T x s ≡ true → held s ≡ t)
  unfolding holds_all_in
  all_held_iff held t = (
    λ e s o.
        let b = occupied_beneath o in
        let h : (ltb b.place (rear_of T x) || eqb (held (segment_at T.routebytes x.route b.place)) t) ≡ true = every_at _ x.place e b.place b.low b.high in
        cases (either (ltb b.place (rear_of T x)) (eqb (held (segment_at T.routebytes x.route b.place)) t) h)
        (λ q. absurd (omega (arith, ltb-true b.place (rear_of T x) q, b.rear)))
        (λ q. rw b.segment at (eqb-true (held (segment_at T.routebytes x.route b.place)) t q)),
    λ f.
        every_all _ x.place
        (λ p low high.
        either_yes (ltb p (rear_of T x)) (eqb (held (segment_at T.routebytes x.route p)) t)
        (cases (lt_or_le p (rear_of T x)) (λ l. inl (lt-ltb p (rear_of T x) l))
        (λ l.
        inr (eq-eqb (held (segment_at T.routebytes x.route p)) t
        (f (segment_at T.routebytes x.route p)
        (beneath_occupied (record { place = p; low = low; high = high; rear = l; segment = refl }))))))),
  )

  -- THE CLAIM: its next is the segment that follows its own on its route; on the route's last segment there is none
  pub next_there : x.place < count_of T.routebytes x.route → next_of T x ≡ segment_at T.routebytes x.route (x.place + 1)
  unfolding next_in
  next_there h = rw (lt-ltb x.place (count_of T.routebytes x.route) h)

  pub next_none : count_of T.routebytes x.route ≤ x.place → next_of T x ≡ 0
  unfolding next_in
  next_none h = rw (le-ltb x.place (count_of T.routebytes x.route) h)

  -- THE CLAIM: that is what it asks for
  pub wanted_next : x.place < count_of T.routebytes x.route → wanted T x ≡ segment_at T.routebytes x.route (x.place + 1)
  unfolding wanted_in
  wanted_next h = next_there h

  pub wanted_none : count_of T.routebytes x.route ≤ x.place → wanted T x ≡ 0
  unfolding wanted_in
  wanted_none h = next_none h

  pub next_ahead : {s : ℕ} → 1 ≤ s → next_of T x ≡ s → ahead T x s ≡ true
  unfolding ahead_in
  next_ahead {s} some e = rw (lt-ltb 0 s some, eq-eqb (next_of T x) s e)

  pub ahead_next : {s : ℕ} → ahead T x s ≡ true → (1 ≤ s) × (next_of T x ≡ s)
  unfolding ahead_in
  ahead_next {s} e = let f = simp facts at e in (f.0, f.1)

  -- what it asks for may be allocated ahead of it
  pub wanted_ahead : {s : ℕ} → 1 ≤ s → wanted T x ≡ s → ahead T x s ≡ true
  wanted_ahead some e =
      cases (lt_or_le x.place (count_of T.routebytes x.route))
      (λ l. next_ahead some (next_there l ∙ sym (wanted_next l) ∙ e))
      (λ l. absurd (omega (arith, wanted_none l, some, e)))

-- THE CLAIM: of a train that has not come to its segment's end, what is under it by lengths summed back from its front is what is under it by
-- lengths summed from the route's start
pub occupied_iff : (T : Tables) (x : Train) → x.position < own_length T x → (s : ℕ) → (occupied T x s ≡ true) ↔ IsUnder T x s
occupied_iff T x inside s = (
  λ o.
      let b = occupied_beneath T x o in
      record {
        place = b.place;
        under = record { place = (b.low, b.high); rear = (rear_iff T x inside b.place b.low b.high).0 b.rear };
        segment = b.segment;
      },
  λ u.
      let p = u.under.place in
      beneath_occupied T x
      (record {
        place = u.place;
        low = p.0;
        high = p.1;
        rear = (rear_iff T x inside u.place p.0 p.1).1 u.under.rear;
        segment = u.segment;
      }),
)

-- its next, by places of the route
pub ahead_iff :
    (T : Tables) (x : Train) (s : ℕ) → 1 ≤ s → (ahead T x s ≡ true) ↔ IsNext T x s
unfolding next_in
ahead_iff T x s some = (
  λ e.
      let n : next_of T x ≡ s = (ahead_next T x e).1 in
      cases (lt_or_le x.place (count_of T.routebytes x.route))
      (λ l. record { later = l; segment = rw (lt-ltb x.place (count_of T.routebytes x.route) l) at n })
      (λ l. let z = rw (le-ltb x.place (count_of T.routebytes x.route) l) at n in absurd (omega arith)),
  λ f. next_ahead T x some (rw (lt-ltb x.place (count_of T.routebytes x.route) f.later) f.segment),
)

-- what may be allocated ahead of a train is the same for another at the same place of the same route; what is under it, if that one is as
-- far in its segment and as long
module _ (T : Tables) (x y : Train) (route : y.route ≡ x.route) (place : y.place ≡ x.place) where
  pub ahead_same : (s : ℕ) → ahead T y s ≡ ahead T x s
  unfolding ahead_in next_in
  ahead_same s = rw (route, place)

  pub occupied_same : y.position ≡ x.position → y.length ≡ x.length → (s : ℕ) → occupied T y s ≡ occupied T x s
  unfolding occupied_in rear_in
  occupied_same position length s = rw (route, place, position, length)
