-- Tables that meet rules 4 to 10 are consistent, and what the bounds decide of these rules.
use Prim.Native.Nat.{ℕ, ◌+◌, ◌≤◌, ◌<◌}
use mathlib.Core.Path.{◌≡◌}
use mathlib.Core.Bool.{Bool, true, ◌||◌}
use mathlib.Core.Logic.{◌↔◌}
use mathlib.Core.List.{List}
use native.Mathlib.Omega.{arith}
use lib.Dec.{leb, ltb, eqb}
use borrow.Author.Tests.{leb-true, ltb-true, eqb-true, le-leb}
use Rattle.lists.specs.Words.{at}
use Rattle.lists.proofs.Cases.{cases, by_test, either, and_iff, facts}
use Rattle.lists.proofs.Loops.{every_at, every_all}
use Rattle.tables.specs.declared.Tables.{Tables}
use Rattle.tables.specs.Bounds.{most_segments, most_routes, longest_route, Bounds, bounds, smaller_bounds}
use Rattle.tables.specs.Tables.{first_link, second_link, links_to, segment_of, count_of, segment_at}
use Rattle.tables.specs.Rules.{header_in, header_ok, links_ok, used_ok, row_ok, segment_ok, matched, joint_in, order_in, drop_in, number_in, step_in, used_route_ok, route_in, joint_ok, order_ok, drop_ok, route_ok, meets}
use Rattle.tables.specs.Facts.{MeetsWithin, Meets, IsSegment, HeaderWithin, Within, Consistent}

-- what holds of each link of a segment that is not 0 holds of every number that it links to
module _ (links : List ℕ) (p : ℕ → Bool) (s : ℕ) (first : (eqb (first_link links s) 0 || p (first_link links s)) ≡ true) (second : (eqb (second_link links s) 0 || p (second_link links s)) ≡ true) where
  one : (l n : ℕ) → (eqb l 0 || p l) ≡ true → eqb l n ≡ true → 1 ≤ n → p n ≡ true
  one l n h e some =
      let same : l ≡ n = eqb-true l n e in
      cases (either (eqb l 0) (p l) h) (λ z. let q : l ≡ 0 = eqb-true l 0 z in absurd (omega arith)) (λ q. rw same at q)

  of_link : (n : ℕ) → links_to links s n ≡ true → 1 ≤ n → p n ≡ true
  unfolding links_to
  of_link n h some =
      cases (either (eqb (first_link links s) n) (eqb (second_link links s) n) h) (λ e. one (first_link links s) n first e some) (λ e. one (second_link links s) n second e some)

-- THE CLAIM: the test of rule 4 asks that each number of the header is within its bounds, and nothing else
pub header_iff : (β : Bounds) (n R gmax b d : ℕ) → (header_in β n R gmax b d ≡ true) ↔ HeaderWithin β n R gmax b d
unfolding header_in
header_iff β n R gmax b d = (
  λ h.
      let f = simp facts at h in
      record { segments = omega arith; routes = omega arith; top = omega arith; rate = omega arith; margin = omega arith },
  λ w. simp facts (omega (arith, w.segments, w.routes, w.top, w.rate, w.margin)),
)

module _ {β : Bounds} {T : Tables} (m : MeetsWithin β T) where
  header_facts : HeaderWithin β T.segments T.routes T.gmax T.braking T.margin
  header_facts = (header_iff β _ _ _ _ _).0 m.header

  used : (s : ℕ) → IsSegment T s → used_ok β T.segments T.gmax T.margin (segment_of T s) ≡ true
  unfolding row_ok
  used s i = let f = header_facts.segments in let h = m.segment s i.from (omega arith) in rw (le-leb s T.segments i.to) at h

  used_facts : (s : ℕ) → IsSegment T s → (T.margin + T.gmax < at T.lengths s) × (at T.lengths s ≤ β.longest) × (1 ≤ at T.limits s) × (at T.limits s ≤ T.gmax)
  unfolding used_ok
  used_facts s i = let h = used s i in let f = simp facts at h in omega arith

  -- a link of a segment is at most N
  link_facts : (s : ℕ) → IsSegment T s → (first_link T.next s ≤ T.segments) × (second_link T.next s ≤ T.segments)
  unfolding used_ok links_ok
  link_facts s i = let h = used s i in let f = simp facts at h in omega arith

  next_back : (s n : ℕ) → IsSegment T s → 1 ≤ n → links_to T.next s n ≡ true → links_to T.previous n s ≡ true
  unfolding joint_in matched
  next_back s n i some l =
      let h = m.joint s i.from i.to in
      let f = simp and_iff at h in
      of_link T.next (λ (k : ℕ). links_to T.previous k s) s f.0.0.0 f.0.0.1 n l some

  previous_forth : (s n : ℕ) → IsSegment T s → 1 ≤ n → links_to T.previous s n ≡ true → links_to T.next n s ≡ true
  unfolding joint_in matched
  previous_forth s n i some l =
      let h = m.joint s i.from i.to in
      let f = simp and_iff at h in
      of_link T.previous (λ (k : ℕ). links_to T.next k s) s f.0.1 f.1 n l some

  link_bound : (s n : ℕ) → IsSegment T s → links_to T.next s n ≡ true → n ≤ T.segments
  unfolding links_to
  link_bound s n i l =
      let f = link_facts s i in
      cases (either (eqb (first_link T.next s) n) (eqb (second_link T.next s) n) l) (λ e. omega (arith, eqb-true (first_link T.next s) n e)) (λ e. omega (arith, eqb-true (second_link T.next s) n e))

  link_rises : (s n : ℕ) → IsSegment T s → 1 ≤ n → links_to T.next s n ≡ true → s < n
  unfolding order_in
  link_rises s n i some l =
      let h = m.order s i.from i.to in
      let f = simp and_iff at h in
      ltb-true s n (of_link T.next (ltb s) s f.0 f.1 n l some)

  link_gentle : (s n : ℕ) → IsSegment T s → 1 ≤ n → links_to T.next s n ≡ true → at T.limits s ≤ at T.limits n + T.braking
  unfolding drop_in
  link_gentle s n i some l =
      let h = m.drop s i.from i.to in
      let f = simp and_iff at h in
      leb-true _ _ (of_link T.next (λ (k : ℕ). leb (at T.limits s) (at T.limits k + T.braking)) s f.0 f.1 n l some)

  -- the tests of a route in order: its count's bounds, the numbers up to it, the steps between them, the rest
  route_tests : (r : ℕ) → 1 ≤ r → r ≤ T.routes → used_route_ok T.next T.routebytes T.segments r ≡ true
  unfolding route_in
  route_tests r low high = let f = header_facts.routes in let h = m.route r low (omega arith) in rw (le-leb r T.routes high) at h

  count_facts : (r : ℕ) → 1 ≤ r → r ≤ T.routes → (1 ≤ count_of T.routebytes r) × (count_of T.routebytes r ≤ longest_route)
  unfolding used_route_ok
  count_facts r low high = let h = route_tests r low high in let f = simp facts at h in omega arith

  place_facts : (r p : ℕ) → 1 ≤ r → r ≤ T.routes → 1 ≤ p → p ≤ count_of T.routebytes r → IsSegment T (segment_at T.routebytes r p)
  unfolding used_route_ok
  place_facts r p low high from to =
      let f = simp and_iff at (route_tests r low high) in
      let g = simp facts at (every_at (number_in T.routebytes T.segments r) _ f.0.0.1 p from to) in
      record { from = g.0; to = g.1 }

  step_facts :
      (r p : ℕ) → 1 ≤ r → r ≤ T.routes → 1 ≤ p → p < count_of T.routebytes r
      → links_to T.next (segment_at T.routebytes r p) (segment_at T.routebytes r (p + 1)) ≡ true
  unfolding used_route_ok
  step_facts r p low high from to =
      let f = simp and_iff at (route_tests r low high) in
      every_at (step_in T.next T.routebytes r) _ f.0.1 p from (omega arith)

  -- THE CLAIM: tables that meet the rules with some bounds are within them: `gmax`, `d` and every length
  pub within_asked : Within β T
  within_asked = record { gmax = header_facts.top.1; margin = header_facts.margin.1; lengths = λ s i. (used_facts s i).1 }

-- THE CLAIM: where tables meet rules 4 to 10, top speed stops within `d`, next links match previous ones, rise and drop the limit by at most `b`,
-- and routes follow next links; each field of `Consistent` says one such fact
pub consistent : (T : Tables) → Meets T → Consistent T
consistent T m =
    record {
      segments = (header_facts m).segments;
      routes = (header_facts m).routes;
      gmax = (header_facts m).top.1;
      rate = (header_facts m).rate.0;
      stops = leb-true _ _ m.margin;
      long = λ s i. (used_facts m s i).0;
      short = λ s i. (used_facts m s i).1;
      limited = λ s i. ((used_facts m s i).2, (used_facts m s i).3);
      linked = λ s n i f. link_bound m s n i f.link;
      back = λ s n i f. next_back m s n i f.some f.link;
      forth = λ s n i some l. previous_forth m s n i some l;
      rises = λ s n i f. link_rises m s n i f.some f.link;
      gentle = λ s n i f. link_gentle m s n i f.some f.link;
      counted = count_facts m;
      placed = place_facts m;
      stepped =
          λ r p low high from to.
          record { link = step_facts m r p low high from to; some = (place_facts m r (p + 1) low high (omega arith) (omega arith)).from };
    }

module _ {β β' : Bounds} {T : Tables} (m : MeetsWithin β T) (w : Within β' T) where
  header_enough : header_ok β' T ≡ true
  header_enough =
      let f = header_facts m in
      (header_iff β' _ _ _ _ _).1
      (record {
        segments = f.segments;
        routes = f.routes;
        top = (f.top.0, w.gmax);
        rate = f.rate;
        margin = (f.margin.0, w.margin);
      })

  used_enough : (s : ℕ) → IsSegment T s → used_ok β' T.segments T.gmax T.margin (segment_of T s) ≡ true
  unfolding used_ok
  used_enough s i =
      let h = used m s i in
      let f = simp and_iff at h in
      rw (f.0.0.0.0.0.0, le-leb _ _ (w.lengths s i), f.0.0.0.0.1, f.0.0.0.1, f.0.0.1, f.0.1, f.1)

  segment_enough : (s : ℕ) → 1 ≤ s → s ≤ most_segments → segment_ok β' T s ≡ true
  unfolding row_ok
  segment_enough s from to =
      by_test (leb s T.segments)
      (λ u. rw u (used_enough s (record { from = from; to = leb-true s T.segments u })))
      (λ u. let h = m.segment s from to in rw u (rw u at h))

  -- THE CLAIM: of rules 4 to 10 the bounds decide only this: tables that meet the rules with some bounds meet them with all that they are within
  pub within_enough : MeetsWithin β' T
  within_enough =
      record {
        header = header_enough;
        margin = m.margin;
        segment = segment_enough;
        joint = m.joint;
        order = m.order;
        drop = m.drop;
        route = m.route;
      }

-- the two values of the bounds in the papers' numbers, of tables that meet the rules with any bounds
module _ {β : Bounds} {T : Tables} (m : MeetsWithin β T) where
  -- THE CLAIM: the tables that meet the rules in force are those within document 02's numbers
  pub in_force : Meets T ↔ Within (record { fastest = 2000; longest = 4000000 }) T
  in_force = (λ n. within_asked n, λ w. within_enough m w)

  -- THE CLAIM: those that met them until now are the ones within document 01's
  pub until_now : MeetsWithin smaller_bounds T ↔ Within (record { fastest = 1000; longest = 1000000 }) T
  until_now = (λ n. within_asked n, λ w. within_enough m w)

-- THE CLAIM: the test of tables decides whether they meet rules 4 to 10
pub meets_iff : (T : Tables) → (meets T ≡ true) ↔ Meets T
unfolding meets
meets_iff T = (
  λ h.
      let f = simp and_iff at h in
      record {
        header = f.0.0.0.0.0.0;
        margin = f.0.0.0.0.0.1;
        segment = every_at (segment_ok bounds T) most_segments f.0.0.0.0.1;
        joint = every_at (joint_ok T) T.segments f.0.0.0.1;
        order = every_at (order_ok T) T.segments f.0.0.1;
        drop = every_at (drop_ok T) T.segments f.0.1;
        route = every_at (route_ok T) most_routes f.1;
      },
  λ m.
      rw (
        m.header,
        m.margin,
        every_all (segment_ok bounds T) most_segments m.segment,
        every_all (joint_ok T) T.segments m.joint,
        every_all (order_ok T) T.segments m.order,
        every_all (drop_ok T) T.segments m.drop,
        every_all (route_ok T) most_routes m.route,
      ),
)
