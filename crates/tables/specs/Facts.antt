-- What rules 4 to 10 come to: that tables meet them, and the facts of such tables that all later proofs start from.
use Rattle.std.specs.Prelude.{ℕ, ◌+◌, ◌≤◌, ◌<◌, ◌≡◌, true}
use Rattle.lists.specs.Words.{at}
use Rattle.tables.specs.declared.Tables.{Tables}
use Rattle.tables.specs.Bounds.{most_segments, most_routes, longest_route, Bounds, bounds}
use Rattle.tables.specs.Tables.{links_to, count_of, segment_at, braking_distance}
use Rattle.tables.specs.Rules.{header_ok, margin_ok, segment_ok, joint_ok, order_ok, drop_ok, route_ok}

-- tables meet 4 to 10 with the bounds β: rules 6 and 10 of all records, rules 7 to 9 of the segments 1 to N
pub record MeetsWithin (β : Bounds) (T : Tables) : Type 0 where
  pub header : header_ok β T ≡ true
  pub margin : margin_ok T ≡ true
  pub segment : (s : ℕ) → 1 ≤ s → s ≤ most_segments → segment_ok β T s ≡ true
  pub joint : (s : ℕ) → 1 ≤ s → s ≤ T.segments → joint_ok T s ≡ true
  pub order : (s : ℕ) → 1 ≤ s → s ≤ T.segments → order_ok T s ≡ true
  pub drop : (s : ℕ) → 1 ≤ s → s ≤ T.segments → drop_ok T s ≡ true
  pub route : (r : ℕ) → 1 ≤ r → r ≤ most_routes → route_ok T r ≡ true

-- "Tables meet 4 to 10"
abbrev pub Meets : Tables → Type 0
Meets T = MeetsWithin bounds T

-- a segment of the area; segment n follows segment s: s has the next link n
pub record IsSegment (T : Tables) (s : ℕ) : Type 0 where
  pub from : 1 ≤ s
  pub to : s ≤ T.segments

pub record Follows (T : Tables) (s n : ℕ) : Type 0 where
  pub link : links_to T.next s n ≡ true
  pub some : 1 ≤ n

-- rule 4 as plain facts of the header's numbers
pub record HeaderWithin (β : Bounds) (n R gmax b d : ℕ) : Type 0 where
  pub segments : (1 ≤ n) × (n ≤ most_segments)
  pub routes : (1 ≤ R) × (R ≤ most_routes)
  pub top : (1 ≤ gmax) × (gmax ≤ β.fastest)
  pub rate : (1 ≤ b) × (b ≤ gmax)
  pub margin : (1 ≤ d) × (d ≤ β.longest)

-- tables within the bounds β: `gmax`, `d` and every length
pub record Within (β : Bounds) (T : Tables) : Type 0 where
  pub gmax : T.gmax ≤ β.fastest
  pub margin : T.margin ≤ β.longest
  pub lengths : (s : ℕ) → IsSegment T s → at T.lengths s ≤ β.longest

-- the facts of tables that meet the rules
pub record Consistent (T : Tables) : Type 0 where
  pub segments : (1 ≤ T.segments) × (T.segments ≤ most_segments)
  pub routes : (1 ≤ T.routes) × (T.routes ≤ most_routes)
  pub gmax : T.gmax ≤ bounds.fastest
  pub rate : 1 ≤ T.braking
  -- a train at top speed stops within the end distance
  pub stops : braking_distance T T.gmax ≤ T.margin
  pub long : (s : ℕ) → IsSegment T s → T.margin + T.gmax < at T.lengths s
  pub short : (s : ℕ) → IsSegment T s → at T.lengths s ≤ bounds.longest
  pub limited : (s : ℕ) → IsSegment T s → (1 ≤ at T.limits s) × (at T.limits s ≤ T.gmax)
  -- links lead to segments of the area, are matched both ways, rise, and drop the limit by at most `b`
  pub linked : (s n : ℕ) → IsSegment T s → Follows T s n → n ≤ T.segments
  pub back : (s n : ℕ) → IsSegment T s → Follows T s n → links_to T.previous n s ≡ true
  pub forth : (s n : ℕ) → IsSegment T s → 1 ≤ n → links_to T.previous s n ≡ true → links_to T.next n s ≡ true
  pub rises : (s n : ℕ) → IsSegment T s → Follows T s n → s < n
  pub gentle : (s n : ℕ) → IsSegment T s → Follows T s n → at T.limits s ≤ at T.limits n + T.braking
  -- a route has 1 to 31 segments of the area, each linked to the next
  pub counted : (r : ℕ) → 1 ≤ r → r ≤ T.routes → (1 ≤ count_of T.routebytes r) × (count_of T.routebytes r ≤ longest_route)
  pub placed : (r p : ℕ) → 1 ≤ r → r ≤ T.routes → 1 ≤ p → p ≤ count_of T.routebytes r → IsSegment T (segment_at T.routebytes r p)
  pub stepped : (r p : ℕ) → 1 ≤ r → r ≤ T.routes → 1 ≤ p → p < count_of T.routebytes r → Follows T (segment_at T.routebytes r p) (segment_at T.routebytes r (p + 1))
