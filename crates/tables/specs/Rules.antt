-- Rules 4 to 10 of document 01, "Refusals", as conditions on tables. A rule of a record, a segment or a route is a test of its number.
-- n and R are the numbers of segments and routes, gmax the top speed, b the speed lost by a cycle of full braking, d the end distance;
-- β are the bounds that rules 4 and 6 read (document 02, R-3).
use Rattle.std.specs.Prelude.{ℕ, ◌+◌, ◌-◌, Bool, not, ◌&&◌, ◌||◌, List, leb, ltb, eqb, if◌then◌else◌}
use Rattle.lists.specs.Words.{at, every}
use Rattle.tables.specs.declared.Tables.{Tables}
use Rattle.tables.specs.declared.Segment.{Segment}
use Rattle.tables.specs.Bounds.{most_segments, most_routes, longest_route, Bounds, bounds}
use Rattle.tables.specs.Tables.{first_link, second_link, links_to, segment_of, count_of, segment_at, braking_distance}

-- rule 4, header: each number within its bounds
unfoldable pub header_in : Bounds → (n R gmax b d : ℕ) → Bool
header_in β n R gmax b d =
    leb 1 n && leb n most_segments && leb 1 R && leb R most_routes
    && leb 1 gmax && leb gmax β.fastest && leb 1 b && leb b gmax && leb 1 d && leb d β.longest

abbrev pub header_ok : Bounds → Tables → Bool
header_ok β T = header_in β T.segments T.routes T.gmax T.braking T.margin

-- rule 5, margin: `d` is at least S(`gmax`)
abbrev pub margin_ok : Tables → Bool
margin_ok T = leb (braking_distance T T.gmax) T.margin

-- links are at most n; a second link that is not 0 follows a first that is neither 0 nor the same number
unfoldable pub links_ok : (n first second : ℕ) → Bool
links_ok n first second = leb first n && leb second n && (eqb second 0 || (not (eqb first 0) && not (eqb first second)))

-- a record 1 to n: length above `d` + `gmax` and at most the longest; limit 1 to `gmax`; links; flags at most 3
unfoldable pub used_ok : Bounds → (n gmax d : ℕ) → Segment → Bool
used_ok β n gmax d s =
    ltb (d + gmax) s.length && leb s.length β.longest && leb 1 s.limit && leb s.limit gmax
    && links_ok n s.next1 s.next2 && links_ok n s.previous1 s.previous2 && leb s.flags 3

-- a record above n: all zero
unfoldable pub unused_ok : Segment → Bool
unused_ok s =
    eqb s.length 0 && eqb s.limit 0 && eqb s.next1 0 && eqb s.next2 0
    && eqb s.previous1 0 && eqb s.previous2 0 && eqb s.flags 0

-- rule 6, segment: of what is kept of segment record k
unfoldable pub row_ok : Bounds → (n gmax d k : ℕ) → Segment → Bool
row_ok β n gmax d k s = if leb k n then used_ok β n gmax d s else unused_ok s

abbrev pub segment_ok : Bounds → Tables → ℕ → Bool
segment_ok β T k = row_ok β T.segments T.gmax T.margin k (segment_of T k)

-- rule 7, joint: for each next link of s the matching previous link, and the reverse. `back` lists the links the other way
unfoldable pub matched : (back : List ℕ) (link s : ℕ) → Bool
matched back link s = eqb link 0 || links_to back link s

unfoldable pub joint_in : (next previous : List ℕ) → ℕ → Bool
joint_in next previous s =
    matched previous (first_link next s) s && matched previous (second_link next s) s
    && matched next (first_link previous s) s && matched next (second_link previous s) s

abbrev pub joint_ok : Tables → ℕ → Bool
joint_ok T = joint_in T.next T.previous

-- rule 8, order: each next link of s is greater than s
abbrev pub greater : (s link : ℕ) → Bool
greater s link = eqb link 0 || ltb s link

unfoldable pub order_in : (next : List ℕ) → ℕ → Bool
order_in next s = greater s (first_link next s) && greater s (second_link next s)

abbrev pub order_ok : Tables → ℕ → Bool
order_ok T = order_in T.next

-- rule 9, drop: the limit of s is at most that of each next segment + `b`
abbrev pub gentle : (limits : List ℕ) (b s link : ℕ) → Bool
gentle limits b s link = eqb link 0 || leb (at limits s) (at limits link + b)

unfoldable pub drop_in : (limits next : List ℕ) (b s : ℕ) → Bool
drop_in limits next b s = gentle limits b s (first_link next s) && gentle limits b s (second_link next s)

abbrev pub drop_ok : Tables → ℕ → Bool
drop_ok T = drop_in T.limits T.next T.braking

-- rule 10, route: the number at place p of route r is 1 to n
abbrev pub number_in : (routebytes : List ℕ) (n r p : ℕ) → Bool
number_in routebytes n r p = leb 1 (segment_at routebytes r p) && leb (segment_at routebytes r p) n

-- the step from place p to the next is a next link
abbrev pub step_in : (next routebytes : List ℕ) (r p : ℕ) → Bool
step_in next routebytes r p = links_to next (segment_at routebytes r p) (segment_at routebytes r (p + 1))

-- place p is zero; place p is zero if it stands after the count
abbrev pub zero_in : (routebytes : List ℕ) (r p : ℕ) → Bool
zero_in routebytes r p = eqb (segment_at routebytes r p) 0

abbrev pub rest_in : (routebytes : List ℕ) (r p : ℕ) → Bool
rest_in routebytes r p = leb p (count_of routebytes r) || zero_in routebytes r p

-- a record 1 to R: the count is 1 to 31, each of the first `count` numbers is 1 to n, each step from one to the next is a next link,
-- the rest is zero
unfoldable pub used_route_ok : (next routebytes : List ℕ) (n r : ℕ) → Bool
used_route_ok next routebytes n r =
    leb 1 (count_of routebytes r) && leb (count_of routebytes r) longest_route
    && every (count_of routebytes r) (number_in routebytes n r)
    && every (count_of routebytes r - 1) (step_in next routebytes r)
    && every longest_route (rest_in routebytes r)

-- a record above R: all zero
unfoldable pub unused_route_ok : (routebytes : List ℕ) (r : ℕ) → Bool
unused_route_ok routebytes r = eqb (count_of routebytes r) 0 && every longest_route (zero_in routebytes r)

unfoldable pub route_in : (next routebytes : List ℕ) (n R r : ℕ) → Bool
route_in next routebytes n R r = if leb r R then used_route_ok next routebytes n r else unused_route_ok routebytes r

abbrev pub route_ok : Tables → ℕ → Bool
route_ok T = route_in T.next T.routebytes T.segments T.routes

-- "Tables meet 4 to 10", with the bounds in force: rules 6 and 10 of all records, rules 7 to 9 of the segments 1 to N
unfoldable pub meets : Tables → Bool
meets T =
    header_ok bounds T && margin_ok T
    && every most_segments (segment_ok bounds T)
    && every T.segments (joint_ok T)
    && every T.segments (order_ok T)
    && every T.segments (drop_ok T)
    && every most_routes (route_ok T)
