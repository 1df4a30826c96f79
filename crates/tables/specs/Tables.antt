-- What the tables of an area say of a segment and of a route, by their numbers.
use Rattle.std.specs.Prelude.{ℕ, ◌+◌, ◌-◌, ◌*◌, Bool, ◌||◌, List, eqb, replicate}
use Rattle.lists.specs.Words.{at}
use Rattle.braking.specs.Braking.{S}
use Rattle.tables.specs.declared.Tables.{Tables}
use Rattle.tables.specs.declared.Segment.{Segment}

-- the two links of segment s in a list of links, two entries a segment; 0 for none
abbrev pub first_link : List ℕ → ℕ → ℕ
first_link links s = at links (2 * s - 1)

abbrev pub second_link : List ℕ → ℕ → ℕ
second_link links s = at links (2 * s)

-- one of the two links of segment s is n
unfoldable pub links_to : List ℕ → ℕ → ℕ → Bool
links_to links s n = eqb (first_link links s) n || eqb (second_link links s) n

-- row s of the segments' lists: what is kept of segment record s
abbrev pub row_of : (lengths limits next previous flags : List ℕ) → ℕ → Segment
row_of lengths limits next previous flags s =
    record {
      length = at lengths s;
      limit = at limits s;
      next1 = first_link next s;
      next2 = second_link next s;
      previous1 = first_link previous s;
      previous2 = second_link previous s;
      flags = at flags s;
    }

abbrev pub segment_of : Tables → ℕ → Segment
segment_of T s = row_of T.lengths T.limits T.next T.previous T.flags s

-- how many segments route r has, and the segment at a place of it, counted from 1; `routebytes` has 32 bytes a route, the count first
unfoldable pub count_of : List ℕ → ℕ → ℕ
count_of routebytes r = at routebytes (32 * r - 31)

unfoldable pub segment_at : List ℕ → ℕ → ℕ → ℕ
segment_at routebytes r p = at routebytes (32 * r - 31 + p)

-- the braking distance at a rate b, and in an area: S at the area's rate. Every braking distance of an area goes by these two names
abbrev pub distance_in : (b : ℕ) → (v : ℕ) → ℕ
distance_in b = S b

abbrev pub braking_distance : Tables → (v : ℕ) → ℕ
braking_distance T = distance_in T.braking

-- tables that are all zero
unfoldable pub blank_tables : Tables
blank_tables =
    record {
      segments = 0;
      routes = 0;
      gmax = 0;
      braking = 0;
      margin = 0;
      lengths = replicate 62 0;
      limits = replicate 62 0;
      next = replicate 124 0;
      previous = replicate 124 0;
      flags = replicate 62 0;
      routebytes = replicate 960 0;
    }
