-- The bounds of documents 01, "The area file", and 02, R-3.
use Rattle.std.specs.Prelude.{ℕ}

-- segments of an area
abbrev pub most_segments : ℕ
most_segments = 62

-- routes of an area
abbrev pub most_routes : ℕ
most_routes = 30

-- segments of a route
abbrev pub longest_route : ℕ
longest_route = 31

-- the two bounds that rules 4 and 6 are handed: of `gmax`, decimetres per cycle; of `d` and of the length of a segment, decimetres
pub record Bounds : Type 0 where
  pub fastest : ℕ
  pub longest : ℕ

-- document 02, R-3: "`gmax` may be 1 to 2000; `d` and lengths may be up to 4,000,000"
abbrev pub bounds : Bounds
bounds = record { fastest = 2000; longest = 4000000 }

-- document 01: "`gmax`, 1 to 1000", "`d`, 1 to 1,000,000", a length not "over 1,000,000"; the files "accepted until now" met these
abbrev pub smaller_bounds : Bounds
smaller_bounds = record { fastest = 1000; longest = 1000000 }
