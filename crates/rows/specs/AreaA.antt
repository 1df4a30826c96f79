-- Area A of document 01: its file, block by block, files of its shape with other numbers, and records of it; and a line with a longer
-- route. Bytes and numbers are in decimal.
use Rattle.std.specs.Prelude.{ℕ, List, [], ◌∷◌, ◌++◌, replicate}
use Rattle.file.specs.Layout.{block_bytes, header_bytes, segment_bytes, route_bytes}
use Rattle.decoding.specs.Decoding.{decoded}
use Rattle.tables.specs.declared.Tables.{Tables}
use Rattle.trains.specs.declared.Train.{Train}
use Rattle.trains.specs.Train.{Journey, off}
use Rattle.area.specs.declared.Area.{Area}
use Rattle.trains.specs.Due.{grant_due, position_due}

-- block 0: 3 segments, 2 routes; `gmax`, `b`, `d` and the check are given
unfoldable pub header : (gmax b d first second : ℕ) → List ℕ
header gmax b d first second = block_bytes 0 (header_bytes 3 2 gmax b d) first second

-- block 1: segments 1, 2 and 3; the length and the limit of each and the check are given
unfoldable pub segments : (length1 limit1 length2 limit2 length3 limit3 first second : ℕ) → List ℕ
segments length1 limit1 length2 limit2 length3 limit3 first second =
    block_bytes 1
    (segment_bytes length1 limit1 3 0 0 0 1 ++ segment_bytes length2 limit2 3 0 0 0 1 ++ segment_bytes length3 limit3 0 0 1 2 2) first second

-- block 2: no segment
unfoldable pub no_segments : List ℕ
no_segments = block_bytes 2 [] 4 54

-- block 3: routes 1-3 and 2-3
unfoldable pub routes : List ℕ
routes = block_bytes 3 (route_bytes 2 (1 ∷ 3 ∷ replicate 29 0) ++ route_bytes 2 (2 ∷ 3 ∷ replicate 29 0)) 19 97

-- block 4: no route
unfoldable pub no_routes : List ℕ
no_routes = block_bytes 4 [] 7 94

-- the five blocks, of which an edge changes block 0 or block 1
unfoldable pub file : (block0 block1 : List ℕ) → List ℕ
file block0 block1 = block0 ++ block1 ++ no_segments ++ routes ++ no_routes

-- blocks 0 and 1 as Area A has them
abbrev pub header_a : List ℕ
header_a = header 300 10 4650 122 33

abbrev pub segments_a : List ℕ
segments_a = segments 6000 300 5500 290 8000 290 251 42

-- blocks 0 and 1 of a fast line: `gmax` 2000, `b` 1, `d` 2,001,000; each length 4,000,000, each limit 2000
abbrev pub header_fast : List ℕ
header_fast = header 2000 1 2001000 238 93

abbrev pub segments_fast : List ℕ
segments_fast = segments 4000000 2000 4000000 2000 4000000 2000 106 126

-- block 1 with other lengths and limits, alike for all three: 4,000,000 and 1; 1,000,000 and 1000; 1,000,000 and 1
abbrev pub segments_slow : List ℕ
segments_slow = segments 4000000 1 4000000 1 4000000 1 229 237

abbrev pub segments1000 : List ℕ
segments1000 = segments 1000000 1000 1000000 1000 1000000 1000 136 33

abbrev pub segments1 : List ℕ
segments1 = segments 1000000 1 1000000 1 1000000 1 199 57

-- Area A with position due and train 1 on route 1, which goes over segment 1, 6000 long, and segment 3, 8000 long. first and third are who
-- holds these two
unfoldable pub moving : (place position speed length first third : ℕ) → Area
moving place position speed length first third =
    record {
      tables = decoded (file header_a segments_a);
      allocations = first ∷ 0 ∷ third ∷ replicate 59 0;
      trains = record { route = 1; place = place; position = position; speed = speed; length = length; asks = 0; count = 0 } ∷ replicate 23 off;
      due = position_due;
    }

-- Area A with grant due, train 1 near the end of segment 1 and train 2 near that of segment 2, both asking for segment 3, with these counts;
-- `third` is who holds segment 3, and train 3 stands there where it is not off
unfoldable pub merging : (count1 count2 third : ℕ) (train3 : Train) → Area
merging count1 count2 third train3 =
    record {
      tables = decoded (file header_a segments_a);
      allocations = 1 ∷ 2 ∷ third ∷ replicate 59 0;
      trains =
          record { route = 1; place = 1; position = 1350; speed = 0; length = 1; asks = 1; count = count1 }
          ∷ record { route = 2; place = 1; position = 850; speed = 0; length = 1; asks = 1; count = count2 }
          ∷ train3
          ∷ replicate 21 off;
      due = grant_due;
    }

-- a train that stands on segment 3, by route 1
abbrev pub beyond : Train
beyond = record { route = 1; place = 2; position = 1; speed = 0; length = 1; asks = 0; count = 0 }

-- what an enter on route r names
abbrev pub on : (r length : ℕ) → Journey
on r length = record { route = r; length = length }

-- a line of five segments of 1000 decimetres each, all on route 1; links and flags play no part in what is asked of a train there
unfoldable pub line : Tables
line =
    record {
      segments = 5;
      routes = 1;
      gmax = 100;
      braking = 100;
      margin = 100;
      lengths = replicate 5 1000;
      limits = replicate 5 100;
      next = [];
      previous = [];
      flags = [];
      routebytes = 5 ∷ 1 ∷ 2 ∷ 3 ∷ 4 ∷ 5 ∷ [];
    }

-- a train there that stands with its front at a position of segment 4
abbrev pub fourth : (position length : ℕ) → Train
fourth position length = record { route = 1; place = 4; position = position; speed = 0; length = length; asks = 0; count = 0 }
