-- Where everything stands in an area file (document 01, "The area file"), each number once: the places, for reading, and what a
-- block, a header and a record are as rows of bytes, for writing. Bytes and blocks are counted from 0, records from 1.
use Rattle.std.specs.Prelude.{ℕ, ◌+◌, ◌-◌, ◌*◌, ◌/◌, ◌%◌, List, [], ◌∷◌, ◌++◌, length, replicate, eqb, ltb, if◌then◌else◌}
use Rattle.file.specs.Bytes.{two, four}

-- five blocks of 512 bytes
abbrev pub blocks : ℕ
blocks = 5

abbrev pub block_size : ℕ
block_size = 512

abbrev pub file_size : ℕ
file_size = blocks * block_size

-- the block of the header, the first of the segments' two, the first of the routes' two
abbrev pub header_block : ℕ
header_block = 0

abbrev pub first_segment_block : ℕ
first_segment_block = 1

abbrev pub first_route_block : ℕ
first_route_block = 3

-- the tail of each block: kind, block number, zeros (a first and a last byte), the check; `body_last` is the last byte before it
pub record TailPlaces : Type 0 where
  pub body_last : ℕ
  pub kind : ℕ
  pub number : ℕ
  pub zeros : ℕ
  pub zeros_last : ℕ
  pub check : ℕ

abbrev pub in_tail : TailPlaces
in_tail = record { body_last = 495; kind = 496; number = 497; zeros = 498; zeros_last = 509; check = 510 }

-- kinds: 1 header, 2 and 2 segments, 3 and 3 routes
unfoldable pub kind_of : ℕ → ℕ
kind_of k = if eqb k header_block then 1 else (if ltb k first_route_block then 2 else 3)

-- what the check of a block covers, 510 bytes: what the block holds, at most 496 of them, zeros up to the tail, kind, block number, zeros
abbrev pub covered_bytes : (number : ℕ) (held : List ℕ) → List ℕ
covered_bytes number held = held ++ replicate (in_tail.kind - length held) 0 ++ kind_of number ∷ number ∷ replicate (in_tail.zeros_last + 1 - in_tail.zeros) 0

-- a block: this, and the two sums of its check
abbrev pub block_bytes : (number : ℕ) (held : List ℕ) (first second : ℕ) → List ℕ
block_bytes number held first second = covered_bytes number held ++ first ∷ second ∷ []

-- the header: version, segments, routes, a zero, `gmax`, `b`, `d`, zeros up to the tail
pub record HeaderPlaces : Type 0 where
  pub version : ℕ
  pub segments : ℕ
  pub routes : ℕ
  pub zero : ℕ
  pub gmax : ℕ
  pub braking : ℕ
  pub margin : ℕ
  pub zeros : ℕ

abbrev pub in_header : HeaderPlaces
in_header = record { version = 0; segments = 1; routes = 2; zero = 3; gmax = 4; braking = 6; margin = 8; zeros = 12 }

abbrev pub version : ℕ
version = 1

-- what it holds before the zeros
abbrev pub header_bytes : (segments routes gmax b d : ℕ) → List ℕ
header_bytes segments routes gmax b d = version ∷ segments ∷ routes ∷ 0 ∷ two gmax ++ two b ++ four d

-- segment records, 16 bytes, 31 a block: the block of record s, and where it starts there
abbrev pub segments_in_block : ℕ
segments_in_block = 31

abbrev pub segment_block_of : ℕ → ℕ
segment_block_of s = first_segment_block + (s - 1) / segments_in_block

abbrev pub segment_start : ℕ → ℕ
segment_start s = 16 * ((s - 1) % segments_in_block)

-- a segment record: length, limit, two next links, two previous links, flags, five zeros
pub record SegmentPlaces : Type 0 where
  pub length : ℕ
  pub limit : ℕ
  pub next : ℕ
  pub previous : ℕ
  pub flags : ℕ
  pub zeros : ℕ
  pub zeros_last : ℕ

abbrev pub in_segment : SegmentPlaces
in_segment = record { length = 0; limit = 4; next = 6; previous = 8; flags = 10; zeros = 11; zeros_last = 15 }

abbrev pub segment_bytes : (length limit next1 next2 previous1 previous2 flags : ℕ) → List ℕ
segment_bytes length limit next1 next2 previous1 previous2 flags =
    four length ++ two limit ++ next1 ∷ next2 ∷ previous1 ∷ previous2 ∷ flags ∷ replicate (in_segment.zeros_last + 1 - in_segment.zeros) 0

-- route records, 32 bytes, 15 a block: the block of record r, and where it starts there; after the records, zeros up to the tail
abbrev pub routes_in_block : ℕ
routes_in_block = 15

abbrev pub route_block_of : ℕ → ℕ
route_block_of r = first_route_block + (r - 1) / routes_in_block

abbrev pub route_start : ℕ → ℕ
route_start r = 32 * ((r - 1) % routes_in_block)

abbrev pub route_zeros : ℕ
route_zeros = 32 * routes_in_block

-- a route record: the count, then 31 bytes: the segment numbers, rest zero
abbrev pub route_bytes : (count : ℕ) (numbers : List ℕ) → List ℕ
route_bytes count numbers = count ∷ numbers
