-- What load says of a file (document 01, "Refusals" 1 to 10): rules 1 to 10 in that order, each over the whole file.
use Rattle.std.specs.Prelude.{ℕ, ◌+◌, ◌-◌, Bool, not, ◌&&◌, List, [], ◌∷◌, length, ltb, eqb, if◌then◌else◌}
use Rattle.lists.specs.Words.{first_failing}
use Rattle.lists.specs.Tests.{Test, ◌⇒◌, ◌⇒◌place◌, first_of}
use Rattle.file.specs.Bytes.{byte_at, zeros}
use Rattle.file.specs.Layout.{in_tail, header_block, in_header, version, segment_start, in_segment}
use Rattle.file.specs.Blocks.{file_size, block, first_damaged, first_misfiled}
use Rattle.tables.specs.declared.Tables.{Tables}
use Rattle.tables.specs.Bounds.{most_segments, most_routes, Bounds, bounds}
use Rattle.tables.specs.Tables.{blank_tables}
use Rattle.tables.specs.Rules.{header_ok, margin_ok, segment_ok, joint_ok, order_ok, drop_ok, route_ok}
use Rattle.decoding.specs.Decoding.{segment_block, decoded}
pub use Rattle.reading.specs.Reading.{Reading}

-- rule 4 of what the tables do not keep: the version, the zero after the routes, the zeros up to the tail
unfoldable pub header_filed : List ℕ → Bool
header_filed file =
    eqb (byte_at (block file header_block) in_header.version) version
    && eqb (byte_at (block file header_block) in_header.zero) 0
    && zeros (block file header_block) in_header.zeros in_tail.body_last

-- rule 6 of what the tables do not keep: the five zeros that end segment record s
unfoldable pub reserved : List ℕ → ℕ → Bool
reserved file s = zeros (segment_block file s) (segment_start s + in_segment.zeros) (segment_start s + in_segment.zeros_last)

-- rule 6 of the whole record s
unfoldable pub record_ok : Bounds → List ℕ → Tables → ℕ → Bool
record_ok β file T s = segment_ok β T s && reserved file s

-- a refusal at the first of some blocks, records, segments or routes, counted from 1; none where that is 0.
-- A block's place is its block number, one less
abbrev pub at_block : ℕ → ℕ → Test
at_block k n = ltb 0 k ⇒ n place (k - 1)

abbrev pub at_number : ℕ → ℕ → Test
at_number k n = ltb 0 k ⇒ n place k

-- rules 1 to 3: the file and its blocks
abbrev pub file_tests : List ℕ → List Test → List Test
file_tests file rest =
    not (eqb (length file) file_size) ⇒ 1
    ∷ at_block (first_damaged file) 2
    ∷ at_block (first_misfiled file) 3
    ∷ rest

-- rules 4 to 10: the tables
abbrev pub table_tests : Bounds → List ℕ → Tables → List Test
table_tests β file T =
    not (header_filed file && header_ok β T) ⇒ 4
    ∷ not (margin_ok T) ⇒ 5
    ∷ at_number (first_failing most_segments (record_ok β file T)) 6
    ∷ at_number (first_failing T.segments (joint_ok T)) 7
    ∷ at_number (first_failing T.segments (order_ok T)) 8
    ∷ at_number (first_failing T.segments (drop_ok T)) 9
    ∷ at_number (first_failing most_routes (route_ok T)) 10
    ∷ []

-- the first rule that is broken, where rules 4 and 6 read the bounds β
abbrev pub verdict_within : Bounds → List ℕ → Test
verdict_within β file = first_of (file_tests file (table_tests β file (decoded file)))

-- the first rule that is broken
unfoldable pub verdict : List ℕ → Test
verdict file = verdict_within bounds file

-- the file meets every rule, with the bounds β and with those in force
abbrev pub accepted_within : Bounds → List ℕ → Bool
accepted_within β file = not (verdict_within β file).holds

abbrev pub accepted : List ℕ → Bool
accepted file = not (verdict file).holds

-- a refusal gives its number and place, and tables that are all zero
abbrev pub refused_reading : ℕ → ℕ → Reading
refused_reading n p = record { number = n; place = p; tables = blank_tables }

-- an accepted file gives 0, 0 and its tables
abbrev pub accepted_reading : Tables → Reading
accepted_reading T = record { number = 0; place = 0; tables = T }

abbrev pub reading_by : Test → Tables → Reading
reading_by t T = if t.holds then refused_reading t.number t.place else accepted_reading T

unfoldable pub reading_of : List ℕ → Reading
reading_of file = reading_by (verdict file) (decoded file)
