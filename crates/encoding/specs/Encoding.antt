-- The file of an area's tables (document 02, R-1), as document 01, "The area file", has it: what decoding reads, written.
use Rattle.std.specs.Prelude.{ℕ, zero, suc, ◌+◌, List, [], ◌++◌}
use Rattle.lists.specs.Words.{tabulate}
use Rattle.file.specs.Layout.{header_bytes, segments_in_block, segment_bytes, routes_in_block, route_bytes}
use Rattle.file.specs.Blocks.{block_of}
use Rattle.tables.specs.declared.Tables.{Tables}
use Rattle.tables.specs.declared.Segment.{Segment}
use Rattle.tables.specs.Bounds.{longest_route}
use Rattle.tables.specs.Tables.{segment_of, count_of, segment_at}

-- rows of bytes one after the other: f 1, f 2, .. f n
unfoldable pub rows : (n : ℕ) (f : ℕ → List ℕ) → List ℕ
rows zero f = []
rows (suc n) f = f 1 ++ rows n (λ (k : ℕ). f (suc k))

-- the header
abbrev pub header_of : Tables → List ℕ
header_of T = header_bytes T.segments T.routes T.gmax T.braking T.margin

-- a segment record, and the records of a block: those from `before` + 1 on
abbrev pub segment_record : Segment → List ℕ
segment_record s = segment_bytes s.length s.limit s.next1 s.next2 s.previous1 s.previous2 s.flags

abbrev pub segment_records : (segment : ℕ → Segment) (before : ℕ) → List ℕ
segment_records segment before = rows segments_in_block (λ (k : ℕ). segment_record (segment (before + k)))

-- route record r, and the records of a block. The tables keep what stands after the count too, which is zero in tables that meet the rules
abbrev pub route_record : (routebytes : List ℕ) → ℕ → List ℕ
route_record routebytes r = route_bytes (count_of routebytes r) (tabulate longest_route (segment_at routebytes r))

abbrev pub route_records : (routebytes : List ℕ) (before : ℕ) → List ℕ
route_records routebytes before = rows routes_in_block (λ (k : ℕ). route_record routebytes (before + k))

-- the five blocks
unfoldable pub encoded : Tables → List ℕ
encoded T =
    block_of 0 (header_of T)
    ++ block_of 1 (segment_records (segment_of T) 0)
    ++ block_of 2 (segment_records (segment_of T) segments_in_block)
    ++ block_of 3 (route_records T.routebytes 0)
    ++ block_of 4 (route_records T.routebytes routes_in_block)
