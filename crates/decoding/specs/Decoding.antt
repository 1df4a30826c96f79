-- The tables that an area file holds (document 01, "The area file").
use Rattle.std.specs.Prelude.{ℕ, ◌+◌, ◌-◌, ◌/◌, ◌%◌, List}
use Rattle.lists.specs.Words.{tabulate}
use Rattle.file.specs.Bytes.{byte_at, two_at, four_at}
use Rattle.file.specs.Layout.{header_block, in_header, segment_block_of, segment_start, in_segment, first_route_block, route_zeros}
use Rattle.file.specs.Blocks.{block}
use Rattle.tables.specs.declared.Tables.{Tables}

-- the block of segment record s
unfoldable pub segment_block : List ℕ → ℕ → List ℕ
segment_block file s = block file (segment_block_of s)

unfoldable pub length_in : List ℕ → ℕ → ℕ
length_in file s = four_at (segment_block file s) (segment_start s + in_segment.length)

unfoldable pub limit_in : List ℕ → ℕ → ℕ
limit_in file s = two_at (segment_block file s) (segment_start s + in_segment.limit)

-- entry k of the links at a place of the records: two a record
unfoldable pub link_in : ℕ → List ℕ → ℕ → ℕ
link_in place file k = byte_at (segment_block file ((k + 1) / 2)) (segment_start ((k + 1) / 2) + place + (k - 1) % 2)

unfoldable pub flags_in : List ℕ → ℕ → ℕ
flags_in file s = byte_at (segment_block file s) (segment_start s + in_segment.flags)

-- byte k of all route records, counted from 1; a route block has as many of them as stand before its zeros
unfoldable pub route_byte_in : List ℕ → ℕ → ℕ
route_byte_in file k = byte_at (block file (first_route_block + (k - 1) / route_zeros)) ((k - 1) % route_zeros)

unfoldable pub decoded : List ℕ → Tables
decoded file =
    record {
      segments = byte_at (block file header_block) in_header.segments;
      routes = byte_at (block file header_block) in_header.routes;
      gmax = two_at (block file header_block) in_header.gmax;
      braking = two_at (block file header_block) in_header.braking;
      margin = four_at (block file header_block) in_header.margin;
      lengths = tabulate 62 (length_in file);
      limits = tabulate 62 (limit_in file);
      next = tabulate 124 (link_in in_segment.next file);
      previous = tabulate 124 (link_in in_segment.previous file);
      flags = tabulate 62 (flags_in file);
      routebytes = tabulate 960 (route_byte_in file);
    }
