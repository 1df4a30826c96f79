-- The route view (document 01, "The calls"): the part of the caller's file that lists a route's segments.
use Rattle.std.specs.Prelude.{ℕ, ◌+◌, ◌*◌, Bool, ◌&&◌, List, take, drop, leb, if◌then◌else◌}
use Rattle.file.specs.Bytes.{byte_at}
use Rattle.file.specs.Layout.{block_size, route_block_of, route_start}
use Rattle.decoding.specs.Decoding.{decoded}
use Rattle.reading.specs.Verdict.{accepted}

-- where route record r starts in the file
abbrev pub start_in_file : ℕ → ℕ
start_in_file r = block_size * route_block_of r + route_start r

-- the file is accepted and the number is 1 to R
unfoldable pub shown : List ℕ → ℕ → Bool
shown file r = accepted file && leb 1 r && leb r (decoded file).routes

-- the part's start in the file and how many bytes it has: after the count, as many as it says. The empty part lies at the file's start
unfoldable pub view_start : List ℕ → ℕ → ℕ
view_start file r = if shown file r then start_in_file r + 1 else 0

unfoldable pub view_count : List ℕ → ℕ → ℕ
view_count file r = if shown file r then byte_at file (start_in_file r) else 0

-- the bytes of the part
abbrev pub viewed : List ℕ → ℕ → List ℕ
viewed file r = take (view_count file r) (drop (view_start file r) file)
