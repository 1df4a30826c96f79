-- The five blocks of a file: how long each is and all are, and that they are put into a buffer one after the other.
use Prim.Native.Nat.{ℕ, ◌+◌, ◌*◌}
use mathlib.Core.Path.{◌≡◌}
use mathlib.Core.List.{List, ◌++◌}
use native.Mathlib.Omega.{arith}
use lib.ListN.{length, length-append}
use Rattle.file.specs.Bytes.{put_at}
use Rattle.file.specs.Layout.{block_size, file_size}
use Rattle.file.specs.Blocks.{block_of}
use Rattle.file.proofs.Rows.{put_next}
use Rattle.file.proofs.Sealed.{block_long}
use Rattle.tables.specs.declared.Tables.{Tables}
use Rattle.tables.specs.Tables.{segment_of}
use Rattle.encoding.specs.Encoding.{header_of, segment_records, route_records, encoded}
use Rattle.encoding.proofs.Rows.{segments_long, routes_long}

-- rows of a block's length that are put one after the other
module _ (b0 b1 b2 b3 b4 old : List ℕ) (l0 : length b0 ≡ block_size) (l1 : length b1 ≡ block_size) (l2 : length b2 ≡ block_size) (l3 : length b3 ≡ block_size) where
  five_put :
      put_at (block_size * 4) b4 (put_at (block_size * 3) b3 (put_at (block_size * 2) b2 (put_at (block_size * 1) b1 (put_at (block_size * 0) b0 old))))
      ≡ put_at 0 (b0 ++ b1 ++ b2 ++ b3 ++ b4) old
  five_put =
      let e1 : 0 + length b0 ≡ block_size * 1 = omega arith in
      let e2 : 0 + length (b0 ++ b1) ≡ block_size * 2 = simp length-append (omega arith) in
      let e3 : 0 + length (b0 ++ b1 ++ b2) ≡ block_size * 3 = simp length-append (omega arith) in
      let e4 : 0 + length (b0 ++ b1 ++ b2 ++ b3) ≡ block_size * 4 = simp length-append (omega arith) in
      rw (rw e1 at (put_next 0 b0 b1 old), rw e2 at (put_next 0 (b0 ++ b1) b2 old), rw e3 at (put_next 0 (b0 ++ b1 ++ b2) b3 old))
      (rw e4 at (put_next 0 (b0 ++ b1 ++ b2 ++ b3) b4 old))

module _ (T : Tables) where
  -- the blocks
  abbrev segments : (before : ℕ) → List ℕ
  segments before = segment_records (segment_of T) before

  abbrev routes : (before : ℕ) → List ℕ
  routes before = route_records T.routebytes before

  long0 : length (block_of 0 (header_of T)) ≡ block_size
  long0 = block_long 0 (header_of T) (omega arith)

  long_segments : (k before : ℕ) → length (block_of k (segments before)) ≡ block_size
  long_segments k before = block_long k (segments before) (omega (arith, segments_long (segment_of T) before))

  long_routes : (k before : ℕ) → length (block_of k (routes before)) ≡ block_size
  long_routes k before = block_long k (routes before) (omega (arith, routes_long T.routebytes before))

  -- THE CLAIM: a file that is written has 2,560 bytes
  pub encoded_long : length (encoded T) ≡ file_size
  unfolding encoded
  encoded_long = simp (length-append, long0, long_segments, long_routes)

  -- THE CLAIM: five blocks put at their places are the file, put at the buffer's start
  pub encoded_put :
      (old : List ℕ)
      → put_at (block_size * 4) (block_of 4 (routes 15))
      (put_at (block_size * 3) (block_of 3 (routes 0))
      (put_at (block_size * 2) (block_of 2 (segments 31))
      (put_at (block_size * 1) (block_of 1 (segments 0))
      (put_at (block_size * 0) (block_of 0 (header_of T)) old))))
      ≡ put_at 0 (encoded T) old
  unfolding encoded
  encoded_put old = five_put _ _ _ _ _ old long0 (long_segments 1 0) (long_segments 2 31) (long_routes 3 0)
