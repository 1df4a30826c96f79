-- What each block of written tables holds, byte by byte.
use Rattle.std.specs.Prelude.{if◌then◌else◌}
use Prim.Native.Nat.{ℕ, suc, ◌+◌, ◌-◌, ◌*◌, ◌/◌, ◌%◌, ◌≤◌, ◌<◌}
use mathlib.Core.Path.{◌≡◌, refl, sym, ap, ◌∙◌}
use mathlib.Core.List.{List, append_assoc, append-nil}
use native.Mathlib.Omega.{arith}
use lib.Dec.{eqb, ltb}
use lib.ListN.{length}
use lib.Seq.{ext_get_or}
use borrow.Author.Tests.{ne_eqb, lt-ltb, le-ltb}
use Rattle.lists.proofs.Cases.{if_case}
use Rattle.file.specs.Bytes.{byte_at}
use Rattle.file.specs.Layout.{in_tail, header_block, first_segment_block, first_route_block, segments_in_block, routes_in_block, route_zeros}
use Rattle.file.specs.Blocks.{blocks, block_size, block, block_of}
use Rattle.file.proofs.Sealed.{block_long}
use Rattle.tables.specs.declared.Tables.{Tables}
use Rattle.tables.specs.Tables.{segment_of}
use Rattle.encoding.specs.Encoding.{rows, header_of, segment_record, segment_records, route_records, encoded}
use Rattle.encoding.proofs.Rows.{rows_at, segments_long, routes_at, routes_long}
use Rattle.encoding.proofs.Whole.{encoded_long}
use Rattle.file.proofs.Block.{block_body, block_at, block_size_lem}

-- the records that stand before those of block k
abbrev pub segments_before : ℕ → ℕ
segments_before k = segments_in_block * (k - first_segment_block)

abbrev routes_before : ℕ → ℕ
routes_before k = routes_in_block * (k - first_route_block)

module _ (T : Tables) where
  -- what block k holds: the header, segment records or route records
  unfoldable pub held : ℕ → List ℕ
  held k =
      if eqb k header_block then header_of T
      else (if ltb k first_route_block then segment_records (segment_of T) (segments_before k) else route_records T.routebytes (routes_before k))

  -- by its kind
  held_segments : (k : ℕ) → first_segment_block ≤ k → k < first_route_block → held k ≡ segment_records (segment_of T) (segments_before k)
  unfolding held
  held_segments k low high = rw (ne_eqb k header_block (λ e. omega arith), lt-ltb k first_route_block high)

  held_routes : (k : ℕ) → first_route_block ≤ k → held k ≡ route_records T.routebytes (routes_before k)
  unfolding held
  held_routes k low = rw (ne_eqb k header_block (λ e. omega arith), le-ltb k first_route_block low)

  -- it has room before the tail; route records end where the zeros start
  pub held_fits : (k : ℕ) → length (held k) ≤ in_tail.kind
  unfolding held
  held_fits k =
      if_case (λ (l : List ℕ). length l ≤ in_tail.kind) (eqb k header_block) (λ e. omega arith)
      (λ e.
      if_case (λ (l : List ℕ). length l ≤ in_tail.kind) (ltb k first_route_block)
      (λ f. omega (arith, segments_long (segment_of T) (segments_before k)))
      (λ f. omega (arith, routes_long T.routebytes (routes_before k))))

  pub routes_fit : (k : ℕ) → first_route_block ≤ k → length (held k) ≡ route_zeros
  routes_fit k low = rw (held_routes k low) (routes_long T.routebytes (routes_before k))

  -- byte i of what a segment block holds, and of what a route block holds
  pub segment_byte :
      (k i : ℕ) → first_segment_block ≤ k → k < first_route_block → i < in_tail.kind
      → byte_at (held k) i ≡ byte_at (segment_record (segment_of T (segments_before k + suc (i / 16)))) (i % 16)
  segment_byte k i low high inside =
      let f : ℕ → List ℕ = λ n. segment_record (segment_of T (segments_before k + n)) in
      let e : 16 * (i / 16) + i % 16 ≡ i = omega arith in
      rw (held_segments k low high) (rw e at (rows_at 16 segments_in_block f (λ n. refl) (i / 16) (i % 16) (omega arith) (omega arith)))

  pub route_byte : (k i : ℕ) → first_route_block ≤ k → i < route_zeros → byte_at (held k) i ≡ byte_at T.routebytes (route_zeros * (k - first_route_block) + i)
  route_byte k i low inside =
      let e : 32 * (routes_before k) + i ≡ route_zeros * (k - first_route_block) + i = omega arith in
      rw (held_routes k low) (routes_at T.routebytes (routes_before k) i inside ∙ ap (byte_at T.routebytes) e)

  -- the blocks as rows, which are counted from 1
  abbrev numbered : ℕ → List ℕ
  numbered n = block_of (n - 1) (held (n - 1))

  encoded_rows : encoded T ≡ rows blocks numbered
  unfolding encoded rows held
  encoded_rows = simp (append_assoc, append-nil)

  numbered_long : (n : ℕ) → length (numbered n) ≡ block_size
  numbered_long n = block_long (n - 1) (held (n - 1)) (held_fits (n - 1))

  -- THE CLAIM: block k of written tables is the block of that number that holds these bytes
  pub block_encoded : (k : ℕ) → k < blocks → block (encoded T) k ≡ block_of k (held k)
  block_encoded k below =
      let long = block_size_lem (encoded T) k (encoded_long T) below in
      let e : suc k - 1 ≡ k = omega arith in
      ext_get_or 0 (block (encoded T) k) (block_of k (held k)) (long ∙ sym (block_long k (held k) (held_fits k)))
      (λ i inside.
      let i-in : i < block_size = rw long at inside in
      block_at (encoded T) k i i-in
      ∙ ap (λ (f : List ℕ). byte_at f (block_size * k + i)) encoded_rows
      ∙ rows_at block_size blocks numbered numbered_long k i below i-in
      ∙ ap (λ (n : ℕ). byte_at (block_of n (held n)) i) e)

  -- a byte before the tail
  pub encoded_byte : (k i : ℕ) → k < blocks → i < in_tail.kind → byte_at (block (encoded T) k) i ≡ byte_at (held k) i
  encoded_byte k i below inside = ap (λ (b : List ℕ). byte_at b i) (block_encoded k below) ∙ block_body k (held k) (held_fits k) i inside
