-- A file that load accepts is the file of its own tables: the tables keep each byte of a record that is not zero by the rules, and the
-- rules give the zeros, the tails and the checks.
use Prim.Native.Nat.{ℕ, suc, ◌+◌, ◌-◌, ◌*◌, ◌/◌, ◌%◌, ◌≤◌, ◌<◌}
use mathlib.Core.Path.{◌≡◌, sym, ap, ◌∙◌}
use mathlib.Core.List.{List, [], ◌∷◌, ◌++◌}
use native.Mathlib.Nat.{add_assoc, zero-add}
use native.Mathlib.Omega.{arith}
use lib.ListN.{get_or-eq_default}
use borrow.Author.Tests.{le-ltb}
use Rattle.lists.specs.Words.{at, tabulate}
use Rattle.lists.proofs.Cases.{cases, lt_or_le, eq_or_ne, facts}
use Rattle.lists.proofs.Numbered.{nth_index, nth_tabulate}
use Rattle.file.specs.Bytes.{byte_at, two_at, four_at, two, four}
use Rattle.file.specs.Layout.{in_tail, header_block, first_segment_block, first_route_block, in_header, segment_block_of, segment_start, in_segment, route_zeros}
use Rattle.file.specs.Blocks.{blocks, block_size, block, filed}
use Rattle.file.proofs.Meaning.{zeros_means}
use Rattle.file.proofs.Block.{block_same, block_at, block_size_lem, blocks_same}
use Rattle.tables.specs.Bounds.{most_segments}
use Rattle.tables.specs.Tables.{segment_of}
use Rattle.decoding.specs.Decoding.{segment_block, length_in, limit_in, link_in, flags_in, route_byte_in, decoded}
use Rattle.reading.specs.Verdict.{header_filed, reserved}
use Rattle.reading.specs.Acceptance.{MeetsRules}
use Rattle.encoding.specs.Encoding.{header_of, segment_record, encoded}
use Rattle.encoding.proofs.Whole.{encoded_long}
use Rattle.answers.specs.Answers.{number_of}
use Rattle.loading.specs.Load.{loaded}
use Rattle.loading.proofs.Loading.{done_iff}
use Rattle.writing.specs.Writing.{Octets}
use Rattle.writing.proofs.Held.{segments_before, held, held_fits, routes_fit, segment_byte, route_byte, block_encoded}

-- w bytes from a start on, as a list
abbrev part : (b : List ℕ) (start w : ℕ) → List ℕ
part b start w = tabulate w (λ (n : ℕ). byte_at b (start + (n - 1)))

part_at : (b : List ℕ) (start w i : ℕ) → i < w → byte_at (part b start w) i ≡ byte_at b (start + i)
part_at b start w i inside =
    let e : i + 1 - 1 ≡ i = omega arith in
    sym (nth_index 0 (part b start w) i) ∙ nth_tabulate 0 w (λ (n : ℕ). byte_at b (start + (n - 1))) (i + 1) (omega arith) (omega arith) ∙ rw e

-- numbers of bytes below 256 are those bytes
module _ (b : List ℕ) (start w : ℕ) (octets : (i : ℕ) → i < w → byte_at b (start + i) < 256) where
  two_same : (i : ℕ) → i + 1 < w → two (two_at b (start + i)) ≡ byte_at b (start + i) ∷ byte_at b (start + (i + 1)) ∷ []
  two_same i inside =
      let x = byte_at b (start + i) in
      let y = byte_at b (start + (i + 1)) in
      let low : (x + 256 * y) % 256 ≡ x = omega (arith, octets i (omega arith)) in
      let high : (x + 256 * y) / 256 ≡ y = omega (arith, octets i (omega arith)) in
      rw (add_assoc start i 1, low, high)

  four_same :
      (i : ℕ) → i + 3 < w
      → four (four_at b (start + i)) ≡ byte_at b (start + i) ∷ byte_at b (start + (i + 1)) ∷ byte_at b (start + (i + 2)) ∷ byte_at b (start + (i + 2 + 1)) ∷ []
  four_same i inside =
      let x = two_at b (start + i) in
      let y = two_at b (start + (i + 2)) in
      let below : x < 65536 = rw (add_assoc start i 1) (omega (arith, octets i (omega arith), octets (i + 1) (omega arith))) in
      let low : (x + 65536 * y) % 65536 ≡ x = omega arith in
      let high : (x + 65536 * y) / 65536 ≡ y = omega arith in
      rw (add_assoc start i 2, low, high)
      (ap (λ (r : List ℕ). r ++ two y) (two_same i (omega arith))
      ∙ ap (λ (r : List ℕ). byte_at b (start + i) ∷ byte_at b (start + (i + 1)) ∷ r) (two_same (i + 2) (omega arith)))

module _ (file : List ℕ) (octets : Octets file) (m : MeetsRules file) where
  -- the bytes of a block are bytes of the file
  octet : (k i : ℕ) → i < block_size → byte_at (block file k) i < 256
  octet k i inside = rw (block_at file k i inside) (octets (block_size * k + i))

  -- the header of the tables is the file's: version and zero are those of rule 4, the others were read of it
  header_same : header_of (decoded file) ≡ part (block file header_block) 0 in_header.zeros
  unfolding decoded tabulate header_filed
  header_same =
      let b = block file header_block in
      let f = simp facts at m.header in
      let low : (i : ℕ) → i < 12 → byte_at b (0 + i) < 256 = λ i inside. octet header_block (0 + i) (omega arith) in
      let two-of = two_same b 0 12 low in
      let four-of = four_same b 0 12 low in
      λ j.
      sym f.0.0 j ∷ byte_at b in_header.segments ∷ byte_at b in_header.routes ∷ sym f.0.1 j
      ∷ two-of in_header.gmax (omega arith) j ++ two-of in_header.braking (omega arith) j ++ four-of in_header.margin (omega arith) j

  -- a link of segment s, the first or the second, at a place of its record
  link_same :
      (place s second k : ℕ) → 1 ≤ s → s ≤ most_segments → second < 2 → k ≡ 2 * s - 1 + second
      → at (tabulate 124 (link_in place file)) k ≡ byte_at (segment_block file s) (segment_start s + (place + second))
  unfolding link_in
  link_same place s second k low high few e =
      let f : (k + 1) / 2 ≡ s = omega arith in
      let g : (k - 1) % 2 ≡ second = omega arith in
      nth_tabulate 0 124 (link_in place file) k (omega arith) (omega arith) ∙ rw (f, g, add_assoc (segment_start s) place second)

  segment_octet : (s i : ℕ) → i < 16 → byte_at (segment_block file s) (segment_start s + i) < 256
  unfolding segment_block
  segment_octet s i inside = octet (segment_block_of s) (segment_start s + i) (omega arith)

  -- segment record s of the tables is the file's: its five zeros are those of rule 6, the others were read of it
  segment_same : (s : ℕ) → 1 ≤ s → s ≤ most_segments → segment_record (segment_of (decoded file) s) ≡ part (segment_block file s) (segment_start s) 16
  unfolding decoded tabulate length_in limit_in flags_in reserved
  segment_same s low high =
      let b = segment_block file s in
      let start = segment_start s in
      let small = segment_octet s in
      let length = ap four (nth_tabulate 0 62 (length_in file) s low high) ∙ four_same b start 16 small in_segment.length (omega arith) in
      let limit = ap two (nth_tabulate 0 62 (limit_in file) s low high) ∙ two_same b start 16 small in_segment.limit (omega arith) in
      let next1 = link_same in_segment.next s 0 (2 * s - 1) low high (omega arith) (omega arith) in
      let next2 = link_same in_segment.next s 1 (2 * s) low high (omega arith) (omega arith) in
      let previous1 = link_same in_segment.previous s 0 (2 * s - 1) low high (omega arith) (omega arith) in
      let previous2 = link_same in_segment.previous s 1 (2 * s) low high (omega arith) (omega arith) in
      let flags = nth_tabulate 0 62 (flags_in file) s low high in
      let zero : (i : ℕ) → 11 ≤ i → i ≤ 15 → 0 ≡ byte_at b (start + i) =
      λ i from to. sym (zeros_means b (start + in_segment.zeros) (start + in_segment.zeros_last) (m.zeros s low high) (start + i) (omega arith) (omega arith)) in
      λ j.
      length j ++ limit j
      ++ next1 j ∷ next2 j ∷ previous1 j ∷ previous2 j ∷ flags j
      ∷ zero 11 (omega arith) (omega arith) j ∷ zero 12 (omega arith) (omega arith) j ∷ zero 13 (omega arith) (omega arith) j
      ∷ zero 14 (omega arith) (omega arith) j ∷ zero 15 (omega arith) (omega arith) j ∷ []

  -- each block has before its tail what the block of the tables holds, and zeros by rule 4 and rule 3
  in_header_lem : (i : ℕ) → i < in_tail.kind → byte_at (held (decoded file) header_block) i ≡ byte_at (block file header_block) i
  unfolding held header_filed
  in_header_lem i inside =
      let b = block file header_block in
      let f = simp facts at m.header in
      cases (lt_or_le i in_header.zeros)
      (λ h. ap (λ (l : List ℕ). byte_at l i) header_same ∙ part_at b 0 in_header.zeros i h ∙ ap (byte_at b) (zero-add i))
      (λ h. get_or-eq_default (header_of (decoded file)) 0 h ∙ sym (zeros_means b in_header.zeros in_tail.body_last f.1 i h (omega arith)))

  in_segments : (k i : ℕ) → first_segment_block ≤ k → k < first_route_block → i < in_tail.kind → byte_at (held (decoded file) k) i ≡ byte_at (block file k) i
  unfolding segment_block
  in_segments k i low high inside =
      let s = segments_before k + suc (i / 16) in
      let e : segment_block_of s ≡ k = omega arith in
      let f : segment_start s + i % 16 ≡ i = omega arith in
      segment_byte (decoded file) k i low high inside
      ∙ ap (λ (l : List ℕ). byte_at l (i % 16)) (segment_same s (omega arith) (omega arith))
      ∙ part_at (segment_block file s) (segment_start s) 16 (i % 16) (omega arith)
      ∙ rw (e, f)

  -- byte n of those that the tables keep of the routes
  kept_byte : (n : ℕ) → n < 960 → byte_at (decoded file).routebytes n ≡ route_byte_in file (n + 1)
  unfolding decoded
  kept_byte n below = sym (nth_index 0 (tabulate 960 (route_byte_in file)) n) ∙ nth_tabulate 0 960 (route_byte_in file) (n + 1) (omega arith) (omega arith)

  in_routes : (k i : ℕ) → first_route_block ≤ k → k < blocks → i < in_tail.kind → byte_at (held (decoded file) k) i ≡ byte_at (block file k) i
  unfolding route_byte_in filed
  in_routes k i low below inside =
      let b = block file k in
      let n = route_zeros * (k - first_route_block) + i in
      cases (lt_or_le i route_zeros)
      (λ h.
      let e : first_route_block + (n + 1 - 1) / route_zeros ≡ k = omega arith in
      let f : (n + 1 - 1) % route_zeros ≡ i = omega arith in
      route_byte (decoded file) k i low h ∙ kept_byte n (omega arith) ∙ rw (e, f))
      (λ h.
      let f = simp facts at (m.tails k below) in
      let z = rw (le-ltb k first_route_block low) at f.1 in
      get_or-eq_default (held (decoded file) k) 0 (rw (routes_fit (decoded file) k low) h)
      ∙ sym (zeros_means b route_zeros in_tail.body_last z i h (omega arith)))

  in_block : (k : ℕ) → k < blocks → (i : ℕ) → i < in_tail.kind → byte_at (block file k) i ≡ byte_at (held (decoded file) k) i
  in_block k below i inside =
      cases (eq_or_ne k header_block) (λ e. rw e (sym (in_header_lem i inside)))
      (λ e.
      cases (lt_or_le k first_route_block) (λ h. sym (in_segments k i (omega arith) h inside))
      (λ h. sym (in_routes k i h below inside)))

  -- so each block is the block of the tables, its tail by rule 3 and its check by rule 2
  meets_same : encoded (decoded file) ≡ file
  meets_same =
      let T = decoded file in
      blocks_same (encoded T) file (encoded_long T) m.size
      (λ k below.
      block_encoded T k below
      ∙ sym (block_same k (held T k) (held_fits T k) (block file k) (block_size_lem file k m.size below) (in_block k below) (m.tails k below) (m.checks k below)))

-- THE CLAIM: a file that load answers with done, decoded and encoded, comes out the same byte for byte
pub encoded_decoded : (file : List ℕ) → Octets file → number_of (loaded file).answer ≡ 0 → encoded (decoded file) ≡ file
encoded_decoded file octets done = meets_same file octets ((done_iff file).0 done)
