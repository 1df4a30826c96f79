-- Tables that were written read back as they were: each field of a record is read where the record's row of bytes has it.
use Prim.Native.Nat.{ℕ, suc, ◌+◌, ◌-◌, ◌*◌, ◌/◌, ◌%◌, ◌≤◌, ◌<◌}
use mathlib.Core.Path.{◌≡◌, refl, sym, ap, ◌∙◌}
use mathlib.Core.List.{List, []}
use native.Mathlib.Nat.{add_assoc, zero-add}
use native.Mathlib.Omega.{arith}
use Rattle.lists.specs.Words.{at}
use Rattle.lists.proofs.Cases.{cases, eq_or_ne}
use Rattle.lists.proofs.Numbered.{nth_in, table_back}
use Rattle.file.specs.Bytes.{byte_at}
use Rattle.file.specs.Layout.{header_block, in_header, segment_block_of, segment_start, in_segment, first_route_block, route_zeros}
use Rattle.file.specs.Blocks.{block}
use Rattle.file.proofs.Fields.{header_back, segment_back, two_there, four_there}
use Rattle.tables.specs.declared.Tables.{Tables}
use Rattle.tables.specs.Bounds.{most_segments}
use Rattle.tables.specs.Tables.{first_link, second_link, segment_of}
use Rattle.decoding.specs.Decoding.{segment_block, length_in, limit_in, link_in, flags_in, route_byte_in, decoded}
use Rattle.encoding.specs.Encoding.{header_of, segment_record, encoded}
use Rattle.writing.specs.Writing.{Sized}
use Rattle.writing.proofs.Held.{segments_before, held, segment_byte, route_byte, encoded_byte}

module _ (T : Tables) where
  abbrev headed : List ℕ
  headed = block (encoded T) header_block

  -- byte i of the header, and of segment record s
  pub header_there : (i : ℕ) → i < 12 → byte_at headed (0 + i) ≡ byte_at (header_of T) i
  unfolding held
  header_there i inside = rw (zero-add i) (encoded_byte T header_block i (omega arith) (omega arith))

  pub segment_there :
      (s : ℕ) → 1 ≤ s → s ≤ most_segments → (i : ℕ) → i < 16
      → byte_at (segment_block (encoded T) s) (segment_start s + i) ≡ byte_at (segment_record (segment_of T s)) i
  unfolding segment_block
  segment_there s low high i inside =
      let k = segment_block_of s in
      let j = segment_start s + i in
      let e : segments_before k + suc (j / 16) ≡ s = omega arith in
      let f : j % 16 ≡ i = omega arith in
      encoded_byte T k j (omega arith) (omega arith) ∙ segment_byte T k j (omega arith) (omega arith) (omega arith) ∙ rw (e, f)

  -- entry k of links that stand at a place of the records
  link_back :
      (place : ℕ) (links : List ℕ) → place + 1 < 16
      → ((s : ℕ) → byte_at (segment_record (segment_of T s)) place ≡ first_link links s)
      → ((s : ℕ) → byte_at (segment_record (segment_of T s)) (place + 1) ≡ second_link links s)
      → (k : ℕ) → 1 ≤ k → k ≤ 124 → link_in place (encoded T) k ≡ at links k
  unfolding link_in
  link_back place links inside first second k low high =
      let s = (k + 1) / 2 in
      let m = (k - 1) % 2 in
      rw (add_assoc (segment_start s) place m)
      (segment_there s (omega arith) (omega arith) (place + m) (omega arith)
      ∙ cases (eq_or_ne m 0)
      (λ z. let e : place + m ≡ place = omega arith in let f : 2 * s - 1 ≡ k = omega arith in rw e (first s ∙ ap (at links) f))
      (λ z. let e : place + m ≡ place + 1 = omega arith in let f : 2 * s ≡ k = omega arith in rw e (second s ∙ ap (at links) f)))

  -- byte k of the route records
  route_back : (k : ℕ) → 1 ≤ k → k ≤ 960 → route_byte_in (encoded T) k ≡ at T.routebytes k
  unfolding route_byte_in
  route_back k low high =
      let n = first_route_block + (k - 1) / route_zeros in
      let i = (k - 1) % route_zeros in
      let e : route_zeros * (n - first_route_block) + i ≡ k - 1 = omega arith in
      encoded_byte T n i (omega arith) (omega arith)
      ∙ route_byte T n i (omega arith) (omega arith)
      ∙ ap (byte_at T.routebytes) e
      ∙ sym (nth_in 0 T.routebytes k low)

  -- the numbers of segment record s
  row_back :
      (s : ℕ) → 1 ≤ s → s ≤ most_segments
      → (length_in (encoded T) s ≡ at T.lengths s) × (limit_in (encoded T) s ≡ at T.limits s) × (flags_in (encoded T) s ≡ at T.flags s)
  unfolding length_in limit_in flags_in
  row_back s low high =
      let x = segment_of T s in
      let fields = segment_back x.length x.limit x.next1 x.next2 x.previous1 x.previous2 x.flags [] in
      let b = segment_block (encoded T) s in
      let same = segment_there s low high in (
        four_there b (segment_record x) (segment_start s) 16 same in_segment.length (omega arith) ∙ fields.0,
        two_there b (segment_record x) (segment_start s) 16 same in_segment.limit (omega arith) ∙ fields.1,
        same in_segment.flags (omega arith),
      )

  -- THE CLAIM: written tables read back as they were
  pub decoded_encoded : Sized T → decoded (encoded T) ≡ T
  unfolding decoded
  decoded_encoded long =
      let file = encoded T in
      let fields = header_back T.segments T.routes T.gmax T.braking T.margin [] in
      let two-of = two_there headed (header_of T) 0 12 header_there in
      let four-of = four_there headed (header_of T) 0 12 header_there in
      let next = link_back in_segment.next T.next (omega arith) (λ s. refl) (λ s. refl) in
      let previous = link_back in_segment.previous T.previous (omega arith) (λ s. refl) (λ s. refl) in
      rw (
        header_there in_header.segments (omega arith),
        header_there in_header.routes (omega arith),
        two-of in_header.gmax (omega arith) ∙ fields.4,
        two-of in_header.braking (omega arith) ∙ fields.5,
        four-of in_header.margin (omega arith) ∙ fields.6,
        table_back 0 62 (length_in file) T.lengths long.lengths (λ s low high. (row_back s low high).0),
        table_back 0 62 (limit_in file) T.limits long.limits (λ s low high. (row_back s low high).1),
        table_back 0 124 (link_in in_segment.next file) T.next long.next next,
        table_back 0 124 (link_in in_segment.previous file) T.previous long.previous previous,
        table_back 0 62 (flags_in file) T.flags long.flags (λ s low high. (row_back s low high).2),
        table_back 0 960 (route_byte_in file) T.routebytes long.routebytes route_back,
      )
