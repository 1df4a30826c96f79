-- Written tables load, as the tables that they were; and what is written of a record after any calls on an accepted file is that file.
use Prim.Native.Nat.{ℕ, ◌+◌, ◌-◌, ◌≤◌}
use mathlib.Core.Path.{◌≡◌, sym, ap, ◌∙◌}
use mathlib.Core.Bool.{true}
use mathlib.Core.List.{List}
use native.Mathlib.Omega.{arith}
use lib.ListN.{take, get_or-eq_default}
use borrow.Author.Tests.{not-true}
use Rattle.file.specs.Bytes.{byte_at}
use Rattle.file.specs.Layout.{in_tail, header_block, in_header, segment_start, in_segment}
use Rattle.file.specs.Blocks.{block}
use Rattle.file.proofs.Meaning.{all_zeros}
use Rattle.file.proofs.Block.{padded, block_intact, block_filed}
use Rattle.tables.specs.declared.Tables.{Tables}
use Rattle.tables.specs.declared.Segment.{Segment}
use Rattle.tables.specs.Bounds.{most_segments}
use Rattle.tables.specs.Tables.{segment_of}
use Rattle.tables.specs.Facts.{Meets}
use Rattle.decoding.specs.Decoding.{segment_block, decoded}
use Rattle.reading.specs.Verdict.{header_filed, reserved, verdict, accepted, reading_of}
use Rattle.reading.specs.Acceptance.{MeetsRules}
use Rattle.reading.proofs.Accepted.{accepted_iff}
use Rattle.encoding.specs.Encoding.{header_of, segment_record, encoded}
use Rattle.encoding.proofs.Whole.{encoded_long}
use Rattle.answers.specs.Answers.{answer_of}
use Rattle.area.specs.declared.Area.{Area}
use Rattle.area.specs.Sound.{sound}
use Rattle.area.proofs.Soundness.{sound_meets}
use Rattle.loading.specs.Load.{loaded}
use Rattle.loading.proofs.Loading.{loaded_by_reading}
use Rattle.separation.specs.Calls.{Call}
use Rattle.separation.proofs.Demand3.{demand3}
use Rattle.kept.specs.Kept.{Reached}
use Rattle.writing.specs.Writing.{Octets, Sized, done_with}
use Rattle.writing.proofs.Held.{held, held_fits, routes_fit, block_encoded, encoded_byte}
use Rattle.writing.proofs.Back.{header_there, segment_there, decoded_encoded}
use Rattle.writing.proofs.Same.{encoded_decoded}

-- the five zeros that end a segment record
record_zero : (x : Segment) (i : ℕ) → in_segment.zeros ≤ i → byte_at (segment_record x) i ≡ 0
record_zero x i low = padded (take in_segment.zeros (segment_record x)) 5 i ∙ get_or-eq_default (take in_segment.zeros (segment_record x)) 0 low

module _ (T : Tables) where
  -- rules 4 and 6 of what the tables do not keep: the rows of bytes have the version and the zeros
  header_filed_lem : header_filed (encoded T) ≡ true
  unfolding header_filed held
  header_filed_lem =
      let b = block (encoded T) header_block in
      let zero = all_zeros b in_header.zeros in_tail.body_last
      (λ i low high. encoded_byte T header_block i (omega arith) (omega arith) ∙ get_or-eq_default (header_of T) 0 low) in
      rw (header_there T in_header.version (omega arith), header_there T in_header.zero (omega arith), zero)

  segment_reserved : (s : ℕ) → 1 ≤ s → s ≤ most_segments → reserved (encoded T) s ≡ true
  unfolding reserved
  segment_reserved s from to =
      let b = segment_block (encoded T) s in
      let start = segment_start s in
      all_zeros b (start + in_segment.zeros) (start + in_segment.zeros_last)
      (λ i low high.
      let e : i ≡ start + (i - start) = omega arith in
      ap (byte_at b) e ∙ segment_there T s from to (i - start) (omega arith) ∙ record_zero (segment_of T s) (i - start) (omega arith))

  -- the file of tables that meet rules 4 to 10 meets all ten
  encoded_meets : Sized T → Meets T → MeetsRules (encoded T)
  encoded_meets long meets =
      record {
        size = encoded_long T;
        checks = λ k below. rw (block_encoded T k below) (block_intact k (held T k) (held_fits T k));
        tails = λ k below. rw (block_encoded T k below) (block_filed k (held T k) (held_fits T k) (λ low. omega (arith, routes_fit T k low)));
        header = header_filed_lem;
        zeros = segment_reserved;
        tables = rw (decoded_encoded T long) meets;
      }

-- an accepted file is done, with its tables
loaded_done : (file : List ℕ) → accepted file ≡ true → loaded file ≡ done_with (decoded file)
unfolding reading_of answer_of
loaded_done file e = sym (loaded_by_reading file) ∙ rw (not-true (verdict file).holds e)

-- THE CLAIM: the file of tables that meet the rules loads, as those tables
pub encoded_loads : (T : Tables) → Sized T → Meets T → loaded (encoded T) ≡ done_with T
encoded_loads T long meets =
    loaded_done (encoded T) ((accepted_iff (encoded T)).1 (encoded_meets T long meets)) ∙ ap done_with (decoded_encoded T long)

-- THE CLAIM: so does the file of a sound record's tables
pub sound_loads : (a : Area) → Sized a.tables → sound a ≡ true → loaded (encoded a.tables) ≡ done_with a.tables
sound_loads a long s = encoded_loads a.tables long (sound_meets a s)

-- THE CLAIM: different tables have different files, whether they meet the rules or not, since each reads back; what is asked is that their
-- lists have the arrays' lengths
pub one_to_one : (T U : Tables) → Sized T → Sized U → encoded T ≡ encoded U → T ≡ U
one_to_one T U long long' e = sym (decoded_encoded T long) ∙ ap decoded e ∙ decoded_encoded U long'

-- THE CLAIM: the record after any calls on an accepted file is sound, and the file of its tables is that file, since no call changes them
pub after_writes : (file : List ℕ) (calls : List Call) (a : Area) → Octets file → Reached file calls a → (sound a ≡ true) × (encoded a.tables ≡ file)
after_writes file calls a octets r =
    let s = demand3 file r.done calls in (
      ap sound r.same ∙ s.is_sound,
      ap (λ (x : Area). encoded x.tables) r.same ∙ ap encoded s.tables ∙ encoded_decoded file octets r.done,
    )
