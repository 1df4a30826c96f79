-- Each turn puts one record more after those that are there; 31 of them fill the array.
use Prim.Native.Nat.{ℕ, ◌+◌}
use mathlib.Core.Path.{◌≡◌}
use mathlib.Core.List.{List}
use lib.ListN.{length}
use Rattle.file.specs.Bytes.{put_at}
use Rattle.tables.specs.declared.Tables.{Tables}
use Rattle.tables.specs.Tables.{segment_of}
use Rattle.encoding.specs.Encoding.{rows, segment_record}
use Rattle.encoding.proofs.segment_rows.Given as goal

-- record k of the block
abbrev pub record-at : Tables → (before k : ℕ) → List ℕ
record-at t before k = segment_record (segment_of t (before + k))

abbrev pub invariant-loop-i : goal.invariant-loop-i
invariant-loop-i l = (length l.held ≡ 496) × (l.held ≡ put_at 0 (rows l.i (record-at l.t l.before)) l.initial.held)
