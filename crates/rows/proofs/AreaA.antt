-- What load answers to a file of Area A's shape, whatever numbers and checks stand in it.
use Prim.Native.Nat.{ℕ}
use mathlib.Core.Path.{◌≡◌, refl, ap, ◌∙◌}
use mathlib.Core.Bool.{Bool, true, not, and-true}
use mathlib.Core.List.{List, [], ◌∷◌, ◌++◌}
use lib.ListN.{length, replicate}
use Rattle.lists.specs.Words.{nth, every, least, tabulate, first_failing}
use Rattle.lists.specs.Tests.{Test, ◌⇒◌, first_of}
use Rattle.lists.proofs.Loops.{every_at, least_same}
use Rattle.braking.specs.Braking.{falling_sum, S}
use Rattle.file.specs.Bytes.{two_at, four_at, two, four, zeros}
use Rattle.file.specs.Layout.{file_size, kind_of, in_segment}
use Rattle.file.specs.Blocks.{block, sums, intact, filed, first_damaged, first_misfiled}
use Rattle.decoding.specs.Decoding.{segment_block, length_in, limit_in, link_in, flags_in, route_byte_in, decoded}
use Rattle.reading.specs.Verdict.{header_filed, reserved, record_ok, at_block, at_number, verdict_within}
use Rattle.tables.specs.declared.Tables.{Tables}
use Rattle.tables.specs.Bounds.{most_segments, most_routes, Bounds}
use Rattle.tables.specs.Tables.{links_to, count_of, segment_at}
use Rattle.tables.specs.Rules.{header_in, header_ok, margin_ok, links_ok, used_ok, unused_ok, row_ok, segment_ok, matched, joint_in, joint_ok, order_in, order_ok, drop_in, drop_ok, used_route_ok, unused_route_ok, route_in, route_ok}
use Rattle.answers.specs.Answers.{answer_of}
use Rattle.loading.specs.Before.{loaded_within}
use Rattle.rows.specs.AreaA.{header, segments, no_segments, routes, no_routes, file}

-- tables of Area A's shape
unfoldable pub tables_of : (gmax b d length1 limit1 length2 limit2 length3 limit3 : ℕ) → Tables
tables_of gmax b d length1 limit1 length2 limit2 length3 limit3 =
    record {
      segments = 3;
      routes = 2;
      gmax = gmax;
      braking = b;
      margin = d;
      lengths = length1 ∷ length2 ∷ length3 ∷ replicate 59 0;
      limits = limit1 ∷ limit2 ∷ limit3 ∷ replicate 59 0;
      next = 3 ∷ 0 ∷ 3 ∷ replicate 121 0;
      previous = 0 ∷ 0 ∷ 0 ∷ 0 ∷ 1 ∷ 2 ∷ replicate 118 0;
      flags = 1 ∷ 1 ∷ 2 ∷ replicate 59 0;
      routebytes = 2 ∷ 1 ∷ 3 ∷ replicate 29 0 ++ 2 ∷ 2 ∷ 3 ∷ replicate 925 0;
    }

-- the rules that an edge can break, by what each finds: the first damaged block, whether header and margin are met, the first
-- broken record, the first segment that drops too much
unfoldable pub left : (damaged : ℕ) (header margin : Bool) (broken dropping : ℕ) → Test
left damaged header margin broken dropping =
    first_of (at_block damaged 2 ∷ not header ⇒ 4 ∷ not margin ⇒ 5 ∷ at_number broken 6 ∷ at_number dropping 9 ∷ [])

module _ (gmax b d first0 second0 length1 limit1 length2 limit2 length3 limit3 first1 second1 : ℕ) where
  abbrev area_a : List ℕ
  area_a = file (header gmax b d first0 second0) (segments length1 limit1 length2 limit2 length3 limit3 first1 second1)

  -- where `bytes` unfolds, all its bytes are seen
  bytes : List ℕ
  unfolding file header segments no_segments routes no_routes kind_of
  bytes = area_a

  blocks :
      (block area_a 0 ≡ header gmax b d first0 second0)
      × (block area_a 1 ≡ segments length1 limit1 length2 limit2 length3 limit3 first1 second1)
      × (block area_a 2 ≡ no_segments) × (block area_a 3 ≡ routes) × (block area_a 4 ≡ no_routes)
  unfolding bytes block
  blocks = (refl, refl, refl, refl, refl)

  -- its tables have Area A's shape; each number is read back from its bytes
  abbrev T : Tables
  T =
      tables_of (two_at (two gmax) 0) (two_at (two b) 0) (four_at (four d) 0) (four_at (four length1) 0) (two_at (two limit1) 0)
      (four_at (four length2) 0) (two_at (two limit2) 0) (four_at (four length3) 0) (two_at (two limit3) 0)

  in_lengths : tabulate 62 (length_in area_a) ≡ T.lengths
  unfolding segment_block length_in tabulate
  in_lengths = rw (blocks.1, blocks.2) (unfold bytes tables_of in refl)

  in_limits : tabulate 62 (limit_in area_a) ≡ T.limits
  unfolding segment_block limit_in tabulate
  in_limits = rw (blocks.1, blocks.2) (unfold bytes tables_of in refl)

  in_next : tabulate 124 (link_in in_segment.next area_a) ≡ T.next
  unfolding segment_block link_in tabulate
  in_next = rw (blocks.1, blocks.2) (unfold bytes tables_of in refl)

  in_previous : tabulate 124 (link_in in_segment.previous area_a) ≡ T.previous
  unfolding segment_block link_in tabulate
  in_previous = rw (blocks.1, blocks.2) (unfold bytes tables_of in refl)

  in_flags : tabulate 62 (flags_in area_a) ≡ T.flags
  unfolding segment_block flags_in tabulate
  in_flags = rw (blocks.1, blocks.2) (unfold bytes tables_of in refl)

  in_routes : tabulate 960 (route_byte_in area_a) ≡ T.routebytes
  unfolding route_byte_in tabulate
  in_routes = rw (blocks.3, blocks.4) (unfold bytes tables_of in refl)

  pub tables : decoded area_a ≡ T
  unfolding decoded
  tables = rw (blocks.0, in_lengths, in_limits, in_next, in_previous, in_flags, in_routes) (unfold bytes tables_of in refl)

  -- what no edge breaks: rules 1 and 3, of rule 4 the version and the zeros, of rule 6 the zeros, rules 7, 8 and 10
  size : length area_a ≡ file_size
  unfolding bytes
  size = refl

  misfiled : first_misfiled area_a ≡ 0
  unfolding bytes block first_misfiled filed kind_of zeros every least
  misfiled = refl

  headed : header_filed area_a ≡ true
  unfolding bytes block header_filed zeros every
  headed = refl

  ended : every most_segments (reserved area_a) ≡ true
  unfolding bytes block segment_block reserved zeros every
  ended = refl

  joints : first_failing T.segments (joint_ok T) ≡ 0
  unfolding tables_of joint_in matched links_to nth least
  joints = refl

  orders : first_failing T.segments (order_ok T) ≡ 0
  unfolding tables_of order_in nth least
  orders = refl

  routebytes : first_failing most_routes (route_ok T) ≡ 0
  unfolding tables_of route_in used_route_ok unused_route_ok links_to count_of segment_at nth every least
  routebytes = refl

  module _ (β : Bounds) where
    records : first_failing most_segments (record_ok β area_a T) ≡ first_failing most_segments (segment_ok β T)
    unfolding record_ok
    records = least_same most_segments _ _ (λ s low high. simp (every_at (reserved area_a) most_segments ended s low high, and-true))

    -- so the other rules decide, with the bounds β
    abbrev others : Test
    others =
        left (first_damaged area_a) (header_ok β T) (margin_ok T) (first_failing most_segments (segment_ok β T))
        (first_failing T.segments (drop_ok T))

    judged : verdict_within β area_a ≡ others
    unfolding left
    judged = simp (size, tables, misfiled, headed, records, joints, orders, routebytes)

    -- where `found` unfolds, what they find computes
    unfoldable pub found : Test
    unfolding bytes tables_of block first_damaged intact sums header_in S falling_sum row_ok used_ok links_ok unused_ok drop_in nth least
    found = others

    pub answered : (t : Test) → found ≡ t → (loaded_within β area_a).answer ≡ answer_of t.number t.place
    unfolding found
    answered t e = ap (λ (u : Test). answer_of u.number u.place) (judged ∙ e)
