-- Five blocks are put at their places one after the other.
use mathlib.Core.Path.{◌∙◌}
use Rattle.encoding.proofs.Whole.{encoded_put}
use Rattle.encoding.proofs.write_tables.Goals as goal

pub returns : goal.returns
returns c =
    c.put_block-5.ensures
    ∙ rw (
      c.route_rows-2.ensures.0,
      c.put_block-4.ensures,
      c.route_rows.ensures.0,
      c.put_block-3.ensures,
      c.segment_rows-2.ensures,
      c.put_block-2.ensures,
      c.segment_rows.ensures,
      c.put_block.ensures,
      c.header_bytes.ensures,
    )
    (encoded_put _ _)
