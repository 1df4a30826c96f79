-- Each field is what the reader that fills it gives: the numbers from the places of the header, the arrays from the records.
use Rattle.std.proofs.Common.{rules}
use Rattle.decoding.specs.Decoding.{length_in, limit_in, flags_in, route_byte_in, decoded}
use Rattle.decoding.proofs.decode.Goals as goal

pub returns : goal.returns
unfolding decoded length_in limit_in flags_in route_byte_in
returns c =
    let file = c.args.file.now in
    simp (
      c.byte.ensures,
      c.byte-2.ensures,
      c.two_at.ensures,
      c.two_at-2.ensures,
      c.four_at.ensures,
      c.block_of-header.ensures.0,
      c.tabulate.ensures (length_in file) (λ n y p. search rules),
      c.tabulate-2.ensures (limit_in file) (λ n y p. search rules),
      c.links_of.ensures,
      c.links_of-2.ensures,
      c.tabulate-3.ensures (flags_in file) (λ n y p. search rules),
      c.tabulate-4.ensures (route_byte_in file) (λ n y p. search rules),
    )
