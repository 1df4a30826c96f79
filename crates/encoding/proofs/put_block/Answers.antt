-- The block is made in zeros, its check last, and put at its place.
use mathlib.Core.Path.{refl, ◌∙◌}
use borrow.Author.Rules.{rules}
use Rattle.file.proofs.Sealed.{sealed}
use Rattle.encoding.proofs.put_block.Goals as goal

pub returns : goal.returns
returns c =
    c.put-2.ensures
    ∙ rw (sealed c.args.number _ (search rules) 512 refl _ c.put.ensures _ c.kind_of.ensures _ c.check_of.ensures)
