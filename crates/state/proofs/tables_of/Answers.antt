-- The bytes are read where they have a file's size.
use mathlib.Core.Path.{◌∙◌, ap}
use Rattle.decoding.specs.Decoding.{decoded}
use Rattle.state.proofs.Laws.{tables_blank, tables_decoded}
use Rattle.state.proofs.tables_of.Goals as goal

pub returns-in-Ok : goal.returns-in-Ok
returns-in-Ok c = c.decode.ensures ∙ ap decoded c.in-Ok.ensures.1.same ∙ tables_decoded _ c.in-Ok.ensures.1.long

pub returns-in-Err : goal.returns-in-Err
returns-in-Err c = c.blank.ensures ∙ tables_blank _ c.in-Err.ensures.1
