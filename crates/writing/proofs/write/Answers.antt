-- The record's method has written; its arrays have their lengths.
use mathlib.Core.Path.{ap}
use borrow.Author.Rules.{rules}
use Rattle.answers.specs.Answers.{number_of}
use Rattle.writing.specs.Writing.{Sized}
use Rattle.writing.proofs.Told.{write_told}
use Rattle.writing.proofs.write.Goals as goal

pub returns : goal.returns
returns c =
    let sized : Sized c.args.area.tables =
    record {
      lengths = search rules;
      limits = search rules;
      next = search rules;
      previous = search rules;
      flags = search rules;
      routebytes = search rules;
    } in
    write_told c.args.area _ sized (ap number_of c.write.ensures.value) c.write.ensures.buffer_after
