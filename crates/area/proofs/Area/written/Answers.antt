-- Where no test holds, the file of the tables is put over the whole buffer.
use Rattle.std.proofs.Common.{refl, sym, ◌∙◌}
use borrow.Author.Tests.{eq-eqb, ne_eqb}
use Rattle.file.specs.Layout.{file_size}
use Rattle.file.proofs.Rows.{put_over}
use Rattle.encoding.proofs.Whole.{encoded_long}
use Rattle.area.specs.Write.{buffer_after}
use Rattle.area.proofs.Laws.{found_spots, found_unsound}
use Rattle.area.proofs.Area.written.Goals as goal

pub returns-in_err-examine-clause-buffer_after : goal.returns-in_err-examine-clause-buffer_after
unfolding buffer_after
returns-in_err-examine-clause-buffer_after c =
    rw (found_unsound c.args.self.now (sym c.in_err-examine.was ∙ c.examine.ensures)).0 refl

pub returns-then-buffer-ne-FILE_SIZE-clause-buffer_after : goal.returns-then-buffer-ne-FILE_SIZE-clause-buffer_after
unfolding buffer_after
returns-then-buffer-ne-FILE_SIZE-clause-buffer_after c =
    rw (found_spots c.args.self.now (sym c.in_ok-examine.was ∙ c.examine.ensures), ne_eqb _ file_size c.if-buffer-ne-FILE_SIZE.true) refl

pub returns-clause-buffer_after : goal.returns-clause-buffer_after
unfolding buffer_after
returns-clause-buffer_after c =
    rw (found_spots c.args.self.now (sym c.in_ok-examine.was ∙ c.examine.ensures), eq-eqb _ file_size c.if-buffer-ne-FILE_SIZE.false)
    (c.write_tables.ensures ∙ put_over _ _ (encoded_long _ ∙ sym c.if-buffer-ne-FILE_SIZE.false))
