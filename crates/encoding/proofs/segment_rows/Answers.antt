use Prim.Native.Nat.{suc, ◌+◌}
use mathlib.Core.Path.{◌≡◌, refl, sym, ap, ◌∙◌}
use native.Mathlib.Numerals.{add-one}
use native.Mathlib.Omega.{arith}
use borrow.Author.Rules.{rules}
use Rattle.file.proofs.Rows.{put_nothing, put_over}
use Rattle.tables.specs.Tables.{segment_of}
use Rattle.encoding.specs.Encoding.{rows, segment_record}
use Rattle.encoding.proofs.Rows.{row_put, segments_long}
use Rattle.encoding.proofs.segment_rows.Goals as goal

pub loop-i-init : goal.loop-i-init
unfolding rows
loop-i-init c = (refl, sym (put_nothing 0 _))

pub loop-i-preserved : goal.loop-i-preserved
loop-i-preserved c =
    let number : c.args.before + c.loop-i.i + 1 ≡ c.args.before + suc c.loop-i.i = omega arith in
    let row = c.segment_bytes-row.ensures ∙ ap segment_record c.segment.ensures in (
      search rules,
      rw (add-one c.loop-i.i) (row_put 16 c.loop-i.i _ (λ k. refl) _ c.loop-i.invariant.1 (rw number at row) c.put.ensures),
    )

pub returns : goal.returns
returns c =
    let e : c.loop-i.i ≡ 31 = omega arith in
    rw e at c.loop-i.invariant.1 ∙ put_over _ _ (segments_long (segment_of c.args.t.now) c.args.before)
