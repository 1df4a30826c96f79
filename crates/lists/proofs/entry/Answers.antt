use Rattle.std.proofs.Common.{sym, ap, ◌∙◌, arith, unwrap_or}
use Rattle.lists.proofs.Numbered.{nth_zero, nth_in}
use Rattle.lists.proofs.entry.Goals as goal

pub returns-then-n-eq0 : goal.returns-then-n-eq0
returns-then-n-eq0 g c = sym (nth_zero _ _ _ c.if-n-eq0.true)

pub returns : goal.returns
returns g c =
    c.unwrap_or.ensures ∙ ap (λ o. unwrap_or o c.args.none) c.copied.ensures ∙ c.get.ensures.lookup.4 (omega arith) c.args.none
    ∙ sym (nth_in _ _ _ (omega arith))
