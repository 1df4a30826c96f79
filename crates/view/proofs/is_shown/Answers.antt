use Rattle.std.proofs.Common.{rules}
use Rattle.std.proofs.lemmas.Result.{MatchResult-weaker}
use Rattle.view.proofs.View.{shown_by}
use Rattle.view.proofs.is_shown.Goals as goal

pub returns : goal.returns
returns c =
    shown_by _ _ c.read.result _ c.read.ensures (MatchResult-weaker c.read.result c.is_ok_and.ensures (λ T p. search rules) (λ f p. p))
