use Rattle.std.proofs.Common.{rules, ℕ, ◌+◌}
use lib.Dec.{leb}
use Rattle.lists.specs.Words.{at}
use Rattle.tables.specs.Rules.{drop_in}
use Rattle.rules.proofs.drop_ok.Goals as goal

pub returns : goal.returns
unfolding drop_in
returns c =
    let T = c.args.t.now in
    c.links_pass.ensures (λ (link : ℕ). leb (at T.limits c.args.s) (at T.limits link + T.braking)) (λ link b e. search rules)
