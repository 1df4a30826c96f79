use Rattle.std.proofs.Common.{rules, ℕ, nat_lt}
use Rattle.tables.specs.Rules.{order_in}
use Rattle.rules.proofs.order_ok.Goals as goal

pub returns : goal.returns
unfolding order_in
returns c = c.links_pass.ensures (λ (link : ℕ). nat_lt c.args.s link) (λ link b e. search rules)
