use Rattle.std.proofs.Common.{rules, ℕ}
use Rattle.tables.specs.Tables.{links_to}
use Rattle.tables.specs.Rules.{matched}
use Rattle.rules.proofs.is_joined.Goals as goal

pub returns : goal.returns
unfolding matched
returns c = c.links_pass.ensures (λ (link : ℕ). links_to c.args.back.now link c.args.s) (λ link b e. search rules)
