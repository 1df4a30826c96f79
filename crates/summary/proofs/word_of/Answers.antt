use mathlib.Core.Path.{◌≡◌, ◌∙◌}
use mathlib.Core.List.{reverse}
use native.Mathlib.Omega.{arith}
use borrow.Author.Rules.{rules}
use Rattle.std.specs.List.{fold}
use Rattle.summary.specs.Word.{bit_of}
use Rattle.summary.proofs.Laws.{with_bit, word_folded}
use Rattle.summary.proofs.word_of.Goals as goal

pub returns : goal.returns
unfolding bit_of
returns c =
    let folded : c.fold.result ≡ fold with_bit 0 (reverse c.args.allocations.now) = search rules in
    folded ∙ word_folded c.args.allocations.now (omega (arith, c.told-allocations))
