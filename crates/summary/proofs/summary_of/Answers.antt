-- The ones of the word are the allocated segments, and the zeros that end its complement are the segments before the first free one, which
-- is the least if it is among the n.
use native.Mathlib.Omega.{arith}
use Rattle.summary.specs.Summary.{summary_of}
use Rattle.summary.proofs.Laws.{ones_of, zeros_of, free_within, none_within}
use Rattle.summary.proofs.summary_of.Goals as goal

pub returns-then-taken-n : goal.returns-then-taken-n
unfolding summary_of
returns-then-taken-n c =
    let t = zeros_of c.args.allocations.now _ c.told-allocations c.word_of-word.ensures in
    simp (ones_of c.args.allocations.now _ c.word_of-word.ensures, t, free_within c.args.allocations.now c.args.n (omega arith))

pub returns-else-taken-n : goal.returns-else-taken-n
unfolding summary_of
returns-else-taken-n c =
    let t = zeros_of c.args.allocations.now _ c.told-allocations c.word_of-word.ensures in
    simp (ones_of c.args.allocations.now _ c.word_of-word.ensures, none_within c.args.allocations.now c.args.n (omega arith))
