-- The entries up to i are made, by whatever function the calls compute.
use Rattle.std.proofs.Common.{◌≡◌, ℕ}
use Rattle.lists.proofs.Loops.{Made}
use Rattle.lists.proofs.each.Given as goal

abbrev pub invariant-loop-i : goal.invariant-loop-i
invariant-loop-i g l =
    (f : ℕ → _ → _) → ((n : ℕ) (x : _) (y : _) → goal.F-post g l.f n x y → y ≡ f n x) → Made l.i-end f l.xs l.initial.new l.i l.new
