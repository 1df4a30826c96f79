-- The entries up to i are made, by whatever function the calls compute.
use Rattle.std.proofs.Common.{◌≡◌, ℕ}
use Rattle.lists.proofs.Loops.{Made}
use Rattle.lists.proofs.tabulate.Given as goal

abbrev pub invariant-loop-i : goal.invariant-loop-i
invariant-loop-i g l =
    (f : ℕ → _) → ((n : ℕ) (y : _) → goal.F-post g l.f n y → y ≡ f n) → Made l.i-end (λ k x. f k) l.initial.new l.initial.new l.i l.new
