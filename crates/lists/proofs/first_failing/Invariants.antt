use Rattle.std.proofs.Common.{◌≡◌, ℕ, Bool, ◌-◌}
use Rattle.lists.proofs.Loops.{Scanned}
use Rattle.lists.proofs.first_failing.Given as goal

abbrev pub invariant-loop-k : goal.invariant-loop-k
invariant-loop-k g l = (p : ℕ → Bool) → ((k : ℕ) (b : Bool) → goal.F-post g l.ok k b → b ≡ p k) → Scanned l.n p (l.k - 1)
