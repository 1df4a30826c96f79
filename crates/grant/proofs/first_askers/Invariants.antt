-- After each turn every segment has, of the trains so far that ask for it, the one that goes before the others.
use Prim.Native.Nat.{◌-◌}
use mathlib.Core.Path.{◌≡◌}
use Rattle.lists.specs.Words.{tabulate}
use Rattle.grant.proofs.Askers.{asker_of}
use Rattle.grant.proofs.first_askers.Given as goal

abbrev pub invariant-loop-n : goal.invariant-loop-n
invariant-loop-n l = l.first ≡ tabulate 62 (asker_of l.t l.trains (l.n - 1))
