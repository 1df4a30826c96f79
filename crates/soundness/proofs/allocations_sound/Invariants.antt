-- After each turn what the trains so far may hold is taken away.
use Prim.Native.Nat.{ℕ}
use mathlib.Core.Path.{◌≡◌}
use mathlib.Core.Bool.{Bool}
use mathlib.Core.List.{List}
use lib.ListN.{length}
use Rattle.lists.specs.Words.{some}
use Rattle.trains.specs.declared.Train.{Train}
use Rattle.trains.specs.declared.Spot.{Spot}
use Rattle.trains.specs.Train.{train_at}
use Rattle.standing.specs.Spots.{spot_at}
use Rattle.soundness.specs.Covered.{covers}
use Rattle.soundness.proofs.Taken.{without}
use Rattle.soundness.proofs.allocations_sound.Given as goal

-- one of the trains 1 to n covers segment s
abbrev pub covered : (routebytes : List ℕ) → List Spot → List Train → (n s : ℕ) → Bool
covered routebytes spots trains n s = some n (λ (t : ℕ). covers routebytes (spot_at spots t) (train_at trains t) s)

abbrev pub invariant-loop-spot : goal.invariant-loop-spot
invariant-loop-spot l = l.left ≡ without (covered l.t.routebytes l.spots l.trains (length l.yielded)) l.initial.left
