-- The walk begins at the rear's place, up to where nothing is asked; the first place that is not allocated to the train ends it.
use Prim.Native.Nat.{ℕ, ◌-◌, ◌≤◌}
use mathlib.Core.Path.{◌≡◌}
use mathlib.Core.Bool.{Bool, true, ◌||◌}
use mathlib.Core.List.{List}
use lib.Dec.{ltb, eqb}
use Rattle.lists.specs.Words.{at, every}
use Rattle.tables.specs.Tables.{segment_at}
use Rattle.standing.proofs.all_held.Given as goal

abbrev pub ok : (routebytes allocations : List ℕ) (r rear n : ℕ) → ℕ → Bool
ok routebytes allocations r rear n p = ltb p rear || eqb (at allocations (segment_at routebytes r p)) n

abbrev pub invariant-loop-p : goal.invariant-loop-p
invariant-loop-p l = (l.rear ≤ l.p) × (every (l.p - 1) (ok l.t.routebytes l.allocations l.x.route l.rear l.n) ≡ true)
