-- Before each turn the segments from the rear's place up to the place before are taken away.
use Prim.Native.Nat.{ℕ, ◌-◌, min}
use mathlib.Core.Path.{◌≡◌}
use mathlib.Core.Bool.{Bool, ◌&&◌}
use mathlib.Core.List.{List}
use lib.Dec.{leb, eqb}
use Rattle.lists.specs.Words.{some}
use Rattle.tables.specs.Tables.{segment_at}
use Rattle.soundness.proofs.Taken.{without}
use Rattle.soundness.proofs.take_under.Given as goal

-- segment s stands at place p, which is the rear's or after it
abbrev pub stands : (routebytes : List ℕ) (r rear s : ℕ) → ℕ → Bool
stands routebytes r rear s p = leb rear p && eqb (segment_at routebytes r p) s

abbrev pub invariant-loop-p : goal.invariant-loop-p
invariant-loop-p l = l.left ≡ without (λ (s : ℕ). some (min (l.p - 1) l.place) (stands l.t.routebytes l.r l.rear s)) l.initial.left
