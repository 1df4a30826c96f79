-- What an enter and a leave make of the train and of what is allocated to it (document 01, "The calls"; document 02, R-4).
use Prim.Native.Nat.{ℕ, ◌≤◌}
use mathlib.Core.Path.{◌≡◌, refl, ◌∙◌}
use native.Mathlib.Omega.{arith}
use lib.ListN.{length}
use borrow.Author.Tests.{eq-eqb}
use Rattle.lists.specs.Words.{at}
use Rattle.lists.proofs.Numbered.{nth_each_in, nth_stored}
use Rattle.tables.specs.Bounds.{most_segments}
use Rattle.trains.specs.Train.{Journey, off, entered, train_at}
use Rattle.trains.specs.EnterLeave.{freed_by}
use Rattle.trains.proofs.Calls.{leaver_freed, others_kept}
use Rattle.area.specs.declared.Area.{Area}
use Rattle.area.specs.Calls.{after_enter, after_leave}

-- THE CLAIM: a train that enters has the route, the speed and the length that the enter named, and stands at the start
pub enter_keeps :
    (a : Area) (t : ℕ) (j : Journey) (v : ℕ) → length a.trains ≡ 24 → (1 ≤ t) × (t ≤ 24)
    → train_at (after_enter a t j v).trains t
    ≡ record { route = j.route; place = 1; position = 0; speed = v; length = j.length; asks = 0; count = 0 }
unfolding after_enter
enter_keeps a t j v long is_train =
    nth_stored off a.trains t (entered j v) is_train.0 (omega (arith, is_train.1)) t ∙ rw (eq-eqb t t refl)

-- THE CLAIM: leave frees all of the train: every segment that was allocated to it is free, and what is allocated to another stays so
module _ (a : Area) (t s : ℕ) (long : length a.allocations ≡ most_segments) (isSegment : (1 ≤ s) × (s ≤ most_segments)) where
  leave_look : at (after_leave a t).allocations s ≡ freed_by t s (at a.allocations s)
  unfolding after_leave
  leave_look = nth_each_in 0 0 (freed_by t) a.allocations s isSegment.0 (omega (arith, isSegment.1))

  pub leave_frees : at a.allocations s ≡ t → at (after_leave a t).allocations s ≡ 0
  leave_frees e = leave_look ∙ leaver_freed t s (at a.allocations s) e

  pub leave_keeps : (at a.allocations s ≡ t → ⊥) → at (after_leave a t).allocations s ≡ at a.allocations s
  leave_keeps n = leave_look ∙ others_kept t s (at a.allocations s) n
