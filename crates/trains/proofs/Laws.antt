-- That a train on has a number.
use Prim.Native.Nat.{ℕ, ◌≤◌}
use mathlib.Core.Path.{◌≡◌, ap}
use mathlib.Core.List.{List}
use native.Mathlib.Omega.{arith}
use lib.ListN.{length}
use Rattle.lists.proofs.Numbered.{nth_where}
use Rattle.trains.specs.declared.Train.{Train}
use Rattle.trains.specs.Train.{most_trains, off, train_at}

-- of 24 trains, one that is on has a number of 1 to 24
pub on_numbered : (trains : List Train) → length trains ≡ most_trains → (t : ℕ) → 1 ≤ (train_at trains t).route → (1 ≤ t) × (t ≤ most_trains)
on_numbered trains long t on =
    nth_where off trains t _ (λ low high. omega arith) (λ none. absurd (omega (arith, on, ap (λ (x : Train). x.route) none)))
