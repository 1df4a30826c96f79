-- Where a train on stands, and the list of where all of them do.
use Rattle.std.specs.Prelude.{if◌then◌else◌}
use Prim.Native.Nat.{ℕ, ◌≤◌}
use mathlib.Core.Path.{◌≡◌, ap, ◌∙◌}
use mathlib.Core.List.{List}
use native.Mathlib.Omega.{arith}
use lib.ListN.{length}
use Rattle.lists.specs.Words.{at}
use Rattle.lists.proofs.Cases.{by_test}
use Rattle.lists.proofs.Numbered.{nth_each_in}
use Rattle.tables.specs.declared.Tables.{Tables}
use Rattle.trains.specs.declared.Train.{Train}
use Rattle.trains.specs.declared.Spot.{Spot}
use Rattle.trains.specs.Train.{most_trains, off, train_at, is_on}
use Rattle.trains.specs.Spot.{spot_of}
use Rattle.standing.specs.Spots.{no_spot, stands_of, spots_of, spot_at}

-- what is asked of a train on alone may be asked of where it stands
pub stands_same :
    {A : Type 0} (T : Tables) (held : ℕ → ℕ) (t : ℕ) (x : Train) (f : Spot → A) (a : A)
    → (if is_on x then f (stands_of T held t x) else a) ≡ (if is_on x then f (spot_of T held t x) else a)
stands_same T held t x f a = by_test (is_on x) (λ e. rw e) (λ e. rw e)

-- the list has each train's own spot
pub spot_at_lem :
    (T : Tables) (A : List ℕ) (trains : List Train) {spots : List Spot} → length trains ≡ most_trains → spots ≡ spots_of T A trains
    → (t : ℕ) → 1 ≤ t → t ≤ most_trains → spot_at spots t ≡ stands_of T (at A) t (train_at trains t)
spot_at_lem T A trains long e t low high =
    ap (λ (l : List Spot). spot_at l t) e ∙ nth_each_in off no_spot (stands_of T (at A)) trains t low (omega arith)
