-- Request keeps what holds of a train on the area.
use Prim.Native.Nat.{ℕ}
use mathlib.Core.Path.{refl}
use mathlib.Core.Bool.{Bool}
use native.Mathlib.Omega.{arith}
use Rattle.tables.specs.declared.Tables.{Tables}
use Rattle.tables.specs.Tables.{braking_distance}
use Rattle.tables.specs.Facts.{Consistent}
use Rattle.trains.specs.declared.Train.{Train}
use Rattle.trains.specs.Due.{request_due, grant_due}
use Rattle.trains.specs.Train.{with_asking, own_in, next_in}
use Rattle.trains.specs.Spot.{spot_of}
use Rattle.trains.specs.Cycle.{wants}
use Rattle.trains.proofs.Safety.{TrainOk, run_later, holds_there, only_there}

module _ (T : Tables) (K : Consistent T) where
  pub request_ok :
      (held : ℕ → ℕ) (t : ℕ) (x : Train) (way : ℕ) (got : ℕ → Bool) → TrainOk T request_due held t x way got
      → TrainOk T grant_due held t (with_asking x (wants (spot_of T held t x))) way got
  unfolding own_in next_in wants
  request_ok held t x way got ok =
      record {
        on_route = ok.on_route;
        inside = ok.inside;
        slow = ok.slow;
        long = ok.long;
        holds = holds_there T held t x (with_asking x (wants (spot_of T held t x))) got refl refl refl refl ok.holds;
        only = only_there T held t x (with_asking x (wants (spot_of T held t x))) got refl refl refl refl ok.only;
        stops =
            λ o. rw (run_later (braking_distance T) grant_due x.speed (omega arith)) (rw (run_later (braking_distance T) request_due x.speed (omega arith)) at (ok.stops o));
        next_slow = λ o d h. ok.next_slow o (omega arith) h;
        walked = ok.walked;
        asks_well = refl;
      }
