-- Grant keeps what holds of a train on the area.
use Prim.Native.Nat.{ℕ, ◌+◌, ◌<◌}
use mathlib.Core.Path.{◌≡◌, refl}
use mathlib.Core.Logic.{◌⊎◌, inl, inr}
use mathlib.Core.Bool.{Bool, true, false}
use native.Mathlib.Omega.{arith}
use Rattle.lists.proofs.Cases.{by_test, cases}
use Rattle.tables.specs.declared.Tables.{Tables}
use Rattle.tables.specs.Tables.{braking_distance}
use Rattle.tables.specs.Facts.{Consistent}
use Rattle.tables.proofs.Distance.{distance_above}
use Rattle.trains.specs.declared.Train.{Train}
use Rattle.trains.specs.Due.{grant_due, position_due}
use Rattle.trains.specs.Train.{answered, own_in, next_in, next_of, own_length, holds_next, ahead}
use Rattle.trains.proofs.Safety.{TrainOk, run_later, holds_there, only_there, holds_not}

module _ (T : Tables) (K : Consistent T) where
  -- a train may gain what lies ahead of it, and loses nothing
  pub grant_ok :
      {held held' : ℕ → ℕ} {t : ℕ} {x : Train} {way : ℕ} {got got' : ℕ → Bool} {c : ℕ}
      → TrainOk T grant_due held t x way got
      → ((s : ℕ) → held s ≡ t → held' s ≡ t)
      → ((s : ℕ) → held' s ≡ t → (held s ≡ t) ⊎ ((ahead T x s ≡ true) × (got' s ≡ true)))
      → ((s : ℕ) → got s ≡ true → got' s ≡ true)
      → TrainOk T position_due held' t (answered x c) way got'
  unfolding own_in next_in
  grant_ok {held} {held'} {t} {x} {way} {got} {got'} {c} ok to from g =
      let later : holds_next T held t x ≡ false → x.position + braking_distance T x.speed < own_length T x =
      λ e. rw (run_later (braking_distance T) grant_due x.speed (omega arith)) at (ok.stops e) in
      record {
        on_route = ok.on_route;
        inside = ok.inside;
        slow = ok.slow;
        long = ok.long;
        holds = holds_there T held' t x (answered x c) got' refl refl refl refl (λ s e. to s (ok.holds s e));
        only =
            only_there T held' t x (answered x c) got' refl refl refl refl
            (λ s e. cases (from s e) (λ q. cases (ok.only s q) (λ r. inl r) (λ r. inr (r.0, g s r.1))) (λ q. inr q));
        stops = λ o. rw (run_later (braking_distance T) position_due x.speed (omega arith)) (later (holds_not T K held held' t x (λ some. to (next_of T x)) o));
        next_slow =
            λ o d h.
            by_test (holds_next T held t x) (λ e. ok.next_slow e (omega arith) h)
            (λ e. absurd (omega (arith, later e, distance_above T K x.speed)));
        walked = ok.walked;
        asks_well = refl;
      }
