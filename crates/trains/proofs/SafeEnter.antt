-- What holds of a train on the area holds of one that enters.
use Prim.Native.Nat.{ℕ, ◌+◌, ◌-◌, ◌≤◌, ◌<◌}
use mathlib.Core.Path.{◌≡◌, refl, sym, ap}
use mathlib.Core.Logic.{inl}
use mathlib.Core.Bool.{Bool, true, and-false}
use native.Mathlib.Omega.{arith}
use lib.Dec.{eqb}
use borrow.Author.Tests.{lt-leb}
use Rattle.lists.proofs.Cases.{if_case}
use Rattle.tables.specs.declared.Tables.{Tables}
use Rattle.tables.specs.Facts.{Consistent}
use Rattle.tables.proofs.Distance.{distance_above}
use Rattle.trains.specs.Due.{speed_due, grant_due}
use Rattle.trains.specs.Train.{longest_train, Journey, entered, asking, own_of, own_length, own_limit, occupied}
use Rattle.trains.specs.Cycle.{wants}
use Rattle.trains.specs.Sound.{to_run}
use Rattle.trains.specs.Way.{start_after}
use Rattle.trains.proofs.Safety.{OnRoute, TrainOk, own_is, in_margin}

module _ (T : Tables) (K : Consistent T) where
  pub enter_ok :
      (due : ℕ) (held : ℕ → ℕ) (t : ℕ) (j : Journey) (v : ℕ) (got : ℕ → Bool)
      → 1 ≤ j.route → j.route ≤ T.routes → (1 ≤ j.length) × (j.length ≤ longest_train) → v ≤ own_limit T (entered j v)
      → ((s : ℕ) → occupied T (entered j v) s ≡ true → held s ≡ t)
      → ((s : ℕ) → held s ≡ t → occupied T (entered j v) s ≡ true)
      → TrainOk T due held t (entered j v) 0 got
  unfolding start_after to_run wants
  enter_ok due held t j v got low high length slow h only =
      let r = j.route in
      let o : OnRoute T r 1 = record { route_low = low; route_high = high; place_low = omega arith; place_high = (K.counted r low high).0 } in
      let long = K.long (own_of T (entered j v)) (own_is T K (entered j v) o) in
      let stop = in_margin T K (entered j v) o v slow in
      record {
        on_route = o;
        inside = omega arith;
        slow = slow;
        long = length;
        holds = h;
        only = λ s e. inl (only s e);
        stops =
            λ q.
            if_case (λ (w : ℕ). 0 + w < own_length T (entered j v)) (eqb due speed_due) (λ e. omega (arith, distance_above T K v)) (λ e. omega arith);
        next_slow = λ q d e. absurd (omega (arith, distance_above T K v));
        walked = refl;
        asks_well = rw (lt-leb (own_length T (entered j v) - T.margin) 0 (omega arith)) (sym (ap asking (and-false (eqb due grant_due))));
      }
