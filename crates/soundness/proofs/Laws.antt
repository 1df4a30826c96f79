-- What a train at its place says of its speed: it stops within the end distance. The tests of all trains by the list of where they
-- stand.
use Prim.Native.Nat.{ℕ, ◌≤◌}
use mathlib.Core.Path.{◌≡◌, ap, ◌∙◌}
use mathlib.Core.Bool.{true, ◌&&◌}
use mathlib.Core.List.{List}
use native.Mathlib.Nat.{le_refl, not-suc-le-zero}
use native.Mathlib.Omega.{arith}
use lib.ListN.{length}
use borrow.Author.Tests.{lt-ltb}
use Rattle.lists.specs.Words.{at, every}
use Rattle.lists.proofs.Loops.{every_same}
use Rattle.lists.proofs.Numbered.{nth_where}
use Rattle.tables.specs.declared.Tables.{Tables}
use Rattle.tables.specs.Tables.{braking_distance}
use Rattle.tables.specs.Facts.{Consistent}
use Rattle.trains.specs.declared.Train.{Train}
use Rattle.trains.specs.declared.Spot.{Spot}
use Rattle.trains.specs.Train.{most_trains, off, train_at, is_on, own_limit}
use Rattle.trains.specs.Spot.{spot_of}
use Rattle.trains.specs.Sound.{off_sound, place_sound, braking_sound, asking_sound, stands_sound, train_sound}
use Rattle.standing.specs.Spots.{spots_of, spot_at}
use Rattle.standing.proofs.Laws.{stands_same, spot_at_lem}
use Rattle.soundness.specs.Stopping.{Stopping}
use Rattle.trains.proofs.Safety.{in_margin}
use Rattle.trains.proofs.Soundness.{place_facts}

pub limit_stops :
    (T : Tables) → Consistent T → (held : ℕ → ℕ) (t : ℕ) (x : Train) → 1 ≤ x.route → place_sound T.routes (spot_of T held t x) x ≡ true
    → braking_distance T (own_limit T x) ≤ T.margin
limit_stops T ok held t x on h =
    let f = place_facts T.routes (spot_of T held t x) x h in
    in_margin T ok x (record { route_low = on; route_high = f.0; place_low = f.1; place_high = f.2 }) (own_limit T x) (le_refl (own_limit T x))

-- the list of where trains stand has each train's own spot: what the tests ask holds of it, and they are the tests of the record
module _ (T : Tables) (A : List ℕ) (trains : List Train) {spots : List Spot} (long : length trains ≡ most_trains) (e : spots ≡ spots_of T A trains) where
  pub stopping : Consistent T → Stopping T.routes T.braking T.margin spots trains
  stopping ok =
      record {
        rate = ok.rate;
        stops =
            λ t.
            nth_where off trains t _
            (λ low high on.
            let o : is_on (train_at trains t) ≡ true = lt-ltb 0 (train_at trains t).route on in
            rw (spot_at_lem T A trains long e t low (omega arith), o) (limit_stops T ok (at A) t (train_at trains t) on))
            (λ none on. absurd (not-suc-le-zero (rw none at on)));
      }

  test_at :
      (due t : ℕ) → 1 ≤ t → t ≤ most_trains
      → stands_sound T.routes (braking_distance T) due (spot_at spots t) (train_at trains t) ≡ train_sound T A due t (train_at trains t)
  unfolding stands_sound
  test_at due t low high =
      let x = train_at trains t in
      ap (λ (p : Spot). stands_sound T.routes (braking_distance T) due p x) (spot_at_lem T A trains long e t low high)
      ∙ stands_same T (at A) t x (λ (p : Spot). place_sound T.routes p x && braking_sound (braking_distance T) due p x && asking_sound due p x) (off_sound x)

  pub tests_same :
      (due : ℕ)
      → every most_trains (λ (t : ℕ). stands_sound T.routes (braking_distance T) due (spot_at spots t) (train_at trains t))
      ≡ every most_trains (λ (t : ℕ). train_sound T A due t (train_at trains t))
  tests_same due = every_same most_trains _ _ (test_at due)
