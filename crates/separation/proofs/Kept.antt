-- What holds of an area record and of what the list tells, after every call: the induction's tool.
use Prim.Native.Nat.{ℕ, ◌≤◌}
use mathlib.Core.Path.{◌≡◌, refl, sym, ap, ◌∙◌}
use mathlib.Core.Logic.{inl, inr}
use mathlib.Core.Bool.{true, false}
use mathlib.Core.List.{List}
use native.Mathlib.Omega.{arith}
use lib.ListN.{length}
use borrow.Author.Tests.{lt-ltb}
use Rattle.lists.specs.Words.{at}
use Rattle.lists.proofs.Cases.{by_test, cases, eq_or_ne}
use Rattle.tables.specs.declared.Tables.{Tables}
use Rattle.tables.specs.Facts.{Meets}
use Rattle.tables.proofs.Consistency.{consistent}
use Rattle.trains.specs.declared.Train.{Train}
use Rattle.trains.specs.Due.{position_due}
use Rattle.trains.specs.Train.{Journey, journey_of, off, train_at, is_on}
use Rattle.trains.specs.SoundFacts.{SoundTrain, SoundAllocation}
use Rattle.trains.proofs.Segments.{occupied_iff, ahead_iff, ahead_next}
use Rattle.trains.proofs.Safety.{TrainOk, under_is, next_is}
use Rattle.area.specs.Sound.{sound}
use Rattle.area.proofs.Soundness.{sound_iff}
use Rattle.separation.specs.Runs.{History}

-- T are the tables, A the allocations, X the trains
pub record Kept (T : Tables) (A : List ℕ) (X : List Train) (due : ℕ) (h : History) : Type 0 where
  pub due_ok : due ≤ position_due
  pub segments : length A ≡ 62
  pub numbers : length X ≡ 24
  pub offs : (t : ℕ) → h.on t ≡ false → train_at X t ≡ off
  pub journeys : (t : ℕ) → h.on t ≡ true → journey_of (train_at X t) ≡ h.journey t
  pub ons : (t : ℕ) → h.on t ≡ true → TrainOk T due (at A) t (train_at X t) (h.way t) (h.granted t)
  pub holders : (s : ℕ) → 1 ≤ at A s → h.on (at A s) ≡ true

module _ (T : Tables) (A : List ℕ) (X : List Train) (due : ℕ) (h : History) (k : Kept T A X due h) where
  pub route_some : (t : ℕ) → h.on t ≡ true → 1 ≤ (train_at X t).route
  route_some t o = (k.ons t o).on_route.route_low

  -- route and length are those of the list
  pub routes : (t : ℕ) → h.on t ≡ true → (train_at X t).route ≡ (h.journey t).route
  routes t o = ap (λ (j : Journey). j.route) (k.journeys t o)

  pub lengths : (t : ℕ) → h.on t ≡ true → (train_at X t).length ≡ (h.journey t).length
  lengths t o = ap (λ (j : Journey). j.length) (k.journeys t o)

  -- the record's trains on are those of the list
  pub on_same : (t : ℕ) → is_on (train_at X t) ≡ h.on t
  on_same t =
      by_test (h.on t) (λ o. lt-ltb 0 (train_at X t).route (route_some t o) ∙ sym o)
      (λ o. ap is_on (k.offs t o) ∙ sym o)

  -- it is on where its route is one, and off where it is none
  on_by_route : (t : ℕ) → 1 ≤ (train_at X t).route → h.on t ≡ true
  on_by_route t some = sym (on_same t) ∙ lt-ltb 0 (train_at X t).route some

  off_by_route : (t : ℕ) → (train_at X t).route ≡ 0 → train_at X t ≡ off
  off_by_route t none = by_test (h.on t) (λ o. absurd (omega (arith, route_some t o))) (λ o. k.offs t o)

  sound_train : (t : ℕ) → h.on t ≡ true → SoundTrain T A due t (train_at X t)
  sound_train t o =
      let ok = k.ons t o in
      record {
        route = ok.on_route.route_high;
        place = (ok.on_route.place_low, ok.on_route.place_high);
        position = ok.inside;
        speed = ok.slow;
        length = ok.long;
        under = λ s u. ok.holds s ((occupied_iff T (train_at X t) ok.inside s).1 u);
        stops = ok.stops;
        next = ok.next_slow;
        asks = ok.asks_well;
      }

  module _ (M : Meets T) where
    sound_allocation : (s : ℕ) → 1 ≤ at A s → SoundAllocation T X s (at A s)
    sound_allocation s some =
        let K = consistent T M in
        let t = at A s in
        let x = train_at X t in
        let ok = k.ons t (k.holders s some) in
        record {
          segment =
              cases (ok.only s refl)
              (λ e. (under_is T K x ok.on_route e).to)
              (λ e. let n = ahead_next T x e.0 in rw n.1 at (next_is T K x ok.on_route (omega (arith, n.0, n.1))).segment.to);
          on = ok.on_route.route_low;
          whose =
              cases (ok.only s refl) (λ e. inl ((occupied_iff T x ok.inside s).0 e)) (λ e. inr ((ahead_iff T x s (ahead_next T x e.0).0).0 e.0));
        }

    pub kept_sound : sound (record { tables = T; allocations = A; trains = X; due = due }) ≡ true
    kept_sound =
        (sound_iff (record { tables = T; allocations = A; trains = X; due = due }) k.numbers).1
        (record {
          tables = M;
          due = k.due_ok;
          offs = λ t low high z. off_by_route t z;
          ons = λ t low high o. sound_train t (on_by_route t o);
          allocations = λ s low high. cases (eq_or_ne (at A s) 0) (λ z. inl z) (λ n. inr (sound_allocation s (omega arith)));
        })
