-- What speed, request and position make of each train by the list of where the trains stand, they make of each by tables and allocations;
-- and what position frees by the place of each rear is what the definition frees.
use Rattle.std.specs.Prelude.{if◌then◌else◌}
use Prim.Native.Nat.{ℕ, ◌≤◌}
use mathlib.Core.Path.{◌≡◌, refl, ap, ◌∙◌}
use mathlib.Core.Bool.{true, false, not}
use mathlib.Core.List.{List}
use native.Mathlib.Omega.{arith}
use lib.Dec.{eqb}
use lib.ListN.{length}
use borrow.Author.Tests.{ne_eqb, lt-ltb}
use Rattle.lists.specs.Words.{at, each, least}
use Rattle.lists.proofs.Cases.{by_test, cases, lt_or_le}
use Rattle.lists.proofs.Numbered.{nth_zero, nth_out, nth_each_in, length_each, each_same, made_beside}
use Rattle.tables.specs.Tables.{segment_at}
use Rattle.tables.specs.Facts.{Consistent}
use Rattle.tables.specs.declared.Tables.{Tables}
use Rattle.trains.specs.declared.Train.{Train}
use Rattle.trains.specs.declared.Spot.{Spot}
use Rattle.trains.specs.Train.{most_trains, off, with_speed, with_asking, train_at, is_on, rear_of, occupied_in}
use Rattle.trains.specs.Cycle.{new_speed, sped_at, sped, wants, requested_at, requested, moves_in, moved_in, moved, released, freed}
use Rattle.trains.proofs.Freed.{Movable, is_moved, left_is}
use Rattle.standing.specs.Spots.{no_spot, stands_of, spots_of, spot_at}
use Rattle.standing.proofs.Laws.{stands_same, spot_at_lem}
use Rattle.steps.specs.Left.{left_in}

-- a train off does not move, whatever the length
off_stays : (l m : ℕ) (x : Train) → is_on x ≡ false → moved_in l x ≡ moved_in m x
unfolding moves_in moved_in
off_stays l m x e = rw e

module _ (T : Tables) (A : List ℕ) (trains : List Train) {spots : List Spot} {new : List Train} (e : spots ≡ spots_of T A trains) where
  pub sped_beside :
      (wishes : List ℕ) → new ≡ each (λ (t : ℕ) (x : Train). sped_at T.braking (spot_at spots t) (at wishes t) x) trains
      → new ≡ each (sped T A wishes) trains
  unfolding sped
  sped_beside wishes h =
      made_beside no_spot (stands_of T (at A)) (λ (t : ℕ) (p : Spot). sped_at T.braking p (at wishes t)) trains e h
      ∙ each_same _ _ trains (λ t x low high. stands_same T (at A) t x (λ (p : Spot). with_speed x (new_speed T.braking p x (at wishes t))) x)

  pub requested_beside :
      new ≡ each (λ (t : ℕ) (x : Train). requested_at (spot_at spots t) x) trains → new ≡ each (requested T A) trains
  unfolding requested
  requested_beside h =
      made_beside no_spot (stands_of T (at A)) (λ (t : ℕ). requested_at) trains e h
      ∙ each_same _ _ trains (λ t x low high. stands_same T (at A) t x (λ (p : Spot). with_asking x (wants p)) x)

  pub moved_beside :
      new ≡ each (λ (t : ℕ) (x : Train). moved_in (spot_at spots t).length x) trains → new ≡ each (λ (t : ℕ). moved T) trains
  moved_beside h =
      made_beside no_spot (stands_of T (at A)) (λ (t : ℕ) (p : Spot). moved_in p.length) trains e h
      ∙ each_same _ _ trains
      (λ t x low high.
      by_test (is_on x) (λ o. rw o) (λ o. rw o (off_stays 0 _ x o)))

-- ---- what is freed
-- a train off has nothing under it
off_frees_none : (T : Tables) (s : ℕ) → released T off s ≡ false
unfolding released occupied_in least
off_frees_none T s = refl

-- and its rear leaves none
off_leaves : (T : Tables) (rear s : ℕ) → 1 ≤ s → eqb (left_in T.routebytes T.lengths rear (moved T off)) s ≡ false
unfolding left_in moves_in moved_in
off_leaves T rear s some = ne_eqb 0 s (λ q. omega arith)

module _ (T : Tables) (K : Consistent T) (x : Train) (v : Movable T x) where
  -- a train on: by the place of its rear before the step and by the train after it
  left_released : (s : ℕ) → 1 ≤ s → eqb (left_in T.routebytes T.lengths (rear_of T x) (moved T x)) s ≡ released T x s
  unfolding left_in
  left_released s some =
      let m = is_moved T K x v in
      let on : is_on (moved T x) ≡ true = lt-ltb 0 (moved T x).route (omega (arith, v.on_route.route_low, m.route)) in
      rw on
      (ap (λ (r : ℕ). eqb (if not (eqb (rear_of T (moved T x)) (rear_of T x)) then segment_at T.routebytes r (rear_of T x) else 0) s) m.route
      ∙ left_is T K x v s some)

module _
    (T : Tables) (K : Consistent T) (A : List ℕ) (trains : List Train) {spots : List Spot} {after : List Train} (long : length trains ≡ most_trains)
    (e : spots ≡ spots_of T A trains) (f : after ≡ each (λ (t : ℕ). moved T) trains)
    (ons : (t : ℕ) → 1 ≤ t → t ≤ most_trains → 1 ≤ (train_at trains t).route → Movable T (train_at trains t))
    (offs : (t : ℕ) → 1 ≤ t → t ≤ most_trains → (train_at trains t).route ≡ 0 → train_at trains t ≡ off) where
  abbrev lefts : List ℕ
  lefts = each (λ (t : ℕ) (x : Train). left_in T.routebytes T.lengths (spot_at spots t).rear x) after

  -- what the train of a number leaves
  left_at : (t : ℕ) → 1 ≤ t → t ≤ most_trains → at lefts t ≡ left_in T.routebytes T.lengths (stands_of T (at A) t (train_at trains t)).rear (moved T (train_at trains t))
  left_at t low high =
      let size : length after ≡ most_trains = ap length f ∙ (length_each _ trains ∙ long) in
      let train : train_at after t ≡ moved T (train_at trains t) =
      ap (λ (l : List Train). train_at l t) f ∙ nth_each_in off off (λ (k : ℕ). moved T) trains t low (omega arith) in
      nth_each_in off 0 (λ (k : ℕ) (x : Train). left_in T.routebytes T.lengths (spot_at spots k).rear x) after t low (omega arith)
      ∙ rw (spot_at_lem T A trains long e t low high, train)

  -- the train that holds a segment frees it where it is the one that its rear leaves
  freed_at : (s h : ℕ) → 1 ≤ s → eqb (at lefts h) s ≡ released T (train_at trains h) s
  unfolding left_in
  freed_at s h some =
      cases (lt_or_le h 1)
      (λ z.
      rw (nth_zero 0 lefts h (omega arith), nth_zero off trains h (omega arith), off_frees_none T s) (ne_eqb 0 s (λ q. omega arith)))
      (λ low.
      cases (lt_or_le most_trains h)
      (λ out.
      let size : length lefts ≡ most_trains = length_each _ after ∙ (ap length f ∙ (length_each _ trains ∙ long)) in
      rw (nth_out 0 lefts h (omega arith), nth_out off trains h (omega arith), off_frees_none T s) (ne_eqb 0 s (λ q. omega arith)))
      (λ high.
      cases (lt_or_le 0 (train_at trains h).route)
      (λ on.
      let x = train_at trains h in
      let o : is_on x ≡ true = lt-ltb 0 x.route on in
      rw (left_at h low high, o) (left_released T K x (ons h low high on) s some))
      (λ none.
      let x : train_at trains h ≡ off = offs h low high (omega arith) in
      rw (left_at h low high, x, off_frees_none T s) (off_leaves T _ s some))))

  pub freed_beside : each (λ (s h : ℕ). if eqb (at lefts h) s then 0 else h) A ≡ each (freed T trains) A
  unfolding freed
  freed_beside = each_same _ _ A (λ s h low high. rw (freed_at s h low))
