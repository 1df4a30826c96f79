-- The tests of a sound record's trains and allocations decide the facts that they stand for.
use Prim.Native.Nat.{ℕ, ◌+◌, ◌≤◌, ◌<◌}
use mathlib.Core.Path.{◌≡◌, refl}
use mathlib.Core.Logic.{inl, inr, ◌↔◌}
use mathlib.Core.Bool.{true, false, ◌&&◌, ◌||◌}
use mathlib.Core.List.{List}
use native.Mathlib.Omega.{arith}
use lib.Dec.{leb, ltb, eqb}
use borrow.Author.Tests.{leb-true, ltb-true, eqb-true, le-leb, lt-ltb, eq-eqb, ne_eqb}
use Rattle.lists.specs.Words.{at}
use Rattle.lists.proofs.Cases.{by_test, cases, lt_or_le, eq_or_ne, not_both, and_iff, facts, either, either_yes}
use Rattle.tables.specs.declared.Tables.{Tables}
use Rattle.tables.specs.Tables.{count_of, braking_distance}
use Rattle.trains.specs.declared.Train.{Train}
use Rattle.trains.specs.declared.Spot.{Spot}
use Rattle.trains.specs.Due.{speed_due, grant_due}
use Rattle.trains.specs.Train.{longest_train, off, asking, train_at, is_on, own_length, own_limit, occupied, ahead}
use Rattle.trains.specs.Spot.{spot_of}
use Rattle.trains.specs.Cycle.{wants}
use Rattle.trains.specs.Sound.{off_sound, place_sound, to_run, braking_sound, asking_sound, stands_sound, train_sound, allocation_sound}
use Rattle.trains.specs.SoundFacts.{SoundTrain, SoundAllocation}
use Rattle.trains.proofs.Segments.{all_held_iff, occupied_iff, ahead_iff}

module _ (S : ℕ → ℕ) (due : ℕ) (p : Spot) (x : Train) where
  pub asking_iff : (asking_sound due p x ≡ true) ↔ (x.asks ≡ asking (eqb due grant_due && wants p))
  unfolding asking_sound
  asking_iff = (eqb-true x.asks _, eq-eqb x.asks _)

  -- with next allocated to it
  held_iff :
      ((eqb due speed_due || ltb (x.position + x.speed) p.length || leb x.speed p.nextlimit) ≡ true)
      ↔ (speed_due < due → p.length ≤ x.position + x.speed → x.speed ≤ p.nextlimit)
  held_iff = (
    λ e d past.
        cases (either (eqb due speed_due || ltb (x.position + x.speed) p.length) (leb x.speed p.nextlimit) e)
        (λ q.
        cases (either (eqb due speed_due) (ltb (x.position + x.speed) p.length) q) (λ r. absurd (omega (arith, eqb-true due speed_due r)))
        (λ r. absurd (omega (arith, ltb-true (x.position + x.speed) p.length r))))
        (λ q. leb-true x.speed p.nextlimit q),
    λ f.
        either_yes (eqb due speed_due || ltb (x.position + x.speed) p.length) (leb x.speed p.nextlimit)
        (cases (lt_or_le (x.position + x.speed) p.length)
        (λ l. inl (either_yes (eqb due speed_due) (ltb (x.position + x.speed) p.length) (inr (lt-ltb (x.position + x.speed) p.length l))))
        (λ past.
        cases (eq_or_ne due speed_due) (λ z. inl (either_yes (eqb due speed_due) (ltb (x.position + x.speed) p.length) (inl (eq-eqb due speed_due z))))
        (λ z. inr (le-leb x.speed p.nextlimit (f (omega arith) past))))),
  )

  pub braking_iff :
      (braking_sound S due p x ≡ true)
      ↔ ((p.holds ≡ false → x.position + to_run S due x.speed < p.length)
      × (p.holds ≡ true → speed_due < due → p.length ≤ x.position + x.speed → x.speed ≤ p.nextlimit))
  unfolding braking_sound
  braking_iff =
      by_test p.holds
      (λ h. rw h (λ e. (λ z. not_both true refl z, λ z. held_iff.0 e), λ f. held_iff.1 (f.1 refl)))
      (λ h. rw h (λ e. (λ z. ltb-true _ _ e, λ z d past. not_both false z refl), λ f. lt-ltb _ _ (f.0 refl)))

-- what the test of a train's place says
pub place_facts :
    (R : ℕ) (p : Spot) (x : Train) → place_sound R p x ≡ true
    → (x.route ≤ R) × (1 ≤ x.place) × (x.place ≤ p.count) × (x.position < p.length) × (x.speed ≤ p.limit) × (p.holdsall ≡ true)
    × ((1 ≤ x.length) × (x.length ≤ longest_train))
unfolding place_sound
place_facts R p x e =
    let f = simp facts at e in (
      f.0.0.0.0.0.0,
      f.0.0.0.0.0.1,
      f.0.0.0.0.1,
      f.0.0.0.1,
      f.0.0.1,
      f.1,
      f.0.1,
    )

off_by :
    (r p i v l q n : ℕ) → r ≡ 0 → p ≡ 0 → i ≡ 0 → v ≡ 0 → l ≡ 0 → q ≡ 0 → n ≡ 0
    → record { route = r; place = p; position = i; speed = v; length = l; asks = q; count = n } ≡ off
off_by r p i v l q n a b c d e f g = rw (a, b, c, d, e, f, g)

module _ (T : Tables) (A : List ℕ) (due t : ℕ) (x : Train) where
  abbrev here : Spot
  here = spot_of T (at A) t x

  facts_place : SoundTrain T A due t x → place_sound T.routes here x ≡ true
  unfolding place_sound
  facts_place f =
      rw (
        le-leb x.route T.routes f.route,
        le-leb 1 x.place f.place.0,
        le-leb x.place (count_of T.routebytes x.route) f.place.1,
        lt-ltb x.position (own_length T x) f.position,
        le-leb x.speed (own_limit T x) f.speed,
        le-leb 1 x.length f.length.0,
        le-leb x.length longest_train f.length.1,
        (all_held_iff T x (at A) t).1 (λ s o. f.under s ((occupied_iff T x f.position s).0 o)),
      )

  -- THE CLAIM: of a train on, the test decides the facts
  pub train_iff : 1 ≤ x.route → (train_sound T A due t x ≡ true) ↔ SoundTrain T A due t x
  unfolding stands_sound
  train_iff on =
      let o : is_on x ≡ true = lt-ltb 0 x.route on in (
        λ e.
            let h : (place_sound T.routes here x && braking_sound (braking_distance T) due here x && asking_sound due here x) ≡ true = rw o at e in
            let f = simp and_iff at h in
            let p = place_facts T.routes here x f.0.0 in
            let b = (braking_iff (braking_distance T) due here x).0 f.0.1 in
            record {
              route = p.0;
              place = (p.1, p.2);
              position = p.3;
              speed = p.4;
              length = p.6;
              under = λ s u. (all_held_iff T x (at A) t).0 p.5 s ((occupied_iff T x p.3 s).1 u);
              stops = b.0;
              next = b.1;
              asks = (asking_iff (braking_distance T) due here x).0 f.1;
            },
        λ f.
            rw (
              o,
              facts_place f,
              (braking_iff (braking_distance T) due here x).1 (f.stops, f.next),
              (asking_iff (braking_distance T) due here x).1 f.asks,
            ),
      )

  -- THE CLAIM: a train off is sound exactly when it is all zero
  pub off_iff : x.route ≡ 0 → (train_sound T A due t x ≡ true) ↔ (x ≡ off)
  unfolding stands_sound
  off_iff z = (
    λ e.
        let h : off_sound x ≡ true = rw z at e in
        let f = simp facts at h in
        off_by x.route x.place x.position x.speed x.length x.asks x.count z (omega (arith, f)) (omega (arith, f))
        (omega (arith, f)) (omega (arith, f)) (omega (arith, f)) (omega (arith, f)),
    λ e. rw e,
  )

-- THE CLAIM: of an allocation that is not 0, to a train that has not come to its segment's end, the test decides the facts
pub allocation_iff :
    (T : Tables) (trains : List Train) (s h : ℕ) → 1 ≤ s → 1 ≤ h
    → (1 ≤ (train_at trains h).route → (train_at trains h).position < own_length T (train_at trains h))
    → (allocation_sound T trains s h ≡ true) ↔ SoundAllocation T trains s h
unfolding allocation_sound
allocation_iff T trains s h low some inside =
    let x = train_at trains h in
    let n : eqb h 0 ≡ false = ne_eqb h 0 (λ z. omega arith) in (
      λ e.
          let g : (leb s T.segments && is_on x && (occupied T x s || ahead T x s)) ≡ true = rw n at e in
          let f = simp and_iff at g in
          record {
            segment = leb-true s T.segments f.0.0;
            on = ltb-true 0 x.route f.0.1;
            whose =
                cases (either (occupied T x s) (ahead T x s) f.1)
                (λ q. inl ((occupied_iff T x (inside (ltb-true 0 x.route f.0.1)) s).0 q))
                (λ q. inr ((ahead_iff T x s low).0 q));
          },
      λ f.
          rw (
            n,
            le-leb s T.segments f.segment,
            lt-ltb 0 x.route f.on,
            either_yes (occupied T x s) (ahead T x s)
                (cases f.whose (λ q. inl ((occupied_iff T x (inside f.on) s).1 q)) (λ q. inr ((ahead_iff T x s low).1 q))),
          ),
    )
