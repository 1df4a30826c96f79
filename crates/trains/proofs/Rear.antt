-- Where a train's rear is. Lengths summed back from the front, as the record has it, and lengths summed from the route's start, as the
-- way has it, say the same.
use Prim.Native.Nat.{ℕ, zero, suc, ◌+◌, ◌-◌, ◌≤◌, ◌<◌}
use mathlib.Core.Path.{◌≡◌, refl}
use mathlib.Core.Logic.{◌↔◌}
use mathlib.Core.List.{List}
use native.Mathlib.Omega.{arith}
use lib.Dec.{eqb}
use borrow.Author.Tests.{eqb-true, eqb-false, ne_eqb}
use Rattle.lists.specs.Words.{at}
use Rattle.lists.proofs.Cases.{by_test, cases, lt_or_le, eq_or_ne}
use Rattle.tables.specs.declared.Tables.{Tables}
use Rattle.tables.specs.Tables.{segment_at}
use Rattle.trains.specs.declared.Train.{Train}
use Rattle.trains.specs.Train.{own_in, own_length, rear_from, rear_in, rear_of}
use Rattle.trains.specs.Way.{start_after}

module _ (T : Tables) (r : ℕ) where
  abbrev length_at : ℕ → ℕ
  length_at p = at T.lengths (segment_at T.routebytes r p)

  -- the next segment starts where this one ends
  pub start_step : (p : ℕ) → 1 ≤ p → start_after T r p ≡ start_after T r (p - 1) + length_at p
  unfolding start_after
  start_step zero h = absurd (omega arith)
  start_step (suc n) h = let e : suc n - 1 ≡ n = omega arith in rw e

  -- the starts rise
  pub start_mono : (m n : ℕ) → m ≤ n → start_after T r m ≤ start_after T r n
  unfolding start_after
  start_mono m zero h = let e : m ≡ 0 = omega arith in rw e (omega arith)
  start_mono m (suc n) h = cases (eq_or_ne m (suc n)) (λ e. rw e (omega arith)) (λ e. let l = start_mono m n (omega arith) in omega arith)

  abbrev rear : (q back : ℕ) → ℕ
  rear q back = rear_from T.routebytes T.lengths r q back

  pub rear_low : (q back : ℕ) → 1 ≤ rear q back
  unfolding rear_from
  rear_low zero back = omega arith
  rear_low (suc q) back = by_test (eqb back 0) (λ e. rw e (omega arith)) (λ e. rw e (rear_low q (back - length_at q)))

  -- it is no further on than the place that the sum starts from
  pub rear_high : (q back p : ℕ) → 1 ≤ p → q ≤ p → rear q back ≤ p
  unfolding rear_from
  rear_high zero back p low high = low
  rear_high (suc q) back p low high =
      by_test (eqb back 0) (λ e. rw e high) (λ e. rw e (rear_high q (back - length_at q) p low (omega arith)))

  -- a place before that is the rear's or after it exactly where the train reaches back beyond its end
  rear_reaches : (q back p : ℕ) → 1 ≤ p → p < q → rear q back ≤ p → start_after T r (q - 1) < start_after T r p + back
  unfolding rear_from
  rear_reaches zero back p low below h = absurd (omega arith)
  rear_reaches (suc q) back p low below h =
      let e : suc q - 1 ≡ q = omega arith in
      rw e
      (by_test (eqb back 0) (λ z. let g = rw z at h in absurd (omega arith))
      (λ z.
      let some = eqb-false back 0 z in
      let g = rw z at h in
      cases (eq_or_ne p q) (λ s. rw s (omega arith))
      (λ s.
      omega (arith, rear_reaches q (back - length_at q) p low (omega arith) g, start_step q (omega arith), start_mono p (q - 1) (omega arith)))))

  reaches_rear :
      (q back p : ℕ) → 1 ≤ p → p ≤ q → (p < q → start_after T r (q - 1) < start_after T r p + back) → rear q back ≤ p
  unfolding rear_from
  reaches_rear zero back p low high h = absurd (omega arith)
  reaches_rear (suc q) back p low high h =
      let e : suc q - 1 ≡ q = omega arith in
      let f : p < suc q → start_after T r q < start_after T r p + back = rw e at h in
      by_test (eqb back 0)
      (λ z.
      rw z
      (cases (lt_or_le p (suc q)) (λ l. absurd (omega (arith, f l, start_mono p q (omega arith), eqb-true back 0 z))) (λ l. l)))
      (λ z.
      rw z
      (cases (lt_or_le p (suc q))
      (λ l.
      reaches_rear q (back - length_at q) p low (omega arith)
      (λ k. omega (arith, f l, start_step q (omega arith), start_mono p (q - 1) (omega arith))))
      (λ l. rear_high q (back - length_at q) p low (omega arith))))

-- how the walk back along a route goes on, and where it ends
module _ (routebytes lengths : List ℕ) (r : ℕ) where
  pub rear_more :
      (p back : ℕ) → 1 ≤ p → (back ≡ 0 → ⊥)
      → rear_from routebytes lengths r p back ≡ rear_from routebytes lengths r (p - 1) (back - at lengths (segment_at routebytes r (p - 1)))
  unfolding rear_from
  rear_more zero back low some = absurd (omega arith)
  rear_more (suc p) back low some = let e : suc p - 1 ≡ p = omega arith in rw (e, ne_eqb back 0 some)

  pub rear_first : (p back : ℕ) → p ≤ 1 → rear_from routebytes lengths r p back ≡ 1
  unfolding rear_from
  rear_first zero back high = refl
  rear_first (suc p) back high = let e : p ≡ 0 = omega arith in rw e (by_test (eqb back 0) (λ z. rw z) (λ z. rw z))

  pub rear_here : (p back : ℕ) → 1 ≤ p → back ≡ 0 → rear_from routebytes lengths r p back ≡ p
  unfolding rear_from
  rear_here zero back low none = absurd (omega arith)
  rear_here (suc p) back low none = rw none

-- THE CLAIM: a place of the route up to the front's is the rear's or after it exactly where the way is less than the segment's end and the
-- train's length together, which is to say that the rear is neither at the segment's end nor past it
pub rear_iff :
    (T : Tables) (x : Train) → x.position < own_length T x → (p : ℕ) → 1 ≤ p → p ≤ x.place
    → (rear_of T x ≤ p) ↔ (start_after T x.route (x.place - 1) + x.position < start_after T x.route p + x.length)
unfolding rear_in own_in
rear_iff T x inside p low high =
    let r = x.route in
    let up = start_mono T r p x.place high in
    let end = start_step T r x.place (omega arith) in (
      λ h.
          cases (lt_or_le p x.place)
          (λ l. omega (arith, rear_reaches T r x.place (x.length - x.position) p low l h, start_mono T r p (x.place - 1) (omega arith)))
          (λ l. let e : p ≡ x.place = omega arith in rw e (omega (arith, end, inside))),
      λ h.
          reaches_rear T r x.place (x.length - x.position) p low high
          (λ l. omega (arith, h, start_mono T r p (x.place - 1) (omega arith))),
    )

-- there is such a place
pub rear_low_of : (T : Tables) (x : Train) → 1 ≤ rear_of T x
unfolding rear_in
rear_low_of T x = rear_low T x.route x.place (x.length - x.position)
