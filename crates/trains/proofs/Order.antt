-- The order of the trains is total, and the foremost of those that pass a test is what its name says.
use Rattle.std.specs.Prelude.{if◌then◌else◌}
use Prim.Native.Nat.{ℕ, zero, suc, ◌+◌, ◌≤◌, ◌<◌}
use mathlib.Core.Path.{◌≡◌, refl}
use mathlib.Core.Logic.{◌⊎◌, inl, inr, ◌↔◌}
use mathlib.Core.Bool.{Bool, true, false, ◌&&◌, ◌||◌}
use native.Mathlib.Omega.{arith}
use native.Mathlib.Numerals.{add-one}
use lib.Dec.{ltb, eqb}
use borrow.Author.Tests.{ltb-true, lt-ltb, eqb-true, eq-eqb}
use Rattle.lists.proofs.Cases.{by_test, cases, lt_or_le, eq_or_ne, not_both, is_false, and_iff, either, either_yes}
use Rattle.trains.specs.Order.{goes_before, foremost}

module _ (count : ℕ → ℕ) where
  -- THE CLAIM: a train goes before another exactly where it counts more, or as much and has the higher number
  pub before_iff : (t u : ℕ) → (goes_before count t u ≡ true) ↔ ((count u < count t) ⊎ ((count t ≡ count u) × (u < t)))
  unfolding goes_before
  before_iff t u = (
    λ e.
        cases (either (ltb (count u) (count t)) (eqb (count t) (count u) && ltb u t) e) (λ q. inl (ltb-true (count u) (count t) q))
        (λ q.
        let f = (and_iff (eqb (count t) (count u)) (ltb u t)).0 q in
        inr (eqb-true (count t) (count u) f.0, ltb-true u t f.1)),
    λ h.
        either_yes (ltb (count u) (count t)) (eqb (count t) (count u) && ltb u t)
        (cases h (λ q. inl (lt-ltb (count u) (count t) q))
        (λ q. inr ((and_iff (eqb (count t) (count u)) (ltb u t)).1 (eq-eqb (count t) (count u) q.0, lt-ltb u t q.1)))),
  )

  -- THE CLAIM: it is a total order: no train goes before itself; where one goes before a second and that before a third, so does the
  -- one before the third; and of two trains one goes before the other
  pub before_self : (t : ℕ) → goes_before count t t ≡ false
  before_self t =
      is_false (goes_before count t t) (λ e. cases ((before_iff t t).0 e) (λ q. omega arith) (λ q. omega (arith, q.1)))

  pub before_through : (t u w : ℕ) → goes_before count t u ≡ true → goes_before count u w ≡ true → goes_before count t w ≡ true
  before_through t u w e f =
      (before_iff t w).1
      (cases ((before_iff t u).0 e)
      (λ q. cases ((before_iff u w).0 f) (λ r. inl (omega arith)) (λ r. inl (omega (arith, r.0))))
      (λ q. cases ((before_iff u w).0 f) (λ r. inl (omega (arith, q.0))) (λ r. inr (omega (arith, q.0, r.0), omega (arith, q.1, r.1)))))

  pub before_one : (t u : ℕ) → (t ≡ u → ⊥) → (goes_before count t u ≡ true) ⊎ (goes_before count u t ≡ true)
  before_one t u n =
      cases (lt_or_le (count u) (count t)) (λ h. inl ((before_iff t u).1 (inl h)))
      (λ h.
      cases (lt_or_le (count t) (count u)) (λ g. inr ((before_iff u t).1 (inl g)))
      (λ g.
      let same : count t ≡ count u = omega arith in
      cases (lt_or_le u t) (λ l. inl ((before_iff t u).1 (inr (same, l))))
      (λ l. inr ((before_iff u t).1 (inr (omega arith, omega arith))))))

-- ---- the foremost, whatever the order is
module _ (before : ℕ → ℕ → Bool) (p : ℕ → Bool) where
  -- train i + 1 passes the test, and goes before the foremost of those up to i
  abbrev overtakes : ℕ → Bool
  overtakes i = p (i + 1) && (eqb (foremost before i p) 0 || before (i + 1) (foremost before i p))

  pub foremost_next : (i : ℕ) → foremost before (i + 1) p ≡ (if overtakes i then i + 1 else foremost before i p)
  unfolding foremost
  foremost_next i = rw add-one

  pub foremost_le : (n : ℕ) → foremost before n p ≤ n
  unfolding foremost
  foremost_le zero = omega arith
  foremost_le (suc n) =
      let m = foremost before n p in
      by_test (p (suc n) && (eqb m 0 || before (suc n) m)) (λ e. rw e (omega arith)) (λ e. rw e (omega (arith, foremost_le n)))

  pub foremost_holds : (n : ℕ) → 1 ≤ foremost before n p → p (foremost before n p) ≡ true
  unfolding foremost
  foremost_holds zero h = absurd (omega arith)
  foremost_holds (suc n) h =
      let m = foremost before n p in
      by_test (p (suc n) && (eqb m 0 || before (suc n) m)) (λ e. rw e ((and_iff (p (suc n)) _).0 e).0)
      (λ e. let g : 1 ≤ m = rw e at h in rw e (foremost_holds n g))

-- THE CLAIM: of those that pass the test none goes before the foremost, and there is a foremost where one passes
module _
    (before : ℕ → ℕ → Bool)
    (self : (t : ℕ) → before t t ≡ false)
    (through : (t u w : ℕ) → before t u ≡ true → before u w ≡ true → before t w ≡ true)
    (p : ℕ → Bool)
  where
    pub foremost_first : (n k : ℕ) → 1 ≤ k → k ≤ n → p k ≡ true → (1 ≤ foremost before n p) × (before k (foremost before n p) ≡ false)
    unfolding foremost
    foremost_first zero k low high e = absurd (omega arith)
    foremost_first (suc n) k low high e =
        let m = foremost before n p in
        by_test (p (suc n) && (eqb m 0 || before (suc n) m))
        (λ c.
        let r = ((and_iff (p (suc n)) (eqb m 0 || before (suc n) m)).0 c).1 in
        rw c (
          omega arith,
          cases (eq_or_ne k (suc n)) (λ q. rw q (self (suc n)))
              (λ q.
              let rest = foremost_first n k low (omega arith) e in
              is_false (before k (suc n))
              (λ z.
              cases (either (eqb m 0) (before (suc n) m) r) (λ y. omega (arith, eqb-true m 0 y, rest.0))
              (λ y. not_both (before k m) (through k (suc n) m z y) rest.1))),
        ))
        (λ c.
        rw c
        (cases (eq_or_ne k (suc n))
        (λ q.
        let here : p (suc n) ≡ true = rw q at e in
        let r : (eqb m 0 || before (suc n) m) ≡ false = rw here at c in
        let not_so : ((eqb m 0 ≡ true) ⊎ (before (suc n) m ≡ true)) → ⊥ = λ z. not_both (eqb m 0 || before (suc n) m) (either_yes (eqb m 0) (before (suc n) m) z) r in
        let some : m ≡ 0 → ⊥ = λ z. not_so (inl (eq-eqb m 0 z)) in
        (omega (arith, some), rw q (is_false (before (suc n) m) (λ z. not_so (inr z)))))
        (λ q. foremost_first n k low (omega arith) e)))

-- orders and tests that agree have the same foremost
pub foremost_same :
    (n : ℕ) (b c : ℕ → ℕ → Bool) (p q : ℕ → Bool) → ((t u : ℕ) → b t u ≡ c t u) → ((k : ℕ) → 1 ≤ k → k ≤ n → p k ≡ q k)
    → foremost b n p ≡ foremost c n q
unfolding foremost
foremost_same zero b c p q same agree = refl
foremost_same (suc n) b c p q same agree =
    rw (foremost_same n b c p q same (λ k low high. agree k low (omega arith)), agree (suc n) (omega arith) (omega arith), same (suc n) (foremost c n q))

pub before_same : (count other : ℕ → ℕ) → ((t : ℕ) → count t ≡ other t) → (t u : ℕ) → goes_before count t u ≡ goes_before other t u
unfolding goes_before
before_same count other same t u = rw (same t, same u)
