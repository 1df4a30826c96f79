-- A test that holds for one of the numbers 1 to n.
use Prim.Native.Nat.{ℕ, ◌+◌, ◌≤◌}
use mathlib.Core.Path.{◌≡◌}
use mathlib.Core.Logic.{inl, inr}
use mathlib.Core.Bool.{Bool, true, false, ◌||◌}
use native.Mathlib.Omega.{arith}
use borrow.Author.Tests.{ltb-true, lt-ltb}
use Rattle.lists.specs.Words.{least, some}
use Rattle.lists.proofs.Cases.{by_test, not_both, cases, eq_or_ne, is_false, either, either_yes}
use Rattle.lists.proofs.Loops.{least_le, least_holds, least_upto}

module _ (p : ℕ → Bool) where
  pub record Found (n : ℕ) : Type 0 where
    pub number : ℕ
    pub low : 1 ≤ number
    pub high : number ≤ n
    pub holds : p number ≡ true

  pub some_found : (n : ℕ) → some n p ≡ true → Found n
  some_found n e =
      let one = ltb-true 0 (least n p) e in
      record { number = least n p; low = one; high = least_le p n; holds = least_holds p n one }

  pub found_some : (n k : ℕ) → 1 ≤ k → k ≤ n → p k ≡ true → some n p ≡ true
  found_some n k low high e = lt-ltb 0 (least n p) (least_upto p n k low high e).0

  pub none_some : (n : ℕ) → ((k : ℕ) → 1 ≤ k → k ≤ n → p k ≡ false) → some n p ≡ false
  none_some n f = is_false (some n p) (λ e. let i = some_found n e in not_both (p i.number) i.holds (f i.number i.low i.high))

  -- one number more
  pub some_next : (i : ℕ) → some (i + 1) p ≡ (some i p || p (i + 1))
  some_next i =
      by_test (some (i + 1) p)
      (λ e.
      let f = some_found (i + 1) e in
      rw e
      (rw (either_yes (some i p) (p (i + 1))
      (cases (eq_or_ne f.number (i + 1)) (λ q. inr (rw q at f.holds)) (λ q. inl (found_some i f.number f.low (omega (arith, f.high)) f.holds))))))
      (λ e.
      rw (
        e,
        is_false (some i p || p (i + 1))
            (λ q.
            cases (either (some i p) (p (i + 1)) q)
            (λ r. let f = some_found i r in not_both (some (i + 1) p) (found_some (i + 1) f.number f.low (omega (arith, f.high)) f.holds) e)
            (λ r. not_both (some (i + 1) p) (found_some (i + 1) (i + 1) (omega arith) (omega arith) r) e)),
      ))
