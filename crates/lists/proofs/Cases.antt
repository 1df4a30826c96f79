-- Laws of tests: a split that keeps the test's equation, and the parts of a conjunction and of a disjunction.
use Rattle.std.specs.Prelude.{if◌then◌else◌}
use Prim.Native.Nat.{ℕ, zero, suc, ◌≤◌, ◌<◌}
use mathlib.Core.Path.{◌≡◌, refl, sym, ◌∙◌}
use mathlib.Core.Logic.{◌⊎◌, inl, inr, ◌↔◌}
use mathlib.Core.Bool.{Bool, true, false, not, ◌&&◌, ◌||◌, and-eq-true_iff}
use native.Mathlib.Omega.{arith}
use lib.Dec.{leb, ltb, eqb}
use borrow.Author.Tests.{ltb-true, ltb-false, leb-true, leb-false, eqb-true, eqb-false, le-leb, lt-leb, eq-eqb, ne_eqb, not-true, not-false}
use Rattle.lists.specs.Words.{◌or_else◌}

-- a fact of a choice, from the two cases with the test's equation
pub if_case : {A : Type 0} {a b : A} (P : A → Type 0) (t : Bool) → (t ≡ true → P a) → (t ≡ false → P b) → P (if t then a else b)
if_case P true f g = f refl
if_case P false f g = g refl

-- a split on a test, with its equation
pub by_test : {P : Type 0} (t : Bool) → (t ≡ true → P) → (t ≡ false → P) → P
by_test true f g = f refl
by_test false f g = g refl

-- a split on a sum; the sum stands first, so that the cases' types are known when they are read
pub cases : {A B P : Type 0} → A ⊎ B → (A → P) → (B → P) → P
cases (inl a) f g = f a
cases (inr b) f g = g b

pub lt_or_le : (a b : ℕ) → (a < b) ⊎ (b ≤ a)
lt_or_le a b = by_test (ltb a b) (λ e. inl (ltb-true a b e)) (λ e. inr (ltb-false a b e))

pub eq_or_ne : (a b : ℕ) → (a ≡ b) ⊎ (a ≡ b → ⊥)
eq_or_ne a b = by_test (eqb a b) (λ e. inl (eqb-true a b e)) (λ e. inr (eqb-false a b e))

-- no test is true and false
pub not_both : {P : Type 0} (t : Bool) → t ≡ true → t ≡ false → P
not_both t p q = let z : ◌≡◌ {A = ℕ} 0 1 = cc in absurd (omega arith)

-- a test that cannot be true is false
pub is_false : (t : Bool) → (t ≡ true → ⊥) → t ≡ false
is_false true h = absurd (h refl)
is_false false h = refl

-- what `if !r` tells of a test, where r is what the code found of it
module _ {r t : Bool} (found : r ≡ t) where
  pub test_fails : not r ≡ true → t ≡ false
  test_fails e = sym found ∙ not-true r e

  pub test_holds : not r ≡ false → t ≡ true
  test_holds e = sym found ∙ not-false r e

-- `simp facts at h` takes a conjunction of tests that is true apart into facts of numbers
pub and_iff : (a b : Bool) → ((a && b) ≡ true) ↔ ((a ≡ true) × (b ≡ true))
and_iff a b = and-eq-true_iff a b

pub leb_iff : (a b : ℕ) → (leb a b ≡ true) ↔ (a ≤ b)
leb_iff a b = (leb-true a b, le-leb a b)

pub eqb_iff : (a b : ℕ) → (eqb a b ≡ true) ↔ (a ≡ b)
eqb_iff a b = (eqb-true a b, eq-eqb a b)

pub not_iff : (a : Bool) → (not a ≡ true) ↔ (a ≡ false)
not_iff true = (λ e. sym e, λ e. sym e)
not_iff false = (λ e. refl, λ e. refl)

pub leb_false_iff : (a b : ℕ) → (leb a b ≡ false) ↔ (b < a)
leb_false_iff a b = (leb-false a b, lt-leb a b)

pub ruleset facts = (and_iff, leb_iff, eqb_iff, not_iff, leb_false_iff)

-- one of two tests holds
pub either : (a b : Bool) → (a || b) ≡ true → (a ≡ true) ⊎ (b ≡ true)
either true b e = inl refl
either false b e = inr e

pub either_yes : (a b : Bool) → (a ≡ true) ⊎ (b ≡ true) → (a || b) ≡ true
either_yes true b w = refl
either_yes false b (inl e) = not_both false e refl
either_yes false b (inr e) = e

-- a, or b where a is 0
pub or_first : (a b : ℕ) → (a ≡ 0 → ⊥) → a ≡ a or_else b
or_first zero b h = absurd (h refl)
or_first (suc a) b h = refl

pub or_second : (a b : ℕ) → a ≡ 0 → b ≡ a or_else b
or_second a b e = rw e

pub or_if : (a b : ℕ) → a or_else b ≡ (if eqb a 0 then b else a)
or_if a b = cases (eq_or_ne a 0) (λ e. rw (eq-eqb a 0 e) (sym (or_second a b e))) (λ n. rw (ne_eqb a 0 n) (sym (or_first a b n)))
