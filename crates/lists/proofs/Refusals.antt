-- Laws of a list of tests: none of which holds, of which the first that holds is known by its number, and taken one at a time as
-- the code takes them.
use Rattle.std.specs.Prelude.{if◌then◌else◌}
use Prim.Native.Nat.{ℕ, ◌≤◌, ◌<◌}
use mathlib.Core.Path.{◌≡◌, refl, sym, ◌∙◌}
use mathlib.Core.Logic.{◌⊎◌}
use mathlib.Core.Bool.{Bool, true, false, not, ◌&&◌, ◌||◌, and-false, and-eq-true_iff}
use mathlib.Core.List.{List, [], ◌∷◌}
use native.Mathlib.Omega.{arith}
use lib.Dec.{leb, ltb, eqb}
use borrow.Author.Tests.{eqb-true, eqb-false, lt-ltb, le-ltb, le-leb, lt-leb, eq-eqb, ne_eqb, not-true, not-false}
use Rattle.lists.specs.Tests.{Test, first_of, condition_of, place_named}
use Rattle.lists.proofs.Cases.{if_case, by_test, cases, lt_or_le, eq_or_ne, not_both, facts}

-- where no test of a list holds, the test of a given number does not: asked for by its number, never by its place in the list
pub passed : (n : ℕ) (ts : List Test) → (first_of ts).holds ≡ false → condition_of n ts ≡ false
passed n [] e = refl
passed n (t ∷ ts) e = go t.holds refl (passed n ts)
  where
    go : (h : Bool) → t.holds ≡ h → ((first_of ts).holds ≡ false → condition_of n ts ≡ false) → (if eqb t.number n then t.holds else condition_of n ts) ≡ false
    go true q rest = let z : true ≡ false = rw q at e in not_both true refl z
    go false q rest = if_case (λ (x : Bool). x ≡ false) (eqb t.number n) (λ b. q) (λ b. rest (rw q at e))

-- no test of a list has number n
abbrev pub absent : ℕ → List Test → Bool
absent n [] = true
absent n (t ∷ ts) = not (eqb t.number n) && absent n ts

-- no two tests of a list have the same number
abbrev pub apart : List Test → Bool
apart [] = true
apart (t ∷ ts) = absent t.number ts && apart ts

first_absent : (n : ℕ) (ts : List Test) → absent n ts ≡ true → (first_of ts).holds ≡ true → eqb (first_of ts).number n ≡ false
first_absent n [] out h = not_both true refl (sym h)
first_absent n (t ∷ ts) out h = go t.holds refl (first_absent n ts)
  where
    both : (not (eqb t.number n) ≡ true) × (absent n ts ≡ true)
    both = (and-eq-true_iff (not (eqb t.number n)) (absent n ts)).0 out

    go :
        (b : Bool) → t.holds ≡ b → (absent n ts ≡ true → (first_of ts).holds ≡ true → eqb (first_of ts).number n ≡ false)
        → eqb (if t.holds then t else first_of ts).number n ≡ false
    go true q rest = rw q (not-true _ both.0)
    go false q rest = rw q (rest both.1 (rw q at h))

-- where numbers tell a list's tests apart, the first test that holds is the one of its number
pub first_named :
    (n : ℕ) (ts : List Test) → apart ts ≡ true → (first_of ts).holds ≡ true → (first_of ts).number ≡ n
    → (condition_of n ts ≡ true) × ((first_of ts).place ≡ place_named n ts)
first_named n [] told h e = not_both true refl (sym h)
first_named n (t ∷ ts) told h e = go t.holds refl (first_named n ts)
  where
    both : (absent t.number ts ≡ true) × (apart ts ≡ true)
    both = (and-eq-true_iff (absent t.number ts) (apart ts)).0 told

    go :
        (b : Bool) → t.holds ≡ b
        → (apart ts ≡ true → (first_of ts).holds ≡ true → (first_of ts).number ≡ n → (condition_of n ts ≡ true) × ((first_of ts).place ≡ place_named n ts))
        → ((if eqb t.number n then t.holds else condition_of n ts) ≡ true)
        × ((if t.holds then t else first_of ts).place ≡ (if eqb t.number n then t.place else place_named n ts))
    go true q rest = let same : t.number ≡ n = rw q at e in rw (q, eq-eqb t.number n same) (refl, refl)
    go false q rest =
        let h' : (first_of ts).holds ≡ true = rw q at h in
        let e' : (first_of ts).number ≡ n = rw q at e in
        let other = eqb-false (first_of ts).number t.number (first_absent t.number ts both.0 h') in
        rw (q, ne_eqb t.number n (λ z. other (e' ∙ sym z))) (rest both.1 h' e')

-- where none holds, number and place are 0
pub first_none : (ts : List Test) → (first_of ts).holds ≡ false → first_of ts ≡ record { holds = false; number = 0; place = 0 }
first_none [] e = refl
first_none (t ∷ ts) e = go t.holds refl (first_none ts)
  where
    go :
        (b : Bool) → t.holds ≡ b → ((first_of ts).holds ≡ false → first_of ts ≡ record { holds = false; number = 0; place = 0 })
        → (if t.holds then t else first_of ts) ≡ record { holds = false; number = 0; place = 0 }
    go true q rest = let z : true ≡ false = rw q at e in not_both true refl z
    go false q rest = rw q (rest (rw q at e))

-- so, where no number is 0, a test holds exactly where the number is not 0
pub first_number : (ts : List Test) → absent 0 ts ≡ true → eqb (first_of ts).number 0 ≡ not (first_of ts).holds
first_number ts out = by_test (first_of ts).holds (λ h. rw h (first_absent 0 ts out h)) (λ h. rw (first_none ts h))

-- a number that is one of 1 to top, and one that is none, as the code tests it
module _ (top r : ℕ) where
  pub outside : (eqb r 0 || ltb top r) ≡ not (leb 1 r && leb r top)
  outside =
      cases (eq_or_ne r 0)
      (λ e. rw e)
      (λ n.
      let one : 1 ≤ r = omega arith in
      cases (lt_or_le top r)
      (λ h. rw (ne_eqb r 0 n, le-leb 1 r one, lt-ltb top r h, lt-leb r top h))
      (λ h. rw (ne_eqb r 0 n, le-leb 1 r one, le-ltb top r h, le-leb r top h)))

  pub within : not (leb 1 r && leb r top) ≡ false → (1 ≤ r) × (r ≤ top)
  within e =
      let h : (leb 1 r && leb r top) ≡ true = not-false _ e in
      let f = simp facts at h in
      omega arith

  pub inside : (eqb r 0 || ltb top r) ≡ false → (1 ≤ r) × (r ≤ top)
  inside e = within (sym outside ∙ e)

  -- the test by the fact
  pub is_one : (1 ≤ r) × (r ≤ top) → (leb 1 r && leb r top) ≡ true
  is_one h = rw (le-leb 1 r h.0, le-leb r top h.1)

  pub is_none : (r < 1) ⊎ (top < r) → (leb 1 r && leb r top) ≡ false
  is_none h = cases h (λ l. rw (lt-leb 1 r l)) (λ l. rw (lt-leb r top l) (and-false (leb 1 r)))

-- no test of the list names a place
abbrev pub placeless : List Test → Bool
placeless [] = true
placeless (t ∷ ts) = eqb t.place 0 && placeless ts

pub first_placeless : (ts : List Test) → placeless ts ≡ true → (first_of ts).place ≡ 0
first_placeless [] e = refl
first_placeless (t ∷ ts) e = go t.holds (first_placeless ts)
  where
    both : (eqb t.place 0 ≡ true) × (placeless ts ≡ true)
    both = (and-eq-true_iff (eqb t.place 0) (placeless ts)).0 e

    go : (b : Bool) → (placeless ts ≡ true → (first_of ts).place ≡ 0) → (if b then t else first_of ts).place ≡ 0
    go true rest = eqb-true t.place 0 both.0
    go false rest = rest both.1
