-- The laws of the loops that count up by one: how each begins, goes on and is over.
--     a test of every number           invariant  every i p ≡ true       every_more, every-fails
--     the least number that passes     invariant  least i p ≡ 0          least_more, least-found
--     the first number that fails      invariant  Scanned n p i          scan-begin, scan-more, scan-found, scan-over
--     an array filled entry by entry   invariant  Made n f l old i new   make-begin, make-more, make-over
--     a fold over the entries          foldl f b (take i l)              fold_more
use Rattle.std.specs.Prelude.{if◌then◌else◌, Option, None}
use Rattle.std.specs.Option.{is_some}
use mathlib.Core.Path.{◌≡◌, refl, sym, ap, ◌∙◌}
use mathlib.Core.List.{List, [], ◌∷◌, foldl, foldl-append}
use mathlib.Core.Logic.{⊎_elim}
use mathlib.Core.Bool.{Bool, true, false, not, ◌&&◌, and-true, and-false, and_assoc}
use Prim.Native.Nat.{ℕ, zero, suc, ◌+◌, ◌-◌, ◌≤◌, ◌<◌}
use native.Mathlib.Nat.{le_of_suc-le-suc, not-suc-le-zero, eq-or-lt_of_le}
use native.Mathlib.Numerals.{add-one}
use native.Mathlib.Omega.{arith}
use lib.Dec.{eqb}
use lib.ListN.{length, get_or, set, take}
use lib.Seq.{take-suc}
use Rattle.lists.specs.Words.{each, every, ◌or_else◌, least, first_failing, found}
use borrow.Author.Tests.{eq-eqb, ne_eqb, not-true}
use Rattle.lists.proofs.Cases.{by_test, not_both, cases, lt_or_le, eq_or_ne, test_fails, test_holds}

module _ (p : ℕ → Bool) where
  pub every_none : every 0 p ≡ true
  unfolding every
  every_none = refl

  pub every_next : (i : ℕ) → every (i + 1) p ≡ (every i p && p (i + 1))
  unfolding every
  every_next i = rw add-one

  pub every_more : (i : ℕ) → every i p ≡ true → p (i + 1) ≡ true → every (i + 1) p ≡ true
  unfolding every
  every_more i before here = rw (add-one i, every, before, ← add-one i, here)

  -- the first of the numbers, and those after it
  pub every_first : (n : ℕ) → every (n + 1) p ≡ (p 1 && every n (λ (k : ℕ). p (k + 1)))
  unfolding every
  every_first zero = sym (and-true (p 1))
  every_first (suc n) = let before = rw add-one at (every_first n) in rw (every_next (suc n), before, and_assoc)

  -- it fails for one of the numbers: it does not hold for every one
  pub every_fails : (n k : ℕ) → 1 ≤ k → k ≤ n → p k ≡ false → every n p ≡ false
  unfolding every
  every_fails zero k low high bad = absurd (omega arith)
  every_fails (suc n) k low high bad =
      ⊎_elim (λ e. rw (← e, bad) (and-false (every n p))) (λ l. rw (every_fails n k low (le_of_suc-le-suc l) bad)) (eq-or-lt_of_le high)

  pub every_at : (n : ℕ) → every n p ≡ true → (k : ℕ) → 1 ≤ k → k ≤ n → p k ≡ true
  every_at n h k low high = by_test (p k) (λ e. e) (λ e. not_both (every n p) h (every_fails n k low high e))

  pub every_all : (n : ℕ) → ((k : ℕ) → 1 ≤ k → k ≤ n → p k ≡ true) → every n p ≡ true
  unfolding every
  every_all zero f = refl
  every_all (suc n) f = rw (every_all n (λ k low high. f k low (omega arith)), f (suc n) (omega arith) (omega arith))

  pub least_nothing : least 0 p ≡ 0
  unfolding least
  least_nothing = refl

  pub least_more : (i : ℕ) → least i p ≡ 0 → p (i + 1) ≡ false → least (i + 1) p ≡ 0
  unfolding least
  least_more i before here = rw (add-one i, least, before, ← add-one i, here)

  least_here : (i : ℕ) → least i p ≡ 0 → p (suc i) ≡ true → least (suc i) p ≡ suc i
  unfolding least
  least_here i before here = rw (before, here)

  -- once found, it stays
  least_stays : (n k : ℕ) → least n p ≡ suc k → least (suc n) p ≡ suc k
  unfolding least
  least_stays n k e = rw e

  least_kept : (m n k : ℕ) → least m p ≡ suc k → m ≤ n → least n p ≡ suc k
  least_kept m zero k e h = let z : m ≡ 0 = omega arith in rw z at e
  least_kept m (suc n) k e h =
      ⊎_elim (λ q. rw (← q) e) (λ q. least_stays n k (least_kept m n k e (le_of_suc-le-suc q))) (eq-or-lt_of_le h)

  pub least_found : (n i : ℕ) → least i p ≡ 0 → i < n → p (i + 1) ≡ true → least n p ≡ i + 1
  least_found n i before below here =
      rw (add-one i) (least_kept (suc i) n i (least_here i before (rw (← add-one i) here)) below)

  -- what the least number is: one of the numbers, for which the test holds, and for none before it
  pub least_le : (n : ℕ) → least n p ≤ n
  unfolding least
  least_le zero = omega arith
  least_le (suc n) = go (least n p) refl (least_le n)
    where
      go : (k : ℕ) → least n p ≡ k → least n p ≤ n → (least n p or_else (if p (suc n) then suc n else 0)) ≤ suc n
      go zero e h = rw e (by_test (p (suc n)) (λ q. rw q (omega arith)) (λ q. rw q (omega arith)))
      go (suc k) e h = let g : suc k ≤ n = rw e at h in rw e (omega arith)

  pub least_holds : (n : ℕ) → 1 ≤ least n p → p (least n p) ≡ true
  unfolding least
  least_holds zero h = absurd (not-suc-le-zero h)
  least_holds (suc n) h = go (least n p) refl (least_holds n) h
    where
      go :
          (k : ℕ) → least n p ≡ k → (1 ≤ least n p → p (least n p) ≡ true)
          → 1 ≤ (least n p or_else (if p (suc n) then suc n else 0)) → p (least n p or_else (if p (suc n) then suc n else 0)) ≡ true
      go zero e rest g =
          by_test (p (suc n)) (λ q. rw (e, q) q)
          (λ q. let z : 1 ≤ 0 = rw (e, q) at g in absurd (not-suc-le-zero z))
      go (suc k) e rest g = let r : p (suc k) ≡ true = (rw e at rest) (omega arith) in rw e r

  -- where the test holds for one of the numbers, there is a least one, and it is no greater
  pub least_upto : (n k : ℕ) → 1 ≤ k → k ≤ n → p k ≡ true → (1 ≤ least n p) × (least n p ≤ k)
  least_upto n zero low high e = absurd (not-suc-le-zero low)
  least_upto n (suc i) low high e = go (least i p) refl
    where
      go : (m : ℕ) → least i p ≡ m → (1 ≤ least n p) × (least n p ≤ suc i)
      go zero q = let r = least_kept (suc i) n i (least_here i q e) high in (omega arith, omega arith)
      go (suc m) q = let r = least_kept i n m q (omega arith) in let l = least_le i in (omega arith, omega arith)

module _ (ok : ℕ → Bool) where
  not_passing : (k : ℕ) → ok k ≡ true → not (ok k) ≡ false
  not_passing k e = rw e

  not_failing : (k : ℕ) → ok k ≡ false → not (ok k) ≡ true
  not_failing k e = rw e

  failing_nothing : first_failing 0 ok ≡ 0
  failing_nothing = least_nothing (λ (k : ℕ). not (ok k))

  failing_more : (i : ℕ) → first_failing i ok ≡ 0 → ok (i + 1) ≡ true → first_failing (i + 1) ok ≡ 0
  failing_more i before here = least_more (λ (k : ℕ). not (ok k)) i before (not_passing (i + 1) here)

  failing_found : (n i : ℕ) → first_failing i ok ≡ 0 → i < n → ok (i + 1) ≡ false → first_failing n ok ≡ i + 1
  failing_found n i before below here = least_found (λ (k : ℕ). not (ok k)) n i before below (not_failing (i + 1) here)

  -- what the first failing number is
  pub failing_le : (n : ℕ) → first_failing n ok ≤ n
  failing_le n = least_le (λ (k : ℕ). not (ok k)) n

  pub failing_fails : (n : ℕ) → 1 ≤ first_failing n ok → ok (first_failing n ok) ≡ false
  failing_fails n h = not-true _ (least_holds (λ (k : ℕ). not (ok k)) n h)

  pub failing_before : (n k : ℕ) → 1 ≤ k → k < first_failing n ok → ok k ≡ true
  failing_before n k low high =
      let l = failing_le n in
      by_test (ok k) (λ e. e) (λ e. let u = least_upto (λ (j : ℕ). not (ok j)) n k low (omega arith) (not_failing k e) in absurd (omega arith))

  pub failing_none : (n : ℕ) → first_failing n ok ≡ 0 → (k : ℕ) → 1 ≤ k → k ≤ n → ok k ≡ true
  failing_none n none k low high =
      by_test (ok k) (λ e. e) (λ e. let u = least_upto (λ (j : ℕ). not (ok j)) n k low high (not_failing k e) in absurd (omega arith))

  pub none_failing : (n : ℕ) → ((k : ℕ) → 1 ≤ k → k ≤ n → ok k ≡ true) → first_failing n ok ≡ 0
  none_failing n f =
      cases (lt_or_le 0 (first_failing n ok))
      (λ h. not_both (ok (first_failing n ok)) (f (first_failing n ok) h (failing_le n)) (failing_fails n h))
      (λ h. omega arith)

-- a test of every number by the first that fails
pub every_scan : (n : ℕ) (ok : ℕ → Bool) → eqb (first_failing n ok) 0 ≡ every n ok
every_scan n ok =
    cases (eq_or_ne (first_failing n ok) 0)
    (λ e. eq-eqb (first_failing n ok) 0 e ∙ sym (every_all ok n (failing_none ok n e)))
    (λ e.
    ne_eqb (first_failing n ok) 0 e
    ∙ sym (every_fails ok n (first_failing n ok) (omega arith) (failing_le ok n) (failing_fails ok n (omega arith))))

-- an option that says which number fails is none exactly where the test holds for every number
none_found : (m : ℕ) (r : Option ℕ) (none : Bool) → r ≡ found m → is_some r ≡ not none → none ≡ eqb m 0
none_found zero r true e f = refl
none_found zero r false e f = let z : false ≡ true = rw e at f in cc
none_found (suc m) r true e f = let z : true ≡ false = rw e at f in cc
none_found (suc m) r false e f = sym (ne_eqb (suc m) 0 (λ z. omega arith))

pub none_every : (n : ℕ) (ok : ℕ → Bool) (r : Option ℕ) (none : Bool) → r ≡ found (first_failing n ok) → is_some r ≡ not none → none ≡ every n ok
none_every n ok r none e f = none_found _ r none e f ∙ every_scan n ok

-- a scan of the numbers 1 to n by index, from 0: those up to i pass the test
pub record Scanned (n : ℕ) (ok : ℕ → Bool) (i : ℕ) : Type 0 where
  pub most : i ≤ n
  pub none : first_failing i ok ≡ 0

pub scan_begin : {n : ℕ} {ok : ℕ → Bool} → Scanned n ok 0
scan_begin {n} {ok} = record { most = omega arith; none = failing_nothing ok }

module _ {n i : ℕ} {ok : ℕ → Bool} (scanned : Scanned n ok i) where
  pub scan_over : n ≤ i → 0 ≡ first_failing n ok
  scan_over h = let e : i ≡ n = omega arith in sym (rw e at scanned.none)

  -- r is what the code found of the number i + 1, and tests with `if !r`
  module _ {r : Bool} (below : i < n) (found : r ≡ ok (i + 1)) where
    pub scan_more : not r ≡ false → Scanned n ok (i + 1)
    scan_more e = record { most = omega arith; none = failing_more ok i scanned.none (test_holds found e) }

    pub scan_found : not r ≡ true → i + 1 ≡ first_failing n ok
    scan_found e = sym (failing_found ok n i scanned.none below (test_fails found e))

-- the scan counts from 0, and the numbers from 1: none of them fails, where the last was passed, or was looked at last
pub none_after : {n k : ℕ} {ok : ℕ → Bool} → Scanned n ok (k - 1) → (k ≤ n → ⊥) → None ≡ found (first_failing n ok)
none_after s h = rw (sym (scan_over s (omega arith))) refl

pub none_last : {n k : ℕ} {ok : ℕ → Bool} {r : Bool} → Scanned n ok (k - 1) → 1 ≤ k → k ≤ n → (k < n → ⊥) → r ≡ ok k → r ≡ true → None ≡ found (first_failing n ok)
none_last {n} {k} s low top high e t =
    let one : k - 1 + 1 ≡ k = omega arith in
    rw (sym (scan_over (scan_more s (omega arith) (rw one e) (ap not t)) (omega arith))) refl

module _ {A B : Type 0} where
  -- the first n entries of `each f l`, and after them those of `old`: an array that is being filled
  unfoldable pub filled : (ℕ → A → B) → ℕ → List A → List B → List B
  filled f zero l old = old
  filled f (suc n) [] old = old
  filled f (suc n) (x ∷ l) [] = []
  filled f (suc n) (x ∷ l) (y ∷ old) = f 1 x ∷ filled (λ (k : ℕ). f (suc k)) n l old

  fill_begin : (f : ℕ → A → B) (l : List A) (old : List B) → old ≡ filled f 0 l old
  unfolding filled
  fill_begin f l old = refl

  filled_suc : (f : ℕ → A → B) (i : ℕ) (l : List A) (old : List B) (d : A) → i < length l → set (filled f i l old) i (f (suc i) (get_or l i d)) ≡ filled f (suc i) l old
  unfolding filled
  filled_suc f i [] old d h = absurd (not-suc-le-zero h)
  filled_suc f zero (x ∷ l) [] d h = refl
  filled_suc f zero (x ∷ l) (y ∷ old) d h = refl
  filled_suc f (suc i) (x ∷ l) [] d h = refl
  filled_suc f (suc i) (x ∷ l) (y ∷ old) d h =
      ap (λ (r : List B). f 1 x ∷ r) (filled_suc (λ (k : ℕ). f (suc k)) i l old d (le_of_suc-le-suc h))

  -- no store at the index i, where what f makes of entry i + 1 stands already
  filled_keep :
      (f : ℕ → A → B) (i : ℕ) (l : List A) (old : List B) (d : A) (b : B) → i < length l → i < length old
      → get_or old i b ≡ f (suc i) (get_or l i d) → filled f i l old ≡ filled f (suc i) l old
  unfolding filled
  filled_keep f i [] old d b h g e = absurd (not-suc-le-zero h)
  filled_keep f i (x ∷ l) [] d b h g e = absurd (not-suc-le-zero g)
  filled_keep f zero (x ∷ l) (y ∷ old) d b h g e = ap (λ (z : B). z ∷ old) e
  filled_keep f (suc i) (x ∷ l) (y ∷ old) d b h g e =
      ap (λ (r : List B). f 1 x ∷ r) (filled_keep (λ (k : ℕ). f (suc k)) i l old d b (le_of_suc-le-suc h) (le_of_suc-le-suc g) e)

  -- a store at the index i of what f makes of entry i + 1
  fill_step : (f : ℕ → A → B) (i : ℕ) (l : List A) (old new : List B) (d : A) (r : B) → new ≡ filled f i l old → i < length l → r ≡ f (i + 1) (get_or l i d) → set new i r ≡ filled f (i + 1) l old
  fill_step f i l old new d r e h p = rw (p, e, add-one) (filled_suc f i l old d h)

  filled_all : (f : ℕ → A → B) (i : ℕ) (l : List A) (old : List B) → length l ≤ i → length old ≡ length l → filled f i l old ≡ each f l
  unfolding filled each
  filled_all f zero [] [] h e = refl
  filled_all f zero [] (y ∷ old) h e = absurd (omega arith)
  filled_all f zero (x ∷ l) old h e = absurd (not-suc-le-zero h)
  filled_all f (suc i) [] [] h e = refl
  filled_all f (suc i) [] (y ∷ old) h e = absurd (omega arith)
  filled_all f (suc i) (x ∷ l) [] h e = absurd (omega arith)
  filled_all f (suc i) (x ∷ l) (y ∷ old) h e =
      ap (λ (r : List B). f 1 x ∷ r) (filled_all (λ (k : ℕ). f (suc k)) i l old (le_of_suc-le-suc h) (omega arith))

  fill_over : (k : ℕ) (f : ℕ → A → B) (i : ℕ) (l : List A) (old new : List B) → new ≡ filled f i l old → length l ≡ k → length old ≡ k → k ≤ i → new ≡ each f l
  fill_over k f i l old new e h o g = e ∙ filled_all f i l old (omega arith) (omega arith)

-- an array of n entries whose first i are made of those of l
pub record Made {A B : Type 0} (n : ℕ) (f : ℕ → A → B) (l : List A) (old : List B) (i : ℕ) (new : List B) : Type 0 where
  pub source : length l ≡ n
  pub target : length old ≡ n
  pub made : new ≡ filled f i l old

pub make_begin : {A B : Type 0} {n : ℕ} {f : ℕ → A → B} {l : List A} {old : List B} → length l ≡ n → length old ≡ n → Made n f l old 0 old
make_begin {f} {l} {old} h o = record { source = h; target = o; made = fill_begin f l old }

module _ {A B : Type 0} {n i : ℕ} {f : ℕ → A → B} {l : List A} {old new : List B} (m : Made n f l old i new) where
  pub make_more : {r : B} (d : A) → i < n → r ≡ f (i + 1) (get_or l i d) → Made n f l old (i + 1) (set new i r)
  make_more {r} d below e =
      let h : length l ≡ n = m.source in
      record { source = m.source; target = m.target; made = fill_step f i l old new d r m.made (omega arith) e }

  pub make_keep : (d : A) (b : B) → i < n → get_or old i b ≡ f (i + 1) (get_or l i d) → Made n f l old (i + 1) new
  make_keep d b below e =
      let h : length l ≡ n = m.source in
      let g : length old ≡ n = m.target in
      record {
        source = m.source;
        target = m.target;
        made = m.made ∙ rw add-one (filled_keep f i l old d b (omega arith) (omega arith) (rw add-one at e));
      }

  pub make_over : n ≤ i → new ≡ each f l
  make_over h = fill_over n f i l old new m.made m.source m.target h

-- a fold over one entry more
pub fold_more : {A B : Type 0} (f : B → A → B) (b : B) (l : List A) (i : ℕ) (d : A) → i < length l → foldl f b (take (i + 1) l) ≡ f (foldl f b (take i l)) (get_or l i d)
fold_more f b l i d h = rw (add-one i, take-suc l i d, foldl-append)

-- tests that agree have the same least number, and functions that agree the same list
pub least_same : (n : ℕ) (p q : ℕ → Bool) → ((k : ℕ) → 1 ≤ k → k ≤ n → p k ≡ q k) → least n p ≡ least n q
unfolding least
least_same zero p q f = refl
least_same (suc n) p q f = rw (least_same n p q (λ k low high. f k low (omega arith)), f (suc n) (omega arith) (omega arith))

-- the same tests hold for all or for not all
pub every_same : (n : ℕ) (p q : ℕ → Bool) → ((k : ℕ) → 1 ≤ k → k ≤ n → p k ≡ q k) → every n p ≡ every n q
unfolding every
every_same zero p q same = refl
every_same (suc n) p q same =
    rw (every_same n p q (λ k low high. same k low (omega arith)), same (suc n) (omega arith) (omega arith))
