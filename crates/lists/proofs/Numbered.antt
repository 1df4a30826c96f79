-- Laws of entries by number, of `each` and of `tabulate`.
use Rattle.std.specs.Prelude.{if◌then◌else◌}
use mathlib.Core.Path.{◌≡◌, refl, sym, ap, ◌∙◌}
use mathlib.Core.List.{List, [], ◌∷◌, ◌++◌, map}
use Prim.Native.Nat.{ℕ, zero, suc, ◌+◌, ◌-◌, ◌≤◌, ◌<◌}
use native.Mathlib.Nat.{le_of_suc-le-suc, not-suc-le-zero}
use native.Mathlib.Numerals.{add-one}
use native.Mathlib.Omega.{arith}
use lib.ListN.{length, get_or, set, replicate, length-map, get_or-eq_default}
use lib.Seq.{ext_get_or}
use lib.Dec.{eqb, eqb-suc-suc}
use borrow.Author.Tests.{ne_eqb}
use mathlib.Core.Logic.{◌⊎◌, ⊎_elim}
use Rattle.lists.specs.Words.{nth, each, tabulate}
use Rattle.lists.proofs.Cases.{cases, lt_or_le}

module _ {A : Type 0} (none : A) where
  pub nth_zero : (l : List A) (n : ℕ) → n ≡ 0 → nth none l n ≡ none
  unfolding nth
  nth_zero l n e = rw e

  -- the entry of number n stands at the index n - 1
  pub nth_in : (l : List A) (n : ℕ) → 1 ≤ n → nth none l n ≡ get_or l (n - 1) none
  unfolding nth
  nth_in l zero h = absurd (not-suc-le-zero h)
  nth_in l (suc n) h = ap (λ (k : ℕ). get_or l k none) (omega arith)

  pub nth_index : (l : List A) (i : ℕ) → nth none l (i + 1) ≡ get_or l i none
  unfolding nth
  nth_index l i = rw add-one

  pub nth_out : (l : List A) (n : ℕ) → length l < n → nth none l n ≡ none
  nth_out l n h = nth_in l n (omega arith) ∙ get_or-eq_default l none (omega arith)

module _ {A B : Type 0} where
  -- an entry of `each`, where f makes of the entry that stands for none the one that stands for none: no length is asked
  pub nth_each : (a : A) (b : B) (f : ℕ → A → B) (l : List A) (n : ℕ) → ((k : ℕ) → f k a ≡ b) → 1 ≤ n → nth b (each f l) n ≡ f n (nth a l n)
  unfolding nth each
  nth_each a b f l zero h p = absurd (not-suc-le-zero p)
  nth_each a b f [] (suc n) h p = sym (h (suc n))
  nth_each a b f (x ∷ l) (suc zero) h p = refl
  nth_each a b f (x ∷ l) (suc (suc n)) h p = nth_each a b (λ (k : ℕ). f (suc k)) l (suc n) (λ k. h (suc k)) (omega arith)

module _ {A : Type 0} where
  pub length_tabulate : (n : ℕ) (f : ℕ → A) → length (tabulate n f) ≡ n
  unfolding tabulate
  length_tabulate zero f = refl
  length_tabulate (suc n) f = ap suc (length_tabulate n (λ (k : ℕ). f (suc k)))

  pub nth_tabulate : (none : A) (n : ℕ) (f : ℕ → A) (k : ℕ) → 1 ≤ k → k ≤ n → nth none (tabulate n f) k ≡ f k
  unfolding nth tabulate
  nth_tabulate none n f zero h g = absurd (not-suc-le-zero h)
  nth_tabulate none zero f (suc k) h g = absurd (not-suc-le-zero g)
  nth_tabulate none (suc n) f (suc zero) h g = refl
  nth_tabulate none (suc n) f (suc (suc k)) h g = nth_tabulate none n (λ (j : ℕ). f (suc j)) (suc k) (omega arith) (le_of_suc-le-suc g)

  -- `each` with a function that looks only at the number
  pub each_tabulate : {B : Type 0} (f : ℕ → A) (l : List B) (n : ℕ) → length l ≡ n → each (λ (k : ℕ) (x : B). f k) l ≡ tabulate n f
  unfolding each tabulate
  each_tabulate f [] zero e = refl
  each_tabulate f [] (suc n) e = absurd (omega arith)
  each_tabulate f (x ∷ l) zero e = absurd (omega arith)
  each_tabulate f (x ∷ l) (suc n) e = ap (λ (r : List A). f 1 ∷ r) (each_tabulate (λ (k : ℕ). f (suc k)) l n (omega arith))

-- the length of an array of structs, which owning it tells of the list mapped by the type's own reading
pub long_of : {X Y : Type 0} (g : X → Y) (l : List X) (n : ℕ) → length (map g l) ≡ n → length l ≡ n
long_of g l n e = sym (length-map l g) ∙ e

-- a list of nothing but the entry that stands for none
pub nth_replicate : {A : Type 0} (none : A) (n k : ℕ) → nth none (replicate n none) k ≡ none
unfolding nth
nth_replicate none n zero = refl
nth_replicate none zero (suc k) = refl
nth_replicate none (suc n) (suc k) = nth_replicate none n k

-- functions that agree at every entry make the same list
pub each_same : {A B : Type 0} (f g : ℕ → A → B) (l : List A) → ((n : ℕ) (x : A) → 1 ≤ n → n ≤ length l → f n x ≡ g n x) → each f l ≡ each g l
unfolding each
each_same f g [] h = refl
each_same f g (x ∷ l) h =
    rw (h 1 x (omega arith) (omega arith), each_same (λ (n : ℕ). f (suc n)) (λ (n : ℕ). g (suc n)) l (λ n y low high. h (suc n) y (omega arith) (omega arith)))

-- a function that keeps every entry keeps the list
pub each_keeps : {A : Type 0} (f : ℕ → A → A) (l : List A) → ((n : ℕ) (x : A) → 1 ≤ n → n ≤ length l → f n x ≡ x) → each f l ≡ l
unfolding each
each_keeps f [] h = refl
each_keeps f (x ∷ l) h =
    rw (h 1 x (omega arith) (omega arith), each_keeps (λ (n : ℕ). f (suc n)) l (λ n y low high. h (suc n) y (omega arith) (omega arith)))

-- a store at one number
abbrev pub stored : {A : Type 0} → ℕ → A → ℕ → A → A
stored n x k old = if eqb k n then x else old

set_each : {A : Type 0} (l : List A) (i : ℕ) (x : A) → i < length l → set l i x ≡ each (stored (suc i) x) l
unfolding each
set_each [] i x h = absurd (not-suc-le-zero h)
set_each (y ∷ l) zero x h = ap (λ (r : List _). x ∷ r) (sym (each_keeps (λ (k : ℕ). stored 1 x (suc k)) l (λ n z low high. rw (ne_eqb (suc n) 1 (λ e. omega arith)))))
set_each (y ∷ l) (suc i) x h =
    rw (ne_eqb 1 (suc (suc i)) (λ e. omega arith))
    (ap (λ (r : List _). y ∷ r)
    (set_each l i x (le_of_suc-le-suc h) ∙ each_same (stored (suc i) x) (λ (k : ℕ). stored (suc (suc i)) x (suc k)) l (λ n z low high. rw (eqb-suc-suc n (suc i)))))

pub store_each : {A : Type 0} (l : List A) (n : ℕ) (x : A) → 1 ≤ n → n ≤ length l → set l (n - 1) x ≡ each (stored n x) l
store_each l zero x low high = absurd (not-suc-le-zero low)
store_each l (suc i) x low high = let e : suc i - 1 ≡ i = omega arith in rw e (set_each l i x high)

-- a number that the list does not have stores nothing
pub store_none : {A : Type 0} (l : List A) (n : ℕ) (x : A) → (n < 1) ⊎ (length l < n) → each (stored n x) l ≡ l
store_none l n x out =
    each_keeps (stored n x) l
    (λ k y low high. rw (ne_eqb k n (λ e. ⊎_elim (λ o. omega arith) (λ o. omega arith) out)))

module _ {A B : Type 0} where
  pub length_each : (f : ℕ → A → B) (l : List A) → length (each f l) ≡ length l
  unfolding each
  length_each f [] = refl
  length_each f (x ∷ l) = ap suc (length_each (λ (k : ℕ). f (suc k)) l)

  -- an entry of `each` that the list has
  pub nth_each_in : (a : A) (b : B) (f : ℕ → A → B) (l : List A) (n : ℕ) → 1 ≤ n → n ≤ length l → nth b (each f l) n ≡ f n (nth a l n)
  unfolding nth each
  nth_each_in a b f l zero h g = absurd (not-suc-le-zero h)
  nth_each_in a b f [] (suc n) h g = absurd (not-suc-le-zero g)
  nth_each_in a b f (x ∷ l) (suc zero) h g = refl
  nth_each_in a b f (x ∷ l) (suc (suc n)) h g = nth_each_in a b (λ (k : ℕ). f (suc k)) l (suc n) (omega arith) (le_of_suc-le-suc g)

module _ {A : Type 0} (none : A) where
  -- an entry of number 1 to the list's length, or none
  pub nth_where : (l : List A) (n : ℕ) (P : Type 0) → (1 ≤ n → n ≤ length l → P) → (nth none l n ≡ none → P) → P
  nth_where l n P inside outside =
      cases (lt_or_le n 1) (λ z. outside (nth_zero none l n (omega arith)))
      (λ low. cases (lt_or_le (length l) n) (λ h. outside (nth_out none l n h)) (λ high. inside low high))

  -- an entry after a store at a number of the list
  pub nth_stored : (l : List A) (m : ℕ) (x : A) → 1 ≤ m → m ≤ length l → (n : ℕ) → nth none (each (stored m x) l) n ≡ stored m x n (nth none l n)
  nth_stored l m x low high n =
      cases (lt_or_le n 1)
      (λ z. nth_zero none (each (stored m x) l) n (omega arith) ∙ sym (rw (ne_eqb n m (λ e. omega arith)) (nth_zero none l n (omega arith))))
      (λ from.
      cases (lt_or_le (length l) n)
      (λ above. nth_out none (each (stored m x) l) n (rw (length_each (stored m x) l) above) ∙ sym (rw (ne_eqb n m (λ e. omega arith)) (nth_out none l n above)))
      (λ to. nth_each_in none none (stored m x) l n from to))

  -- what holds of every entry of a list, and of one more
  pub nth_more : (P : A → Type 0) (l : List A) (x : A) → P none → ((k : ℕ) → P (nth none l k)) → P x → (k : ℕ) → P (nth none (l ++ (x ∷ [])) k)
  unfolding nth
  nth_more P l x n f p zero = n
  nth_more P [] x n f p (suc zero) = p
  nth_more P [] x n f p (suc (suc k)) = n
  nth_more P (y ∷ l) x n f p (suc zero) = f 1
  nth_more P (y ∷ l) x n f p (suc (suc k)) = nth_more P l x n (λ j. rest j) p (suc k)
    where
      rest : (j : ℕ) → P (nth none l j)
      rest zero = n
      rest (suc j) = f (suc (suc j))

-- `each` over a table is a table, and tables of functions that agree are the same
pub each_made : {A B : Type 0} (f : ℕ → A → B) (n : ℕ) (g : ℕ → A) → each f (tabulate n g) ≡ tabulate n (λ (k : ℕ). f k (g k))
unfolding each tabulate
each_made f zero g = refl
each_made f (suc n) g = ap (λ (r : List _). f 1 (g 1) ∷ r) (each_made (λ (k : ℕ). f (suc k)) n (λ (k : ℕ). g (suc k)))

pub tabulate_same : {A : Type 0} (n : ℕ) (f g : ℕ → A) → ((k : ℕ) → 1 ≤ k → k ≤ n → f k ≡ g k) → tabulate n f ≡ tabulate n g
unfolding tabulate
tabulate_same zero f g h = refl
tabulate_same (suc n) f g h =
    rw (h 1 (omega arith) (omega arith), tabulate_same n (λ (k : ℕ). f (suc k)) (λ (k : ℕ). g (suc k)) (λ k low high. h (suc k) (omega arith) (omega arith)))

-- what a step makes of each entry and of the entry beside it in a list that another step made of the same entries
each_beside :
    {A B C : Type 0} (b : B) (f : ℕ → A → B) (g : ℕ → B → A → C) (l : List A)
    → each (λ (n : ℕ) (x : A). g n (nth b (each f l) n) x) l ≡ each (λ (n : ℕ) (x : A). g n (f n x) x) l
unfolding each nth
each_beside b f g [] = refl
each_beside {A} {B} {C} b f g (x ∷ l) =
    ap (λ (r : List C). g 1 (f 1 x) x ∷ r)
    (each_same _ _ l (λ n y low high. ap (λ (z : B). g (suc n) z y) (later n low)) ∙ each_beside b (λ (n : ℕ). f (suc n)) (λ (n : ℕ). g (suc n)) l)
  where
    later : (n : ℕ) → 1 ≤ n → get_or (f 1 x ∷ each (λ (k : ℕ). f (suc k)) l) n b ≡ nth b (each (λ (k : ℕ). f (suc k)) l) n
    later zero low = absurd (omega arith)
    later (suc n) low = refl

pub made_beside :
    {A B C : Type 0} (b : B) (f : ℕ → A → B) (g : ℕ → B → A → C) (l : List A) {m : List B} {new : List C}
    → m ≡ each f l → new ≡ each (λ (n : ℕ) (x : A). g n (nth b m n) x) l → new ≡ each (λ (n : ℕ) (x : A). g n (f n x) x) l
made_beside {A} {B} {C} b f g l e h =
    h ∙ (ap (λ (k : List B). each (λ (n : ℕ) (x : A). g n (nth b k n) x) l) e ∙ each_beside b f g l)

-- a list is made of its own entries
pub table_back :
    {A : Type 0} (none : A) (n : ℕ) (f : ℕ → A) (l : List A) → length l ≡ n → ((k : ℕ) → 1 ≤ k → k ≤ n → f k ≡ nth none l k)
    → tabulate n f ≡ l
table_back none n f l long entry =
    ext_get_or none (tabulate n f) l (length_tabulate n f ∙ sym long)
    (λ i below.
    let inside : i < n = rw (length_tabulate n f) at below in
    sym (nth_index none (tabulate n f) i)
    ∙ nth_tabulate none n f (i + 1) (omega arith) (omega arith)
    ∙ entry (i + 1) (omega arith) (omega arith)
    ∙ nth_index none l i)
