-- The words that the definitions of all crates are written in. Entries of a list are counted from 1, and 0 stands for none.
use Rattle.std.specs.Prelude.{ℕ, zero, suc, Bool, true, not, ◌&&◌, List, [], ◌∷◌, Option, Some, None, ltb, get_or, if◌then◌else◌}

module _ {A : Type 0} (none : A) where
  -- entry n of a list; `none` where the list has no entry n
  unfoldable pub nth : List A → ℕ → A
  nth l n = get_or (none ∷ l) n none

-- entry n of a list of numbers; 0 where there is none
abbrev pub at : List ℕ → ℕ → ℕ
at = nth 0

module _ {A B : Type 0} where
  -- what f makes of each entry and its number: f 1 x, f 2 y, .. for the list x, y, ..
  unfoldable pub each : (ℕ → A → B) → List A → List B
  each f [] = []
  each f (x ∷ l) = f 1 x ∷ each (λ (n : ℕ). f (suc n)) l

module _ {A : Type 0} where
  -- the list f 1, f 2, .. f n
  unfoldable pub tabulate : ℕ → (ℕ → A) → List A
  tabulate zero f = []
  tabulate (suc n) f = f 1 ∷ tabulate n (λ (k : ℕ). f (suc k))

-- the test holds for each of the numbers 1 to n
unfoldable pub every : ℕ → (ℕ → Bool) → Bool
every zero p = true
every (suc n) p = every n p && p (suc n)

-- a, or b where a is 0
infix 30 ◌or_else◌
abbrev pub ◌or_else◌ : ℕ → ℕ → ℕ
zero or_else b = b
suc a or_else b = suc a

-- the least of the numbers 1 to n for which the test holds; 0 where it holds for none
unfoldable pub least : ℕ → (ℕ → Bool) → ℕ
least zero p = 0
least (suc n) p = least n p or_else (if p (suc n) then suc n else 0)

-- the test holds for one of the numbers 1 to n
abbrev pub some : ℕ → (ℕ → Bool) → Bool
some n p = ltb 0 (least n p)

-- the first of the numbers 1 to n for which the test fails; 0 where it fails for none
abbrev pub first_failing : ℕ → (ℕ → Bool) → ℕ
first_failing n p = least n (λ (k : ℕ). not (p k))

-- a number that was looked for, as an option: none where it is 0
abbrev pub found : ℕ → Option ℕ
found zero = None
found (suc n) = Some (suc n)
