-- Who goes first (document 02, R-2): "the highest count wins, and equal counts go to the higher train number". What a grant does with
-- this order stands in Grant.
-- `count` says what the train of a number counts; t and u are numbers of trains.
use Rattle.std.specs.Prelude.{ℕ, zero, suc, Bool, ◌&&◌, ◌||◌, ltb, eqb, if◌then◌else◌}

-- t goes before u
unfoldable pub goes_before : (count : ℕ → ℕ) → (t u : ℕ) → Bool
goes_before count t u = ltb (count u) (count t) || (eqb (count t) (count u) && ltb u t)

-- for a total order `before`: of the numbers 1 to n that pass a test, the one that goes before all others that pass it; 0 where none
-- passes
unfoldable pub foremost : (before : ℕ → ℕ → Bool) → ℕ → (ℕ → Bool) → ℕ
foremost before zero p = 0
foremost before (suc n) p =
    if p (suc n) && (eqb (foremost before n p) 0 || before (suc n) (foremost before n p)) then suc n else foremost before n p
