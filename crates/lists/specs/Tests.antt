-- A list of tests, each with the number of its refusal, of which the first that holds gives the answer.
use Rattle.std.specs.Prelude.{ℕ, Bool, false, List, [], ◌∷◌, eqb, if◌then◌else◌}

-- a condition, the number of the refusal that is given when it holds, and the place that the refusal names
pub record Test : Type 0 where
  pub holds : Bool
  pub number : ℕ
  pub place : ℕ

-- a test whose refusal names a place
infix 90 ◌⇒◌place◌
abbrev pub ◌⇒◌place◌ : Bool → ℕ → ℕ → Test
b ⇒ n place p = record { holds = b; number = n; place = p }

-- a test whose refusal names none: its place is 0
infix 90 ◌⇒◌
abbrev pub ◌⇒◌ : Bool → ℕ → Test
b ⇒ n = record { holds = b; number = n; place = 0 }

-- the first test that holds; where none does, one that does not hold, with number and place 0
abbrev pub first_of : List Test → Test
first_of [] = record { holds = false; number = 0; place = 0 }
first_of (t ∷ ts) = if t.holds then t else first_of ts

-- the condition of the test of a number; false where the list has no such test
abbrev pub condition_of : ℕ → List Test → Bool
condition_of n [] = false
condition_of n (t ∷ ts) = if eqb t.number n then t.holds else condition_of n ts

-- the place of the test of a number; 0 where the list has no such test
abbrev pub place_named : ℕ → List Test → ℕ
place_named n [] = 0
place_named n (t ∷ ts) = if eqb t.number n then t.place else place_named n ts
