-- The report's numbers (document 01, "The calls"): allocated segments counted, and the least free segment, 0 if none.
use Rattle.std.specs.Prelude.{ℕ, ◌+◌, Bool, List, [], ◌∷◌, eqb, if◌then◌else◌}
use Rattle.lists.specs.Words.{at, least}
use Rattle.summary.specs.declared.Summary.{Summary}

-- a segment is free if it is allocated to no train
abbrev pub is_free : ℕ → Bool
is_free h = eqb h 0

-- how many allocations are not free
unfoldable pub allocated_in : List ℕ → ℕ
allocated_in [] = 0
allocated_in (h ∷ A) = (if is_free h then 0 else 1) + allocated_in A

-- of an area of n segments
unfoldable pub summary_of : List ℕ → ℕ → Summary
summary_of A n = record { allocated = allocated_in A; free = least n (λ (s : ℕ). is_free (at A s)) }
