-- The word in which bit s - 1 is set exactly when segment s is allocated. Only the private functions' contracts name it.
use Rattle.std.specs.Prelude.{ℕ, ◌+◌, ◌*◌, not, List, [], ◌∷◌, if◌then◌else◌}
use Rattle.summary.specs.Summary.{is_free}

-- a segment's bit
unfoldable pub bit_of : ℕ → ℕ
bit_of h = if not (is_free h) then 1 else 0

-- segment 1 is the lowest bit
unfoldable pub word_of : List ℕ → ℕ
word_of [] = 0
word_of (h ∷ A) = word_of A * 2 + bit_of h
