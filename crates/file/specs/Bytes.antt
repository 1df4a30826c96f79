-- Bytes and little-endian numbers. Bytes are counted from 0, as document 01, "The area file", counts them; one past the end reads as 0.
use Rattle.std.specs.Prelude.{ℕ, ◌+◌, ◌-◌, ◌*◌, ◌/◌, ◌%◌, Bool, List, [], ◌∷◌, ◌++◌, ◌≡◌, length, get_or, take, drop, eqb}
use Rattle.std.specs.Borrow.{Bor}
use Rattle.lists.specs.Words.{every}

abbrev pub byte_at : List ℕ → ℕ → ℕ
byte_at s i = get_or s i 0

-- a number of two bytes, and one of four, at a place
abbrev pub two_at : List ℕ → ℕ → ℕ
two_at s i = byte_at s i + 256 * byte_at s (i + 1)

abbrev pub four_at : List ℕ → ℕ → ℕ
four_at s i = two_at s i + 65536 * two_at s (i + 2)

-- a number below 65,536 as two bytes, and one below 2³² as four, the least first
abbrev pub two : ℕ → List ℕ
two n = n % 256 ∷ n / 256 ∷ []

abbrev pub four : ℕ → List ℕ
four n = two (n % 65536) ++ two (n / 65536)

-- the bytes from the first to the last place are zero, both included
unfoldable pub zeros : List ℕ → ℕ → ℕ → Bool
zeros s first last = every (last + 1 - first) (λ (k : ℕ). eqb (byte_at s (first + k - 1)) 0)

-- a row of bytes put into a buffer from a place on, as far as the buffer has room; its other bytes are as they were
unfoldable pub put_at : (at : ℕ) (row old : List ℕ) → List ℕ
put_at at row old = take at old ++ take (length old - at) row ++ drop (at + length row) old

-- a part of lent bytes: what it holds and where it lies, `count` bytes from `start` on
pub record PartAt (whole part : Bor (List ℕ)) (start count : ℕ) : Type 0 where
  pub bytes : part.now ≡ take count (drop start whole.now)
  pub object : part.ref_ptr.0 ≡ whole.ref_ptr.0
  pub offset : part.ref_ptr.1 ≡ start + whole.ref_ptr.1
