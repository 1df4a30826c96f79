-- The five blocks of an area file and what each carries at its end (document 01, "The area file").
use Rattle.std.specs.Prelude.{ℕ, ◌+◌, ◌-◌, ◌*◌, ◌%◌, Bool, ◌&&◌, ◌||◌, take, drop, eqb, ltb, if◌then◌else◌}
use mathlib.Core.List.{List, foldl}
use Rattle.lists.specs.Words.{first_failing}
use Rattle.file.specs.Bytes.{byte_at, zeros}
pub use Rattle.file.specs.Layout.{blocks, block_size, file_size}
use Rattle.file.specs.Layout.{first_route_block, in_tail, kind_of, covered_bytes, block_bytes, route_zeros}

-- the block of a number, 0 to 4
unfoldable pub block : List ℕ → ℕ → List ℕ
block file k = take block_size (drop (block_size * k) file)

-- the check: two sums that start at 0; for each byte, first = (first + byte) mod 255, then second = (second + first) mod 255
pub record Sums : Type 0 where
  pub first : ℕ
  pub second : ℕ

abbrev pub add_byte : Sums → ℕ → Sums
add_byte s b = record { first = (s.first + b) % 255; second = (s.second + (s.first + b) % 255) % 255 }

unfoldable pub sums : List ℕ → Sums
sums s = foldl add_byte (record { first = 0; second = 0 }) s

-- the block of a number that holds these bytes, with its check
unfoldable pub block_of : (number : ℕ) (held : List ℕ) → List ℕ
block_of number held = block_bytes number held (sums (covered_bytes number held)).first (sums (covered_bytes number held)).second

-- the sums of the bytes before the check are those stored in its two
unfoldable pub intact : List ℕ → Bool
intact b =
    eqb (sums (take in_tail.check b)).first (byte_at b in_tail.check)
    && eqb (sums (take in_tail.check b)).second (byte_at b (in_tail.check + 1))

-- kind, block number and zeros are those of block k; of a route block the zeros before the tail too
unfoldable pub filed : List ℕ → ℕ → Bool
filed b k =
    eqb (byte_at b in_tail.kind) (kind_of k)
    && eqb (byte_at b in_tail.number) k
    && zeros b in_tail.zeros in_tail.zeros_last
    && (ltb k first_route_block || zeros b route_zeros in_tail.body_last)

-- rule 2 or rule 3 of block k, and the first block that breaks it; counted from 1, so that 0 stands for none
abbrev pub block_meets : (rule : ℕ) → List ℕ → ℕ → Bool
block_meets rule b k = if eqb rule 2 then intact b else filed b k

abbrev pub first_breaking : (rule : ℕ) → List ℕ → ℕ
first_breaking rule file = first_failing blocks (λ (n : ℕ). block_meets rule (block file (n - 1)) (n - 1))

-- the first block whose check differs, and the first that is misfiled
unfoldable pub first_damaged : List ℕ → ℕ
first_damaged file = first_breaking 2 file

unfoldable pub first_misfiled : List ℕ → ℕ
first_misfiled file = first_breaking 3 file
