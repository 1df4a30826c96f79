-- The places and the rows of bytes agree: each field of a row is read back at its place.
use Prim.Native.Nat.{ℕ, ◌+◌, ◌-◌, ◌≤◌, ◌<◌}
use mathlib.Core.Path.{◌≡◌, refl}
use mathlib.Core.List.{List, [], ◌∷◌, ◌++◌, append_assoc}
use native.Mathlib.Nat.{add_assoc}
use native.Mathlib.Omega.{arith}
use lib.ListN.{length, replicate, length-append, length-replicate}
use lib.Seq.{get_or-append-add}
use Rattle.file.specs.Bytes.{byte_at, two_at, four_at, two, four}
use Rattle.file.specs.Layout.{in_tail, kind_of, block_bytes, version, in_header, header_bytes, in_segment, segment_bytes}

two_back : (n : ℕ) → two_at (two n) 0 ≡ n
two_back n = omega arith

four_back : (n : ℕ) → four_at (four n) 0 ≡ n
four_back n = omega arith

-- THE CLAIM: each field of the header stands at its place, and its zeros start after the last
pub header_back :
    (segments routes gmax b d : ℕ) (rest : List ℕ) → let s = header_bytes segments routes gmax b d ++ rest in
    (byte_at s in_header.version ≡ version) × (byte_at s in_header.segments ≡ segments) × (byte_at s in_header.routes ≡ routes)
    × (byte_at s in_header.zero ≡ 0)
    × (two_at s in_header.gmax ≡ gmax) × (two_at s in_header.braking ≡ b) × (four_at s in_header.margin ≡ d)
    × (length (header_bytes segments routes gmax b d) ≡ in_header.zeros)
header_back segments routes gmax b d rest = (refl, refl, refl, refl, two_back gmax, two_back b, four_back d, refl)

-- THE CLAIM: each field of a segment record stands at its place, and the record ends with its last zero
pub segment_back :
    (length' limit next1 next2 previous1 previous2 flags : ℕ) (rest : List ℕ)
    → let r = segment_bytes length' limit next1 next2 previous1 previous2 flags in
    let s = r ++ rest in
    (four_at s in_segment.length ≡ length') × (two_at s in_segment.limit ≡ limit)
    × (byte_at s in_segment.next ≡ next1) × (byte_at s (in_segment.next + 1) ≡ next2)
    × (byte_at s in_segment.previous ≡ previous1) × (byte_at s (in_segment.previous + 1) ≡ previous2)
    × (byte_at s in_segment.flags ≡ flags) × (length r ≡ in_segment.zeros_last + 1)
segment_back length' limit next1 next2 previous1 previous2 flags rest =
    (four_back length', two_back limit, refl, refl, refl, refl, refl, refl)

-- bytes b that have a row r of w bytes at a start have its numbers there too
module _ (b r : List ℕ) (start w : ℕ) (same : (i : ℕ) → i < w → byte_at b (start + i) ≡ byte_at r i) where
  pub two_there : (i : ℕ) → i + 1 < w → two_at b (start + i) ≡ two_at r i
  two_there i inside = rw (add_assoc start i 1, same i (omega arith), same (i + 1) inside)

  pub four_there : (i : ℕ) → i + 3 < w → four_at b (start + i) ≡ four_at r i
  four_there i inside = rw (add_assoc start i 2, two_there i (omega arith), two_there (i + 2) (omega arith))

-- what stands before the tail of a block
abbrev pub body : (held : List ℕ) → List ℕ
body held = held ++ replicate (in_tail.kind - length held) 0

pub body_long : (held : List ℕ) → length held ≤ in_tail.kind → length (body held) ≡ in_tail.kind
body_long held fits = simp (length-append, length-replicate) (omega arith)

-- a byte of the tail, by its place in the block
module _ (number : ℕ) (held : List ℕ) (first second : ℕ) (fits : length held ≤ in_tail.kind) where
  abbrev tail : List ℕ
  tail = kind_of number ∷ number ∷ replicate 12 0 ++ first ∷ second ∷ []

  tail_byte : (i : ℕ) → byte_at (block_bytes number held first second) (in_tail.kind + i) ≡ byte_at tail i
  tail_byte i =
      rw (append_assoc (body held) (kind_of number ∷ number ∷ replicate 12 0) (first ∷ second ∷ []))
      (rw (body_long held fits) at (get_or-append-add (body held) tail i 0))

  -- THE CLAIM: kind, block number and check stand at their places in the tail of each block
  pub tail_back :
      let s = block_bytes number held first second in
      (byte_at s in_tail.kind ≡ kind_of number) × (byte_at s in_tail.number ≡ number)
      × (byte_at s in_tail.check ≡ first) × (byte_at s (in_tail.check + 1) ≡ second)
  tail_back = (tail_byte 0, tail_byte 1, tail_byte 14, tail_byte 15)
