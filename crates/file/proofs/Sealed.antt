-- A block that is made in an array of zeros: what it holds, kind, block number, and its check last.
use Prim.Native.Nat.{ℕ, zero, suc, ◌+◌, ◌-◌, ◌≤◌}
use mathlib.Core.Path.{◌≡◌, sym, ap, ◌∙◌}
use mathlib.Core.List.{List, [], ◌∷◌, ◌++◌, append_assoc}
use native.Mathlib.Nat.{suc-add, zero-add}
use native.Mathlib.Omega.{arith}
use lib.ListN.{length, get_or, set, take, drop, replicate, length-append, length-replicate, replicate-append-replicate}
use lib.Seq.{take_all, take-append-add}
use Rattle.file.specs.Bytes.{put_at}
use Rattle.file.specs.Layout.{block_size, in_tail, kind_of, covered_bytes}
use Rattle.file.specs.Blocks.{sums, block_of}
use Rattle.file.proofs.Fields.{body, body_long}

-- a byte that is set after the bytes that come first
set_after : (p s : List ℕ) (i x : ℕ) → set (p ++ s) (length p + i) x ≡ p ++ set s i x
set_after [] s i x = ap (λ (k : ℕ). set s k x) (zero-add i)
set_after (y ∷ p) s i x = rw (suc-add (length p) i) (ap (λ (r : List ℕ). y ∷ r) (set_after p s i x))

abbrev padding : ℕ → List ℕ
padding n = replicate n 0

drop_padding : (k n : ℕ) → drop k (padding n) ≡ padding (n - k)
drop_padding zero n = let e : n ≡ n - 0 = omega arith in ap padding e
drop_padding (suc k) zero = let e : 0 ≡ 0 - suc k = omega arith in ap padding e
drop_padding (suc k) (suc n) = let e : n - k ≡ suc n - suc k = omega arith in drop_padding k n ∙ ap padding e

-- a row put into zeros
put_padding : (n : ℕ) (row : List ℕ) → length row ≤ n → put_at 0 row (padding n) ≡ row ++ padding (n - length row)
unfolding put_at
put_padding n row fits =
    let z : ℕ = 0 in
    rw (length-replicate n z, take_all (n - 0) row (omega arith), drop_padding (0 + length row) n, zero-add (length row))

module _ (number : ℕ) (held : List ℕ) (fits : length held ≤ in_tail.kind) where
  pub block_long : length (block_of number held) ≡ block_size
  unfolding block_of
  block_long = simp (length-append, length-replicate) (omega arith)

  -- what is set in the tail, and what is covered up to it
  set_in_tail : (s : List ℕ) (i x : ℕ) → set (body held ++ s) (in_tail.kind + i) x ≡ body held ++ set s i x
  set_in_tail s i x = rw (body_long held fits) at (set_after (body held) s i x)

  covered : (s : List ℕ) → take in_tail.check (body held ++ s) ≡ body held ++ take 14 s
  covered s = rw (body_long held fits) at (take-append-add (body held) s 14)

  held_put : (n : ℕ) → n ≡ block_size → put_at 0 held (padding n) ≡ body held ++ padding 16
  held_put n e =
      let z : ℕ = 0 in
      let pad = replicate-append-replicate (in_tail.kind - length held) 16 z in
      let all : in_tail.kind - length held + 16 ≡ n - length held = omega arith in
      put_padding n held (omega arith) ∙ ap (λ (l : List ℕ). held ++ l) (sym (pad ∙ ap padding all)) ∙ sym (append_assoc held (padding (in_tail.kind - length held)) (padding 16))

  -- THE CLAIM: kind and block number are set, the sums of the first 510 bytes are taken, and these are set: it is the block of that number
  pub sealed :
      (n : ℕ) → n ≡ block_size → (b : List ℕ) → b ≡ put_at 0 held (padding n) → (k : ℕ) → k ≡ kind_of number
      → let c = set (set b 496 k) 497 number in
      (check : List ℕ) → check ≡ (sums (take in_tail.check c)).first ∷ (sums (take in_tail.check c)).second ∷ []
      → set (set c 510 (get_or check 0 0)) 511 (get_or check 1 0) ≡ block_of number held
  unfolding block_of
  sealed n e b put k kind check sum =
      let named : set (set b 496 k) 497 number ≡ body held ++ (kind_of number ∷ number ∷ padding 14) =
      rw (put, held_put n e, set_in_tail (padding 16) 0 k, set_in_tail (k ∷ padding 15) 1 number, kind) in
      let found : check ≡ (sums (covered_bytes number held)).first ∷ (sums (covered_bytes number held)).second ∷ [] =
      rw (covered (kind_of number ∷ number ∷ padding 14)) at (rw named at sum) in
      let x = (sums (covered_bytes number held)).first in
      let y = (sums (covered_bytes number held)).second in
      rw (named, found, set_in_tail (kind_of number ∷ number ∷ padding 14) 14 x, set_in_tail (kind_of number ∷ number ∷ padding 12 ++ x ∷ 0 ∷ []) 15 y)
      (sym (append_assoc (body held) (kind_of number ∷ number ∷ padding 12) (x ∷ y ∷ [])))
