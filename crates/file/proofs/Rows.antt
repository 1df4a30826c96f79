-- A row of bytes that is being put into a buffer, and rows put one after the other, which are one row.
use Prim.Native.Nat.{ℕ, zero, suc, ◌+◌, ◌-◌, ◌≤◌}
use mathlib.Core.Path.{◌≡◌, sym, ap}
use mathlib.Core.List.{List, [], ◌∷◌, ◌++◌, append-nil}
use native.Mathlib.Nat.{suc-add, zero-add}
use native.Mathlib.Omega.{arith}
use lib.ListN.{length, drop_of_length-le}
use lib.Seq.{paste-zero, take_all, take-nil, drop-nil}
use Rattle.file.specs.Bytes.{put_at}

pub put_nothing : (at : ℕ) (old : List ℕ) → put_at at [] old ≡ old
unfolding put_at
put_nothing at old = rw (take-nil (length old - at)) (sym (paste-zero old at []))

-- what is put, by the place's and the buffer's first
put_past : (at : ℕ) (row : List ℕ) → put_at at row [] ≡ []
unfolding put_at
put_past at row = let e : 0 - at ≡ 0 = omega arith in rw (take-nil at, e, drop-nil (at + length row))

put_here : (x y : ℕ) (row old : List ℕ) → put_at 0 (x ∷ row) (y ∷ old) ≡ x ∷ put_at 0 row old
unfolding put_at
put_here x y row old =
    let e : suc (length old) - 0 ≡ suc (length old) = omega arith in
    let f : length old - 0 ≡ length old = omega arith in
    rw (zero-add (suc (length row)), zero-add (length row), e, f)

put_after : (at y : ℕ) (row old : List ℕ) → put_at (suc at) row (y ∷ old) ≡ y ∷ put_at at row old
unfolding put_at
put_after at y row old =
    let e : suc (length old) - suc at ≡ length old - at = omega arith in rw (suc-add at (length row), e)

-- rows put one after the other
pub put_next : (at : ℕ) (r s old : List ℕ) → put_at (at + length r) s (put_at at r old) ≡ put_at at (r ++ s) old
put_next zero [] s old = rw (put_nothing 0 old)
put_next zero (x ∷ r) s [] = rw (put_past 0 (x ∷ r), put_past (0 + length (x ∷ r)) s, put_past 0 (x ∷ (r ++ s)))
put_next zero (x ∷ r) s (y ∷ old) =
    rw (put_here x y r old, zero-add (suc (length r)), put_after (length r) x s (put_at 0 r old), put_here x y (r ++ s) old)
    (ap (λ (l : List ℕ). x ∷ l) (rw (zero-add (length r)) at (put_next zero r s old)))
put_next (suc at) r s [] = rw (put_past (suc at) r, put_past (suc at + length r) s, put_past (suc at) (r ++ s))
put_next (suc at) r s (y ∷ old) =
    rw (put_after at y r old, suc-add at (length r), put_after (at + length r) y s (put_at at r old), put_after at y (r ++ s) old)
    (ap (λ (l : List ℕ). y ∷ l) (put_next at r s old))

-- a row put over one of the same length
pub put_over : (row old : List ℕ) → length row ≡ length old → put_at 0 row old ≡ row
unfolding put_at
put_over row old same =
    let past : length old ≤ 0 + length row = omega arith in
    rw (take_all (length old - 0) row (omega arith), drop_of_length-le old past) (append-nil row)
