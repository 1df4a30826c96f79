-- Rows of bytes of one length, one after the other, byte by byte; and the route records of a block, which are a part of the bytes that
-- the tables keep.
use Prim.Native.Nat.{ℕ, zero, suc, ◌+◌, ◌-◌, ◌*◌, ◌/◌, ◌%◌, ◌≤◌, ◌<◌}
use mathlib.Core.Path.{◌≡◌, refl, sym, ap, ◌∙◌}
use mathlib.Core.List.{List, ◌++◌, append-nil, append_assoc}
use native.Mathlib.Nat.{mul-suc, mul-zero, zero-add, not-suc-le-zero}
use native.Mathlib.Omega.{arith}
use lib.ListN.{length, take, drop, length-append, length-take, length-drop, get_or-append}
use lib.Seq.{ext_get_or, get_or-append-add, get_or-take, get_or-drop}
use Rattle.lists.specs.Words.{tabulate}
use Rattle.lists.proofs.Numbered.{nth_in, nth_index, nth_tabulate, length_tabulate}
use Rattle.file.specs.Bytes.{byte_at, put_at}
use Rattle.file.proofs.Rows.{put_next}
use Rattle.tables.specs.declared.Segment.{Segment}
use Rattle.tables.specs.Tables.{count_of, segment_at}
use Rattle.encoding.specs.Encoding.{rows, segment_record, segment_records, route_record, route_records}

-- one row more
rows_more : (n : ℕ) (f : ℕ → List ℕ) → rows (suc n) f ≡ rows n f ++ f (suc n)
unfolding rows
rows_more zero f = append-nil (f 1)
rows_more (suc n) f =
    rw (append_assoc (f 1) (rows n (λ (k : ℕ). f (suc k))) (f (suc (suc n)))) (ap (λ (l : List ℕ). f 1 ++ l) (rows_more n (λ (k : ℕ). f (suc k))))

-- rows of w bytes each
module _ (w : ℕ) where
  pub rows_long : (n : ℕ) (f : ℕ → List ℕ) → ((k : ℕ) → length (f k) ≡ w) → length (rows n f) ≡ w * n
  unfolding rows
  rows_long zero f each = sym (mul-zero w)
  rows_long (suc n) f each =
      length-append (f 1) (rows n (λ (k : ℕ). f (suc k)))
      ∙ rw (each 1, rows_long n (λ (k : ℕ). f (suc k)) (λ k. each (suc k)), mul-suc w n) (omega arith)

  -- byte i of row j + 1
  pub rows_at : (n : ℕ) (f : ℕ → List ℕ) → ((k : ℕ) → length (f k) ≡ w) → (j i : ℕ) → j < n → i < w → byte_at (rows n f) (w * j + i) ≡ byte_at (f (suc j)) i
  unfolding rows
  rows_at zero f each j i below inside = absurd (not-suc-le-zero below)
  rows_at (suc n) f each zero i below inside =
      rw (mul-zero w, zero-add i) (get_or-append (f 1) (rows n (λ (k : ℕ). f (suc k))) 0 i (rw (each 1) inside))
  rows_at (suc n) f each (suc j) i below inside =
      let e : w * suc j + i ≡ length (f 1) + (w * j + i) = rw (each 1, mul-suc w j) (omega arith) in
      rw e
      (get_or-append-add (f 1) (rows n (λ (k : ℕ). f (suc k))) (w * j + i) 0
      ∙ rows_at n (λ (k : ℕ). f (suc k)) (λ k. each (suc k)) j i (omega arith) inside)

  -- rows that are put into a buffer one after the other
  pub row_put :
      (n : ℕ) (f : ℕ → List ℕ) → ((k : ℕ) → length (f k) ≡ w) → (old : List ℕ) {before after row : List ℕ}
      → before ≡ put_at 0 (rows n f) old → row ≡ f (suc n) → after ≡ put_at (w * n) row before → after ≡ put_at 0 (rows (suc n) f) old
  row_put n f each old done e put =
      let here : w * n ≡ 0 + length (rows n f) = rw (rows_long n f each) (omega arith) in
      put ∙ rw (done, e, here, rows_more n f) (put_next 0 (rows n f) (f (suc n)) old)

-- the segment records of a block
module _ (segment : ℕ → Segment) (before : ℕ) where
  pub segments_long : length (segment_records segment before) ≡ 496
  segments_long = rows_long 16 31 (λ (k : ℕ). segment_record (segment (before + k))) (λ k. refl)

-- what the tables keep of the routes
module _ (routebytes : List ℕ) where
  route_long : (r : ℕ) → length (route_record routebytes r) ≡ 32
  route_long r = ap suc (length_tabulate 31 (segment_at routebytes r))

  -- byte i of route record r
  route_at : (r i : ℕ) → 1 ≤ r → i < 32 → byte_at (route_record routebytes r) i ≡ byte_at routebytes (32 * (r - 1) + i)
  unfolding count_of segment_at
  route_at r zero some inside =
      nth_in 0 routebytes (32 * r - 31) (omega arith) ∙ ap (byte_at routebytes) (omega arith)
  route_at r (suc p) some inside =
      sym (nth_index 0 (tabulate 31 (segment_at routebytes r)) p)
      ∙ nth_tabulate 0 31 (segment_at routebytes r) (p + 1) (omega arith) (omega arith)
      ∙ nth_in 0 routebytes (32 * r - 31 + (p + 1)) (omega arith)
      ∙ ap (byte_at routebytes) (omega arith)

  -- byte i of the records of a block
  pub routes_at : (before i : ℕ) → i < 480 → byte_at (route_records routebytes before) i ≡ byte_at routebytes (32 * before + i)
  routes_at before i inside =
      let j = i / 32 in
      let e : 32 * j + i % 32 ≡ i = omega arith in
      let f : 32 * (before + suc j - 1) + i % 32 ≡ 32 * before + i = omega arith in
      rw e at (rows_at 32 15 (λ (k : ℕ). route_record routebytes (before + k)) (λ k. route_long (before + k)) j (i % 32) (omega arith) (omega arith))
      ∙ route_at (before + suc j) (i % 32) (omega arith) (omega arith)
      ∙ ap (byte_at routebytes) f

  pub routes_long : (before : ℕ) → length (route_records routebytes before) ≡ 480
  routes_long before = rows_long 32 15 (λ (k : ℕ). route_record routebytes (before + k)) (λ k. route_long (before + k))

  -- THE CLAIM: the records of a block are 480 bytes of those that the tables keep
  pub routes_part : (before : ℕ) → 32 * before + 480 ≤ length routebytes → take 480 (drop (32 * before) routebytes) ≡ route_records routebytes before
  routes_part before room =
      let part = take 480 (drop (32 * before) routebytes) in
      let long : length part ≡ 480 = simp (length-take, length-drop) (omega arith) in
      ext_get_or 0 part (route_records routebytes before) (long ∙ sym (routes_long before))
      (λ i below.
      let inside : i < 480 = rw long at below in
      get_or-take 480 (drop (32 * before) routebytes) i 0 inside ∙ get_or-drop (32 * before) routebytes i 0 ∙ sym (routes_at before i inside))
