-- One block, byte by byte: what it holds, zeros, its tail. It meets rules 2 and 3, and no other block with its body does. And the blocks
-- of a file, which make it up.
use Prim.Native.Nat.{ℕ, zero, suc, ◌+◌, ◌-◌, ◌*◌, ◌/◌, ◌%◌, ◌≤◌, ◌<◌}
use mathlib.Core.Path.{◌≡◌, refl, sym, ap, ◌∙◌}
use mathlib.Core.Bool.{true}
use mathlib.Core.List.{List, [], ◌∷◌, ◌++◌}
use mathlib.Core.Logic.{inl, inr}
use native.Mathlib.Omega.{arith}
use lib.Dec.{ltb}
use lib.ListN.{length, take, drop, replicate, length-append, length-drop, take-append-drop, drop_of_length-le, get_or-append, get_or-eq_default}
use lib.Seq.{ext_get_or, get_or-take, get_or-drop, get_or-append-add, take_at, drop-cons, length-take-le}
use borrow.Author.Tests.{eq-eqb, lt-ltb}
use Rattle.lists.proofs.Cases.{cases, lt_or_le, either_yes}
use Rattle.lists.proofs.Numbered.{nth_index, nth_replicate}
use Rattle.file.specs.Bytes.{byte_at, zeros}
use Rattle.file.specs.Layout.{in_tail, kind_of, covered_bytes, first_route_block, route_zeros}
use Rattle.file.specs.Blocks.{blocks, block_size, file_size, block, sums, block_of, intact, filed}
use Rattle.file.proofs.Fields.{body, body_long, tail_back}
use Rattle.file.proofs.Meaning.{all_zeros, filed_means, intact_means}

-- zeros at the end change no byte, since a byte past the end is 0 too
pub padded : (l : List ℕ) (n i : ℕ) → byte_at (l ++ replicate n 0) i ≡ byte_at l i
padded [] n i = sym (nth_index 0 (replicate n 0) i) ∙ nth_replicate 0 n (i + 1)
padded (x ∷ l) n zero = refl
padded (x ∷ l) n (suc i) = padded l n i

module _ (k : ℕ) (held : List ℕ) (fits : length held ≤ in_tail.kind) where
  -- the tail up to the check
  abbrev tail : List ℕ
  tail = kind_of k ∷ k ∷ replicate 12 0

  covered_long : length (covered_bytes k held) ≡ in_tail.check
  covered_long = length-append (body held) tail ∙ rw (body_long held fits)

  covered_body : (i : ℕ) → i < in_tail.kind → byte_at (covered_bytes k held) i ≡ byte_at held i
  covered_body i inside = get_or-append (body held) tail 0 i (rw (body_long held fits) inside) ∙ padded held (in_tail.kind - length held) i

  covered_tail : (i : ℕ) → byte_at (covered_bytes k held) (in_tail.kind + i) ≡ byte_at tail i
  covered_tail i = rw (body_long held fits) at (get_or-append-add (body held) tail i 0)

  in_covered : (i : ℕ) → i < in_tail.check → byte_at (block_of k held) i ≡ byte_at (covered_bytes k held) i
  unfolding block_of
  in_covered i inside = get_or-append (covered_bytes k held) _ 0 i (rw covered_long inside)

  -- THE CLAIM: before its tail a block has the bytes that it holds, and zeros after them
  pub block_body : (i : ℕ) → i < in_tail.kind → byte_at (block_of k held) i ≡ byte_at held i
  block_body i inside = in_covered i (omega arith) ∙ covered_body i inside

  block_covers : take in_tail.check (block_of k held) ≡ covered_bytes k held
  unfolding block_of
  block_covers = take_at (covered_bytes k held) _ in_tail.check covered_long

  -- kind, number and the two sums stand in the tail
  stored :
      (byte_at (block_of k held) in_tail.kind ≡ kind_of k) × (byte_at (block_of k held) in_tail.number ≡ k)
      × (byte_at (block_of k held) in_tail.check ≡ (sums (covered_bytes k held)).first)
      × (byte_at (block_of k held) (in_tail.check + 1) ≡ (sums (covered_bytes k held)).second)
  unfolding block_of
  stored = tail_back k held (sums (covered_bytes k held)).first (sums (covered_bytes k held)).second fits

  -- THE CLAIM: a block meets rule 2
  pub block_intact : intact (block_of k held) ≡ true
  unfolding intact
  block_intact = rw (block_covers, eq-eqb _ _ (sym stored.2), eq-eqb _ _ (sym stored.3))

  tail_zero : (i : ℕ) → in_tail.zeros ≤ i → i ≤ in_tail.zeros_last → byte_at (block_of k held) i ≡ 0
  tail_zero i low high =
      let j = i - in_tail.zeros in
      let e : i ≡ in_tail.kind + suc (suc j) = omega arith in
      in_covered i (omega arith) ∙ ap (byte_at (covered_bytes k held)) e ∙ covered_tail (suc (suc j)) ∙ padded [] 12 j

  -- THE CLAIM: and rule 3, where what a route block holds leaves room for the zeros before the tail
  pub block_filed : (first_route_block ≤ k → length held ≤ route_zeros) → filed (block_of k held) k ≡ true
  unfolding filed
  block_filed room =
      let b = block_of k held in
      let rest = either_yes (ltb k first_route_block) (zeros b route_zeros in_tail.body_last)
      (cases (lt_or_le k first_route_block) (λ h. inl (lt-ltb k first_route_block h))
      (λ h.
      inr (all_zeros b route_zeros in_tail.body_last (λ i low high. block_body i (omega arith) ∙ get_or-eq_default held 0 (omega (arith, room h)))))) in
      rw (eq-eqb _ _ stored.0, eq-eqb _ _ stored.1, all_zeros b in_tail.zeros in_tail.zeros_last tail_zero, rest)

  -- bytes b with this body, filed as block k
  module _ (b : List ℕ) (long : length b ≡ block_size) (same : (i : ℕ) → i < in_tail.kind → byte_at b i ≡ byte_at held i) (f : filed b k ≡ true) where
    same_tail : (i : ℕ) → i < 14 → byte_at b (in_tail.kind + i) ≡ byte_at tail i
    same_tail zero below = (filed_means b k f).0
    same_tail (suc zero) below = (filed_means b k f).1
    same_tail (suc (suc i)) below = (filed_means b k f).2 (in_tail.kind + suc (suc i)) (omega arith) (omega arith) ∙ sym (padded [] 12 i)

    same_covered : take in_tail.check b ≡ covered_bytes k held
    same_covered =
        let l = length-take-le in_tail.check b (omega arith) in
        ext_get_or 0 (take in_tail.check b) (covered_bytes k held) (l ∙ sym covered_long)
        (λ i below.
        get_or-take in_tail.check b i 0 (rw l at below)
        ∙ cases (lt_or_le i in_tail.kind) (λ h. same i h ∙ sym (covered_body i h))
        (λ h.
        let e : i ≡ in_tail.kind + (i - in_tail.kind) = omega arith in
        rw e (same_tail (i - in_tail.kind) (omega arith) ∙ sym (covered_tail (i - in_tail.kind)))))

    -- THE CLAIM: and intact, they are this block: the tail is that of block k, and the check that of the same bytes
    pub block_same : intact b ≡ true → b ≡ block_of k held
    unfolding block_of
    block_same h =
        let check = intact_means b h in
        let ends : drop in_tail.check b ≡ byte_at b in_tail.check ∷ byte_at b (in_tail.check + 1) ∷ [] =
        drop-cons b in_tail.check 0 (omega arith)
        ∙ ap (λ (r : List ℕ). byte_at b in_tail.check ∷ r)
        (drop-cons b (in_tail.check + 1) 0 (omega arith) ∙ ap (λ (r : List ℕ). byte_at b (in_tail.check + 1) ∷ r) (drop_of_length-le b {i = block_size} (omega arith))) in
        sym (take-append-drop in_tail.check b) ∙ rw (ends, ← check.0, ← check.1, same_covered)

-- block k of any file
module _ (file : List ℕ) (k : ℕ) where
  pub block_at : (i : ℕ) → i < block_size → byte_at (block file k) i ≡ byte_at file (block_size * k + i)
  unfolding block
  block_at i inside = get_or-take block_size (drop (block_size * k) file) i 0 inside ∙ get_or-drop (block_size * k) file i 0

  pub block_size_lem : length file ≡ file_size → k < blocks → length (block file k) ≡ block_size
  unfolding block
  block_size_lem size below = length-take-le block_size (drop (block_size * k) file) (rw (length-drop (block_size * k) file) (omega arith))

-- files are the same where their blocks are
pub blocks_same :
    (f g : List ℕ) → length f ≡ file_size → length g ≡ file_size
    → ((k : ℕ) → k < blocks → block f k ≡ block g k) → f ≡ g
blocks_same f g long long' same =
    ext_get_or 0 f g (long ∙ sym long')
    (λ i below.
    let k = i / block_size in
    let j = i % block_size in
    let e : i ≡ block_size * k + j = omega arith in
    ap (byte_at f) e
    ∙ sym (block_at f k j (omega arith))
    ∙ ap (λ (b : List ℕ). byte_at b j) (same k (omega arith))
    ∙ block_at g k j (omega arith)
    ∙ sym (ap (byte_at g) e))
