-- The laws of the allocations' word: the fold that builds it, the count of its ones, and the zeros below the lowest one of its
-- complement.
use Rattle.std.specs.Prelude.{if◌then◌else◌}
use Prim.Native.Nat.{ℕ, zero, suc, ◌+◌, ◌-◌, ◌*◌, ◌/◌, ◌%◌, ◌^◌, ◌≤◌, ◌<◌}
use mathlib.Core.Path.{◌≡◌, refl}
use mathlib.Core.Bool.{Bool, true, false, not}
use mathlib.Core.List.{List, [], ◌∷◌, reverse, reverse-cons}
use native.Mathlib.Nat.{pow-suc}
use native.Mathlib.Numerals.{add-one, sub-one}
use native.Mathlib.Omega.{arith}
use lib.Count.{ones, ones_step, ones-le, count_trailing_zeros, trailing_le, under}
use lib.ListN.{length, drop, get_or, length-drop}
use lib.Pow.{pow_mono, pow_pos}
use lib.Seq.{drop-cons, drop-length}
use Rattle.std.specs.List.{fold}
use Rattle.std.specs.Int.Bits.{bit_or}
use Rattle.std.proofs.lemmas.Nat.{or_shifted}
use Rattle.std.proofs.lemmas.List.Sums.{fold_push}
use Rattle.lists.specs.Words.{at, least}
use Rattle.lists.proofs.Numbered.{nth_index}
use Rattle.lists.proofs.Loops.{least_nothing, least_more, least_found}
use Rattle.lists.proofs.Cases.{if_case, by_test}
use Rattle.summary.specs.Summary.{is_free, allocated_in}
use Rattle.summary.specs.Word.{bit_of, word_of}

bit_lt : (h : ℕ) → bit_of h < 2
unfolding bit_of
bit_lt h = by_test (is_free h) (λ e. rw e (omega arith)) (λ e. rw e (omega arith))

pub bit_small : (h b : ℕ) → b ≡ bit_of h → b < 2
bit_small h b e = rw e (bit_lt h)

word_lt : (A : List ℕ) → word_of A < 2 ^ length A
unfolding word_of
word_lt [] = omega arith
word_lt (h ∷ A) = rw pow-suc (omega (arith, word_lt A, bit_lt h))

-- a segment's bit goes in below those of the segments above it; none of 64 is shifted out
abbrev pub with_bit : (word h : ℕ) → ℕ
with_bit word h = bit_or (word * 2 ^ 1 % 2 ^ 64) (bit_of h)

with_bit_is : (word h : ℕ) → word < 2 ^ 63 → with_bit word h ≡ word * 2 + bit_of h
with_bit_is word h fits =
    let whole : word * 2 ^ 1 % 2 ^ 64 ≡ word * 2 ^ 1 = omega arith in
    rw whole (or_shifted word 1 (bit_of h) (bit_lt h))

pub word_folded : (A : List ℕ) → length A < 64 → fold with_bit 0 (reverse A) ≡ word_of A
unfolding word_of
word_folded [] fits = refl
word_folded (h ∷ A) fits =
    let w : word_of A < 2 ^ 63 = omega (arith, word_lt A, pow_mono {i = length A} {j = 63} (omega arith)) in
    rw (reverse-cons h A, fold_push with_bit 0 (reverse A) h, word_folded A (omega arith)) (with_bit_is (word_of A) h w)

-- a segment after the other, from the highest to the lowest: none is taken yet, one more is, all are, and the word of those taken fits
pub word_begin : (A : List ℕ) (n : ℕ) → length A ≡ n → 0 ≡ word_of (drop n A)
unfolding word_of
word_begin A n e = rw (← e, drop-length)

pub word_step : (A : List ℕ) (i w b : ℕ) → 0 < i → i ≤ length A → w ≡ word_of (drop i A) → b ≡ bit_of (get_or A (i - 1) 0) → w * 2 + b ≡ word_of (drop (i - 1) A)
unfolding word_of
word_step A zero w b p h e q = absurd (omega arith)
word_step A (suc i) w b p h e q = rw (e, q, sub-one, drop-cons A i 0)

pub word_over : (A : List ℕ) (i w : ℕ) → i ≤ 0 → w ≡ word_of (drop i A) → w ≡ word_of A
word_over A zero w h e = e
word_over A (suc i) w h e = absurd (omega arith)

pub word_fits : (A : List ℕ) (i w : ℕ) → length A ≡ 62 → w ≡ word_of (drop i A) → w < 2 ^ 62
word_fits A i w h e = let m : length (drop i A) ≤ 62 = rw length-drop (omega arith) in omega (arith, word_lt (drop i A), pow_mono m)

-- the ones are the allocated segments
half : (w b : ℕ) → b < 2 → (w * 2 + b) / 2 ≡ w
half w b h = omega arith

odd : (w b : ℕ) → b < 2 → (w * 2 + b) % 2 ≡ b
odd w b h = omega arith

bit_counted : (h : ℕ) → bit_of h ≡ (if is_free h then 0 else 1)
unfolding bit_of
bit_counted h = by_test (is_free h) (λ e. rw e refl) (λ e. rw e refl)

ones_word : (A : List ℕ) → ones (word_of A) ≡ allocated_in A
unfolding word_of allocated_in ones
ones_word [] = refl
ones_word (h ∷ A) = rw (ones_step, odd (word_of A) (bit_of h) (bit_lt h), half (word_of A) (bit_of h) (bit_lt h), ones_word A, bit_counted h)

pub ones_of : (A : List ℕ) (w : ℕ) → w ≡ word_of A → ones w ≡ allocated_in A
ones_of A w e = rw e (ones_word A)

-- how many segments are allocated before the first free one
unfoldable pub taken : List ℕ → ℕ
taken [] = 0
taken (h ∷ A) = if is_free h then 0 else suc (taken A)

-- the zeros below the lowest one of the complement in k bits, where k is more than the segments
low : (k w b : ℕ) → w < 2 ^ k → b < 2 → ((2 ^ suc k - 1) - (w * 2 + b)) % 2 ≡ 1 - b
low k w b h g = rw pow-suc (omega arith)

rest : (k w b : ℕ) → w < 2 ^ k → b < 2 → ((2 ^ suc k - 1) - (w * 2 + b)) / 2 ≡ (2 ^ k - 1) - w
rest k w b h g = rw pow-suc (omega arith)

under_bit : (f : Bool) (t : ℕ) → under (1 - (if f then 0 else 1)) t ≡ (if f then 0 else suc t)
under_bit true t = refl
under_bit false t = refl

zeros_word : (k : ℕ) (A : List ℕ) → length A < k → count_trailing_zeros k ((2 ^ k - 1) - word_of A) ≡ taken A
unfolding count_trailing_zeros word_of taken
zeros_word zero A h = absurd (omega arith)
zeros_word (suc k) [] h = rw (low k 0 0 (pow_pos k) (omega arith))
zeros_word (suc k) (a ∷ A) h =
    let w : word_of A < 2 ^ k = omega (arith, word_lt A, pow_mono {i = length A} {j = k} (omega arith)) in
    rw (low k (word_of A) (bit_of a) w (bit_lt a), rest k (word_of A) (bit_of a) w (bit_lt a), zeros_word k A (omega arith), bit_counted a) (under_bit (is_free a) (taken A))

pub zeros_of : (A : List ℕ) (w : ℕ) → length A ≡ 62 → w ≡ word_of A → count_trailing_zeros 64 (18446744073709551615 - w) ≡ taken A
zeros_of A w h e = rw e (zeros_word 64 A (omega arith))

-- the segments before it are allocated, and it is free; past the end there is 0
first_taken : (f : Bool) (t : ℕ) → 0 < (if f then 0 else t) → f ≡ false
first_taken true t h = absurd (omega arith)
first_taken false t h = refl

less_taken : (f : Bool) (i t : ℕ) → suc i < (if f then 0 else suc t) → i < t
less_taken true i t h = absurd (omega arith)
less_taken false i t h = omega arith

taken_at : (A : List ℕ) (i : ℕ) → i < taken A → is_free (get_or A i 0) ≡ false
unfolding taken
taken_at [] i b = absurd (omega arith)
taken_at (h ∷ A) zero b = first_taken (is_free h) _ b
taken_at (h ∷ A) (suc i) b = taken_at A i (less_taken (is_free h) i (taken A) b)

free_at : (A : List ℕ) → is_free (get_or A (taken A) 0) ≡ true
unfolding taken
free_at [] = refl
free_at (h ∷ A) = if_case (λ (t : ℕ). is_free (get_or (h ∷ A) t 0) ≡ true) (is_free h) (λ e. e) (λ e. free_at A)

-- both counts of 64 bits fit a byte
pub ones_fit : (w : ℕ) → w < 2 ^ 64 → ones w < 256
ones_fit w h = omega (arith, ones-le 64 w h)

pub zeros_fit : (w : ℕ) → count_trailing_zeros 64 w < 256
zeros_fit w = omega (arith, trailing_le 64 w)

module _ (A : List ℕ) where
  abbrev pub free_in : ℕ → Bool
  free_in s = is_free (at A s)

  pub none_within : (n : ℕ) → n ≤ taken A → least n free_in ≡ 0
  none_within zero h = least_nothing free_in
  none_within (suc n) h = rw (← add-one n) (least_more free_in n (none_within n (omega arith)) (rw nth_index (taken_at A n h)))

  pub free_within : (n : ℕ) → taken A < n → least n free_in ≡ taken A + 1
  free_within n h = least_found free_in n (taken A) (none_within (taken A) (omega arith)) h (rw nth_index (free_at A))
