-- A state that was written reads back as it was: the bytes written start with the 64 before the trains, after which the row of each
-- train stands at its start, and the reader of a field of a row finds there what the row was made of.
use Prim.Native.Nat.{ℕ, suc, ◌+◌, ◌-◌, ◌*◌}
use mathlib.Core.Path.{◌≡◌, refl, ap}
use mathlib.Core.List.{List, [], ◌∷◌, ◌++◌, append_assoc}
use native.Mathlib.Omega.{arith}
use native.Mathlib.Nat.{add-suc, suc-add, zero-add}
use lib.ListN.{length, drop, length-append}
use lib.Seq.{take_all, get_or-append-add}
use Rattle.lists.specs.Words.{tabulate}
use Rattle.file.specs.Bytes.{byte_at, two_at, four_at, put_at}
use Rattle.file.proofs.Fields.{two_there, four_there}
use Rattle.trains.specs.declared.Train.{Train}
use Rattle.trains.specs.Train.{most_trains}
use Rattle.area.specs.declared.Area.{Area}
use Rattle.state.specs.State.{in_train, train_bytes, train_rows, head_size, head_bytes, train_start, train_of, state_bytes, state_into, record_of, ReadsBack}
use Rattle.state.proofs.Laws.{state_long, tables_decoded}

-- a row of bytes after one other, by number
bytes_back : (x : ℕ) (l rest : List ℕ) → tabulate (length l) (byte_at (x ∷ (l ++ rest))) ≡ l
unfolding tabulate
bytes_back x [] rest = refl
bytes_back x (y ∷ l) rest = ap (λ (r : List ℕ). y ∷ r) (bytes_back y l rest)

-- what is read after the bytes that come first
module _ (p s : List ℕ) (at : ℕ) (long : length p ≡ at) where
  byte_after : (i : ℕ) → byte_at (p ++ s) (at + i) ≡ byte_at s i
  byte_after i = rw long at (get_or-append-add p s i 0)

  two_after : (i : ℕ) → two_at (p ++ s) (at + i) ≡ two_at s i
  two_after i = two_there (p ++ s) s at (i + 2) (λ j inside. byte_after j) i (omega arith)

  four_after : (i : ℕ) → four_at (p ++ s) (at + i) ≡ four_at s i
  four_after i = four_there (p ++ s) s at (i + 4) (λ j inside. byte_after j) i (omega arith)

-- train t, whose row stands at its start
train_back : (p : List ℕ) (x : Train) (rest : List ℕ) (t : ℕ) → length p ≡ train_start t → train_of (p ++ (train_bytes x ++ rest)) t ≡ x
unfolding train_of
train_back p x rest t long =
    let s = train_bytes x ++ rest in
    let byte = byte_after p s (train_start t) long in
    let two = two_after p s (train_start t) long in
    let four = four_after p s (train_start t) long in
    let speed : two_at s in_train.speed ≡ x.speed = omega arith in
    let count : two_at s in_train.count ≡ x.count = omega arith in
    let size : two_at s in_train.length ≡ x.length = omega arith in
    let position : four_at s in_train.position ≡ x.position = omega arith in
    rw (byte in_train.route, byte in_train.place, byte in_train.asks)
    (rw (two in_train.speed, speed, two in_train.count, count, two in_train.length, size, four in_train.position, position))

-- the trains from number n + 1 on, whose rows come after those of the trains before
trains_back :
    (n : ℕ) (p : List ℕ) (trains : List Train) (rest : List ℕ) → length p ≡ head_size + 32 * n
    → tabulate (length trains) (λ (k : ℕ). train_of (p ++ (train_rows trains ++ rest)) (n + k)) ≡ trains
unfolding tabulate
trains_back n p [] rest long = refl
trains_back n p (x ∷ trains) rest long =
    let first = train_back p x (train_rows trains ++ rest) (n + 1) (omega arith) in
    let more = trains_back (suc n) (p ++ train_bytes x) trains rest (simp length-append (omega arith)) in
    rw first (ap (λ (r : List Train). x ∷ r) (simp add-suc (simp (append_assoc, suc-add) at more)))

-- bytes that start with a record's state
abbrev started : Area → List ℕ → List ℕ
started a rest = head_bytes a.due a.allocations ++ (train_rows a.trains ++ rest)

module _ (a : Area) (segments : length a.allocations ≡ 62) (numbers : length a.trains ≡ most_trains) where
  allocations_started : (rest : List ℕ) → tabulate 62 (byte_at (started a rest)) ≡ a.allocations
  allocations_started rest =
      let after = train_rows a.trains ++ rest in
      rw (append_assoc a.allocations (0 ∷ []) after) (rw segments at (bytes_back a.due a.allocations (0 ∷ after)))

  trains_started : (rest : List ℕ) → tabulate most_trains (train_of (started a rest)) ≡ a.trains
  trains_started rest =
      let head = head_bytes a.due a.allocations in
      rw numbers at (simp zero-add at (trains_back 0 head a.trains rest (simp (length-append, segments))))

  -- THE CLAIM: a state written over old bytes that have room for it, and read back beside a file that has the record's tables, is
  -- the record
  pub state_back : (old : List ℕ) → ReadsBack a old (state_into a old)
  unfolding state_into state_bytes put_at record_of
  state_back old file size tables room =
      let b = state_bytes a in
      let rest = drop (0 + length b) old in
      let long = state_long a segments numbers in
      rw (take_all (length old - 0) b (omega arith), append_assoc (head_bytes a.due a.allocations) (train_rows a.trains) rest)
      (rw (← tables_decoded file size, ← tables, allocations_started rest, trains_started rest))
