-- What is put is the row's first bytes, as many as the buffer has room for; none where the place is past the buffer's end.
use Prim.Native.Nat.{ℕ, ◌+◌, ◌-◌, ◌≤◌, ◌<◌, min}
use mathlib.Core.Path.{◌≡◌, sym, ◌∙◌}
use mathlib.Core.List.{List, ◌++◌, append-nil}
use native.Mathlib.Omega.{arith}
use lib.ListN.{length, take, drop, drop_of_length-le, length-take}
use lib.Seq.{take_all}
use Rattle.std.proofs.lemmas.Slice.{put_mid-paste}
use Rattle.lists.proofs.Cases.{cases, lt_or_le}
use Rattle.file.specs.Bytes.{put_at}
use Rattle.octets.proofs.put.Goals as goal

-- as many bytes as there is room for, from the first on
room : (at : ℕ) (row old : List ℕ) (m : ℕ) → at < length old → m ≡ min (length row) (length old - at) → take at old ++ take m row ++ drop (at + m) old ≡ put_at at row old
unfolding put_at
room at row old m inside e =
    cases (lt_or_le (length row) (length old - at))
    (λ h.
    let q : m ≡ length row = omega arith in
    rw (q, take_all (length row) row (omega arith), take_all (length old - at) row (omega arith)))
    (λ h.
    let q : m ≡ length old - at = omega arith in
    let end : length old ≤ at + m = omega arith in
    let end' : length old ≤ at + length row = omega arith in
    rw (drop_of_length-le old end, drop_of_length-le old end', q))

pub returns-then-start-buffer : goal.returns-then-start-buffer
returns-then-start-buffer c =
    let m = c.min-count.result in
    let e : m ≡ c.args.at + m - c.args.at = omega arith in
    let l : m ≡ length (take m c.args.row.now) = simp length-take (omega arith) in
    put_mid-paste c.args.at (c.args.at + m - c.args.at) c.args.buffer.now _ (take m c.args.row.now) m c.copy_from_slice.ensures.after e l
    ∙ rw (take_all m (take m c.args.row.now) (omega (arith, l))) (room c.args.at c.args.row.now c.args.buffer.now m c.if-start-buffer.true c.min-count.ensures)

pub returns-else-start-buffer : goal.returns-else-start-buffer
unfolding put_at
returns-else-start-buffer c =
    let n : length c.args.buffer.now - c.args.at ≡ 0 = omega arith in
    let h : length c.args.buffer.now ≤ c.args.at = omega arith in
    let h' : length c.args.buffer.now ≤ c.args.at + length c.args.row.now = omega arith in
    rw (n, take_all c.args.at c.args.buffer.now h, drop_of_length-le c.args.buffer.now h') (sym (append-nil _ ∙ append-nil _))
