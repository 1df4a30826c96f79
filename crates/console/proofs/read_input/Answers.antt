use Rattle.std.proofs.Common.{◌≡◌, ℕ, ◌+◌, ◌-◌, ◌≤◌, List, ◌++◌, rules, length, take, sym, ap, ◌∙◌, subst, length-take-le}
use Rattle.std.proofs.Math.Seq.{take-append-add, take-append-le}
use Rattle.std.proofs.KnownBytes.{Consumes-trans}
use Rattle.std.specs.Io.KnownBytes.{Consumes}
use borrow.Rule.Slice.PartMut.{put_mid, post_of}
use Rattle.console.proofs.read_input.Goals as goal

-- the first bytes of a buffer into whose rest ys was read: those before the rest, and then the first of ys
take-read : (at room n : ℕ) (xs ys : List ℕ) → at ≤ length xs → n ≤ length ys
    → take at xs ++ take n ys ≡ take (at + n) (put_mid at room xs ys)
take-read at room n xs ys within fits =
    let rest = ys ++ post_of at room xs in
    ap (λ l. take at xs ++ l) (sym (take-append-le n ys (post_of at room xs) fits))
    ∙ sym (take-append-add (take at xs) rest n)
    ∙ ap (λ m. take (m + n) (take at xs ++ rest)) (length-take-le at xs within)

pub loop-count-preserved : goal.loop-count-preserved
loop-count-preserved g c =
    let joined = take-read c.loop-count.count (length c.loop-count.buffer - c.loop-count.count) c.in-Ok.n c.loop-count.buffer c.read.new.buf c.loop-count.invariant.0 (search rules) in
    (search rules, subst (Consumes _ _) joined (Consumes-trans _ _ _ _ _ c.loop-count.invariant.1 c.in-Ok.ensures.bytes.0))
