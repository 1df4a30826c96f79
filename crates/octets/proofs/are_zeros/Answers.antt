use Prim.Native.Nat.{ℕ, ◌+◌, ◌-◌, ◌≤◌}
use mathlib.Core.Path.{◌≡◌, sym, ◌∙◌}
use mathlib.Core.Bool.{Bool, true}
use mathlib.Core.List.{List}
use native.Mathlib.Omega.{arith}
use native.Mathlib.Nat.{sub_self}
use borrow.Author.Tests.{eq-eqb, ne_eqb}
use lib.Dec.{eqb}
use Rattle.lists.specs.Words.{every}
use Rattle.lists.proofs.Cases.{cases, lt_or_le}
use Rattle.lists.proofs.Loops.{every_none, every_more, every_fails}
use Rattle.file.specs.Bytes.{byte_at, zeros}
use Rattle.octets.proofs.are_zeros.Invariants.{zeroAt}
use Rattle.octets.proofs.are_zeros.Goals as goal

-- the test of the byte at index i
at-index : (s : List ℕ) (first i : ℕ) (t : Bool) → first ≤ i → eqb (byte_at s i) 0 ≡ t → zeroAt s first (i - first + 1) ≡ t
at-index s first i t h e = let q : first + (i - first + 1) - 1 ≡ i = omega arith in rw q e

-- one byte more
more : (s : List ℕ) (first i b : ℕ) → first ≤ i → every (i - first) (zeroAt s first) ≡ true → b ≡ byte_at s i → b ≡ 0 → every (i + 1 - first) (zeroAt s first) ≡ true
more s first i b h before e z =
    let n : i + 1 - first ≡ i - first + 1 = omega arith in
    rw n (every_more _ _ before (at-index s first i _ h (eq-eqb _ _ (sym e ∙ z))))

pub loop-i-init : goal.loop-i-init
loop-i-init c = simp sub_self (every_none _)

pub returns-then-byte-ne0 : goal.returns-then-byte-ne0
unfolding zeros
returns-then-byte-ne0 c =
    sym
    (every_fails (zeroAt c.args.s.now c.args.first) (c.args.last + 1 - c.args.first) (c.loop-i.i - c.args.first + 1) (omega arith) (omega arith)
    (at-index c.args.s.now c.args.first c.loop-i.i _ (omega arith) (ne_eqb _ _ (λ q. c.if-byte-ne0.true (c.byte.ensures ∙ q)))))

pub loop-i-preserved : goal.loop-i-preserved
loop-i-preserved c = more _ _ _ _ c.loop-i.auto.i c.loop-i.invariant c.byte.ensures c.if-byte-ne0.false

pub returns : goal.returns
unfolding zeros
returns c =
    let none : c.args.last + 1 - c.args.first ≡ 0 =
    cases (lt_or_le c.args.last c.args.first) (λ l. omega arith) (λ l. absurd (omega (arith, c.loop-i.auto.i-end l))) in
    rw none (sym (every_none _))

pub returns-else-byte-ne0 : goal.returns-else-byte-ne0
unfolding zeros
returns-else-byte-ne0 c =
    let e : c.loop-i.i ≡ c.args.last = omega arith in
    sym (rw e at (more _ _ _ _ c.loop-i.auto.i c.loop-i.invariant c.byte.ensures c.if-byte-ne0.false))
