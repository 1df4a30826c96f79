use Rattle.std.proofs.Common.{refl, sym, ap, arith, ℕ, suc, zero, ◌≡◌, ◌+◌, ◌-◌, ◌≤◌, true, Some, not-suc-le-zero, Bool, not}
use Rattle.lists.proofs.Loops.{Scanned, scan_begin, scan_more, scan_found}
use Rattle.lists.specs.Words.{found}
use Rattle.lists.proofs.first_failing.Goals as goal

some_found : (k m : ℕ) → 1 ≤ k → k ≡ m → Some k ≡ found m
some_found zero m h e = absurd (not-suc-le-zero h)
some_found (suc k) m h e = rw (sym e) refl

-- the scan counts from 0
scanned_on : {n k : ℕ} {p : ℕ → Bool} {r : Bool} → Scanned n p (k - 1) → 1 ≤ k → k ≤ n → r ≡ p k → r ≡ true → Scanned n p k
scanned_on {n} {k} {p} s low high e t =
    let one : k - 1 + 1 ≡ k = omega arith in
    rw one at (scan_more s (omega arith) (rw one e) (ap not t))

pub loop-k-init : goal.loop-k-init
loop-k-init g c = λ p e. scan_begin

pub returns-then-not-ok : goal.returns-then-not-ok
returns-then-not-ok g c = λ p e.
    let one : c.loop-k.k - 1 + 1 ≡ c.loop-k.k = omega arith in
    some_found _ _ c.loop-k.auto.k (rw one at (scan_found (c.loop-k.invariant p e) (omega arith) (rw one (e _ _ c.ok.ensures)) (ap not c.if-not-ok.true)))

pub loop-k-preserved : goal.loop-k-preserved
loop-k-preserved g c = λ p e.
    let one : c.loop-k.k + 1 - 1 ≡ c.loop-k.k = omega arith in
    rw one (scanned_on (c.loop-k.invariant p e) c.loop-k.auto.k (omega (arith, c.loop-k-test.true)) (e _ _ c.ok.ensures) c.if-not-ok.false)
