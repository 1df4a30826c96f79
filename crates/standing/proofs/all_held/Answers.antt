use Prim.Native.Nat.{ℕ, ◌+◌, ◌-◌, ◌≤◌}
use mathlib.Core.Path.{◌≡◌, sym, ◌∙◌}
use mathlib.Core.Logic.{inl}
use mathlib.Core.Bool.{true, false}
use mathlib.Core.List.{List}
use native.Mathlib.Omega.{arith}
use lib.Dec.{ltb}
use borrow.Author.Tests.{lt-ltb, le-ltb}
use Rattle.lists.specs.Words.{every}
use Rattle.lists.proofs.Cases.{either_yes}
use Rattle.lists.proofs.Loops.{every_more, every_fails, every_all, every_at}
use Rattle.standing.proofs.all_held.Invariants.{ok}
use Rattle.standing.proofs.all_held.Goals as goal
use Rattle.standing.proofs.all_held.Goals.{After-is_held}

-- before the rear's place nothing is asked
before : (routebytes allocations : List ℕ) (r rear n p : ℕ) → p ≤ rear - 1 → every p (ok routebytes allocations r rear n) ≡ true
before routebytes allocations r rear n p h =
    every_all _ p (λ k low high. either_yes (ltb k rear) _ (inl (lt-ltb k rear (omega arith))))

here :
    (c : After-is_held)
    → ok c.args.t.now.routebytes c.args.allocations.now c.args.x.route c.args.rear c.args.n c.loop-p.p ≡ c.is_held.result
here c = rw (le-ltb c.loop-p.p c.args.rear c.loop-p.invariant.0) (sym (rw c.segment_at.ensures at c.is_held.ensures))

-- and a place further on
further : (p : ℕ) (q : ℕ → mathlib.Core.Bool.Bool) → 1 ≤ p → every (p - 1) q ≡ true → q p ≡ true → every p q ≡ true
further p q low h e =
    let one : p - 1 + 1 ≡ p = omega arith in
    rw one at (every_more q (p - 1) h (rw one e))

pub loop-p-init : goal.loop-p-init
loop-p-init c = (omega (arith, c.max-p.ensures), before _ _ _ _ _ _ (omega (arith, c.max-p.ensures)))

pub returns-then-not-is_held : goal.returns-then-not-is_held
returns-then-not-is_held c =
    sym (every_fails _ _ c.loop-p.p (omega (arith, c.max-p.ensures)) c.loop-p-test.true (here (goal.at.returns-then-not-is_held c).After-is_held ∙ c.if-not-is_held.true))

pub loop-p-preserved : goal.loop-p-preserved
loop-p-preserved c =
    let one : c.loop-p.p + 1 - 1 ≡ c.loop-p.p = omega arith in
    (omega (arith, c.loop-p.invariant.0), rw one (further _ _ (omega (arith, c.max-p.ensures)) c.loop-p.invariant.1 (here (goal.at.loop-p-preserved c).After-is_held ∙ c.if-not-is_held.false)))

pub returns : goal.returns
returns c = sym (every_all _ _ (λ k low high. every_at _ (c.loop-p.p - 1) c.loop-p.invariant.1 k low (omega arith)))

pub returns-else-not-is_held : goal.returns-else-not-is_held
returns-else-not-is_held c =
    let all = further _ _ (omega (arith, c.max-p.ensures)) c.loop-p.invariant.1 (here (goal.at.returns-else-not-is_held c).After-is_held ∙ c.if-not-is_held.false) in
    sym (every_all _ _ (λ k low high. every_at _ c.loop-p.p all k low (omega arith)))
