use Prim.Native.Nat.{ℕ, ◌+◌, ◌-◌, ◌≤◌, min}
use mathlib.Core.Path.{◌≡◌, sym, ap, ◌∙◌}
use mathlib.Core.Bool.{Bool, ◌||◌}
use mathlib.Core.List.{List}
use native.Mathlib.Omega.{arith}
use lib.Dec.{eqb}
use borrow.Author.Tests.{le-leb, lt-leb, eq-eqb, ne_eqb}
use Rattle.lists.specs.Words.{some}
use Rattle.lists.proofs.Cases.{cases, eq_or_ne}
use Rattle.lists.proofs.Some.{none_some, some_next}
use Rattle.tables.specs.Tables.{segment_at}
use Rattle.soundness.proofs.Taken.{without, without_none, without_same, without_both}
use Rattle.soundness.proofs.take_under.Invariants.{stands}
use Rattle.soundness.proofs.take_under.Goals as goal

-- the test of two numbers, either way
swapped : (a b : ℕ) → eqb a b ≡ eqb b a
swapped a b =
    cases (eq_or_ne a b) (λ e. eq-eqb a b e ∙ sym (eq-eqb b a (sym e))) (λ n. ne_eqb a b n ∙ sym (ne_eqb b a (λ e. n (sym e))))

module _ (routebytes : List ℕ) (r rear : ℕ) (l : List ℕ) where
  abbrev upto : ℕ → List ℕ
  upto p = without (λ (s : ℕ). some p (stands routebytes r rear s)) l

  -- there is none before the rear's place
  none_before : (p : ℕ) → p ≤ rear - 1 → l ≡ upto p
  none_before p h =
      sym (without_none l _ (λ s. none_some (stands routebytes r rear s) p (λ k low high. rw (lt-leb rear k (omega arith)))))

  -- one place more
  more : (p m : ℕ) {left new : List ℕ} → m + 1 ≡ p → rear ≤ p → left ≡ upto m → new ≡ without (λ (s : ℕ). eqb s (segment_at routebytes r p)) left → new ≡ upto p
  more p m {left} {new} e from so next =
      let before : ℕ → Bool = λ s. some m (stands routebytes r rear s) in
      let one : ℕ → Bool = λ s. eqb s (segment_at routebytes r p) in
      let one_more : (s : ℕ) → (before s || one s) ≡ some p (stands routebytes r rear s) =
      λ s. rw (← e, some_next (stands routebytes r rear s) m, e, le-leb rear p from) (ap (λ (b : Bool). before s || b) (swapped s (segment_at routebytes r p))) in
      next ∙ (ap (without one) so ∙ (without_both l before one ∙ without_same l _ _ one_more))

pub loop-p-init : goal.loop-p-init
loop-p-init c = none_before _ _ _ _ _ (omega arith)

pub loop-p-preserved : goal.loop-p-preserved
loop-p-preserved c =
    let here : min (c.loop-p.p + 1 - 1) c.args.place ≡ c.loop-p.p = omega arith in
    rw here
    (more _ _ _ _ c.loop-p.p (min (c.loop-p.p - 1) c.args.place) (omega arith) (omega arith) c.loop-p.invariant (rw c.segment_at.ensures at c.set_entry.ensures))

pub returns-2 : goal.returns-2
returns-2 c =
    let last : c.loop-p.p ≡ c.args.place = omega arith in
    more _ _ _ _ c.args.place (min (c.loop-p.p - 1) c.args.place) (omega arith) (omega arith) c.loop-p.invariant (rw (c.segment_at.ensures, last) at c.set_entry.ensures)
