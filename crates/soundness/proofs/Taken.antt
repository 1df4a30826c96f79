-- What is left of a list of allocations when the segments of which a test holds are taken away.
use Rattle.std.specs.Prelude.{if◌then◌else◌}
use Prim.Native.Nat.{ℕ, suc}
use mathlib.Core.Path.{◌≡◌, refl, ap, ◌∙◌}
use mathlib.Core.Bool.{Bool, false, ◌||◌}
use mathlib.Core.List.{List, [], ◌∷◌}
use Rattle.lists.specs.Words.{each}
use Rattle.lists.proofs.Cases.{by_test}
use Rattle.lists.proofs.Numbered.{each_same, each_keeps}

abbrev pub without : (ℕ → Bool) → List ℕ → List ℕ
without q l = each (λ (s h : ℕ). if q s then 0 else h) l

each_twice : (f g : ℕ → ℕ → ℕ) (l : List ℕ) → each f (each g l) ≡ each (λ (n x : ℕ). f n (g n x)) l
unfolding each
each_twice f g [] = refl
each_twice f g (x ∷ l) = ap (λ (r : List ℕ). f 1 (g 1 x) ∷ r) (each_twice (λ (n : ℕ). f (suc n)) (λ (n : ℕ). g (suc n)) l)

module _ (l : List ℕ) where
  pub without_none : (q : ℕ → Bool) → ((s : ℕ) → q s ≡ false) → without q l ≡ l
  without_none q none = each_keeps _ l (λ s h low high. rw (none s))

  pub without_same : (p q : ℕ → Bool) → ((s : ℕ) → p s ≡ q s) → without p l ≡ without q l
  without_same p q same = each_same _ _ l (λ s h low high. rw (same s))

  -- first those of one test, then those of another
  pub without_both : (p q : ℕ → Bool) → without q (without p l) ≡ without (λ (s : ℕ). p s || q s) l
  without_both p q =
      each_twice (λ (s h : ℕ). if q s then 0 else h) (λ (s h : ℕ). if p s then 0 else h) l
      ∙ each_same _ _ l
      (λ s h low high.
      by_test (p s) (λ e. rw e (by_test (q s) (λ f. rw f) (λ f. rw f))) (λ e. rw e))
