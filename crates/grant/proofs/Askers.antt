-- Of the trains that ask for each segment the one that goes before the others, gathered train by train.
use Rattle.std.specs.Prelude.{if◌then◌else◌}
use Prim.Native.Nat.{ℕ, ◌+◌, ◌-◌, ◌≤◌}
use mathlib.Core.Path.{◌≡◌, refl, sym, ap, ◌∙◌}
use mathlib.Core.Bool.{Bool, true, false, ◌||◌}
use mathlib.Core.List.{List}
use native.Mathlib.Omega.{arith}
use lib.Dec.{eqb}
use lib.ListN.{replicate}
use borrow.Author.Tests.{eq-eqb, ne_eqb}
use Rattle.lists.specs.Words.{at, each, tabulate}
use Rattle.lists.proofs.Cases.{cases, eq_or_ne}
use Rattle.lists.proofs.Numbered.{nth_tabulate, each_made, tabulate_same}
use Rattle.tables.specs.declared.Tables.{Tables}
use Rattle.trains.specs.declared.Train.{Train}
use Rattle.trains.specs.Train.{most_trains, train_at}
use Rattle.trains.specs.Order.{goes_before, foremost}
use Rattle.trains.specs.Grant.{asked, train_count, served}
use Rattle.trains.proofs.Order.{foremost_next}

if_same : (b : Bool) (x : ℕ) → x ≡ (if b then x else x)
if_same true x = refl
if_same false x = refl

module _ (T : Tables) (trains : List Train) where
  -- what the train of a number asks for
  abbrev pub asked_at : ℕ → ℕ
  asked_at n = asked T (train_at trains n)

  -- of the first i trains that ask for segment s, the one that goes before the others
  abbrev pub asker_of : (i s : ℕ) → ℕ
  asker_of i s = foremost (goes_before (train_count trains)) i (λ (n : ℕ). eqb (asked_at n) s)

  -- train n is served where u, 0 for nobody, was so far
  abbrev pub overtakes : (n u : ℕ) → Bool
  overtakes n u = eqb u 0 || goes_before (train_count trains) n u

  pub askers_begin : replicate 62 0 ≡ tabulate 62 (asker_of 0)
  unfolding tabulate foremost
  askers_begin = refl

  pub askers_over : tabulate 62 (asker_of most_trains) ≡ tabulate 62 (served T trains)
  unfolding served
  askers_over = refl

  module _ (i : ℕ) where
    asker_here : (k : ℕ) → k ≡ asked_at (i + 1) → asker_of (i + 1) k ≡ (if overtakes (i + 1) (asker_of i k) then i + 1 else asker_of i k)
    asker_here k q =
        rw (eq-eqb (asked_at (i + 1)) k (sym q)) at (foremost_next (goes_before (train_count trains)) (λ (n : ℕ). eqb (asked_at n) k) i)

    asker_other : (k : ℕ) → (k ≡ asked_at (i + 1) → ⊥) → asker_of (i + 1) k ≡ asker_of i k
    asker_other k n =
        rw (ne_eqb (asked_at (i + 1)) k (λ z. n (sym z))) at (foremost_next (goes_before (train_count trains)) (λ (m : ℕ). eqb (asked_at m) k) i)

    -- by what stands so far at the segment that train i + 1 asks for
    asker_more :
        (b : Bool) → overtakes (i + 1) (at (tabulate 62 (asker_of i)) (asked_at (i + 1))) ≡ b
        → (k : ℕ) → 1 ≤ k → k ≤ 62 → (if eqb k (asked_at (i + 1)) then (if b then i + 1 else asker_of i k) else asker_of i k) ≡ asker_of (i + 1) k
    asker_more b e k low high =
        cases (eq_or_ne k (asked_at (i + 1)))
        (λ q.
        let here : at (tabulate 62 (asker_of i)) (asked_at (i + 1)) ≡ asker_of i k = ap (at (tabulate 62 (asker_of i))) (sym q) ∙ nth_tabulate 0 62 (asker_of i) k low high in
        rw (eq-eqb k (asked_at (i + 1)) q, ← e, here) (sym (asker_here k q)))
        (λ n. rw (ne_eqb k (asked_at (i + 1)) n) (sym (asker_other k n)))

    module _ (s u : ℕ) (first : List ℕ) (made : first ≡ tabulate 62 (asker_of i)) (said : s ≡ asked_at (i + 1)) (before : u ≡ at first s) where
      taken_next : overtakes (i + 1) u ≡ true → each (λ (k h : ℕ). if eqb k s then i + 1 else h) first ≡ tabulate 62 (asker_of (i + 1))
      taken_next e =
          rw (said, made)
          (each_made (λ (k h : ℕ). if eqb k (asked_at (i + 1)) then i + 1 else h) 62 (asker_of i)
          ∙ tabulate_same 62 (λ (k : ℕ). if eqb k (asked_at (i + 1)) then i + 1 else asker_of i k) (asker_of (i + 1))
          (asker_more true (rw (before, said, made) at e)))

      kept_next : overtakes (i + 1) u ≡ false → first ≡ tabulate 62 (asker_of (i + 1))
      kept_next e =
          made
          ∙ tabulate_same 62 (asker_of i) (asker_of (i + 1))
          (λ k low high. if_same (eqb k (asked_at (i + 1))) (asker_of i k) ∙ asker_more false (rw (before, said, made) at e) k low high)

  -- the turn of train n
  module _ (n s u : ℕ) (first : List ℕ) (low : 1 ≤ n) (made : first ≡ tabulate 62 (asker_of (n - 1))) (said : s ≡ asked_at n) (before : u ≡ at first s) where
    one : n - 1 + 1 ≡ n
    one = omega arith

    pub askers_taken : overtakes n u ≡ true → each (λ (k h : ℕ). if eqb k s then n else h) first ≡ tabulate 62 (asker_of n)
    askers_taken e = rw one at (taken_next (n - 1) s u first made (rw one said) before (rw one e))

    pub askers_kept : overtakes n u ≡ false → first ≡ tabulate 62 (asker_of n)
    askers_kept e = rw one at (kept_next (n - 1) s u first made (rw one said) before (rw one e))
