-- The record after a grant has the facts that the papers ask for: those of one segment and of one train, at each of its numbers.
use Prim.Native.Nat.{ℕ, ◌≤◌}
use mathlib.Core.Path.{◌≡◌, sym, ap, ◌∙◌}
use mathlib.Core.List.{List}
use native.Mathlib.Omega.{arith}
use lib.ListN.{length}
use Rattle.lists.specs.Words.{at, each}
use Rattle.lists.proofs.Numbered.{nth_each_in}
use Rattle.tables.specs.declared.Tables.{Tables}
use Rattle.tables.specs.Bounds.{most_segments}
use Rattle.trains.specs.declared.Train.{Train}
use Rattle.trains.specs.Train.{most_trains, off, answered, train_at}
use Rattle.trains.specs.Grant.{train_count, granted, calmed}
use Rattle.trains.proofs.Grant.{grant_keeps, grant_asked, grant_first, grant_given, calmed_asks, calmed_rest, count_granted, count_lost, count_taken, count_kept}
use Rattle.area.specs.declared.Area.{Area}
use Rattle.area.specs.Calls.{after_grant}
use Rattle.area.specs.GrantFacts.{GrantFacts}

module _ (a : Area) (segments : length a.allocations ≡ most_segments) (numbers : length a.trains ≡ most_trains) where
  abbrev T : Tables
  T = a.tables

  abbrev A : List ℕ
  A = a.allocations

  abbrev X : List Train
  X = a.trains

  abbrev A' : List ℕ
  A' = each (granted T X) A

  abbrev X' : List Train
  X' = each (calmed T A A') X

  held_after : (s : ℕ) → 1 ≤ s → s ≤ most_segments → at A' s ≡ granted T X s (at A s)
  held_after s low high = nth_each_in 0 0 (granted T X) A s low (omega arith)

  free_after : (s : ℕ) → 1 ≤ s → s ≤ most_segments → at A s ≡ 0 → granted T X s 0 ≡ at A' s
  free_after s low high free = sym (held_after s low high ∙ ap (granted T X s) free)

  train_after_lem : (t : ℕ) → 1 ≤ t → t ≤ most_trains → train_at X' t ≡ calmed T A A' t (train_at X t)
  train_after_lem t low high = nth_each_in off off (calmed T A A') X t low (omega arith)

  count_after_lem : (t : ℕ) → 1 ≤ t → t ≤ most_trains → train_count X' t ≡ (calmed T A A' t (train_at X t)).count
  count_after_lem t low high = ap (λ (x : Train). x.count) (train_after_lem t low high)

  -- THE CLAIM: a grant step does what the papers say, of a record whose lists have their arrays' lengths
  pub grant_facts : GrantFacts a (after_grant a)
  unfolding after_grant
  grant_facts =
      record {
        keeps = λ s low high some. held_after s low high ∙ grant_keeps T X s (at A s) some;
        asked = λ s low high free some. grant_asked T X s (at A' s) low some (free_after s low high free);
        first = λ s u low high free q. grant_first T X s (at A' s) u (free_after s low high free) q;
        given = λ s u low high free q. rw (free_after s low high free) at (grant_given T X s u q);
        granted = λ t s q free own. count_after_lem t q.is_train.0 q.is_train.1 ∙ count_granted T X A A' t s q free own;
        lost = λ t s q free other. count_after_lem t q.is_train.0 q.is_train.1 ∙ count_lost T X A A' t s q free other;
        taken = λ t s q some. count_after_lem t q.is_train.0 q.is_train.1 ∙ count_taken T X A A' t s q some;
        kept = λ t low high idle. count_after_lem t low high ∙ count_kept T X A A' t idle;
        calm = λ t low high. ap (λ (x : Train). x.asks) (train_after_lem t low high) ∙ calmed_asks T X A A' t;
        rest = λ t low high. train_after_lem t low high ∙ calmed_rest T X A A' t ∙ ap (answered (train_at X t)) (sym (count_after_lem t low high));
      }
