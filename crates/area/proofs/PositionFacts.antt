-- The record after a position step has the facts that the papers ask for: those of one train and of what it frees, at each number.
use Prim.Native.Nat.{ℕ, ◌+◌, ◌≤◌}
use mathlib.Core.Path.{◌≡◌, refl, sym, ◌∙◌}
use mathlib.Core.Bool.{true, false}
use mathlib.Core.List.{List}
use native.Mathlib.Omega.{arith}
use lib.ListN.{length}
use Rattle.lists.specs.Words.{at, each}
use Rattle.lists.proofs.Cases.{if_case, by_test, cases, lt_or_le, is_false}
use Rattle.lists.proofs.Numbered.{nth_each_in}
use Rattle.tables.specs.declared.Tables.{Tables}
use Rattle.tables.specs.Bounds.{most_segments}
use Rattle.tables.specs.Facts.{Consistent}
use Rattle.tables.proofs.Consistency.{consistent}
use Rattle.trains.specs.declared.Train.{Train}
use Rattle.trains.specs.Due.{position_due}
use Rattle.trains.specs.Train.{most_trains, off, moved_to, train_at}
use Rattle.trains.specs.Cycle.{moves_in, moves_on, moved_in, moved, released, freed}
use Rattle.trains.specs.Way.{way_of}
use Rattle.trains.specs.FreedFacts.{RearPasses}
use Rattle.trains.proofs.Laws.{on_numbered}
use Rattle.trains.proofs.Moved.{Moved}
use Rattle.trains.proofs.Freed.{Movable, sound_movable, is_moved, released_iff, one_freed, outside_frees_none, long_frees_none}
use Rattle.trains.proofs.Calls.{left_freed, others_stay}
use Rattle.area.specs.declared.Area.{Area}
use Rattle.area.specs.Sound.{sound}
use Rattle.area.specs.SoundFacts.{SoundArea}
use Rattle.area.specs.Calls.{after_position}
use Rattle.area.specs.PositionFacts.{PositionFacts}
use Rattle.area.proofs.Soundness.{sound_iff}

module _
    (a : Area) (segments : length a.allocations ≡ most_segments) (numbers : length a.trains ≡ most_trains) (ok : sound a ≡ true)
    (due : a.due ≡ position_due) where
  abbrev T : Tables
  T = a.tables

  abbrev A : List ℕ
  A = a.allocations

  abbrev X : List Train
  X = a.trains

  facts : SoundArea a
  facts = (sound_iff a numbers).0 ok

  K : Consistent T
  K = consistent T facts.tables

  movable : (t : ℕ) → 1 ≤ t → t ≤ most_trains → 1 ≤ (train_at X t).route → Movable T (train_at X t)
  movable t low high on = sound_movable T K A t (train_at X t) on (rw due at (facts.ons t low high on))

  -- who holds a segment is a train on
  holder_is : (s : ℕ) → 1 ≤ s → s ≤ most_segments → 1 ≤ at A s → Movable T (train_at X (at A s))
  holder_is s low high some =
      cases (facts.allocations s low high) (λ z. absurd (omega arith))
      (λ g. let n = on_numbered X numbers (at A s) g.on in movable (at A s) n.0 n.1 g.on)

  held_after : (s : ℕ) → 1 ≤ s → s ≤ most_segments → at (each (freed T X) A) s ≡ freed T X s (at A s)
  held_after s low high = nth_each_in 0 0 (freed T X) A s low (omega arith)

  train_after_lem : (t : ℕ) → 1 ≤ t → t ≤ most_trains → train_at (each (λ (k : ℕ). moved T) X) t ≡ moved T (train_at X t)
  train_after_lem t low high = nth_each_in off off (λ (k : ℕ). moved T) X t low (omega arith)

  -- it stays where nothing is released
  stays : (s : ℕ) → 1 ≤ s → s ≤ most_segments → released T (train_at X (at A s)) s ≡ false → at (each (freed T X) A) s ≡ at A s
  stays s low high r = held_after s low high ∙ others_stay T X s (at A s) r

  -- what is free and was not was released
  was_released : (s : ℕ) → 1 ≤ s → s ≤ most_segments → 1 ≤ at A s → at (each (freed T X) A) s ≡ 0 → released T (train_at X (at A s)) s ≡ true
  was_released s low high some z =
      by_test (released T (train_at X (at A s)) s) (λ r. r) (λ r. absurd (omega (arith, sym (stays s low high r) ∙ z)))

  still_free : (s : ℕ) → 1 ≤ s → s ≤ most_segments → at A s ≡ 0 → at (each (freed T X) A) s ≡ 0
  unfolding freed
  still_free s low high z = held_after s low high ∙ rw z (if_case (λ (h : ℕ). h ≡ 0) (released T (train_at X 0) s) (λ e. refl) (λ e. refl))

  kept_there : (s : ℕ) → 1 ≤ s → s ≤ most_segments → (RearPasses T (train_at X (at A s)) s → ⊥) → at (each (freed T X) A) s ≡ at A s
  kept_there s low high no-pass =
      cases (lt_or_le (at A s) 1) (λ z. let e : at A s ≡ 0 = omega arith in still_free s low high e ∙ sym e)
      (λ some.
      let v = holder_is s low high some in
      stays s low high (is_false (released T (train_at X (at A s)) s) (λ r. no-pass ((released_iff T K (train_at X (at A s)) v s).0 r))))

  rest_of : (x : Train) → moved T x ≡ moved_to x (moved T x).place (moved T x).position
  unfolding moved_in
  rest_of x = by_test (moves_on T x) (λ e. rw e) (λ e. rw e)

  off_rests : (U : Tables) → moved U off ≡ off
  unfolding moves_in moved_in
  off_rests U = refl

  way_of_lem : (x y : Train) → Moved T K x y → way_of T y ≡ way_of T x + x.speed
  way_of_lem x y m = rw m.route m.way

  -- THE CLAIM: a position step on a sound record with position due does what the papers say, of a record whose lists have their arrays'
  -- lengths
  pub position_facts : PositionFacts a (after_position a)
  unfolding after_position
  position_facts =
      record {
        free = still_free;
        freed =
            λ s low high some p.
            held_after s low high
            ∙ left_freed T X s (at A s) ((released_iff T K (train_at X (at A s)) (holder_is s low high some) s).1 p);
        kept = kept_there;
        one =
            λ s u lowS highS lowU highU some same freeS freeU.
            one_freed T K (train_at X (at A s)) (holder_is s lowS highS some) s u
            (was_released s lowS highS some freeS)
            (rw same at (was_released u lowU highU (omega arith) freeU));
        outside = λ s low high some h. stays s low high (outside_frees_none T K (train_at X (at A s)) (holder_is s low high some) h s);
        long = λ s low high some h. stays s low high (long_frees_none T K (train_at X (at A s)) (holder_is s low high some) h s);
        way =
            λ t low high on.
            rw (train_after_lem t low high) (way_of_lem (train_at X t) (moved T (train_at X t)) (is_moved T K (train_at X t) (movable t low high on)));
        inside =
            λ t low high on.
            rw (train_after_lem t low high) (is_moved T K (train_at X t) (movable t low high on)).inside;
        rest = λ t low high. rw (train_after_lem t low high) (rest_of (train_at X t));
        off =
            λ t low high z.
            let e = facts.offs t low high z in
            rw (train_after_lem t low high, e) (off_rests T);
      }
