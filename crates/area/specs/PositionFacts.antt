-- What a position step does, as plain facts in the papers' words (document 01, "The calls"; document 02, R-4), to be
-- read beside the definition.
use Rattle.std.specs.Prelude.{ℕ, ◌+◌, ◌≤◌, ◌<◌, ◌≡◌}
use Rattle.lists.specs.Words.{at}
use Rattle.tables.specs.Bounds.{most_segments}
use Rattle.tables.specs.Tables.{count_of}
use Rattle.trains.specs.declared.Train.{Train}
use Rattle.trains.specs.Train.{most_trains, moved_to, train_at, own_length}
use Rattle.trains.specs.Way.{start_after, way_of}
use Rattle.trains.specs.FreedFacts.{RearPasses}
use Rattle.area.specs.declared.Area.{Area}

-- a is the record before the step, b the one after it
module _ (a b : Area) where
  -- who holds segment s before, and after
  abbrev pub holder : ℕ → ℕ
  holder s = at a.allocations s

  abbrev pub holder_after : ℕ → ℕ
  holder_after s = at b.allocations s

  abbrev pub train : ℕ → Train
  train t = train_at a.trains t

  abbrev pub train_after : ℕ → Train
  train_after t = train_at b.trains t

  pub record PositionFacts : Type 0 where
    -- a free segment stays free
    pub free : (s : ℕ) → 1 ≤ s → s ≤ most_segments → holder s ≡ 0 → holder_after s ≡ 0
    -- a segment is freed where its train's rear comes to its end or past it in this step, "only then", and nothing else is freed
    pub freed : (s : ℕ) → 1 ≤ s → s ≤ most_segments → 1 ≤ holder s → RearPasses a.tables (train (holder s)) s → holder_after s ≡ 0
    pub kept : (s : ℕ) → 1 ≤ s → s ≤ most_segments → (RearPasses a.tables (train (holder s)) s → ⊥) → holder_after s ≡ holder s
    -- at most one segment is freed for a train
    pub one :
        (s u : ℕ) → 1 ≤ s → s ≤ most_segments → 1 ≤ u → u ≤ most_segments → 1 ≤ holder s → holder u ≡ holder s
        → holder_after s ≡ 0 → holder_after u ≡ 0 → s ≡ u
    -- "what lies before the route's first segment is outside the area": a train whose rear is not yet past the route's start frees nothing,
    -- and one at least as long as its whole route never does
    pub outside :
        (s : ℕ) → 1 ≤ s → s ≤ most_segments → 1 ≤ holder s
        → way_of a.tables (train (holder s)) + (train (holder s)).speed ≤ (train (holder s)).length → holder_after s ≡ holder s
    pub long :
        (s : ℕ) → 1 ≤ s → s ≤ most_segments → 1 ≤ holder s
        → start_after a.tables (train (holder s)).route (count_of a.tables.routebytes (train (holder s)).route) ≤ (train (holder s)).length
        → holder_after s ≡ holder s
    -- a train on runs on by its speed along its route and is before its segment's end, and nothing else of it changes
    pub way : (t : ℕ) → 1 ≤ t → t ≤ most_trains → 1 ≤ (train t).route → way_of a.tables (train_after t) ≡ way_of a.tables (train t) + (train t).speed
    pub inside : (t : ℕ) → 1 ≤ t → t ≤ most_trains → 1 ≤ (train t).route → (train_after t).position < own_length a.tables (train_after t)
    pub rest : (t : ℕ) → 1 ≤ t → t ≤ most_trains → train_after t ≡ moved_to (train t) (train_after t).place (train_after t).position
    -- a train off stays as it is
    pub off : (t : ℕ) → 1 ≤ t → t ≤ most_trains → (train t).route ≡ 0 → train_after t ≡ train t
