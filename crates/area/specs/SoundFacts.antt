-- What a sound record means, as plain facts (document 01, "A sound record"; document 02, R-4): a record of facts to be read beside the definition.
use Rattle.std.specs.Prelude.{ℕ, ◌≤◌, ◌≡◌, ◌⊎◌}
use Rattle.lists.specs.Words.{at}
use Rattle.tables.specs.Bounds.{most_segments}
use Rattle.tables.specs.Facts.{Meets}
use Rattle.trains.specs.Due.{position_due}
use Rattle.trains.specs.Train.{most_trains, off, train_at}
use Rattle.trains.specs.SoundFacts.{SoundTrain, SoundAllocation}
use Rattle.area.specs.declared.Area.{Area}

pub record SoundArea (a : Area) : Type 0 where
  pub tables : Meets a.tables
  pub due : a.due ≤ position_due
  -- a train off is all zero
  pub offs : (t : ℕ) → 1 ≤ t → t ≤ most_trains → (train_at a.trains t).route ≡ 0 → train_at a.trains t ≡ off
  pub ons : (t : ℕ) → 1 ≤ t → t ≤ most_trains → 1 ≤ (train_at a.trains t).route → SoundTrain a.tables a.allocations a.due t (train_at a.trains t)
  -- every allocation is 0, or the number of a train on that has the segment under it or as its next
  pub allocations :
      (s : ℕ) → 1 ≤ s → s ≤ most_segments → (at a.allocations s ≡ 0) ⊎ SoundAllocation a.tables a.trains s (at a.allocations s)
