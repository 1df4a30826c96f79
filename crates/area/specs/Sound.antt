-- A sound record (document 01, "A sound record"; document 02, R-4).
use Rattle.std.specs.Prelude.{ℕ, Bool, ◌&&◌, leb}
use Rattle.lists.specs.Words.{at, every}
use Rattle.tables.specs.Bounds.{most_segments}
use Rattle.tables.specs.Rules.{meets}
use Rattle.trains.specs.Due.{position_due}
use Rattle.trains.specs.Train.{most_trains, train_at}
use Rattle.trains.specs.Sound.{train_sound, allocation_sound}
use Rattle.area.specs.declared.Area.{Area}

-- tables meet 4 to 10; the step due is one of four; every train and every allocation is as it should be
unfoldable pub sound : Area → Bool
sound a =
    meets a.tables && leb a.due position_due
    && every most_trains (λ (t : ℕ). train_sound a.tables a.allocations a.due t (train_at a.trains t))
    && every most_segments (λ (s : ℕ). allocation_sound a.tables a.trains s (at a.allocations s))
