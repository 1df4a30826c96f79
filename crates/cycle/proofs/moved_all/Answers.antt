-- The room that is required of every train by its number is the room of the entry that each turn moves.
use Prim.Native.Nat.{ℕ, ◌+◌, ◌<◌}
use mathlib.Core.Path.{◌≡◌}
use mathlib.Core.List.{List}
use lib.ListN.{length, get_or}
use native.Mathlib.Omega.{arith}
use borrow.Author.Rules.{rules}
use Rattle.std.proofs.lemmas.List.{get_or_default}
use Rattle.lists.proofs.Numbered.{nth_index}
use Rattle.trains.specs.declared.Train.{Train}
use Rattle.trains.specs.Train.{off, train_at}
use Rattle.steps.specs.Room.{Room}
use Rattle.cycle.proofs.moved_all.Goals as goal

roomy :
    (trains : List Train) → length trains ≡ 24 → ((n : ℕ) → Room (train_at trains n)) → (i : ℕ) (d : Train) → i < 24
    → Room (get_or trains i d)
roomy trains long room i d below =
    rw (get_or_default trains i d off (omega arith)) (rw (nth_index off trains i) at (room (i + 1)))

pub each-requires : goal.each-requires
each-requires c = let r = roomy c.args.trains.now c.told-trains c.requires in search rules
