-- What stands after a script, as the contracts name it.
use Rattle.std.specs.Prelude.{ℕ, ◌≤◌, ◌≡◌, List, length, if◌then◌else◌}
use Rattle.file.specs.Layout.{file_size}
use Rattle.area.specs.declared.Area.{Area}
use Rattle.loading.specs.Load.{loaded}
use Rattle.separation.specs.Runs.{is_done}
use Rattle.runs.specs.Ran.{file_ran_of}
use Rattle.state.specs.State.{state_into, state_size, record_of}

-- the record after the calls for whose answers there is room; the blank record where load refuses the file
abbrev pub area_after : (file script : List ℕ) (room : ℕ) → Area
area_after file script room = (file_ran_of file script room).area

-- a buffer into which its state is written; as it was where load refuses the file
abbrev pub state_after : (file script : List ℕ) (room : ℕ) (old : List ℕ) → List ℕ
state_after file script room old = if is_done (loaded file).answer then state_into (area_after file script room) old else old

-- the state that was written over the bytes `old` spells the record a, where there was room for it: handed in again with the file, it
-- continues the run
abbrev pub Continues : (file old new : List ℕ) → Area → Type 0
Continues file old new a = length file ≡ file_size → state_size ≤ length old → record_of file new ≡ a
