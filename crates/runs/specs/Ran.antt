-- What a run of a script hands back and writes, by the list of calls that the script spells.
use Rattle.std.specs.Prelude.{ℕ, List, map, ◌++◌, length, drop, if◌then◌else◌}
use Rattle.area.specs.declared.Area.{Area}
use Rattle.answers.specs.Answers.{number_of}
use Rattle.loading.specs.Load.{loaded}
use Rattle.separation.specs.Runs.{World, is_done, after_from, begin, after}
use Rattle.runs.specs.declared.Ran.{Ran}
use Rattle.runs.specs.declared.FileRan.{FileRan}
use Rattle.runs.specs.Script.{ran_calls}

-- the answers' numbers stand at the start of the buffer, one for each call, and the rest of it is as it was
abbrev pub numbers_in : World → (calls : ℕ) → (old : List ℕ) → List ℕ
numbers_in w calls old = map number_of w.answers ++ drop calls old

-- ---- from an area record
abbrev pub world_of : Area → (script : List ℕ) (room : ℕ) → World
world_of a script room = after_from (begin a) (ran_calls script room)

abbrev pub ran_of : Area → (script : List ℕ) (room : ℕ) → Ran
ran_of a script room = record { area = (world_of a script room).area; calls = length (ran_calls script room) }

abbrev pub written : Area → (script old : List ℕ) → List ℕ
written a script old = numbers_in (world_of a script (length old)) (length (ran_calls script (length old))) old

-- ---- from a file: a refused one is answered with its refusal and the blank record, no call is run, and the buffer is as it was
abbrev pub file_world : (file script : List ℕ) (room : ℕ) → World
file_world file script room = after file (ran_calls script room)

abbrev pub file_ran_of : (file script : List ℕ) (room : ℕ) → FileRan
file_ran_of file script room =
    if is_done (loaded file).answer
    then record { answer = (loaded file).answer; area = (file_world file script room).area; calls = length (ran_calls script room) }
    else record { answer = (loaded file).answer; area = (loaded file).area; calls = 0 }

abbrev pub file_written : (file script old : List ℕ) → List ℕ
file_written file script old =
    if is_done (loaded file).answer
    then numbers_in (file_world file script (length old)) (length (ran_calls script (length old))) old
    else old
