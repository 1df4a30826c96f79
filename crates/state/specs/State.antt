-- The running state of an area as bytes (docs/FORMATS.md): step due, allocations, trains. Bytes are counted from 0.
use Rattle.std.specs.Prelude.{ℕ, ◌+◌, ◌-◌, ◌*◌, ◌≤◌, ◌≡◌, List, [], ◌∷◌, ◌++◌, eqb, length, replicate, if◌then◌else◌}
use Rattle.lists.specs.Words.{tabulate}
use Rattle.file.specs.Bytes.{byte_at, two_at, four_at, two, four, put_at}
use Rattle.file.specs.Layout.{file_size}
use Rattle.tables.specs.declared.Tables.{Tables}
use Rattle.tables.specs.Tables.{blank_tables}
use Rattle.decoding.specs.Decoding.{decoded}
use Rattle.trains.specs.declared.Train.{Train}
use Rattle.trains.specs.Train.{most_trains}
use Rattle.area.specs.declared.Area.{Area}

-- a train's 32 bytes: route, place, asks (0 or 1 in a sound record), a zero, position, speed, count, length, zeros.
-- Where each stands, and all of them as a row
pub record TrainPlaces : Type 0 where
  pub route : ℕ
  pub place : ℕ
  pub asks : ℕ
  pub position : ℕ
  pub speed : ℕ
  pub count : ℕ
  pub length : ℕ

abbrev pub in_train : TrainPlaces
in_train = record { route = 0; place = 1; asks = 2; position = 4; speed = 8; count = 10; length = 12 }

abbrev pub train_bytes : Train → List ℕ
train_bytes x = x.route ∷ x.place ∷ x.asks ∷ 0 ∷ four x.position ++ two x.speed ++ two x.count ++ two x.length ++ replicate 18 0

-- the trains' rows one after the other
abbrev pub train_rows : List Train → List ℕ
train_rows [] = []
train_rows (x ∷ trains) = train_bytes x ++ train_rows trains

-- the 64 bytes before them: the step due, the allocations of the 62 segments, a zero
abbrev pub head_size : ℕ
head_size = 64

abbrev pub head_bytes : (due : ℕ) (allocations : List ℕ) → List ℕ
head_bytes due allocations = due ∷ allocations ++ 0 ∷ []

-- where train t starts
abbrev pub train_start : ℕ → ℕ
train_start t = head_size + 32 * (t - 1)

unfoldable pub state_bytes : Area → List ℕ
state_bytes a = head_bytes a.due a.allocations ++ train_rows a.trains

-- a buffer into which the state is written, as far as it has room; what it has beyond is as it was
unfoldable pub state_into : Area → List ℕ → List ℕ
state_into a old = put_at 0 (state_bytes a) old

-- ---- any record at all: the tables that a file's bytes spell, with no rule tested, and the state that some bytes spell
unfoldable pub tables_of : List ℕ → Tables
tables_of file = if eqb (length file) file_size then decoded file else blank_tables

unfoldable pub train_of : List ℕ → ℕ → Train
train_of state t =
    record {
      route = byte_at state (train_start t + in_train.route);
      place = byte_at state (train_start t + in_train.place);
      position = four_at state (train_start t + in_train.position);
      speed = two_at state (train_start t + in_train.speed);
      asks = byte_at state (train_start t + in_train.asks);
      count = two_at state (train_start t + in_train.count);
      length = two_at state (train_start t + in_train.length);
    }

unfoldable pub record_of : (file state : List ℕ) → Area
record_of file state =
    record {
      tables = tables_of file;
      allocations = tabulate 62 (byte_at state);
      trains = tabulate most_trains (train_of state);
      due = byte_at state 0;
    }

-- how many bytes a state has
abbrev pub state_size : ℕ
state_size = head_size + 32 * most_trains

-- new bytes, which were written over old ones that have room for a state, read as the record beside every file that has its tables:
-- a run goes on from there
abbrev pub ReadsBack : (a : Area) (old new : List ℕ) → Type 0
ReadsBack a old new =
    (file : List ℕ) → length file ≡ file_size → a.tables ≡ decoded file → state_size ≤ length old → record_of file new ≡ a
