-- What is claimed of a record's tables written as a file (document 02, R-1): the answer and the buffer, for every record and buffer; that
-- the file loads as those tables; that an accepted file comes out the same. a is a record, old and new are the bytes of a buffer before
-- and after, n is the number of the answer, whose place is 0.
use Rattle.std.specs.Prelude.{ℕ, ◌<◌, ◌≡◌, not, List, [], ◌∷◌, eqb, length, if◌then◌else◌}
use Rattle.lists.specs.Tests.{Test, ◌⇒◌, first_of}
use Rattle.file.specs.Bytes.{byte_at}
use Rattle.file.specs.Layout.{file_size}
use Rattle.tables.specs.declared.Tables.{Tables}
use Rattle.reading.specs.Verdict.{verdict}
use Rattle.answers.specs.declared.Answer.{Answer}
use Rattle.answers.specs.declared.Answer.TheVariants.{Done}
use Rattle.answers.specs.Answers.{answer_of, number_of}
use Rattle.area.specs.declared.Area.{Area}
use Rattle.area.specs.declared.Outcome.{Outcome}
use Rattle.area.specs.Write.{write_answer, buffer_after}
use Rattle.loading.specs.Load.{fresh, loaded}
use Rattle.separation.specs.Calls.{Call}
use Rattle.kept.specs.Kept.{Reached}

-- of whatever a function is handed its type says this: bytes are below 256; the lists of the tables have the lengths of their arrays
abbrev pub Octets : List ℕ → Type 0
Octets s = (i : ℕ) → byte_at s i < 256

pub record Sized (T : Tables) : Type 0 where
  pub lengths : length T.lengths ≡ 62
  pub limits : length T.limits ≡ 62
  pub next : length T.next ≡ 124
  pub previous : length T.previous ≡ 124
  pub flags : length T.flags ≡ 62
  pub routebytes : length T.routebytes ≡ 960

-- load is done, with the fresh record of these tables
abbrev pub done_with : Tables → Outcome
done_with T = record { answer = Done; area = fresh T }

-- a write of a record into a buffer
pub record Written (a : Area) (old : List ℕ) (n : ℕ) (new : List ℕ) : Type 0 where
  pub number : n ≡ number_of (write_answer a old)
  pub buffer : new ≡ buffer_after a old
  -- "Loading that file gives those tables"
  pub loads : n ≡ 0 → loaded new ≡ done_with a.tables
  -- "an accepted file, loaded and written, comes out the same byte for byte": whatever calls came between
  pub same : (file : List ℕ) (calls : List Call) → Octets file → Reached file calls a → length old ≡ file_size → (n ≡ 0) × (new ≡ file)

-- a file loaded and then written into a buffer: load's refusals, then 22; 11 cannot come, since what load gives is sound. The buffer is
-- then the file
abbrev pub rewrite_tests : (file buffer : List ℕ) → List Test
rewrite_tests file buffer = verdict file ∷ not (eqb (length buffer) file_size) ⇒ 22 ∷ []

unfoldable pub rewrite_answer : (file buffer : List ℕ) → Answer
rewrite_answer file buffer = answer_of (first_of (rewrite_tests file buffer)).number (first_of (rewrite_tests file buffer)).place

unfoldable pub rewritten_to : (file buffer : List ℕ) → List ℕ
rewritten_to file buffer = if (first_of (rewrite_tests file buffer)).holds then buffer else file
