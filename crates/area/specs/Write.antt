-- The tables of an area written back out as a file (document 02, R-1) into a lent buffer. Trains are not written.
use Rattle.std.specs.Prelude.{ℕ, not, List, [], ◌∷◌, eqb, length, if◌then◌else◌}
use Rattle.lists.specs.Tests.{Test, ◌⇒◌, first_of}
use Rattle.file.specs.Layout.{file_size}
use Rattle.encoding.specs.Encoding.{encoded}
use Rattle.answers.specs.declared.Answer.{Answer}
use Rattle.answers.specs.Answers.{answer_of}
use Rattle.area.specs.declared.Area.{Area}
use Rattle.area.specs.Sound.{sound}

-- "22, the buffer isn't 2,560 bytes, after 11"
abbrev pub write_tests : Area → (buffer : List ℕ) → List Test
write_tests a buffer = not (sound a) ⇒ 11 ∷ not (eqb (length buffer) file_size) ⇒ 22 ∷ []

unfoldable pub write_answer : Area → (buffer : List ℕ) → Answer
write_answer a buffer = answer_of (first_of (write_tests a buffer)).number (first_of (write_tests a buffer)).place

-- the buffer after the call: the file of the tables; "either refusal leaves the buffer untouched"
unfoldable pub buffer_after : Area → (buffer : List ℕ) → List ℕ
buffer_after a buffer = if (first_of (write_tests a buffer)).holds then buffer else encoded a.tables
