-- What a result of the code says of a file and of its tests.
use Rattle.std.specs.Prelude.{true, false, Result, Ok, Err}
use Rattle.lists.specs.Tests.{Test}
use Rattle.tables.specs.declared.Tables.{Tables}
use Rattle.answers.specs.Refusals.{refusal_number}
use Rattle.reading.specs.declared.Fault.{Fault}
use Rattle.reading.specs.Verdict.{Reading, refused_reading, accepted_reading}

-- the reading that a result tells
abbrev pub read_as : Result Tables Fault → Reading
read_as (Ok T) = accepted_reading T
read_as (Err f) = refused_reading (refusal_number f.refusal) f.place

-- a step that may find a fault, as the first of its tests that holds: the refusal's number and place; where it finds none, none holds
abbrev pub told_fault : {A : Type 0} → Result A Fault → Test
told_fault (Ok x) = record { holds = false; number = 0; place = 0 }
told_fault (Err f) = record { holds = true; number = refusal_number f.refusal; place = f.place }
