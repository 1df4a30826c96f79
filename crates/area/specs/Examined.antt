-- How a call works on a record that is lent to it: it examines the record, and hands back what it changes of it or its refusal.
use Rattle.std.specs.Prelude.{List, Result, Ok, Err, if◌then◌else◌}
use Rattle.trains.specs.declared.Spot.{Spot}
use Rattle.standing.specs.Spots.{spots_of}
use Rattle.answers.specs.declared.Answer.TheVariants.{Done, Refused}
use Rattle.answers.specs.declared.Refusal.{Refusal}
use Rattle.answers.specs.declared.Refusal.TheVariants.{Unsound}
use Rattle.answers.specs.Refusals.{refusal_number}
use Rattle.area.specs.declared.Area.{Area}
use Rattle.area.specs.declared.Outcome.{Outcome}
use Rattle.area.specs.declared.Change.{Change}
use Rattle.area.specs.Sound.{sound}

-- where the trains of a sound record stand, which speed, request and position read again; any other record is refused
abbrev pub examined : Area → Result (List Spot) Refusal
examined a = if sound a then Ok (spots_of a.tables a.allocations a.trains) else Err Unsound

-- a record with what a call changed of it: the tables stay
abbrev pub changed : Area → Change → Area
changed a c = record { tables = a.tables; allocations = c.allocations; trains = c.trains; due = c.due }

-- the outcome of a call on the record a; a refusal hands the record back as it came
abbrev pub outcome_of : Area → Result Change Refusal → Outcome
outcome_of a (Ok c) = record { answer = Done; area = changed a c }
outcome_of a (Err r) = record { answer = Refused (refusal_number r) 0; area = a }
