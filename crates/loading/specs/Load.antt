-- Load (document 01, "Refusals" and "The calls"): the answer to a file and the area record that it gives.
use Rattle.std.specs.Prelude.{ℕ, List, replicate, ◌≡◌, if◌then◌else◌}
use Rattle.lists.specs.Words.{at}
use Rattle.lists.specs.Tests.{Test}
use Rattle.tables.specs.declared.Tables.{Tables}
use Rattle.tables.specs.Tables.{blank_tables}
use Rattle.decoding.specs.Decoding.{decoded}
use Rattle.reading.specs.Verdict.{verdict}
use Rattle.trains.specs.Due.{speed_due}
use Rattle.trains.specs.Train.{off, train_at}
use Rattle.area.specs.declared.Area.{Area}
use Rattle.area.specs.declared.Outcome.{Outcome}
use Rattle.answers.specs.Answers.{answer_of}

-- a loaded area: no allocations, no trains, speed due
unfoldable pub fresh : Tables → Area
fresh T = record { tables = T; allocations = replicate 62 0; trains = replicate 24 off; due = speed_due }

-- the blank record: all zero
unfoldable pub blank : Area
blank = record { tables = blank_tables; allocations = replicate 62 0; trains = replicate 24 off; due = 0 }

-- the first rule that is broken gives number and place, and the blank record; an accepted file is done and gives its tables
abbrev pub loaded_by : Test → List ℕ → Outcome
loaded_by t file = record { answer = answer_of t.number t.place; area = if t.holds then blank else fresh (decoded file) }

unfoldable pub loaded : List ℕ → Outcome
loaded file = loaded_by (verdict file) file

-- a record that is all zero
pub record AllZero (a : Area) : Type 0 where
  pub numbers : (a.tables.segments ≡ 0) × (a.tables.routes ≡ 0) × (a.tables.gmax ≡ 0) × (a.tables.braking ≡ 0) × (a.tables.margin ≡ 0)
  pub lengths : (s : ℕ) → at a.tables.lengths s ≡ 0
  pub limits : (s : ℕ) → at a.tables.limits s ≡ 0
  pub next : (k : ℕ) → at a.tables.next k ≡ 0
  pub previous : (k : ℕ) → at a.tables.previous k ≡ 0
  pub flags : (s : ℕ) → at a.tables.flags s ≡ 0
  pub routebytes : (k : ℕ) → at a.tables.routebytes k ≡ 0
  pub allocations : (s : ℕ) → at a.allocations s ≡ 0
  pub trains : (t : ℕ) → train_at a.trains t ≡ off
  pub due : a.due ≡ 0
