-- The calls of a list with their answers, and one cycle as a list of calls (document 01, "Whole runs" and "The calls").
use Rattle.std.specs.Prelude.{ℕ, List, [], ◌∷◌, replicate}
use Rattle.trains.specs.Train.{most_trains}
use Rattle.answers.specs.declared.Answer.{Answer}
use Rattle.area.specs.declared.Area.{Area}
use Rattle.separation.specs.Calls.{Call, Speed, Request, Grant, Position, called}

-- a call, and what it was answered
pub record Reply : Type 0 where
  pub call : Call
  pub answer : Answer

-- the calls of a list that starts from the record a, each with its answer: each is handed the record that the one before handed back, after
-- a refusal too
unfoldable pub replies : Area → List Call → List Reply
replies a [] = []
replies a (c ∷ calls) = record { call = c; answer = (called a c).answer } ∷ replies (called a c).area calls

-- "Order: speed, request, grant, position": the four steps of a cycle, with one wish for all trains
abbrev pub cycle : (wish : ℕ) → List Call
cycle wish = Speed (replicate most_trains wish) ∷ Request ∷ Grant ∷ Position ∷ []
