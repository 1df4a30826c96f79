-- What is claimed of a record that a caller keeps between calls (document 01, "Whole runs": "Each call is handed the record that the one
-- before handed back"). a is a record, c a call on it, b the record after the call; n is an answer's number, p its place.
use Rattle.std.specs.Prelude.{ℕ, ◌≤◌, ◌≡◌, List, [], ◌∷◌, ◌++◌}
use Rattle.decoding.specs.Decoding.{decoded}
use Rattle.answers.specs.Answers.{number_of, place_of}
use Rattle.area.specs.declared.Area.{Area}
use Rattle.loading.specs.Load.{blank, loaded}
use Rattle.separation.specs.Calls.{Call, called}
use Rattle.separation.specs.Runs.{after}
use Rattle.separation.specs.Claim.{Separated}

-- a is the record after a list of calls from a file that load answers with done
pub record Reached (file : List ℕ) (calls : List Call) (a : Area) : Type 0 where
  pub done : number_of (loaded file).answer ≡ 0
  pub same : a ≡ (after file calls).area

-- and demand 3 holds of that list
pub record Kept (file : List ℕ) (calls : List Call) (a : Area) : Type 0 where
  pub reached : Reached file calls a
  pub separated : Separated (decoded file) (after file calls)

-- a call c on any record a: the answer's number and the record after it are those of the call's definition; and where a was the record
-- after a list of calls from an accepted file, b is the record after that list with c added, and demand 3 holds of it
pub record Answered (a : Area) (c : Call) (n : ℕ) (b : Area) : Type 0 where
  pub number : n ≡ number_of (called a c).answer
  pub area : b ≡ (called a c).area
  pub onward : (file : List ℕ) (calls : List Call) → Reached file calls a → Kept file (calls ++ (c ∷ [])) b

-- load's answer to a file, and the record that it gives: where the answer is done, the record after the empty list of calls; where it is
-- not, the blank record, on which every call answers 11 and changes nothing
pub record Started (file : List ℕ) (n p : ℕ) (a : Area) : Type 0 where
  pub number : n ≡ number_of (loaded file).answer
  pub place : p ≡ place_of (loaded file).answer
  pub area : a ≡ (loaded file).area
  pub kept : n ≡ 0 → Kept file [] a
  pub refused : 1 ≤ n → (a ≡ blank) × ((c : Call) → (number_of (called a c).answer ≡ 11) × ((called a c).area ≡ a))
