-- A list with one call more is that call on the record after the list, so demand 3 goes on holding of a record that is handed from call to
-- call; and a refused load gives the blank record, which is unsound, so that every call on it answers 11.
use Prim.Native.Nat.{ℕ, ◌≤◌}
use mathlib.Core.Path.{◌≡◌, refl, sym, ap, ◌∙◌}
use mathlib.Core.Bool.{false}
use mathlib.Core.List.{List, [], ◌∷◌, ◌++◌}
use native.Mathlib.Omega.{arith}
use Rattle.lists.proofs.Cases.{is_false}
use Rattle.reading.specs.Verdict.{accepted}
use Rattle.reading.proofs.Accepted.{accepted_iff}
use Rattle.answers.specs.Answers.{answer_of, number_of, place_of}
use Rattle.area.specs.declared.Area.{Area}
use Rattle.area.specs.declared.Outcome.{Outcome}
use Rattle.area.specs.Sound.{sound}
use Rattle.area.specs.Calls.{enter_call, leave_call, speed_call, request_call, grant_call, position_call}
use Rattle.loading.specs.Load.{blank, loaded}
use Rattle.loading.proofs.Loading.{done_iff, refused_blank}
use Rattle.loading.proofs.Fresh.{blank_unsound}
use Rattle.separation.specs.Calls.{Call, Enter, Leave, Speed, Request, Grant, Position, called}
use Rattle.separation.specs.Runs.{World, next, after_from, begin, after}
use Rattle.separation.proofs.Lists.{from_more}
use Rattle.separation.proofs.Demand3.{demand3}
use Rattle.kept.specs.Kept.{Reached, Kept, Answered, Started}

area_more : (file : List ℕ) (calls : List Call) (c : Call) → (after file (calls ++ (c ∷ []))).area ≡ (called (after file calls).area c).area
unfolding after after_from next
area_more file calls c = ap (λ (w : World). w.area) (from_more (begin (loaded file).area) calls (c ∷ []))

-- a record that a list reaches is kept, since demand 3 holds of every list
kept : (file : List ℕ) (calls : List Call) (a : Area) → Reached file calls a → Kept file calls a
kept file calls a r = record { reached = r; separated = demand3 file r.done calls }

-- the record after a call is the one that the call's outcome hands back
pub answered : (a : Area) (c : Call) (o : Outcome) → o ≡ called a c → Answered a c (number_of o.answer) o.area
answered a c o e =
    record {
      number = ap (λ (o : Outcome). number_of o.answer) e;
      area = ap (λ (o : Outcome). o.area) e;
      onward =
          λ file calls was.
          kept file (calls ++ (c ∷ [])) o.area
          (record {
            done = was.done;
            same = ap (λ (o : Outcome). o.area) e ∙ ap (λ (x : Area). (called x c).area) was.same ∙ sym (area_more file calls c);
          });
    }

-- a call answers 11 and changes nothing
abbrev Refuses : Area → Outcome → Type 0
Refuses a o = (number_of o.answer ≡ 11) × (o.area ≡ a)

-- each call's first test is that the record is sound
refuses : (a : Area) → sound a ≡ false → (c : Call) → Refuses a (called a c)
unfolding called enter_call leave_call speed_call request_call grant_call position_call answer_of
refuses a e (Enter t j v) = rw e (refl, refl)
refuses a e (Leave t) = rw e (refl, refl)
refuses a e (Speed wishes) = rw e (refl, refl)
refuses a e Request = rw e (refl, refl)
refuses a e Grant = rw e (refl, refl)
refuses a e Position = rw e (refl, refl)

-- a file whose load is not answered with done gives the blank record
not_done : (file : List ℕ) → 1 ≤ number_of (loaded file).answer → (loaded file).area ≡ blank
not_done file h =
    let no : accepted file ≡ false = is_false (accepted file) (λ y. let z = (done_iff file).1 ((accepted_iff file).0 y) in omega arith) in
    refused_blank file no

pub started :
    (file : List ℕ) (n p : ℕ) (a : Area) → n ≡ number_of (loaded file).answer → p ≡ place_of (loaded file).answer → a ≡ (loaded file).area
    → Started file n p a
unfolding after after_from begin
started file n p a number place same =
    record {
      number = number;
      place = place;
      area = same;
      kept = λ z. kept file [] a (record { done = sym number ∙ z; same = same });
      refused = λ h. let none = same ∙ not_done file (omega arith) in (none, refuses a (ap sound none ∙ blank_unsound));
    }
