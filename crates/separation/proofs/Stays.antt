-- Every call on a sound record, reached by a list or not, hands back a sound one: so a list of calls does, and on a sound record with speed
-- due the four steps of a cycle are done.
use Prim.Native.Nat.{ℕ, ◌≤◌}
use mathlib.Core.Path.{◌≡◌, refl}
use mathlib.Core.Logic.{inl, inr}
use mathlib.Core.Bool.{true, false}
use mathlib.Core.List.{List, [], ◌∷◌, map}
use native.Mathlib.Omega.{arith}
use lib.ListN.{replicate}
use borrow.Author.Tests.{ltb-true, ltb-false, lt-ltb, eq-eqb}
use Rattle.lists.specs.Words.{at}
use Rattle.lists.proofs.Cases.{cases}
use Rattle.lists.proofs.Numbered.{nth_where}
use Rattle.trains.specs.Due.{speed_due, request_due, grant_due, position_due}
use Rattle.trains.specs.Train.{most_trains, journey_of, off, train_at, is_on}
use Rattle.trains.specs.Way.{way_of}
use Rattle.trains.proofs.Laws.{on_numbered}
use Rattle.trains.proofs.Segments.{occupied_iff, ahead_iff}
use Rattle.trains.proofs.Safety.{TrainOk}
use Rattle.answers.specs.declared.Answer.{Answer}
use Rattle.answers.specs.declared.Answer.TheVariants.{Done}
use Rattle.answers.specs.Answers.{answer_of}
use Rattle.area.specs.declared.Area.{Area}
use Rattle.area.specs.Sound.{sound}
use Rattle.area.specs.Calls.{outcome, step_tests, after_speed, speed_call, after_request, request_call, after_grant, grant_call, after_position, position_call}
use Rattle.area.specs.SoundFacts.{SoundArea}
use Rattle.area.proofs.Soundness.{sound_iff}
use Rattle.separation.specs.Calls.{Call, Speed, Request, Grant, Position, called}
use Rattle.separation.specs.Runs.{History, World, next, after_from}
use Rattle.separation.specs.Stays.{SoundRecord, StaysSound}
use Rattle.separation.specs.Replies.{Reply, replies, cycle}
use Rattle.separation.proofs.Kept.{kept_sound}
use Rattle.separation.proofs.Going.{KeptIn, went_called}

module _ (a : Area) (is : SoundRecord a) where
  -- what a list might have told of the record's trains: every segment counts as granted
  abbrev told : History
  told =
      record {
        on = λ (t : ℕ). is_on (train_at a.trains t);
        journey = λ (t : ℕ). journey_of (train_at a.trains t);
        way = λ (t : ℕ). way_of a.tables (train_at a.trains t);
        granted = λ (t s : ℕ). true;
      }

  facts : SoundArea a
  facts = (sound_iff a is.numbers).0 is.ok

  offs : (t : ℕ) → is_on (train_at a.trains t) ≡ false → train_at a.trains t ≡ off
  offs t o =
      nth_where off a.trains t _
      (λ low high. facts.offs t low (omega arith) (omega (arith, ltb-false 0 (train_at a.trains t).route o)))
      (λ none. none)

  held_on : (s : ℕ) → 1 ≤ at a.allocations s → is_on (train_at a.trains (at a.allocations s)) ≡ true
  held_on s some =
      nth_where 0 a.allocations s _
      (λ low high.
      cases (facts.allocations s low (omega arith)) (λ z. absurd (omega arith))
      (λ g. lt-ltb 0 (train_at a.trains (at a.allocations s)).route g.on))
      (λ none. absurd (omega arith))

  ons : (t : ℕ) → is_on (train_at a.trains t) ≡ true
      → TrainOk a.tables a.due (at a.allocations) t (train_at a.trains t) (way_of a.tables (train_at a.trains t)) (λ (s : ℕ). true)
  ons t o =
      let some = ltb-true 0 (train_at a.trains t).route o in
      let n = on_numbered a.trains is.numbers t some in
      let f = facts.ons t n.0 n.1 some in
      record {
        on_route = record { route_low = some; route_high = f.route; place_low = f.place.0; place_high = f.place.1 };
        inside = f.position;
        slow = f.speed;
        long = f.length;
        holds = λ s e. f.under s ((occupied_iff a.tables (train_at a.trains t) f.position s).0 e);
        only =
            λ s e.
            nth_where 0 a.allocations s _
            (λ low high.
            cases (facts.allocations s low (omega arith)) (λ z. absurd (omega (arith, n.0)))
            (λ g.
            cases g.whose
            (λ u. inl ((occupied_iff a.tables (train_at a.trains t) f.position s).1 (rw e at u)))
            (λ u. inr ((ahead_iff a.tables (train_at a.trains t) s low).1 (rw e at u), refl))))
            (λ none. absurd (omega (arith, n.0)));
        stops = f.stops;
        next_slow = f.next;
        walked = refl;
        asks_well = f.asks;
      }

  kept : KeptIn a told
  kept =
      record {
        due_ok = facts.due;
        segments = is.segments;
        numbers = is.numbers;
        offs = offs;
        journeys = λ t o. refl;
        ons = ons;
        holders = held_on;
      }

-- THE CLAIM: every call on a sound record hands back a sound one
pub stays_sound : StaysSound
stays_sound a c is =
    let w = went_called a (told a is) (kept a is) (facts a is).tables c in
    let b = (called a c).area in
    record {
      segments = w.kept.segments;
      numbers = w.kept.numbers;
      ok = kept_sound b.tables b.allocations b.trains b.due _ w.kept (rw w.tables (facts a is).tables);
    }

-- and so does every list of calls
pub stays_through : (w : World) (calls : List Call) → SoundRecord w.area → SoundRecord (after_from w calls).area
unfolding after_from next
stays_through w [] is = is
stays_through w (c ∷ calls) is = stays_through (next w c) calls (stays_sound w.area c is)

-- a step that is due is done on a sound record
step_done : (a new : Area) (step : ℕ) → sound a ≡ true → a.due ≡ step → outcome (step_tests step a) new a ≡ record { answer = Done; area = new }
unfolding answer_of
step_done a new step ok due = rw (ok, eq-eqb a.due step due)

-- THE CLAIM: on a sound record with speed due none of the four steps of a cycle is refused, and speed is due again
module _ (a : Area) (is : SoundRecord a) (due : a.due ≡ speed_due) (wish : ℕ) where
  abbrev wishes : List ℕ
  wishes = replicate most_trains wish

  sped : called a (Speed wishes) ≡ record { answer = Done; area = after_speed a wishes }
  unfolding called speed_call answer_of
  sped = rw (is.ok, eq-eqb a.due speed_due due)

  is_sped : SoundRecord (after_speed a wishes)
  is_sped = rw sped at (stays_sound a (Speed wishes) is)

  abbrev requested : Area
  requested = after_request (after_speed a wishes)

  asked : called (after_speed a wishes) Request ≡ record { answer = Done; area = requested }
  unfolding called request_call after_speed
  asked = step_done (after_speed a wishes) requested request_due is_sped.ok refl

  is_asked : SoundRecord requested
  is_asked = rw asked at (stays_sound (after_speed a wishes) Request is_sped)

  granted : called requested Grant ≡ record { answer = Done; area = after_grant requested }
  unfolding called grant_call after_request
  granted = step_done requested (after_grant requested) grant_due is_asked.ok refl

  is_granted : SoundRecord (after_grant requested)
  is_granted = rw granted at (stays_sound requested Grant is_asked)

  moved : called (after_grant requested) Position ≡ record { answer = Done; area = after_position (after_grant requested) }
  unfolding called position_call after_grant
  moved = step_done (after_grant requested) (after_position (after_grant requested)) position_due is_granted.ok refl

  pub cycle_done : map (λ (r : Reply). r.answer) (replies a (cycle wish)) ≡ Done ∷ Done ∷ Done ∷ Done ∷ []
  unfolding replies
  cycle_done = rw (sped, asked, granted, moved)

  pub cycle_due : (h : History) (answers : List Answer) → (after_from (record { area = a; history = h; answers = answers }) (cycle wish)).area.due ≡ speed_due
  unfolding after_from next after_position
  cycle_due h answers = rw (sped, asked, granted, moved)
