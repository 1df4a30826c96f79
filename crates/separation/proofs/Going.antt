-- Each call of a list, done or refused, keeps what holds; none is answered 11, and none names a place.
use Rattle.std.specs.Prelude.{if◌then◌else◌}
use Prim.Native.Nat.{ℕ, ◌≤◌}
use mathlib.Core.Path.{◌≡◌, refl, sym, ap, ◌∙◌}
use mathlib.Core.Bool.{true, false, not, ◌&&◌, and-eq-true_iff}
use mathlib.Core.List.{List}
use native.Mathlib.Omega.{arith}
use lib.Dec.{leb, eqb}
use borrow.Author.Tests.{eqb-true, ltb-false, not-false}
use Rattle.lists.specs.Words.{at}
use Rattle.lists.specs.Tests.{Test, first_of, condition_of}
use Rattle.lists.proofs.Cases.{by_test, not_both, facts}
use Rattle.lists.proofs.Refusals.{passed, absent, apart, first_named, first_none, first_number, placeless, first_placeless}
use Rattle.tables.specs.Facts.{Meets}
use Rattle.tables.proofs.Consistency.{consistent}
use Rattle.trains.specs.Train.{longest_train, Journey}
use Rattle.trains.specs.EnterLeave.{first_segment}
use Rattle.area.specs.declared.Area.{Area}
use Rattle.area.specs.declared.Outcome.{Outcome}
use Rattle.answers.specs.Answers.{answer_of, number_of, place_of}
use Rattle.area.specs.Sound.{sound}
use Rattle.trains.specs.Due.{speed_due, request_due, grant_due, position_due}
use Rattle.area.specs.Calls.{outcome, enter_tests, leave_tests, speed_tests, step_tests, after_enter, after_leave, after_speed, after_request, after_grant, after_position, enter_call, leave_call, speed_call, request_call, grant_call, position_call}
use Rattle.answers.proofs.Answers.{number_of_answer, place_of_answer}
use Rattle.separation.specs.Calls.{Call, Enter, Leave, Speed, Request, Grant, Position, called}
use Rattle.separation.specs.Runs.{History, noted, is_done}
use Rattle.separation.proofs.Kept.{Kept, kept_sound}
use Rattle.separation.proofs.Keeping.{keep_speed, keep_request, keep_grant, keep_position, keep_leave, keep_enter}

abbrev pub KeptIn : Area → History → Type 0
KeptIn a h = Kept a.tables a.allocations a.trains a.due h

-- what a call c on a record a gives
pub record Went (a : Area) (h : History) (c : Call) (o : Outcome) : Type 0 where
  pub tables : o.area.tables ≡ a.tables
  pub kept : KeptIn o.area (if is_done o.answer then noted h c a o.area else h)
  pub not_unsound : number_of o.answer ≡ 11 → ⊥
  pub no_place : place_of o.answer ≡ 0

module _ (a : Area) (h : History) (k : KeptIn a h) (M : Meets a.tables) where
  is_sound_lem : sound a ≡ true
  is_sound_lem = kept_sound a.tables a.allocations a.trains a.due h k M

  -- a call is refused by the first of its tests that holds, or answered done
  module _ (c : Call) (tests : List Test) (new : Area) (told : (absent 0 tests && apart tests) ≡ true) (plain : placeless tests ≡ true) where
    numbers : (absent 0 tests ≡ true) × (apart tests ≡ true)
    numbers = (and-eq-true_iff (absent 0 tests) (apart tests)).0 told

    answer_number : number_of (outcome tests new a).answer ≡ (first_of tests).number
    answer_number = number_of_answer (first_of tests).number (first_of tests).place

    refused : (first_of tests).holds ≡ true → condition_of 11 tests ≡ false → Went a h c (outcome tests new a)
    refused e s =
        let named : is_done (outcome tests new a).answer ≡ false = ap (λ (n : ℕ). eqb n 0) answer_number ∙ (first_number tests numbers.0 ∙ rw e) in
        record {
          tables = rw e;
          kept = rw (named, e) k;
          not_unsound = λ q. not_both (condition_of 11 tests) (first_named 11 tests numbers.1 e (sym answer_number ∙ q)).0 s;
          no_place = place_of_answer (first_of tests).number (first_of tests).place (λ z. first_placeless tests plain) ∙ first_placeless tests plain;
        }

    finished : (first_of tests).holds ≡ false → new.tables ≡ a.tables → KeptIn new (noted h c a new) → Went a h c (outcome tests new a)
    unfolding answer_of
    finished e same done = rw (first_none tests e) (record { tables = same; kept = done; not_unsound = λ q. omega arith; no_place = refl })

    went : not (sound a) ≡ condition_of 11 tests → new.tables ≡ a.tables → ((first_of tests).holds ≡ false → KeptIn new (noted h c a new)) → Went a h c (outcome tests new a)
    went first same done =
        by_test (first_of tests).holds (λ e. refused e (sym first ∙ ap not is_sound_lem)) (λ e. finished e same (done e))

  -- a cycle step that is due
  is_due : (step : ℕ) → not (eqb a.due step) ≡ false → a.due ≡ step
  is_due step e = eqb-true a.due step (not-false (eqb a.due step) e)

  due_kept : (step : ℕ) → not (eqb a.due step) ≡ false → Kept a.tables a.allocations a.trains step h
  due_kept step e = rw (is_due step e) at k

  went_speed : (wishes : List ℕ) → Went a h (Speed wishes) (speed_call a wishes)
  unfolding speed_call after_speed noted
  went_speed wishes =
      went (Speed wishes) (speed_tests a wishes) (after_speed a wishes) refl refl refl refl
      (λ e. keep_speed a.tables (consistent a.tables M) a.allocations a.trains h (due_kept speed_due (passed 12 (speed_tests a wishes) e)) wishes)

  went_request : Went a h Request (request_call a)
  unfolding request_call after_request noted
  went_request =
      went Request (step_tests request_due a) (after_request a) refl refl refl refl
      (λ e. keep_request a.tables (consistent a.tables M) a.allocations a.trains h (due_kept request_due (passed 12 (step_tests request_due a) e)))

  went_grant : Went a h Grant (grant_call a)
  unfolding grant_call after_grant noted
  went_grant =
      went Grant (step_tests grant_due a) (after_grant a) refl refl refl refl
      (λ e. keep_grant a.tables (consistent a.tables M) a.allocations a.trains h (due_kept grant_due (passed 12 (step_tests grant_due a) e)))

  went_position : Went a h Position (position_call a)
  unfolding position_call after_position noted
  went_position =
      went Position (step_tests position_due a) (after_position a) refl refl refl refl
      (λ e. keep_position a.tables (consistent a.tables M) a.allocations a.trains h (due_kept position_due (passed 12 (step_tests position_due a) e)))

  -- a number that passed the test for 1 to top
  within : (top n : ℕ) → not (leb 1 n && leb n top) ≡ false → (1 ≤ n) × (n ≤ top)
  within top n e = let g : (leb 1 n && leb n top) ≡ true = not-false _ e in let f = simp facts at g in omega arith

  went_leave : (t : ℕ) → Went a h (Leave t) (leave_call a t)
  unfolding leave_call after_leave noted
  went_leave t =
      went (Leave t) (leave_tests a t) (after_leave a t) refl refl refl refl
      (λ e. keep_leave a.tables (consistent a.tables M) a.allocations a.trains h k t)

  went_enter : (t : ℕ) (j : Journey) (v : ℕ) → Went a h (Enter t j v) (enter_call a t j v)
  unfolding enter_call after_enter noted
  went_enter t j v =
      went (Enter t j v) (enter_tests a t j v) (after_enter a t j v) refl refl refl refl
      (λ e.
      let free = ltb-false 0 (at a.allocations (first_segment a.tables j.route)) (passed 18 (enter_tests a t j v) e) in
      keep_enter a.tables (consistent a.tables M) a.allocations a.trains h k t j v
      (within 24 t (passed 13 (enter_tests a t j v) e))
      (passed 14 (enter_tests a t j v) e)
      (within a.tables.routes j.route (passed 16 (enter_tests a t j v) e))
      (within longest_train j.length (passed 23 (enter_tests a t j v) e))
      (omega arith)
      (ltb-false (at a.tables.limits (first_segment a.tables j.route)) v (passed 19 (enter_tests a t j v) e)))

  pub went_called : (c : Call) → Went a h c (called a c)
  unfolding called
  went_called (Enter t j v) = went_enter t j v
  went_called (Leave t) = went_leave t
  went_called (Speed wishes) = went_speed wishes
  went_called Request = went_request
  went_called Grant = went_grant
  went_called Position = went_position
