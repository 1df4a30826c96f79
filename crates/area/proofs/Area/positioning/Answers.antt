use Rattle.std.proofs.Common.{refl, sym, ap, ◌∙◌}
use Rattle.trains.specs.Due.{position_due}
use Rattle.trains.specs.Cycle.{due_tests}
use Rattle.std.specs.Prelude.{if◌then◌else◌}
use Prim.Native.Nat.{ℕ}
use mathlib.Core.Path.{◌≡◌}
use mathlib.Core.Bool.{true, false}
use mathlib.Core.List.{List}
use lib.Dec.{eqb}
use lib.ListN.{length}
use Rattle.lists.specs.Tests.{Test, first_of}
use Rattle.lists.specs.Words.{at, each}
use borrow.Author.Tests.{eqb-true}
use Rattle.lists.proofs.Cases.{by_test, not_both}
use Rattle.lists.proofs.Numbered.{long_of}
use Rattle.tables.proofs.Consistency.{consistent}
use Rattle.trains.specs.declared.Train.{Train}
use Rattle.trains.specs.declared.Spot.{Spot}
use Rattle.trains.specs.Train.{most_trains, train_at}
use Rattle.trains.specs.Cycle.{moved_in, moved, freed}
use Rattle.trains.proofs.Freed.{sound_movable}
use Rattle.standing.specs.Spots.{spots_of, spot_at}
use Rattle.steps.specs.Left.{left_in}
use Rattle.cycle.proofs.Laws.{moved_beside, freed_beside}
use Rattle.area.specs.declared.Area.{Area}
use Rattle.area.specs.SoundFacts.{SoundArea}
use Rattle.area.specs.Calls.{after_position, position_call}
use Rattle.area.proofs.Soundness.{sound_iff, room_of}
use Rattle.area.proofs.Laws.{found_spots, found_places, unsound_by, refused_by, finished_by}
use Rattle.area.proofs.Area.positioning.Goals as goal

-- the step was due
due_is : (step due : ℕ) → ◌≡◌ {A = Test} (record { holds = false; number = 0; place = 0 }) (first_of (due_tests step due)) → due ≡ step
due_is step due e =
    by_test (eqb due step) (λ t. eqb-true _ _ t)
    (λ f. let z = ap (λ (t : Test). t.holds) (rw f at e) in not_both true refl (sym z))

-- what the step makes of the trains and of the allocations of a sound record with position due
stepped :
    (a : Area) (spots : List Spot) (new : List Train) (left : List ℕ) → SoundArea a → length a.trains ≡ most_trains → a.due ≡ position_due
    → spots ≡ spots_of a.tables a.allocations a.trains
    → new ≡ each (λ (t : ℕ) (x : Train). moved_in (spot_at spots t).length x) a.trains
    → left ≡ each (λ (s h : ℕ). if eqb (at (each (λ (t : ℕ) (x : Train). left_in a.tables.routebytes a.tables.lengths (spot_at spots t).rear x) new) h) s then 0 else h) a.allocations
    → (new ≡ each (λ (t : ℕ). moved a.tables) a.trains) × (left ≡ each (freed a.tables a.trains) a.allocations)
stepped a spots new left f long due stands moves frees =
    let T = a.tables in
    let K = consistent T f.tables in
    let trains = moved_beside T a.allocations a.trains stands moves in (
      trains,
      frees ∙ freed_beside T K a.allocations a.trains long stands trains
          (λ t low high on. sound_movable T K a.allocations t (train_at a.trains t) on (rw due at (f.ons t low high on))) f.offs,
    )

pub returns-in_err-spots : goal.returns-in_err-spots
unfolding position_call
returns-in_err-spots c =
    let a = c.args.self.now in
    unsound_by (due_tests position_due a.due) (after_position a) a _ c.from_residual.ensures.1 (sym c.in_err-spots.was ∙ c.examine.ensures)

pub returns-in_err-check_due : goal.returns-in_err-check_due
unfolding position_call
returns-in_err-check_due c =
    let a = c.args.self.now in
    let found = found_spots a (sym c.in_ok-spots.was ∙ c.examine.ensures) in
    refused_by (due_tests position_due a.due) (after_position a) a _ _ c.from_residual-in_err-check_due.ensures.1 found c.in_err-check_due.ensures

-- a sound record gives each train the room that its move asks for
pub moved_all-trains-requires : goal.moved_all-trains-requires
moved_all-trains-requires c =
    let a = c.args.self.now in
    let long : length a.trains ≡ most_trains = search long_of in
    room_of a ((sound_iff a long).0 (found_spots a (sym c.in_ok-spots.was ∙ c.examine.ensures))) long

pub returns : goal.returns
unfolding position_call after_position
returns c =
    let a = c.args.self.now in
    let found = sym c.in_ok-spots.was ∙ c.examine.ensures in
    let ok = found_spots a found in
    let long : length a.trains ≡ most_trains = search long_of in
    let due = due_is position_due a.due c.in_ok-check_due.ensures in
    let both = stepped a _ _ _ ((sound_iff a long).0 ok) long due (found_places a found) c.moved_all-trains.ensures c.released_all.ensures in
    finished_by (due_tests position_due a.due) (after_position a) a ok c.in_ok-check_due.ensures (rw (both.0, both.1) refl)
