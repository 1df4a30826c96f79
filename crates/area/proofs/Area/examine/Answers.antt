-- Each part that the code finds broken makes the conjunction false; the tables' part, passed, gives the trains' part what it asks for, and
-- both give the allocations' part what it rests on.
use mathlib.Core.Path.{◌≡◌, ◌∙◌, sym, refl}
use lib.ListN.{length}
use borrow.Author.Tests.{lt-leb, le-leb}
use Rattle.lists.proofs.Numbered.{long_of}
use Rattle.tables.proofs.Consistency.{consistent, meets_iff}
use Rattle.trains.specs.Train.{most_trains}
use Rattle.soundness.proofs.Laws.{stopping, tests_same}
use Rattle.soundness.proofs.Allocations.{allocations_same}
use Rattle.area.specs.Sound.{sound}
use Rattle.area.proofs.Area.examine.Goals as goal
use Rattle.area.proofs.Area.examine.Goals.{else-meet-via-then-meet+then-self+then-trains_sound+else-allocations_sound, else-meet-via-then-meet+then-self+else-trains_sound, else-meet-via-then-meet+else-self, else-meet-via-else-meet}

pub trains_sound-requires : goal.trains_sound-requires
trains_sound-requires c =
    let a = c.args.self.now in
    let long : length a.trains ≡ most_trains = search long_of in
    stopping a.tables a.allocations a.trains long c.spots_of-spots.ensures (consistent _ ((meets_iff _).0 (sym c.meet.ensures ∙ c.if-meet.true)))

pub returns-then-allocations_sound : goal.returns-then-allocations_sound
unfolding sound
returns-then-allocations_sound c =
    let a = c.args.self.now in
    let long : length a.trains ≡ most_trains = search long_of in
    let met = sym c.meet.ensures ∙ c.if-meet.true in
    let ok = sym (tests_same a.tables a.allocations a.trains long c.spots_of-spots.ensures a.due) ∙ sym c.trains_sound.ensures ∙ c.if-trains_sound.true in
    let same = allocations_same a.tables (consistent _ ((meets_iff _).0 met)) a.allocations a.due a.trains long c.spots_of-spots.ensures ok in
    rw (met, le-leb _ _ c.if-self.true, ok, sym same ∙ sym c.allocations_sound.ensures ∙ c.if-allocations_sound.true, c.spots_of-spots.ensures) refl

pub returns-else-meet : goal.returns-else-meet
unfolding sound
returns-else-meet c =
    let a = c.args.self.now in
    let long : length a.trains ≡ most_trains = search long_of in
    let tested = tests_same a.tables a.allocations a.trains long c.spots_of-spots.ensures a.due in
    elim c.else-meet.branch [
      | else-meet-via-then-meet+then-self+then-trains_sound+else-allocations_sound w ↦
          let met = sym c.meet.ensures ∙ w.if-meet.true in
          let ok = sym tested ∙ sym w.trains_sound.ensures ∙ w.if-trains_sound.true in
          let same = allocations_same a.tables (consistent _ ((meets_iff _).0 met)) a.allocations a.due a.trains long c.spots_of-spots.ensures ok in
          rw (met, le-leb _ _ w.if-self.true, ok, sym same ∙ sym w.allocations_sound.ensures ∙ w.if-allocations_sound.false) refl
      | else-meet-via-then-meet+then-self+else-trains_sound w ↦
          rw (sym c.meet.ensures ∙ w.if-meet.true, le-leb _ _ w.if-self.true, sym tested ∙ sym w.trains_sound.ensures ∙ w.if-trains_sound.false) refl
      | else-meet-via-then-meet+else-self w ↦ rw (sym c.meet.ensures ∙ w.if-meet.true, lt-leb _ _ w.if-self.false) refl
      | else-meet-via-else-meet w ↦ rw (sym c.meet.ensures ∙ w.if-meet.false) refl
    ]
