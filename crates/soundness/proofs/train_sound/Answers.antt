-- The place of a train on is tested first; its facts give the braking test its room.
use mathlib.Core.Path.{◌≡◌, sym, ◌∙◌}
use mathlib.Core.Bool.{true}
use native.Mathlib.Nat.{le_trans}
use borrow.Author.Tests.{ltb-true}
use Rattle.braking.proofs.Laws.{S-mono}
use Rattle.trains.specs.Sound.{place_sound}
use Rattle.trains.proofs.Soundness.{place_facts}
use Rattle.soundness.proofs.train_sound.Goals as goal

pub braking_sound-requires : goal.braking_sound-requires
braking_sound-requires c =
    let on = ltb-true 0 c.args.x.route (sym c.is_on.ensures ∙ c.if-not-is_on.false) in
    let placed : place_sound c.args.t.now.routes c.args.spot c.args.x ≡ true = sym c.place_sound.ensures ∙ c.if-place_sound.true in
    let f = place_facts c.args.t.now.routes c.args.spot c.args.x placed in
    (c.requires.0, le_trans (S-mono c.args.t.now.braking c.requires.0 _ _ f.4) (c.requires.1 on placed))
