-- A train off covers nothing. Of another what is under it is taken away, and then its next where that is allocated to it.
use Prim.Native.Nat.{ℕ}
use mathlib.Core.Path.{◌≡◌, sym, ap, ◌∙◌}
use mathlib.Core.Bool.{Bool, true, false, ◌&&◌, ◌||◌, or-false}
use mathlib.Core.List.{List}
use lib.Dec.{leb, eqb}
use Rattle.lists.specs.Words.{some}
use Rattle.tables.specs.Tables.{segment_at}
use Rattle.trains.specs.declared.Train.{Train}
use Rattle.trains.specs.declared.Spot.{Spot}
use Rattle.trains.specs.Train.{is_on}
use Rattle.soundness.specs.Covered.{covers}
use Rattle.soundness.proofs.Taken.{without, without_none, without_same, without_both}
use Rattle.soundness.proofs.take_train.Goals as goal

module _ (routebytes : List ℕ) (p : Spot) (x : Train) (l : List ℕ) where
  abbrev under : ℕ → Bool
  under s = some x.place (λ (q : ℕ). leb p.rear q && eqb (segment_at routebytes x.route q) s)

  covers_none : is_on x ≡ false → l ≡ without (covers routebytes p x) l
  unfolding covers
  covers_none off = sym (without_none l (covers routebytes p x) (λ s. rw off))

  covers_under : is_on x ≡ true → p.holds ≡ false → without under l ≡ without (covers routebytes p x) l
  unfolding covers
  covers_under on none = without_same l under (covers routebytes p x) (λ s. rw (on, none) (sym (or-false (under s))))

  covers_both :
      {left new : List ℕ} → is_on x ≡ true → p.holds ≡ true → left ≡ without under l → new ≡ without (λ (s : ℕ). eqb s p.next) left
      → new ≡ without (covers routebytes p x) l
  unfolding covers
  covers_both on held first last =
      last
      ∙ (ap (without (λ (s : ℕ). eqb s p.next)) first
      ∙ (without_both l under (λ (s : ℕ). eqb s p.next)
      ∙ without_same l (λ (s : ℕ). under s || eqb s p.next) (covers routebytes p x) (λ s. rw (on, held))))

pub returns-else-is_on : goal.returns-else-is_on
returns-else-is_on c = covers_none _ _ _ _ (sym c.is_on.ensures ∙ c.if-is_on.false)

pub returns-then-spot : goal.returns-then-spot
returns-then-spot c =
    covers_both _ _ _ _ (sym c.is_on.ensures ∙ c.if-is_on.true) c.if-spot.true c.take_under.ensures c.set_entry.ensures

pub returns-else-spot : goal.returns-else-spot
returns-else-spot c = c.take_under.ensures ∙ covers_under _ _ _ _ (sym c.is_on.ensures ∙ c.if-is_on.true) c.if-spot.false
