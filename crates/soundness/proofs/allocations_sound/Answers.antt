use Rattle.std.specs.Prelude.{if◌then◌else◌}
use Prim.Native.Nat.{ℕ, zero, suc, ◌+◌, ◌≤◌}
use mathlib.Core.Path.{◌≡◌, sym, ap, ◌∙◌}
use mathlib.Core.Bool.{Bool, ◌&&◌, ◌||◌}
use mathlib.Core.List.{List, [], ◌∷◌}
use native.Mathlib.Omega.{arith}
use native.Mathlib.Numerals.{add-one}
use lib.Dec.{eqb}
use borrow.Author.Rules.{rules}
use lib.ListN.{length, replicate, length-append}
use lib.Pointwise.{pointwise}
use Rattle.std.proofs.lemmas.Slice.Zip.{zip_turn, zip_end}
use Rattle.lists.specs.Words.{nth, at, every}
use Rattle.lists.proofs.Loops.{every_none, every_first, every_same}
use Rattle.lists.proofs.Numbered.{nth_index, nth_each_in, length_each}
use Rattle.lists.proofs.Some.{none_some, some_next}
use Rattle.tables.specs.Bounds.{most_segments}
use Rattle.trains.specs.declared.Train.{Train}
use Rattle.trains.specs.declared.Spot.{Spot}
use Rattle.trains.specs.Train.{most_trains, off, train_at}
use Rattle.standing.specs.Spots.{no_spot, spot_at}
use Rattle.soundness.specs.Covered.{covers}
use Rattle.soundness.proofs.Taken.{without, without_none, without_same, without_both}
use Rattle.soundness.proofs.allocations_sound.Invariants.{covered}
use Rattle.soundness.proofs.allocations_sound.Goals as goal

-- one train more
more :
    (routebytes : List ℕ) (spots : List Spot) (trains : List Train) (i : ℕ) (p : Spot) (x : Train) (l left new : List ℕ)
    → spot_at spots (i + 1) ≡ p → train_at trains (i + 1) ≡ x
    → left ≡ without (covered routebytes spots trains i) l → new ≡ without (covers routebytes p x) left
    → new ≡ without (covered routebytes spots trains (i + 1)) l
more routebytes spots trains i p x l left new stands is so next =
    let before = covered routebytes spots trains i in
    let one_more : (s : ℕ) → (before s || covers routebytes p x s) ≡ covered routebytes spots trains (i + 1) s =
    λ s. rw (some_next (λ (t : ℕ). covers routebytes (spot_at spots t) (train_at trains t) s) i, stands, is) in
    next ∙ (ap (without (covers routebytes p x)) so ∙ (without_both l before (covers routebytes p x) ∙ without_same l _ _ one_more))

-- a list that is all zero
shifted : (x : ℕ) (l : List ℕ) (k : ℕ) → 1 ≤ k → at l k ≡ at (x ∷ l) (k + 1)
unfolding nth
shifted x l zero low = absurd (omega arith)
shifted x l (suc k) low = rw add-one

all_zero : (n : ℕ) (l : List ℕ) → length l ≡ n → pointwise eqb l (replicate n 0) ≡ every n (λ (s : ℕ). eqb (at l s) 0)
unfolding nth
all_zero zero [] h = sym (every_none _)
all_zero zero (x ∷ l) h = absurd (omega arith)
all_zero (suc n) [] h = absurd (omega arith)
all_zero (suc n) (x ∷ l) h =
    let p : ℕ → Bool = λ s. eqb (at (x ∷ l) s) 0 in
    let first : every (suc n) p ≡ (p 1 && every n (λ (k : ℕ). p (k + 1))) = rw add-one at (every_first p n) in
    ap (λ (b : Bool). eqb x 0 && b) (all_zero n l (omega arith) ∙ every_same n _ _ (λ k low high. ap (λ (h : ℕ). eqb h 0) (shifted x l k low)))
    ∙ sym first

-- the allocations without what all trains may hold
over :
    (routebytes A left : List ℕ) (spots : List Spot) (trains : List Train) (s : ℕ) → length A ≡ 62 → 1 ≤ s → s ≤ most_segments
    → left ≡ without (covered routebytes spots trains most_trains) A
    → eqb (at left s) 0 ≡ eqb (if covered routebytes spots trains most_trains s then 0 else at A s) 0
over routebytes A left spots trains s long low high e =
    ap (λ (h : ℕ). eqb h 0) (ap (λ (l : List ℕ). at l s) e ∙ nth_each_in 0 0 _ A s low (omega arith))

pub loop-spot-init : goal.loop-spot-init
loop-spot-init c = sym (without_none _ _ (λ s. none_some _ 0 (λ k low high. absurd (omega arith))))

pub loop-spot-preserved : goal.loop-spot-preserved
loop-spot-preserved c =
    let n = length c.loop-spot.yielded in
    let turn = zip_turn c.args.spots.now c.args.trains.now _ _ _ c.next.new.self _ (search rules) (search rules) c.loop-spot.yielded_by _ c.in-Some.is c.next.ensures.steps in
    rw length-append
    (more _ c.args.spots.now c.args.trains.now n _ _ _ _ _ (nth_index no_spot _ _ ∙ sym (turn.2 no_spot)) (nth_index off _ _ ∙ sym (turn.3 off)) c.loop-spot.invariant c.take_train.ensures)

pub returns : goal.returns
returns c =
    let turns = zip_end c.args.spots.now c.args.trains.now _ _ _ c.next.new.self _ (search rules) (search rules) c.loop-spot.yielded_by c.in-None.is c.next.ensures.steps in
    let all : length c.loop-spot.yielded ≡ most_trains = omega (arith, turns, c.told-spots, c.told-trains) in
    let long : length c.loop-spot.left ≡ 62 = ap length c.loop-spot.invariant ∙ (length_each _ _ ∙ c.told-allocations) in
    c.eq.ensures
    ∙ (all_zero 62 c.loop-spot.left long
    ∙ every_same most_segments _ _ (λ s low high. over _ _ _ _ _ s c.told-allocations low high (rw all at c.loop-spot.invariant)))
