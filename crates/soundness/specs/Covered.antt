-- How the test of the allocations goes about it: what each train may hold is taken away from them, and nothing may be left. That this is
-- the test of "A sound record" where the trains are sound is proved in proofs/.
-- p is where train x stands, s a segment, h who holds it.
use Rattle.std.specs.Prelude.{ℕ, Bool, ◌&&◌, ◌||◌, List, leb, eqb, if◌then◌else◌}
use Rattle.lists.specs.Words.{some}
use Rattle.tables.specs.Tables.{segment_at}
use Rattle.trains.specs.declared.Train.{Train}
use Rattle.trains.specs.declared.Spot.{Spot}
use Rattle.trains.specs.Train.{train_at, is_on}
use Rattle.standing.specs.Spots.{spot_at}

-- s is under the train, or its next and allocated to it
unfoldable pub covers : (routebytes : List ℕ) → Spot → Train → ℕ → Bool
covers routebytes p x s =
    is_on x && (some x.place (λ (q : ℕ). leb p.rear q && eqb (segment_at routebytes x.route q) s) || (p.holds && eqb s p.next))

-- what is left of the allocation h of segment s when the trains 1 to n have been taken away
abbrev pub left_over : (routebytes : List ℕ) → List Spot → List Train → (n s h : ℕ) → ℕ
left_over routebytes spots trains n s h = if some n (λ (t : ℕ). covers routebytes (spot_at spots t) (train_at trains t) s) then 0 else h
