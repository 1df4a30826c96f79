-- What becomes of one train, and of one segment's allocation, at speed, request and position, and what the steps of a cycle ask (document
-- 01, "The calls" and "Refusals"; document 02, R-4).
-- T are the tables of the area, A its allocations, t the number of a train, x the train, p where it stands, s a segment, h who holds it.
use Rattle.std.specs.Prelude.{ℕ, ◌+◌, ◌-◌, min, max, Bool, not, ◌&&◌, List, [], ◌∷◌, leb, ltb, eqb, if◌then◌else◌}
use Rattle.lists.specs.Words.{at}
use Rattle.lists.specs.Tests.{Test, ◌⇒◌}
use Rattle.tables.specs.declared.Tables.{Tables}
use Rattle.trains.specs.declared.Train.{Train}
use Rattle.trains.specs.declared.Spot.{Spot}
use Rattle.trains.specs.Due.{speed_due}
use Rattle.trains.specs.Train.{most_trains, with_speed, with_asking, moved_to, train_at, is_on, own_length, occupied}
use Rattle.trains.specs.Spot.{spot_of}

-- the tests of a step that come after 11: of request, grant and position, and of speed with so many wishes. `due` is the step due
abbrev pub due_tests : (step due : ℕ) → List Test
due_tests step due = not (eqb due step) ⇒ 12 ∷ []

abbrev pub wish_tests : (due wishes : ℕ) → List Test
wish_tests due wishes = not (eqb due speed_due) ⇒ 12 ∷ not (eqb wishes most_trains) ⇒ 21 ∷ []

-- *Speed*. Low = max(0, speed - `b`)
abbrev pub low : (b : ℕ) → Train → ℕ
low b x = x.speed - b

-- not near: up to the segment's limit. Near with next allocated to it: up to the smaller of both limits
abbrev pub upper_end : Spot → ℕ
upper_end p = if p.near && p.holds then min p.limit p.nextlimit else p.limit

-- wishes outside go to the closer end. Near without next allocated to it: exactly low
unfoldable pub new_speed : (b : ℕ) → Spot → Train → (wish : ℕ) → ℕ
new_speed b p x wish = if p.near && not p.holds then low b x else max (low b x) (min (upper_end p) wish)

-- entries of trains off are ignored
abbrev pub sped_at : (b : ℕ) → Spot → (wish : ℕ) → Train → Train
sped_at b p wish x = if is_on x then with_speed x (new_speed b p x wish) else x

unfoldable pub sped : Tables → List ℕ → (wishes : List ℕ) → ℕ → Train → Train
sped T A wishes t x = sped_at T.braking (spot_of T (at A) t x) (at wishes t) x

-- *Request*: a near train whose next exists and isn't allocated to it asks
unfoldable pub wants : Spot → Bool
wants p = p.near && ltb 0 p.next && not p.holds

abbrev pub requested_at : Spot → Train → Train
requested_at p x = if is_on x then with_asking x (wants p) else x

unfoldable pub requested : Tables → List ℕ → ℕ → Train → Train
requested T A t x = requested_at (spot_of T (at A) t x) x

-- *Position*: position + speed. At or above the length it moves on: length subtracted
unfoldable pub moves_in : (length : ℕ) → Train → Bool
moves_in length x = is_on x && leb length (x.position + x.speed)

abbrev pub moves_on : Tables → Train → Bool
moves_on T x = moves_in (own_length T x) x

unfoldable pub moved_in : (length : ℕ) → Train → Train
moved_in length x =
    if moves_in length x
    then moved_to x (x.place + 1) (x.position + x.speed - length)
    else moved_to x x.place (x.position + x.speed)

abbrev pub moved : Tables → Train → Train
moved T x = moved_in (own_length T x) x

-- "A segment is under the train from the front's arrival until the rear is at or past its end, and is freed only then, at position": what
-- was under the train and no longer is. x is the train before the step
unfoldable pub released : Tables → Train → ℕ → Bool
released T x s = occupied T x s && not (occupied T (moved T x) s)

unfoldable pub freed : Tables → List Train → ℕ → ℕ → ℕ
freed T trains s h = if released T (train_at trains h) s then 0 else h
