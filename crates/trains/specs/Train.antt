-- A train of an area: the six forms in which one is written, and what is said of one (document 01, "The calls";
-- document 02, R-2 and R-4).
-- T are the tables of the area, t the number of the train, x the train, r a route, p a place of it, s a segment.
use Rattle.std.specs.Prelude.{ℕ, zero, suc, ◌+◌, ◌-◌, Bool, ◌&&◌, ◌||◌, List, leb, ltb, eqb, if◌then◌else◌}
use Rattle.lists.specs.Words.{nth, at, every, some}
use Rattle.tables.specs.declared.Tables.{Tables}
use Rattle.tables.specs.Tables.{count_of, segment_at}
use Rattle.trains.specs.declared.Train.{Train}

-- trains of an area
abbrev pub most_trains : ℕ
most_trains = 24

-- "a length of 1 to 20,000 decimetres"
abbrev pub longest_train : ℕ
longest_train = 20000

abbrev pub length_ok : ℕ → Bool
length_ok l = leb 1 l && leb l longest_train

-- the route and the length: what an enter names and the train keeps until it leaves. (Its speed it does not keep)
pub record Journey : Type 0 where
  pub route : ℕ
  pub length : ℕ

abbrev pub journey_of : Train → Journey
journey_of x = record { route = x.route; length = x.length }

-- a train off: all zero
abbrev pub off : Train
off = record { route = 0; place = 0; position = 0; speed = 0; length = 0; asks = 0; count = 0 }

-- a train that enters: its front at position 0 of the route's first segment; "the count is 0 at enter"
abbrev pub entered : Journey → ℕ → Train
entered j v = record { route = j.route; place = 1; position = 0; speed = v; length = j.length; asks = 0; count = 0 }

-- asking as a number: 1 where it asks, 0 where it does not
abbrev pub asking : Bool → ℕ
asking q = if q then 1 else 0

-- a train with another speed, and with another asking
abbrev pub with_speed : Train → ℕ → Train
with_speed x v =
    record { route = x.route; place = x.place; position = x.position; speed = v; length = x.length; asks = x.asks; count = x.count }

abbrev pub with_asking : Train → Bool → Train
with_asking x q =
    record { route = x.route; place = x.place; position = x.position; speed = x.speed; length = x.length; asks = asking q; count = x.count }

-- a train that asks no more and counts c
abbrev pub answered : Train → ℕ → Train
answered x c =
    record { route = x.route; place = x.place; position = x.position; speed = x.speed; length = x.length; asks = 0; count = c }

-- a train further on: its front at place p of its route, position i there
abbrev pub moved_to : Train → ℕ → ℕ → Train
moved_to x p i =
    record { route = x.route; place = p; position = i; speed = x.speed; length = x.length; asks = x.asks; count = x.count }

-- the train of a number; a train off where there is none
abbrev pub train_at : List Train → ℕ → Train
train_at = nth off

-- it is on the area
abbrev pub is_on : Train → Bool
is_on x = ltb 0 x.route

-- its own segment: the one at its place of its route, where its front is
unfoldable pub own_in : (routebytes : List ℕ) → Train → ℕ
own_in routebytes x = segment_at routebytes x.route x.place

abbrev pub own_of : Tables → Train → ℕ
own_of T x = own_in T.routebytes x

-- its **next**: the route's next segment, 0 if there is none
unfoldable pub next_in : (routebytes : List ℕ) → Train → ℕ
next_in routebytes x = if ltb x.place (count_of routebytes x.route) then segment_at routebytes x.route (x.place + 1) else 0

abbrev pub next_of : Tables → Train → ℕ
next_of T x = next_in T.routebytes x

-- the length and the limit of its own segment, and the limit of its next
abbrev pub own_length : Tables → Train → ℕ
own_length T x = at T.lengths (own_of T x)

abbrev pub own_limit : Tables → Train → ℕ
own_limit T x = at T.limits (own_of T x)

abbrev pub next_limit : Tables → Train → ℕ
next_limit T x = at T.limits (next_of T x)

-- **near**: position ≥ length - `d`
abbrev pub near_in : (length d : ℕ) → Train → Bool
near_in length d x = leb (length - d) x.position

abbrev pub near : Tables → Train → Bool
near T x = near_in (own_length T x) T.margin x

-- next exists and is allocated to it. `held` says who holds a segment
abbrev pub holds_next : Tables → (held : ℕ → ℕ) → ℕ → Train → Bool
holds_next T held t x = ltb 0 (next_of T x) && eqb (held (next_of T x)) t

-- the rear's place of a train that reaches `back` decimetres behind the start of place p of route r, lengths summed back from there: the
-- place of the hindmost segment under the train. It is the one in which the rear is, the one after it where the rear is at a segment's
-- end, and the first of the route where the rear is outside the area: "what lies before the route's first segment is outside the area"
unfoldable pub rear_from : (routebytes lengths : List ℕ) (r p back : ℕ) → ℕ
rear_from routebytes lengths r zero back = 1
rear_from routebytes lengths r (suc p) back =
    if eqb back 0 then suc p else rear_from routebytes lengths r p (back - at lengths (segment_at routebytes r p))

-- "The rear lies that far behind the front along the route": length - position is how far the train reaches behind the start of its own
-- segment, 0 where it lies wholly in it
unfoldable pub rear_in : (routebytes lengths : List ℕ) → Train → ℕ
rear_in routebytes lengths x = rear_from routebytes lengths x.route x.place (x.length - x.position)

abbrev pub rear_of : Tables → Train → ℕ
rear_of T = rear_in T.routebytes T.lengths

-- the segments under the train: at a place of its route from its rear's to its front's
unfoldable pub occupied_in : (routebytes lengths : List ℕ) → Train → ℕ → Bool
occupied_in routebytes lengths x s =
    some x.place (λ (p : ℕ). leb (rear_in routebytes lengths x) p && eqb (segment_at routebytes x.route p) s)

abbrev pub occupied : Tables → Train → ℕ → Bool
occupied T = occupied_in T.routebytes T.lengths

-- every segment under it is allocated to it: "all of these segments are allocated to that train alone". `held` says who holds a segment
unfoldable pub holds_all_in : (routebytes lengths : List ℕ) (held : ℕ → ℕ) → ℕ → Train → Bool
holds_all_in routebytes lengths held t x =
    every x.place (λ (p : ℕ). ltb p (rear_in routebytes lengths x) || eqb (held (segment_at routebytes x.route p)) t)

-- its next, where there is one: the only segment not under it that may be allocated to it
unfoldable pub ahead_in : (routebytes : List ℕ) → Train → ℕ → Bool
ahead_in routebytes x s = ltb 0 s && eqb (next_in routebytes x) s

abbrev pub ahead : Tables → Train → ℕ → Bool
ahead T = ahead_in T.routebytes

-- what it asks for: its next, 0 if there is none
unfoldable pub wanted_in : (routebytes : List ℕ) → Train → ℕ
wanted_in routebytes x = next_in routebytes x

abbrev pub wanted : Tables → Train → ℕ
wanted T = wanted_in T.routebytes
