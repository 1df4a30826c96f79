-- What becomes of the trains and of one segment's allocation at enter and leave, and what these two ask (document 01, "The calls";
-- document 02, R-4).
-- T are the tables of the area, A its allocations, t the number of a train, x the train, j its journey, r a route, s the number of a
-- segment, h who holds it.
use Rattle.std.specs.Prelude.{ℕ, ◌/◌, ◌%◌, Bool, not, ◌&&◌, List, [], ◌∷◌, ◌++◌, leb, ltb, eqb, if◌then◌else◌}
use Rattle.lists.specs.Words.{at}
use Rattle.lists.specs.Tests.{Test, ◌⇒◌}
use Rattle.tables.specs.declared.Tables.{Tables}
use Rattle.tables.specs.Tables.{count_of, segment_at}
use Rattle.trains.specs.declared.Train.{Train}
use Rattle.trains.specs.Train.{most_trains, Journey, length_ok, train_at, is_on, own_of}

-- *Enter*: position 0 of the first segment, which becomes allocated to train t
abbrev pub first_segment : Tables → ℕ → ℕ
first_segment T r = segment_at T.routebytes r 1

abbrev pub taken_by : ℕ → ℕ → ℕ → ℕ → ℕ
taken_by first t s h = if eqb s first then t else h

-- *Leave*: all allocated to train t is freed
abbrev pub freed_by : ℕ → ℕ → ℕ → ℕ
freed_by t s h = if eqb h t then 0 else h

-- the train of number t becomes x
abbrev pub becomes : ℕ → Train → ℕ → Train → Train
becomes t x n old = if eqb n t then x else old

-- flags: 1 entry, 2 exit, sum of both
abbrev pub is_entry : Tables → ℕ → Bool
is_entry T s = eqb (at T.flags s % 2) 1

abbrev pub is_exit : Tables → ℕ → Bool
is_exit T s = eqb (at T.flags s / 2) 1

-- its segment is the route's last
abbrev pub is_last : Tables → Train → Bool
is_last T x = eqb x.place (count_of T.routebytes x.route)

-- 13: number not 1 to 24; 16: not 1 to R
abbrev pub no_train : ℕ → Bool
no_train t = not (leb 1 t && leb t most_trains)

abbrev pub no_route : Tables → ℕ → Bool
no_route T r = not (leb 1 r && leb r T.routes)

-- the tests of enter (train t, journey j, speed v) and of leave that come after 11. Those of enter are three lists: of the train's number;
-- whether it is on; of its journey, its speed and the route's first segment. "23, length outside the bounds, after 16"
abbrev pub number_tests : ℕ → List Test
number_tests t = no_train t ⇒ 13 ∷ []

abbrev pub on_tests : List Train → ℕ → List Test
on_tests trains t = is_on (train_at trains t) ⇒ 14 ∷ []

abbrev pub journey_tests : Tables → List ℕ → Journey → ℕ → List Test
journey_tests T A j v =
    no_route T j.route ⇒ 16
    ∷ not (length_ok j.length) ⇒ 23
    ∷ not (is_entry T (first_segment T j.route)) ⇒ 17
    ∷ ltb 0 (at A (first_segment T j.route)) ⇒ 18
    ∷ ltb (at T.limits (first_segment T j.route)) v ⇒ 19
    ∷ []

abbrev pub entry_tests : Tables → List ℕ → List Train → ℕ → Journey → ℕ → List Test
entry_tests T A trains t j v = number_tests t ++ on_tests trains t ++ journey_tests T A j v

abbrev pub exit_tests : Tables → List Train → ℕ → List Test
exit_tests T trains t =
    number_tests t
    ++ not (is_on (train_at trains t)) ⇒ 15
    ∷ not (is_last T (train_at trains t) && is_exit T (own_of T (train_at trains t))) ⇒ 20
    ∷ []
