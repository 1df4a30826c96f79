-- The run in which trains have only a way shows the same record and gives the same answers.
use Rattle.std.specs.Prelude.{if◌then◌else◌}
use Prim.Native.Nat.{ℕ, ◌+◌, ◌-◌, ◌≤◌, ◌<◌}
use mathlib.Core.Path.{◌≡◌, refl, sym, ap, ◌∙◌}
use mathlib.Core.Bool.{Bool, true}
use mathlib.Core.List.{List, [], ◌∷◌, ◌++◌}
use native.Mathlib.Omega.{arith}
use lib.Dec.{ltb, eqb}
use lib.ListN.{length}
use lib.Seq.{ext_get_or}
use borrow.Author.Tests.{ltb-true, lt-ltb}
use Rattle.lists.specs.Words.{nth, each, tabulate, least}
use Rattle.lists.proofs.Cases.{by_test}
use Rattle.lists.proofs.Loops.{least_holds, least_upto}
use Rattle.lists.proofs.Numbered.{nth_index, length_tabulate, nth_tabulate, nth_replicate, length_each, nth_each_in}
use Rattle.tables.specs.declared.Tables.{Tables}
use Rattle.tables.specs.Tables.{count_of}
use Rattle.tables.specs.Facts.{Meets}
use Rattle.decoding.specs.Decoding.{decoded}
use Rattle.trains.specs.declared.Train.{Train}
use Rattle.trains.specs.Train.{most_trains, journey_of, off, train_at, is_on}
use Rattle.trains.specs.Way.{start_after}
use Rattle.answers.specs.declared.Answer.{Answer}
use Rattle.area.specs.declared.Outcome.{Outcome}
use Rattle.answers.specs.Answers.{number_of}
use Rattle.loading.specs.Load.{fresh, loaded}
use Rattle.separation.specs.Calls.{Call, Enter, Leave, Speed, Request, Grant, Position, called}
use Rattle.separation.specs.Runs.{World, noted, is_done, world_by, next, after_from, begin, after}
use Rattle.separation.specs.Ways.{WayTrain, off_way, WayWorld, way_train_at, place_of_way, shown_train, shown, way_after, way_train_by, way_world_by, next_by_ways, by_ways_from, by_ways}
use Rattle.trains.proofs.Rear.{start_mono}
use Rattle.separation.proofs.Places.{one_place}
use Rattle.separation.proofs.Demand3.{Good, good_fresh, good_next, good_separated, file_meets, file_fresh}

-- the place of a way is the one where it lies
place_of_way_lem :
    (T : Tables) (r way p : ℕ) → 1 ≤ p → p ≤ count_of T.routebytes r → start_after T r (p - 1) ≤ way → way < start_after T r p
    → place_of_way T r way ≡ p
unfolding place_of_way
place_of_way_lem T r way p low high from to =
    let ends : ℕ → Bool = λ q. ltb way (start_after T r q) in
    let u = least_upto ends (count_of T.routebytes r) p low high (lt-ltb way (start_after T r p) to) in
    let m = least (count_of T.routebytes r) ends in
    let e = ltb-true way (start_after T r m) (least_holds ends (count_of T.routebytes r) u.0) in
    one_place T r way m p u.0 low (omega (arith, start_mono T r (m - 1) (p - 1) (omega arith))) e from to

-- the train that a way shows is the train whose place and position are those of the way
shown_by :
    (T U : Tables) (x : Train) (way' r way p : ℕ) → U ≡ T → is_on x ≡ true → way' ≡ way → x.route ≡ r
    → 1 ≤ p → p ≤ count_of T.routebytes r → start_after T r (p - 1) ≤ way → way < start_after T r p
    → x.place ≡ p → x.position ≡ way - start_after T r (p - 1)
    → shown_train U (record { journey = journey_of x; way = way'; speed = x.speed; asks = x.asks; count = x.count }) ≡ x
unfolding shown_train
shown_by T U x way' r way p same on e f low high from to place position =
    let q : place_of_way U x.route way' ≡ x.place = rw (same, e, f) (place_of_way_lem T r way p low high from to) ∙ sym place in
    let d : way' - start_after U x.route (x.place - 1) ≡ x.position = rw (same, e, f, place) (sym position) in
    rw (on, q, d)

-- what the run by ways has in common with the run by the record
record Alike (i : WayWorld) (w : World) : Type 0 where
  pub sees : shown i ≡ w.area
  pub ways : (t : ℕ) → 1 ≤ t → t ≤ most_trains → (way_train_at i t).way ≡ w.history.way t
  pub speeds : (t : ℕ) → 1 ≤ t → t ≤ most_trains → (way_train_at i t).speed ≡ (train_at w.area.trains t).speed
  pub answers : i.answers ≡ w.answers

module _ (T : Tables) (M : Meets T) where
  module _ (i : WayWorld) (w : World) (r : Alike i w) (c : Call) (o : Outcome) where
    way_done : (d : Call) (t : ℕ) → 1 ≤ t → t ≤ most_trains → way_after d t (way_train_at i t) ≡ (noted w.history d w.area o.area).way t
    unfolding noted
    way_done (Enter u j v) t low high = ap (λ (n : ℕ). if eqb t u then 0 else n) (r.ways t low high)
    way_done (Leave u) t low high = r.ways t low high
    way_done (Speed wishes) t low high = r.ways t low high
    way_done Request t low high = r.ways t low high
    way_done Grant t low high = r.ways t low high
    way_done Position t low high = omega (arith, r.ways t low high, r.speeds t low high)

    way_same : (t : ℕ) → 1 ≤ t → t ≤ most_trains → (way_train_by i c o t).way ≡ (world_by w c o).history.way t
    way_same t low high =
        by_test (is_done o.answer) (λ e. rw e (way_done c t low high)) (λ e. rw e (r.ways t low high))

    -- the train that is shown is the train of the record
    shown_same : Good T (world_by w c o) → (t : ℕ) → 1 ≤ t → t ≤ most_trains → shown_train o.area.tables (way_train_by i c o t) ≡ train_at o.area.trains t
    unfolding shown_train
    shown_same g t low high =
        let s = good_separated T M (world_by w c o) g in
        let x = train_at o.area.trains t in
        let v = (world_by w c o).history in
        by_test (is_on x)
        (λ e.
        let on : v.on t ≡ true = sym (s.trains_on t) ∙ e in
        let h = s.own t on in
        let q = h.own in
        shown_by T o.area.tables x (way_train_by i c o t).way (v.journey t).route (v.way t) h.place s.tables e (way_same t low high) (s.routes t on)
        q.place.0 q.place.1 q.starts q.ends (s.places t h.place q) (s.positions t h.place q))
        (λ e. rw e (sym (g.kept.offs t (sym (s.trains_on t) ∙ e))))

    look : (t : ℕ) → 1 ≤ t → t ≤ most_trains → way_train_at (way_world_by i c o) t ≡ way_train_by i c o t
    look t low high = nth_tabulate off_way most_trains (way_train_by i c o) t low high

    alike_by : Good T (world_by w c o) → Alike (way_world_by i c o) (world_by w c o)
    alike_by g =
        record {
          sees = ap (λ (l : List Train). record { tables = o.area.tables; allocations = o.area.allocations; trains = l; due = o.area.due }) (lists g);
          ways = λ t low high. ap (λ (x : WayTrain). x.way) (look t low high) ∙ way_same t low high;
          speeds = λ t low high. ap (λ (x : WayTrain). x.speed) (look t low high);
          answers = ap (λ (l : List Answer). l ++ (o.answer ∷ [])) r.answers;
        }
      where
        f : ℕ → WayTrain → Train
        f t = shown_train o.area.tables

        made : List WayTrain
        made = tabulate most_trains (way_train_by i c o)

        long : length made ≡ 24
        long = length_tabulate most_trains (way_train_by i c o)

        lists : Good T (world_by w c o) → each f made ≡ o.area.trains
        lists g =
            ext_get_or off (each f made) o.area.trains (length_each f made ∙ (long ∙ sym g.kept.numbers))
            (λ n b.
            let high : n + 1 ≤ most_trains = omega (arith, length_each f made, long) in
            sym (nth_index off (each f made) n)
            ∙ (nth_each_in off_way off f made (n + 1) (omega arith) (omega (arith, long))
            ∙ (ap (f (n + 1)) (look (n + 1) (omega arith) high) ∙ (shown_same g (n + 1) (omega arith) high ∙ nth_index off o.area.trains n))))

  -- before the first call
  abbrev fresh_ways : WayWorld
  fresh_ways = record { tables = (fresh T).tables; allocations = (fresh T).allocations; trains = tabulate most_trains (λ (t : ℕ). off_way); due = (fresh T).due; answers = [] }

  alike_fresh : Alike fresh_ways (begin (fresh T))
  unfolding fresh begin each tabulate shown_train nth
  alike_fresh =
      record {
        sees = refl;
        ways = λ t low high. ap (λ (x : WayTrain). x.way) (nth_tabulate off_way most_trains (λ (k : ℕ). off_way) t low high);
        speeds =
            λ t low high.
            ap (λ (x : WayTrain). x.speed) (nth_tabulate off_way most_trains (λ (k : ℕ). off_way) t low high)
            ∙ sym (ap (λ (x : Train). x.speed) (nth_replicate off 24 t));
        answers = refl;
      }

  run_alike : (i : WayWorld) (w : World) → Alike i w → Good T w → (calls : List Call) → Alike (by_ways_from i calls) (after_from w calls)
  unfolding by_ways_from after_from next_by_ways next
  run_alike i w r g [] = r
  run_alike i w r g (c ∷ calls) =
      let more : Alike (next_by_ways i c) (next w c) = rw r.sees (alike_by i w r c (called w.area c) (good_next T M w g c)) in
      run_alike (next_by_ways i c) (next w c) more (good_next T M w g c) calls

-- THE CLAIM: for every file that load answers with done and every list of calls, the record and the answers are those of the run in
-- which a train has only a way
pub ways_show :
    (file : List ℕ) → number_of (loaded file).answer ≡ 0 → (calls : List Call)
    → (shown (by_ways file calls) ≡ (after file calls).area) × ((by_ways file calls).answers ≡ (after file calls).answers)
unfolding by_ways after
ways_show file done calls =
    let T = decoded file in
    let M = file_meets file done in
    rw (file_fresh file done) (both (run_alike T M (fresh_ways T M) (begin (fresh T)) (alike_fresh T M) (good_fresh T M) calls))
  where
    both : {i : WayWorld} {w : World} → Alike i w → (shown i ≡ w.area) × (i.answers ≡ w.answers)
    both r = (r.sees, r.answers)
