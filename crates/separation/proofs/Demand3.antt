-- The proof of the claim: what is kept holds before the first call and after each, and the claim's sentences follow from it.
use Prim.Native.Nat.{ℕ}
use mathlib.Core.Path.{◌≡◌, refl, ap, ◌∙◌}
use mathlib.Core.Logic.{◌↔◌}
use mathlib.Core.Bool.{true, false}
use mathlib.Core.List.{List, [], ◌∷◌}
use native.Mathlib.Omega.{arith}
use Rattle.lists.specs.Words.{nth}
use Rattle.lists.proofs.Cases.{not_both}
use Rattle.lists.proofs.Numbered.{nth_replicate, nth_more}
use Rattle.tables.specs.declared.Tables.{Tables}
use Rattle.tables.specs.Facts.{Meets}
use Rattle.tables.proofs.Consistency.{consistent}
use Rattle.decoding.specs.Decoding.{decoded}
use Rattle.reading.proofs.Accepted.{accepted_iff}
use Rattle.trains.specs.Train.{off, train_at, occupied}
use Rattle.answers.specs.declared.Answer.{Answer}
use Rattle.answers.specs.declared.Answer.TheVariants.{Done}
use Rattle.area.specs.declared.Area.{Area}
use Rattle.area.specs.declared.Outcome.{Outcome}
use Rattle.answers.specs.Answers.{number_of, place_of}
use Rattle.loading.specs.Load.{fresh, loaded}
use Rattle.loading.proofs.Loading.{done_iff, done_fresh}
use Rattle.separation.specs.Calls.{Call, called}
use Rattle.separation.specs.Runs.{World, world_by, next, after_from, begin, after}
use Rattle.separation.specs.Where.{OnArea, OnSegment}
use Rattle.separation.specs.Claim.{Separated, Demand3}
use Rattle.separation.proofs.Kept.{Kept, on_same, kept_sound}
use Rattle.separation.proofs.Going.{KeptIn, Went, went_called}
use Rattle.separation.proofs.Fields.{is_apart, is_allocated, is_slow, is_only, is_stopping, has_own, here, is_position, route_of_lem, length_of_lem, on_iff}

-- what holds after every list of calls
pub record Good (T : Tables) (w : World) : Type 0 where
  pub tables : w.area.tables ≡ T
  pub kept : KeptIn w.area w.history
  pub never_unsound : (k : ℕ) → number_of (nth Done w.answers k) ≡ 11 → ⊥
  pub placeless : (k : ℕ) → place_of (nth Done w.answers k) ≡ 0

module _ (T : Tables) (M : Meets T) where
  pub good_fresh : Good T (begin (fresh T))
  unfolding begin fresh nth
  good_fresh =
      record {
        tables = refl;
        kept =
            record {
              due_ok = omega arith;
              segments = refl;
              numbers = refl;
              offs = λ t o. nth_replicate off 24 t;
              journeys = λ t o. not_both false o refl;
              ons = λ t o. not_both false o refl;
              holders = λ s some. absurd (omega (arith, nth_replicate {A = ℕ} 0 62 s));
            };
        never_unsound = λ k e. omega (arith, ap number_of (nth_replicate Done 0 k));
        placeless = λ k. ap place_of (nth_replicate Done 0 k);
      }

  good_by : (w : World) → Good T w → (c : Call) (o : Outcome) → Went w.area w.history c o → Good T (world_by w c o)
  good_by w g c o p =
      record {
        tables = p.tables ∙ g.tables;
        kept = p.kept;
        never_unsound = nth_more Done (λ (y : Answer). number_of y ≡ 11 → ⊥) w.answers _ (λ e. omega arith) g.never_unsound p.not_unsound;
        placeless = nth_more Done (λ (y : Answer). place_of y ≡ 0) w.answers _ refl g.placeless p.no_place;
      }

  pub good_next : (w : World) → Good T w → (c : Call) → Good T (next w c)
  unfolding next
  good_next w g c = good_by w g c (called w.area c) (went_called w.area w.history g.kept (rw g.tables M) c)

  pub good_from : (w : World) → Good T w → (calls : List Call) → Good T (after_from w calls)
  unfolding after_from
  good_from w g [] = g
  good_from w g (c ∷ calls) = good_from (next w c) (good_next w g c) calls

  kept_by : (w : World) → Good T w → Kept T w.area.allocations w.area.trains w.area.due w.history
  kept_by w g = rw g.tables at g.kept

  pub good_separated : (w : World) → Good T w → Separated T w
  good_separated w g =
      let K = consistent T M in
      let k = kept_by w g in
      record {
        apart = is_apart T K w k;
        allocated = is_allocated T K w k;
        slow = is_slow T K w k;
        only = is_only T K w k;
        stops = is_stopping T K w k;
        own = has_own T K w k;
        tables = g.tables;
        trains_on = on_same T w.area.allocations w.area.trains w.area.due w.history k;
        routes = route_of_lem T K w k;
        lengths = length_of_lem T K w k;
        places = here T K w k;
        positions = is_position T K w k;
        is_sound = kept_sound w.area.tables w.area.allocations w.area.trains w.area.due w.history g.kept (rw g.tables M);
        never_unsound = g.never_unsound;
        placeless = g.placeless;
      }

-- the tables of a file that load answers with done meet the rules, and its record is fresh
pub file_meets : (file : List ℕ) → number_of (loaded file).answer ≡ 0 → Meets (decoded file)
file_meets file done = ((done_iff file).0 done).tables

pub file_fresh : (file : List ℕ) → number_of (loaded file).answer ≡ 0 → (loaded file).area ≡ fresh (decoded file)
file_fresh file done = done_fresh file ((accepted_iff file).1 ((done_iff file).0 done))

-- THE CLAIM: a list starts from the record of a load answered done: the file's tables, no allocations, no trains, speed due
pub from_fresh :
    (file : List ℕ) → number_of (loaded file).answer ≡ 0 → (calls : List Call) → after file calls ≡ after_from (begin (fresh (decoded file))) calls
unfolding after
from_fresh file done calls = ap (λ (a : Area). after_from (begin a) calls) (file_fresh file done)

-- THE CLAIM: demand 3, for every file that load answers with done and every list of calls: no two trains are on one segment, and all the
-- other sentences of `Separated`
pub demand3 : Demand3
demand3 file done calls =
    let T = decoded file in
    let M = file_meets file done in
    let start = begin (fresh T) in
    rw (from_fresh file done calls) (good_separated T M (after_from start calls) (good_from T M start (good_fresh T M) calls))

-- THE CLAIM: after every list from such a file, a train on the area is on a segment, by its way and the length that its enter named, exactly
-- where the record has the segment under it, by lengths summed back from its front
pub under_same :
    (file : List ℕ) → number_of (loaded file).answer ≡ 0 → (calls : List Call) (t s : ℕ) → OnArea (decoded file) (after file calls) t
    → OnSegment (decoded file) (after file calls) t s ↔ (occupied (decoded file) (train_at (after file calls).area.trains t) s ≡ true)
under_same file done calls =
    let T = decoded file in
    let M = file_meets file done in
    let start = begin (fresh T) in
    let w = after_from start calls in
    rw (from_fresh file done calls) (on_iff T (consistent T M) w (kept_by T M w (good_from T M start (good_fresh T M) calls)))
