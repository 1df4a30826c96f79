-- What holds of one train on the area at every call; and it goes on holding of a train whose segments stay as they are (`frame`). No lists
-- of trains or allocations: `held` says who holds a segment, `way` is the way since its enter, `got` what grant steps since then allocated
-- to it. The files Safe.. have what each call does to it; leave takes it off.
use Prim.Native.Nat.{ℕ, ◌+◌, ◌-◌, ◌≤◌, ◌<◌}
use mathlib.Core.Path.{◌≡◌, refl, sym, ap, ◌∙◌}
use mathlib.Core.Logic.{◌⊎◌, inl, inr}
use mathlib.Core.Bool.{Bool, true, false, ◌&&◌, and-eq-true_iff}
use native.Mathlib.Omega.{arith}
use lib.Dec.{ltb, eqb}
use borrow.Author.Tests.{ltb-true, eqb-true, lt-ltb, eq-eqb, ne_eqb}
use Rattle.lists.proofs.Cases.{if_case, by_test, cases, lt_or_le, not_both}
use Rattle.braking.specs.Braking.{B}
use Rattle.tables.specs.declared.Tables.{Tables}
use Rattle.tables.specs.Tables.{count_of, segment_at, braking_distance}
use Rattle.tables.specs.Facts.{IsSegment, Follows, Consistent}
use Rattle.tables.proofs.Distance.{distance_mono}
use Rattle.trains.specs.declared.Train.{Train}
use Rattle.trains.specs.Due.{speed_due, grant_due}
use Rattle.trains.specs.Train.{longest_train, asking, own_in, own_of, next_of, own_length, own_limit, next_limit, holds_next, occupied, ahead}
use Rattle.trains.specs.Spot.{spot_of}
use Rattle.trains.specs.Cycle.{wants}
use Rattle.trains.specs.Sound.{to_run}
use Rattle.trains.specs.Way.{start_after}
use Rattle.trains.proofs.Segments.{next_there, next_none, occupied_beneath, occupied_same, ahead_same}

-- place p of route r is one of the tables
pub record OnRoute (T : Tables) (r p : ℕ) : Type 0 where
  pub route_low : 1 ≤ r
  pub route_high : r ≤ T.routes
  pub place_low : 1 ≤ p
  pub place_high : p ≤ count_of T.routebytes r

pub record TrainOk (T : Tables) (due : ℕ) (held : ℕ → ℕ) (t : ℕ) (x : Train) (way : ℕ) (got : ℕ → Bool) : Type 0 where
  pub on_route : OnRoute T x.route x.place
  pub inside : x.position < own_length T x
  pub slow : x.speed ≤ own_limit T x
  pub long : (1 ≤ x.length) × (x.length ≤ longest_train)
  -- what is under it is allocated to it, and nothing else is but what a grant gave it ahead
  pub holds : (s : ℕ) → occupied T x s ≡ true → held s ≡ t
  pub only : (s : ℕ) → held s ≡ t → (occupied T x s ≡ true) ⊎ ((ahead T x s ≡ true) × (got s ≡ true))
  pub stops : holds_next T held t x ≡ false → x.position + to_run (braking_distance T) due x.speed < own_length T x
  pub next_slow : holds_next T held t x ≡ true → speed_due < due → own_length T x ≤ x.position + x.speed → x.speed ≤ next_limit T x
  pub walked : way ≡ start_after T x.route (x.place - 1) + x.position
  pub asks_well : x.asks ≡ asking (eqb due grant_due && wants (spot_of T held t x))

pub run_now : (S : ℕ → ℕ) (v : ℕ) → to_run S speed_due v ≡ S v - v
unfolding to_run
run_now S v = refl

-- THE CLAIM: with speed due the way still to run is B(speed)
pub run_b : (T : Tables) (v : ℕ) → to_run (braking_distance T) speed_due v ≡ B T.braking v
unfolding to_run B
run_b T v = refl

pub run_later : (S : ℕ → ℕ) (due v : ℕ) → speed_due < due → to_run S due v ≡ S v
unfolding to_run
run_later S due v h = rw (ne_eqb due speed_due (λ e. omega arith))

pub run_within : (S : ℕ → ℕ) (due v : ℕ) → to_run S due v ≤ S v
unfolding to_run
run_within S due v = if_case (λ (w : ℕ). w ≤ S v) (eqb due speed_due) (λ e. omega arith) (λ e. omega arith)

-- the two fields that speak of its segments, of a train as long at the same point of the same route
module _
    (T : Tables) (held : ℕ → ℕ) (t : ℕ) (x y : Train) (got : ℕ → Bool) (route : y.route ≡ x.route) (place : y.place ≡ x.place)
    (position : y.position ≡ x.position) (length : y.length ≡ x.length) where
  pub holds_there : ((s : ℕ) → occupied T x s ≡ true → held s ≡ t) → (s : ℕ) → occupied T y s ≡ true → held s ≡ t
  holds_there h s e = h s (sym (occupied_same T x y route place position length s) ∙ e)

  pub only_there :
      ((s : ℕ) → held s ≡ t → (occupied T x s ≡ true) ⊎ ((ahead T x s ≡ true) × (got s ≡ true)))
      → (s : ℕ) → held s ≡ t → (occupied T y s ≡ true) ⊎ ((ahead T y s ≡ true) × (got s ≡ true))
  only_there h s e =
      cases (h s e) (λ q. inl (occupied_same T x y route place position length s ∙ q)) (λ q. inr (ahead_same T x y route place s ∙ q.0, q.1))

module _ (T : Tables) (K : Consistent T) where
  -- its own segment is one of the area
  pub own_is : (x : Train) → OnRoute T x.route x.place → IsSegment T (own_of T x)
  unfolding own_in
  own_is x o = K.placed x.route x.place o.route_low o.route_high o.place_low o.place_high

  -- and so is every segment under it
  pub under_is : (x : Train) → OnRoute T x.route x.place → {s : ℕ} → occupied T x s ≡ true → IsSegment T s
  under_is x o {s} e =
      let b = occupied_beneath T x e in
      rw b.segment at (K.placed x.route b.place o.route_low o.route_high b.low (omega (arith, b.high, o.place_high)))

  -- its next, where there is one: at the place after its own, to which its own links
  pub record NextIs (x : Train) : Type 0 where
    pub later : x.place < count_of T.routebytes x.route
    pub same : next_of T x ≡ segment_at T.routebytes x.route (x.place + 1)
    pub follows : Follows T (own_of T x) (next_of T x)
    pub segment : IsSegment T (next_of T x)

  pub next_is : (x : Train) → OnRoute T x.route x.place → 1 ≤ next_of T x → NextIs x
  unfolding own_in
  next_is x o some =
      cases (lt_or_le x.place (count_of T.routebytes x.route))
      (λ h.
      let e = next_there T x h in
      record {
        later = h;
        same = e;
        follows = rw e (K.stepped x.route x.place o.route_low o.route_high o.place_low h);
        segment = rw e (K.placed x.route (x.place + 1) o.route_low o.route_high (omega arith) (omega arith));
      })
      (λ h. absurd (omega (arith, next_none T x h)))

  -- a speed up to the limit brakes within the end distance
  pub in_margin : (x : Train) → OnRoute T x.route x.place → (v : ℕ) → v ≤ own_limit T x → braking_distance T v ≤ T.margin
  in_margin x o v h =
      let l = K.limited (own_of T x) (own_is x o) in
      omega (arith, distance_mono T K v T.gmax (omega arith), K.stops)

  -- what the two parts of `holds_next` say
  pub held_next : (held : ℕ → ℕ) (t : ℕ) (x : Train) → holds_next T held t x ≡ true → (1 ≤ next_of T x) × (held (next_of T x) ≡ t)
  held_next held t x h =
      let f = (and-eq-true_iff (ltb 0 (next_of T x)) (eqb (held (next_of T x)) t)).0 h in
      (ltb-true 0 (next_of T x) f.0, eqb-true (held (next_of T x)) t f.1)

  next_held : (held : ℕ → ℕ) (t : ℕ) (x : Train) → 1 ≤ next_of T x → held (next_of T x) ≡ t → holds_next T held t x ≡ true
  next_held held t x some e = rw (lt-ltb 0 (next_of T x) some, eq-eqb (held (next_of T x)) t e)

  -- ---- who holds what changes
  module _ (held held' : ℕ → ℕ) (t : ℕ) (x : Train) (kept : 1 ≤ next_of T x → held (next_of T x) ≡ t → held' (next_of T x) ≡ t) where
    holds_kept : holds_next T held t x ≡ true → holds_next T held' t x ≡ true
    holds_kept o = let p = held_next held t x o in next_held held' t x p.0 (kept p.0 p.1)

    pub holds_not : holds_next T held' t x ≡ false → holds_next T held t x ≡ false
    holds_not o = by_test (holds_next T held t x) (λ e. not_both (holds_next T held' t x) (holds_kept e) o) (λ e. e)

  holds_same :
      (held held' : ℕ → ℕ) (t : ℕ) (x : Train) → ((s : ℕ) → held s ≡ t → held' s ≡ t) → ((s : ℕ) → held' s ≡ t → held s ≡ t)
      → holds_next T held t x ≡ holds_next T held' t x
  holds_same held held' t x to from =
      by_test (holds_next T held t x) (λ e. e ∙ sym (holds_kept held held' t x (λ some. to (next_of T x)) e))
      (λ e. e ∙ sym (holds_not held' held t x (λ some. from (next_of T x)) e))

  wants_same :
      (held held' : ℕ → ℕ) (t : ℕ) (x : Train) → holds_next T held t x ≡ holds_next T held' t x
      → wants (spot_of T held t x) ≡ wants (spot_of T held' t x)
  unfolding wants
  wants_same held held' t x e = rw e

  -- a train whose segments stay as they are
  pub frame :
      {due : ℕ} {held held' : ℕ → ℕ} {t : ℕ} {x : Train} {way : ℕ} {got got' : ℕ → Bool}
      → TrainOk T due held t x way got
      → ((s : ℕ) → held s ≡ t → held' s ≡ t)
      → ((s : ℕ) → held' s ≡ t → held s ≡ t)
      → ((s : ℕ) → got s ≡ true → got' s ≡ true)
      → TrainOk T due held' t x way got'
  frame {due} {held} {held'} {t} {x} {way} {got} {got'} ok to from g =
      record {
        on_route = ok.on_route;
        inside = ok.inside;
        slow = ok.slow;
        long = ok.long;
        holds = λ s e. to s (ok.holds s e);
        only = λ s e. cases (ok.only s (from s e)) (λ q. inl q) (λ q. inr (q.0, g s q.1));
        stops = λ o. ok.stops (holds_not held held' t x (λ some. to (next_of T x)) o);
        next_slow = λ o d h. ok.next_slow (holds_kept held' held t x (λ some. from (next_of T x)) o) d h;
        walked = ok.walked;
        asks_well = ok.asks_well ∙ ap (λ (b : Bool). asking (eqb due grant_due && b)) (wants_same held held' t x (holds_same held held' t x to from));
      }
