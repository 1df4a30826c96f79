-- Each call that is answered done keeps what holds of the record and of what the list tells.
use Prim.Native.Nat.{ℕ, ◌≤◌}
use mathlib.Core.Path.{◌≡◌, refl, sym, ap, ◌∙◌}
use mathlib.Core.Logic.{◌⊎◌, inl, inr}
use mathlib.Core.Bool.{Bool, true, false, not, ◌&&◌}
use mathlib.Core.List.{List}
use native.Mathlib.Omega.{arith}
use lib.Dec.{eqb}
use lib.ListN.{length}
use borrow.Author.Tests.{eq-eqb, ne_eqb}
use Rattle.lists.specs.Words.{at, each}
use Rattle.lists.proofs.Cases.{if_case, by_test, cases, lt_or_le, eq_or_ne, not_both, either_yes}
use Rattle.lists.proofs.Numbered.{nth_zero, nth_each, length_each, nth_each_in, nth_where, nth_stored}
use Rattle.tables.specs.declared.Tables.{Tables}
use Rattle.tables.specs.Facts.{Consistent, IsSegment}
use Rattle.trains.specs.declared.Train.{Train}
use Rattle.trains.specs.Due.{speed_due, request_due, grant_due, position_due}
use Rattle.trains.specs.Train.{longest_train, Journey, journey_of, off, entered, train_at, is_on, own_in, own_of, occupied, ahead}
use Rattle.trains.specs.Cycle.{sped, requested, moves_in, moved, moved_in, released, freed}
use Rattle.trains.specs.Grant.{granted, count_after, calmed}
use Rattle.trains.specs.GrantFacts.{AsksFor}
use Rattle.trains.specs.EnterLeave.{first_segment, taken_by, freed_by, becomes}
use Rattle.trains.proofs.Segments.{occupied_beneath, own_occupied, wanted_ahead}
use Rattle.trains.proofs.Safety.{TrainOk, frame}
use Rattle.trains.proofs.SafeRequest.{request_ok}
use Rattle.trains.proofs.SafeGrant.{grant_ok}
use Rattle.trains.proofs.SafePosition.{position_ok}
use Rattle.trains.proofs.SafeEnter.{enter_ok}
use Rattle.trains.proofs.Grant.{grant_keeps, grant_asked}
use Rattle.trains.proofs.Calls.{sped_off, left_freed, others_stay, leaver_freed, others_kept, named_becomes, others_same}
use Rattle.separation.specs.Runs.{History, put, at_enter, at_leave, at_grant, at_position}
use Rattle.separation.proofs.Kept.{Kept, route_some, on_same}
use Rattle.separation.proofs.SafeSpeed.{speed_ok}

-- a train of the list after a step that leaves a train off as it is
train_each : (f : ℕ → Train → Train) (X : List Train) (t : ℕ) → ((n : ℕ) → f n off ≡ off) → train_at (each f X) t ≡ f t (train_at X t)
train_each f X t keeps =
    cases (lt_or_le t 1)
    (λ z. nth_zero off (each f X) t (omega arith) ∙ sym (ap (f t) (nth_zero off X t (omega arith)) ∙ keeps t))
    (λ low. nth_each off off f X t keeps low)

-- an allocation after a step that leaves an unallocated segment so
allocation_each : (f : ℕ → ℕ → ℕ) (A : List ℕ) (s : ℕ) → ((n : ℕ) → f n 0 ≡ 0) → at (each f A) s ≡ f s (at A s)
allocation_each f A s keeps =
    cases (lt_or_le s 1)
    (λ z. nth_zero 0 (each f A) s (omega arith) ∙ sym (ap (f s) (nth_zero 0 A s (omega arith)) ∙ keeps s))
    (λ low. nth_each 0 0 f A s keeps low)

put_same : {A : Type 0} (f : ℕ → A) (n : ℕ) (x : A) (k : ℕ) → k ≡ n → put f n x k ≡ x
put_same f n x k e = rw (eq-eqb k n e)

put_other : {A : Type 0} (f : ℕ → A) (n : ℕ) (x : A) (k : ℕ) → (k ≡ n → ⊥) → put f n x k ≡ f k
put_other f n x k e = rw (ne_eqb k n e)

-- a train that stands on the area has a number
number_some : (t : ℕ) (X : List Train) → 1 ≤ (train_at X t).route → 1 ≤ t
number_some t X some = cases (lt_or_le t 1) (λ z. absurd (omega (arith, ap (λ (x : Train). x.route) (nth_zero off X t (omega arith))))) (λ low. low)

module _ (T : Tables) (K : Consistent T) (A : List ℕ) (X : List Train) (h : History) where
  -- ---- a cycle step: f is what it makes of a train, A' the allocations, way' and granted' what the list tells after it
  module _ {due : ℕ} (k : Kept T A X due h) (f : ℕ → Train → Train) (A' : List ℕ) (due' : ℕ) (way' : ℕ → ℕ) (granted' : ℕ → ℕ → Bool) where
    step_keeps :
        due' ≤ position_due → length A' ≡ 62
        → ((t : ℕ) → f t off ≡ off)
        → ((t : ℕ) (x : Train) → journey_of (f t x) ≡ journey_of x)
        → ((t : ℕ) → h.on t ≡ true → TrainOk T due' (at A') t (f t (train_at X t)) (way' t) (granted' t))
        → ((s : ℕ) → 1 ≤ at A' s → h.on (at A' s) ≡ true)
        → Kept T A' (each f X) due' (record { on = h.on; journey = h.journey; way = way'; granted = granted' })
    step_keeps d long offs journeys ons holders =
        record {
          due_ok = d;
          segments = long;
          numbers = length_each f X ∙ k.numbers;
          offs = λ t o. look t ∙ (ap (f t) (k.offs t o) ∙ offs t);
          journeys = λ t o. ap journey_of (look t) ∙ (journeys t (train_at X t) ∙ k.journeys t o);
          ons = λ t o. rw (look t) (ons t o);
          holders = holders;
        }
      where
        look : (t : ℕ) → train_at (each f X) t ≡ f t (train_at X t)
        look t = train_each f X t offs

  -- ---- speed
  module _ (k : Kept T A X speed_due h) (wishes : List ℕ) where
    pub keep_speed : Kept T A (each (sped T A wishes) X) request_due h
    unfolding sped
    keep_speed =
        step_keeps k (sped T A wishes) A request_due h.way h.granted (omega arith) k.segments (λ t. sped_off T A wishes t off refl)
        (λ t x. if_case (λ (y : Train). journey_of y ≡ journey_of x) (is_on x) (λ e. refl) (λ e. refl))
        (λ t o. rw (on_same T A X speed_due h k t ∙ o) (speed_ok T K (at A) t (train_at X t) (h.way t) (h.granted t) (k.ons t o) (at wishes t)))
        k.holders

  -- ---- request
  module _ (k : Kept T A X request_due h) where
    pub keep_request : Kept T A (each (requested T A) X) grant_due h
    unfolding requested
    keep_request =
        step_keeps k (requested T A) A grant_due h.way h.granted (omega arith) k.segments (λ t. refl)
        (λ t x. if_case (λ (y : Train). journey_of y ≡ journey_of x) (is_on x) (λ e. refl) (λ e. refl))
        (λ t o. rw (on_same T A X request_due h k t ∙ o) (request_ok T K (at A) t (train_at X t) (h.way t) (h.granted t) (k.ons t o)))
        k.holders

  -- ---- grant
  module _ (k : Kept T A X grant_due h) where
    abbrev A' : List ℕ
    A' = each (granted T X) A

    abbrev granted' : ℕ → ℕ → Bool
    granted' = (at_grant h A A').granted

    -- an allocation after the grant: of before, or granted to a train that asks for the segment
    gained : (s t : ℕ) → 1 ≤ t → at A' s ≡ t → (at A s ≡ t) ⊎ ((at A s ≡ t → ⊥) × AsksFor T X t s)
    gained s t some e =
        nth_where 0 A' s _
        (λ low high.
        let q : granted T X s (at A s) ≡ t = sym (nth_each_in 0 0 (granted T X) A s low (rw (length_each (granted T X) A) at high)) ∙ e in
        cases (eq_or_ne (at A s) 0)
        (λ z. inr (λ o. omega arith, grant_asked T X s t low some (rw z at q)))
        (λ n. inl (sym (grant_keeps T X s (at A s) (omega arith)) ∙ q)))
        (λ z. absurd (omega arith))

    keeps_held : (s t : ℕ) → 1 ≤ t → at A s ≡ t → at A' s ≡ t
    keeps_held s t some e =
        nth_where 0 A s _
        (λ low high. nth_each_in 0 0 (granted T X) A s low high ∙ (grant_keeps T X s (at A s) (omega arith) ∙ e))
        (λ z. absurd (omega arith))

    -- a train that asks is on
    asks_on : (t s : ℕ) → AsksFor T X t s → h.on t ≡ true
    asks_on t s a =
        by_test (h.on t) (λ o. o)
        (λ o. absurd (omega (arith, a.asks, ap (λ (x : Train). x.asks) (k.offs t o))))

    noted_grant : (t s : ℕ) → (at A s ≡ t → ⊥) → at A' s ≡ t → granted' t s ≡ true
    noted_grant t s n e =
        either_yes (h.granted t s) (not (eqb (at A s) t) && eqb (at A' s) t)
        (inr (rw (ne_eqb (at A s) t n, eq-eqb (at A' s) t e)))

    pub keep_grant : Kept T A' (each (calmed T A A') X) position_due (at_grant h A A')
    unfolding calmed count_after
    keep_grant =
        step_keeps k (calmed T A A') A' position_due h.way granted' (omega arith) (length_each (granted T X) A ∙ k.segments) (λ t. refl) (λ t x. refl)
        (λ t o.
        let some = number_some t X (route_some T A X grant_due h k t o) in
        grant_ok T K (k.ons t o) (λ s e. keeps_held s t some e)
        (λ s e.
        cases (gained s t some e) (λ q. inl q)
        (λ q.
        inr (asked_ahead s t some e q.1, noted_grant t s q.0 e)))
        (λ s e. either_yes (h.granted t s) (not (eqb (at A s) t) && eqb (at A' s) t) (inl e)))
        (λ s some. cases (gained s (at A' s) some refl) (λ q. rw (sym q) (k.holders s (omega arith))) (λ q. asks_on (at A' s) s q.1))
      where
        -- what it asked for and was given lies ahead of it
        asked_ahead : (s t : ℕ) → 1 ≤ t → at A' s ≡ t → AsksFor T X t s → ahead T (train_at X t) s ≡ true
        asked_ahead s t some e a = nth_where 0 A' s _ (λ low high. wanted_ahead T (train_at X t) low a.wants) (λ z. absurd (omega arith))

  -- ---- position
  module _ (k : Kept T A X position_due h) where
    abbrev A'' : List ℕ
    A'' = each (freed T X) A

    freed_look : (s : ℕ) → at A'' s ≡ freed T X s (at A s)
    unfolding freed
    freed_look s = allocation_each (freed T X) A s (λ n. if_case (λ (x : ℕ). x ≡ 0) (released T (train_at X 0) n) (λ e. refl) (λ e. refl))

    kept_of : (s t : ℕ) → at A s ≡ t → released T (train_at X t) s ≡ false → at A'' s ≡ t
    kept_of s t e r = freed_look s ∙ rw e (others_stay T X s t r)

    of_kept : (s t : ℕ) → 1 ≤ t → at A'' s ≡ t → (at A s ≡ t) × (released T (train_at X t) s ≡ false)
    of_kept s t some e =
        let q : freed T X s (at A s) ≡ t = sym (freed_look s) ∙ e in
        by_test (released T (train_at X (at A s)) s)
        (λ r. let z : 0 ≡ t = sym (left_freed T X s (at A s) r) ∙ q in absurd (omega arith))
        (λ r. let z : at A s ≡ t = sym (others_stay T X s (at A s) r) ∙ q in (z, rw z at r))

    pub keep_position :
        Kept T A'' (each (λ (t : ℕ). moved T) X) speed_due (at_position h X)
    unfolding moves_in moved_in
    keep_position =
        step_keeps k (λ (t : ℕ). moved T) A'' speed_due (at_position h X).way h.granted (omega arith) (length_each (freed T X) A ∙ k.segments) (λ t. refl)
        (λ t x. if_case (λ (y : Train). journey_of y ≡ journey_of x) (moves_in (at T.lengths (own_of T x)) x) (λ e. refl) (λ e. refl))
        (λ t o.
        let some = number_some t X (route_some T A X position_due h k t o) in
        position_ok T K (at A) (at A'') t (train_at X t) (h.way t) (h.granted t) (k.ons t o) (λ s e r. kept_of s t e r) (λ s e. of_kept s t some e))
        (λ s some. let q = (of_kept s (at A'' s) some refl).0 in rw (sym q) (k.holders s (omega arith)))

  -- ---- leave: train t goes off
  module _ {due : ℕ} (k : Kept T A X due h) (t : ℕ) where
    abbrev left_a : List ℕ
    left_a = each (freed_by t) A

    abbrev left_x : List Train
    left_x = each (becomes t off) X

    left_look : (u : ℕ) → train_at left_x u ≡ becomes t off u (train_at X u)
    left_look u = train_each (becomes t off) X u (λ n. if_case (λ (y : Train). y ≡ off) (eqb n t) (λ e. refl) (λ e. refl))

    free_look : (s : ℕ) → at left_a s ≡ freed_by t s (at A s)
    free_look s = allocation_each (freed_by t) A s (λ n. if_case (λ (y : ℕ). y ≡ 0) (eqb 0 t) (λ e. refl) (λ e. refl))

    -- what is allocated to another train stays so
    other_held : (s u : ℕ) → (u ≡ t → ⊥) → at A s ≡ u → at left_a s ≡ u
    other_held s u n e = free_look s ∙ rw e (others_kept t s u n)

    still_held : (s u : ℕ) → 1 ≤ u → at left_a s ≡ u → (at A s ≡ u) × (u ≡ t → ⊥)
    still_held s u some e =
        let q : freed_by t s (at A s) ≡ u = sym (free_look s) ∙ e in
        cases (eq_or_ne (at A s) t)
        (λ z. let p : 0 ≡ u = sym (leaver_freed t s (at A s) z) ∙ q in absurd (omega arith))
        (λ n. let p : at A s ≡ u = sym (others_kept t s (at A s) n) ∙ q in (p, λ z. n (p ∙ z)))

    pub keep_leave : Kept T left_a left_x due (at_leave h t)
    keep_leave =
        record {
          due_ok = k.due_ok;
          segments = length_each (freed_by t) A ∙ k.segments;
          numbers = length_each (becomes t off) X ∙ k.numbers;
          offs =
              λ u o.
              cases (eq_or_ne u t) (λ e. left_look u ∙ named_becomes t off u (train_at X u) e)
              (λ n. left_look u ∙ (others_same t off u (train_at X u) n ∙ k.offs u (sym (put_other h.on t false u n) ∙ o)));
          journeys = λ u o. let p = was u o in rw (left_look u, others_same t off u (train_at X u) p.0) (k.journeys u p.1);
          ons =
              λ u o.
              let p = was u o in
              let some = number_some u X (route_some T A X due h k u p.1) in
              rw (left_look u, others_same t off u (train_at X u) p.0)
              (frame T K (k.ons u p.1) (λ s e. other_held s u p.0 e) (λ s e. (still_held s u some e).0) (λ s e. e));
          holders =
              λ s some.
              let q = still_held s (at left_a s) some refl in
              put_other h.on t false (at left_a s) q.1 ∙ rw (sym q.0) (k.holders s (omega arith));
        }
      where
        -- a train that is on afterwards is another, which was on
        was : (u : ℕ) → (at_leave h t).on u ≡ true → (u ≡ t → ⊥) × (h.on u ≡ true)
        was u o =
            cases (eq_or_ne u t) (λ e. not_both (put h.on t false u) o (put_same h.on t false u e))
            (λ n. (n, sym (put_other h.on t false u n) ∙ o))

  -- ---- enter: train t, which was off, stands at the start of its route, whose first segment was free
  module _
      {due : ℕ} (k : Kept T A X due h) (t : ℕ) (j : Journey) (v : ℕ) (is_train : (1 ≤ t) × (t ≤ 24)) (wasOff : is_on (train_at X t) ≡ false)
      (isRoute : (1 ≤ j.route) × (j.route ≤ T.routes)) (isLength : (1 ≤ j.length) × (j.length ≤ longest_train))
      (free : at A (first_segment T j.route) ≡ 0) (slow : v ≤ at T.limits (first_segment T j.route)) where
    abbrev first : ℕ
    first = first_segment T j.route

    abbrev taken_a : List ℕ
    taken_a = each (taken_by first t) A

    abbrev taken_x : List Train
    taken_x = each (becomes t (entered j v)) X

    first_is : IsSegment T first
    first_is = K.placed j.route 1 isRoute.0 isRoute.1 (omega arith) (K.counted j.route isRoute.0 isRoute.1).0

    was_off : h.on t ≡ false
    was_off = sym (on_same T A X due h k t) ∙ wasOff

    -- nothing was allocated to it
    none_held : (s : ℕ) → at A s ≡ t → ⊥
    none_held s e = let some : 1 ≤ at A s = omega (arith, is_train.0) in not_both (h.on t) (rw e at (k.holders s some)) was_off

    enter_look : (u : ℕ) → train_at taken_x u ≡ becomes t (entered j v) u (train_at X u)
    enter_look u = nth_stored off X t (entered j v) is_train.0 (omega (arith, is_train.1, k.numbers)) u

    take_look : (s : ℕ) → at taken_a s ≡ taken_by first t s (at A s)
    take_look s = nth_stored 0 A first t first_is.from (omega (arith, first_is.to, K.segments.1, k.segments)) s

    -- what is allocated to another train stays so, and the first segment goes to t
    others_held : (s u : ℕ) → 1 ≤ u → at A s ≡ u → at taken_a s ≡ u
    others_held s u some e = take_look s ∙ rw (ne_eqb s first (λ z. omega (arith, ap (at A) z, free))) e

    others_still : (s u : ℕ) → (u ≡ t → ⊥) → at taken_a s ≡ u → at A s ≡ u
    others_still s u n e =
        let q : taken_by first t s (at A s) ≡ u = sym (take_look s) ∙ e in
        cases (eq_or_ne s first) (λ z. absurd (n (sym (rw (eq-eqb s first z) at q)))) (λ z. rw (ne_eqb s first z) at q)

    -- what is under it is the route's first segment, and that alone is allocated to it
    first_under : (s : ℕ) → occupied T (entered j v) s ≡ true → at taken_a s ≡ t
    first_under s o =
        let b = occupied_beneath T (entered j v) o in
        let e : b.place ≡ 1 = omega (arith, b.low, b.high) in
        take_look s ∙ rw (eq-eqb s first (sym (rw e at b.segment)))

    under_first : (s : ℕ) → at taken_a s ≡ t → occupied T (entered j v) s ≡ true
    unfolding own_in
    under_first s e =
        let q : taken_by first t s (at A s) ≡ t = sym (take_look s) ∙ e in
        cases (eq_or_ne s first) (λ z. own_occupied T (entered j v) (omega arith) (sym z)) (λ z. absurd (none_held s (rw (ne_eqb s first z) at q)))

    itself : (got : ℕ → Bool) → TrainOk T due (at taken_a) t (entered j v) 0 got
    unfolding own_in
    itself got = enter_ok T K due (at taken_a) t j v got isRoute.0 isRoute.1 isLength slow first_under under_first

    another : (u : ℕ) → (u ≡ t → ⊥) → h.on u ≡ true → TrainOk T due (at taken_a) u (train_at X u) (h.way u) (h.granted u)
    another u n o =
        let some = number_some u X (route_some T A X due h k u o) in
        frame T K (k.ons u o) (λ s e. others_held s u some e) (λ s e. others_still s u n e) (λ s e. e)

    pub keep_enter : Kept T taken_a taken_x due (at_enter h t j)
    keep_enter =
        record {
          due_ok = k.due_ok;
          segments = length_each (taken_by first t) A ∙ k.segments;
          numbers = length_each (becomes t (entered j v)) X ∙ k.numbers;
          offs =
              λ u o.
              cases (eq_or_ne u t) (λ e. not_both (put h.on t true u) (put_same h.on t true u e) o)
              (λ n. rw (enter_look u, ne_eqb u t n) (k.offs u (rw (ne_eqb u t n) at o)));
          journeys =
              λ u o.
              cases (eq_or_ne u t) (λ e. rw (enter_look u, eq-eqb u t e))
              (λ n. rw (enter_look u, ne_eqb u t n) (k.journeys u (rw (ne_eqb u t n) at o)));
          ons =
              λ u o.
              cases (eq_or_ne u t) (λ e. rw (enter_look u, eq-eqb u t e) (rw e (itself _)))
              (λ n. rw (enter_look u, ne_eqb u t n) (another u n (rw (ne_eqb u t n) at o)));
          holders =
              λ s some.
              cases (eq_or_ne (at taken_a s) t) (λ e. put_same h.on t true (at taken_a s) e)
              (λ n.
              let q = others_still s (at taken_a s) n refl in
              put_other h.on t true (at taken_a s) n ∙ rw (sym q) (k.holders s (omega arith)));
        }
