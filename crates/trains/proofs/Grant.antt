-- What a grant does, in the papers' words: an allocated segment keeps its holder; a free segment that is asked for goes to a train that
-- asked for it, and none that did goes before it; nobody asks afterwards; and what each train counts.
use Rattle.std.specs.Prelude.{if◌then◌else◌}
use Prim.Native.Nat.{ℕ, ◌+◌, ◌≤◌, min}
use mathlib.Core.Path.{◌≡◌, refl, sym, ◌∙◌}
use mathlib.Core.Bool.{Bool, true, false}
use mathlib.Core.List.{List}
use native.Mathlib.Omega.{arith}
use lib.Dec.{eqb}
use borrow.Author.Tests.{eq-eqb, ne_eqb, eqb-true}
use Rattle.lists.specs.Words.{at}
use Rattle.tables.specs.declared.Tables.{Tables}
use Rattle.trains.specs.declared.Train.{Train}
use Rattle.trains.specs.Train.{most_trains, answered, train_at, wanted}
use Rattle.trains.specs.Order.{goes_before, foremost}
use Rattle.trains.specs.Grant.{asked, train_count, served, granted, count_after, calmed}
use Rattle.trains.specs.GrantFacts.{AsksFor}
use Rattle.trains.proofs.Order.{before_self, before_through, foremost_le, foremost_holds, foremost_first}

chosen : (b : Bool) (w s : ℕ) → 1 ≤ s → (if b then w else 0) ≡ s → (b ≡ true) × (w ≡ s)
chosen true w s some e = (refl, e)
chosen false w s some e = absurd (omega arith)

choose : (b : Bool) (w s : ℕ) → b ≡ true → w ≡ s → (if b then w else 0) ≡ s
choose b w s q e = rw q e

module _ (T : Tables) (trains : List Train) where
  asks_of : (t s : ℕ) → 1 ≤ s → asked T (train_at trains t) ≡ s → ((train_at trains t).asks ≡ 1) × (wanted T (train_at trains t) ≡ s)
  unfolding asked
  asks_of t s some e =
      let c = chosen (eqb (train_at trains t).asks 1) (wanted T (train_at trains t)) s some e in
      (eqb-true (train_at trains t).asks 1 c.0, c.1)

  of_asks : (t s : ℕ) → AsksFor T trains t s → asked T (train_at trains t) ≡ s
  unfolding asked
  of_asks t s a = choose (eqb (train_at trains t).asks 1) (wanted T (train_at trains t)) s (eq-eqb (train_at trains t).asks 1 a.asks) a.wants

  -- THE CLAIM: a segment that is allocated stays with its train
  pub grant_keeps : (s h : ℕ) → 1 ≤ h → granted T trains s h ≡ h
  unfolding granted
  grant_keeps s h some = rw (ne_eqb h 0 (λ e. omega arith))

  granted_free : (s : ℕ) → granted T trains s 0 ≡ served T trains s
  unfolding granted
  granted_free s = refl

  abbrev asks_it : ℕ → ℕ → Bool
  asks_it s t = eqb (asked T (train_at trains t)) s

  first_served : (s u : ℕ) → AsksFor T trains u s → (1 ≤ served T trains s) × (goes_before (train_count trains) u (served T trains s) ≡ false)
  unfolding served
  first_served s u a =
      foremost_first (goes_before (train_count trains)) (before_self (train_count trains)) (before_through (train_count trains)) (asks_it s) most_trains u a.is_train.0 a.is_train.1 (eq-eqb (asked T (train_at trains u)) s (of_asks u s a))

  -- THE CLAIM: an unallocated segment goes to none but a train asking for it
  pub grant_asked : (s t : ℕ) → 1 ≤ s → 1 ≤ t → granted T trains s 0 ≡ t → AsksFor T trains t s
  unfolding served
  grant_asked s t some high e =
      let before = goes_before (train_count trains) in
      let same : foremost before most_trains (asks_it s) ≡ t = sym (granted_free s) ∙ e in
      let holds : asks_it s t ≡ true = rw same at (foremost_holds before (asks_it s) most_trains (omega arith)) in
      let le : t ≤ most_trains = rw same at (foremost_le before (asks_it s) most_trains) in
      let a = asks_of t s some (eqb-true (asked T (train_at trains t)) s holds) in
      record { is_train = (high, le); asks = a.0; wants = a.1 }

  -- THE CLAIM: no train that asked for it goes before the one that gets it
  pub grant_first : (s t u : ℕ) → granted T trains s 0 ≡ t → AsksFor T trains u s → goes_before (train_count trains) u t ≡ false
  grant_first s t u e a = rw (sym (granted_free s) ∙ e) at (first_served s u a).1

  -- THE CLAIM: an unallocated segment that a train asks for gets a holder
  pub grant_given : (s u : ℕ) → AsksFor T trains u s → 1 ≤ granted T trains s 0
  grant_given s u a = rw (granted_free s) (first_served s u a).0

  -- ---- what train t counts afterwards. A are the allocations before the step, A' those after it
  module _ (A A' : List ℕ) (t : ℕ) where
    abbrev after : Train
    after = calmed T A A' t (train_at trains t)

    abbrev one_more : ℕ
    one_more = min ((train_at trains t).count + 1) 65535

    -- THE CLAIM: all asking ends
    pub calmed_asks : after.asks ≡ 0
    unfolding calmed
    calmed_asks = refl

    -- THE CLAIM: nothing else of a train changes but its count
    pub calmed_rest : after ≡ answered (train_at trains t) after.count
    unfolding calmed
    calmed_rest = refl

    -- THE CLAIM: its count returns to 0 where it gets the free segment that it asks for
    pub count_granted : (s : ℕ) → AsksFor T trains t s → at A s ≡ 0 → at A' s ≡ t → after.count ≡ 0
    unfolding calmed count_after
    count_granted s a free own = rw (eq-eqb (train_at trains t).asks 1 a.asks, of_asks t s a, eq-eqb (at A s) 0 free, eq-eqb (at A' s) t own)

    -- THE CLAIM: it counts one more, 65,535 at the most, where that goes to another
    pub count_lost : (s : ℕ) → AsksFor T trains t s → at A s ≡ 0 → (at A' s ≡ t → ⊥) → after.count ≡ one_more
    unfolding calmed count_after
    count_lost s a free other = rw (eq-eqb (train_at trains t).asks 1 a.asks, of_asks t s a, eq-eqb (at A s) 0 free, ne_eqb (at A' s) t other)

    -- THE CLAIM: and likewise where it was allocated already
    pub count_taken : (s : ℕ) → AsksFor T trains t s → 1 ≤ at A s → after.count ≡ one_more
    unfolding calmed count_after
    count_taken s a some = rw (eq-eqb (train_at trains t).asks 1 a.asks, of_asks t s a, ne_eqb (at A s) 0 (λ z. omega arith))

    -- THE CLAIM: a train that does not ask keeps its count
    pub count_kept : ((train_at trains t).asks ≡ 1 → ⊥) → after.count ≡ (train_at trains t).count
    unfolding calmed count_after
    count_kept idle = rw (ne_eqb (train_at trains t).asks 1 idle)
