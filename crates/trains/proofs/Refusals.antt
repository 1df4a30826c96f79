-- The order of the refusals that come after 11: of enter, of leave and of the steps (document 01, "Refusals"; document 02, R-4: "23, length
-- outside the bounds, after 16"). Each is given whatever the conditions after it are. Numbers and bounds stand here as the papers have them.
use Prim.Native.Nat.{ℕ, ◌≤◌, ◌<◌}
use mathlib.Core.Path.{◌≡◌, refl}
use mathlib.Core.Logic.{◌⊎◌}
use mathlib.Core.Bool.{true, false, not, ◌&&◌}
use mathlib.Core.List.{List, [], ◌∷◌}
use lib.Dec.{ltb}
use borrow.Author.Tests.{eq-eqb, ne_eqb}
use Rattle.lists.specs.Words.{at}
use Rattle.lists.specs.Tests.{◌⇒◌, first_of}
use Rattle.lists.proofs.Refusals.{is_one, is_none}
use Rattle.tables.specs.declared.Tables.{Tables}
use Rattle.trains.specs.declared.Train.{Train}
use Rattle.trains.specs.Due.{speed_due}
use Rattle.trains.specs.Train.{Journey, train_at, is_on, own_of}
use Rattle.trains.specs.Cycle.{due_tests, wish_tests}
use Rattle.trains.specs.EnterLeave.{first_segment, is_entry, is_exit, is_last, entry_tests, exit_tests}

-- ---- THE CLAIM: flags: 1 entry, 2 exit, 3 both, 0 none
pub flags_say :
    (T : Tables) (s : ℕ)
    → (at T.flags s ≡ 0 → (is_entry T s ≡ false) × (is_exit T s ≡ false)) × (at T.flags s ≡ 1 → (is_entry T s ≡ true) × (is_exit T s ≡ false))
    × (at T.flags s ≡ 2 → (is_entry T s ≡ false) × (is_exit T s ≡ true)) × (at T.flags s ≡ 3 → (is_entry T s ≡ true) × (is_exit T s ≡ true))
flags_say T s = (λ e. rw e (refl, refl), λ e. rw e (refl, refl), λ e. rw e (refl, refl), λ e. rw e (refl, refl))

-- ---- enter: 13, 14, 16, 23, 17, 18, 19
module _ (T : Tables) (A : List ℕ) (trains : List Train) (t : ℕ) (j : Journey) (v : ℕ) where
  -- THE CLAIM: first 13, whatever route, length and speed are
  pub entry_train : (t < 1) ⊎ (24 < t) → (first_of (entry_tests T A trains t j v)).number ≡ 13
  entry_train h = simp (is_none 24 t h)

  module _ (is_train : (1 ≤ t) × (t ≤ 24)) where
    -- THE CLAIM: then 14
    pub entry_on : is_on (train_at trains t) ≡ true → (first_of (entry_tests T A trains t j v)).number ≡ 14
    entry_on on = simp (is_one 24 t is_train, on)

    module _ (isOff : is_on (train_at trains t) ≡ false) where
      -- THE CLAIM: then 16, whatever the length is
      pub entry_route : (j.route < 1) ⊎ (T.routes < j.route) → (first_of (entry_tests T A trains t j v)).number ≡ 16
      entry_route h = simp (is_one 24 t is_train, isOff, is_none T.routes j.route h)

      module _ (isRoute : (1 ≤ j.route) × (j.route ≤ T.routes)) where
        -- THE CLAIM: then 23, whatever the route's first segment and the speed are
        pub entry_length : (j.length < 1) ⊎ (20000 < j.length) → (first_of (entry_tests T A trains t j v)).number ≡ 23
        entry_length h = simp (is_one 24 t is_train, isOff, is_one T.routes j.route isRoute, is_none 20000 j.length h)

        -- THE CLAIM: then 17, 18 and 19, in which the length plays no part: trains of all lengths of 1 to 20,000 are answered alike
        pub entry_rest :
            (1 ≤ j.length) × (j.length ≤ 20000)
            → let first = first_segment T j.route in
            (first_of (entry_tests T A trains t j v)).number ≡ (first_of (not (is_entry T first) ⇒ 17 ∷ ltb 0 (at A first) ⇒ 18 ∷ ltb (at T.limits first) v ⇒ 19 ∷ [])).number
        entry_rest h = simp (is_one 24 t is_train, isOff, is_one T.routes j.route isRoute, is_one 20000 j.length h)

-- ---- leave: 13, 15, 20
module _ (T : Tables) (trains : List Train) (t : ℕ) where
  -- THE CLAIM: first 13
  pub exit_train : (t < 1) ⊎ (24 < t) → (first_of (exit_tests T trains t)).number ≡ 13
  exit_train h = simp (is_none 24 t h)

  module _ (is_train : (1 ≤ t) × (t ≤ 24)) where
    -- THE CLAIM: then 15, whatever else the record says of a train off
    pub exit_off : is_on (train_at trains t) ≡ false → (first_of (exit_tests T trains t)).number ≡ 15
    exit_off off = simp (is_one 24 t is_train, off)

    module _ (on : is_on (train_at trains t) ≡ true) where
      -- THE CLAIM: then 20, where its segment is not the route's last or lacks the exit flag, and only there
      pub exit_inside : (is_last T (train_at trains t) && is_exit T (own_of T (train_at trains t))) ≡ false → (first_of (exit_tests T trains t)).number ≡ 20
      exit_inside h = simp (is_one 24 t is_train, on, h)

      pub exit_done : (is_last T (train_at trains t) && is_exit T (own_of T (train_at trains t))) ≡ true → (first_of (exit_tests T trains t)).number ≡ 0
      exit_done h = simp (is_one 24 t is_train, on, h)

-- ---- speed: 12, 21
module _ (due wishes : ℕ) where
  -- THE CLAIM: first 12, however many wishes there are
  pub speed_turn : (due ≡ speed_due → ⊥) → (first_of (wish_tests due wishes)).number ≡ 12
  speed_turn h = simp (ne_eqb due speed_due h)

  -- THE CLAIM: then 21, where there are not 24 of them, and only there
  pub speed_wishes : due ≡ speed_due → (wishes ≡ 24 → ⊥) → (first_of (wish_tests due wishes)).number ≡ 21
  speed_wishes d h = simp (eq-eqb due speed_due d, ne_eqb wishes 24 h)

  pub speed_done : due ≡ speed_due → wishes ≡ 24 → (first_of (wish_tests due wishes)).number ≡ 0
  speed_done d h = simp (eq-eqb due speed_due d, eq-eqb wishes 24 h)

-- ---- request, grant, position: 12
module _ (step due : ℕ) where
  -- THE CLAIM: 12 where the step is not due, and only there
  pub step_turn : (due ≡ step → ⊥) → (first_of (due_tests step due)).number ≡ 12
  step_turn h = simp (ne_eqb due step h)

  pub step_done : due ≡ step → (first_of (due_tests step due)).number ≡ 0
  step_done h = simp (eq-eqb due step h)
