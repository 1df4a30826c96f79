-- What becomes of a train's count at every call but grant, and that no condition of a sound record speaks of the count of a train on.
use Prim.Native.Nat.{ℕ, ◌≤◌}
use mathlib.Core.Path.{◌≡◌, refl}
use mathlib.Core.List.{List}
use borrow.Author.Tests.{lt-ltb}
use Rattle.lists.proofs.Cases.{by_test}
use Rattle.tables.specs.declared.Tables.{Tables}
use Rattle.trains.specs.declared.Train.{Train}
use Rattle.trains.specs.Train.{Journey, off, entered, is_on, own_in, next_in, rear_in, holds_all_in}
use Rattle.trains.specs.Cycle.{sped, requested, moves_on, moved_in, moved}
use Rattle.trains.specs.Sound.{place_sound, braking_sound, asking_sound, stands_sound, train_sound}

-- THE CLAIM: the count is 0 at enter, and a train off has count 0
pub entered_count : (j : Journey) (v : ℕ) → (entered j v).count ≡ 0
entered_count j v = refl

pub off_count : off.count ≡ 0
off_count = refl

-- THE CLAIM: speed, request and position leave it as it was
module _ (T : Tables) (A : List ℕ) (t : ℕ) (x : Train) where
  pub sped_count : (wishes : List ℕ) → (sped T A wishes t x).count ≡ x.count
  unfolding sped
  sped_count wishes = by_test (is_on x) (λ e. rw e) (λ e. rw e)

  pub requested_count : (requested T A t x).count ≡ x.count
  unfolding requested
  requested_count = by_test (is_on x) (λ e. rw e) (λ e. rw e)

  pub moved_count : (moved T x).count ≡ x.count
  unfolding moved_in
  moved_count = by_test (moves_on T x) (λ e. rw e) (λ e. rw e)

-- a train with another count
abbrev counting : Train → ℕ → Train
counting x c = record { route = x.route; place = x.place; position = x.position; speed = x.speed; length = x.length; asks = x.asks; count = c }

-- THE CLAIM: a train on is as sound with any other count
pub any_count : (T : Tables) (A : List ℕ) (due t : ℕ) (x : Train) (c : ℕ) → 1 ≤ x.route → train_sound T A due t (counting x c) ≡ train_sound T A due t x
unfolding own_in next_in rear_in holds_all_in stands_sound place_sound braking_sound asking_sound
any_count T A due t x c on = rw (lt-ltb 0 x.route on)
