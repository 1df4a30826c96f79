-- What is reckoned from the front alone (document 02, R-4): a train of another length has the same own segment and next, is near at the same
-- positions, has the same limits, asks for the same and runs as fast and as far.
use Prim.Native.Nat.{ℕ}
use mathlib.Core.Path.{◌≡◌, refl}
use Rattle.lists.proofs.Cases.{by_test}
use Rattle.tables.specs.declared.Tables.{Tables}
use Rattle.trains.specs.declared.Train.{Train}
use Rattle.trains.specs.Train.{own_in, own_of, next_in, next_of, wanted_in, wanted}
use Rattle.trains.specs.Spot.{spot_of}
use Rattle.trains.specs.Cycle.{new_speed, wants, moves_in, moves_on, moved_in, moved}

-- a train of length l
abbrev pub long : Train → ℕ → Train
long x l = record { route = x.route; place = x.place; position = x.position; speed = x.speed; length = l; asks = x.asks; count = x.count }

module _ (T : Tables) (x : Train) (l : ℕ) where
  -- THE CLAIM: own segment, next and what it asks for
  pub own_front : own_of T (long x l) ≡ own_of T x
  unfolding own_in
  own_front = refl

  pub next_front : next_of T (long x l) ≡ next_of T x
  unfolding next_in
  next_front = refl

  pub wanted_front : wanted T (long x l) ≡ wanted T x
  unfolding wanted_in next_in
  wanted_front = refl

  -- THE CLAIM: near, both limits and whether next is allocated to it
  pub spot_front :
      (held : ℕ → ℕ) (t : ℕ)
      → let p = spot_of T held t x in
      let q = spot_of T held t (long x l) in
      (q.near ≡ p.near) × (q.limit ≡ p.limit) × (q.nextlimit ≡ p.nextlimit) × (q.holds ≡ p.holds)
  unfolding own_in next_in
  spot_front held t = (refl, refl, refl, refl)

  -- THE CLAIM: the speed that a wish gives, and whether it asks
  pub speed_front : (held : ℕ → ℕ) (t b wish : ℕ) → new_speed b (spot_of T held t (long x l)) (long x l) wish ≡ new_speed b (spot_of T held t x) x wish
  unfolding new_speed own_in next_in
  speed_front held t b wish = refl

  pub asks_front : (held : ℕ → ℕ) (t : ℕ) → wants (spot_of T held t (long x l)) ≡ wants (spot_of T held t x)
  unfolding wants own_in next_in
  asks_front held t = refl

  -- THE CLAIM: where it runs to
  pub moved_front : moved T (long x l) ≡ long (moved T x) l
  unfolding moved_in moves_in own_in
  moved_front = by_test (moves_on T x) (λ e. rw e) (λ e. rw e)
