-- What near means, and what speed, request, position, enter and leave do to one train and to one allocation, in the paper's words.
use Rattle.std.specs.Prelude.{if◌then◌else◌}
use Prim.Native.Nat.{ℕ, ◌-◌, ◌≤◌, min}
use mathlib.Core.Path.{◌≡◌, ap}
use mathlib.Core.Logic.{◌↔◌}
use mathlib.Core.Bool.{Bool, true, false, not, ◌&&◌}
use mathlib.Core.List.{List}
use native.Mathlib.Omega.{arith}
use borrow.Author.Tests.{leb-true, le-leb, lt-ltb, eq-eqb, ne_eqb}
use Rattle.lists.specs.Words.{at}
use Rattle.lists.proofs.Cases.{if_case, not_both, facts}
use Rattle.tables.specs.declared.Tables.{Tables}
use Rattle.trains.specs.declared.Train.{Train}
use Rattle.trains.specs.declared.Spot.{Spot}
use Rattle.trains.specs.Train.{with_speed, asking, with_asking, train_at, is_on, next_of, own_length, holds_next}
use Rattle.trains.specs.Spot.{spot_of}
use Rattle.trains.specs.Cycle.{low, upper_end, new_speed, sped, wants, requested, released, freed}
use Rattle.trains.specs.EnterLeave.{freed_by, becomes}

-- THE CLAIM: near means position ≥ length - `d`, and nothing else
pub near_iff : (T : Tables) (held : ℕ → ℕ) (t : ℕ) (x : Train) → ((spot_of T held t x).near ≡ true) ↔ (own_length T x - T.margin ≤ x.position)
near_iff T held t x = (leb-true (own_length T x - T.margin) x.position, le-leb (own_length T x - T.margin) x.position)

-- THE CLAIM: a train wants to ask where it is near, has a next, and that is not allocated to it; and only there
module _ (T : Tables) (held : ℕ → ℕ) (t : ℕ) (x : Train) where
  abbrev MayAsk : Type 0
  MayAsk = (own_length T x - T.margin ≤ x.position) × (1 ≤ next_of T x) × (held (next_of T x) ≡ t → ⊥)

  wants_there : MayAsk → wants (spot_of T held t x) ≡ true
  unfolding wants
  wants_there f =
      rw (le-leb (own_length T x - T.margin) x.position f.0, lt-ltb 0 (next_of T x) f.1, ne_eqb (held (next_of T x)) t f.2)

  pub wants_iff : (wants (spot_of T held t x) ≡ true) ↔ MayAsk
  unfolding wants
  wants_iff = (
    λ w.
        let f = simp facts at w in
        (f.0.0, f.0.1, λ e. not_both (holds_next T held t x) (rw (lt-ltb 0 (next_of T x) f.0.1, eq-eqb (held (next_of T x)) t e)) f.1),
    wants_there,
  )

-- THE CLAIM: entries of trains off are ignored
pub sped_off : (T : Tables) (A wishes : List ℕ) (t : ℕ) (x : Train) → is_on x ≡ false → sped T A wishes t x ≡ x
unfolding sped
sped_off T A wishes t x off =
    ap (λ (on : Bool). if on then with_speed x (new_speed T.braking (spot_of T (at A) t x) x (at wishes t)) else x) off

-- THE CLAIM: a train on asks after request exactly when it is near and has a next that isn't allocated to it
pub asks_when : (T : Tables) (A : List ℕ) (t : ℕ) (x : Train) → is_on x ≡ true → (requested T A t x).asks ≡ asking (wants (spot_of T (at A) t x))
unfolding requested
asks_when T A t x on = ap (λ (q : Bool). (if q then with_asking x (wants (spot_of T (at A) t x)) else x).asks) on

-- THE CLAIM: near without its next, a train takes exactly low; otherwise a wish between the ends is taken, and one outside goes to the closer
-- end. (Low is never above the upper end: `low-high`.) The upper end is the segment's limit, near with its next the smaller of both
module _ (b : ℕ) (p : Spot) (x : Train) (wish : ℕ) where
  pub speed_brakes : p.near ≡ true → p.holds ≡ false → new_speed b p x wish ≡ low b x
  unfolding new_speed
  speed_brakes n h = rw (n, h)

  pub speed_free :
      (p.near && not p.holds) ≡ false → low b x ≤ upper_end p
      → (low b x ≤ wish → wish ≤ upper_end p → new_speed b p x wish ≡ wish)
      × (wish ≤ low b x → new_speed b p x wish ≡ low b x)
      × (upper_end p ≤ wish → new_speed b p x wish ≡ upper_end p)
  unfolding new_speed
  speed_free free ends = rw free (λ l h. omega arith, λ l. omega arith, λ h. omega arith)

  pub upper_ends : (p.near ≡ false → upper_end p ≡ p.limit) × (p.near ≡ true → p.holds ≡ true → upper_end p ≡ min p.limit p.nextlimit)
  upper_ends = (λ n. rw n, λ n h. rw (n, h))

-- THE CLAIM: a wish below low goes to low: no cycle takes more than `b` off a speed
pub speed_low : (b : ℕ) (p : Spot) (x : Train) (wish : ℕ) → low b x ≤ new_speed b p x wish
unfolding new_speed
speed_low b p x wish = if_case (λ (v : ℕ). low b x ≤ v) (p.near && not p.holds) (λ e. omega arith) (λ e. omega arith)

-- THE CLAIM: at position the segment that a train has left is freed, and every other stays with its train
module _ (T : Tables) (trains : List Train) (s h : ℕ) where
  pub left_freed : released T (train_at trains h) s ≡ true → freed T trains s h ≡ 0
  unfolding freed
  left_freed r = ap (λ (left : Bool). if left then 0 else h) r

  pub others_stay : released T (train_at trains h) s ≡ false → freed T trains s h ≡ h
  unfolding freed
  others_stay r = ap (λ (left : Bool). if left then 0 else h) r

-- THE CLAIM: all that is allocated to a train that leaves is freed, and what is allocated to another stays
module _ (t s h : ℕ) where
  pub leaver_freed : h ≡ t → freed_by t s h ≡ 0
  leaver_freed e = ap (λ (its : Bool). if its then 0 else h) (eq-eqb h t e)

  pub others_kept : (h ≡ t → ⊥) → freed_by t s h ≡ h
  others_kept n = ap (λ (its : Bool). if its then 0 else h) (ne_eqb h t n)

-- THE CLAIM: the train that enters or leaves becomes what enter and leave make of it, and no other train does
module _ (t : ℕ) (x : Train) (n : ℕ) (old : Train) where
  pub named_becomes : n ≡ t → becomes t x n old ≡ x
  named_becomes e = rw (eq-eqb n t e)

  pub others_same : (n ≡ t → ⊥) → becomes t x n old ≡ old
  others_same e = rw (ne_eqb n t e)
