-- A file is accepted if and only if it meets the ten rules; what a refusal's place is; and the facts of an accepted file's tables.
use Prim.Native.Nat.{ℕ, ◌+◌, ◌-◌, ◌≤◌, ◌<◌}
use mathlib.Core.Path.{◌≡◌, refl, sym, ap, ◌∙◌}
use mathlib.Core.Bool.{Bool, true, false}
use mathlib.Core.Logic.{◌↔◌}
use mathlib.Core.List.{List}
use native.Mathlib.Omega.{arith}
use lib.Dec.{ltb, eqb}
use lib.ListN.{length}
use borrow.Author.Tests.{eqb-true, ltb-true, ltb-false, eq-eqb, le-ltb, not-true, not-false}
use Rattle.lists.specs.Words.{first_failing}
use Rattle.lists.specs.Tests.{Test, condition_of, place_named}
use Rattle.lists.proofs.Cases.{by_test, and_iff}
use Rattle.lists.proofs.Refusals.{passed, first_named, first_none, first_number}
use Rattle.lists.proofs.Loops.{failing_le, failing_fails, failing_before, failing_none, none_failing}
use Rattle.file.specs.Blocks.{blocks, file_size, block, intact, filed, first_damaged, first_misfiled}
use Rattle.tables.specs.Bounds.{most_segments, most_routes, Bounds, bounds}
use Rattle.tables.specs.Rules.{header_ok, segment_ok, joint_ok, order_ok, drop_ok, route_ok}
use Rattle.tables.specs.Facts.{Consistent}
use Rattle.tables.proofs.Consistency.{consistent}
use Rattle.decoding.specs.Decoding.{decoded}
use Rattle.reading.specs.Verdict.{header_filed, reserved, record_ok, file_tests, table_tests, verdict_within, verdict, accepted_within, accepted}
use Rattle.reading.specs.Acceptance.{MeetsRulesWithin, MeetsRules, LeastBroken, LeastBlock, Placed}

-- the tests of load, in the order of their numbers
abbrev pub tests_within : Bounds → List ℕ → List Test
tests_within β file = file_tests file (table_tests β file (decoded file))

abbrev pub load_tests : List ℕ → List Test
load_tests file = tests_within bounds file

-- a scan that fails nowhere, or at some number
module _ (n : ℕ) (ok : ℕ → Bool) where
  nowhere : ltb 0 (first_failing n ok) ≡ false → (k : ℕ) → 1 ≤ k → k ≤ n → ok k ≡ true
  nowhere e = let z : first_failing n ok ≡ 0 = omega (arith, ltb-false 0 (first_failing n ok) e) in failing_none ok n z

  nowhere' : ((k : ℕ) → 1 ≤ k → k ≤ n → ok k ≡ true) → ltb 0 (first_failing n ok) ≡ false
  nowhere' f = le-ltb 0 (first_failing n ok) (omega (arith, none_failing ok n f))

  somewhere : ltb 0 (first_failing n ok) ≡ true → LeastBroken n ok (first_failing n ok)
  somewhere e =
      let low = ltb-true 0 (first_failing n ok) e in
      record { from = low; to = failing_le ok n; broken = failing_fails ok n low; before = failing_before ok n }

-- the same over blocks, whose numbers are one less
module _ (ok : ℕ → Bool) where
  abbrev shifted : ℕ → Bool
  shifted k = ok (k - 1)

  back : (k : ℕ) (t : Bool) → shifted (k + 1) ≡ t → ok k ≡ t
  back k t e = let q : k + 1 - 1 ≡ k = omega arith in rw q at e

  no_block : ltb 0 (first_failing blocks shifted) ≡ false → (k : ℕ) → k < blocks → ok k ≡ true
  no_block e k below = back k true (nowhere blocks shifted e (k + 1) (omega arith) (omega arith))

  no_block' : ((k : ℕ) → k < blocks → ok k ≡ true) → ltb 0 (first_failing blocks shifted) ≡ false
  no_block' f = nowhere' blocks shifted (λ k low high. f (k - 1) (omega arith))

  some_block : ltb 0 (first_failing blocks shifted) ≡ true → LeastBlock ok (first_failing blocks shifted - 1)
  some_block e =
      let l = somewhere blocks shifted e in
      record {
        to = omega (arith, l.from, l.to);
        broken = l.broken;
        before = λ j below. back j true (l.before (j + 1) (omega arith) (omega (arith, l.from)));
      }

module _ (β : Bounds) (file : List ℕ) where
  -- the condition of the test of a number does not hold in an accepted file
  pub passes : (n : ℕ) → (verdict_within β file).holds ≡ false → condition_of n (tests_within β file) ≡ false
  passes n e = passed n (tests_within β file) e

  accepted_meets : (verdict_within β file).holds ≡ false → MeetsRulesWithin β file
  unfolding first_damaged first_misfiled record_ok
  accepted_meets e =
      let T = decoded file in
      let header = (and_iff (header_filed file) (header_ok β T)).0 (not-false _ (passes 4 e)) in
      let record-ok = nowhere most_segments (record_ok β file T) (passes 6 e) in
      let segment : (s : ℕ) → 1 ≤ s → s ≤ most_segments → (segment_ok β T s ≡ true) × (reserved file s ≡ true) =
      λ s low high. (and_iff (segment_ok β T s) (reserved file s)).0 (record-ok s low high) in
      record {
        size = eqb-true (length file) file_size (not-false _ (passes 1 e));
        checks = no_block (λ (k : ℕ). intact (block file k)) (passes 2 e);
        tails = no_block (λ (k : ℕ). filed (block file k) k) (passes 3 e);
        header = header.0;
        zeros = λ s low high. (segment s low high).1;
        tables =
            record {
              header = header.1;
              margin = not-false _ (passes 5 e);
              segment = λ s low high. (segment s low high).0;
              joint = nowhere T.segments (joint_ok T) (passes 7 e);
              order = nowhere T.segments (order_ok T) (passes 8 e);
              drop = nowhere T.segments (drop_ok T) (passes 9 e);
              route = nowhere most_routes (route_ok T) (passes 10 e);
            };
      }

  meets_accepted : MeetsRulesWithin β file → (verdict_within β file).holds ≡ false
  unfolding first_damaged first_misfiled record_ok
  meets_accepted m =
      let T = decoded file in
      let t = m.tables in
      let r1 = eq-eqb (length file) file_size m.size in
      let r2 = no_block' (λ (k : ℕ). intact (block file k)) m.checks in
      let r3 = no_block' (λ (k : ℕ). filed (block file k) k) m.tails in
      let r6 = nowhere' most_segments (record_ok β file T)
      (λ s low high. (and_iff (segment_ok β T s) (reserved file s)).1 (t.segment s low high, m.zeros s low high)) in
      let r7 = nowhere' T.segments (joint_ok T) t.joint in
      let r8 = nowhere' T.segments (order_ok T) t.order in
      let r9 = nowhere' T.segments (drop_ok T) t.drop in
      let r10 = nowhere' most_routes (route_ok T) t.route in
      simp (r1, r2, r3, m.header, t.header, t.margin, r6, r7, r8, r9, r10)

  -- THE CLAIM: with any bounds, a file is accepted if and only if all ten rules hold with them
  pub accepted_within_iff : (accepted_within β file ≡ true) ↔ MeetsRulesWithin β file
  accepted_within_iff = (λ e. accepted_meets (not-true (verdict_within β file).holds e), λ m. rw (meets_accepted m))

module _ (file : List ℕ) where
  -- THE CLAIM: accepted if and only if all ten rules hold
  pub accepted_iff : (accepted file ≡ true) ↔ MeetsRules file
  unfolding verdict
  accepted_iff = accepted_within_iff bounds file

  -- the number is 0 exactly where no rule is broken
  pub number_zero : eqb (verdict file).number 0 ≡ accepted file
  unfolding verdict
  number_zero = first_number (load_tests file) refl

  none_holds : (verdict file).number ≡ 0 → verdict file ≡ record { holds = false; number = 0; place = 0 }
  unfolding verdict
  none_holds e = first_none (load_tests file) (not-true _ (sym number_zero ∙ eq-eqb (verdict file).number 0 e))

  -- a refusal of number n comes of the test of that number
  named : (n : ℕ) → 1 ≤ n → (verdict file).number ≡ n → (condition_of n (load_tests file) ≡ true) × ((verdict file).place ≡ place_named n (load_tests file))
  unfolding verdict
  named n some e =
      by_test (verdict file).holds (λ h. first_named n (load_tests file) refl h e)
      (λ h. let z = ap (λ (t : Test). t.number) (first_none (load_tests file) h) in absurd (omega arith))

  -- THE CLAIM: the place is that of the least block, record, segment or route that breaks the rule
  pub refusal_placed : Placed file
  unfolding first_damaged first_misfiled
  refusal_placed =
      record {
        done = λ e. ap (λ (t : Test). t.place) (none_holds e);
        size = λ e. (named 1 (omega arith) e).1;
        damaged = λ e. rw (named 2 (omega arith) e).1 (some_block (λ (k : ℕ). intact (block file k)) (named 2 (omega arith) e).0);
        misfiled = λ e. rw (named 3 (omega arith) e).1 (some_block (λ (k : ℕ). filed (block file k) k) (named 3 (omega arith) e).0);
        header = λ e. (named 4 (omega arith) e).1;
        margin = λ e. (named 5 (omega arith) e).1;
        segment = λ e. rw (named 6 (omega arith) e).1 (somewhere most_segments (record_ok bounds file (decoded file)) (named 6 (omega arith) e).0);
        joint = λ e. rw (named 7 (omega arith) e).1 (somewhere (decoded file).segments (joint_ok (decoded file)) (named 7 (omega arith) e).0);
        order = λ e. rw (named 8 (omega arith) e).1 (somewhere (decoded file).segments (order_ok (decoded file)) (named 8 (omega arith) e).0);
        drop = λ e. rw (named 9 (omega arith) e).1 (somewhere (decoded file).segments (drop_ok (decoded file)) (named 9 (omega arith) e).0);
        route = λ e. rw (named 10 (omega arith) e).1 (somewhere most_routes (route_ok (decoded file)) (named 10 (omega arith) e).0);
      }

pub file_consistent : (file : List ℕ) → accepted file ≡ true → Consistent (decoded file)
file_consistent file e = consistent (decoded file) ((accepted_iff file).0 e).tables
