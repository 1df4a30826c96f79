-- What wider bounds change of a verdict: what was accepted is accepted still, and what is newly accepted was refused with 4 or 6.
use Prim.Native.Nat.{ℕ, ◌≤◌}
use mathlib.Core.Path.{◌≡◌}
use mathlib.Core.Bool.{true, false, not, ◌&&◌}
use mathlib.Core.Logic.{◌⊎◌, inl, inr}
use mathlib.Core.List.{List}
use native.Mathlib.Omega.{arith}
use lib.Dec.{ltb, eqb}
use lib.ListN.{length}
use borrow.Author.Tests.{not-true}
use Rattle.lists.specs.Words.{first_failing}
use Rattle.lists.specs.Tests.{condition_of}
use Rattle.lists.proofs.Cases.{by_test, not_both}
use Rattle.file.specs.Blocks.{file_size, first_damaged, first_misfiled}
use Rattle.tables.specs.Bounds.{most_segments, most_routes, Bounds}
use Rattle.tables.specs.Rules.{header_ok, margin_ok, joint_ok, order_ok, drop_ok, route_ok}
use Rattle.tables.specs.Facts.{Within}
use Rattle.tables.proofs.Consistency.{within_asked, within_enough}
use Rattle.decoding.specs.Decoding.{decoded}
use Rattle.reading.specs.Verdict.{header_filed, record_ok, verdict_within, accepted_within}
use Rattle.reading.proofs.Accepted.{tests_within, passes, accepted_within_iff}

module _ (β β' : Bounds) (file : List ℕ) where
  -- THE CLAIM: a file that is accepted with some bounds is accepted with wider ones
  pub still_accepted : β.fastest ≤ β'.fastest → β.longest ≤ β'.longest → accepted_within β file ≡ true → accepted_within β' file ≡ true
  still_accepted fast long e =
      let m = (accepted_within_iff β file).0 e in
      let w = within_asked m.tables in
      let wide : Within β' (decoded file) =
      record { gmax = omega (arith, w.gmax); margin = omega (arith, w.margin); lengths = λ s i. omega (arith, w.lengths s i) } in
      (accepted_within_iff β' file).1
      (record {
        size = m.size;
        checks = m.checks;
        tails = m.tails;
        header = m.header;
        zeros = m.zeros;
        tables = within_enough m.tables wide;
      })

  -- THE CLAIM: a file that is accepted with some bounds and not with others is refused with 4 or 6 by these
  pub newly_accepted :
      accepted_within β' file ≡ true → accepted_within β file ≡ false
      → ((verdict_within β file).number ≡ 4) ⊎ ((verdict_within β file).number ≡ 6)
  newly_accepted e refused =
      let T = decoded file in
      let p : (n : ℕ) → condition_of n (tests_within β' file) ≡ false = λ n. passes β' file n (not-true _ e) in
      let p1 : not (eqb (length file) file_size) ≡ false = p 1 in
      let p2 : ltb 0 (first_damaged file) ≡ false = p 2 in
      let p3 : ltb 0 (first_misfiled file) ≡ false = p 3 in
      let p5 : not (margin_ok T) ≡ false = p 5 in
      let p7 : ltb 0 (first_failing T.segments (joint_ok T)) ≡ false = p 7 in
      let p8 : ltb 0 (first_failing T.segments (order_ok T)) ≡ false = p 8 in
      let p9 : ltb 0 (first_failing T.segments (drop_ok T)) ≡ false = p 9 in
      let p10 : ltb 0 (first_failing most_routes (route_ok T)) ≡ false = p 10 in
      by_test (header_filed file && header_ok β T)
      (λ h.
      by_test (ltb 0 (first_failing most_segments (record_ok β file T)))
      (λ s. inr (simp (p1, p2, p3, h, p5, s)))
      (λ s. not_both (accepted_within β file) (simp (p1, p2, p3, h, p5, s, p7, p8, p9, p10)) refused))
      (λ h. inl (simp (p1, p2, p3, h)))
