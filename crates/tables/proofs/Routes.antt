-- Where a segment stands in a route of tables that meet the rules.
use Prim.Native.Nat.{ℕ, zero, suc, ◌+◌, ◌≤◌, ◌<◌}
use mathlib.Core.Path.{◌≡◌}
use native.Mathlib.Omega.{arith}
use Rattle.lists.proofs.Cases.{cases, lt_or_le, eq_or_ne}
use Rattle.tables.specs.declared.Tables.{Tables}
use Rattle.tables.specs.Tables.{count_of, segment_at}
use Rattle.tables.specs.Facts.{Consistent}

module _ (T : Tables) (K : Consistent T) where
  -- the numbers of a route's segments rise
  pub segments_rise :
      (r p q : ℕ) → 1 ≤ r → r ≤ T.routes → 1 ≤ p → p < q → q ≤ count_of T.routebytes r
      → segment_at T.routebytes r p < segment_at T.routebytes r q
  segments_rise r p zero low high from below to = absurd (omega arith)
  segments_rise r p (suc q) low high from below to =
      let e : q + 1 ≡ suc q = omega arith in
      let linked = K.stepped r q low high (omega arith) (omega arith) in
      let up = rw e at (K.rises (segment_at T.routebytes r q) (segment_at T.routebytes r (q + 1)) (K.placed r q low high (omega arith) (omega arith)) linked) in
      cases (eq_or_ne p q) (λ s. rw s up)
      (λ s. let more = segments_rise r p q low high from (omega arith) (omega arith) in omega (arith, up, more))

  -- so a segment stands at one place of a route at the most
  pub one_place_of :
      (r p q : ℕ) → 1 ≤ r → r ≤ T.routes → 1 ≤ p → p ≤ count_of T.routebytes r → 1 ≤ q → q ≤ count_of T.routebytes r
      → segment_at T.routebytes r p ≡ segment_at T.routebytes r q → p ≡ q
  one_place_of r p q low high fromP toP fromQ toQ e =
      cases (lt_or_le p q) (λ l. let up = segments_rise r p q low high fromP l toQ in absurd (omega (arith, up, e)))
      (λ l. cases (lt_or_le q p) (λ k. let up = segments_rise r q p low high fromQ k toP in absurd (omega (arith, up, e))) (λ k. omega arith))
