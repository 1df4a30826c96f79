-- A way lies in one segment of a route at the most: the starts of a route's segments rise.
use Prim.Native.Nat.{ℕ, ◌-◌, ◌≤◌, ◌<◌}
use mathlib.Core.Path.{◌≡◌}
use native.Mathlib.Omega.{arith}
use Rattle.lists.proofs.Cases.{cases, lt_or_le}
use Rattle.tables.specs.declared.Tables.{Tables}
use Rattle.trains.specs.Way.{start_after}
use Rattle.trains.proofs.Rear.{start_mono}

module _ (T : Tables) (r : ℕ) where
  pub one_place :
      (way p q : ℕ) → 1 ≤ p → 1 ≤ q
      → start_after T r (p - 1) ≤ way → way < start_after T r p
      → start_after T r (q - 1) ≤ way → way < start_after T r q
      → p ≡ q
  one_place way p q lowP lowQ startP endP startQ endQ =
      cases (lt_or_le p q) (λ h. absurd (omega (arith, start_mono T r p (q - 1) (omega arith))))
      (λ h. cases (lt_or_le q p) (λ g. absurd (omega (arith, start_mono T r q (p - 1) (omega arith)))) (λ g. omega arith))
