-- A header that rule 4 passes has a braking rate of at least 1, which rule 5 divides by.
use Prim.Native.Nat.{◌≤◌}
use mathlib.Core.Path.{◌≡◌}
use mathlib.Core.Bool.{true}
use native.Mathlib.Omega.{arith}
use Rattle.lists.proofs.Cases.{facts}
use Rattle.tables.specs.declared.Tables.{Tables}
use Rattle.tables.specs.Bounds.{bounds}
use Rattle.tables.specs.Rules.{header_in, header_ok}

pub braking_some : (T : Tables) → header_ok bounds T ≡ true → 1 ≤ T.braking
unfolding header_in
braking_some T e = let f = simp facts at e in omega arith
