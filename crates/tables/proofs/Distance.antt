-- What later proofs use of an area's braking distance, of tables that meet the rules. The law of its terms stands in
-- separation/proofs/SafeSpeed.
use Prim.Native.Nat.{ℕ, ◌≤◌}
use Rattle.braking.proofs.Laws.{S-above, S-mono}
use Rattle.tables.specs.declared.Tables.{Tables}
use Rattle.tables.specs.Tables.{braking_distance}
use Rattle.tables.specs.Facts.{Consistent}

module _ (T : Tables) (K : Consistent T) where
  pub distance_mono : (v w : ℕ) → v ≤ w → braking_distance T v ≤ braking_distance T w
  distance_mono = S-mono T.braking K.rate

  pub distance_above : (v : ℕ) → v ≤ braking_distance T v
  distance_above = S-above T.braking K.rate
