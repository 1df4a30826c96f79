-- What acceptance and a refusal's place mean: each of the ten rules as a condition on the file, and the least that breaks one.
use Rattle.std.specs.Prelude.{ℕ, ◌≤◌, ◌<◌, ◌≡◌, Bool, true, false, List, length}
use Rattle.file.specs.Blocks.{blocks, file_size, block, intact, filed}
use Rattle.tables.specs.Bounds.{most_segments, most_routes, Bounds, bounds}
use Rattle.tables.specs.Rules.{joint_ok, order_ok, drop_ok, route_ok}
use Rattle.tables.specs.Facts.{MeetsWithin}
use Rattle.decoding.specs.Decoding.{decoded}
use Rattle.reading.specs.Verdict.{header_filed, reserved, record_ok, verdict}

-- the file meets rule 1, .. rule 10, where 4 and 6 read the bounds β
pub record MeetsRulesWithin (β : Bounds) (file : List ℕ) : Type 0 where
  pub size : length file ≡ file_size
  pub checks : (k : ℕ) → k < blocks → intact (block file k) ≡ true
  pub tails : (k : ℕ) → k < blocks → filed (block file k) k ≡ true
  -- rules 4 and 6 of what the tables do not keep
  pub header : header_filed file ≡ true
  pub zeros : (s : ℕ) → 1 ≤ s → s ≤ most_segments → reserved file s ≡ true
  -- rules 4 to 10 of what they keep
  pub tables : MeetsWithin β (decoded file)

abbrev pub MeetsRules : List ℕ → Type 0
MeetsRules file = MeetsRulesWithin bounds file

-- k is the least of the numbers 1 to n that breaks a rule
pub record LeastBroken (n : ℕ) (ok : ℕ → Bool) (k : ℕ) : Type 0 where
  pub from : 1 ≤ k
  pub to : k ≤ n
  pub broken : ok k ≡ false
  pub before : (j : ℕ) → 1 ≤ j → j < k → ok j ≡ true

-- k is the least block number that breaks a rule
pub record LeastBlock (ok : ℕ → Bool) (k : ℕ) : Type 0 where
  pub to : k < blocks
  pub broken : ok k ≡ false
  pub before : (j : ℕ) → j < k → ok j ≡ true

-- the place that a refusal names, by its number; 0 for the rules that name none
pub record Placed (file : List ℕ) : Type 0 where
  pub done : (verdict file).number ≡ 0 → (verdict file).place ≡ 0
  pub size : (verdict file).number ≡ 1 → (verdict file).place ≡ 0
  pub damaged : (verdict file).number ≡ 2 → LeastBlock (λ (k : ℕ). intact (block file k)) (verdict file).place
  pub misfiled : (verdict file).number ≡ 3 → LeastBlock (λ (k : ℕ). filed (block file k) k) (verdict file).place
  pub header : (verdict file).number ≡ 4 → (verdict file).place ≡ 0
  pub margin : (verdict file).number ≡ 5 → (verdict file).place ≡ 0
  pub segment : (verdict file).number ≡ 6 → LeastBroken most_segments (record_ok bounds file (decoded file)) (verdict file).place
  pub joint : (verdict file).number ≡ 7 → LeastBroken (decoded file).segments (joint_ok (decoded file)) (verdict file).place
  pub order : (verdict file).number ≡ 8 → LeastBroken (decoded file).segments (order_ok (decoded file)) (verdict file).place
  pub drop : (verdict file).number ≡ 9 → LeastBroken (decoded file).segments (drop_ok (decoded file)) (verdict file).place
  pub route : (verdict file).number ≡ 10 → LeastBroken most_routes (route_ok (decoded file)) (verdict file).place
