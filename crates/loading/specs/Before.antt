-- What load gave with the smaller bounds, and what "files accepted until now load as before" means (document 02, R-3).
use Rattle.std.specs.Prelude.{ℕ, List, ◌≡◌}
use Rattle.tables.specs.Bounds.{Bounds, smaller_bounds}
use Rattle.decoding.specs.Decoding.{decoded}
use Rattle.reading.specs.Verdict.{verdict_within}
use Rattle.area.specs.declared.Outcome.{Outcome}
use Rattle.answers.specs.declared.Answer.TheVariants.{Done}
use Rattle.loading.specs.Load.{fresh, loaded_by, loaded}

-- load where rules 4 and 6 read the bounds β
abbrev pub loaded_within : Bounds → List ℕ → Outcome
loaded_within β file = loaded_by (verdict_within β file) file

-- the answer is done, and the record is the one that the smaller bounds gave: the file's tables, and no train
pub record LoadsAsBefore (file : List ℕ) : Type 0 where
  pub answer : (loaded file).answer ≡ Done
  pub area : (loaded file).area ≡ (loaded_within smaller_bounds file).area
  pub tables : (loaded file).area ≡ fresh (decoded file)
