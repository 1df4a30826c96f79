-- What a file is read as.
use Rattle.std.specs.Prelude.{ℕ}
use Rattle.tables.specs.declared.Tables.{Tables}

-- the number and the place of the first rule that is broken, 0 and 0 where none is, and the tables, all zero where one is
pub record Reading : Type 0 where
  pub number : ℕ
  pub place : ℕ
  pub tables : Tables
