-- Of a file of the right size, rules 2 to 10 give the verdict.
use Rattle.std.proofs.Common.{List, ◌∷◌, ℕ, ◌≡◌, sym, length, Result, Ok, Err, IfOk}
use borrow.Author.Tests.{eq-eqb}
use Rattle.lists.specs.Tests.{Test, first_of}
use Rattle.file.specs.Blocks.{file_size, first_damaged, first_misfiled}
use Rattle.tables.specs.Bounds.{bounds}
use Rattle.tables.specs.declared.Tables.{Tables}
use Rattle.decoding.specs.Decoding.{decoded}
use Rattle.reading.specs.declared.Fault.{Fault}
use Rattle.reading.specs.Verdict.{at_block, table_tests, verdict, reading_by, reading_of}
use Rattle.reading.specs.Results.{told_fault, read_as}

read_told : (r : Result Tables Fault) (t : Test) (T : Tables) → told_fault r ≡ t → IfOk r (λ x. x ≡ T) → read_as r ≡ reading_by t T
read_told (Ok x) t T e h = rw (sym e, h)
read_told (Err f) t T e h = rw (sym e)

pub read_sized :
    (r : Result Tables Fault) (file same : List ℕ) → length file ≡ file_size → same ≡ file
    → told_fault r ≡ first_of (at_block (first_damaged same) 2 ∷ at_block (first_misfiled same) 3 ∷ table_tests bounds same (decoded same))
    → IfOk r (λ T. T ≡ decoded same) → read_as r ≡ reading_of file
unfolding reading_of verdict
read_sized r file same size e f h = rw (eq-eqb (length file) file_size size) (read_told r _ (decoded file) (rw e at f) (rw e at h))
