-- The rows of bytes of the state and of the trains, put one after the other, and the records that bytes spell.
use Prim.Native.Nat.{ℕ, ◌+◌, ◌*◌}
use mathlib.Core.Path.{◌≡◌, refl, ap}
use mathlib.Core.List.{List, [], ◌∷◌, ◌++◌}
use native.Mathlib.Omega.{arith}
use lib.ListN.{length, length-append}
use borrow.Author.Tests.{eq-eqb, ne_eqb}
use Rattle.std.specs.List.{flat_map}
use Rattle.lists.specs.Words.{each}
use Rattle.file.specs.Bytes.{put_at}
use Rattle.file.specs.Layout.{file_size}
use Rattle.file.proofs.Rows.{put_next}
use Rattle.tables.specs.Tables.{blank_tables}
use Rattle.decoding.specs.Decoding.{decoded}
use Rattle.trains.specs.declared.Train.{Train}
use Rattle.trains.specs.Train.{most_trains}
use Rattle.area.specs.declared.Area.{Area}
use Rattle.state.specs.State.{train_bytes, train_rows, head_size, head_bytes, state_bytes, state_into, state_size, tables_of}

-- the rows that are made of the trains, as one
pub rows_flat : (trains : List Train) → flat_map (λ (row : List ℕ). row) (each (λ n x. train_bytes x) trains) ≡ train_rows trains
unfolding each
rows_flat [] = refl
rows_flat (x ∷ trains) = ap (λ (l : List ℕ). train_bytes x ++ l) (rows_flat trains)

pub rows_long : (trains : List Train) → length (train_rows trains) ≡ 32 * length trains
rows_long [] = refl
rows_long (x ∷ trains) = let e = rows_long trains in omega arith

-- a state: the 64 bytes before the trains, and the trains' rows
module _ (a : Area) (segments : length a.allocations ≡ 62) where
  pub state_long : length a.trains ≡ most_trains → length (state_bytes a) ≡ state_size
  unfolding state_bytes
  state_long numbers = simp (length-append, segments, rows_long, numbers)

  pub state_put : (old : List ℕ) → put_at head_size (train_rows a.trains) (put_at 0 (head_bytes a.due a.allocations) old) ≡ state_into a old
  unfolding state_bytes state_into
  state_put old =
      let head = head_bytes a.due a.allocations in
      let e : 0 + length head ≡ head_size = simp (length-append, segments) in
      rw e at (put_next 0 head (train_rows a.trains) old)

-- the tables that a file's bytes spell
module _ (file : List ℕ) where
  pub tables_blank : (length file ≡ file_size → ⊥) → blank_tables ≡ tables_of file
  unfolding tables_of
  tables_blank h = rw (ne_eqb (length file) file_size h)

  pub tables_decoded : length file ≡ file_size → decoded file ≡ tables_of file
  unfolding tables_of
  tables_decoded h = rw (eq-eqb (length file) file_size h)
