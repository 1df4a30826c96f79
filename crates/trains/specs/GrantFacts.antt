-- What the laws of a grant speak of. T are the tables of the area, t is the number of a train, s that of a segment.
use Rattle.std.specs.Prelude.{ℕ, ◌≤◌, ◌≡◌, List}
use Rattle.tables.specs.declared.Tables.{Tables}
use Rattle.trains.specs.declared.Train.{Train}
use Rattle.trains.specs.Train.{most_trains, train_at, wanted}

-- train t asks for segment s
pub record AsksFor (T : Tables) (trains : List Train) (t s : ℕ) : Type 0 where
  pub is_train : (1 ≤ t) × (t ≤ most_trains)
  pub asks : (train_at trains t).asks ≡ 1
  pub wants : wanted T (train_at trains t) ≡ s
