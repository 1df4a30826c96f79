-- What a grant step does, as plain facts in the papers' words (document 01, "The calls"; document 02, R-2), to be
-- read beside the definition.
use Rattle.std.specs.Prelude.{ℕ, ◌+◌, ◌≤◌, min, ◌≡◌, false}
use Rattle.lists.specs.Words.{at}
use Rattle.tables.specs.Bounds.{most_segments}
use Rattle.trains.specs.Train.{most_trains, answered, train_at}
use Rattle.trains.specs.Order.{goes_before}
use Rattle.trains.specs.Grant.{train_count}
use Rattle.trains.specs.GrantFacts.{AsksFor}
use Rattle.area.specs.declared.Area.{Area}

-- a is the record before the step, b the one after it
module _ (a b : Area) where
  -- who holds segment s before, and after
  abbrev pub holder : ℕ → ℕ
  holder s = at a.allocations s

  abbrev pub holder_after : ℕ → ℕ
  holder_after s = at b.allocations s

  abbrev pub Asks : (t s : ℕ) → Type 0
  Asks t s = AsksFor a.tables a.trains t s

  -- the counts that are compared are those before the step
  abbrev pub count : ℕ → ℕ
  count = train_count a.trains

  abbrev pub count_afterwards : ℕ → ℕ
  count_afterwards = train_count b.trains

  -- one more, "stops at 65,535"
  abbrev pub one_more : ℕ → ℕ
  one_more t = min (count t + 1) 65535

  pub record GrantFacts : Type 0 where
    -- who has a segment keeps it
    pub keeps : (s : ℕ) → 1 ≤ s → s ≤ most_segments → 1 ≤ holder s → holder_after s ≡ holder s
    -- a free segment that gets a holder had that train asking for it
    pub asked : (s : ℕ) → 1 ≤ s → s ≤ most_segments → holder s ≡ 0 → 1 ≤ holder_after s → Asks (holder_after s) s
    -- and no other train that asked for it goes before it: "the highest count wins, and equal counts go to the higher train number"
    pub first : (s u : ℕ) → 1 ≤ s → s ≤ most_segments → holder s ≡ 0 → Asks u s → goes_before count u (holder_after s) ≡ false
    -- a free segment that a train asks for gets a holder
    pub given : (s u : ℕ) → 1 ≤ s → s ≤ most_segments → holder s ≡ 0 → Asks u s → 1 ≤ holder_after s
    -- "returns to 0 on a grant"
    pub granted : (t s : ℕ) → Asks t s → holder s ≡ 0 → holder_after s ≡ t → count_afterwards t ≡ 0
    -- "asked and got nothing": the segment went to another, or was allocated already
    pub lost : (t s : ℕ) → Asks t s → holder s ≡ 0 → (holder_after s ≡ t → ⊥) → count_afterwards t ≡ one_more t
    pub taken : (t s : ℕ) → Asks t s → 1 ≤ holder s → count_afterwards t ≡ one_more t
    -- a train that does not ask keeps its count
    pub kept : (t : ℕ) → 1 ≤ t → t ≤ most_trains → ((train_at a.trains t).asks ≡ 1 → ⊥) → count_afterwards t ≡ count t
    -- all asking ends, and nothing else of a train changes
    pub calm : (t : ℕ) → 1 ≤ t → t ≤ most_trains → (train_at b.trains t).asks ≡ 0
    pub rest : (t : ℕ) → 1 ≤ t → t ≤ most_trains → train_at b.trains t ≡ answered (train_at a.trains t) (count_afterwards t)
