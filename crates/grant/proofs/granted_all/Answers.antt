-- An entry of the list of first askers is the train that the definition serves.
use Rattle.std.specs.Prelude.{if◌then◌else◌}
use Prim.Native.Nat.{ℕ}
use mathlib.Core.Path.{◌≡◌, ap, ◌∙◌}
use mathlib.Core.List.{List}
use lib.Dec.{eqb}
use lib.ListN.{length}
use native.Mathlib.Omega.{arith}
use borrow.Author.Rules.{rules}
use Rattle.lists.specs.Words.{at, each, tabulate}
use Rattle.lists.proofs.Numbered.{nth_tabulate, each_same}
use Rattle.tables.specs.declared.Tables.{Tables}
use Rattle.trains.specs.declared.Train.{Train}
use Rattle.trains.specs.Grant.{served, granted}
use Rattle.grant.proofs.granted_all.Goals as goal

grant_served :
    (T : Tables) (trains : List Train) (first A : List ℕ) → length A ≡ 62 → first ≡ tabulate 62 (served T trains)
    → each (λ (s h : ℕ). if eqb h 0 then at first s else h) A ≡ each (granted T trains) A
unfolding granted
grant_served T trains first A long f =
    rw f
    (each_same _ _ A (λ s h low high. ap (λ (x : ℕ). if eqb h 0 then x else h) (nth_tabulate 0 62 (served T trains) s low (omega arith))))

pub returns : goal.returns
returns c =
    c.each.ensures (λ s h. if eqb h 0 then at c.first_askers-first.result s else h) (λ s h y p. search rules)
    ∙ grant_served _ _ _ _ (search rules) c.first_askers-first.ensures
