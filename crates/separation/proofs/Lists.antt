-- Lists of calls that are put together, their calls and answers, and what an enter makes of what was granted before it.
use Prim.Native.Nat.{ℕ}
use mathlib.Core.Path.{◌≡◌, refl, sym, ap, ◌∙◌}
use mathlib.Core.Logic.{◌⊎◌, inl, inr}
use mathlib.Core.Bool.{true, false, not, ◌&&◌, and-eq-true_iff}
use mathlib.Core.List.{List, [], ◌∷◌, ◌++◌, map, append_assoc, append-nil}
use lib.Dec.{eqb}
use borrow.Author.Tests.{eqb-true, eqb-false, eq-eqb, not-true}
use Rattle.lists.specs.Words.{at}
use Rattle.lists.proofs.Cases.{by_test, cases, not_both, either}
use Rattle.trains.specs.Train.{Journey}
use Rattle.answers.specs.declared.Answer.{Answer}
use Rattle.area.specs.declared.Area.{Area}
use Rattle.separation.specs.Calls.{Call, Enter, Leave, Speed, Request, Grant, Position, called}
use Rattle.separation.specs.Runs.{World, noted, is_done, next, after_from}
use Rattle.separation.specs.Replies.{Reply, replies}

-- a list worked through with another one after it is that one worked through from where the list ends
pub from_more : (w : World) (calls more : List Call) → after_from w (calls ++ more) ≡ after_from (after_from w calls) more
unfolding after_from
from_more w [] more = refl
from_more w (c ∷ calls) more = from_more (next w c) calls more

abbrev answers_of : List Reply → List Answer
answers_of = map (λ (r : Reply). r.answer)

-- THE CLAIM: the calls with their answers have the calls of the list, and the answers that it was given
pub replies_calls : (a : Area) (calls : List Call) → map (λ (r : Reply). r.call) (replies a calls) ≡ calls
unfolding replies
replies_calls a [] = refl
replies_calls a (c ∷ calls) = ap (λ (l : List Call). c ∷ l) (replies_calls (called a c).area calls)

pub replies_answers : (w : World) (calls : List Call) → (after_from w calls).answers ≡ w.answers ++ answers_of (replies w.area calls)
unfolding after_from replies next
replies_answers w [] = sym (append-nil w.answers)
replies_answers w (c ∷ calls) =
    replies_answers (next w c) calls ∙ append_assoc w.answers ((called w.area c).answer ∷ []) (answers_of (replies (called w.area c).area calls))

-- THE CLAIM: after an enter of a train that is done, no segment counts as granted to it: what counts is granted since
pub enter_forgets :
    (w : World) (t : ℕ) (j : Journey) (v s : ℕ) → is_done (called w.area (Enter t j v)).answer ≡ true → (next w (Enter t j v)).history.granted t s ≡ false
unfolding next noted
enter_forgets w t j v s done = rw (done, eq-eqb t t refl)

-- what counts as granted after a call that is done
noted_by :
    (w : World) (c : Call) (b : Area) (t s : ℕ) → (noted w.history c w.area b).granted t s ≡ true
    → (w.history.granted t s ≡ true) ⊎ ((c ≡ Grant) × (at w.area.allocations s ≡ t → ⊥) × (at b.allocations s ≡ t))
unfolding noted
noted_by w (Enter u j v) b t s g =
    by_test (eqb t u) (λ e. let z : false ≡ true = rw e at g in not_both false z refl) (λ e. inl (rw e at g))
noted_by w (Leave u) b t s g = inl g
noted_by w (Speed wishes) b t s g = inl g
noted_by w Request b t s g = inl g
noted_by w Position b t s g = inl g
noted_by w Grant b t s g =
    cases (either (w.history.granted t s) (not (eqb (at w.area.allocations s) t) && eqb (at b.allocations s) t) g) (λ q. inl q)
    (λ q.
    let f = (and-eq-true_iff (not (eqb (at w.area.allocations s) t)) (eqb (at b.allocations s) t)).0 q in
    inr (refl, eqb-false (at w.area.allocations s) t (not-true _ f.0), eqb-true (at b.allocations s) t f.1))

-- THE CLAIM: a segment comes to count as granted to a train by a grant step alone, one that changed its holder to the train
pub granted_by :
    (w : World) (c : Call) (t s : ℕ) → (next w c).history.granted t s ≡ true
    → (w.history.granted t s ≡ true) ⊎ ((c ≡ Grant) × (at w.area.allocations s ≡ t → ⊥) × (at (next w c).area.allocations s ≡ t))
unfolding next
granted_by w c t s g =
    by_test (is_done (called w.area c).answer) (λ d. noted_by w c (called w.area c).area t s (rw d at g)) (λ d. inl (rw d at g))
