-- What a run from a file and from any record comes to, in the words of the contracts.
use Rattle.std.specs.Prelude.{if◌then◌else◌}
use Prim.Native.Nat.{ℕ}
use mathlib.Core.Path.{◌≡◌, refl, sym, ap, ◌∙◌}
use mathlib.Core.List.{List}
use lib.ListN.{length}
use borrow.Author.Tests.{eq-eqb, ne_eqb}
use Rattle.lists.proofs.Cases.{if_case, not_both}
use Rattle.file.specs.Layout.{file_size}
use Rattle.decoding.specs.Decoding.{decoded}
use Rattle.answers.specs.Answers.{number_of, place_of}
use Rattle.area.specs.declared.Area.{Area}
use Rattle.loading.specs.Load.{loaded}
use Rattle.separation.specs.Runs.{is_done, begin}
use Rattle.separation.specs.Claim.{Separated}
use Rattle.separation.proofs.Tables.{after_tables}
use Rattle.runs.specs.declared.Ran.{Ran}
use Rattle.runs.specs.declared.FileRan.{FileRan}
use Rattle.runs.specs.Script.{ran_calls}
use Rattle.runs.specs.Ran.{ran_of, written, file_world, file_ran_of, file_written}
use Rattle.runs.proofs.Laws.{FileRun}
use Rattle.state.specs.State.{state_into, record_of, ReadsBack}
use Rattle.state.proofs.Laws.{tables_decoded}
use Rattle.rbu.specs.After.{Continues}

-- ---- a list of calls from a file
file_answer : (file script : List ℕ) (room : ℕ) → (file_ran_of file script room).answer ≡ (loaded file).answer
file_answer file script room = if_case (λ (x : FileRan). x.answer ≡ (loaded file).answer) (is_done (loaded file).answer) (λ _. refl) (λ _. refl)

-- what the code found: the run, the answers' buffer, load's number and place; `before` is the state's buffer on entry
module _
    (file script old : List ℕ) (ran : FileRan) (answers : List ℕ) (found : FileRun file script old ran answers)
    (n p : ℕ) (number : n ≡ number_of ran.answer) (place : p ≡ place_of ran.answer) (before : List ℕ) where
  -- what the contract says
  abbrev pub RunTold : List ℕ → Type 0
  RunTold state =
      record {
        value : ran.calls ≡ (file_ran_of file script (length old)).calls;
        answers_after : answers ≡ file_written file script old;
        state_after : state ≡ (if is_done (loaded file).answer then state_into (file_ran_of file script (length old)).area before else before);
        number_after : (n ≡ number_of (loaded file).answer) × (p ≡ place_of (loaded file).answer);
        continues : number_of (loaded file).answer ≡ 0 → Continues file before state (file_ran_of file script (length old)).area;
        separated : number_of (loaded file).answer ≡ 0 → Separated (decoded file) (file_world file script (length old));
      }

  answer : ran.answer ≡ (loaded file).answer
  answer = ap (λ (x : FileRan). x.answer) found.value ∙ file_answer file script (length old)

  apart : number_of (loaded file).answer ≡ 0 → Separated (decoded file) (file_world file script (length old))
  apart z = found.separated (ap number_of answer ∙ z)

  told :
      (state : List ℕ) → state ≡ (if is_done (loaded file).answer then state_into (file_ran_of file script (length old)).area before else before)
      → (number_of (loaded file).answer ≡ 0 → Continues file before state (file_ran_of file script (length old)).area) → RunTold state
  told state e more =
      record {
        value = ap (λ (x : FileRan). x.calls) found.value;
        answers_after = found.answers_after;
        state_after = e;
        number_after = (number ∙ ap number_of answer, place ∙ ap place_of answer);
        continues = more;
        separated = apart;
      }

  -- the tables of the record after the calls are the file's
  tables_after : number_of (loaded file).answer ≡ 0 → (file_ran_of file script (length old)).area.tables ≡ decoded file
  tables_after z =
      if_case (λ (x : FileRan). x.area.tables ≡ decoded file) (is_done (loaded file).answer)
      (λ _. (apart z).tables)
      (λ no. not_both _ (eq-eqb _ 0 z) no)

  pub told_done : n ≡ 0 → (state : List ℕ) → (state ≡ state_into ran.area before) × ReadsBack ran.area before state → RunTold state
  told_done z state (e, back) =
      let ran-area = ap (λ (x : FileRan). x.area) found.value in
      told state
      (if_case (λ (s : List ℕ). state ≡ s) (is_done (loaded file).answer)
      (λ _. e ∙ ap (λ (x : FileRan). state_into x.area before) found.value)
      (λ no. not_both _ (eq-eqb _ 0 (sym (number ∙ ap number_of answer) ∙ z)) no))
      (λ d size room. back file size (ap (λ (a : Area). a.tables) ran-area ∙ tables_after d) room ∙ ran-area)

  pub told_refused : (n ≡ 0 → ⊥) → RunTold before
  told_refused h = told before (rw (ne_eqb (number_of (loaded file).answer) 0 (λ z. h (number ∙ ap number_of answer ∙ z))))
      (λ z. absurd (h (number ∙ ap number_of answer ∙ z)))

-- ---- from any record at all
-- the tables of the record after the calls are those that the file's bytes spell
tables_ran :
    (file script before : List ℕ) (room : ℕ) → length file ≡ file_size → (ran_of (record_of file before) script room).area.tables ≡ decoded file
unfolding record_of begin
tables_ran file script before room size =
    after_tables (begin (record_of file before)) (ran_calls script room) ∙ sym (tables_decoded file size)

pub record_told :
    (file script old before : List ℕ) (a : Area) → a ≡ record_of file before → (ran : Ran) → ran ≡ ran_of a script (length old)
    → (answers : List ℕ) → answers ≡ written a script old → (state : List ℕ) → (state ≡ state_into ran.area before) × ReadsBack ran.area before state
    → record {
      value : ran.calls ≡ (ran_of (record_of file before) script (length old)).calls;
      answers_after : answers ≡ written (record_of file before) script old;
      state_after : state ≡ state_into (ran_of (record_of file before) script (length old)).area before;
      continues : Continues file before state (ran_of (record_of file before) script (length old)).area;
    }
record_told file script old before a e ran f answers g state (h, back) =
    let same : ran ≡ ran_of (record_of file before) script (length old) = rw e at f in
    let area = ap (λ (x : Ran). x.area) same in
    let tables : length file ≡ file_size → ran.area.tables ≡ decoded file = λ size. rw area (tables_ran file script before (length old) size) in
    record {
      value = ap (λ (x : Ran). x.calls) same;
      answers_after = rw e at g;
      state_after = h ∙ ap (λ (x : Area). state_into x before) area;
      continues = λ size room. back file size (tables size) room ∙ area;
    }
