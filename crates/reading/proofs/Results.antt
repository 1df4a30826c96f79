-- What a result that a file is read as says of it: it is accepted and these are its tables, or it is not accepted.
use Rattle.std.proofs.Common.{List, ℕ, ◌≡◌, sym, ap, ◌∙◌, true, false, Result, Ok, Err, MatchResult}
use borrow.Author.Tests.{eq-eqb}
use Rattle.lists.proofs.Cases.{by_test, not_both}
use Rattle.answers.proofs.Answers.{answer_done}
use Rattle.answers.proofs.Refusals.{refused_answer}
use Rattle.answers.specs.Refusals.{refusal_number}
use Rattle.tables.specs.declared.Tables.{Tables}
use Rattle.decoding.specs.Decoding.{decoded}
use Rattle.reading.specs.declared.Fault.{Fault}
use Rattle.reading.specs.Verdict.{Reading, refused_reading, accepted_reading, verdict, accepted, reading_of}
use Rattle.reading.specs.Results.{read_as}
use Rattle.reading.proofs.Accepted.{number_zero}

pub read_means :
    (r : Result Tables Fault) (file : List ℕ) → read_as r ≡ reading_of file
    → MatchResult r (λ T. (accepted file ≡ true) × (T ≡ decoded file)) (λ f. accepted file ≡ false)
unfolding reading_of
read_means (Ok T) file e =
    by_test (verdict file).holds
    (λ h.
    let g : accepted_reading T ≡ refused_reading (verdict file).number (verdict file).place = rw h at e in
    let zero : (verdict file).number ≡ 0 = sym (ap (λ (x : Reading). x.number) g) in
    not_both (accepted file) (sym (number_zero file) ∙ eq-eqb (verdict file).number 0 zero) (rw h))
    (λ h.
    let g : accepted_reading T ≡ accepted_reading (decoded file) = rw h at e in
    (rw h, ap (λ (x : Reading). x.tables) g))
read_means (Err f) file e =
    by_test (verdict file).holds
    (λ h. rw h)
    (λ h.
    let g : refused_reading (refusal_number f.refusal) f.place ≡ accepted_reading (decoded file) = rw h at e in
    let zero : refusal_number f.refusal ≡ 0 = ap (λ (x : Reading). x.number) g in
    let none = sym (answer_done (refusal_number f.refusal) 0 zero) ∙ refused_answer f.refusal 0 in
    cc)
