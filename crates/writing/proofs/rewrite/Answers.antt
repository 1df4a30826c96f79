-- Load's refusal is handed on; the record of an accepted file is written, and what is written is the file, whose entries are bytes.
use mathlib.Core.Path.{sym, ap, ◌∙◌}
use native.Mathlib.Omega.{arith}
use Rattle.answers.specs.Answers.{number_of}
use Rattle.area.specs.declared.Outcome.{Outcome}
use Rattle.loading.proofs.Loading.{refused_number}
use Rattle.writing.specs.Writing.{Octets}
use Rattle.writing.proofs.Told.{rewrite_refused, rewrite_done}
use Rattle.writing.proofs.rewrite.Goals as goal

pub returns-in-Refused : goal.returns-in-Refused
returns-in-Refused c =
    let refused = ap (λ (o : Outcome). o.answer) (sym c.load-answer.ensures) ∙ c.in-Refused.is in
    let r = rewrite_refused c.args.file.now c.args.buffer.now (refused_number c.args.file.now refused) in
    rw c.load-answer.ensures (record { value = r.0; buffer_after = r.1 })

pub returns : goal.returns
returns c =
    let done = ap (λ (o : Outcome). number_of o.answer) (sym c.load-answer.ensures) ∙ ap number_of c.in_default.is in
    let octets : Octets c.args.file.now = λ i. omega (arith, c.type_inv.file i) in
    let d = rewrite_done c.args.file.now _ octets done in
    record {
      value = rw c.load-answer.ensures at c.write.ensures.value ∙ d.0;
      buffer_after = rw c.load-answer.ensures at c.write.ensures.buffer_after ∙ d.1;
    }
