-- What the code found, in the words of the contracts.
use Prim.Native.Nat.{ℕ}
use mathlib.Core.Path.{◌≡◌, refl, sym, ◌∙◌}
use mathlib.Core.Bool.{true}
use mathlib.Core.List.{List}
use lib.Dec.{eqb}
use lib.ListN.{length}
use native.Mathlib.Omega.{arith}
use borrow.Author.Tests.{eqb-true, eq-eqb, not-true}
use Rattle.lists.proofs.Cases.{by_test}
use Rattle.file.specs.Layout.{file_size}
use Rattle.reading.specs.Verdict.{verdict, accepted}
use Rattle.reading.proofs.Accepted.{number_zero}
use Rattle.encoding.specs.Encoding.{encoded}
use Rattle.answers.specs.Answers.{answer_of, number_of}
use Rattle.area.specs.declared.Area.{Area}
use Rattle.area.specs.Sound.{sound}
use Rattle.area.specs.Write.{write_answer, buffer_after}
use Rattle.loading.specs.Load.{fresh, loaded}
use Rattle.loading.proofs.Loading.{answer_verdict, done_fresh}
use Rattle.loading.proofs.Fresh.{fresh_sound}
use Rattle.writing.specs.Writing.{Octets, Sized, Written, rewrite_answer, rewritten_to}
use Rattle.writing.proofs.Same.{encoded_decoded}
use Rattle.writing.proofs.Writing.{sound_loads, after_writes}

-- a sound record and a buffer of a file's size: done, and the buffer is the file
module _ (a : Area) (old : List ℕ) where
  fits : sound a ≡ true → length old ≡ file_size → (number_of (write_answer a old) ≡ 0) × (buffer_after a old ≡ encoded a.tables)
  unfolding write_answer buffer_after answer_of
  fits ok size = rw (ok, eq-eqb (length old) file_size size) (refl, refl)

  -- done tells that it was so
  fitted : number_of (write_answer a old) ≡ 0 → (sound a ≡ true) × (buffer_after a old ≡ encoded a.tables)
  unfolding write_answer answer_of
  fitted done =
      by_test (sound a)
      (λ ok.
      by_test (eqb (length old) file_size)
      (λ size. (ok, (fits ok (eqb-true (length old) file_size size)).1))
      (λ other. let e = rw (ok, other) at done in absurd (omega arith)))
      (λ no. let e = rw no at done in absurd (omega arith))

  -- THE CLAIM: a write that answers and writes as its definitions say is one of which `Written` holds
  pub write_told : Sized a.tables → {n : ℕ} {new : List ℕ} → n ≡ number_of (write_answer a old) → new ≡ buffer_after a old → Written a old n new
  write_told sized number buffer =
      record {
        number = number;
        buffer = buffer;
        loads =
            λ done.
            let f = fitted (sym number ∙ done) in
            rw (buffer, f.1) (sound_loads a sized f.0);
        same =
            λ file calls octets reached size.
            let w = after_writes file calls a octets reached in
            let f = fits w.0 size in
            (number ∙ f.0, buffer ∙ f.1 ∙ w.1);
      }

-- a file that is loaded, and the record of it that is written
module _ (file buffer : List ℕ) where
  -- load refuses it
  pub rewrite_refused : (number_of (loaded file).answer ≡ 0 → ⊥) → ((loaded file).answer ≡ rewrite_answer file buffer) × (buffer ≡ rewritten_to file buffer)
  unfolding loaded rewrite_answer rewritten_to
  rewrite_refused refused =
      by_test (verdict file).holds
      (λ h. rw h (refl, refl))
      (λ h. let no : accepted file ≡ true = rw h in absurd (refused ((answer_verdict file).0 ∙ eqb-true (verdict file).number 0 (number_zero file ∙ no))))

  -- or it is accepted, and what is written is the file
  pub rewrite_done :
      Octets file → number_of (loaded file).answer ≡ 0
      → (write_answer (loaded file).area buffer ≡ rewrite_answer file buffer) × (buffer_after (loaded file).area buffer ≡ rewritten_to file buffer)
  unfolding write_answer buffer_after rewrite_answer rewritten_to fresh
  rewrite_done octets done =
      let ok : accepted file ≡ true = sym (number_zero file) ∙ eq-eqb (verdict file).number 0 (sym (answer_verdict file).0 ∙ done) in
      let h = not-true (verdict file).holds ok in
      rw (done_fresh file ok, h, fresh_sound file ok, encoded_decoded file octets done) (refl, refl)
