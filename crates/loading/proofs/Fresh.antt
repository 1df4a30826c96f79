-- The blank record is unsound, and one fresh from load is sound.
use Prim.Native.Nat.{ℕ}
use mathlib.Core.Path.{◌≡◌, refl, ap}
use mathlib.Core.Logic.{inl}
use mathlib.Core.Bool.{true, false}
use mathlib.Core.List.{List}
use native.Mathlib.Omega.{arith}
use Rattle.lists.proofs.Numbered.{nth_replicate}
use Rattle.tables.specs.Tables.{blank_tables}
use Rattle.tables.specs.Rules.{header_in, meets}
use Rattle.decoding.specs.Decoding.{decoded}
use Rattle.reading.specs.Verdict.{accepted}
use Rattle.reading.proofs.Accepted.{accepted_iff}
use Rattle.trains.specs.Train.{off}
use Rattle.area.specs.Sound.{sound}
use Rattle.area.proofs.Soundness.{sound_iff}
use Rattle.loading.specs.Load.{fresh, blank}

-- THE CLAIM: the blank record is unsound
pub blank_unsound : sound blank ≡ false
unfolding sound meets header_in blank blank_tables
blank_unsound = refl

-- THE CLAIM: a record fresh from load is sound
pub fresh_sound : (file : List ℕ) → accepted file ≡ true → sound (fresh (decoded file)) ≡ true
unfolding fresh
fresh_sound file e =
    (sound_iff (fresh (decoded file)) refl).1
    (record {
      tables = ((accepted_iff file).0 e).tables;
      due = omega arith;
      offs = λ t low high z. nth_replicate off 24 t;
      ons = λ t low high o. absurd (omega (arith, ap (λ x. x.route) (nth_replicate off 24 t)));
      allocations = λ s low high. inl (nth_replicate 0 62 s);
    })
