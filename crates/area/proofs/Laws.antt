-- A call's outcome by the first of its tests that holds: its refusal, or the finished step where none does. Test 11 is the first of each
-- call, and the examination makes it.
use mathlib.Core.Path.{◌≡◌, refl, sym, ap}
use mathlib.Core.Bool.{Bool, true, false, not}
use mathlib.Core.List.{List, ◌∷◌}
use Rattle.std.specs.Prelude.{Result, Ok, Err, IsErrAnd, if◌then◌else◌}
use Rattle.std.specs.Result.{is_ok}
use Rattle.std.proofs.lemmas.Result.{err_from_is_err_and}
use Rattle.lists.specs.Tests.{Test, ◌⇒◌, first_of}
use Rattle.lists.proofs.Cases.{not_both}
use Rattle.trains.specs.declared.Spot.{Spot}
use Rattle.standing.specs.Spots.{spots_of}
use Rattle.answers.specs.declared.Refusal.{Refusal}
use Rattle.answers.specs.declared.Refusal.TheVariants.{Unsound}
use Rattle.answers.specs.Refusals.{refusal_number}
use Rattle.answers.proofs.Answers.{answer_done}
use Rattle.answers.proofs.Refusals.{refused_answer}
use Rattle.area.specs.declared.Area.{Area}
use Rattle.area.specs.declared.Change.{Change}
use Rattle.area.specs.Sound.{sound}
use Rattle.area.specs.Calls.{outcome}
use Rattle.area.specs.Examined.{examined, changed, outcome_of}

-- what an examination found of a record, by the test of a sound one
found_by : (A : List Spot) (ok : Bool) (o : Result (List Spot) Refusal) → o ≡ (if ok then Ok A else Err Unsound) → is_ok o ≡ ok
found_by A true o e = rw e refl
found_by A false o e = rw e refl

pub found_spots : (a : Area) {spots : List Spot} → Ok spots ≡ examined a → sound a ≡ true
found_spots a e = sym (found_by _ (sound a) _ e)

found_list : (A spots : List Spot) (ok : Bool) → ◌≡◌ {A = Result (List Spot) Refusal} (Ok spots) (if ok then Ok A else Err Unsound) → spots ≡ A
found_list A spots true e = cc
found_list A spots false e = let z : true ≡ false = ap is_ok e in not_both true refl z

pub found_places : (a : Area) {spots : List Spot} → Ok spots ≡ examined a → spots ≡ spots_of a.tables a.allocations a.trains
found_places a e = found_list _ _ (sound a) e

-- a refusal by the examination
refused_unsound : (A : List Spot) (r : Refusal) (ok : Bool) → ◌≡◌ {A = Result (List Spot) Refusal} (Err r) (if ok then Ok A else Err Unsound) → (ok ≡ false) × (r ≡ Unsound)
refused_unsound A r true e = let z : false ≡ true = ap is_ok e in not_both false z refl
refused_unsound A r false e = (refl, cc)

pub found_unsound : (a : Area) {r : Refusal} → Err r ≡ examined a → (sound a ≡ false) × (r ≡ Unsound)
found_unsound a {r} e = refused_unsound _ r (sound a) e

module _ (rest : List Test) (new old : Area) where
  abbrev calls : List Test
  calls = not (sound old) ⇒ 11 ∷ rest

  -- `?` gives the refusal back as it is
  pub unsound_by : (q : Result Change Refusal) {r : Refusal} → IsErrAnd q (λ y. y ≡ r) → Err r ≡ examined old → outcome_of old q ≡ outcome calls new old
  unsound_by q gives e =
      let f = found_unsound old e in
      let p = err_from_is_err_and q gives in
      rw (p.1, p.2, f.0, f.1) (rw (refused_answer Unsound 0) refl)

  pub refused_by :
      (q : Result Change Refusal) (r : Refusal) → IsErrAnd q (λ y. y ≡ r) → sound old ≡ true
      → ◌≡◌ {A = Test} (record { holds = true; number = refusal_number r; place = 0 }) (first_of rest) → outcome_of old q ≡ outcome calls new old
  refused_by q r gives s first =
      let p = err_from_is_err_and q gives in
      rw (p.1, p.2, s, ← first, refused_answer r 0) refl

  pub finished_by :
      {c : Change} → sound old ≡ true → ◌≡◌ {A = Test} (record { holds = false; number = 0; place = 0 }) (first_of rest) → changed old c ≡ new
      → outcome_of old (Ok c) ≡ outcome calls new old
  finished_by s first same = rw (s, ← first, answer_done 0 0 refl, same) refl
