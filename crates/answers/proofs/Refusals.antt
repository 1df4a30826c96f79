-- A refusal's answer, by its number.
use Prim.Native.Nat.{ℕ}
use mathlib.Core.Path.{◌≡◌, refl}
use Rattle.answers.specs.declared.Answer.TheVariants.{Refused}
use Rattle.answers.specs.declared.Refusal.{Refusal}
use Rattle.answers.specs.declared.Refusal.TheVariants.{Size, Damaged, Misfiled, Header, Margin, Segment, Joint, Order, Drop, Route, Unsound, Turn, Train, AlreadyOn, NotOn, RouteNumber, NoEntry, Taken, TooFast, NoExit, Wishes, Buffer, Length}
use Rattle.answers.specs.Answers.{answer_of}
use Rattle.answers.specs.Refusals.{refusal_number}

pub refused_answer : (r : Refusal) (place : ℕ) → answer_of (refusal_number r) place ≡ Refused (refusal_number r) place
unfolding answer_of
refused_answer Size place = refl
refused_answer Damaged place = refl
refused_answer Misfiled place = refl
refused_answer Header place = refl
refused_answer Margin place = refl
refused_answer Segment place = refl
refused_answer Joint place = refl
refused_answer Order place = refl
refused_answer Drop place = refl
refused_answer Route place = refl
refused_answer Unsound place = refl
refused_answer Turn place = refl
refused_answer Train place = refl
refused_answer AlreadyOn place = refl
refused_answer NotOn place = refl
refused_answer RouteNumber place = refl
refused_answer NoEntry place = refl
refused_answer Taken place = refl
refused_answer TooFast place = refl
refused_answer NoExit place = refl
refused_answer Wishes place = refl
refused_answer Buffer place = refl
refused_answer Length place = refl
