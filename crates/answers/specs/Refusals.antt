-- The refusals' numbers in the papers, and what a step that may be refused tells of its tests.
use Rattle.std.specs.Prelude.{ℕ, ◌≡◌, ◌≤◌, ◌⊎◌, true, false, Result, Ok, Err, MatchResult}
use Rattle.lists.specs.Tests.{Test}
use Rattle.answers.specs.declared.Refusal.{Refusal}
use Rattle.answers.specs.declared.NoRefusal.{NoRefusal}
use Rattle.answers.specs.declared.Refusal.TheVariants.{Size, Damaged, Misfiled, Header, Margin, Segment, Joint, Order, Drop, Route, Unsound, Turn, Train, AlreadyOn, NotOn, RouteNumber, NoEntry, Taken, TooFast, NoExit, Wishes, Buffer, Length}

abbrev pub refusal_number : Refusal → ℕ
refusal_number Size = 1
refusal_number Damaged = 2
refusal_number Misfiled = 3
refusal_number Header = 4
refusal_number Margin = 5
refusal_number Segment = 6
refusal_number Joint = 7
refusal_number Order = 8
refusal_number Drop = 9
refusal_number Route = 10
refusal_number Unsound = 11
refusal_number Turn = 12
refusal_number Train = 13
refusal_number AlreadyOn = 14
refusal_number NotOn = 15
refusal_number RouteNumber = 16
refusal_number NoEntry = 17
refusal_number Taken = 18
refusal_number TooFast = 19
refusal_number NoExit = 20
refusal_number Wishes = 21
refusal_number Buffer = 22
refusal_number Length = 23

-- the refusal of a number; no refusal has 0 or a number above 23
abbrev pub Numbered : ℕ → Result Refusal NoRefusal → Type 0
Numbered n r = MatchResult r (λ refusal. refusal_number refusal ≡ n) (λ none. (n ≡ 0) ⊎ (24 ≤ n))

-- a step that may be refused, as the first of its tests that holds: the refusal's number, and no place; where it is done, none holds
abbrev pub told : {A : Type 0} → Result A Refusal → Test
told (Ok x) = record { holds = false; number = 0; place = 0 }
told (Err r) = record { holds = true; number = refusal_number r; place = 0 }
