-- `blank` says whether the bytes before place p are zero.
use mathlib.Core.Path.{◌≡◌}
use Rattle.lists.specs.Words.{every}
use Rattle.routes.proofs.Routes.{blank_in}
use Rattle.routes.proofs.Record.unused_ok.Given as goal

abbrev pub invariant-loop-p : goal.invariant-loop-p
invariant-loop-p l = l.blank ≡ every l.p (blank_in l.self.t.now.routebytes l.self.r)
