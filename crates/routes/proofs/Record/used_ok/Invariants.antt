-- The walk along the route keeps `Walked`; each early return names the test of the rule that fails.
use Rattle.routes.proofs.Routes.{Walked}
use Rattle.routes.proofs.Record.used_ok.Given as goal

abbrev pub invariant-loop-p : goal.invariant-loop-p
invariant-loop-p l = Walked l.self.t.now.next l.self.t.now.routebytes l.self.t.now.segments l.self.r l.count l.before l.p
