-- A scan finds none exactly where all that it looks at meet its rule.
use Rattle.std.proofs.Common.{rules, ◌∙◌, sym, arith}
use Rattle.lists.proofs.Cases.{facts}
use Rattle.lists.proofs.Loops.{none_every}
use Rattle.tables.specs.Bounds.{bounds}
use Rattle.tables.specs.Rules.{header_in, segment_ok, meets}
use Rattle.rules.proofs.meet.Goals as goal

pub returns-then-not-header_ok : goal.returns-then-not-header_ok
unfolding meets
returns-then-not-header_ok c = rw (sym c.header_ok.ensures ∙ c.if-not-header_ok.true)

pub margin_ok-requires : goal.margin_ok-requires
unfolding header_in
margin_ok-requires c = let f = simp facts at (sym c.header_ok.ensures ∙ c.if-not-header_ok.false) in omega arith

pub returns : goal.returns
unfolding meets
returns c =
    simp (
      sym c.header_ok.ensures ∙ c.if-not-header_ok.false,
      c.margin_ok.ensures,
      none_every _ _ _ _ c.first_unjoined.ensures c.is_none.ensures,
      none_every _ _ _ _ c.first_unordered.ensures c.is_none-2.ensures,
      none_every _ _ _ _ c.first_dropping.ensures c.is_none-3.ensures,
      none_every _ _ _ _ c.first_bad_route.ensures c.is_none-4.ensures,
      c.every.ensures (segment_ok bounds c.args.t.now) (λ k b p. search rules),
    )
