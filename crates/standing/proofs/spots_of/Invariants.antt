-- The array starts with the spots of trains off; each turn makes the spot of one train on, and leaves that of a train off as it is.
use lib.ListN.{replicate}
use Rattle.lists.specs.Words.{at}
use Rattle.lists.proofs.Loops.{Made}
use Rattle.standing.specs.Spots.{no_spot, stands_of}
use Rattle.standing.proofs.spots_of.Given as goal

abbrev pub invariant-loop-i : goal.invariant-loop-i
invariant-loop-i l = Made 24 (stands_of l.t (at l.allocations)) l.trains (replicate 24 no_spot) l.i l.spots
