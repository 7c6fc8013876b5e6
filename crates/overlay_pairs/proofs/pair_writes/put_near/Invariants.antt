-- Candidate after candidate: the pairs with those before it are written.
use Rattle.overlay_pairs.proofs.PairLaws.{NearDone}
use Rattle.overlay_pairs.proofs.pair_writes.put_near.Given as goal

abbrev pub invariant-loop-j : goal.invariant-loop-j
invariant-loop-j l = NearDone l.first l.second l.i l.near l.sides l.found l.j-index l.c l.initial.pairs l.pairs
