-- Nothing where they do not meet, one too many where there is no room, else the pair after those found.
use native.Mathlib.Omega.{arith}
use Rattle.overlay_pairs.proofs.WroteLaws.{wrote_none, wrote_one}
use Rattle.overlay_pairs.proofs.pair_writes.put_pair.Goals as goal

pub returns-then-not-meet : goal.returns-then-not-meet
returns-then-not-meet c = let a = c.args in rw c.if-not-meet.true (wrote_none a.found a.pairs.now c.requires.0)

pub returns : goal.returns
returns c =
    let a = c.args in rw c.if-not-meet.false (wrote_one (record { i = a.i; j = a.j }) a.found a.pairs.now (omega arith))
