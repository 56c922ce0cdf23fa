use Rattle.std.proofs.Common.{◌≡◌, take, vec_items}
use Rattle.runs.specs.Replay.{ran}
use Rattle.runs.proofs.Along.{Along}
use Rattle.runs.proofs.replay.replay.Given as goal

-- what the entries so far have answered and left is right, and is what the tables give
abbrev pub invariant-loop-event : goal.invariant-loop-event
invariant-loop-event g l =
    Along g.L.LineSet.kind (take l.event-index l.events) (vec_items l.answers) l.nub.core (g.L.LineSet.state l.nub.lines)
    × (ran g.L.LineSet.kind l.initial.nub.core (g.L.LineSet.state l.initial.nub.lines) (take l.event-index l.events) ≡ record { answers = vec_items l.answers; core = l.nub.core; lines = g.L.LineSet.state l.nub.lines })
