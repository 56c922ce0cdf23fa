use Rattle.embed.proofs.Playing.{At}
use Rattle.embed.proofs.play.perform.Given as goal

abbrev pub invariant-loop-i : goal.invariant-loop-i
invariant-loop-i g l = At g.L.LineSet.kind l.initial.nub.core (g.L.LineSet.state l.initial.nub.lines) l.entries l.initial.answers l.i l.nub.core (g.L.LineSet.state l.nub.lines) l.answers
