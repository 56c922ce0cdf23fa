use Rattle.std.proofs.Common.{length}
use Rattle.lines.proofs.Emptying.{Up}
use Rattle.lines.proofs.waiting.close_up.Given as goal

abbrev pub invariant-loop-i : goal.invariant-loop-i
invariant-loop-i l = Up (length l.initial.es) l.line l.i l.place l.initial.es l.es l.initial.taken l.taken
