use Rattle.std.proofs.Common.{take}
use Rattle.lines.specs.Arrivals.{members, Chosen}
use Rattle.lines.specs.Ranking.{best}
use Rattle.lines.proofs.ranked.HighestChoice32.place.Given as goal

abbrev pub invariant-loop-i : goal.invariant-loop-i
invariant-loop-i l = Chosen l.arrivals l.line (best l.self.ranks (members (take l.i l.arrivals) l.line)) l.so_far
