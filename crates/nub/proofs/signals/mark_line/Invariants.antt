use Rattle.std.proofs.Common.{◌≡◌, ℕ, ◌<◌, false, ◌||◌, length, get_or}
use Rattle.lines.specs.Lines.{has}
use Rattle.nub.specs.Lining.{standing, drain_in}
use Rattle.nub.proofs.signals.mark_line.Given as goal

abbrev pub invariant-loop-t : goal.invariant-loop-t
invariant-loop-t g l =
    ((n : ℕ) → n < length l.initial.taken → (get_or l.taken n false || has n (standing g.L.LineSet.kind (g.L.LineSet.state l.lines) l.k)) ≡ (get_or l.initial.taken n false || has n (standing g.L.LineSet.kind (g.L.LineSet.state l.initial.lines) l.k)))
    × (drain_in g.L.LineSet.kind (g.L.LineSet.state l.lines) l.k ≡ drain_in g.L.LineSet.kind (g.L.LineSet.state l.initial.lines) l.k)

abbrev pub decreases-loop-t : goal.decreases-loop-t
decreases-loop-t g l = length (standing g.L.LineSet.kind (g.L.LineSet.state l.lines) l.k)
