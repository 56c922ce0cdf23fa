use Rattle.std.proofs.Common.{Some, ◌∙◌}
use Rattle.lines.proofs.Taking.{Took}
use Rattle.nub.specs.Lining.{standing}
use Rattle.nub.proofs.Draining.{gave, standing_has, standing_left, standing_less, drain_step}
use Rattle.nub.proofs.Taken.{marks_again}
use Rattle.nub.proofs.signals.mark_line.Given as given
use Rattle.nub.proofs.signals.mark_line.Goals as goal

-- what the take of a turn told
took_some : (g : given.Over) (c : goal.After-slice_known-in-Some-1 g) → Took g.L.LineSet.kind (g.L.LineSet.state c.loop-t.lines) c.args.k (Some c.in-Some.t) (g.L.LineSet.state c.take.new.lines)
took_some g c =
    gave g.L.LineSet.kind g.met.L.LineSet.lawful (g.L.LineSet.state c.loop-t.lines) (g.L.LineSet.state c.take.new.lines) c.args.k c.in-Some.t c.in-Some.ensures.value c.in-Some.ensures.after

pub loop-t-smaller : goal.loop-t-smaller
loop-t-smaller g c =
    let m = g.met.L.LineSet in
    standing_less g.L.LineSet.kind m.lawful _ _ c.args.k c.in-Some.t ((m.sound c.loop-t.lines).once c.args.k) (took_some g c)

pub loop-t-preserved : goal.loop-t-preserved
loop-t-preserved g c =
    let m = g.met.L.LineSet in
    let K = g.L.LineSet.kind in
    let w = took_some g c in
    let t = c.in-Some.t in
    let k = c.args.k in (
      marks_again (standing K (g.L.LineSet.state c.args.lines.now) k) (standing K (g.L.LineSet.state c.loop-t.lines) k) (standing K (g.L.LineSet.state c.take.new.lines) k)
          c.args.taken.now c.loop-t.taken c.put.new.table t (standing_left K m.lawful _ _ k t w) c.put.ensures (standing_has K m.lawful _ _ k t w) c.loop-t.auto.taken c.loop-t.invariant.0,
      drain_step K m.lawful _ _ k t ((m.sound c.loop-t.lines).once k) w ∙ c.loop-t.invariant.1,
    )
