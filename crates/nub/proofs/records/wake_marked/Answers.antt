use Rattle.std.proofs.Common.{◌<◌, length, ◌∙◌, arith}
use Rattle.std.proofs.lemmas.List.{set-get_or}
use Rattle.thread.specs.Turns.{idle_thread}
use Rattle.nub.proofs.Taken.{free_step, free_still}
use Rattle.nub.proofs.records.wake_marked.Goals as goal
use Rattle.nub.proofs.records.wake_marked.Goals.{then-taken-n, else-taken-n}

pub loop-n-preserved : goal.loop-n-preserved
loop-n-preserved c =
    let bs = c.args.taken.now in
    let ts = c.args.threads.now in
    let n = c.loop-n.n in
    let h : n < length bs = omega arith in
    let l : n < length ts = omega arith in
    elim c.if-taken-n.branch [
      | then-taken-n w ↦ free_step c.args.effect bs ts c.loop-n.threads _ n _ h l w.if-taken-n.true c.loop-n.invariant w.wake.ensures w.threads-is
      | else-taken-n w ↦ free_still c.args.effect bs ts c.loop-n.threads _ n h l w.if-taken-n.false c.loop-n.invariant (w.threads-is ∙ set-get_or c.loop-n.threads n idle_thread)
    ]
