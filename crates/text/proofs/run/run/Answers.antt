use Rattle.text.specs.Both.{held_at}
use Rattle.text.proofs.Running.{one_more}
use Rattle.text.proofs.run.run.Goals as goal

pub loop-before-preserved : goal.loop-before-preserved
loop-before-preserved g c =
    let step = c.in-Some.ensures.steps in
    let did = c.in_ok-answer_line.ensures in
    one_more c.loop-before.invariant _ _ _ _ _ (held_at g.A.Machine.state g.B.Machine.state c.answer_line.new.nub) step.1 step.2 step.0.0 step.0.1 step.0.2 did.after did.text
