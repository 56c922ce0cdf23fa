use Rattle.std.proofs.Common.{◌∙◌, length, refl, arith}
use Rattle.lines.proofs.Emptying.{up_at, up_skip, up_more}
use Rattle.lines.proofs.waiting.close_up.Goals as goal
use Rattle.lines.proofs.waiting.close_up.Goals.{then-e-line, else-e-line}

pub loop-i-preserved : goal.loop-i-preserved
loop-i-preserved c =
    let i = c.loop-i.i in
    let l = c.args.line in
    let xs = c.args.es.now in
    let es = c.loop-i.es in
    let old = c.args.taken.now in
    let place = c.loop-i.place in
    elim c.if-e-line.branch [
      | then-e-line w ↦ up_at (length xs) l _ _ _ xs _ _ old _ _ w.place-is w.es-is (w.taken-is ∙ w.mark.ensures) (up_skip (length xs) l i place xs es old c.loop-i.taken c.loop-i.invariant refl (omega arith) w.if-e-line.true)
      | else-e-line w ↦ up_at (length xs) l _ _ _ xs _ _ old _ _ w.place-is w.es-is w.taken-is (up_more (length xs) l i place xs es old c.loop-i.taken c.loop-i.invariant refl (omega arith) w.if-e-line.false)
    ]
