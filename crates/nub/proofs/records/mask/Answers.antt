use Rattle.std.proofs.Common.{ℕ, ◌<◌, Bool, false, ◌&&◌, ◌||◌, eqb, get_or, sym, arith}
use Rattle.std.proofs.lemmas.Bool.{or_left, or_right, or_from}
use Rattle.thread.specs.Turns.{state_of, idle_thread, between_on}
use Rattle.nub.proofs.Taken.{mask_more, mask_skip}
use Rattle.nub.proofs.records.mask.Goals as goal
use Rattle.nub.proofs.records.mask.Goals.{then-taken-n, then-taken-n-via-then-taken-n, then-taken-n-via-else-taken-n+then-is_between, else-taken-n+else-is_between}

pub loop-n-preserved : goal.loop-n-preserved
loop-n-preserved c =
    let p : ℕ → Bool = λ n. get_or c.args.taken.now n false || (between_on (state_of (get_or c.args.threads.now n idle_thread)) c.args.c && eqb (get_or c.args.threads.now n idle_thread).kept c.args.old) in
    let n = c.loop-n.n in
    let few : n < 64 = omega arith in
    elim c.if-taken-n.branch [
      | then-taken-n w ↦
          mask_more p n _ _ few c.loop-n.invariant
          (elim w.then-taken-n.branch [
            | then-taken-n-via-then-taken-n w' ↦ or_left _ _ w'.if-taken-n.true
            | then-taken-n-via-else-taken-n+then-is_between w' ↦ or_right _ _ (sym w'.if-is_between.ensures)
          ])
          w.mask-is
      | else-taken-n+else-is_between w ↦ mask_skip p n _ _ c.loop-n.invariant (or_from _ _ w.if-taken-n.false (sym w.if-is_between.ensures)) w.mask-is
    ]
