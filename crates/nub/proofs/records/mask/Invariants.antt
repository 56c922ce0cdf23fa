use Rattle.std.proofs.Common.{◌≡◌, false, ◌&&◌, ◌||◌, eqb, get_or}
use Rattle.thread.specs.Turns.{state_of, idle_thread, between_on}
use Rattle.nub.specs.Model.{mask_of}
use Rattle.nub.proofs.records.mask.Given as goal

abbrev pub invariant-loop-n : goal.invariant-loop-n
invariant-loop-n l = l.mask ≡ mask_of (λ n. get_or l.taken n false || (between_on (state_of (get_or l.threads n idle_thread)) l.c && eqb (get_or l.threads n idle_thread).kept l.old)) l.n
