use Rattle.std.proofs.Common.{◌≡◌, take}
use Rattle.nub.specs.Marked.{wake_marked}
use Rattle.nub.proofs.records.wake_marked.Given as goal

abbrev pub invariant-loop-n : goal.invariant-loop-n
invariant-loop-n l = l.threads ≡ wake_marked l.effect (take l.n l.taken) l.initial.threads
