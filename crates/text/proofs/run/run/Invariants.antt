use Rattle.std.proofs.Common.{vec_items}
use Rattle.std.specs.Iterator.Adapters.{enumerate_count}
use Rattle.text.specs.Both.{both, held_at}
use Rattle.text.proofs.Running.{Sofar}
use Rattle.text.proofs.run.run.Given as goal

abbrev pub invariant-loop-before : goal.invariant-loop-before
invariant-loop-before g l = Sofar (both g.A.Machine.model g.B.Machine.model) l.input (vec_items l.out) (enumerate_count l.before-iterator) (held_at g.A.Machine.state g.B.Machine.state l.nub) l.before-iterator.iter.rest.now
