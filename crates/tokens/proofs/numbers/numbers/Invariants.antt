use Rattle.tokens.proofs.Reading.{Sofar}
use Rattle.tokens.proofs.numbers.numbers.Given as goal

abbrev pub invariant-loop-place : goal.invariant-loop-place
invariant-loop-place g l = Sofar g.row.N l.text l.place-items l.place-index l.column l.rest
