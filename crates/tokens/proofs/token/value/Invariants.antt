use Rattle.std.proofs.Common.{◌≡◌, ◌≤◌, drop}
use Rattle.tokens.specs.Number.{value_on, value}
use Rattle.tokens.proofs.token.value.Given as goal

abbrev pub invariant-loop-d : goal.invariant-loop-d
invariant-loop-d l = (l.n ≤ 4294967295) × (value_on l.n (drop l.d-index l.digits) ≡ value l.digits)
