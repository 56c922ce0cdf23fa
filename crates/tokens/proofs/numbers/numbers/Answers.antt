use Rattle.std.proofs.Common.{◌≡◌, ◌≤◌, ◌+◌, length, Some, arith}
use Rattle.std.proofs.lemmas.Grind.{common_steps}
use Rattle.tokens.specs.Number.{worth}
use Rattle.tokens.specs.Word.{number, numeral}
use Rattle.tokens.proofs.Reading.{one_more}
use Rattle.tokens.proofs.numbers.numbers.Goals as goal

pub loop-place-preserved : goal.loop-place-preserved
loop-place-preserved g c =
    let w : number c.in-Number.digits.now ≡ numeral c.loop-place.rest.now = grind (arith, common_steps) in
    let v : Some c.in_ok-place.field-0 ≡ worth c.in-Number.digits.now = grind (arith, common_steps) in
    let fits : length c.in-Number.digits.now + 1 ≤ length c.loop-place.rest.now = grind (arith, common_steps) in
    one_more c.loop-place.invariant _ _ c.loop-place-test.true w v fits
