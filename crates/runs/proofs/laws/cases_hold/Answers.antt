use Rattle.runs.proofs.Cases.{cases_hold}
use Rattle.runs.proofs.laws.cases_hold.Goals as goal

pub returns : goal.returns
returns c = cases_hold
