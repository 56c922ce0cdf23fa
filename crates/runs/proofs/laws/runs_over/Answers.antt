use Rattle.runs.proofs.Kept.{runs_over}
use Rattle.runs.proofs.laws.runs_over.Goals as goal

pub returns : goal.returns
returns g c = runs_over g.L.LineSet.kind g.met.L.LineSet.lawful g.met.L.LineSet.serving
