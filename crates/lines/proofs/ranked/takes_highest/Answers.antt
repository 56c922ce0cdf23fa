use Rattle.lines.proofs.Highest.{takes_highest}
use Rattle.lines.proofs.ranked.takes_highest.Goals as goal

pub returns : goal.returns
returns c = takes_highest
