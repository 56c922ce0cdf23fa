-- What the check is to know of a list of which a part was kept.
use Rattle.arrayvec.proofs.ArrayVecLemmas.{filter-from_retain}

pub ruleset kept = (filter-from_retain)
