-- What is written of an input.
--   written bs   the bytes written of the script bs: a line N builds a nub by arrival, a line K one by rank
use Rattle.std.specs.Prelude.{ℕ, List}
use Rattle.text.specs.Both.{both}
use Rattle.text.specs.Script.{script}
use Rattle.script.specs.Kinds.{by_arrival, by_rank}

abbrev pub written : List ℕ → List ℕ
written bs = script (both by_arrival by_rank) bs
