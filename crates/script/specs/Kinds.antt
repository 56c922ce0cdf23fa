-- The nubs that a script can run on.
--   by_arrival   a nub whose lines are by arrival
--   by_rank      a nub whose lines are by rank
--   ranks       the ranks that it is made with: rank n for thread n
--   kind_of k    the kind of its lines, by rank if k is true
--   new_lines k  such lines when new
use Rattle.std.specs.Prelude.{ℕ, zero, suc, Bool, true, false, List, [], ◌∷◌}
use Rattle.lines.specs.Kinds.{Kind}
use Rattle.lines.specs.Choosing.{first_come, ranked}
use Rattle.text.specs.Model.{Single}
use Rattle.script.specs.OneNub.{nub_over}

abbrev pub by_arrival : Single
by_arrival = nub_over first_come (tt, [])

-- the k numbers from n on
abbrev pub numbers_from : ℕ → ℕ → List ℕ
numbers_from n zero = []
numbers_from n (suc k) = n ∷ numbers_from (suc n) k

abbrev pub ranks : List ℕ
ranks = numbers_from 0 32

abbrev pub by_rank : Single
by_rank = nub_over ranked (ranks, [])

abbrev pub kind_of : Bool → Kind
kind_of false = first_come
kind_of true = ranked

abbrev pub new_lines : (k : Bool) → (kind_of k).State
new_lines false = (tt, [])
new_lines true = (ranks, [])
