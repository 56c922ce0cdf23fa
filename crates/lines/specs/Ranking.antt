-- Whom a ranked line takes. Assumes nothing.
--     beats ranks t u        t has the higher rank, or an equal one and the lower number
--     challenge ranks o t    who is ahead once t has come up against the one that was ahead, if any
--     best ranks ts          who is ahead once all of ts have come up, in order
--     pick ranks es o i      the same step as `challenge`, by places: the arrival at i comes up against the one at o
use Rattle.std.specs.Prelude.{ℕ, Bool, cond, ◌&&◌, ◌||◌, List, [], ◌∷◌, Some, None, Option, ◌==◌, nat_lt, slice_index}
use Rattle.lines.specs.declared.arrival.Arrival.{Arrival}
use Rattle.lines.specs.Arrivals.{thread_at}

abbrev pub beats : List ℕ → ℕ → ℕ → Bool
beats ranks t u = nat_lt (slice_index ranks u) (slice_index ranks t) || (slice_index ranks t == slice_index ranks u && nat_lt t u)

abbrev pub challenge : List ℕ → Option ℕ → ℕ → Option ℕ
challenge ranks None t = Some t
challenge ranks (Some u) t = cond (beats ranks t u) (Some t) (Some u)

-- `o` was ahead before the list came up
abbrev pub best_from : List ℕ → Option ℕ → List ℕ → Option ℕ
best_from ranks o [] = o
best_from ranks o (t ∷ ts) = best_from ranks (challenge ranks o t) ts

abbrev pub best : List ℕ → List ℕ → Option ℕ
best ranks ts = best_from ranks None ts

abbrev pub pick : List ℕ → List Arrival → Option ℕ → ℕ → Option ℕ
pick ranks es None i = Some i
pick ranks es (Some b) i = cond (beats ranks (thread_at es i) (thread_at es b)) (Some i) (Some b)
