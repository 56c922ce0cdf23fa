-- What the operations on a set of lines of the kind K answer and leave, declined ones too.
--   add_in, remove_in, take_in   the lines after the operation on line l
--   who_in                     whom a take gives
--   standing                  the members of line l
--   drain_in                   the lines once every member of line l is taken
use Rattle.std.specs.Prelude.{ℕ, zero, suc, cond, List, [], length, None, Ok, Err, Option, Result, nat_lt}
use Rattle.lines.specs.declared.decline.Decline.{Decline}
use Rattle.lines.specs.Kinds.{Kind}
use Rattle.lines.specs.Lines.{add_answer, remove_answer, take_answer, after, lines}

abbrev pub add_in : (K : Kind) → K.State → ℕ → ℕ → K.State
add_in K s l t = after (add_answer K.serves (K.line s) l t) (K.added s l t) s

abbrev pub remove_in : (K : Kind) → K.State → ℕ → ℕ → K.State
remove_in K s l t = after (remove_answer K.serves (K.line s) l t) (K.removed s l t) s

abbrev pub take_in : (K : Kind) → K.State → ℕ → K.State
take_in K s l = after (take_answer (K.next s) l) (K.taken s l) s

abbrev pub who : Result (Option ℕ) Decline → Option ℕ
who (Ok o) = o
who (Err e) = None

-- whom a take of line l gives
abbrev pub who_in : (K : Kind) → K.State → ℕ → Option ℕ
who_in K s l = who (take_answer (K.next s) l)

-- the members of line l
abbrev pub standing : (K : Kind) → K.State → ℕ → List ℕ
standing K s l = cond (nat_lt l lines) (K.line s l) []

-- n takes of line l, and the one that finds it empty
abbrev pub drained : (K : Kind) → ℕ → ℕ → K.State → K.State
drained K l zero s = K.taken s l
drained K l (suc n) s = drained K l n (K.taken s l)

abbrev pub drain_in : (K : Kind) → K.State → ℕ → K.State
drain_in K s l = cond (nat_lt l lines) (drained K l (length (K.line s l)) s) s
