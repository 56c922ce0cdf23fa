-- Whole runs, and places to write to.
--   laid xs ys         the places ys with xs written from the first on, as far as there are places
--   events_for n es     the submissions and turns of the first n entries
--   played K k f es bs the answers that the tables give along the entries es, as many as bs has places, written to bs
--   granted v x y      x where a build's check grants, else y
--   Plays K f z n es zs r ys   r and ys are what a run on lines of the kind K, which are f when new, answers and leaves: z are the
--                      sizes and n the start count asked for, es the entries, and zs were the places for their answers
--   ranks_of rs         a rank for each of 32 threads; 0 for one that rs lacks
use Rattle.std.specs.Prelude.{◌≡◌, ℕ, zero, suc, List, [], ◌∷◌, ◌++◌, map, length, take, drop, Ok, Err, Result, slice_index}
use Rattle.lines.specs.Kinds.{Kind}
use Rattle.nub.specs.declared.Core.{Core}
use Rattle.nub.specs.declared.Decline.{Decline}
use Rattle.nub.specs.declared.Event.{Event}
use Rattle.nub.specs.Build.{sizes_verdict, built_sizes, built_core}
use Rattle.runs.specs.Replay.{ran, RunsRight}
use Rattle.nub.specs.declared.Sizes.{Sizes}
use Rattle.embed.specs.declared.numbers.Entry.{Entry}
use Rattle.embed.specs.declared.numbers.Answer.{Answer}
use Rattle.embed.specs.Numbers.{event_of, in_numbers, row_of}

abbrev pub laid : {X : Type 0} → List X → List X → List X
laid xs ys = take (length ys) xs ++ drop (length xs) ys

abbrev pub events_for : ℕ → List Entry → List Event
events_for n es = map event_of (take n es)

abbrev pub played : (K : Kind) → Core → K.State → List Entry → List Answer → List Answer
played K k f es bs = laid (map in_numbers (ran K k f (events_for (length bs) es)).answers) bs

abbrev pub granted : {X : Type 0} → Result (Unit {0}) Decline → X → X → X
granted (Ok u) x y = x
granted (Err d) x y = y

-- a new nub but for its lines, of these sizes and this start count
abbrev pub new_core : Kind → Sizes → ℕ → Core
new_core K z n = built_core (built_sizes K.serves z) n

pub record Plays (K : Kind) (f : K.State) (z : Sizes) (n : ℕ) (es : List Entry) (zs : List Answer) (r : ℕ) (ys : List Answer) : Type 0 where
  -- the number that the build's check answers by
  pub row : r ≡ row_of (sizes_verdict K.serves z)
  -- the answers are those of the tables; where the build is declined none is written
  pub answers : ys ≡ granted (sizes_verdict K.serves z) (played K (new_core K z n) f es zs) zs
  -- they are answers along a right run
  pub run : RunsRight K (new_core K z n) f (events_for (length zs) es)

-- the k numbers from n on
abbrev pub numbers_from : ℕ → ℕ → List ℕ
numbers_from n zero = []
numbers_from n (suc k) = n ∷ numbers_from (suc n) k

-- a proof unfolds it by name, since it would otherwise be 32 ranks wherever it is met
unfoldable pub ranks_of : List ℕ → List ℕ
ranks_of rs = map (λ n. slice_index rs n) (numbers_from 0 32)
