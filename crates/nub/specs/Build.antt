-- Build: what its check declines, and what its making gives.
--   sizes_verdict   why sizes are declined, over lines that serve so many threads
--   built_sizes     the sizes that the making gives: those asked for, or one thread and no objects where they are declined
--   built_core      a new nub but for its lines
use Rattle.std.specs.Prelude.{ℕ, Bool, false, cond, ◌&&◌, replicate, None as none, Ok, Err, Result, nat_le}
use Rattle.thread.specs.Turns.{idle_thread}
use Rattle.nub.specs.declared.Core.{Core}
use Rattle.nub.specs.declared.Sizes.{Sizes}
use Rattle.nub.specs.declared.Decline.{Decline}
use Rattle.nub.specs.declared.Decline.TheVariants.{WrongSize}

-- at least one thread, no more than the lines serve, and at most 16 of each kind of object
abbrev pub sizes_fit : ℕ → Sizes → Bool
sizes_fit serves z = nat_le 1 z.threads && nat_le z.threads serves && nat_le z.mutexes 16 && nat_le z.conditions 16 && nat_le z.semaphores 16

abbrev pub sizes_verdict : ℕ → Sizes → Result (Unit {0}) Decline
sizes_verdict serves z = cond (sizes_fit serves z) (Ok tt) (Err WrongSize)

abbrev pub least_sizes : Sizes
least_sizes = record { threads = 1; mutexes = 0; conditions = 0; semaphores = 0 }

abbrev pub built_sizes : ℕ → Sizes → Sizes
built_sizes serves z = cond (sizes_fit serves z) z least_sizes

abbrev pub built_core : Sizes → ℕ → Core
built_core z n =
    record { spin = false; threads = replicate 64 idle_thread; bits = replicate 32 false; owners = replicate 16 none; counts = replicate 16 n; sizes = z }
