-- A whole script, written to places.
--   RanInto bs zs r ys   r and ys are what the script bs answers and leaves, where zs were the places for what it writes
use Rattle.std.specs.Prelude.{◌≡◌, ℕ, ◌⊎◌, List, length}
use Rattle.script.specs.Written.{written}
use Rattle.script.specs.Played.{Played}
use Rattle.embed.specs.Play.{laid}

pub record RanInto (bs zs : List ℕ) (r : ℕ) (ys : List ℕ) : Type 0 where
  -- want of memory is the largest number; else the length of all that is written, of which as much as there are places for is laid
  pub text : ((r ≡ 18446744073709551615) × (ys ≡ zs)) ⊎ ((r ≡ length (written bs)) × (ys ≡ laid (written bs) zs))
  -- what is written is what a nub answers along a right run
  pub run : Played bs (written bs)
