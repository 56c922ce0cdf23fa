-- A kind of lines, as a machine on states of its own, and what every kind promises. Assumes nothing.
--     Kind          the machine: its states, how it reads as lines, and the state after each operation that is granted
--     Picks o xs    o is one of xs, and none exactly where xs is empty
--     Laws k        how the lines of k change, and that k chooses a member
use Rattle.std.specs.Prelude.{◌≡◌, ℕ, true, List, [], ◌∷◌, ◌++◌, Some, None, Option}
use Rattle.lines.specs.Lines.{Lines, put, has, without, minus}

pub record Kind : Type 1 where
  pub State : Type 0
  -- it serves the threads below this number
  pub serves : ℕ
  -- the members of each line, in order of arrival
  pub line : State → Lines
  -- whom the next take of a line gives: the kind's own choice
  pub next : State → ℕ → Option ℕ
  -- what comes of a line and a thread that are granted
  pub added : State → ℕ → ℕ → State
  pub taken : State → ℕ → State
  pub removed : State → ℕ → ℕ → State

abbrev pub Picks : Option ℕ → List ℕ → Type 0
Picks None xs = xs ≡ []
Picks (Some t) xs = has t xs ≡ true

-- each operation changes the list of its own line alone
pub record Laws (k : Kind) : Type 0 where
  pub picks : (s : k.State) (l : ℕ) → Picks (k.next s l) (k.line s l)
  pub after_add : (s : k.State) (l t : ℕ) → k.line (k.added s l t) ≡ put (k.line s) l (k.line s l ++ t ∷ [])
  pub after_take : (s : k.State) (l : ℕ) → k.line (k.taken s l) ≡ put (k.line s) l (minus (k.next s l) (k.line s l))
  pub after_remove : (s : k.State) (l t : ℕ) → k.line (k.removed s l t) ≡ put (k.line s) l (without t (k.line s l))
