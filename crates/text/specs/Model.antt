-- The machine that a script runs on, as definitions.
--     Single       a machine of one kind: its states, and what each call answers and leaves
--     Model        the machine of a script: the same, with the kind chosen where it is built
--     made_at f r   what was built, read by f, or the number of the refusal
use Rattle.std.specs.Prelude.{ℕ, Bool, List, Ok, Err, Result}
use Rattle.text.specs.declared.answer.Report.{Report}

pub record Single : Type 1 where
  pub State : Type 0
  -- from five numbers: threads, mutexes, conditions, semaphores and the start count; or the number of the refusal
  pub build : List ℕ → Result State ℕ
  -- a submission of four numbers, a thread, a code and two objects: its answer, and the state after
  pub submit : State → List ℕ → Result (Unit {0}) ℕ
  pub submitted : State → List ℕ → State
  -- a turn of a thread: its answer, and the state after
  pub turn : State → ℕ → Result Report ℕ
  pub turned : State → ℕ → State

pub record Model : Type 1 where
  pub State : Type 0
  -- the same, from the kind, true for ranked, and five numbers
  pub build : Bool → List ℕ → Result State ℕ
  pub submit : State → List ℕ → Result (Unit {0}) ℕ
  pub submitted : State → List ℕ → State
  pub turn : State → ℕ → Result Report ℕ
  pub turned : State → ℕ → State

abbrev pub made_at : {X Y : Type 0} → (X → Y) → Result X ℕ → Result Y ℕ
made_at f (Ok x) = Ok (f x)
made_at f (Err n) = Err n
