-- The pairs of a stage and a call that meet: 87, and Idle with no call.
--   kinds_at   the codes of the calls that can be at a stage
--   fits      the pair is one of them
use Rattle.std.specs.Prelude.{ℕ, Bool, List, [], ◌∷◌}
use Rattle.stages.specs.Names.{CallKind, call_no}
use Rattle.stages.specs.Calls.{elem}
use Rattle.stages.specs.declared.stage.Stage.{Stage}
use Rattle.stages.specs.declared.stage.Stage.TheVariants.{Idle, Try, Peek, LineSpin, Add, Test, Park, Parked, LeaveSpin, Leave, LeaveOut, Undo, UndoOut, Clear, Look, WakeSpin, Wake, WakeOut, Read, BlockSpin, Compare, BlockPark, Waiting, QuitSpin, Quit, BlockOut, Choose, SigSpin, Sig, SigOut, Set, Swap}

abbrev pub kinds_at : Stage → List ℕ
kinds_at Idle = 0 ∷ []
kinds_at Try = 1 ∷ 3 ∷ 6 ∷ 10 ∷ 11 ∷ []
kinds_at Peek = 10 ∷ []
kinds_at LineSpin = 1 ∷ 3 ∷ 6 ∷ 10 ∷ 11 ∷ []
kinds_at Add = 1 ∷ 3 ∷ 6 ∷ 10 ∷ 11 ∷ []
kinds_at Test = 1 ∷ 3 ∷ 6 ∷ 10 ∷ 11 ∷ []
kinds_at Park = 1 ∷ 3 ∷ 6 ∷ 10 ∷ 11 ∷ []
kinds_at Parked = 1 ∷ 3 ∷ 6 ∷ 10 ∷ 11 ∷ []
kinds_at LeaveSpin = 10 ∷ []
kinds_at Leave = 10 ∷ []
kinds_at LeaveOut = 10 ∷ []
kinds_at Undo = 1 ∷ 3 ∷ 6 ∷ 10 ∷ 11 ∷ []
kinds_at UndoOut = 1 ∷ 3 ∷ 6 ∷ 10 ∷ 11 ∷ []
kinds_at Clear = 2 ∷ 3 ∷ 7 ∷ 11 ∷ []
kinds_at Look = 2 ∷ 3 ∷ 7 ∷ 11 ∷ []
kinds_at WakeSpin = 2 ∷ 3 ∷ 7 ∷ 11 ∷ []
kinds_at Wake = 2 ∷ 3 ∷ 7 ∷ 11 ∷ []
kinds_at WakeOut = 2 ∷ 3 ∷ 7 ∷ 11 ∷ []
kinds_at Read = 3 ∷ 11 ∷ []
kinds_at BlockSpin = 3 ∷ 11 ∷ []
kinds_at Compare = 3 ∷ 11 ∷ []
kinds_at BlockPark = 3 ∷ 11 ∷ []
kinds_at Waiting = 3 ∷ 11 ∷ []
kinds_at QuitSpin = 11 ∷ []
kinds_at Quit = 11 ∷ []
kinds_at BlockOut = 3 ∷ 11 ∷ []
kinds_at Choose = 11 ∷ []
kinds_at SigSpin = 4 ∷ 5 ∷ []
kinds_at Sig = 4 ∷ 5 ∷ []
kinds_at SigOut = 4 ∷ 5 ∷ []
kinds_at Set = 8 ∷ []
kinds_at Swap = 9 ∷ []

abbrev pub fits : Stage → CallKind → Bool
fits st k = elem (call_no k) (kinds_at st)
