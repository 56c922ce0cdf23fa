-- The names of stages, calls, actions and statuses, each with its one number.
--   stage_no    0 to 31
--   CallKind   which call, or none; call_no is its code, 1 to 11, and 0 for none
--   action_no   1 to 14, and 0 for none
--   status_no   0 on, 1 parked, 2 spun, 3 finished
use Rattle.std.specs.Prelude.{ℕ, Bool, true, false, ◌||◌, Some, None, Option, ◌==◌}
use Rattle.stages.specs.declared.stage.Stage.{Stage}
use Rattle.stages.specs.declared.stage.Stage.TheVariants.{Idle, Try, Peek, LineSpin, Add, Test, Park, Parked, LeaveSpin, Leave, LeaveOut, Undo, UndoOut, Clear, Look, WakeSpin, Wake, WakeOut, Read, BlockSpin, Compare, BlockPark, Waiting, QuitSpin, Quit, BlockOut, Choose, SigSpin, Sig, SigOut, Set, Swap}
use Rattle.stages.specs.declared.action.Action.{Action}
use Rattle.stages.specs.declared.action.Action.TheVariants as action
use Rattle.stages.specs.declared.action.Status.{Status}
use Rattle.stages.specs.declared.action.Status.TheVariants as status
use Rattle.stages.specs.declared.action.Outcome.{Outcome}
use Rattle.stages.specs.declared.action.Outcome.TheVariants.{Signalled, Alerted}

abbrev pub stage_no : Stage → ℕ
stage_no Idle = 0
stage_no Try = 1
stage_no Peek = 2
stage_no LineSpin = 3
stage_no Add = 4
stage_no Test = 5
stage_no Park = 6
stage_no Parked = 7
stage_no LeaveSpin = 8
stage_no Leave = 9
stage_no LeaveOut = 10
stage_no Undo = 11
stage_no UndoOut = 12
stage_no Clear = 13
stage_no Look = 14
stage_no WakeSpin = 15
stage_no Wake = 16
stage_no WakeOut = 17
stage_no Read = 18
stage_no BlockSpin = 19
stage_no Compare = 20
stage_no BlockPark = 21
stage_no Waiting = 22
stage_no QuitSpin = 23
stage_no Quit = 24
stage_no BlockOut = 25
stage_no Choose = 26
stage_no SigSpin = 27
stage_no Sig = 28
stage_no SigOut = 29
stage_no Set = 30
stage_no Swap = 31

abbrev pub is_idle : Stage → Bool
is_idle st = stage_no st == 0

-- which call; SemP and SemV are P and V
pub data CallKind : Type 0 where
  NoCall Acquire Release Wait Signal Broadcast SemP SemV Alert TestAlert AlertP AlertWait : CallKind

abbrev pub call_no : CallKind → ℕ
call_no NoCall = 0
call_no Acquire = 1
call_no Release = 2
call_no Wait = 3
call_no Signal = 4
call_no Broadcast = 5
call_no SemP = 6
call_no SemV = 7
call_no Alert = 8
call_no TestAlert = 9
call_no AlertP = 10
call_no AlertWait = 11

-- the calls that wait on a condition
abbrev pub is_wait : CallKind → Bool
is_wait k = call_no k == 3 || call_no k == 11

abbrev pub is_alert_p : CallKind → Bool
is_alert_p k = call_no k == 10

abbrev pub is_alert_wait : CallKind → Bool
is_alert_wait k = call_no k == 11

abbrev pub is_broadcast : CallKind → Bool
is_broadcast k = call_no k == 5

-- the calls that count a condition up
abbrev pub counted : CallKind → Bool
counted k = call_no k == 4 || call_no k == 5

-- the calls on a semaphore, and those on a mutex: their gate
abbrev pub is_sem : CallKind → Bool
is_sem k = call_no k == 6 || call_no k == 7 || call_no k == 10

abbrev pub is_mutex : CallKind → Bool
is_mutex k = call_no k == 1 || call_no k == 2 || call_no k == 3 || call_no k == 11

abbrev pub has_gate : CallKind → Bool
has_gate k = is_sem k || is_mutex k

-- the calls that are on a condition
abbrev pub has_cond : CallKind → Bool
has_cond k = is_wait k || counted k

abbrev pub action_no : Option Action → ℕ
action_no None = 0
action_no (Some action.Acquire) = 1
action_no (Some action.Release) = 2
action_no (Some action.Enqueue) = 3
action_no (Some action.Resume) = 4
action_no (Some action.ChooseOutcome) = 5
action_no (Some action.GetMutex) = 6
action_no (Some action.Signal) = 7
action_no (Some action.Broadcast) = 8
action_no (Some action.P) = 9
action_no (Some action.V) = 10
action_no (Some action.Alert) = 11
action_no (Some action.TestAlert) = 12
action_no (Some action.AlertPReturns) = 13
action_no (Some action.AlertPRaises) = 14

abbrev pub status_no : Status → ℕ
status_no status.On = 0
status_no status.Parked = 1
status_no status.Spun = 2
status_no status.Finished = 3

abbrev pub is_alerted : Option Outcome → Bool
is_alerted None = false
is_alerted (Some Signalled) = false
is_alerted (Some Alerted) = true

-- 1 for true
abbrev pub num : Bool → ℕ
num true = 1
num false = 0
