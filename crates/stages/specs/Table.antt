-- The turn table: one row for each stage, as data.
--   Seen    what a row reads
--   Row     what a row does: the next stage, its effects, and what it reports
--   row     the table
--   first   the stage that a call begins at
use Rattle.std.specs.Prelude.{Bool, true, false, cond, not, ◌&&◌, ◌||◌, Some as some, None as none, Option, ◌==◌, nat_le}
use Rattle.stages.specs.Names.{CallKind, stage_no, is_wait, is_alert_p, is_alert_wait, is_broadcast}
use Rattle.stages.specs.Names.CallKind.{NoCall, Acquire, Release, Wait, Signal, Broadcast, SemP, SemV, Alert, TestAlert, AlertP, AlertWait}
use Rattle.stages.specs.declared.stage.Stage.{Stage}
use Rattle.stages.specs.declared.stage.Stage.TheVariants.{Idle, Try, Peek, LineSpin, Add, Test, Park, Parked, LeaveSpin, Leave, LeaveOut, Undo, UndoOut, Clear, Look, WakeSpin, Wake, WakeOut, Read, BlockSpin, Compare, BlockPark, Waiting, QuitSpin, Quit, BlockOut, Choose, SigSpin, Sig, SigOut, Set, Swap}
use Rattle.stages.specs.declared.action.Action.{Action}
use Rattle.stages.specs.declared.action.Action.TheVariants as action
use Rattle.stages.specs.declared.action.Status.{Status}
use Rattle.stages.specs.declared.action.Status.TheVariants.{On as on, Parked as parked, Spun as spun, Finished as finished}
use Rattle.stages.specs.declared.step.SpinEffect.{SpinEffect}
use Rattle.stages.specs.declared.step.SpinEffect.TheVariants.{Keep as keep_spin, Set as set_spin, Clear as clear_spin}
use Rattle.stages.specs.declared.step.LineEffect.{LineEffect}
use Rattle.stages.specs.declared.step.LineEffect.TheVariants.{Keep as keep_line, JoinGate as join_gate, LeaveGate as leave_gate, JoinCondition as join_cond, LeaveCondition as leave_cond, WakeGate as wake_gate, SignalOne as signal_one, SignalAll as signal_all}
use Rattle.stages.specs.declared.step.GateEffect.{GateEffect}
use Rattle.stages.specs.declared.step.GateEffect.TheVariants.{Keep as keep_gate, Take as take_gate, Free as free_gate}
use Rattle.stages.specs.declared.step.FlagEffect.{FlagEffect}
use Rattle.stages.specs.declared.step.FlagEffect.TheVariants.{Keep as keep_flag, ClearOwn as clear_own, SetNamed as set_named}

-- the spin bit, the bit of the gate, the own alert flag, whether the gate's line is empty, whether the count is as kept,
-- and whether the outcome is alerted
pub record Seen : Type 0 where
  pub spin : Bool
  pub bit : Bool
  pub flag : Bool
  pub empty : Bool
  pub same : Bool
  pub quit : Bool

-- what a row does to the outcome
pub data OutcomeEffect : Type 0 where
  keep_outcome set_signalled set_alerted : OutcomeEffect

pub record Row : Type 0 where
  pub next : Stage
  pub spin : SpinEffect
  pub line : LineEffect
  pub gate : GateEffect
  pub flag : FlagEffect
  pub out : OutcomeEffect
  -- the count is kept
  pub keep : Bool
  pub action : Option Action
  pub status : Status
  pub value : Bool

-- rows by what they do besides going to the next stage

abbrev pub plain : Stage → Status → Row
plain n s =
    record { next = n; spin = keep_spin; line = keep_line; gate = keep_gate; flag = keep_flag; out = keep_outcome; keep = false; action = none; status = s; value = false }

abbrev pub go : Stage → Row
go n = plain n on

-- a stage that clears the spin bit
abbrev pub clears : Stage → Status → Row
clears n s =
    record { next = n; spin = clear_spin; line = keep_line; gate = keep_gate; flag = keep_flag; out = keep_outcome; keep = false; action = none; status = s; value = false }

-- a stage named Spin
abbrev pub spins : Seen → Stage → Stage → Row
spins v here n =
    cond v.spin (plain here spun)
    (record { next = n; spin = set_spin; line = keep_line; gate = keep_gate; flag = keep_flag; out = keep_outcome; keep = false; action = none; status = on; value = false })

abbrev pub lines : LineEffect → Option Action → Stage → Row
lines e a n =
    record { next = n; spin = keep_spin; line = e; gate = keep_gate; flag = keep_flag; out = keep_outcome; keep = false; action = a; status = on; value = false }

abbrev pub gates : GateEffect → Option Action → Stage → Status → Bool → Row
gates e a n s b =
    record { next = n; spin = keep_spin; line = keep_line; gate = e; flag = keep_flag; out = keep_outcome; keep = false; action = a; status = s; value = b }

abbrev pub flags : FlagEffect → Option Action → Stage → Status → Bool → Row
flags e a n s b =
    record { next = n; spin = keep_spin; line = keep_line; gate = keep_gate; flag = e; out = keep_outcome; keep = false; action = a; status = s; value = b }

abbrev pub chooses : LineEffect → FlagEffect → OutcomeEffect → Stage → Bool → Row
chooses e f o n b =
    record { next = n; spin = keep_spin; line = e; gate = keep_gate; flag = f; out = o; keep = false; action = some action.ChooseOutcome; status = on; value = b }

abbrev pub keeps : Option Action → Stage → Row
keeps a n =
    record { next = n; spin = keep_spin; line = keep_line; gate = keep_gate; flag = keep_flag; out = keep_outcome; keep = true; action = a; status = on; value = false }

-- the action of a Try that takes its gate
abbrev pub try_action : CallKind → Option Action
try_action NoCall = none
try_action Acquire = some action.Acquire
try_action Release = none
try_action Wait = some action.Resume
try_action Signal = none
try_action Broadcast = none
try_action SemP = some action.P
try_action SemV = none
try_action Alert = none
try_action TestAlert = none
try_action AlertP = some action.AlertPReturns
try_action AlertWait = some action.GetMutex

-- the action of a Clear
abbrev pub clear_action : CallKind → Option Action
clear_action NoCall = none
clear_action Acquire = none
clear_action Release = some action.Release
clear_action Wait = none
clear_action Signal = none
clear_action Broadcast = none
clear_action SemP = none
clear_action SemV = some action.V
clear_action Alert = none
clear_action TestAlert = none
clear_action AlertP = none
clear_action AlertWait = none

abbrev pub row : Stage → CallKind → Seen → Row
row Idle k v = plain Idle on
row Try k v = cond v.bit (go (cond (is_alert_p k) Peek LineSpin)) (gates take_gate (try_action k) Idle finished (is_alert_wait k && v.quit))
row Peek k v = cond v.flag (flags clear_own (some action.AlertPRaises) Idle finished true) (flags clear_own none LineSpin on false)
row LineSpin k v = spins v LineSpin Add
row Add k v = lines join_gate none Test
row Test k v = go (cond v.bit Park Undo)
row Park k v = clears Parked on
row Parked k v = cond (is_alert_p k && v.flag) (go LeaveSpin) (plain Parked parked)
row LeaveSpin k v = spins v LeaveSpin Leave
row Leave k v = lines leave_gate none LeaveOut
row LeaveOut k v = clears Peek on
row Undo k v = lines leave_gate none UndoOut
row UndoOut k v = clears Try on
row Clear k v = gates free_gate (clear_action k) Look on false
row Look k v = cond v.empty (cond (is_wait k) (go BlockSpin) (plain Idle finished)) (go WakeSpin)
row WakeSpin k v = spins v WakeSpin Wake
row Wake k v = lines wake_gate none WakeOut
row WakeOut k v = cond (is_wait k) (clears BlockSpin on) (clears Idle finished)
row Read k v = keeps (some action.Enqueue) Clear
row BlockSpin k v = spins v BlockSpin Compare
row Compare k v =
    cond v.same (lines join_cond none BlockPark)
    (cond (is_alert_wait k) (chooses keep_line keep_flag set_signalled BlockOut false) (go BlockOut))
row BlockPark k v = clears Waiting on
row Waiting k v = cond (is_alert_wait k && v.flag) (go QuitSpin) (plain Waiting parked)
row QuitSpin k v = spins v QuitSpin Quit
row Quit k v = chooses leave_cond clear_own set_alerted BlockOut true
row BlockOut k v = clears Try on
row Choose k v = chooses keep_line keep_flag set_signalled Try false
row SigSpin k v = spins v SigSpin Sig
row Sig k v = cond (is_broadcast k) (lines signal_all (some action.Broadcast) SigOut) (lines signal_one (some action.Signal) SigOut)
row SigOut k v = clears Idle finished
row Set k v = flags set_named (some action.Alert) Idle finished false
row Swap k v = flags clear_own (some action.TestAlert) Idle finished v.flag

-- the stages that read the bit of the gate, its line, and the count of the condition
abbrev pub reads_bit : Stage → Bool
reads_bit st = stage_no st == 1 || stage_no st == 5

abbrev pub reads_line : Stage → Bool
reads_line st = stage_no st == 14

abbrev pub reads_count : Stage → Bool
reads_count st = stage_no st == 18 || stage_no st == 20

-- between: a wait at stages 13 to 17, 19 or 20
abbrev pub is_between : Stage → CallKind → Bool
is_between st k = is_wait k && (nat_le 13 (stage_no st) && nat_le (stage_no st) 20 && not (stage_no st == 18))

-- the spin bit after a row
abbrev pub spin_new : SpinEffect → Bool → Bool
spin_new keep_spin b = b
spin_new set_spin b = true
spin_new clear_spin b = false

abbrev pub first : CallKind → Stage
first NoCall = Idle
first Acquire = Try
first Release = Clear
first Wait = Read
first Signal = SigSpin
first Broadcast = SigSpin
first SemP = Try
first SemV = Clear
first Alert = Set
first TestAlert = Swap
first AlertP = Try
first AlertWait = Read
