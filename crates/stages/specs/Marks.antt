-- The marks of the stages, and their agreement with the turn table.
--   marks         what a stage says of the thread that is at it
--   MarksAgree   after every row, whatever the call and whatever it sees, the next stage's marks are what the row's effects make
use Rattle.std.specs.Prelude.{◌≡◌, Bool, true, false, ◌&&◌, ◌||◌, ◌==◌, nat_le}
use Rattle.stages.specs.Names.{CallKind, stage_no}
use Rattle.stages.specs.Table.{Seen, row, spin_new}
use Rattle.stages.specs.declared.stage.Stage.{Stage}
use Rattle.stages.specs.declared.stage.Stage.TheVariants.{Idle, Try, Peek, LineSpin, Add, Test, Park, Parked, LeaveSpin, Leave, LeaveOut, Undo, UndoOut, Clear, Look, WakeSpin, Wake, WakeOut, Read, BlockSpin, Compare, BlockPark, Waiting, QuitSpin, Quit, BlockOut, Choose, SigSpin, Sig, SigOut, Set, Swap}
use Rattle.stages.specs.declared.step.LineEffect.{LineEffect}
use Rattle.stages.specs.declared.step.LineEffect.TheVariants.{Keep as keep_line, JoinGate as join_gate, LeaveGate as leave_gate, JoinCondition as join_cond, LeaveCondition as leave_cond, WakeGate as wake_gate, SignalOne as signal_one, SignalAll as signal_all}
use Rattle.stages.specs.declared.step.GateEffect.{GateEffect}
use Rattle.stages.specs.declared.step.GateEffect.TheVariants.{Keep as keep_gate, Take as take_gate, Free as free_gate}
use Rattle.stages.specs.declared.marks.Stands.{Stands}
use Rattle.stages.specs.declared.marks.Stands.TheVariants.{Nowhere as nowhere, AtGate as at_gate, AtCondition as at_cond}
use Rattle.stages.specs.declared.marks.Mark.{Mark}

abbrev pub mark : Bool → Stands → Bool → Mark
mark s l w = record { spin = s; line = l; way = w }

abbrev pub marks : Stage → Mark
marks Idle = mark false nowhere false
marks Try = mark false nowhere true
marks Peek = mark false nowhere false
marks LineSpin = mark false nowhere false
marks Add = mark true nowhere false
marks Test = mark true at_gate true
marks Park = mark true at_gate false
marks Parked = mark false at_gate false
marks LeaveSpin = mark false at_gate false
marks Leave = mark true at_gate false
marks LeaveOut = mark true nowhere false
marks Undo = mark true at_gate true
marks UndoOut = mark true nowhere true
marks Clear = mark false nowhere true
marks Look = mark false nowhere true
marks WakeSpin = mark false nowhere true
marks Wake = mark true nowhere true
marks WakeOut = mark true nowhere false
marks Read = mark false nowhere false
marks BlockSpin = mark false nowhere false
marks Compare = mark true nowhere false
marks BlockPark = mark true at_cond false
marks Waiting = mark false at_cond false
marks QuitSpin = mark false at_cond false
marks Quit = mark true at_cond false
marks BlockOut = mark true nowhere false
marks Choose = mark false nowhere false
marks SigSpin = mark false nowhere false
marks Sig = mark true nowhere false
marks SigOut = mark true nowhere false
marks Set = mark false nowhere false
marks Swap = mark false nowhere false

-- where the acting thread stands after a row
abbrev pub stands_new : LineEffect → Stands → Stands
stands_new keep_line m = m
stands_new join_gate m = at_gate
stands_new leave_gate m = nowhere
stands_new join_cond m = at_cond
stands_new leave_cond m = nowhere
stands_new wake_gate m = m
stands_new signal_one m = m
stands_new signal_all m = m

abbrev pub is_wake_gate : LineEffect → Bool
is_wake_gate keep_line = false
is_wake_gate join_gate = false
is_wake_gate leave_gate = false
is_wake_gate join_cond = false
is_wake_gate leave_cond = false
is_wake_gate wake_gate = true
is_wake_gate signal_one = false
is_wake_gate signal_all = false

abbrev pub is_join_gate : LineEffect → Bool
is_join_gate keep_line = false
is_join_gate join_gate = true
is_join_gate leave_gate = false
is_join_gate join_cond = false
is_join_gate leave_cond = false
is_join_gate wake_gate = false
is_join_gate signal_one = false
is_join_gate signal_all = false

abbrev pub is_take : GateEffect → Bool
is_take keep_gate = false
is_take take_gate = true
is_take free_gate = false

abbrev pub is_free : GateEffect → Bool
is_free keep_gate = false
is_free take_gate = false
is_free free_gate = true

-- on its way: at stages 1, 5 and 11 to 16
abbrev pub is_on_way : Stage → Bool
is_on_way st = stage_no st == 1 || stage_no st == 5 || (nat_le 11 (stage_no st) && nat_le (stage_no st) 16)

pub record Agrees (st : Stage) (k : CallKind) (v : Seen) : Type 0 where
  -- the spin bit is held after the row as its effect says
  pub spin! : (marks (row st k v).next).spin ≡ spin_new (row st k v).spin (marks st).spin
  -- and so is a line stood in
  pub line! : (marks (row st k v).next).line ≡ stands_new (row st k v).line (marks st).line
  -- the stages at which a thread is on its way
  pub way! : (marks st).way ≡ is_on_way st
  -- who frees its gate or joins its line is on its way after it
  pub onto! : (is_free (row st k v).gate || is_join_gate (row st k v).line) ≡ true → (marks (row st k v).next).way ≡ true
  -- who was on its way is so still, unless its gate is taken or its line is empty, or it takes the gate or wakes a member
  pub away! : (marks st).way ≡ true → ((marks (row st k v).next).way || v.bit || v.empty || is_take (row st k v).gate || is_wake_gate (row st k v).line) ≡ true

abbrev pub MarksAgree : Type 0
MarksAgree = (st : Stage) (k : CallKind) (v : Seen) → Agrees st k v
