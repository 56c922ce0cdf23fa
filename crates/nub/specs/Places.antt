-- The numbers of the lines, and which of them a call is about.
--   line_no      mutex m has line m, semaphore s line 16 + s, condition c line 32 + c
--   at_line      the line of an object, if there can be such an object
--   gate_line    the line of a call's mutex or semaphore, if it has one
--   cond_line    the line of its condition
--   line_in      the line that an effect works on
use Rattle.std.specs.Prelude.{ℕ, ◌+◌, Bool, cond, Some as some, None as none, Option, nat_lt}
use Rattle.stages.specs.Names.{has_gate, is_mutex, call_no}
use Rattle.stages.specs.Calls.{Object, request_of, kind_of, gate_of, condition_of}
use Rattle.stages.specs.Calls.Object.{mutex, semaphore, condition}
use Rattle.stages.specs.declared.call.Call.{Call}
use Rattle.stages.specs.declared.step.LineEffect.{LineEffect}
use Rattle.stages.specs.declared.step.LineEffect.TheVariants.{Keep as keep_line, JoinGate as join_gate, LeaveGate as leave_gate, JoinCondition as join_cond, LeaveCondition as leave_cond, WakeGate as wake_gate, SignalOne as signal_one, SignalAll as signal_all}

abbrev pub line_no : Object → ℕ
line_no (mutex m) = m
line_no (semaphore i) = 16 + i
line_no (condition c) = 32 + c

abbrev pub in_range : Object → Bool
in_range (mutex m) = nat_lt m 16
in_range (semaphore i) = nat_lt i 16
in_range (condition c) = nat_lt c 16

abbrev pub at_line : Object → Option ℕ
at_line o = cond (in_range o) (some (line_no o)) none

abbrev pub gate_line : Option Call → Option ℕ
gate_line c = cond (has_gate (kind_of c)) (at_line (gate_of (request_of c))) none

abbrev pub by_condition : Option ℕ → Option ℕ
by_condition none = none
by_condition (some c) = at_line (condition c)

abbrev pub cond_line : Option Call → Option ℕ
cond_line c = by_condition (condition_of c)

-- the mutex of a call
abbrev pub mutex_of : Option Call → Option ℕ
mutex_of c = cond (is_mutex (kind_of c)) (some (request_of c).x) none

-- the thread that a call alerts
abbrev pub alerted_of : Option Call → Option ℕ
alerted_of c = cond (lib.Dec.eqb (call_no (kind_of c)) 8) (some (request_of c).x) none

abbrev pub line_in : LineEffect → Option Call → Option ℕ
line_in keep_line c = none
line_in join_gate c = gate_line c
line_in leave_gate c = gate_line c
line_in join_cond c = cond_line c
line_in leave_cond c = cond_line c
line_in wake_gate c = gate_line c
line_in signal_one c = cond_line c
line_in signal_all c = cond_line c
