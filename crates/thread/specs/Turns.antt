-- One record's part of a turn: which row it has, what the record is left as, and the rest of the turn.
--   ThreadState   a thread as the tables speak of it, without its alert flag
--   state_of       the same of a record
--   moved         a thread's state after a row
--   stepped       the record after a row
--   step_of        what the row leaves to be done outside the record
--   woken_thread   the record of a thread that is taken from a line
--   between_on     the thread is between on a condition
--   thread_after   the record after its turn, and step_after what is left to do; none where it is idle
use Rattle.std.specs.Prelude.{ℕ, Bool, true, false, cond, ◌&&◌, Some as some, None as none, Option, ◌==◌}
use Rattle.stages.specs.Names.{CallKind, is_idle, is_alert_wait, is_alerted, num}
use Rattle.stages.specs.Calls.{Request, request_of, kind_of, no_call, cond_of}
use Rattle.stages.specs.Table.{Seen, Row, OutcomeEffect, row, first, is_between}
use Rattle.stages.specs.Table.OutcomeEffect.{keep_outcome, set_signalled, set_alerted}
use Rattle.stages.specs.declared.stage.Stage.{Stage}
use Rattle.stages.specs.declared.stage.Stage.TheVariants.{Idle, Try, Choose}
use Rattle.stages.specs.declared.call.Call.{Call}
use Rattle.stages.specs.declared.action.Outcome.{Outcome}
use Rattle.stages.specs.declared.action.Outcome.TheVariants.{Signalled, Alerted}
use Rattle.stages.specs.declared.action.Action.{Action}
use Rattle.stages.specs.declared.action.Status.{Status}
use Rattle.stages.specs.declared.step.SpinEffect.{SpinEffect}
use Rattle.stages.specs.declared.step.GateEffect.{GateEffect}
use Rattle.stages.specs.declared.step.LineEffect.{LineEffect}
use Rattle.stages.specs.declared.step.LineEffect.TheVariants.{Keep as keep_line, JoinGate as join_gate, LeaveGate as leave_gate, JoinCondition as join_cond, LeaveCondition as leave_cond, WakeGate as wake_gate, SignalOne as signal_one, SignalAll as signal_all}
use Rattle.stages.specs.declared.step.FlagEffect.{FlagEffect}
use Rattle.stages.specs.declared.step.FlagEffect.TheVariants.{Keep as keep_flag, ClearOwn as clear_own, SetNamed as set_named}
use Rattle.thread.specs.declared.record.Thread.{Thread}
use Rattle.stages.specs.declared.step.Sight.{Sight}
use Rattle.stages.specs.declared.step.Step.{Step}

pub record ThreadState : Type 0 where
  pub stage : Stage
  pub call : Request
  pub kept : ℕ
  pub out : Option Outcome

abbrev pub idle : ThreadState
idle = record { stage = Idle; call = no_call; kept = 0; out = none }

abbrev pub out_new : OutcomeEffect → Option Outcome → Option Outcome
out_new keep_outcome o = o
out_new set_signalled o = some Signalled
out_new set_alerted o = some Alerted

-- the acting thread after the row, n the count of its condition; finishing returns it to Idle without call or outcome
abbrev pub moved : Row → ℕ → ThreadState → ThreadState
moved r n h =
    record {
      stage = r.next;
      call = cond (is_idle r.next) no_call h.call;
      kept = cond r.keep n h.kept;
      out = cond (is_idle r.next) none (out_new r.out h.out);
    }

abbrev pub idle_thread : Thread
idle_thread = record { alert = false; stage = Idle; call = none; kept = 0; outcome = none }

abbrev pub state_of : Thread → ThreadState
state_of h = record { stage = h.stage; call = request_of h.call; kept = h.kept; out = h.outcome }

-- what the row of the record reads
abbrev pub sees : Thread → Sight → Seen
sees h v = record { spin = v.spin; bit = v.bit; flag = h.alert; empty = v.empty; same = (h.kept == v.count); quit = is_alerted h.outcome }

abbrev pub row_by : Thread → Sight → Row
row_by h v = row h.stage (kind_of h.call) (sees h v)

-- the own flag after the row
abbrev pub own_flag : FlagEffect → Bool → Bool
own_flag keep_flag b = b
own_flag clear_own b = false
own_flag set_named b = b

-- the record after its row, n the count of its condition
abbrev pub stepped : Row → ℕ → Thread → Thread
stepped r n h =
    record {
      alert = own_flag r.flag h.alert;
      stage = r.next;
      call = cond (is_idle r.next) none h.call;
      kept = cond r.keep n h.kept;
      outcome = cond (is_idle r.next) none (out_new r.out h.outcome);
    }

abbrev pub step_of : Row → Step
step_of r = record { status = r.status; value = num r.value; action = r.action; spin = r.spin; gate = r.gate; line = r.line; flag = r.flag }

abbrev pub thread_after : Thread → Sight → Thread
thread_after h v = cond (is_idle h.stage) h (stepped (row_by h v) v.count h)

abbrev pub step_after : Thread → Sight → Option Step
step_after h v = cond (is_idle h.stage) none (some (step_of (row_by h v)))

-- the record at another stage, and back at Idle
abbrev pub at_stage : Stage → Thread → Thread
at_stage n h = record { alert = h.alert; stage = n; call = h.call; kept = h.kept; outcome = h.outcome }

abbrev pub finished : Thread → Thread
finished h = record { alert = h.alert; stage = Idle; call = none; kept = h.kept; outcome = none }

-- a step by its parts
abbrev pub step_by : Status → ℕ → Option Action → SpinEffect → GateEffect → LineEffect → FlagEffect → Step
step_by s v a p g l f = record { status = s; value = v; action = a; spin = p; gate = g; line = l; flag = f }

-- a call begins
abbrev pub started : Option Call → Thread → Thread
started c h = record { alert = h.alert; stage = first (kind_of c); call = c; kept = h.kept; outcome = h.outcome }

-- what others do to a thread and ask of it

-- the stage of a thread that an effect takes from a line: one in AlertWait, taken by a signal, has its outcome to choose
abbrev pub woken_stage : LineEffect → CallKind → Stage
woken_stage keep_line k = Try
woken_stage join_gate k = Try
woken_stage leave_gate k = Try
woken_stage join_cond k = Try
woken_stage leave_cond k = Try
woken_stage wake_gate k = Try
woken_stage signal_one k = cond (is_alert_wait k) Choose Try
woken_stage signal_all k = cond (is_alert_wait k) Choose Try

-- the record of a thread that is taken
abbrev pub woken_thread : LineEffect → Thread → Thread
woken_thread e h = record { alert = h.alert; stage = woken_stage e (kind_of h.call); call = h.call; kept = h.kept; outcome = h.outcome }

-- the record with its alert flag set
abbrev pub flagged : Thread → Thread
flagged h = record { alert = true; stage = h.stage; call = h.call; kept = h.kept; outcome = h.outcome }

-- a thread between Read and the line of condition c
abbrev pub between_on : ThreadState → ℕ → Bool
between_on h c = is_between h.stage h.call.kind && cond_of h.call == c
