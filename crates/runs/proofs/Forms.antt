-- The arrays after a row, by the request of the acting thread and not by its call: what the state of the nub is compared with.
use Rattle.std.proofs.Common.{◌≡◌, ℕ, ◌≤◌, cond, ◌||◌, List, length, get_or, set, Some as some, None as none, Option}
use Rattle.lines.specs.Lines.{has}
use Rattle.lines.specs.Kinds.{Kind as LineKind}
use Rattle.stages.specs.Calls.{Request, Object, gate_of, cond_of}
use Rattle.stages.specs.Calls.Object.{mutex, semaphore, condition}
use Rattle.stages.specs.Table.{spin_new}
use Rattle.thread.specs.Turns.{idle_thread, flagged}
use Rattle.thread.specs.declared.record.Thread.{Thread}
use Rattle.stages.specs.declared.step.Step.{Step}
use Rattle.stages.specs.declared.step.LineEffect.{LineEffect}
use Rattle.stages.specs.declared.step.LineEffect.TheVariants.{Keep as keep_line, JoinGate as join_gate, LeaveGate as leave_gate, JoinCondition as join_cond, LeaveCondition as leave_cond, WakeGate as wake_gate, SignalOne as signal_one, SignalAll as signal_all}
use Rattle.stages.specs.declared.step.GateEffect.{GateEffect}
use Rattle.stages.specs.declared.step.GateEffect.TheVariants.{Keep as keep_gate, Take as take_gate, Free as free_gate}
use Rattle.stages.specs.declared.step.FlagEffect.{FlagEffect}
use Rattle.stages.specs.declared.step.FlagEffect.TheVariants.{Keep as keep_flag, ClearOwn as clear_own, SetNamed as set_named}
use Rattle.nub.specs.declared.Core.{Core}
use Rattle.nub.specs.declared.Sizes.{Sizes}
use Rattle.nub.specs.Places.{at_line}
use Rattle.nub.specs.Model.{line_at, signals, mask_of}
use Rattle.nub.specs.Work.{Done, with_threads, with_spin, with_gates, count_at, kept_on, bits_l, wake_from, signalled, worked_in, taken_in}

-- sizes that a build over lines that serve so many threads can have
pub record Sized (serves : ℕ) (z : Sizes) : Type 0 where
  pub served! : z.threads ≤ serves
  pub threads! : z.threads ≤ 64
  pub mutexes! : z.mutexes ≤ 16
  pub conditions! : z.conditions ≤ 16
  pub semaphores! : z.semaphores ≤ 16

-- the arrays are full
pub record Full (k : Core) : Type 0 where
  pub threads! : length k.threads ≡ 64
  pub bits! : length k.bits ≡ 32
  pub owners! : length k.owners ≡ 16
  pub counts! : length k.counts ≡ 16

abbrev pub set_owner : List (Option ℕ) → Object → Option ℕ → List (Option ℕ)
set_owner l (mutex m) o = set l m o
set_owner l (semaphore i) o = l
set_owner l (condition c) o = l

abbrev pub owners_by : GateEffect → ℕ → Object → List (Option ℕ) → List (Option ℕ)
owners_by keep_gate t g l = l
owners_by take_gate t g l = set_owner l g (some t)
owners_by free_gate t g l = set_owner l g none

abbrev pub named_by : FlagEffect → ℕ → List Thread → List Thread
named_by keep_flag x l = l
named_by clear_own x l = l
named_by set_named x l = set l x (flagged (get_or l x idle_thread))

abbrev pub applied_by : Step → ℕ → Request → Core → Core
applied_by s t c k =
    with_threads
    (with_gates (with_spin k (spin_new s.spin k.spin)) (bits_l s.gate (at_line (gate_of c)) k.bits) (owners_by s.gate t (gate_of c) k.owners))
    (named_by s.flag c.x k.threads)

abbrev pub freed_at : LineEffect → ℕ → List ℕ → Core → Core
freed_at keep_line c us k = k
freed_at join_gate c us k = k
freed_at leave_gate c us k = k
freed_at join_cond c us k = k
freed_at leave_cond c us k = k
freed_at wake_gate c us k = with_threads k (wake_from wake_gate us 0 k.threads)
freed_at signal_one c us k = signalled signal_one c us k
freed_at signal_all c us k = signalled signal_all c us k

abbrev pub mask_at : LineEffect → ℕ → List ℕ → Core → ℕ
mask_at e c us k = cond (signals e) (mask_of (λ n. has n us || kept_on k c (count_at k c) n) 64) 0

abbrev pub served_by : (K : LineKind) → LineEffect → ℕ → Request → Core → K.State → Done K
served_by K e t c k f =
    record {
      core = freed_at e (cond_of c) (taken_in K e (at_line (line_at e c)) f) k;
      lines = worked_in K e (at_line (line_at e c)) f t;
      mask = mask_at e (cond_of c) (taken_in K e (at_line (line_at e c)) f) k;
    }

abbrev pub performed_by : (K : LineKind) → Step → ℕ → Request → Core → K.State → Done K
performed_by K s t c k f = served_by K s.line t c (applied_by s t c k) f
