-- A submission and a turn on the arrays and the lines of a nub: the answer, and what they leave.
--   sight        what a turn at a stage looks at
--   turned       a turn
--   verdict_in    why a submission is declined, or none
--   submitted_in  the arrays after a submission
--   moves        an entry of a run
use Rattle.std.specs.Prelude.{ℕ, Bool, false, cond, ◌&&◌, [], Some as some, None as none, Ok, Err, Option, Result, ◌==◌, nat_lt, slice_index_or, slice_set}
use Rattle.lines.specs.Kinds.{Kind as LineKind}
use Rattle.stages.specs.Names.{CallKind, call_no}
use Rattle.stages.specs.Names.CallKind.{NoCall, Acquire, Release, Wait, Signal, Broadcast, SemP, SemV, Alert, TestAlert, AlertP, AlertWait}
use Rattle.stages.specs.Calls.{condition_of, is_empty}
use Rattle.stages.specs.Table.{reads_bit, reads_line, reads_count}
use Rattle.thread.specs.Turns.{step_after, thread_after, started}
use Rattle.stages.specs.declared.call.Call.{Call}
use Rattle.stages.specs.declared.call.Call.TheVariants as call
use Rattle.stages.specs.declared.stage.Stage.{Stage}
use Rattle.stages.specs.declared.step.Sight.{Sight}
use Rattle.stages.specs.declared.step.Step.{Step}
use Rattle.nub.specs.declared.Core.{Core}
use Rattle.nub.specs.declared.Sizes.{Sizes}
use Rattle.nub.specs.declared.Decline.{Decline}
use Rattle.nub.specs.declared.Decline.TheVariants.{NoThread, NoCode, NoObject, IdleThread}
use Rattle.nub.specs.declared.Event.{Event}
use Rattle.nub.specs.declared.Event.TheVariants.{Submission as submission, Turn as turn}
use Rattle.nub.specs.declared.Answer.{Answer}
use Rattle.nub.specs.declared.Answer.TheVariants.{Granted as granted, Declined as declined, Reported as reported}
use Rattle.nub.specs.Places.{gate_line}
use Rattle.nub.specs.Model.{verdict, by_verdict, code_kind, exists_among}
use Rattle.nub.specs.View.{by_line, view_core}
use Rattle.nub.specs.Work.{with_threads, thread_at, count_at, Done, performed}

-- what a turn at a stage, in a call, looks at; what the stage does not read is left out
abbrev pub sight : (K : LineKind) → Core → K.State → Stage → Option Call → Sight
sight K k f st c =
    record {
      spin = k.spin;
      bit = reads_bit st && by_line false (λ n. slice_index_or k.bits n false) (gate_line c);
      empty = reads_line st && is_empty (by_line [] (K.line f) (gate_line c));
      count = cond (reads_count st) (by_line 0 (count_at k) (condition_of c)) 0;
    }

pub record Moved (K : LineKind) : Type 0 where
  pub answer : Answer
  pub core : Core
  pub lines : K.State

abbrev pub refused : (K : LineKind) → Decline → Core → K.State → Moved K
refused K d k f = record { answer = declined d; core = k; lines = f }

abbrev pub reports : (K : LineKind) → Step → Done K → Moved K
reports K s d = record { answer = reported (record { status = s.status; value = s.value; action = s.action; mask = d.mask }); core = d.core; lines = d.lines }

-- the arrays with thread t's own record after its row
abbrev pub row_done : Core → ℕ → Sight → Core
row_done k t v = with_threads k (slice_set k.threads t (thread_after (thread_at k t) v))

-- what is left to do after the row, in a nub that was k and whose record is changed in k'
abbrev pub steps : (K : LineKind) → Option Step → ℕ → Option Call → Core → Core → K.State → Moved K
steps K none t c k k' f = refused K IdleThread k f
steps K (some s) t c k k' f = reports K s (performed K s t c k' f)

abbrev pub sight_of : (K : LineKind) → Core → K.State → ℕ → Sight
sight_of K k f t = sight K k f (thread_at k t).stage (thread_at k t).call

abbrev pub turned : (K : LineKind) → Core → K.State → ℕ → Moved K
turned K k f t =
    cond (nat_lt t k.sizes.threads)
    (steps K (step_after (thread_at k t) (sight_of K k f t)) t (thread_at k t).call k (row_done k t (sight_of K k f t)) f)
    (refused K NoThread k f)

-- thread t submits the call with the code n and the objects a and b
abbrev pub verdict_in : Core → ℕ → ℕ → ℕ → ℕ → Option Decline
verdict_in k t n a b = verdict (view_core k (λ o. [])) (submission t n a b)

-- the call of a kind and its objects; those that it has no use for are ignored
abbrev pub call_by : CallKind → ℕ → ℕ → Option Call
call_by NoCall a b = none
call_by Acquire a b = some (call.Acquire a)
call_by Release a b = some (call.Release a)
call_by Wait a b = some (call.Wait a b)
call_by Signal a b = some (call.Signal a)
call_by Broadcast a b = some (call.Broadcast a)
call_by SemP a b = some (call.P a)
call_by SemV a b = some (call.V a)
call_by Alert a b = some (call.Alert a)
call_by TestAlert a b = some call.TestAlert
call_by AlertP a b = some (call.AlertP a)
call_by AlertWait a b = some (call.AlertWait a b)

-- the objects that a call has exist, by the sizes
abbrev pub exists_in : Sizes → CallKind → ℕ → ℕ → Bool
exists_in z k x y = exists_among z.threads z.mutexes z.conditions z.semaphores k x y

abbrev pub or_no_code : Option Call → Result Call Decline
or_no_code none = Err NoCode
or_no_code (some c) = Ok c

-- the call that a code and two objects mean
abbrev pub call_of : Sizes → ℕ → ℕ → ℕ → Result Call Decline
call_of z n a b =
    cond (call_no (code_kind n) == 0) (Err NoCode) (cond (exists_in z (code_kind n) a b) (or_no_code (call_by (code_kind n) a b)) (Err NoObject))

abbrev pub submitted_in : Core → ℕ → ℕ → ℕ → ℕ → Core
submitted_in k t n a b = by_verdict (verdict_in k t n a b) (with_threads k (slice_set k.threads t (started (call_by (code_kind n) a b) (thread_at k t)))) (λ d. k)

abbrev pub answer_in : Option Decline → Answer
answer_in v = by_verdict v granted (λ d. declined d)

abbrev pub moves : (K : LineKind) → Core → K.State → Event → Moved K
moves K k f (submission t n a b) = record { answer = answer_in (verdict_in k t n a b); core = submitted_in k t n a b; lines = f }
moves K k f (turn t) = turned K k f t
