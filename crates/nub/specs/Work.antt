-- The arrays and the lines after what a row does outside the acting thread's record.
--   gated      the bit and the owner of the call's gate
--   alert_named the flag of the alerted thread
--   worked_in   the lines, and taken_in whom the row takes from them
--   freed_in    the threads taken, and the count of a signal
--   mask_in     the freed mask
--   performed  all of it
-- Each is total: where a call has no such object, nothing is done.
use Rattle.std.specs.Prelude.{ℕ, suc, ◌+◌, ◌%◌, ◌^◌, Bool, true, false, cond, ◌&&◌, ◌||◌, List, [], ◌∷◌, Some as some, None as none, Option, ◌==◌, slice_index, slice_index_or, slice_set}
use Rattle.lines.specs.Lines.{has}
use Rattle.lines.specs.Kinds.{Kind as LineKind}
use Rattle.stages.specs.Calls.{condition_of, to_list}
use Rattle.stages.specs.Table.{spin_new}
use Rattle.thread.specs.Turns.{idle_thread, state_of, between_on, woken_thread, flagged}
use Rattle.stages.specs.declared.call.Call.{Call}
use Rattle.thread.specs.declared.record.Thread.{Thread}
use Rattle.stages.specs.declared.step.Step.{Step}
use Rattle.stages.specs.declared.step.LineEffect.{LineEffect}
use Rattle.stages.specs.declared.step.LineEffect.TheVariants.{Keep as keep_line, JoinGate as join_gate, LeaveGate as leave_gate, JoinCondition as join_cond, LeaveCondition as leave_cond, WakeGate as wake_gate, SignalOne as signal_one, SignalAll as signal_all}
use Rattle.stages.specs.declared.step.GateEffect.{GateEffect}
use Rattle.stages.specs.declared.step.GateEffect.TheVariants.{Keep as keep_gate, Take as take_gate, Free as free_gate}
use Rattle.stages.specs.declared.step.FlagEffect.{FlagEffect}
use Rattle.stages.specs.declared.step.FlagEffect.TheVariants.{Keep as keep_flag, ClearOwn as clear_own, SetNamed as set_named}
use Rattle.nub.specs.declared.Core.{Core}
use Rattle.nub.specs.Places.{gate_line, mutex_of, alerted_of, line_in}
use Rattle.nub.specs.Lining.{add_in, remove_in, take_in, who_in, standing, drain_in}
use Rattle.nub.specs.Model.{mask_of}

-- the arrays with one part changed
abbrev pub with_threads : Core → List Thread → Core
with_threads k ts = record { spin = k.spin; threads = ts; bits = k.bits; owners = k.owners; counts = k.counts; sizes = k.sizes }

abbrev pub with_spin : Core → Bool → Core
with_spin k b = record { spin = b; threads = k.threads; bits = k.bits; owners = k.owners; counts = k.counts; sizes = k.sizes }

abbrev pub with_gates : Core → List Bool → List (Option ℕ) → Core
with_gates k b o = record { spin = k.spin; threads = k.threads; bits = b; owners = o; counts = k.counts; sizes = k.sizes }

abbrev pub with_counts : Core → List ℕ → Core
with_counts k n = record { spin = k.spin; threads = k.threads; bits = k.bits; owners = k.owners; counts = n; sizes = k.sizes }

abbrev pub thread_at : Core → ℕ → Thread
thread_at k t = slice_index_or k.threads t idle_thread

abbrev pub owner_at : Core → ℕ → Option ℕ
owner_at k m = slice_index_or k.owners m none

abbrev pub count_at : Core → ℕ → ℕ
count_at k c = slice_index k.counts c

-- a at a place, if there is one
abbrev pub set_at : {A : Type 0} → List A → Option ℕ → A → List A
set_at l none a = l
set_at l (some g) a = slice_set l g a

abbrev pub bits_l : GateEffect → Option ℕ → List Bool → List Bool
bits_l keep_gate g l = l
bits_l take_gate g l = set_at l g true
bits_l free_gate g l = set_at l g false

abbrev pub owners_l : GateEffect → ℕ → Option ℕ → List (Option ℕ) → List (Option ℕ)
owners_l keep_gate t m l = l
owners_l take_gate t m l = set_at l m (some t)
owners_l free_gate t m l = set_at l m none

abbrev pub gated : GateEffect → ℕ → Option Call → Core → Core
gated e t c k = with_gates k (bits_l e (gate_line c) k.bits) (owners_l e t (mutex_of c) k.owners)

abbrev pub alert_at : Option ℕ → List Thread → List Thread
alert_at none l = l
alert_at (some x) l = slice_set l x (flagged (slice_index_or l x idle_thread))

abbrev pub alert_named : FlagEffect → Option ℕ → List Thread → List Thread
alert_named keep_flag x l = l
alert_named clear_own x l = l
alert_named set_named x l = alert_at x l

-- the spin bit, the gate and the named flag
abbrev pub applied : Step → ℕ → Option Call → Core → Core
applied s t c k =
    let g : Core = gated s.gate t c (with_spin k (spin_new s.spin k.spin)) in
    with_threads g (alert_named s.flag (alerted_of c) k.threads)

-- the records from place n on, with those of us woken
abbrev pub wake_from : LineEffect → List ℕ → ℕ → List Thread → List Thread
wake_from e us n [] = []
wake_from e us n (h ∷ hs) = cond (has n us) (woken_thread e h) h ∷ wake_from e us (suc n) hs

-- the lines after a thread joins or leaves one, and after one or all are taken from it
abbrev pub joined_in : (K : LineKind) → Option ℕ → K.State → ℕ → K.State
joined_in K none f t = f
joined_in K (some l) f t = add_in K f l t

abbrev pub left_in : (K : LineKind) → Option ℕ → K.State → ℕ → K.State
left_in K none f t = f
left_in K (some l) f t = remove_in K f l t

abbrev pub one_less : (K : LineKind) → Option ℕ → K.State → K.State
one_less K none f = f
one_less K (some l) f = take_in K f l

abbrev pub all_less : (K : LineKind) → Option ℕ → K.State → K.State
all_less K none f = f
all_less K (some l) f = drain_in K f l

abbrev pub worked_in : (K : LineKind) → LineEffect → Option ℕ → K.State → ℕ → K.State
worked_in K keep_line o f t = f
worked_in K join_gate o f t = joined_in K o f t
worked_in K leave_gate o f t = left_in K o f t
worked_in K join_cond o f t = joined_in K o f t
worked_in K leave_cond o f t = left_in K o f t
worked_in K wake_gate o f t = one_less K o f
worked_in K signal_one o f t = one_less K o f
worked_in K signal_all o f t = all_less K o f

-- whom a take of a line, if there is one, gives
abbrev pub one_of : (K : LineKind) → Option ℕ → K.State → Option ℕ
one_of K none f = none
one_of K (some l) f = who_in K f l

-- all who stand in a line, if there is one
abbrev pub all_of : (K : LineKind) → Option ℕ → K.State → List ℕ
all_of K none f = []
all_of K (some l) f = standing K f l

abbrev pub taken_in : (K : LineKind) → LineEffect → Option ℕ → K.State → List ℕ
taken_in K keep_line o f = []
taken_in K join_gate o f = []
taken_in K leave_gate o f = []
taken_in K join_cond o f = []
taken_in K leave_cond o f = []
taken_in K wake_gate o f = to_list (one_of K o f)
taken_in K signal_one o f = to_list (one_of K o f)
taken_in K signal_all o f = all_of K o f

-- thread n is between on c and kept the count old
abbrev pub kept_on : Core → ℕ → ℕ → ℕ → Bool
kept_on k c old n = between_on (state_of (thread_at k n)) c && (thread_at k n).kept == old

-- those of us are woken, and condition c counts up
abbrev pub signalled : LineEffect → ℕ → List ℕ → Core → Core
signalled e c us k = with_threads (with_counts k (slice_set k.counts c ((count_at k c + 1) % 2 ^ 32))) (wake_from e us 0 k.threads)

abbrev pub signalled_on : LineEffect → Option ℕ → List ℕ → Core → Core
signalled_on e none us k = k
signalled_on e (some c) us k = signalled e c us k

abbrev pub freed_in : LineEffect → Option ℕ → List ℕ → Core → Core
freed_in keep_line o us k = k
freed_in join_gate o us k = k
freed_in leave_gate o us k = k
freed_in join_cond o us k = k
freed_in leave_cond o us k = k
freed_in wake_gate o us k = with_threads k (wake_from wake_gate us 0 k.threads)
freed_in signal_one o us k = signalled_on signal_one o us k
freed_in signal_all o us k = signalled_on signal_all o us k

-- those of us, and those between on c that kept its count
abbrev pub freed_mask : ℕ → List ℕ → Core → ℕ
freed_mask c us k = mask_of (λ n. has n us || kept_on k c (count_at k c) n) 64

abbrev pub freed_mask_on : Option ℕ → List ℕ → Core → ℕ
freed_mask_on none us k = 0
freed_mask_on (some c) us k = freed_mask c us k

abbrev pub mask_in : LineEffect → Option ℕ → List ℕ → Core → ℕ
mask_in keep_line o us k = 0
mask_in join_gate o us k = 0
mask_in leave_gate o us k = 0
mask_in join_cond o us k = 0
mask_in leave_cond o us k = 0
mask_in wake_gate o us k = 0
mask_in signal_one o us k = freed_mask_on o us k
mask_in signal_all o us k = freed_mask_on o us k

-- the arrays, the lines and the freed mask
pub record Done (K : LineKind) : Type 0 where
  pub core : Core
  pub lines : K.State
  pub mask : ℕ

abbrev pub served : (K : LineKind) → LineEffect → ℕ → Option Call → Core → K.State → Done K
served K e t c k f =
    record {
      core = freed_in e (condition_of c) (taken_in K e (line_in e c) f) k;
      lines = worked_in K e (line_in e c) f t;
      mask = mask_in e (condition_of c) (taken_in K e (line_in e c) f) k;
    }

abbrev pub performed : (K : LineKind) → Step → ℕ → Option Call → Core → K.State → Done K
performed K s t c k f = served K s.line t c (applied s t c k) f
