-- What a turn asks of the lines and of a count is always granted: no operation on a line is refused, and no count wraps.
--   LineGranted    the line operation of an effect is granted
--   CountFits      the count that a signal raises has room
--   AskGranted     whether a line is empty may be asked
--   EventGranted   all of it, for the turn that an event is
use Rattle.std.specs.Prelude.{◌≡◌, ℕ, ◌+◌, ◌^◌, ◌<◌, true, List, [], ◌∷◌, Some as some, None as none, Ok, Option}
use Rattle.lines.specs.Kinds.{Kind as LineKind}
use Rattle.lines.specs.Lines.{add_answer, remove_answer, take_answer, empty_answer, none as none_in}
use Rattle.stages.specs.Table.{reads_line}
use Rattle.stages.specs.Calls.{condition_of}
use Rattle.thread.specs.Turns.{step_after}
use Rattle.stages.specs.declared.step.Step.{Step}
use Rattle.stages.specs.declared.step.LineEffect.{LineEffect}
use Rattle.stages.specs.declared.step.LineEffect.TheVariants.{Keep as keep_line, JoinGate as join_gate, LeaveGate as leave_gate, JoinCondition as join_cond, LeaveCondition as leave_cond, WakeGate as wake_gate, SignalOne as signal_one, SignalAll as signal_all}
use Rattle.nub.specs.declared.Core.{Core}
use Rattle.nub.specs.declared.Event.{Event}
use Rattle.nub.specs.declared.Event.TheVariants.{Submission as submission, Turn as turn}
use Rattle.nub.specs.Places.{line_in, gate_line}
use Rattle.nub.specs.Work.{thread_at, count_at}
use Rattle.nub.specs.Turn.{sight_of, moves}

-- there is such a line, and thread t may join it
abbrev pub JoinGranted : (K : LineKind) → Option ℕ → K.State → ℕ → Type 0
JoinGranted K none f t = ⊥
JoinGranted K (some l) f t = add_answer K.serves (K.line f) l t ≡ Ok tt

-- there is such a line, and thread t may leave it
abbrev pub LeaveGranted : (K : LineKind) → Option ℕ → K.State → ℕ → Type 0
LeaveGranted K none f t = ⊥
LeaveGranted K (some l) f t = remove_answer K.serves (K.line f) l t ≡ Ok tt

-- there is such a line, and it may be taken from
abbrev pub TakeGranted : (K : LineKind) → Option ℕ → K.State → Type 0
TakeGranted K none f = ⊥
TakeGranted K (some l) f = take_answer (K.next f) l ≡ Ok (K.next f l)

abbrev pub LineGranted : (K : LineKind) → LineEffect → Option ℕ → K.State → ℕ → Type 0
LineGranted K keep_line o f t = Unit {0}
LineGranted K join_gate o f t = JoinGranted K o f t
LineGranted K leave_gate o f t = LeaveGranted K o f t
LineGranted K join_cond o f t = JoinGranted K o f t
LineGranted K leave_cond o f t = LeaveGranted K o f t
LineGranted K wake_gate o f t = TakeGranted K o f
LineGranted K signal_one o f t = TakeGranted K o f
LineGranted K signal_all o f t = TakeGranted K o f

-- there is such a line, and it tells whether it is empty
abbrev pub AskGranted : (K : LineKind) → Option ℕ → K.State → Type 0
AskGranted K none f = ⊥
AskGranted K (some l) f = empty_answer (K.line f) l ≡ Ok (none_in (K.line f l))

-- there is such a condition, and its count can rise
abbrev pub Room : Option ℕ → Core → Type 0
Room none k = ⊥
Room (some c) k = count_at k c + 1 < 2 ^ 32

abbrev pub CountFits : LineEffect → Option ℕ → Core → Type 0
CountFits keep_line o k = Unit {0}
CountFits join_gate o k = Unit {0}
CountFits leave_gate o k = Unit {0}
CountFits join_cond o k = Unit {0}
CountFits leave_cond o k = Unit {0}
CountFits wake_gate o k = Unit {0}
CountFits signal_one o k = Room o k
CountFits signal_all o k = Room o k

-- the turn of thread t, if it is not declined
abbrev pub TurnGranted : (K : LineKind) → Core → K.State → ℕ → Type 0
TurnGranted K k f t =
    (s : Step) → t < k.sizes.threads → step_after (thread_at k t) (sight_of K k f t) ≡ some s
    → LineGranted K s.line (line_in s.line (thread_at k t).call) f t
    × CountFits s.line (condition_of (thread_at k t).call) k
    × (reads_line (thread_at k t).stage ≡ true → AskGranted K (gate_line (thread_at k t).call) f)

abbrev pub EventGranted : (K : LineKind) → Core → K.State → Event → Type 0
EventGranted K k f (submission t n a b) = Unit {0}
EventGranted K k f (turn t) = TurnGranted K k f t

-- all along a run
abbrev pub AllGranted : (K : LineKind) → Core → K.State → List Event → Type 0
AllGranted K k f [] = Unit {0}
AllGranted K k f (e ∷ es) = EventGranted K k f e × AllGranted K (moves K k f e).core (moves K k f e).lines es
