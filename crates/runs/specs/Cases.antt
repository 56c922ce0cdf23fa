-- The worked cases: runs on a new nub whose lines take the earliest arrival.
--   answers_of   the answers that the tables give along a list of events
--   CasesHold  all the cases
use Rattle.std.specs.Prelude.{◌≡◌, ℕ, List, [], ◌∷◌, Some as some, None as none, Option}
use Rattle.stages.specs.declared.action.Action.{Action}
use Rattle.stages.specs.declared.action.Status.{Status}
use Rattle.stages.specs.declared.action.Action.TheVariants.{Acquire as acquire, Enqueue as enqueue, ChooseOutcome as choose_outcome, GetMutex as get_mutex, Signal as signal, V as sem_v, Alert as alert, TestAlert as test_alert, AlertPReturns as return_p}
use Rattle.stages.specs.declared.action.Status.TheVariants.{On as on, Finished as finished}
use Rattle.lines.specs.Choosing.{first_come}
use Rattle.nub.specs.declared.Core.{Core}
use Rattle.nub.specs.Build.{built_core}
use Rattle.runs.specs.Replay.{ran}
use Rattle.nub.specs.declared.Event.{Event}
use Rattle.nub.specs.declared.Decline.TheVariants.{CountHigh}
use Rattle.nub.specs.declared.Answer.{Answer}
use Rattle.nub.specs.declared.Event.TheVariants.{Submission as submission, Turn as turn}
use Rattle.nub.specs.declared.Answer.TheVariants.{Granted as granted, Declined as declined, Reported as reported}

abbrev pub answers_of : Core → List Event → List Answer
answers_of k es = (ran first_come k (tt, []) es).answers

abbrev pub rep : Status → ℕ → Option Action → ℕ → Answer
rep s v a m = reported (record { status = s; value = v; action = a; mask = m })

-- two threads, one of each object
abbrev pub small : ℕ → Core
small begin = built_core (record { threads = 2; mutexes = 1; conditions = 1; semaphores = 1 }) begin

-- Acquire of a free mutex takes one turn
abbrev pub AcquireFree : Type 0
AcquireFree = answers_of (small 0) (submission 0 1 0 0 ∷ turn 0 ∷ []) ≡ (granted ∷ rep finished 0 (some acquire) 0 ∷ [])

-- V on an available semaphore takes two
abbrev pub VAvailable : Type 0
VAvailable = answers_of (small 0) (submission 0 7 0 0 ∷ turn 0 ∷ turn 0 ∷ []) ≡ (granted ∷ rep on 0 (some sem_v) 0 ∷ rep finished 0 none 0 ∷ [])

-- a Signal between Read and Compare frees the waiter
abbrev pub SignalBetween : Type 0
SignalBetween =
    answers_of (small 0) (submission 0 1 0 0 ∷ turn 0 ∷ submission 0 3 0 0 ∷ turn 0 ∷ submission 1 4 0 0 ∷ turn 1 ∷ turn 1 ∷ [])
    ≡ (granted ∷ rep finished 0 (some acquire) 0 ∷ granted ∷ rep on 0 (some enqueue) 0 ∷ granted ∷ rep on 0 none 0 ∷ rep on 0 (some signal) 1 ∷ [])

-- AlertWait parks: Acquire, then the six turns Read, Clear, Look, BlockSpin, Compare, BlockPark
abbrev pub parks : List Event → List Event
parks es = submission 0 1 0 0 ∷ turn 0 ∷ submission 0 11 0 0 ∷ turn 0 ∷ turn 0 ∷ turn 0 ∷ turn 0 ∷ turn 0 ∷ turn 0 ∷ es

abbrev pub parking : List Answer → List Answer
parking as' =
    granted ∷ rep finished 0 (some acquire) 0 ∷ granted ∷ rep on 0 (some enqueue) 0 ∷ rep on 0 none 0 ∷ rep on 0 none 0 ∷ rep on 0 none 0 ∷ rep on 0 none 0 ∷ rep on 0 none 0 ∷ as'

-- Alert, then Signal before the waiter's turn: signalled, and its flag is still 1
abbrev pub AlertThenSignal : Type 0
AlertThenSignal =
    answers_of (small 0)
    (parks (submission 1 8 0 0 ∷ turn 1 ∷ submission 1 4 0 0 ∷ turn 1 ∷ turn 1 ∷ turn 1 ∷ turn 0 ∷ turn 0 ∷ submission 0 9 0 0 ∷ turn 0 ∷ []))
    ≡ parking (granted ∷ rep finished 0 (some alert) 0 ∷ granted ∷ rep on 0 none 0 ∷ rep on 0 (some signal) 1 ∷ rep finished 0 none 0 ∷ rep on 0 (some choose_outcome) 0 ∷ rep finished 0 (some get_mutex) 0 ∷ granted ∷ rep finished 1 (some test_alert) 0 ∷ [])

-- Quit first, then Signal: it frees no one
abbrev pub QuitThenSignal : Type 0
QuitThenSignal =
    answers_of (small 0)
    (parks (submission 1 8 0 0 ∷ turn 1 ∷ turn 0 ∷ turn 0 ∷ turn 0 ∷ turn 0 ∷ submission 1 4 0 0 ∷ turn 1 ∷ turn 1 ∷ turn 1 ∷ turn 0 ∷ []))
    ≡ parking (granted ∷ rep finished 0 (some alert) 0 ∷ rep on 0 none 0 ∷ rep on 0 none 0 ∷ rep on 1 (some choose_outcome) 0 ∷ rep on 0 none 0 ∷ granted ∷ rep on 0 none 0 ∷ rep on 0 (some signal) 0 ∷ rep finished 0 none 0 ∷ rep finished 1 (some get_mutex) 0 ∷ [])

-- AlertP on an available semaphore, its flag 1, returns 0
abbrev pub AlertPAvailable : Type 0
AlertPAvailable =
    answers_of (small 0) (submission 1 8 0 0 ∷ turn 1 ∷ submission 0 10 0 0 ∷ turn 0 ∷ [])
    ≡ (granted ∷ rep finished 0 (some alert) 0 ∷ granted ∷ rep finished 0 (some return_p) 0 ∷ [])

-- the limit of Signal
abbrev pub SignalLimit : Type 0
SignalLimit =
    (answers_of (small 4294967231) (submission 0 4 0 0 ∷ []) ≡ (granted ∷ [])) × (answers_of (small 4294967232) (submission 0 4 0 0 ∷ []) ≡ (declined CountHigh ∷ []))

pub record CasesHold : Type 0 where
  pub acquire_free : AcquireFree
  pub v_available : VAvailable
  pub signal_between : SignalBetween
  pub alert_then_signal : AlertThenSignal
  pub quit_then_signal : QuitThenSignal
  pub alertp_available : AlertPAvailable
  pub signal_limit : SignalLimit
