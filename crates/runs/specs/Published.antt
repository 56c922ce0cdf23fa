-- The published state and its actions, which know nothing of stages, bits and lines. It is fed only events and their answers.
--   Published   holders, sets, semaphores and alerts, and for each thread a note: its call, how many of its actions are done,
--               and what its caller is to be told
--   Allowed     when an action is allowed, and perform what it does
--   nexts       the next action of a call, and total how many it has
--   Right       what must hold of an event and its answer, and fed the published state after it
use Rattle.std.specs.Prelude.{◌≡◌, ℕ, zero, suc, ◌/◌, ◌%◌, Bool, true, false, cond, not, ◌&&◌, ◌⊎◌, List, [], ◌∷◌, Some as some, None as none, Option, ◌==◌, nat_eq}
use Rattle.stages.specs.Names.{action_no, status_no, num, CallKind}
use Rattle.stages.specs.Calls.{cond_of, elem, Request, no_call}
use Rattle.stages.specs.declared.action.Action.{Action}
use Rattle.stages.specs.declared.action.Status.{Status}
use Rattle.stages.specs.Names.CallKind.{NoCall, Acquire, Release, Wait, Signal, Broadcast, SemP, SemV, Alert, TestAlert, AlertP, AlertWait}
use Rattle.stages.specs.declared.action.Action.TheVariants.{Acquire as acquire, Release as release, Enqueue as enqueue, Resume as resume, ChooseOutcome as choose_outcome, GetMutex as get_mutex, Signal as signal, Broadcast as broadcast, P as sem_p, V as sem_v, Alert as alert, TestAlert as test_alert, AlertPReturns as return_p, AlertPRaises as raise_p}
use Rattle.nub.specs.Model.{code_kind, request_by}
use Rattle.nub.specs.declared.Report.{Report}
use Rattle.nub.specs.declared.Event.{Event}
use Rattle.nub.specs.declared.Answer.{Answer}
use Rattle.nub.specs.declared.Event.TheVariants.{Submission as submission, Turn as turn}
use Rattle.nub.specs.declared.Answer.TheVariants.{Granted as granted, Declined as declined, Reported as reported}

pub record Published : Type 0 where
  -- who holds a mutex
  pub holder : ℕ → Option ℕ
  -- who is in the set of a condition
  pub waits : ℕ → ℕ → Bool
  -- which semaphores are available
  pub avail : ℕ → Bool
  -- who is in alerts
  pub alerts : ℕ → Bool
  -- the note of a thread
  pub noted : ℕ → Request
  pub done : ℕ → ℕ
  pub said : ℕ → Bool

abbrev pub start : Published
start =
    record {
      holder = λ m. none;
      waits = λ c u. false;
      avail = λ s. true;
      alerts = λ u. false;
      noted = λ u. no_call;
      done = λ u. 0;
      said = λ u. false;
    }

-- bit u of a mask
abbrev pub bit : ℕ → ℕ → Bool
bit mask zero = mask % 2 == 1
bit mask (suc u) = bit (mask / 2) u

-- when an action is allowed: SELF is t, the objects are those of the call c, and fr says who is freed
abbrev pub Allowed : Option Action → Request → ℕ → (ℕ → Bool) → Published → Type 0
Allowed none c t fr p = Unit {0}
Allowed (some acquire) c t fr p = p.holder c.x ≡ none
Allowed (some release) c t fr p = p.holder c.x ≡ some t
Allowed (some enqueue) c t fr p = p.holder c.x ≡ some t
Allowed (some resume) c t fr p = (p.holder c.x ≡ none) × (p.waits (cond_of c) t ≡ false)
Allowed (some choose_outcome) c t fr p = (p.waits (cond_of c) t ≡ false) ⊎ (p.alerts t ≡ true)
Allowed (some get_mutex) c t fr p = p.holder c.x ≡ none
Allowed (some signal) c t fr p =
    ((u : ℕ) → fr u ≡ true → p.waits (cond_of c) u ≡ true) × ((u : ℕ) → p.waits (cond_of c) u ≡ true → (w : ℕ) × (fr w ≡ true))
Allowed (some broadcast) c t fr p = (u : ℕ) → fr u ≡ p.waits (cond_of c) u
Allowed (some sem_p) c t fr p = p.avail c.x ≡ true
Allowed (some sem_v) c t fr p = Unit {0}
Allowed (some alert) c t fr p = Unit {0}
Allowed (some test_alert) c t fr p = Unit {0}
Allowed (some return_p) c t fr p = p.avail c.x ≡ true
Allowed (some raise_p) c t fr p = p.alerts t ≡ true

-- one part of the published state is changed
abbrev pub set_holder : ℕ → Option ℕ → Published → Published
set_holder m o p =
    record { holder = λ i. cond (m == i) o (p.holder i); waits = p.waits; avail = p.avail; alerts = p.alerts; noted = p.noted; done = p.done; said = p.said }

-- those of whom w says true are put into the set of c, or leave it
abbrev pub set_waits : ℕ → (ℕ → Bool) → Bool → Published → Published
set_waits c w b p =
    record { holder = p.holder; waits = λ i u. cond (c == i && w u) b (p.waits i u); avail = p.avail; alerts = p.alerts; noted = p.noted; done = p.done; said = p.said }

abbrev pub set_avail : ℕ → Bool → Published → Published
set_avail s b p =
    record { holder = p.holder; waits = p.waits; avail = λ i. cond (s == i) b (p.avail i); alerts = p.alerts; noted = p.noted; done = p.done; said = p.said }

abbrev pub set_alert : ℕ → Bool → Published → Published
set_alert t b p =
    record { holder = p.holder; waits = p.waits; avail = p.avail; alerts = λ u. cond (t == u) b (p.alerts u); noted = p.noted; done = p.done; said = p.said }

-- what the caller is to be told
abbrev pub set_said : ℕ → Bool → Published → Published
set_said t b p =
    record { holder = p.holder; waits = p.waits; avail = p.avail; alerts = p.alerts; noted = p.noted; done = p.done; said = λ u. cond (t == u) b (p.said u) }

-- what an action does
abbrev pub perform : Option Action → Request → ℕ → (ℕ → Bool) → Published → Published
perform none c t fr p = p
perform (some acquire) c t fr p = set_holder c.x (some t) p
perform (some release) c t fr p = set_holder c.x none p
perform (some enqueue) c t fr p = set_holder c.x none (set_waits (cond_of c) (λ u. nat_eq t u) true p)
perform (some resume) c t fr p = set_holder c.x (some t) p
perform (some choose_outcome) c t fr p = set_said t (p.waits (cond_of c) t) (cond (p.waits (cond_of c) t) (set_alert t false (set_waits (cond_of c) (λ u. nat_eq t u) false p)) p)
perform (some get_mutex) c t fr p = set_holder c.x (some t) p
perform (some signal) c t fr p = set_waits (cond_of c) fr false p
perform (some broadcast) c t fr p = set_waits (cond_of c) (λ u. true) false p
perform (some sem_p) c t fr p = set_avail c.x false p
perform (some sem_v) c t fr p = set_avail c.x true p
perform (some alert) c t fr p = set_alert c.x true p
perform (some test_alert) c t fr p = set_said t (p.alerts t) (set_alert t false p)
perform (some return_p) c t fr p = set_said t false (set_avail c.x false p)
perform (some raise_p) c t fr p = set_said t true (set_alert t false p)

abbrev pub is_action : Option Action → Bool
is_action a = not (action_no a == 0)

-- the next action of a call of which n are done
abbrev pub nexts : CallKind → ℕ → List ℕ
nexts NoCall n = []
nexts Acquire zero = 1 ∷ []
nexts Acquire (suc n) = []
nexts Release zero = 2 ∷ []
nexts Release (suc n) = []
nexts Wait zero = 3 ∷ []
nexts Wait (suc zero) = 4 ∷ []
nexts Wait (suc (suc n)) = []
nexts Signal zero = 7 ∷ []
nexts Signal (suc n) = []
nexts Broadcast zero = 8 ∷ []
nexts Broadcast (suc n) = []
nexts SemP zero = 9 ∷ []
nexts SemP (suc n) = []
nexts SemV zero = 10 ∷ []
nexts SemV (suc n) = []
nexts Alert zero = 11 ∷ []
nexts Alert (suc n) = []
nexts TestAlert zero = 12 ∷ []
nexts TestAlert (suc n) = []
nexts AlertP zero = 13 ∷ 14 ∷ []
nexts AlertP (suc n) = []
nexts AlertWait zero = 3 ∷ []
nexts AlertWait (suc zero) = 5 ∷ []
nexts AlertWait (suc (suc zero)) = 6 ∷ []
nexts AlertWait (suc (suc (suc n))) = []

abbrev pub total : CallKind → ℕ
total NoCall = 0
total Acquire = 1
total Release = 1
total Wait = 2
total Signal = 1
total Broadcast = 1
total SemP = 1
total SemV = 1
total Alert = 1
total TestAlert = 1
total AlertP = 1
total AlertWait = 3

-- the calls whose caller is told something; the others answer 0
abbrev pub answers : CallKind → Bool → Bool
answers NoCall b = false
answers Acquire b = false
answers Release b = false
answers Wait b = false
answers Signal b = false
answers Broadcast b = false
answers SemP b = false
answers SemV b = false
answers Alert b = false
answers TestAlert b = b
answers AlertP b = b
answers AlertWait b = b

abbrev pub is_finished : Status → Bool
is_finished s = status_no s == 3

abbrev pub done_by : Option Action → ℕ → ℕ
done_by a n = cond (is_action a) (suc n) n

-- a turn of t that reports r: its action is the next of the noted call and is allowed, action 5 tells its outcome, and at a finish
-- all actions are done and the value is what the caller is to be told
pub record Turn (p : Published) (t : ℕ) (r : Report) : Type 0 where
  pub next : is_action r.action ≡ true → elem (action_no r.action) (nexts (p.noted t).kind (p.done t)) ≡ true
  pub allowed : Allowed r.action (p.noted t) t (bit r.mask) p
  pub chosen : r.action ≡ some choose_outcome → r.value ≡ num (p.waits (cond_of (p.noted t)) t)
  pub complete : is_finished r.status ≡ true → done_by r.action (p.done t) ≡ total (p.noted t).kind
  pub told : is_finished r.status ≡ true → r.value ≡ num (answers (p.noted t).kind ((perform r.action (p.noted t) t (bit r.mask) p).said t))

-- the action is done; at a finish the note is struck out
abbrev pub turned : Published → ℕ → Report → Published
turned p t r =
    let q : Published = perform r.action (p.noted t) t (bit r.mask) p in
    record {
      holder = q.holder;
      waits = q.waits;
      avail = q.avail;
      alerts = q.alerts;
      noted = λ u. cond (t == u && is_finished r.status) no_call (p.noted u);
      done = λ u. cond (t == u) (cond (is_finished r.status) 0 (done_by r.action (p.done u))) (p.done u);
      said = λ u. cond (t == u && is_finished r.status) false (q.said u);
    }

-- a call is noted; it is the thread's only one, since the finish of the one before it struck out its note: nothing is done or said yet
abbrev pub note : Published → ℕ → Request → Published
note p t c =
    record {
      holder = p.holder;
      waits = p.waits;
      avail = p.avail;
      alerts = p.alerts;
      noted = λ u. cond (t == u) c (p.noted u);
      done = p.done;
      said = p.said;
    }

-- an event with its answer: what must hold, and the published state after it; a submission is granted where no call is noted
abbrev pub Right : Published → Event → Answer → Type 0
Right p (submission t code x y) granted = (p.noted t).kind ≡ NoCall
Right p (submission t code x y) (declined n) = Unit {0}
Right p (submission t code x y) (reported r) = ⊥
Right p (turn t) granted = ⊥
Right p (turn t) (declined n) = Unit {0}
Right p (turn t) (reported r) = Turn p t r

abbrev pub fed : Published → Event → Answer → Published
fed p (submission t code x y) granted = note p t (request_by (code_kind code) x y)
fed p (submission t code x y) (declined n) = p
fed p (submission t code x y) (reported r) = p
fed p (turn t) granted = p
fed p (turn t) (declined n) = p
fed p (turn t) (reported r) = turned p t r
