-- What the published conditions shut out. In each, SELF is t, the call is c, and fr says who is freed.
--   steps k           the actions of a call of kind k, in order, with the choices at each
--   tells k           the caller of a call of kind k is told what its actions gave
--   ConditionsBind   all of it
use Rattle.std.specs.Prelude.{◌≡◌, ℕ, suc, Bool, true, false, ◌&&◌, List, [], ◌∷◌, length, Some as some, None as none, ◌≢◌, slice_index_or}
use Rattle.stages.specs.Names.{CallKind, action_no, num}
use Rattle.stages.specs.Names.CallKind.{NoCall, Acquire, Release, Wait, Signal, Broadcast, SemP, SemV, Alert, TestAlert, AlertP, AlertWait}
use Rattle.stages.specs.Calls.{Request, cond_of, elem}
use Rattle.stages.specs.declared.action.Action.{Action}
use Rattle.stages.specs.declared.action.Status.TheVariants.{On, Parked, Spun, Finished}
use Rattle.stages.specs.declared.action.Action.TheVariants.{Acquire as acquire, Release as release, Enqueue as enqueue, Resume as resume, ChooseOutcome as choose_outcome, GetMutex as get_mutex, Signal as signal, Broadcast as broadcast, P as sem_p, V as sem_v, Alert as alert, TestAlert as test_alert, AlertPReturns as return_p, AlertPRaises as raise_p}
use Rattle.nub.specs.declared.Report.{Report}
use Rattle.nub.specs.declared.Event.TheVariants.{Submission as submission, Turn as turn}
use Rattle.nub.specs.declared.Answer.TheVariants.{Granted as granted, Reported as reported}
use Rattle.runs.specs.Published.{Published, Allowed, Right, nexts, total, done_by, answers, is_action, is_finished, perform, bit}

-- a mutex that someone holds is not taken
abbrev pub HeldRefuses : Action → Type 0
HeldRefuses a = (p : Published) (c : Request) (t u : ℕ) (fr : ℕ → Bool) → p.holder c.x ≡ some u → Allowed (some a) c t fr p → ⊥

-- a free mutex, or that of another, is not given away
abbrev pub FreeRefuses : Action → Type 0
FreeRefuses a = (p : Published) (c : Request) (t : ℕ) (fr : ℕ → Bool) → p.holder c.x ≡ none → Allowed (some a) c t fr p → ⊥

abbrev pub OtherRefuses : Action → Type 0
OtherRefuses a = (p : Published) (c : Request) (t u : ℕ) (fr : ℕ → Bool) → p.holder c.x ≡ some u → (u ≢ t) → Allowed (some a) c t fr p → ⊥

-- a semaphore that is not available is not passed
abbrev pub TakenRefuses : Action → Type 0
TakenRefuses a = (p : Published) (c : Request) (t : ℕ) (fr : ℕ → Bool) → p.avail c.x ≡ false → Allowed (some a) c t fr p → ⊥

-- nobody is freed who is not in the set
abbrev pub StrangerRefuses : Action → Type 0
StrangerRefuses a = (p : Published) (c : Request) (t u : ℕ) (fr : ℕ → Bool) → fr u ≡ true → p.waits (cond_of c) u ≡ false → Allowed (some a) c t fr p → ⊥

-- these are always allowed
abbrev pub Always : Action → Type 0
Always a = (p : Published) (c : Request) (t : ℕ) (fr : ℕ → Bool) → Allowed (some a) c t fr p

-- a turn of t that reports r is refused where this holds
abbrev pub Refused : (Published → ℕ → Report → Type 0) → Type 0
Refused X = (p : Published) (t : ℕ) (r : Report) → X p t r → Right p (turn t) (reported r) → ⊥

abbrev pub steps : CallKind → List (List ℕ)
steps NoCall = []
steps Acquire = (1 ∷ []) ∷ []
steps Release = (2 ∷ []) ∷ []
steps Wait = (3 ∷ []) ∷ (4 ∷ []) ∷ []
steps Signal = (7 ∷ []) ∷ []
steps Broadcast = (8 ∷ []) ∷ []
steps SemP = (9 ∷ []) ∷ []
steps SemV = (10 ∷ []) ∷ []
steps Alert = (11 ∷ []) ∷ []
steps TestAlert = (12 ∷ []) ∷ []
steps AlertP = (13 ∷ 14 ∷ []) ∷ []
steps AlertWait = (3 ∷ []) ∷ (5 ∷ []) ∷ (6 ∷ []) ∷ []

abbrev pub tells : CallKind → Bool
tells NoCall = false
tells Acquire = false
tells Release = false
tells Wait = false
tells Signal = false
tells Broadcast = false
tells SemP = false
tells SemV = false
tells Alert = false
tells TestAlert = true
tells AlertP = true
tells AlertWait = true

pub record ConditionsBind : Type 0 where
  pub acquire_held : HeldRefuses acquire
  pub release_free : FreeRefuses release
  pub release_other : OtherRefuses release
  pub enqueue_free : FreeRefuses enqueue
  pub enqueue_other : OtherRefuses enqueue
  pub resume_held : HeldRefuses resume
  -- nobody resumes who is in the set still
  pub resume_waiting : (p : Published) (c : Request) (t : ℕ) (fr : ℕ → Bool) → p.waits (cond_of c) t ≡ true → Allowed (some resume) c t fr p → ⊥
  -- nobody chooses who is in the set and is not alerted
  pub choose_early : (p : Published) (c : Request) (t : ℕ) (fr : ℕ → Bool) → p.waits (cond_of c) t ≡ true → p.alerts t ≡ false → Allowed (some choose_outcome) c t fr p → ⊥
  pub get_held : HeldRefuses get_mutex
  pub signal_stranger : StrangerRefuses signal
  -- a Signal does not free nobody where someone is in the set
  pub signal_nobody : (p : Published) (c : Request) (t u : ℕ) (fr : ℕ → Bool) → p.waits (cond_of c) u ≡ true → ((w : ℕ) → fr w ≡ false) → Allowed (some signal) c t fr p → ⊥
  pub broadcast_stranger : StrangerRefuses broadcast
  -- a Broadcast leaves nobody in the set
  pub broadcast_leaves : (p : Published) (c : Request) (t u : ℕ) (fr : ℕ → Bool) → p.waits (cond_of c) u ≡ true → fr u ≡ false → Allowed (some broadcast) c t fr p → ⊥
  pub p_taken : TakenRefuses sem_p
  pub v_always : Always sem_v
  pub alert_always : Always alert
  pub test_always : Always test_alert
  pub returns_taken : TakenRefuses return_p
  -- AlertP does not quit where there is no alert
  pub raises_calm : (p : Published) (c : Request) (t : ℕ) (fr : ℕ → Bool) → p.alerts t ≡ false → Allowed (some raise_p) c t fr p → ⊥
  -- an action that is not the next of the noted call
  pub wrong_next : Refused (λ p t r. (is_action r.action ≡ true) × (elem (action_no r.action) (nexts (p.noted t).kind (p.done t)) ≡ false))
  -- an action that is not allowed
  pub wrong_action : Refused (λ p t r. Allowed r.action (p.noted t) t (bit r.mask) p → ⊥)
  -- action 5 with another outcome
  pub wrong_outcome : Refused (λ p t r. (r.action ≡ some choose_outcome) × (r.value ≢ num (p.waits (cond_of (p.noted t)) t)))
  -- a finish before all actions are done
  pub early_finish : Refused (λ p t r. (is_finished r.status ≡ true) × (done_by r.action (p.done t) ≢ total (p.noted t).kind))
  -- a finish with another answer
  pub wrong_answer : Refused (λ p t r. (is_finished r.status ≡ true) × (r.value ≢ num (answers (p.noted t).kind ((perform r.action (p.noted t) t (bit r.mask) p).said t))))
  -- a turn that is answered as a submission is, and a submission as a turn is
  pub turn_granted : (p : Published) (t : ℕ) → Right p (turn t) granted → ⊥
  pub submission_reported : (p : Published) (t code x y : ℕ) (r : Report) → Right p (submission t code x y) (reported r) → ⊥
  -- a submission that is granted while the thread's call is noted
  pub submission_noted : (p : Published) (t code x y : ℕ) → ((p.noted t).kind ≢ NoCall) → Right p (submission t code x y) granted → ⊥
  -- what comes next, how many there are and what the caller is told is as the steps of the call say
  pub next_is : (k : CallKind) (n : ℕ) → nexts k n ≡ slice_index_or (steps k) n []
  pub total_is : (k : CallKind) → total k ≡ length (steps k)
  pub answer_is : (k : CallKind) (b : Bool) → answers k b ≡ (tells k && b)
  -- every action counts as one, and no other report does
  pub action_is : (a : Action) → is_action (some a) ≡ true
  pub no_action : is_action none ≡ false
  pub one_done : (a : Action) (n : ℕ) → done_by (some a) n ≡ suc n
  pub none_done : (n : ℕ) → done_by none n ≡ n
  -- a call finishes at status 3 and at no other
  pub finished_is : is_finished Finished ≡ true
  pub goes_on : (is_finished On ≡ false) × ((is_finished Parked ≡ false) × (is_finished Spun ≡ false))
