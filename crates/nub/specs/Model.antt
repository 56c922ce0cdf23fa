-- The rules on functions: the state of a nub, submissions and turns by the turn table.
--   NubState   the whole state, with the members of each object's line
--   Pick       whom a take of each line answers: the line kind's own choice, given from outside
--   verdict    why an event is declined, or none where it is granted
--   after      the state after an event
--   answer     its answer
use Rattle.std.specs.Prelude.{ℕ, zero, suc, ◌+◌, ◌*◌, Bool, true, false, cond, not, ◌&&◌, ◌||◌, eqb, List, [], ◌∷◌, ◌++◌, Some as some, None as none, Option, ◌==◌, nat_le, nat_lt}
use Rattle.stages.specs.Names.{CallKind, call_no, is_idle, is_wait, is_alerted, counted, num}
use Rattle.stages.specs.Names.CallKind.{NoCall, Acquire, Release, Wait, Signal, Broadcast, SemP, SemV, Alert, TestAlert, AlertP, AlertWait}
use Rattle.stages.specs.Calls.{Request, Object, gate_of, cond_of, same_object, elem, without, is_empty, to_list, is_this}
use Rattle.stages.specs.Calls.Object.{mutex, condition}
use Rattle.stages.specs.Table.{Seen, Row, row, spin_new, first}
use Rattle.thread.specs.Turns.{ThreadState, idle, moved, woken_stage, between_on}
use Rattle.stages.specs.declared.step.LineEffect.{LineEffect}
use Rattle.stages.specs.declared.step.LineEffect.TheVariants.{Keep as keep_line, JoinGate as join_gate, LeaveGate as leave_gate, JoinCondition as join_cond, LeaveCondition as leave_cond, WakeGate as wake_gate, SignalOne as signal_one, SignalAll as signal_all}
use Rattle.stages.specs.declared.step.GateEffect.{GateEffect}
use Rattle.stages.specs.declared.step.GateEffect.TheVariants.{Keep as keep_gate, Take as take_gate, Free as free_gate}
use Rattle.stages.specs.declared.step.FlagEffect.{FlagEffect}
use Rattle.stages.specs.declared.step.FlagEffect.TheVariants.{Keep as keep_flag, ClearOwn as clear_own, SetNamed as set_named}
use Rattle.nub.specs.declared.Decline.{Decline}
use Rattle.nub.specs.declared.Decline.TheVariants.{NoThread, UnderWay, NoCode, NoObject, NotOwner, CountHigh, IdleThread}
use Rattle.nub.specs.declared.Event.{Event}
use Rattle.nub.specs.declared.Event.TheVariants.{Submission as submission, Turn as turn}
use Rattle.nub.specs.declared.Answer.{Answer}
use Rattle.nub.specs.declared.Answer.TheVariants.{Granted as granted, Declined as declined, Reported as reported}
use Rattle.nub.specs.declared.Report.{Report}

pub record NubState : Type 0 where
  pub size : ℕ
  pub mutexes : ℕ
  pub conditions : ℕ
  pub semaphores : ℕ
  pub thread : ℕ → ThreadState
  pub flags : ℕ → Bool
  pub line : Object → List ℕ
  pub bits : Object → Bool
  pub owners : ℕ → Option ℕ
  pub counts : ℕ → ℕ
  pub spin : Bool

-- n threads, m mutexes, c conditions, s semaphores; each condition has its start count
abbrev pub built : ℕ → ℕ → ℕ → ℕ → (ℕ → ℕ) → NubState
built n m c s start =
    record {
      size = n;
      mutexes = m;
      conditions = c;
      semaphores = s;
      thread = λ u. idle;
      flags = λ u. false;
      line = λ o. [];
      bits = λ o. false;
      owners = λ i. none;
      counts = start;
      spin = false;
    }

-- whom a take answers, line by line
abbrev pub Pick : Type 0
Pick = Object → Option ℕ

abbrev pub seen : NubState → ℕ → Seen
seen s t =
    record {
      spin = s.spin;
      bit = s.bits (gate_of (s.thread t).call);
      flag = s.flags t;
      empty = is_empty (s.line (gate_of (s.thread t).call));
      same = ((s.thread t).kept == s.counts (cond_of (s.thread t).call));
      quit = is_alerted (s.thread t).out;
    }

abbrev pub row_of : NubState → ℕ → Row
row_of s t = row (s.thread t).stage (s.thread t).call.kind (seen s t)

-- the line that a row works on
abbrev pub line_at : LineEffect → Request → Object
line_at keep_line c = gate_of c
line_at join_gate c = gate_of c
line_at leave_gate c = gate_of c
line_at join_cond c = condition (cond_of c)
line_at leave_cond c = condition (cond_of c)
line_at wake_gate c = gate_of c
line_at signal_one c = condition (cond_of c)
line_at signal_all c = condition (cond_of c)

abbrev pub taken : LineEffect → Option ℕ → List ℕ → List ℕ
taken keep_line p l = []
taken join_gate p l = []
taken leave_gate p l = []
taken join_cond p l = []
taken leave_cond p l = []
taken wake_gate p l = to_list p
taken signal_one p l = to_list p
taken signal_all p l = l

abbrev pub line_new : LineEffect → ℕ → List ℕ → List ℕ → List ℕ
line_new keep_line t k l = l
line_new join_gate t k l = l ++ (t ∷ [])
line_new leave_gate t k l = without (λ u. eqb t u) l
line_new join_cond t k l = l ++ (t ∷ [])
line_new leave_cond t k l = without (λ u. eqb t u) l
line_new wake_gate t k l = without (λ u. elem u k) l
line_new signal_one t k l = without (λ u. elem u k) l
line_new signal_all t k l = without (λ u. elem u k) l

abbrev pub woken : LineEffect → ThreadState → ThreadState
woken e h = record { stage = woken_stage e h.call.kind; call = h.call; kept = h.kept; out = h.out }

abbrev pub flags_new : FlagEffect → ℕ → ℕ → (ℕ → Bool) → ℕ → Bool
flags_new keep_flag t x f u = f u
flags_new clear_own t x f u = cond (t == u) false (f u)
flags_new set_named t x f u = cond (x == u) true (f u)

abbrev pub bits_new : GateEffect → Object → (Object → Bool) → Object → Bool
bits_new keep_gate g f o = f o
bits_new take_gate g f o = cond (same_object g o) true (f o)
bits_new free_gate g f o = cond (same_object g o) false (f o)

abbrev pub owners_new : GateEffect → ℕ → Object → (ℕ → Option ℕ) → ℕ → Option ℕ
owners_new keep_gate t g f m = f m
owners_new take_gate t g f m = cond (same_object g (mutex m)) (some t) (f m)
owners_new free_gate t g f m = cond (same_object g (mutex m)) none (f m)

abbrev pub signals : LineEffect → Bool
signals keep_line = false
signals join_gate = false
signals leave_gate = false
signals join_cond = false
signals leave_cond = false
signals wake_gate = false
signals signal_one = true
signals signal_all = true

abbrev pub counts_new : LineEffect → ℕ → (ℕ → ℕ) → ℕ → ℕ
counts_new e c f i = cond (signals e && c == i) (suc (f i)) (f i)

abbrev pub taken_of : NubState → ℕ → Row → Pick → List ℕ
taken_of s t r pick =
    taken r.line (pick (line_at r.line (s.thread t).call)) (s.line (line_at r.line (s.thread t).call))

-- the nub after the row r of thread t, which took k from the line it works on
abbrev pub does : NubState → ℕ → Row → List ℕ → NubState
does s t r k =
    record {
      size = s.size;
      mutexes = s.mutexes;
      conditions = s.conditions;
      semaphores = s.semaphores;
      thread = λ u. cond (t == u) (moved r (s.counts (cond_of (s.thread t).call)) (s.thread t)) (cond (elem u k) (woken r.line (s.thread u)) (s.thread u));
      flags = λ u. flags_new r.flag t (s.thread t).call.x s.flags u;
      line = λ o. cond (same_object (line_at r.line (s.thread t).call) o) (line_new r.line t k (s.line o)) (s.line o);
      bits = λ o. bits_new r.gate (gate_of (s.thread t).call) s.bits o;
      owners = λ m. owners_new r.gate t (gate_of (s.thread t).call) s.owners m;
      counts = λ i. counts_new r.line (cond_of (s.thread t).call) s.counts i;
      spin = spin_new r.spin s.spin;
    }

abbrev pub freed_by : NubState → ℕ → List ℕ → ℕ → Bool
freed_by s c k u = elem u k || (between_on (s.thread u) c && (s.thread u).kept == s.counts c)

-- bit u says whether f holds of u, for the numbers below n
abbrev pub mask_of : (ℕ → Bool) → ℕ → ℕ
mask_of f zero = 0
mask_of f (suc n) = num (f 0) + 2 * mask_of (λ u. f (suc u)) n

abbrev pub report_of : NubState → ℕ → Row → List ℕ → Report
report_of s t r k =
    record {
      status = r.status;
      value = num r.value;
      action = r.action;
      mask = cond (signals r.line) (mask_of (freed_by s (cond_of (s.thread t).call) k) s.size) 0;
    }

abbrev pub code_kind : ℕ → CallKind
code_kind n = cond (n == 1) Acquire (cond (n == 2) Release (cond (n == 3) Wait (cond (n == 4) Signal (cond (n == 5) Broadcast (cond (n == 6) SemP (cond (n == 7) SemV (cond (n == 8) Alert (cond (n == 9) TestAlert (cond (n == 10) AlertP (cond (n == 11) AlertWait (NoCall)))))))))))

-- the call with its objects; those that it has no use for are ignored
abbrev pub request_by : CallKind → ℕ → ℕ → Request
request_by NoCall x y = record { kind = NoCall; x = 0; y = 0 }
request_by Acquire x y = record { kind = Acquire; x = x; y = 0 }
request_by Release x y = record { kind = Release; x = x; y = 0 }
request_by Wait x y = record { kind = Wait; x = x; y = y }
request_by Signal x y = record { kind = Signal; x = x; y = 0 }
request_by Broadcast x y = record { kind = Broadcast; x = x; y = 0 }
request_by SemP x y = record { kind = SemP; x = x; y = 0 }
request_by SemV x y = record { kind = SemV; x = x; y = 0 }
request_by Alert x y = record { kind = Alert; x = x; y = 0 }
request_by TestAlert x y = record { kind = TestAlert; x = 0; y = 0 }
request_by AlertP x y = record { kind = AlertP; x = x; y = 0 }
request_by AlertWait x y = record { kind = AlertWait; x = x; y = y }

-- the objects that a call has exist, among t threads, m mutexes, c conditions and s semaphores
abbrev pub exists_among : ℕ → ℕ → ℕ → ℕ → CallKind → ℕ → ℕ → Bool
exists_among t m c s NoCall x y = false
exists_among t m c s Acquire x y = nat_lt x m
exists_among t m c s Release x y = nat_lt x m
exists_among t m c s Wait x y = nat_lt x m && nat_lt y c
exists_among t m c s Signal x y = nat_lt x c
exists_among t m c s Broadcast x y = nat_lt x c
exists_among t m c s SemP x y = nat_lt x s
exists_among t m c s SemV x y = nat_lt x s
exists_among t m c s Alert x y = nat_lt x t
exists_among t m c s TestAlert x y = true
exists_among t m c s AlertP x y = nat_lt x s
exists_among t m c s AlertWait x y = nat_lt x m && nat_lt y c

abbrev pub exists : NubState → CallKind → ℕ → ℕ → Bool
exists s k x y = exists_among s.size s.mutexes s.conditions s.semaphores k x y

-- Release and the waits
abbrev pub needs_owner : CallKind → Bool
needs_owner k = is_wait k || call_no k == 2

-- the count from which a signal is no longer granted
abbrev pub high_count : ℕ
high_count = 4294967232

-- the first check that fails, in the order of their numbers
abbrev pub checked : NubState → ℕ → CallKind → ℕ → ℕ → Option Decline
checked s t k x y =
    cond (not (nat_lt t s.size)) (some NoThread)
    (cond (not (is_idle (s.thread t).stage)) (some UnderWay)
    (cond (call_no k == 0) (some NoCode)
    (cond (not (exists s k x y)) (some NoObject)
    (cond (needs_owner k && not (is_this t (s.owners x))) (some NotOwner)
    (cond (counted k && nat_le high_count (s.counts x)) (some CountHigh) none)))))

abbrev pub verdict : NubState → Event → Option Decline
verdict s (submission t code x y) = checked s t (code_kind code) x y
verdict s (turn t) = cond (nat_lt t s.size) (cond (is_idle (s.thread t).stage) (some IdleThread) none) (some NoThread)

abbrev pub submitted : NubState → ℕ → Request → NubState
submitted s t c =
    record {
      size = s.size;
      mutexes = s.mutexes;
      conditions = s.conditions;
      semaphores = s.semaphores;
      thread = λ u. cond (t == u) (record { stage = first c.kind; call = c; kept = (s.thread t).kept; out = (s.thread t).out }) (s.thread u);
      flags = s.flags;
      line = s.line;
      bits = s.bits;
      owners = s.owners;
      counts = s.counts;
      spin = s.spin;
    }

abbrev pub granted_to : NubState → Event → Pick → NubState
granted_to s (submission t code x y) pick = submitted s t (request_by (code_kind code) x y)
granted_to s (turn t) pick = does s t (row_of s t) (taken_of s t (row_of s t) pick)

abbrev pub grant_of : NubState → Event → Pick → Answer
grant_of s (submission t code x y) pick = granted
grant_of s (turn t) pick = reported (report_of s t (row_of s t) (taken_of s t (row_of s t) pick))

abbrev pub by_verdict {ℓ} : {A : Type ℓ} → Option Decline → A → (Decline → A) → A
by_verdict none a f = a
by_verdict (some d) a f = f d

-- a decline alters nothing
abbrev pub after : NubState → Event → Pick → NubState
after s e pick = by_verdict (verdict s e) (granted_to s e pick) (λ d. s)

abbrev pub answer : NubState → Event → Pick → Answer
answer s e pick = by_verdict (verdict s e) (grant_of s e pick) (λ d. declined d)
