-- Each turn is right, and every run conforms.
use Rattle.std.proofs.Common.{◌≡◌, ℕ, Bool, true, false, cond, not, ◌&&◌, ◌||◌, eqb, ltb, ◌⊎◌, List, [], ◌∷◌, Some as some, None as none, Option, sym, refl, ap, ◌∙◌, subst, inl, inr, arith}
use Rattle.std.proofs.lemmas.Bool.{and_from, eqb-true, not-true}
use mathlib.Core.Bool.{beq}
use Rattle.stages.specs.Names.CallKind.{NoCall, Acquire, Release, Wait, Signal, Broadcast, SemP, SemV, Alert, TestAlert, AlertP, AlertWait}
use Rattle.stages.specs.Calls.{Object, gate_of, cond_of, same_object, elem, is_some, Request}
use Rattle.stages.specs.Names.{stage_no, is_idle, is_wait, is_sem, is_alerted, num, CallKind, action_no, NoCall}
use Rattle.stages.specs.declared.stage.Stage.{Stage}
use Rattle.stages.specs.declared.action.Action.{Action}
use Rattle.stages.specs.Calls.Object.{mutex, semaphore, condition}
use Rattle.stages.specs.Marks.{marks, is_take}
use Rattle.stages.specs.Table.{is_between, first}
use Rattle.stages.specs.declared.step.LineEffect.{LineEffect}
use Rattle.stages.specs.declared.step.GateEffect.{GateEffect}
use Rattle.stages.specs.declared.step.LineEffect.TheVariants.{Keep as keep_line, JoinGate as join_gate, LeaveGate as leave_gate, JoinCondition as join_cond, LeaveCondition as leave_cond, WakeGate as wake_gate, SignalOne as signal_one, SignalAll as signal_all}
use Rattle.stages.specs.declared.step.GateEffect.TheVariants.{Keep as keep_gate, Take as take_gate}
use Rattle.stages.specs.declared.marks.Stands.TheVariants.{AtCondition as at_cond}
use Rattle.stages.specs.declared.stage.Stage.TheVariants.{Idle}
use Rattle.stages.specs.declared.action.Action.TheVariants.{Acquire as acquire, Release as release, Enqueue as enqueue, Resume as resume, ChooseOutcome as choose_outcome, GetMutex as get_mutex, Signal as signal, Broadcast as broadcast, P as sem_p, V as sem_v, Alert as alert, TestAlert as test_alert, AlertPReturns as return_p, AlertPRaises as raise_p}
use Rattle.nub.specs.Model.{NubState, Pick, built, seen, row_of, line_at, taken, taken_of, does, signals, report_of, code_kind, request_by, verdict, submitted, granted_to, grant_of, by_verdict, after, answer}
use Rattle.thread.specs.Turns.{ThreadState, between_on}
use Rattle.nub.specs.declared.Event.{Event}
use Rattle.nub.specs.declared.Answer.{Answer}
use Rattle.nub.specs.declared.Event.TheVariants.{Submission as submission, Turn as turn}
use Rattle.nub.specs.declared.Answer.TheVariants.{Granted as granted, Declined as declined}
use Rattle.runs.specs.Published.{Published, Allowed, Turn, turned, note, Right, fed, is_action, nexts, total, answers, is_finished, done_by, bit}
use Rattle.runs.specs.Runs.{Picks, Step, Conforms, RunsConform}
use Rattle.runs.specs.Reading.{on_way, Free, Holds, is_parked, wait_clear, held_by, read_holder, read_waits, read_avail}
use Rattle.stages.proofs.Finite.{imp_at, no, and_l, and_r}
use Rattle.stages.specs.Pairs.{fits}
use Rattle.runs.proofs.Small.{is_stand, or_else, clash}
use Rattle.runs.proofs.Agree.{idle_is, is_quit, take_ok, first_between}
use Rattle.runs.proofs.Inv.{Inv, Taken, is_taken, does_inv, taken_one}
use Rattle.runs.proofs.Submit.{not_some, Granted, granted_for, submitted_inv, built_inv, by_one}
use Rattle.runs.proofs.Acts.{done_at, in_set, said_v, HolderE, SetE, holder_e, avail_e, set_e, gate_eq, holder_ok, is_hKeep, is_hDrop, at_clear, wake_ok, next_ok, complete_ok, told_ok, choose_ok, choose_flag, resume_ok, raise_ok, avail_ok, holder_sem, holder_ok_lem, wake_ok_lem}
use Rattle.runs.proofs.Acts.HolderE.{h_take, h_drop}
use Rattle.runs.proofs.Acts.SetE.{s_signal, s_broadcast}
use Rattle.runs.proofs.Read.{read_all, beq_eq, waits_self, gate_is, noted_eq, done_eq, said_eq, said_is, alerts_eq, avail_eq, holder_eq, own_fact, held_own}
use Rattle.runs.proofs.Sets.{is_signal_all, waits_eq, freed_in_lem, freed_some, freed_all}
use Rattle.nub.specs.declared.Decline.{Decline}
use Rattle.nub.specs.declared.Decline.TheVariants.{NoThread, IdleThread}

pub_path : (p q : Published) → ((m : ℕ) → p.holder m ≡ q.holder m) → ((c u : ℕ) → p.waits c u ≡ q.waits c u) → ((i : ℕ) → p.avail i ≡ q.avail i)
    → ((u : ℕ) → p.alerts u ≡ q.alerts u) → ((u : ℕ) → p.noted u ≡ q.noted u) → ((u : ℕ) → p.done u ≡ q.done u) → ((u : ℕ) → p.said u ≡ q.said u) → p ≡ q
pub_path p q hs ws vs als ns ds ss =
    λ i. record { holder = λ m. hs m i; waits = λ c u. ws c u i; avail = λ n. vs n i; alerts = λ u. als u i; noted = λ u. ns u i; done = λ u. ds u i; said = λ u. ss u i }

take_gate_lem : (e : GateEffect) (b a : Bool) → holder_ok h_take e b a ≡ true → is_take e ≡ true
take_gate_lem e b a h = grind arith

drop_clear : (e : GateEffect) (b a : Bool) → holder_ok h_drop e b a ≡ true → b ≡ false
drop_clear e b a h = grind arith

none_of : (o : Option ℕ) → is_some o ≡ false → o ≡ none
none_of none h = refl
none_of (some u) h = no (sym h)

avail_take : (b : Bool) (e : GateEffect) → gate_eq take_gate (cond b e keep_gate) ≡ true → (b ≡ true) × (is_take e ≡ true)
avail_take true e h = (refl, h)
avail_take false e h = no h

sig_wakes : (e : LineEffect) → wake_ok s_signal e ≡ true → signals e ≡ true
sig_wakes e h = grind arith

bro_wakes : (e : LineEffect) → wake_ok s_broadcast e ≡ true → signals e ≡ true
bro_wakes e h = grind arith

bro_all : (e : LineEffect) → wake_ok s_broadcast e ≡ true → is_signal_all e ≡ true
bro_all e h = grind arith

all_taken : (s : NubState) (pick : Pick) (c : Request) (e : LineEffect) → is_signal_all e ≡ true → (u : ℕ) → elem u (taken e (pick (line_at e c)) (s.line (line_at e c))) ≡ elem u (s.line (condition (cond_of c)))
all_taken s pick c keep_line h u = no h
all_taken s pick c join_gate h u = no h
all_taken s pick c leave_gate h u = no h
all_taken s pick c join_cond h u = no h
all_taken s pick c leave_cond h u = no h
all_taken s pick c wake_gate h u = no h
all_taken s pick c signal_one h u = no h
all_taken s pick c signal_all h u = refl

one_taken : (s : NubState) (pick : Pick) (c : Request) → Picks s pick → (e : LineEffect) → signals e ≡ true → (u : ℕ) → elem u (s.line (condition (cond_of c))) ≡ true
    → (w : ℕ) × (elem w (taken e (pick (line_at e c)) (s.line (line_at e c))) ≡ true)
one_taken s pick c pk keep_line h u i = no h
one_taken s pick c pk join_gate h u i = no h
one_taken s pick c pk leave_gate h u i = no h
one_taken s pick c pk join_cond h u i = no h
one_taken s pick c pk leave_cond h u i = no h
one_taken s pick c pk wake_gate h u i = no h
one_taken s pick c pk signal_one h u i = taken_one signal_one (pick (condition (cond_of c))) (s.line (condition (cond_of c))) (pk (condition (cond_of c))) refl u i
one_taken s pick c pk signal_all h u i = taken_one signal_all (pick (condition (cond_of c))) (s.line (condition (cond_of c))) (pk (condition (cond_of c))) refl u i

module _ (s : NubState) (t : ℕ) (pick : Pick) (inv : Inv s) (pk : Picks s pick) (busy : is_idle (s.thread t).stage ≡ false) where
  tk : Taken s t (row_of s t).line (taken_of s t (row_of s t) pick)
  tk = is_taken s t pick inv pk

  inv' : Inv (does s t (row_of s t) (taken_of s t (row_of s t) pick))
  inv' = does_inv s t pick inv pk busy

  allk : is_signal_all (row_of s t).line ≡ true → (u : ℕ) → elem u (taken_of s t (row_of s t) pick) ≡ elem u (s.line (condition (cond_of (s.thread t).call)))
  allk h u = all_taken s pick (s.thread t).call (row_of s t).line h u

  on_mutex : is_hKeep (holder_e (row_of s t).action) ≡ false → is_sem (s.thread t).call.kind ≡ false
  on_mutex h = go (is_sem (s.thread t).call.kind) refl
    where
      go : (b : Bool) → is_sem (s.thread t).call.kind ≡ b → b ≡ false
      go true p = clash (imp_at (is_sem (s.thread t).call.kind) (is_hKeep (holder_e (row_of s t).action)) (holder_sem (s.thread t).stage (s.thread t).call.kind (seen s t) (inv.fit t)) p) h
      go false p = refl

  holds_ok : is_hKeep (holder_e (row_of s t).action) ≡ false
      → holder_ok (holder_e (row_of s t).action) (row_of s t).gate (at_clear (s.thread t).stage (s.thread t).call.kind) (at_clear (row_of s t).next (s.thread t).call.kind) ≡ true
  holds_ok h =
      or_else (is_sem (s.thread t).call.kind) (holder_ok (holder_e (row_of s t).action) (row_of s t).gate (at_clear (s.thread t).stage (s.thread t).call.kind) (at_clear (row_of s t).next (s.thread t).call.kind))
      (holder_ok_lem (s.thread t).stage (s.thread t).call.kind (seen s t) (inv.fit t)) (on_mutex h)

  taking : is_take (row_of s t).gate ≡ true → s.bits (gate_of (s.thread t).call) ≡ false
  taking h = not-true (s.bits (gate_of (s.thread t).call)) (imp_at (is_take (row_of s t).gate) (not (s.bits (gate_of (s.thread t).call))) (take_ok (s.thread t).stage (s.thread t).call.kind (seen s t) (inv.fit t)) h)

  take_allowed : holder_e (row_of s t).action ≡ h_take → read_holder s (s.thread t).call.x ≡ none
  take_allowed e =
      ap (held_by s.thread (s.thread t).call.x)
      (none_of (s.owners (s.thread t).call.x)
      (sym (inv.owned (s.thread t).call.x)
      ∙ subst (λ (z : Object). s.bits z ≡ false) (gate_is (s.thread t).call false (on_mutex (ap is_hKeep e)))
      (taking (take_gate_lem (row_of s t).gate (at_clear (s.thread t).stage (s.thread t).call.kind) (at_clear (row_of s t).next (s.thread t).call.kind)
      (subst (λ (z : HolderE). holder_ok z (row_of s t).gate (at_clear (s.thread t).stage (s.thread t).call.kind) (at_clear (row_of s t).next (s.thread t).call.kind) ≡ true) e (holds_ok (ap is_hKeep e)))))))

  drop_allowed : holder_e (row_of s t).action ≡ h_drop → read_holder s (s.thread t).call.x ≡ some t
  drop_allowed e =
      held_own s t (taken_of s t (row_of s t) pick) inv busy tk (own_fact s t (taken_of s t (row_of s t) pick) inv busy tk (ap (λ (z : HolderE). is_hDrop z || at_clear (s.thread t).stage (s.thread t).call.kind) e))
      ∙ ap (λ (z : Bool). cond {A = Option ℕ} z none (some t))
      (drop_clear (row_of s t).gate (at_clear (s.thread t).stage (s.thread t).call.kind) (at_clear (row_of s t).next (s.thread t).call.kind)
      (subst (λ (z : HolderE). holder_ok z (row_of s t).gate (at_clear (s.thread t).stage (s.thread t).call.kind) (at_clear (row_of s t).next (s.thread t).call.kind) ≡ true) e (holds_ok (ap is_hKeep e))))

  avail_allowed : avail_e (row_of s t).action ≡ take_gate → read_avail s (s.thread t).call.x ≡ true
  avail_allowed e =
      let a : (is_sem (s.thread t).call.kind ≡ true) × (is_take (row_of s t).gate ≡ true) =
      avail_take (is_sem (s.thread t).call.kind) (row_of s t).gate
      (subst (λ (z : GateEffect). gate_eq z (cond (is_sem (s.thread t).call.kind) (row_of s t).gate keep_gate) ≡ true) e (avail_ok (s.thread t).stage (s.thread t).call.kind (seen s t) (inv.fit t))) in
      ap not (subst (λ (z : Object). s.bits z ≡ false) (gate_is (s.thread t).call true a.0) (taking a.1))

  resumes : eqb (action_no (row_of s t).action) 4 ≡ true → read_waits s (cond_of (s.thread t).call) t ≡ false
  resumes e =
      waits_self s inv t
      ∙ not-true (in_set (s.thread t).stage (s.thread t).call.kind (seen s t).same)
      (imp_at (eqb (action_no (row_of s t).action) 4) (not (in_set (s.thread t).stage (s.thread t).call.kind (seen s t).same)) (resume_ok (s.thread t).stage (s.thread t).call.kind (seen s t) (inv.fit t)) e)

  choosing : eqb (action_no (row_of s t).action) 5 ≡ true → (read_waits s (cond_of (s.thread t).call) t ≡ false) ⊎ (s.flags t ≡ true)
  choosing e = go (in_set (s.thread t).stage (s.thread t).call.kind (seen s t).same) refl
    where
      go : (b : Bool) → in_set (s.thread t).stage (s.thread t).call.kind (seen s t).same ≡ b → (read_waits s (cond_of (s.thread t).call) t ≡ false) ⊎ (s.flags t ≡ true)
      go true p =
          inr (inv.quits t (imp_at (eqb (action_no (row_of s t).action) 5 && in_set (s.thread t).stage (s.thread t).call.kind (seen s t).same) (is_quit (s.thread t).stage)
          (choose_flag (s.thread t).stage (s.thread t).call.kind (seen s t) (inv.fit t)) (and_from (eqb (action_no (row_of s t).action) 5) (in_set (s.thread t).stage (s.thread t).call.kind (seen s t).same) e p)))
      go false p = inl (waits_self s inv t ∙ p)

  raising : eqb (action_no (row_of s t).action) 14 ≡ true → s.flags t ≡ true
  raising e = imp_at (eqb (action_no (row_of s t).action) 14) (s.flags t) (raise_ok (s.thread t).stage (s.thread t).call.kind (seen s t) (inv.fit t)) e

  wakes_as : (e : SetE) → set_e (row_of s t).action ≡ e → wake_ok e (row_of s t).line ≡ true
  wakes_as e p = subst (λ (z : SetE). wake_ok z (row_of s t).line ≡ true) p (wake_ok_lem (s.thread t).stage (s.thread t).call.kind (seen s t) (inv.fit t))

  allowed_by : (a : (Option Action)) → (row_of s t).action ≡ a → Allowed a (s.thread t).call t (bit (report_of s t (row_of s t) (taken_of s t (row_of s t) pick)).mask) (read_all s)
  allowed_by none e = tt
  allowed_by (some acquire) e = take_allowed (ap holder_e e)
  allowed_by (some release) e = drop_allowed (ap holder_e e)
  allowed_by (some enqueue) e = drop_allowed (ap holder_e e)
  allowed_by (some resume) e = (take_allowed (ap holder_e e), resumes (ap (λ (z : (Option Action)). eqb (action_no z) 4) e))
  allowed_by (some choose_outcome) e = choosing (ap (λ (z : (Option Action)). eqb (action_no z) 5) e)
  allowed_by (some get_mutex) e = take_allowed (ap holder_e e)
  allowed_by (some signal) e =
      let w : signals (row_of s t).line ≡ true = sig_wakes (row_of s t).line (wakes_as s_signal (ap set_e e)) in (
        freed_in_lem s t (taken_of s t (row_of s t) pick) inv inv' busy tk allk w,
        freed_some s t (taken_of s t (row_of s t) pick) inv inv' busy tk allk w (one_taken s pick (s.thread t).call pk (row_of s t).line w),
      )
  allowed_by (some broadcast) e =
      freed_all s t (taken_of s t (row_of s t) pick) inv inv' busy tk allk (bro_wakes (row_of s t).line (wakes_as s_broadcast (ap set_e e))) (bro_all (row_of s t).line (wakes_as s_broadcast (ap set_e e)))
  allowed_by (some sem_p) e = avail_allowed (ap avail_e e)
  allowed_by (some sem_v) e = tt
  allowed_by (some alert) e = tt
  allowed_by (some test_alert) e = tt
  allowed_by (some return_p) e = avail_allowed (ap avail_e e)
  allowed_by (some raise_p) e = raising (ap (λ (z : (Option Action)). eqb (action_no z) 14) e)

  pub turn_right : Turn (read_all s) t (report_of s t (row_of s t) (taken_of s t (row_of s t) pick))
  turn_right =
      record {
        next = λ h. imp_at (is_action (row_of s t).action) (elem (action_no (row_of s t).action) (nexts (s.thread t).call.kind (done_at (s.thread t).stage (s.thread t).call.kind))) (next_ok (s.thread t).stage (s.thread t).call.kind (seen s t) (inv.fit t)) h;
        allowed = allowed_by (row_of s t).action refl;
        chosen = λ e. ap num
            (beq_eq (row_of s t).value (in_set (s.thread t).stage (s.thread t).call.kind (seen s t).same)
            (imp_at (eqb (action_no (row_of s t).action) 5) (beq (row_of s t).value (in_set (s.thread t).stage (s.thread t).call.kind (seen s t).same)) (choose_ok (s.thread t).stage (s.thread t).call.kind (seen s t) (inv.fit t)) (ap (λ (z : (Option Action)). eqb (action_no z) 5) e))
            ∙ sym (waits_self s inv t));
        complete = λ h. eqb-true (done_by (row_of s t).action (done_at (s.thread t).stage (s.thread t).call.kind)) (total (s.thread t).call.kind)
            (imp_at (is_finished (row_of s t).status) (eqb (done_by (row_of s t).action (done_at (s.thread t).stage (s.thread t).call.kind)) (total (s.thread t).call.kind)) (complete_ok (s.thread t).stage (s.thread t).call.kind (seen s t) (inv.fit t)) h);
        told = λ h. ap num
            (beq_eq (row_of s t).value (answers (s.thread t).call.kind (said_v (row_of s t).action (seen s t).quit (seen s t).flag (in_set (s.thread t).stage (s.thread t).call.kind (seen s t).same)))
            (imp_at (is_finished (row_of s t).status) (beq (row_of s t).value (answers (s.thread t).call.kind (said_v (row_of s t).action (seen s t).quit (seen s t).flag (in_set (s.thread t).stage (s.thread t).call.kind (seen s t).same)))) (told_ok (s.thread t).stage (s.thread t).call.kind (seen s t) (inv.fit t)) h)
            ∙ ap (answers (s.thread t).call.kind) (sym (said_is s t (taken_of s t (row_of s t) pick) inv busy tk)));
      }

  pub turn_reads : turned (read_all s) t (report_of s t (row_of s t) (taken_of s t (row_of s t) pick)) ≡ read_all (does s t (row_of s t) (taken_of s t (row_of s t) pick))
  turn_reads =
      pub_path (turned (read_all s) t (report_of s t (row_of s t) (taken_of s t (row_of s t) pick))) (read_all (does s t (row_of s t) (taken_of s t (row_of s t) pick)))
      (holder_eq s t (taken_of s t (row_of s t) pick) inv busy tk)
      (waits_eq s t (taken_of s t (row_of s t) pick) inv inv' busy tk allk)
      (avail_eq s t (taken_of s t (row_of s t) pick) inv busy tk)
      (alerts_eq s t (taken_of s t (row_of s t) pick) inv busy tk)
      (noted_eq s t (taken_of s t (row_of s t) pick) inv busy tk)
      (done_eq s t (taken_of s t (row_of s t) pick) inv busy tk)
      (said_eq s t (taken_of s t (row_of s t) pick) inv busy tk)

-- a granted submission
first_clear : (k : CallKind) → at_clear (first k) k ≡ false
first_clear k = grind arith

first_done : (k : CallKind) → done_at (first k) k ≡ 0
first_done k = grind arith

idle_done : (k : CallKind) → fits Idle k ≡ true → done_at Idle k ≡ 0
idle_done k h = grind arith

module _ (s : NubState) (t : ℕ) (c : Request) (inv : Inv s) (gr : Granted s t c.kind c.x c.y) where
  new : ThreadState
  new = record { stage = first c.kind; call = c; kept = (s.thread t).kept; out = (s.thread t).out }

  was : (u : ℕ) → eqb t u ≡ true → (s.thread u).stage ≡ Idle
  was u p = idle_is (s.thread u).stage (subst (λ (z : ℕ). is_idle (s.thread z).stage ≡ true) (eqb-true t u p) gr.idle!)

  sub_clear : (m u : ℕ) → wait_clear ((submitted s t c).thread u) m ≡ wait_clear (s.thread u) m
  unfolding new
  sub_clear m u =
      by_one (λ h. wait_clear h m ≡ wait_clear (s.thread u) m) (eqb t u) new (s.thread u)
      (λ p. ap (λ (z : Bool). z && eqb c.x m) (first_clear c.kind)
      ∙ sym (ap (λ (z : Stage). is_wait (s.thread u).call.kind && eqb (stage_no z) 13 && eqb (s.thread u).call.x m) (was u p) ∙ ap (λ (z : Bool). z && eqb (s.thread u).call.x m) (mathlib.Core.Bool.and-false (is_wait (s.thread u).call.kind))))
      (λ p. refl)

  sub_held : (m : ℕ) (o : Option ℕ) → held_by s.thread m o ≡ held_by (submitted s t c).thread m o
  sub_held m none = refl
  sub_held m (some u) = ap (λ (z : Bool). cond {A = Option ℕ} z none (some u)) (sym (sub_clear m u))

  sub_waits : (i u : ℕ) → read_waits s i u ≡ read_waits (submitted s t c) i u
  unfolding new
  sub_waits i u =
      by_one (λ h. read_waits s i u ≡ (elem u (s.line (condition i)) || (between_on h i && eqb h.kept (s.counts i)))) (eqb t u) new (s.thread u)
      (λ p. ap (λ (z : Bool). elem u (s.line (condition i)) || z)
      (ap (λ (z : Stage). is_between z (s.thread u).call.kind && eqb (cond_of (s.thread u).call) i && eqb (s.thread u).kept (s.counts i)) (was u p)
      ∙ ap (λ (z : Bool). z && eqb (cond_of (s.thread u).call) i && eqb (s.thread u).kept (s.counts i)) (mathlib.Core.Bool.and-false (is_wait (s.thread u).call.kind))
      ∙ sym (ap (λ (z : Bool). z && eqb (cond_of c) i && eqb (s.thread t).kept (s.counts i)) (first_between c.kind))))
      (λ p. refl)

  sub_done : (u : ℕ) → done_at (s.thread u).stage (s.thread u).call.kind ≡ done_at ((submitted s t c).thread u).stage ((submitted s t c).thread u).call.kind
  unfolding new
  sub_done u =
      by_one (λ h. done_at (s.thread u).stage (s.thread u).call.kind ≡ done_at h.stage h.call.kind) (eqb t u) new (s.thread u)
      (λ p. ap (λ (z : Stage). done_at z (s.thread u).call.kind) (was u p)
      ∙ idle_done (s.thread u).call.kind (subst (λ (z : Stage). fits z (s.thread u).call.kind ≡ true) (was u p) (inv.fit u))
      ∙ sym (first_done c.kind))
      (λ p. refl)

  pub note_reads : note (read_all s) t c ≡ read_all (submitted s t c)
  unfolding new
  note_reads =
      pub_path (note (read_all s) t c) (read_all (submitted s t c))
      (λ m. sub_held m (s.owners m)) sub_waits (λ i. refl) (λ u. refl)
      (λ u. by_one (λ h. cond (eqb t u) c (s.thread u).call ≡ h.call) (eqb t u) new (s.thread u) (λ p. rw p) (λ p. rw p))
      sub_done
      (λ u. by_one (λ h. is_alerted (s.thread u).out ≡ is_alerted h.out) (eqb t u) new (s.thread u) (λ p. ap (λ (z : ℕ). is_alerted (s.thread z).out) (sym (eqb-true t u p))) (λ p. refl))

no_call_lem : (k : CallKind) → fits Idle k ≡ true → k ≡ NoCall
no_call_lem NoCall h = refl
no_call_lem Acquire h = no h
no_call_lem Release h = no h
no_call_lem Wait h = no h
no_call_lem Signal h = no h
no_call_lem Broadcast h = no h
no_call_lem SemP h = no h
no_call_lem SemV h = no h
no_call_lem Alert h = no h
no_call_lem TestAlert h = no h
no_call_lem AlertP h = no h
no_call_lem AlertWait h = no h

-- one event
pub record Moves (p : Published) (s : NubState) (e : Event) (a : Answer) (s' : NubState) : Type 0 where
  pub right! : Right p e a
  pub reads! : fed p e a ≡ read_all s'
  pub inv! : Inv s'

cond_turn : (a b : Bool) → ◌≡◌ {A = Option Decline} (cond a (cond b (some IdleThread) none) (some NoThread)) none → b ≡ false
cond_turn true true h = not_some IdleThread h
cond_turn true false h = refl
cond_turn false b h = not_some NoThread h

pub moves : (s : NubState) (e : Event) (pick : Pick) → Inv s → Picks s pick → Moves (read_all s) s e (answer s e pick) (after s e pick)
moves s (submission t code x y) pick inv pk = go (verdict s (submission t code x y)) refl
  where
    c : Request
    c = request_by (code_kind code) x y

    go : (n : Option Decline) → verdict s (submission t code x y) ≡ n
        → Moves (read_all s) s (submission t code x y) (by_verdict n granted (λ m. declined m)) (by_verdict n (submitted s t c) (λ m. s))
    go none h =
        let gr : Granted s t c.kind c.x c.y = granted_for s t (code_kind code) x y h in
        record {
          right! = no_call_lem (s.thread t).call.kind (subst (λ (z : Stage). fits z (s.thread t).call.kind ≡ true) (idle_is (s.thread t).stage gr.idle!) (inv.fit t));
          reads! = note_reads s t c inv gr;
          inv! = submitted_inv s t c inv gr;
        }
    go (some n) h = record { right! = tt; reads! = refl; inv! = inv }
moves s (turn t) pick inv pk = go (verdict s (turn t)) refl
  where
    go : (n : Option Decline) → verdict s (turn t) ≡ n
        → Moves (read_all s) s (turn t) (by_verdict n (grant_of s (turn t) pick) (λ m. declined m)) (by_verdict n (granted_to s (turn t) pick) (λ m. s))
    go none h =
        let busy : is_idle (s.thread t).stage ≡ false = cond_turn (ltb t s.size) (is_idle (s.thread t).stage) h in
        record { right! = turn_right s t pick inv pk busy; reads! = turn_reads s t pick inv pk busy; inv! = does_inv s t pick inv pk busy }
    go (some n) h = record { right! = tt; reads! = refl; inv! = inv }

-- at the end of a run
way_13 : (st : Stage) → eqb (stage_no st) 13 ≡ true → (marks st).way ≡ true
way_13 st h = grind arith

wait_mutex : (k : CallKind) → is_wait k ≡ true → is_sem k ≡ false
wait_mutex k h = grind arith

parked_stands : (st : Stage) → is_parked st ≡ true → is_stand at_cond (marks st).line ≡ true
parked_stands st h = grind arith

clear_way : (h : ThreadState) (m : ℕ) → wait_clear h m ≡ true → on_way h (mutex m) ≡ true
clear_way h m p =
    and_from (marks h.stage).way (same_object (gate_of h.call) (mutex m))
    (way_13 h.stage (and_r (is_wait h.call.kind) (eqb (stage_no h.stage) 13) (and_l (is_wait h.call.kind && eqb (stage_no h.stage) 13) (eqb h.call.x m) p)))
    (ap (λ (z : Object). same_object z (mutex m)) (gate_is h.call false (wait_mutex h.call.kind (and_l (is_wait h.call.kind) (eqb (stage_no h.stage) 13) (and_l (is_wait h.call.kind && eqb (stage_no h.stage) 13) (eqb h.call.x m) p))))
    ∙ and_r (is_wait h.call.kind && eqb (stage_no h.stage) 13) (eqb h.call.x m) p)

some_none : (u : ℕ) → ◌≡◌ {A = Option ℕ} (some u) none → ⊥
some_none u h = no (sym (ap is_some h))

pub at_end : (s : NubState) → Inv s → Holds (read_all s) s
at_end s inv =
    record {
      holders = λ m. refl;
      sets = λ c u. refl;
      semaphores = λ i. refl;
      alerted = λ u. refl;
      way = free_way;
      waiters = λ u h. waits_self s inv u ∙ ap (λ (z : Bool). z || (is_between (s.thread u).stage (s.thread u).call.kind && (seen s u).same)) (parked_stands (s.thread u).stage h);
    }
  where
    held_way : (m u : ℕ) → elem u (s.line (mutex m)) ≡ true → (o : Option ℕ) → s.owners m ≡ o → held_by s.thread m o ≡ none → (w : ℕ) × (on_way (s.thread w) (mutex m) ≡ true)
    held_way m u e none p f = inv.way (mutex m) refl (inv.owned m ∙ ap is_some p) u e
    held_way m u e (some w) p f = (w, clear_way (s.thread w) m (go (wait_clear (s.thread w) m) f))
      where
        go : (b : Bool) → cond b none (some w) ≡ none → b ≡ true
        go true i = refl
        go false i = absurd (some_none w i)

    free_way : (o : Object) → Free (read_all s) o → (u : ℕ) → elem u (s.line o) ≡ true → (w : ℕ) × (on_way (s.thread w) o ≡ true)
    free_way (mutex m) f u e = held_way m u e (s.owners m) refl f
    free_way (semaphore i) f u e = inv.way (semaphore i) refl (not-true (s.bits (semaphore i)) f) u e
    free_way (condition c) f u e = absurd f

pub conforms : (es : List Step) (s : NubState) → Inv s → Conforms (read_all s) s es
conforms [] s inv = at_end s inv
conforms (e ∷ es) s inv =
    λ pk.
    let m : Moves (read_all s) s e.event (answer s e.event e.pick) (after s e.event e.pick) = moves s e.event e.pick inv pk in
    (m.right!, subst (λ (q : Published). Conforms q (after s e.event e.pick) es) (sym m.reads!) (conforms es (after s e.event e.pick) m.inv!))

pub runs_conform : RunsConform
runs_conform n m c i b es = conforms es (built n m c i b) (built_inv n m c i b)
