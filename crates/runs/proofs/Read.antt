-- The published state as it is read off a nub, and that a turn's action leads from one reading to the next.
use Rattle.std.proofs.Common.{◌≡◌, ℕ, Bool, true, false, cond, not, ◌&&◌, ◌||◌, eqb, List, Some as some, None as none, Option, sym, refl, ap, ◌∙◌, subst, arith}
use Rattle.std.proofs.lemmas.Bool.{and_from, eq-eqb, eqb-true, not-true, not_from_false}
use mathlib.Core.Bool.{beq}
use Rattle.stages.specs.Calls.{Object, gate_of, cond_of, same_object, elem, Request, no_call}
use Rattle.stages.specs.Names.{stage_no, is_idle, is_wait, is_alert_wait, is_sem, is_alerted, CallKind}
use Rattle.stages.specs.declared.stage.Stage.{Stage}
use Rattle.stages.specs.declared.action.Action.{Action}
use Rattle.stages.specs.declared.action.Outcome.{Outcome}
use Rattle.stages.specs.Calls.Object.{mutex, semaphore, condition}
use Rattle.stages.specs.Table.{Seen, OutcomeEffect, is_between}
use Rattle.stages.specs.Marks.{marks}
use Rattle.stages.specs.declared.step.LineEffect.{LineEffect}
use Rattle.stages.specs.declared.step.GateEffect.{GateEffect}
use Rattle.stages.specs.declared.step.FlagEffect.{FlagEffect}
use Rattle.stages.specs.declared.marks.Stands.{Stands}
use Rattle.stages.specs.declared.step.LineEffect.TheVariants.{Keep as keep_line, JoinGate as join_gate, LeaveGate as leave_gate, JoinCondition as join_cond, LeaveCondition as leave_cond, WakeGate as wake_gate, SignalOne as signal_one, SignalAll as signal_all}
use Rattle.stages.specs.declared.step.GateEffect.TheVariants.{Keep as keep_gate, Take as take_gate, Free as free_gate}
use Rattle.stages.specs.declared.step.FlagEffect.TheVariants.{Keep as keep_flag, ClearOwn as clear_own}
use Rattle.stages.specs.Table.OutcomeEffect.{keep_outcome, set_signalled, set_alerted}
use Rattle.stages.specs.declared.marks.Stands.TheVariants.{Nowhere as nowhere, AtGate as at_gate, AtCondition as at_cond}
use Rattle.stages.specs.declared.stage.Stage.TheVariants.{Try, Choose}
use Rattle.nub.specs.Model.{NubState, seen, row_of, line_at, woken, does, flags_new, bits_new, owners_new, report_of}
use Rattle.thread.specs.Turns.{ThreadState, moved, out_new, between_on, woken_stage}
use Rattle.runs.specs.Published.{Published, is_action, is_finished, done_by, perform, bit}
use Rattle.runs.specs.Reading.{wait_clear, held_by, read_holder, read_waits, read_avail}
use Rattle.stages.proofs.Finite.{imp_at, no, and_l, and_r}
use Rattle.stages.specs.Pairs.{fits}
use Rattle.runs.proofs.Small.{is_stand, or_else, clash}
use Rattle.runs.specs.Reading.{stands_by}
use Rattle.runs.proofs.Agree.{by_idle, wakes, is_standing, owns_now}
use Rattle.runs.proofs.Inv.{Inv, stands_at, Taken, by_sort, stands_is, taken_mark, wake_mark}
use Rattle.runs.proofs.Acts.{done_at, in_set, out_said, said_v, HolderE, holder_e, avail_e, flag_of, flag_eq, flag_eq_lem, gate_eq_lem, holder_ok, is_hKeep, is_hDrop, at_clear, fin_ok, done_ok, said_ok, flag_ok, avail_ok, holder_sem, holder_ok_lem, holder_own, rest_clear, rest_done_gate, rest_done_cond, said_by, alerts_by, avail_new, holder_new, avail_by, holder_by}
use Rattle.runs.proofs.Acts.HolderE.{h_keep, h_take, h_drop}

abbrev pub read_all : NubState → Published
read_all s =
    record {
      holder = λ m. read_holder s m;
      waits = λ c u. read_waits s c u;
      avail = λ i. read_avail s i;
      alerts = λ u. s.flags u;
      noted = λ u. (s.thread u).call;
      done = λ u. done_at (s.thread u).stage (s.thread u).call.kind;
      said = λ u. is_alerted (s.thread u).out;
    }

pub beq_eq : (a b : Bool) → beq a b ≡ true → a ≡ b
beq_eq true true h = refl
beq_eq true false h = no h
beq_eq false true h = no h
beq_eq false false h = refl

-- the set by the thread's own record
abbrev pub in_set_of : ThreadState → ℕ → ℕ → Bool
in_set_of h n i = stands_at h (condition i) || (between_on h i && eqb h.kept n)

pub waits_is : (s : NubState) → Inv s → (i u : ℕ) → read_waits s i u ≡ in_set_of (s.thread u) (s.counts i) i
waits_is s inv i u = ap (λ (z : Bool). z || (between_on (s.thread u) i && eqb (s.thread u).kept (s.counts i))) (inv.stood (condition i) u)

stands_cond : (m : Stands) (c : Request) → stands_by m c (condition (cond_of c)) ≡ is_stand at_cond m
stands_cond nowhere c = refl
stands_cond at_gate c = go (is_sem c.kind)
  where
    go : (b : Bool) → same_object (cond b (semaphore c.x) (mutex c.x)) (condition (cond_of c)) ≡ false
    go true = refl
    go false = refl
stands_cond at_cond c = eq-eqb (cond_of c) (cond_of c) refl

pub set_of : (h : ThreadState) (n : ℕ) → in_set_of h n (cond_of h.call) ≡ in_set h.stage h.call.kind (eqb h.kept n)
set_of h n =
    rw (stands_cond (marks h.stage).line h.call, eq-eqb (cond_of h.call) (cond_of h.call) refl, mathlib.Core.Bool.and-true (is_between h.stage h.call.kind))

pub waits_self : (s : NubState) → Inv s → (t : ℕ) → read_waits s (cond_of (s.thread t).call) t ≡ in_set (s.thread t).stage (s.thread t).call.kind (seen s t).same
waits_self s inv t = waits_is s inv (cond_of (s.thread t).call) t ∙ set_of (s.thread t) (s.counts (cond_of (s.thread t).call))

woken_done : (e : LineEffect) (st : Stage) (k : CallKind) (v : Seen) → wakes e ≡ true → is_stand (wake_mark e) (marks st).line ≡ true → (marks st).spin ≡ false
    → fits st k ≡ true → done_at (woken_stage e k) k ≡ done_at st k
woken_done keep_line st k v w m p f = no w
woken_done join_gate st k v w m p f = no w
woken_done leave_gate st k v w m p f = no w
woken_done join_cond st k v w m p f = no w
woken_done leave_cond st k v w m p f = no w
woken_done wake_gate st k v w m p f =
    eqb-true (done_at Try k) (done_at st k)
    (imp_at (is_stand at_gate (marks st).line && not (marks st).spin) (eqb (done_at Try k) (done_at st k)) (rest_done_gate st k v f)
    (and_from (is_stand at_gate (marks st).line) (not (marks st).spin) m (not_from_false (marks st).spin p)))
woken_done signal_one st k v w m p f =
    eqb-true (done_at (cond (is_alert_wait k) Choose Try) k) (done_at st k)
    (imp_at (is_stand at_cond (marks st).line && not (marks st).spin) (eqb (done_at (cond (is_alert_wait k) Choose Try) k) (done_at st k)) (rest_done_cond st k v f)
    (and_from (is_stand at_cond (marks st).line) (not (marks st).spin) m (not_from_false (marks st).spin p)))
woken_done signal_all st k v w m p f =
    eqb-true (done_at (cond (is_alert_wait k) Choose Try) k) (done_at st k)
    (imp_at (is_stand at_cond (marks st).line && not (marks st).spin) (eqb (done_at (cond (is_alert_wait k) Choose Try) k) (done_at st k)) (rest_done_cond st k v f)
    (and_from (is_stand at_cond (marks st).line) (not (marks st).spin) m (not_from_false (marks st).spin p)))

out_said_lem : (e : OutcomeEffect) (o : (Option Outcome)) → out_said e (is_alerted o) ≡ is_alerted (out_new e o)
out_said_lem keep_outcome o = refl
out_said_lem set_signalled o = refl
out_said_lem set_alerted o = refl

no_act_flag : (a : (Option Action)) (w : Bool) → not (is_action a) ≡ true → flag_of a w ≡ keep_flag
no_act_flag a w h = grind arith

alerts_lem : (f : FlagEffect) (a : (Option Action)) (w : Bool) (t x : ℕ) (g : ℕ → Bool) (u : ℕ)
    → (flag_eq f (flag_of a w) || (flag_eq f clear_own && not (is_action a) && not (g t))) ≡ true → flags_new (flag_of a w) t x g u ≡ flags_new f t x g u
alerts_lem f a w t x g u h = go (flag_eq f (flag_of a w)) refl h
  where
    go : (b : Bool) → flag_eq f (flag_of a w) ≡ b → (b || (flag_eq f clear_own && not (is_action a) && not (g t))) ≡ true → flags_new (flag_of a w) t x g u ≡ flags_new f t x g u
    go true e i = ap (λ (z : FlagEffect). flags_new z t x g u) (sym (flag_eq_lem f (flag_of a w) e))
    go false e i =
        let p : (flag_eq f clear_own && not (is_action a)) ≡ true = and_l (flag_eq f clear_own && not (is_action a)) (not (g t)) i in
        let z : g t ≡ false = not-true (g t) (and_r (flag_eq f clear_own && not (is_action a)) (not (g t)) i) in
        rw (no_act_flag a w (and_r (flag_eq f clear_own) (not (is_action a)) p), flag_eq_lem f clear_own (and_l (flag_eq f clear_own) (not (is_action a)) p))
        (own (eqb t u) refl z)
      where
        own : (b : Bool) → eqb t u ≡ b → g t ≡ false → g u ≡ cond b false (g u)
        own true q z = ap g (sym (eqb-true t u q)) ∙ z
        own false q z = refl

avail_lem : (b : Bool) (e : GateEffect) (x : ℕ) (f : Object → Bool) (i : ℕ)
    → avail_new (cond b e keep_gate) x (λ n. not (f (semaphore n))) i ≡ not (bits_new e (cond b (semaphore x) (mutex x)) f (semaphore i))
avail_lem b e x f i = grind arith

woken_clear : (e : LineEffect) (k : CallKind) → at_clear (woken_stage e k) k ≡ false
woken_clear e k = grind arith

idle_clear : (b c : Bool) → false ≡ (b && false && c)
idle_clear true c = refl
idle_clear false c = refl

pub gate_is : (c : Request) (b : Bool) → is_sem c.kind ≡ b → gate_of c ≡ cond b (semaphore c.x) (mutex c.x)
gate_is c b h = ap (λ (z : Bool). cond z (semaphore c.x) (mutex c.x)) h

sem_clear : (k : CallKind) (a b c : Bool) → is_sem k ≡ true → (is_wait k && a && c) ≡ (is_wait k && b && c)
sem_clear k a b c h = grind arith

both_false : (a b : Bool) → (a && false) ≡ (b && false)
both_false a b = grind arith

holder_other : (H : HolderE) (x t : ℕ) (f : ℕ → Option ℕ) (m : ℕ) → eqb x m ≡ false → holder_new H x t f m ≡ f m
holder_other H x t f m h = grind arith

owners_other : (e : GateEffect) (t x : ℕ) (f : ℕ → Option ℕ) (m : ℕ) → eqb x m ≡ false → owners_new e t (mutex x) f m ≡ f m
owners_other e t x f m h = grind arith

module _ (s : NubState) (t : ℕ) (k : List ℕ) (inv : Inv s) (busy : is_idle (s.thread t).stage ≡ false) (tk : Taken s t (row_of s t).line k) where
  fin_is : is_finished (row_of s t).status ≡ is_idle (row_of s t).next
  fin_is =
      beq_eq (is_finished (row_of s t).status) (is_idle (row_of s t).next)
      (imp_at (not (is_idle (s.thread t).stage)) (beq (is_finished (row_of s t).status) (is_idle (row_of s t).next))
      (fin_ok (s.thread t).stage (s.thread t).call.kind (seen s t) (inv.fit t)) (not_from_false (is_idle (s.thread t).stage) busy))

  pub noted_eq : (u : ℕ) → cond (eqb t u && is_finished (row_of s t).status) no_call (s.thread u).call ≡ ((does s t (row_of s t) k).thread u).call
  noted_eq u =
      by_sort (λ h. cond (eqb t u && is_finished (row_of s t).status) no_call (s.thread u).call ≡ h.call) (eqb t u) (elem u k)
      (moved (row_of s t) (s.counts (cond_of (s.thread t).call)) (s.thread t)) (woken (row_of s t).line (s.thread u)) (s.thread u)
      (λ p. rw (p, fin_is) (ap (λ (z : ℕ). cond (is_idle (row_of s t).next) no_call (s.thread z).call) (sym (eqb-true t u p))))
      (λ p q. rw p) (λ p q. rw p)

  pub done_eq : (u : ℕ)
      → cond (eqb t u) (cond (is_finished (row_of s t).status) 0 (done_by (row_of s t).action (done_at (s.thread u).stage (s.thread u).call.kind))) (done_at (s.thread u).stage (s.thread u).call.kind)
      ≡ done_at ((does s t (row_of s t) k).thread u).stage ((does s t (row_of s t) k).thread u).call.kind
  done_eq u =
      by_sort (λ h. cond (eqb t u) (cond (is_finished (row_of s t).status) 0 (done_by (row_of s t).action (done_at (s.thread u).stage (s.thread u).call.kind))) (done_at (s.thread u).stage (s.thread u).call.kind) ≡ done_at h.stage h.call.kind) (eqb t u) (elem u k)
      (moved (row_of s t) (s.counts (cond_of (s.thread t).call)) (s.thread t)) (woken (row_of s t).line (s.thread u)) (s.thread u)
      (λ p. rw (p, fin_is)
      (subst (λ (z : ℕ). cond (is_idle (row_of s t).next) 0 (done_by (row_of s t).action (done_at (s.thread z).stage (s.thread z).call.kind)) ≡ done_at (row_of s t).next (cond (is_idle (row_of s t).next) no_call (s.thread t).call).kind) (eqb-true t u p)
      (by_idle (λ n c. cond (is_idle n) 0 (done_by (row_of s t).action (done_at (s.thread t).stage (s.thread t).call.kind)) ≡ done_at n c.kind) (row_of s t).next (s.thread t).call refl
      (λ b. rw b (eqb-true (done_by (row_of s t).action (done_at (s.thread t).stage (s.thread t).call.kind)) (done_at (row_of s t).next (s.thread t).call.kind)
      (imp_at (not (is_idle (row_of s t).next)) (eqb (done_by (row_of s t).action (done_at (s.thread t).stage (s.thread t).call.kind)) (done_at (row_of s t).next (s.thread t).call.kind))
      (done_ok (s.thread t).stage (s.thread t).call.kind (seen s t) (inv.fit t)) (not_from_false (is_idle (row_of s t).next) b)))))))
      (λ p q. rw p (sym (woken_done (row_of s t).line (s.thread u).stage (s.thread u).call.kind (seen s u) (tk u q).wakes!
      (taken_mark (row_of s t).line (marks (s.thread u).stage).line (s.thread t).call (s.thread u).call (tk u q).wakes! (tk u q).stands!) (tk u q).rests! (inv.fit u))))
      (λ p q. rw p)

  pub said_is : (perform (row_of s t).action (s.thread t).call t (bit (report_of s t (row_of s t) k).mask) (read_all s)).said t ≡ said_v (row_of s t).action (seen s t).quit (seen s t).flag (in_set (s.thread t).stage (s.thread t).call.kind (seen s t).same)
  said_is = said_by (row_of s t).action (s.thread t).call t (bit (report_of s t (row_of s t) k).mask) (read_all s) t ∙ ap (λ (z : Bool). cond z (said_v (row_of s t).action (seen s t).quit (seen s t).flag (read_waits s (cond_of (s.thread t).call) t)) (is_alerted (s.thread t).out)) (eq-eqb t t refl) ∙ ap (λ (z : Bool). said_v (row_of s t).action (seen s t).quit (seen s t).flag z) (waits_self s inv t)

  pub said_eq : (u : ℕ) → cond (eqb t u && is_finished (row_of s t).status) false ((perform (row_of s t).action (s.thread t).call t (bit (report_of s t (row_of s t) k).mask) (read_all s)).said u) ≡ is_alerted ((does s t (row_of s t) k).thread u).out
  said_eq u =
      by_sort (λ h. cond (eqb t u && is_finished (row_of s t).status) false ((perform (row_of s t).action (s.thread t).call t (bit (report_of s t (row_of s t) k).mask) (read_all s)).said u) ≡ is_alerted h.out) (eqb t u) (elem u k)
      (moved (row_of s t) (s.counts (cond_of (s.thread t).call)) (s.thread t)) (woken (row_of s t).line (s.thread u)) (s.thread u)
      (λ p. ap (λ (z : Bool). cond (z && is_finished (row_of s t).status) false ((perform (row_of s t).action (s.thread t).call t (bit (report_of s t (row_of s t) k).mask) (read_all s)).said u)) p
      ∙ ap (λ (z : Bool). cond z false ((perform (row_of s t).action (s.thread t).call t (bit (report_of s t (row_of s t) k).mask) (read_all s)).said u)) fin_is
      ∙ ap (λ (z : ℕ). cond (is_idle (row_of s t).next) false ((perform (row_of s t).action (s.thread t).call t (bit (report_of s t (row_of s t) k).mask) (read_all s)).said z)) (sym (eqb-true t u p))
      ∙ go (is_idle (row_of s t).next) refl)
      (λ p q. other u p) (λ p q. other u p)
    where
      other : (u : ℕ) → eqb t u ≡ false → cond (eqb t u && is_finished (row_of s t).status) false ((perform (row_of s t).action (s.thread t).call t (bit (report_of s t (row_of s t) k).mask) (read_all s)).said u) ≡ is_alerted (s.thread u).out
      other u p =
          ap (λ (z : Bool). cond (z && is_finished (row_of s t).status) false ((perform (row_of s t).action (s.thread t).call t (bit (report_of s t (row_of s t) k).mask) (read_all s)).said u)) p
          ∙ said_by (row_of s t).action (s.thread t).call t (bit (report_of s t (row_of s t) k).mask) (read_all s) u
          ∙ ap (λ (z : Bool). cond z (said_v (row_of s t).action (seen s t).quit (seen s t).flag (read_waits s (cond_of (s.thread t).call) t)) (is_alerted (s.thread u).out)) p

      go : (b : Bool) → is_idle (row_of s t).next ≡ b → cond b false ((perform (row_of s t).action (s.thread t).call t (bit (report_of s t (row_of s t) k).mask) (read_all s)).said t) ≡ is_alerted (cond b none (out_new (row_of s t).out (s.thread t).out))
      go true e = refl
      go false e =
          said_is
          ∙ beq_eq (said_v (row_of s t).action (seen s t).quit (seen s t).flag (in_set (s.thread t).stage (s.thread t).call.kind (seen s t).same)) (out_said (row_of s t).out (seen s t).quit)
          (imp_at (not (is_idle (row_of s t).next)) (beq (said_v (row_of s t).action (seen s t).quit (seen s t).flag (in_set (s.thread t).stage (s.thread t).call.kind (seen s t).same)) (out_said (row_of s t).out (seen s t).quit))
          (said_ok (s.thread t).stage (s.thread t).call.kind (seen s t) (inv.fit t)) (not_from_false (is_idle (row_of s t).next) e))
          ∙ out_said_lem (row_of s t).out (s.thread t).out

  pub alerts_eq : (u : ℕ) → (perform (row_of s t).action (s.thread t).call t (bit (report_of s t (row_of s t) k).mask) (read_all s)).alerts u ≡ (does s t (row_of s t) k).flags u
  alerts_eq u =
      alerts_by (row_of s t).action (s.thread t).call t (bit (report_of s t (row_of s t) k).mask) (read_all s) u
      ∙ ap (λ (z : Bool). flags_new (flag_of (row_of s t).action z) t (s.thread t).call.x s.flags u) (waits_self s inv t)
      ∙ alerts_lem (row_of s t).flag (row_of s t).action (in_set (s.thread t).stage (s.thread t).call.kind (seen s t).same) t (s.thread t).call.x s.flags u
      (flag_ok (s.thread t).stage (s.thread t).call.kind (seen s t) (inv.fit t))

  pub avail_eq : (i : ℕ) → (perform (row_of s t).action (s.thread t).call t (bit (report_of s t (row_of s t) k).mask) (read_all s)).avail i ≡ read_avail (does s t (row_of s t) k) i
  avail_eq i =
      avail_by (row_of s t).action (s.thread t).call t (bit (report_of s t (row_of s t) k).mask) (read_all s) i
      ∙ ap (λ (z : GateEffect). avail_new z (s.thread t).call.x (read_avail s) i) (gate_eq_lem (avail_e (row_of s t).action) (cond (is_sem (s.thread t).call.kind) (row_of s t).gate keep_gate) (avail_ok (s.thread t).stage (s.thread t).call.kind (seen s t) (inv.fit t)))
      ∙ avail_lem (is_sem (s.thread t).call.kind) (row_of s t).gate (s.thread t).call.x s.bits i

  -- a wait at Clear, for the threads that do not act
  clear_rest : (m u : ℕ) → eqb t u ≡ false → wait_clear ((does s t (row_of s t) k).thread u) m ≡ wait_clear (s.thread u) m
  clear_rest m u p =
      by_sort (λ h. wait_clear h m ≡ wait_clear (s.thread u) m) (eqb t u) (elem u k)
      (moved (row_of s t) (s.counts (cond_of (s.thread t).call)) (s.thread t)) (woken (row_of s t).line (s.thread u)) (s.thread u)
      (λ q. clash q p)
      (λ a q. ap (λ (z : Bool). z && eqb (s.thread u).call.x m) (woken_clear (row_of s t).line (s.thread u).call.kind
      ∙ sym (not-true (at_clear (s.thread u).stage (s.thread u).call.kind) (and_l (not (at_clear (s.thread u).stage (s.thread u).call.kind)) (not (is_between (s.thread u).stage (s.thread u).call.kind))
      (rested u q)))))
      (λ a q. refl)
    where
      rested : (u : ℕ) → elem u k ≡ true → (not (at_clear (s.thread u).stage (s.thread u).call.kind) && not (is_between (s.thread u).stage (s.thread u).call.kind)) ≡ true
      rested u q =
          imp_at (is_standing (marks (s.thread u).stage).line) (not (at_clear (s.thread u).stage (s.thread u).call.kind) && not (is_between (s.thread u).stage (s.thread u).call.kind))
          (rest_clear (s.thread u).stage (s.thread u).call.kind (seen s u) (inv.fit u))
          (stands_is (marks (s.thread u).stage).line (s.thread u).call (line_at (row_of s t).line (s.thread t).call) (tk u q).stands!)

  clear_self : (m : ℕ) → wait_clear ((does s t (row_of s t) k).thread t) m ≡ (at_clear (row_of s t).next (s.thread t).call.kind && eqb (s.thread t).call.x m)
  clear_self m =
      rw (eq-eqb t t refl)
      (by_idle (λ n c. (is_wait c.kind && eqb (stage_no n) 13 && eqb c.x m) ≡ (at_clear n (s.thread t).call.kind && eqb (s.thread t).call.x m)) (row_of s t).next (s.thread t).call
      (idle_clear (is_wait (s.thread t).call.kind) (eqb (s.thread t).call.x m)) (λ b. refl))

  held_frame : (m : ℕ) (o : Option ℕ) → ((u : ℕ) → wait_clear ((does s t (row_of s t) k).thread u) m ≡ wait_clear (s.thread u) m)
      → held_by s.thread m o ≡ held_by (does s t (row_of s t) k).thread m o
  held_frame m none f = refl
  held_frame m (some u) f = ap (λ (z : Bool). cond {A = Option ℕ} z none (some u)) (sym (f u))

  -- frame of the acting thread too
  clear_all : (m : ℕ) → (at_clear (row_of s t).next (s.thread t).call.kind && eqb (s.thread t).call.x m) ≡ wait_clear (s.thread t) m
      → (u : ℕ) → wait_clear ((does s t (row_of s t) k).thread u) m ≡ wait_clear (s.thread u) m
  clear_all m h u = go (eqb t u) refl
    where
      go : (b : Bool) → eqb t u ≡ b → wait_clear ((does s t (row_of s t) k).thread u) m ≡ wait_clear (s.thread u) m
      go true p = subst (λ (z : ℕ). wait_clear ((does s t (row_of s t) k).thread z) m ≡ wait_clear (s.thread z) m) (eqb-true t u p) (clear_self m ∙ h)
      go false p = clear_rest m u p

  owns_is : owns_now (s.thread t).stage (s.thread t).call.kind ≡ true → s.owners (s.thread t).call.x ≡ some t
  owns_is h = inv.owner t h

  pub held_own : owns_now (s.thread t).stage (s.thread t).call.kind ≡ true → read_holder s (s.thread t).call.x ≡ cond (at_clear (s.thread t).stage (s.thread t).call.kind) none (some t)
  held_own h =
      ap (held_by s.thread (s.thread t).call.x) (owns_is h)
      ∙ ap (λ (z : Bool). cond {A = Option ℕ} z none (some t))
      (ap (λ (z : Bool). at_clear (s.thread t).stage (s.thread t).call.kind && z) (eq-eqb (s.thread t).call.x (s.thread t).call.x refl) ∙ mathlib.Core.Bool.and-true (at_clear (s.thread t).stage (s.thread t).call.kind))

  pub own_fact : (is_hDrop (holder_e (row_of s t).action) || at_clear (s.thread t).stage (s.thread t).call.kind) ≡ true → owns_now (s.thread t).stage (s.thread t).call.kind ≡ true
  own_fact h =
      imp_at (is_hDrop (holder_e (row_of s t).action) || at_clear (s.thread t).stage (s.thread t).call.kind) (owns_now (s.thread t).stage (s.thread t).call.kind)
      (holder_own (s.thread t).stage (s.thread t).call.kind (seen s t) (inv.fit t)) h

  pub holder_eq : (m : ℕ) → (perform (row_of s t).action (s.thread t).call t (bit (report_of s t (row_of s t) k).mask) (read_all s)).holder m ≡ read_holder (does s t (row_of s t) k) m
  holder_eq m = holder_by (row_of s t).action (s.thread t).call t (bit (report_of s t (row_of s t) k).mask) (read_all s) m ∙ by_sem (is_sem (s.thread t).call.kind) refl
    where
      x : ℕ
      x = (s.thread t).call.x

      wb : Bool
      wb = at_clear (s.thread t).stage (s.thread t).call.kind

      wa : Bool
      wa = at_clear (row_of s t).next (s.thread t).call.kind

      th' : ℕ → ThreadState
      th' = (does s t (row_of s t) k).thread

      -- a semaphore's call
      sem_owners : (e : GateEffect) → owners_new e t (semaphore x) s.owners m ≡ s.owners m
      sem_owners keep_gate = refl
      sem_owners take_gate = refl
      sem_owners free_gate = refl

      at_sem : is_sem (s.thread t).call.kind ≡ true → (H : HolderE) → is_hKeep H ≡ true
          → holder_new H x t (read_holder s) m ≡ held_by th' m (owners_new (row_of s t).gate t (gate_of (s.thread t).call) s.owners m)
      at_sem p h_keep h =
          held_frame m (s.owners m) (clear_all m (sem_clear (s.thread t).call.kind (eqb (stage_no (row_of s t).next) 13) (eqb (stage_no (s.thread t).stage) 13) (eqb x m) p))
          ∙ ap (held_by th' m) (sym (ap (λ (g : Object). owners_new (row_of s t).gate t g s.owners m) (gate_is (s.thread t).call true p) ∙ sem_owners (row_of s t).gate))
      at_sem p h_take h = no h
      at_sem p h_drop h = no h

      -- a mutex's call, at another mutex
      other : eqb x m ≡ false → (H : HolderE) (e : GateEffect) → holder_new H x t (read_holder s) m ≡ held_by th' m (owners_new e t (mutex x) s.owners m)
      other p H e = holder_other H x t (read_holder s) m p ∙ held_frame m (s.owners m) (clear_all m (rw p (both_false wa wb))) ∙ ap (held_by th' m) (sym (owners_other e t x s.owners m p))

      -- at its own
      own : eqb x m ≡ true → (H : HolderE) (e : GateEffect) → holder_ok H e wb wa ≡ true → (wb ≡ true → owns_now (s.thread t).stage (s.thread t).call.kind ≡ true)
          → (is_hDrop H ≡ true → owns_now (s.thread t).stage (s.thread t).call.kind ≡ true)
          → holder_new H x t (read_holder s) m ≡ held_by th' m (owners_new e t (mutex x) s.owners m)
      own p h_keep keep_gate h f g =
          held_frame m (s.owners m) (clear_all m (rw (not-true wb (and_l (not wb) (not wa) h), not-true wa (and_r (not wb) (not wa) h))))
      own p h_keep take_gate h f g = no h
      own p h_keep free_gate h f g =
          rw p
          (subst (λ (z : ℕ). read_holder s z ≡ none) (eqb-true x m p)
          (held_own (f (and_l wb (not wa) h)) ∙ ap (λ (z : Bool). cond {A = Option ℕ} z none (some t)) (and_l wb (not wa) h)))
      own p h_take keep_gate h f g = no h
      own p h_take take_gate h f g =
          rw (p, clear_self m, not-true wa (and_r (not wb) (not wa) h))
      own p h_take free_gate h f g = no h
      own p h_drop keep_gate h f g =
          rw p
          (sym (ap (held_by th' m) (subst (λ (z : ℕ). s.owners z ≡ some t) (eqb-true x m p) (owns_is (g refl)))
          ∙ ap (λ (z : Bool). cond {A = Option ℕ} z none (some t)) (clear_self m ∙ ap (λ (z : Bool). wa && z) p ∙ ap (λ (z : Bool). z && true) (and_r (not wb) wa h))))
      own p h_drop take_gate h f g = no h
      own p h_drop free_gate h f g = rw p

      by_mut : is_sem (s.thread t).call.kind ≡ false → (b : Bool) → eqb x m ≡ b
          → holder_new (holder_e (row_of s t).action) x t (read_holder s) m ≡ held_by th' m (owners_new (row_of s t).gate t (gate_of (s.thread t).call) s.owners m)
      by_mut p true q =
          own q (holder_e (row_of s t).action) (row_of s t).gate
          (or_else (is_sem (s.thread t).call.kind) (holder_ok (holder_e (row_of s t).action) (row_of s t).gate wb wa) (holder_ok_lem (s.thread t).stage (s.thread t).call.kind (seen s t) (inv.fit t)) p)
          (λ i. own_fact (rw i (mathlib.Core.Bool.or-true (is_hDrop (holder_e (row_of s t).action))))) (λ i. own_fact (rw i))
          ∙ ap (λ (g : Object). held_by th' m (owners_new (row_of s t).gate t g s.owners m)) (sym (gate_is (s.thread t).call false p))
      by_mut p false q =
          other q (holder_e (row_of s t).action) (row_of s t).gate
          ∙ ap (λ (g : Object). held_by th' m (owners_new (row_of s t).gate t g s.owners m)) (sym (gate_is (s.thread t).call false p))

      by_sem : (b : Bool) → is_sem (s.thread t).call.kind ≡ b
          → holder_new (holder_e (row_of s t).action) x t (read_holder s) m ≡ held_by th' m (owners_new (row_of s t).gate t (gate_of (s.thread t).call) s.owners m)
      by_sem true p =
          at_sem p (holder_e (row_of s t).action) (imp_at (is_sem (s.thread t).call.kind) (is_hKeep (holder_e (row_of s t).action)) (holder_sem (s.thread t).stage (s.thread t).call.kind (seen s t) (inv.fit t)) p)
      by_sem false p = by_mut p (eqb x m) refl
