-- One entry of a run, granted or declined: its answer and what it leaves are those of the rules.
use Rattle.std.proofs.Common.{◌≡◌, ℕ, ◌+◌, ◌%◌, ◌^◌, ◌<◌, ◌≤◌, Bool, true, false, cond, not, ◌||◌, eqb, ltb, List, length, get_or, set, Some as some, None as none, Option, sym, refl, ap, ◌∙◌, subst, arith, length-set}
use Rattle.std.proofs.lemmas.Bool.{ltb-true, ltb-false, or_right, eqb-true}
use Rattle.lines.specs.Kinds.{Kind as LineKind, Laws}
use Rattle.stages.specs.Calls.{Object, gate_of, cond_of, Request, request_of}
use Rattle.stages.specs.Names.{is_idle, num}
use Rattle.stages.specs.Calls.Object.{mutex, semaphore, condition}
use Rattle.stages.specs.Table.{Row, first, reads_line}
use Rattle.thread.specs.Turns.{idle_thread, state_of, stepped, step_of, started, row_by, flagged}
use Rattle.thread.specs.declared.record.Thread.{Thread}
use Rattle.stages.specs.declared.step.Step.{Step}
use Rattle.stages.specs.declared.step.LineEffect.{LineEffect}
use Rattle.stages.specs.declared.step.GateEffect.{GateEffect}
use Rattle.stages.specs.declared.step.FlagEffect.{FlagEffect}
use Rattle.stages.specs.declared.step.LineEffect.TheVariants.{Keep as keep_line, JoinGate as join_gate, LeaveGate as leave_gate, JoinCondition as join_cond, LeaveCondition as leave_cond, WakeGate as wake_gate, SignalOne as signal_one, SignalAll as signal_all}
use Rattle.stages.specs.declared.step.GateEffect.TheVariants.{Keep as keep_gate, Take as take_gate, Free as free_gate}
use Rattle.stages.specs.declared.step.FlagEffect.TheVariants.{Keep as keep_flag, ClearOwn as clear_own, SetNamed as set_named}
use Rattle.nub.specs.declared.Core.{Core}
use Rattle.nub.specs.Model.{row_of, line_at, verdict, by_verdict, after, answer, submitted, request_by, code_kind, granted_to, grant_of}
use Rattle.nub.specs.Places.{at_line}
use Rattle.nub.specs.View.{view, picks}
use Rattle.nub.specs.Work.{bits_l, wake_from, count_at, thread_at, taken_in, with_threads, set_at}
use Rattle.runs.proofs.Forms.{owners_by, named_by, freed_at, applied_by, performed_by, Full, Sized}
use Rattle.nub.specs.Turn.{turned, reports, refused, Moved, moves, verdict_in, answer_in, call_by, sight_of}
use Rattle.lines.specs.Lines.{Sound as LineSound}
use Rattle.nub.specs.declared.Event.{Event}
use Rattle.nub.specs.declared.Event.TheVariants.{Submission as submission, Turn as turn}
use Rattle.nub.specs.declared.Answer.TheVariants.{Granted as granted, Declined as declined, Reported as reported}
use Rattle.runs.proofs.Turned.{turned_out, turned_idle}
use Rattle.runs.proofs.Placed.{turned_busy, request_by_lem, cond_some, gate_line_lem, line_by, row_same}
use Rattle.runs.specs.Granted.{LineGranted, JoinGranted, LeaveGranted, TakeGranted, AskGranted, Room, CountFits, TurnGranted, EventGranted}
use Rattle.runs.proofs.Ranges.{uses_gate, uses_cond, gate_has, cond_has, reads_has, line_low}
use Rattle.runs.proofs.Lined.{ask_ok}
use Rattle.runs.proofs.Agree.{is_keep_gate}
use Rattle.nub.specs.Places.{line_in, gate_line, line_no}
use Rattle.nub.specs.Model.{seen, signals}
use Rattle.stages.proofs.Finite.{imp_at}
use Rattle.stages.specs.Names.{has_gate, has_cond}
use Rattle.stages.specs.Calls.{kind_of, condition_of}
use Rattle.nub.specs.declared.Decline.{Decline}
use Rattle.nub.specs.declared.Decline.TheVariants.{NoThread, IdleThread}
use Rattle.stages.specs.declared.call.Call.{Call}
use Rattle.runs.proofs.Inv.{cond_ap}
use Rattle.runs.proofs.Submit.{is_granted}
use Rattle.runs.proofs.Bound.{Sound, sig_fits}
use Rattle.runs.proofs.Lists.{list_set, wake_length, at_in}
use Rattle.runs.proofs.Bridge.{nub_path, does_view, mask_view, granted_now, read! }

pub verdict_same : (K : LineKind) (k : Core) (f : K.State) (t n a b : ℕ) → verdict_in k t n a b ≡ verdict (view K k f) (submission t n a b)
verdict_same K k f t n a b = refl

started_alert : (l : List Thread) (t : ℕ) (c : Option Call) (u : ℕ) → t < length l → (get_or (set l t (started c (get_or l t idle_thread))) u idle_thread).alert ≡ (get_or l u idle_thread).alert
started_alert l t c u h = ap (λ (z : Thread). z.alert) (list_set idle_thread l t (started c (get_or l t idle_thread)) u h) ∙ go (eqb t u) refl
  where
    go : (b : Bool) → eqb t u ≡ b → (cond b (started c (get_or l t idle_thread)) (get_or l u idle_thread)).alert ≡ (get_or l u idle_thread).alert
    go true p = ap (λ (z : ℕ). (get_or l z idle_thread).alert) (eqb-true t u p)
    go false p = refl

-- what an entry gives
pub record Entered (K : LineKind) (k : Core) (f : K.State) (e : Event) (m : Moved K) : Type 0 where
  pub answer! : m.answer ≡ answer (view K k f) e (picks K f)
  pub after! : view K m.core m.lines ≡ after (view K k f) e (picks K f)
  pub full! : Full m.core
  pub sizes! : m.core.sizes ≡ k.sizes

full_threads : (k : Core) (l : List Thread) → Full k → length l ≡ length k.threads → Full (with_threads k l)
full_threads k l h e = record { threads! = e ∙ h.threads!; bits! = h.bits!; owners! = h.owners!; counts! = h.counts! }

module _ (K : LineKind) (laws : Laws K) (k : Core) (f : K.State) (full : Full k) (ls : LineSound K.serves (K.line f)) (fit : Sized K.serves k.sizes) (so : Sound (view K k f)) where
  -- a submission, by its verdict
  left : ℕ → ℕ → ℕ → ℕ → Option Decline → Moved K
  left t n a b v = record { answer = answer_in v; core = by_verdict v (with_threads k (set k.threads t (started (call_by (code_kind n) a b) (thread_at k t)))) (λ d. k); lines = f }

  submission_entered : (t n a b : ℕ) → Entered K k f (submission t n a b) (moves K k f (submission t n a b))
  unfolding left
  submission_entered t n a b = subst (λ (v : Option Decline). Entered K k f (submission t n a b) (left t n a b v)) (sym (verdict_same K k f t n a b)) (go (verdict (view K k f) (submission t n a b)) refl)
    where
      low : verdict (view K k f) (submission t n a b) ≡ none → t < length k.threads
      low h =
          let x : t < k.sizes.threads = ltb-true t k.sizes.threads (is_granted (view K k f) t (code_kind n) a b h).thread! in
          let y : k.sizes.threads ≤ 64 = fit.threads! in
          let z : length k.threads ≡ 64 = full.threads! in
          omega arith

      go : (v : Option Decline) → verdict (view K k f) (submission t n a b) ≡ v → Entered K k f (submission t n a b) (left t n a b v)
      go none h =
          record {
            answer! = sym (ap (λ (v : Option Decline). by_verdict v granted (λ d. declined d)) h);
            after! =
                nub_path (view K (with_threads k (set k.threads t (started (call_by (code_kind n) a b) (thread_at k t)))) f) (submitted (view K k f) t (request_by (code_kind n) a b)) refl refl refl refl
                (λ u.
                ap state_of (list_set idle_thread k.threads t (started (call_by (code_kind n) a b) (thread_at k t)) u (low h))
                ∙ cond_ap state_of (eqb t u) (started (call_by (code_kind n) a b) (thread_at k t)) (get_or k.threads u idle_thread)
                ∙ ap (λ (c : Request). cond (eqb t u) (record { stage = first c.kind; call = c; kept = (state_of (thread_at k t)).kept; out = (state_of (thread_at k t)).out }) (state_of (get_or k.threads u idle_thread))) (request_by_lem (code_kind n) a b))
                (λ u. started_alert k.threads t (call_by (code_kind n) a b) u (low h)) (λ o. refl) (λ o. refl) (λ m. refl) (λ i. refl) refl
                ∙ sym (ap (λ (v : Option Decline). by_verdict v (submitted (view K k f) t (request_by (code_kind n) a b)) (λ d. view K k f)) h);
            full! = full_threads k (set k.threads t (started (call_by (code_kind n) a b) (thread_at k t))) full (length-set k.threads t (started (call_by (code_kind n) a b) (thread_at k t)));
            sizes! = refl;
          }
      go (some v) h =
          record {
            answer! = sym (ap (λ (z : Option Decline). by_verdict z granted (λ d. declined d)) h);
            after! = sym (ap (λ (z : Option Decline). by_verdict z (submitted (view K k f) t (request_by (code_kind n) a b)) (λ d. view K k f)) h);
            full! = full;
            sizes! = refl;
          }

  -- a turn that is declined
  still : (t : ℕ) (d : Decline) → verdict (view K k f) (turn t) ≡ some d → Entered K k f (turn t) (refused K d k f)
  still t d h =
      record {
        answer! = sym (ap (λ (z : Option Decline). by_verdict z (grant_of (view K k f) (turn t) (picks K f)) (λ m. declined m)) h);
        after! = sym (ap (λ (z : Option Decline). by_verdict z (granted_to (view K k f) (turn t) (picks K f)) (λ m. view K k f)) h);
        full! = full;
        sizes! = refl;
      }

  set_length : (l : List Bool) (g : Option ℕ) (b : Bool) → length (set_at l g b) ≡ length l
  set_length l none b = refl
  set_length l (some g) b = length-set l g b

  bits_length : (e : GateEffect) (g : Option ℕ) (l : List Bool) → length (bits_l e g l) ≡ length l
  bits_length keep_gate g l = refl
  bits_length take_gate g l = set_length l g true
  bits_length free_gate g l = set_length l g false

  owners_length : (e : GateEffect) (t : ℕ) (g : Object) (l : List (Option ℕ)) → length (owners_by e t g l) ≡ length l
  owners_length keep_gate t g l = refl
  owners_length take_gate t (mutex m) l = length-set l m (some t)
  owners_length take_gate t (semaphore m) l = refl
  owners_length take_gate t (condition m) l = refl
  owners_length free_gate t (mutex m) l = length-set l m none
  owners_length free_gate t (semaphore m) l = refl
  owners_length free_gate t (condition m) l = refl

  named_length : (e : FlagEffect) (x : ℕ) (l : List Thread) → length (named_by e x l) ≡ length l
  named_length keep_flag x l = refl
  named_length clear_own x l = refl
  named_length set_named x l = length-set l x (flagged (get_or l x idle_thread))

  full_freed : (e : LineEffect) (c : ℕ) (us : List ℕ) (k' : Core) → Full k' → Full (freed_at e c us k')
  full_freed keep_line c us k' h = h
  full_freed join_gate c us k' h = h
  full_freed leave_gate c us k' h = h
  full_freed join_cond c us k' h = h
  full_freed leave_cond c us k' h = h
  full_freed wake_gate c us k' h = full_threads k' (wake_from wake_gate us 0 k'.threads) h (wake_length wake_gate us 0 k'.threads)
  full_freed signal_one c us k' h = record { threads! = wake_length signal_one us 0 k'.threads ∙ h.threads!; bits! = h.bits!; owners! = h.owners!; counts! = length-set k'.counts c ((count_at k' c + 1) % 2 ^ 32) ∙ h.counts! }
  full_freed signal_all c us k' h = record { threads! = wake_length signal_all us 0 k'.threads ∙ h.threads!; bits! = h.bits!; owners! = h.owners!; counts! = length-set k'.counts c ((count_at k' c + 1) % 2 ^ 32) ∙ h.counts! }

  full_applied : (s : Step) (t : ℕ) (c : Request) (k' : Core) → Full k' → Full (applied_by s t c k')
  full_applied s t c k' h =
      record {
        threads! = named_length s.flag c.x k'.threads ∙ h.threads!;
        bits! = bits_length s.gate (at_line (gate_of c)) k'.bits ∙ h.bits!;
        owners! = owners_length s.gate t (gate_of c) k'.owners ∙ h.owners!;
        counts! = h.counts!;
      }

  busy_entered : (t : ℕ) → ltb t k.sizes.threads ≡ true → is_idle (thread_at k t).stage ≡ false → Entered K k f (turn t) (turned K k f t)
  busy_entered t ins busy =
      subst (λ (m : Moved K). Entered K k f (turn t) m) (sym is)
      (record {
        answer! =
            ap (λ (n : ℕ). reported (record { status = (row_of (view K k f) t).status; value = num (row_of (view K k f) t).value; action = (row_of (view K k f) t).action; mask = n })) (mask_view K laws k f full ls fit so t busy)
            ∙ sym (ap (λ (z : Option Decline). by_verdict z (grant_of (view K k f) (turn t) (picks K f)) (λ m. declined m)) v0);
        after! = does_view K laws k f full ls fit so t busy ∙ sym (ap (λ (z : Option Decline). by_verdict z (granted_to (view K k f) (turn t) (picks K f)) (λ m. view K k f)) v0);
        full! = full_freed R.line (cond_of C) (taken_in K R.line (at_line (line_at R.line C)) f) (applied_by (step_of R) t C K1) (full_applied (step_of R) t C K1 (full_threads k K1.threads full (length-set k.threads t (stepped R N (thread_at k t)))));
        sizes! = Rattle.runs.proofs.Lists.freed_sizes (cond_of C) (taken_in K R.line (at_line (line_at R.line C)) f) (applied_by (step_of R) t C K1) R.line;
      })
    where
      C : Request
      C = request_of (thread_at k t).call

      R : Row
      R = row_of (view K k f) t

      N : ℕ
      N = count_at k (cond_of (request_of (thread_at k t).call))

      K1 : Core
      K1 = with_threads k (set k.threads t (stepped (row_of (view K k f) t) (count_at k (cond_of (request_of (thread_at k t).call))) (thread_at k t)))

      v0 : verdict (view K k f) (turn t) ≡ none
      v0 = ap (λ (b : Bool). cond b (cond (is_idle (thread_at k t).stage) (some IdleThread) none) (some NoThread)) ins ∙ ap (λ (b : Bool). cond {A = Option Decline} b (some IdleThread) none) busy

      is : turned K k f t ≡ reports K (step_of (row_of (view K k f) t)) (performed_by K (step_of (row_of (view K k f) t)) t (request_of (thread_at k t).call) (with_threads k (set k.threads t (stepped (row_of (view K k f) t) (count_at k (cond_of (request_of (thread_at k t).call))) (thread_at k t)))) f)
      is = turned_busy K k f t (so.inv.fit t) (ltb-true t k.sizes.threads ins) busy

  turn_entered : (t : ℕ) → Entered K k f (turn t) (turned K k f t)
  turn_entered t = go (ltb t k.sizes.threads) (is_idle (thread_at k t).stage) refl refl
    where
      go : (a b : Bool) → ltb t k.sizes.threads ≡ a → is_idle (thread_at k t).stage ≡ b → Entered K k f (turn t) (turned K k f t)
      go true false p q = busy_entered t p q
      go false b p q =
          subst (λ (m : Moved K). Entered K k f (turn t) m) (sym (turned_out K k f t (ltb-false t k.sizes.threads p)))
          (still t NoThread (ap (λ (z : Bool). cond z (cond (is_idle (thread_at k t).stage) (some IdleThread) none) (some NoThread)) p))
      go true true p q =
          subst (λ (m : Moved K). Entered K k f (turn t) m)
          (sym (turned_idle K k f t (sight_of K k f t) (ltb-true t k.sizes.threads p) refl (ap (λ (b : Bool). cond {A = Option Step} b none (some (step_of (row_by (thread_at k t) (sight_of K k f t))))) q)))
          (still t IdleThread (ap (λ (z : Bool). cond z (cond (is_idle (thread_at k t).stage) (some IdleThread) none) (some NoThread)) p ∙ ap (λ (z : Bool). cond {A = Option Decline} z (some IdleThread) none) q))

  pub entered : (e : Event) → Entered K k f e (moves K k f e)
  entered (submission t n a b) = submission_entered t n a b
  entered (turn t) = turn_entered t

  -- what a turn asks of the lines and of a count is granted
  room : (e : LineEffect) (c : Option Call) → (uses_cond e ≡ true → has_cond (kind_of c) ≡ true) → (signals e ≡ true → count_at k (cond_of (request_of c)) < 4294967295) → CountFits e (condition_of c) k
  room keep_line c d h = tt
  room join_gate c d h = tt
  room leave_gate c d h = tt
  room join_cond c d h = tt
  room leave_cond c d h = tt
  room wake_gate c d h = tt
  room signal_one c d h = subst (λ (o : Option ℕ). Room o k) (sym (cond_some c (d refl))) (let z : count_at k (cond_of (request_of c)) < 4294967295 = h refl in omega arith)
  room signal_all c d h = subst (λ (o : Option ℕ). Room o k) (sym (cond_some c (d refl))) (let z : count_at k (cond_of (request_of c)) < 4294967295 = h refl in omega arith)

  moved_line : (e : LineEffect) (c : Option Call) (t : ℕ) → (uses_gate e ≡ true → has_gate (kind_of c) ≡ true) → (uses_cond e ≡ true → has_cond (kind_of c) ≡ true) → LineGranted K e (at_line (line_at e (request_of c))) f t → LineGranted K e (line_in e c) f t
  moved_line keep_line c t g d h = tt
  moved_line join_gate c t g d h = subst (λ (o : Option ℕ). JoinGranted K o f t) (sym (line_by join_gate c g d refl)) h
  moved_line leave_gate c t g d h = subst (λ (o : Option ℕ). LeaveGranted K o f t) (sym (line_by leave_gate c g d refl)) h
  moved_line join_cond c t g d h = subst (λ (o : Option ℕ). JoinGranted K o f t) (sym (line_by join_cond c g d refl)) h
  moved_line leave_cond c t g d h = subst (λ (o : Option ℕ). LeaveGranted K o f t) (sym (line_by leave_cond c g d refl)) h
  moved_line wake_gate c t g d h = subst (λ (o : Option ℕ). TakeGranted K o f) (sym (line_by wake_gate c g d refl)) h
  moved_line signal_one c t g d h = subst (λ (o : Option ℕ). TakeGranted K o f) (sym (line_by signal_one c g d refl)) h
  moved_line signal_all c t g d h = subst (λ (o : Option ℕ). TakeGranted K o f) (sym (line_by signal_all c g d refl)) h

  turn_granted : (t : ℕ) → TurnGranted K k f t
  turn_granted t s low e = go (is_idle (thread_at k t).stage) refl e
    where
      gate! : uses_gate (row_of (view K k f) t).line ≡ true → has_gate (kind_of (thread_at k t).call) ≡ true
      gate! h = imp_at (not (is_keep_gate (row_of (view K k f) t).gate) || uses_gate (row_of (view K k f) t).line) (has_gate (kind_of (thread_at k t).call)) (gate_has (thread_at k t).stage (kind_of (thread_at k t).call) (seen (view K k f) t) (so.inv.fit t)) (or_right (not (is_keep_gate (row_of (view K k f) t).gate)) (uses_gate (row_of (view K k f) t).line) h)

      cond! : uses_cond (row_of (view K k f) t).line ≡ true → has_cond (kind_of (thread_at k t).call) ≡ true
      cond! h = imp_at (uses_cond (row_of (view K k f) t).line) (has_cond (kind_of (thread_at k t).call)) (cond_has (thread_at k t).stage (kind_of (thread_at k t).call) (seen (view K k f) t) (so.inv.fit t)) h

      asked : is_idle (thread_at k t).stage ≡ false → reads_line (thread_at k t).stage ≡ true → AskGranted K (gate_line (thread_at k t).call) f
      asked busy h =
          let r = read! K laws k f full ls fit so t busy h in
          let g = gate_of (request_of (thread_at k t).call) in
          subst (λ (o : Option ℕ). AskGranted K o f) (sym (gate_line_lem (thread_at k t).call (reads_has (thread_at k t).stage (kind_of (thread_at k t).call) (seen (view K k f) t) (so.inv.fit t) h) ∙ at_in g r)) (ask_ok K laws (line_no g) f (line_low g r))

      with_row : is_idle (thread_at k t).stage ≡ false → (r : Row) → row_of (view K k f) t ≡ r → LineGranted K r.line (line_in r.line (thread_at k t).call) f t × CountFits r.line (condition_of (thread_at k t).call) k × (reads_line (thread_at k t).stage ≡ true → AskGranted K (gate_line (thread_at k t).call) f)
      with_row busy r q =
          subst (λ (x : Row). LineGranted K x.line (line_in x.line (thread_at k t).call) f t × CountFits x.line (condition_of (thread_at k t).call) k × (reads_line (thread_at k t).stage ≡ true → AskGranted K (gate_line (thread_at k t).call) f)) q (
            moved_line (row_of (view K k f) t).line (thread_at k t).call t gate! cond! (granted_now K laws k f full ls fit so t busy),
            room (row_of (view K k f) t).line (thread_at k t).call cond! (λ h. sig_fits (view K k f) t so busy h),
            asked busy,
          )

      go : (b : Bool) → is_idle (thread_at k t).stage ≡ b → cond b none (some (step_of (row_by (thread_at k t) (sight_of K k f t)))) ≡ some s
          → LineGranted K s.line (line_in s.line (thread_at k t).call) f t × CountFits s.line (condition_of (thread_at k t).call) k × (reads_line (thread_at k t).stage ≡ true → AskGranted K (gate_line (thread_at k t).call) f)
      go true p q = let z : ◌≡◌ {A = ℕ} 0 1 = cc in let y : ⊥ = omega arith in absurd y
      go false p q =
          let z : step_of (row_by (thread_at k t) (sight_of K k f t)) ≡ s = cc in
          subst (λ (x : Step). LineGranted K x.line (line_in x.line (thread_at k t).call) f t × CountFits x.line (condition_of (thread_at k t).call) k × (reads_line (thread_at k t).stage ≡ true → AskGranted K (gate_line (thread_at k t).call) f)) z
          (with_row p (row_by (thread_at k t) (sight_of K k f t)) (sym (row_same K k f t (so.inv.fit t))))

  pub event_granted : (e : Event) → EventGranted K k f e
  event_granted (submission t n a b) = tt
  event_granted (turn t) = turn_granted t
