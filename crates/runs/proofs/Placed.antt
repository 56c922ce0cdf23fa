-- A turn's part outside its record, by the call of the acting thread and by its request.
use Rattle.std.proofs.Common.{◌≡◌, ℕ, ◌<◌, Bool, true, false, cond, not, ◌&&◌, ◌||◌, eqb, List, [], get_or, set, Some as some, None as none, Option, sym, refl, ap, ◌∙◌}
use Rattle.lines.specs.Kinds.{Kind as LineKind}
use Rattle.stages.specs.Names.{CallKind, call_no, is_idle, is_alerted, has_gate, has_cond}
use Rattle.stages.specs.Names.CallKind.{NoCall, Acquire, Release, Wait, Signal, Broadcast, SemP, SemV, Alert, TestAlert, AlertP, AlertWait}
use Rattle.stages.specs.Calls.{request_of, kind_of, condition_of, gate_of, cond_of, is_empty, no_call}
use Rattle.stages.specs.Table.{Seen, Row, row, reads_bit, reads_line, reads_count}
use Rattle.thread.specs.Turns.{moved, state_of, stepped, step_of, row_by, out_new, own_flag}
use Rattle.stages.specs.declared.stage.Stage.{Stage}
use Rattle.stages.specs.declared.stage.Stage.TheVariants.{Idle, Try, Peek, LineSpin, Add, Test, Park, Parked, LeaveSpin, Leave, LeaveOut, Undo, UndoOut, Clear, Look, WakeSpin, Wake, WakeOut, Read, BlockSpin, Compare, BlockPark, Waiting, QuitSpin, Quit, BlockOut, Choose, SigSpin, Sig, SigOut, Set, Swap}
use Rattle.stages.specs.declared.call.Call.{Call}
use Rattle.stages.specs.declared.call.Call.TheVariants as call
use Rattle.thread.specs.declared.record.Thread.{Thread}
use Rattle.stages.specs.declared.step.Step.{Step}
use Rattle.stages.specs.declared.step.LineEffect.{LineEffect}
use Rattle.stages.specs.declared.step.LineEffect.TheVariants.{Keep as keep_line, JoinGate as join_gate, LeaveGate as leave_gate, JoinCondition as join_cond, LeaveCondition as leave_cond, WakeGate as wake_gate, SignalOne as signal_one, SignalAll as signal_all}
use Rattle.stages.specs.declared.step.GateEffect.{GateEffect}
use Rattle.stages.specs.declared.step.GateEffect.TheVariants.{Keep as keep_gate, Take as take_gate, Free as free_gate}
use Rattle.stages.specs.declared.step.FlagEffect.{FlagEffect}
use Rattle.stages.specs.declared.step.FlagEffect.TheVariants.{Keep as keep_flag, ClearOwn as clear_own, SetNamed as set_named}
use Rattle.stages.proofs.Finite.{mk_seen, imp, imp_at, no, table_at}
use Rattle.stages.specs.Pairs.{fits}
use Rattle.nub.specs.declared.Core.{Core}
use Rattle.nub.specs.Places.{at_line, gate_line, by_condition, mutex_of, alerted_of, line_in}
use Rattle.nub.specs.Model.{row_of, seen, line_at}
use Rattle.nub.specs.View.{view, by_line}
use Rattle.nub.specs.Work.{Done, with_threads, with_spin, with_gates, thread_at, count_at, set_at, bits_l, owners_l, alert_at, alert_named, applied, worked_in, taken_in, signalled_on, freed_in, freed_mask_on, mask_in, performed}
use Rattle.nub.specs.Turn.{sight_of, reports, steps, turned}
use Rattle.runs.proofs.Turned.{turned_in}
use Rattle.runs.proofs.Forms.{set_owner, owners_by, named_by, applied_by, freed_at, mask_at, performed_by}
use Rattle.runs.proofs.Small.{is_keep_line}
use Rattle.runs.proofs.Agree.{is_keep_gate}
use Rattle.runs.proofs.Ranges.{uses_gate, uses_cond, is_named, gate_has, cond_has, named_has}

pub gate_line_lem : (c : Option Call) → has_gate (kind_of c) ≡ true → gate_line c ≡ at_line (gate_of (request_of c))
gate_line_lem c h = ap (λ (b : Bool). cond b (at_line (gate_of (request_of c))) none) h

pub cond_some : (c : Option Call) → has_cond (kind_of c) ≡ true → condition_of c ≡ some (cond_of (request_of c))
cond_some none h = no h
cond_some (some (call.Acquire m)) h = no h
cond_some (some (call.Release m)) h = no h
cond_some (some (call.Wait m d)) h = refl
cond_some (some (call.Signal d)) h = refl
cond_some (some (call.Broadcast d)) h = refl
cond_some (some (call.P m)) h = no h
cond_some (some (call.V m)) h = no h
cond_some (some (call.Alert u)) h = no h
cond_some (some call.TestAlert) h = no h
cond_some (some (call.AlertP m)) h = no h
cond_some (some (call.AlertWait m d)) h = refl

owner_by : (c : Option Call) (l : List (Option ℕ)) (o : Option ℕ) → has_gate (kind_of c) ≡ true → set_at l (mutex_of c) o ≡ set_owner l (gate_of (request_of c)) o
owner_by none l o h = no h
owner_by (some (call.Acquire m)) l o h = refl
owner_by (some (call.Release m)) l o h = refl
owner_by (some (call.Wait m d)) l o h = refl
owner_by (some (call.Signal d)) l o h = no h
owner_by (some (call.Broadcast d)) l o h = no h
owner_by (some (call.P m)) l o h = refl
owner_by (some (call.V m)) l o h = refl
owner_by (some (call.Alert u)) l o h = no h
owner_by (some call.TestAlert) l o h = no h
owner_by (some (call.AlertP m)) l o h = refl
owner_by (some (call.AlertWait m d)) l o h = refl

owners_by_lem : (e : GateEffect) (t : ℕ) (c : Option Call) (l : List (Option ℕ)) → (is_keep_gate e ≡ false → has_gate (kind_of c) ≡ true) → owners_l e t (mutex_of c) l ≡ owners_by e t (gate_of (request_of c)) l
owners_by_lem keep_gate t c l h = refl
owners_by_lem take_gate t c l h = owner_by c l (some t) (h refl)
owners_by_lem free_gate t c l h = owner_by c l none (h refl)

bits_by : (e : GateEffect) (c : Option Call) (l : List Bool) → (is_keep_gate e ≡ false → has_gate (kind_of c) ≡ true) → bits_l e (gate_line c) l ≡ bits_l e (at_line (gate_of (request_of c))) l
bits_by keep_gate c l h = refl
bits_by take_gate c l h = ap (λ (o : Option ℕ). set_at l o true) (gate_line_lem c (h refl))
bits_by free_gate c l h = ap (λ (o : Option ℕ). set_at l o false) (gate_line_lem c (h refl))

named_by_lem : (e : FlagEffect) (c : Option Call) (l : List Thread) → (is_named e ≡ true → eqb (call_no (kind_of c)) 8 ≡ true) → alert_named e (alerted_of c) l ≡ named_by e (request_of c).x l
named_by_lem keep_flag c l h = refl
named_by_lem clear_own c l h = refl
named_by_lem set_named c l h = ap (λ (b : Bool). alert_at (cond b (some (request_of c).x) none) l) (h refl)

applied_by_lem : (s : Step) (t : ℕ) (c : Option Call) (k : Core) → (is_keep_gate s.gate ≡ false → has_gate (kind_of c) ≡ true) → (is_named s.flag ≡ true → eqb (call_no (kind_of c)) 8 ≡ true) → applied s t c k ≡ applied_by s t (request_of c) k
applied_by_lem s t c k g n =
    λ i. with_threads (with_gates (with_spin k (Rattle.stages.specs.Table.spin_new s.spin k.spin)) (bits_by s.gate c k.bits g i) (owners_by_lem s.gate t c k.owners g i)) (named_by_lem s.flag c k.threads n i)

pub line_by : (e : LineEffect) (c : Option Call) → (uses_gate e ≡ true → has_gate (kind_of c) ≡ true) → (uses_cond e ≡ true → has_cond (kind_of c) ≡ true) → is_keep_line e ≡ false → line_in e c ≡ at_line (line_at e (request_of c))
line_by keep_line c g d h = no (sym h)
line_by join_gate c g d h = gate_line_lem c (g refl)
line_by leave_gate c g d h = gate_line_lem c (g refl)
line_by join_cond c g d h = ap by_condition (cond_some c (d refl))
line_by leave_cond c g d h = ap by_condition (cond_some c (d refl))
line_by wake_gate c g d h = gate_line_lem c (g refl)
line_by signal_one c g d h = ap by_condition (cond_some c (d refl))
line_by signal_all c g d h = ap by_condition (cond_some c (d refl))

worked_by : (K : LineKind) (e : LineEffect) (c : Option Call) (f : K.State) (t : ℕ) → (uses_gate e ≡ true → has_gate (kind_of c) ≡ true) → (uses_cond e ≡ true → has_cond (kind_of c) ≡ true)
    → worked_in K e (line_in e c) f t ≡ worked_in K e (at_line (line_at e (request_of c))) f t
worked_by K keep_line c f t g d = refl
worked_by K join_gate c f t g d = ap (λ (o : Option ℕ). worked_in K join_gate o f t) (line_by join_gate c g d refl)
worked_by K leave_gate c f t g d = ap (λ (o : Option ℕ). worked_in K leave_gate o f t) (line_by leave_gate c g d refl)
worked_by K join_cond c f t g d = ap (λ (o : Option ℕ). worked_in K join_cond o f t) (line_by join_cond c g d refl)
worked_by K leave_cond c f t g d = ap (λ (o : Option ℕ). worked_in K leave_cond o f t) (line_by leave_cond c g d refl)
worked_by K wake_gate c f t g d = ap (λ (o : Option ℕ). worked_in K wake_gate o f t) (line_by wake_gate c g d refl)
worked_by K signal_one c f t g d = ap (λ (o : Option ℕ). worked_in K signal_one o f t) (line_by signal_one c g d refl)
worked_by K signal_all c f t g d = ap (λ (o : Option ℕ). worked_in K signal_all o f t) (line_by signal_all c g d refl)

taken_by : (K : LineKind) (e : LineEffect) (c : Option Call) (f : K.State) → (uses_gate e ≡ true → has_gate (kind_of c) ≡ true) → (uses_cond e ≡ true → has_cond (kind_of c) ≡ true)
    → taken_in K e (line_in e c) f ≡ taken_in K e (at_line (line_at e (request_of c))) f
taken_by K keep_line c f g d = refl
taken_by K join_gate c f g d = ap (λ (o : Option ℕ). taken_in K join_gate o f) (line_by join_gate c g d refl)
taken_by K leave_gate c f g d = ap (λ (o : Option ℕ). taken_in K leave_gate o f) (line_by leave_gate c g d refl)
taken_by K join_cond c f g d = ap (λ (o : Option ℕ). taken_in K join_cond o f) (line_by join_cond c g d refl)
taken_by K leave_cond c f g d = ap (λ (o : Option ℕ). taken_in K leave_cond o f) (line_by leave_cond c g d refl)
taken_by K wake_gate c f g d = ap (λ (o : Option ℕ). taken_in K wake_gate o f) (line_by wake_gate c g d refl)
taken_by K signal_one c f g d = ap (λ (o : Option ℕ). taken_in K signal_one o f) (line_by signal_one c g d refl)
taken_by K signal_all c f g d = ap (λ (o : Option ℕ). taken_in K signal_all o f) (line_by signal_all c g d refl)

freed_by_lem : (e : LineEffect) (c : Option Call) (us : List ℕ) (k : Core) → (uses_cond e ≡ true → has_cond (kind_of c) ≡ true) → freed_in e (condition_of c) us k ≡ freed_at e (cond_of (request_of c)) us k
freed_by_lem keep_line c us k d = refl
freed_by_lem join_gate c us k d = refl
freed_by_lem leave_gate c us k d = refl
freed_by_lem join_cond c us k d = refl
freed_by_lem leave_cond c us k d = refl
freed_by_lem wake_gate c us k d = refl
freed_by_lem signal_one c us k d = ap (λ (o : Option ℕ). signalled_on signal_one o us k) (cond_some c (d refl))
freed_by_lem signal_all c us k d = ap (λ (o : Option ℕ). signalled_on signal_all o us k) (cond_some c (d refl))

mask_by : (e : LineEffect) (c : Option Call) (us : List ℕ) (k : Core) → (uses_cond e ≡ true → has_cond (kind_of c) ≡ true) → mask_in e (condition_of c) us k ≡ mask_at e (cond_of (request_of c)) us k
mask_by keep_line c us k d = refl
mask_by join_gate c us k d = refl
mask_by leave_gate c us k d = refl
mask_by join_cond c us k d = refl
mask_by leave_cond c us k d = refl
mask_by wake_gate c us k d = refl
mask_by signal_one c us k d = ap (λ (o : Option ℕ). freed_mask_on o us k) (cond_some c (d refl))
mask_by signal_all c us k d = ap (λ (o : Option ℕ). freed_mask_on o us k) (cond_some c (d refl))

performed_by_lem : (K : LineKind) (s : Step) (t : ℕ) (c : Option Call) (k : Core) (f : K.State) → (is_keep_gate s.gate ≡ false → has_gate (kind_of c) ≡ true) → (is_named s.flag ≡ true → eqb (call_no (kind_of c)) 8 ≡ true)
    → (uses_gate s.line ≡ true → has_gate (kind_of c) ≡ true) → (uses_cond s.line ≡ true → has_cond (kind_of c) ≡ true) → performed K s t c k f ≡ performed_by K s t (request_of c) k f
performed_by_lem K s t c k f g n u d =
    λ i. record {
      core = core! i;
      lines = worked_by K s.line c f t u d i;
      mask = mask! i;
    }
  where
    us : taken_in K s.line (line_in s.line c) f ≡ taken_in K s.line (at_line (line_at s.line (request_of c))) f
    us = taken_by K s.line c f u d

    core! : freed_in s.line (condition_of c) (taken_in K s.line (line_in s.line c) f) (applied s t c k) ≡ freed_at s.line (cond_of (request_of c)) (taken_in K s.line (at_line (line_at s.line (request_of c))) f) (applied_by s t (request_of c) k)
    core! =
        freed_by_lem s.line c (taken_in K s.line (line_in s.line c) f) (applied s t c k) d
        ∙ ap (λ (us : List ℕ). freed_at s.line (cond_of (request_of c)) us (applied s t c k)) us
        ∙ ap (λ (z : Core). freed_at s.line (cond_of (request_of c)) (taken_in K s.line (at_line (line_at s.line (request_of c))) f) z) (applied_by_lem s t c k g n)

    mask! : mask_in s.line (condition_of c) (taken_in K s.line (line_in s.line c) f) (applied s t c k) ≡ mask_at s.line (cond_of (request_of c)) (taken_in K s.line (at_line (line_at s.line (request_of c))) f) (applied_by s t (request_of c) k)
    mask! =
        mask_by s.line c (taken_in K s.line (line_in s.line c) f) (applied s t c k) d
        ∙ ap (λ (us : List ℕ). mask_at s.line (cond_of (request_of c)) us (applied s t c k)) us
        ∙ ap (λ (z : Core). mask_at s.line (cond_of (request_of c)) (taken_in K s.line (at_line (line_at s.line (request_of c))) f) z) (applied_by_lem s t c k g n)

-- a row reads no more than its stage does
row_reads : (st : Stage) (k : CallKind) (a b b' c d d' e e' g : Bool) → (reads_bit st ≡ true → b ≡ b') → (reads_line st ≡ true → d ≡ d') → (reads_count st ≡ true → e ≡ e')
    → row st k (mk_seen a b c d e g) ≡ row st k (mk_seen a b' c d' e' g)
row_reads Idle k a b b' c d d' e e' g p q r = refl
row_reads Try k a b b' c d d' e e' g p q r = ap (λ (z : Bool). row Try k (mk_seen a z c d e g)) (p refl)
row_reads Peek k a b b' c d d' e e' g p q r = refl
row_reads LineSpin k a b b' c d d' e e' g p q r = refl
row_reads Add k a b b' c d d' e e' g p q r = refl
row_reads Test k a b b' c d d' e e' g p q r = ap (λ (z : Bool). row Test k (mk_seen a z c d e g)) (p refl)
row_reads Park k a b b' c d d' e e' g p q r = refl
row_reads Parked k a b b' c d d' e e' g p q r = refl
row_reads LeaveSpin k a b b' c d d' e e' g p q r = refl
row_reads Leave k a b b' c d d' e e' g p q r = refl
row_reads LeaveOut k a b b' c d d' e e' g p q r = refl
row_reads Undo k a b b' c d d' e e' g p q r = refl
row_reads UndoOut k a b b' c d d' e e' g p q r = refl
row_reads Clear k a b b' c d d' e e' g p q r = refl
row_reads Look k a b b' c d d' e e' g p q r = ap (λ (z : Bool). row Look k (mk_seen a b c z e g)) (q refl)
row_reads WakeSpin k a b b' c d d' e e' g p q r = refl
row_reads Wake k a b b' c d d' e e' g p q r = refl
row_reads WakeOut k a b b' c d d' e e' g p q r = refl
row_reads Read k a b b' c d d' e e' g p q r = refl
row_reads BlockSpin k a b b' c d d' e e' g p q r = refl
row_reads Compare k a b b' c d d' e e' g p q r = ap (λ (z : Bool). row Compare k (mk_seen a b c d z g)) (r refl)
row_reads BlockPark k a b b' c d d' e e' g p q r = refl
row_reads Waiting k a b b' c d d' e e' g p q r = refl
row_reads QuitSpin k a b b' c d d' e e' g p q r = refl
row_reads Quit k a b b' c d d' e e' g p q r = refl
row_reads BlockOut k a b b' c d d' e e' g p q r = refl
row_reads Choose k a b b' c d d' e e' g p q r = refl
row_reads SigSpin k a b b' c d d' e e' g p q r = refl
row_reads Sig k a b b' c d d' e e' g p q r = refl
row_reads SigOut k a b b' c d d' e e' g p q r = refl
row_reads Set k a b b' c d d' e e' g p q r = refl
row_reads Swap k a b b' c d d' e e' g p q r = refl

test_reads : Stage → CallKind → Seen → Bool
test_reads st k v = imp (reads_bit st || reads_line st) (has_gate k) && imp (reads_count st) (has_cond k) && imp (row st k v).keep (reads_count st)

reads_ok : (st : Stage) (k : CallKind) (v : Seen) → fits st k ≡ true → test_reads st k v ≡ true
unfolding test_reads
reads_ok = table_at test_reads (record { at_idle = refl; at_try = refl; at_peek = refl; at_line_spin = refl; at_add = refl; at_test = refl; at_park = refl; at_parked = refl; at_leave_spin = refl; at_leave = refl; at_leave_out = refl; at_undo = refl; at_undo_out = refl; at_clear = refl; at_look = refl; at_wake_spin = refl; at_wake = refl; at_wake_out = refl; at_read = refl; at_block_spin = refl; at_compare = refl; at_block_park = refl; at_waiting = refl; at_quit_spin = refl; at_quit = refl; at_block_out = refl; at_choose = refl; at_sig_spin = refl; at_sig = refl; at_sig_out = refl; at_set = refl; at_swap = refl })

and_1 : (a b c : Bool) → (a && b && c) ≡ true → a ≡ true
and_1 true b c h = refl
and_1 false b c h = h

and_2 : (a b c : Bool) → (a && b && c) ≡ true → b ≡ true
and_2 true true c h = refl
and_2 true false c h = h
and_2 false b c h = no h

and_3 : (a b c : Bool) → (a && b && c) ≡ true → c ≡ true
and_3 true true c h = h
and_3 true false c h = no h
and_3 false b c h = no h

or_in_l : (a b : Bool) → a ≡ true → (a || b) ≡ true
or_in_l true b h = refl
or_in_l false b h = no h

or_in_r : (a b : Bool) → b ≡ true → (a || b) ≡ true
or_in_r true b h = refl
or_in_r false b h = h

and_true : (a b c : Bool) → a ≡ true → b ≡ c → (a && b) ≡ c
and_true true b c h e = e
and_true false b c h e = no h

cond_true : (a : Bool) (m n o : ℕ) → a ≡ true → m ≡ n → cond a m o ≡ n
cond_true true m n o h e = e
cond_true false m n o h e = no h

-- the record's state after its row
pub state_stepped : (r : Row) (n : ℕ) (h : Thread) → state_of (stepped r n h) ≡ moved r n (state_of h)
state_stepped r n h = λ i. record { stage = r.next; call = go (is_idle r.next) i; kept = cond r.keep n h.kept; out = cond (is_idle r.next) none (out_new r.out h.outcome) }
  where
    go : (b : Bool) → request_of (cond b none h.call) ≡ cond b no_call (request_of h.call)
    go true = refl
    go false = refl

-- one turn of a thread that has a call, at a stage that fits it
module _ (K : LineKind) (k : Core) (f : K.State) (t : ℕ) (fit : fits (thread_at k t).stage (kind_of (thread_at k t).call) ≡ true) where
  abbrev H : Thread
  H = thread_at k t

  abbrev C : Option Call
  C = (thread_at k t).call

  abbrev ST : Stage
  ST = (thread_at k t).stage

  abbrev R : Row
  R = row_of (view K k f) t

  abbrev N : ℕ
  N = count_at k (cond_of (request_of (thread_at k t).call))

  ok : test_reads ST (kind_of C) (seen (view K k f) t) ≡ true
  ok = reads_ok ST (kind_of C) (seen (view K k f) t) fit

  reads_gate : (reads_bit ST || reads_line ST) ≡ true → gate_line C ≡ at_line (gate_of (request_of C))
  unfolding test_reads
  reads_gate h = gate_line_lem C (imp_at (reads_bit ST || reads_line ST) (has_gate (kind_of C)) (and_1 (imp (reads_bit ST || reads_line ST) (has_gate (kind_of C))) (imp (reads_count ST) (has_cond (kind_of C))) (imp R.keep (reads_count ST)) ok) h)

  reads_cond : reads_count ST ≡ true → condition_of C ≡ some (cond_of (request_of C))
  unfolding test_reads
  reads_cond h = cond_some C (imp_at (reads_count ST) (has_cond (kind_of C)) (and_2 (imp (reads_bit ST || reads_line ST) (has_gate (kind_of C))) (imp (reads_count ST) (has_cond (kind_of C))) (imp R.keep (reads_count ST)) ok) h)

  keeps_count : R.keep ≡ true → reads_count ST ≡ true
  unfolding test_reads
  keeps_count h = imp_at R.keep (reads_count ST) (and_3 (imp (reads_bit ST || reads_line ST) (has_gate (kind_of C))) (imp (reads_count ST) (has_cond (kind_of C))) (imp R.keep (reads_count ST)) ok) h

  count_same : reads_count ST ≡ true → (sight_of K k f t).count ≡ N
  count_same h = cond_true (reads_count ST) (by_line 0 (count_at k) (condition_of C)) N 0 h (ap (by_line 0 (count_at k)) (reads_cond h))

  pub row_same : row_by (thread_at k t) (sight_of K k f t) ≡ row_of (view K k f) t
  row_same =
      row_reads ST (kind_of C) k.spin (sight_of K k f t).bit (seen (view K k f) t).bit H.alert (sight_of K k f t).empty (seen (view K k f) t).empty
      (eqb H.kept (sight_of K k f t).count) (seen (view K k f) t).same (is_alerted H.outcome)
      (λ h. and_true (reads_bit ST) (by_line false (λ n. get_or k.bits n false) (gate_line C)) (seen (view K k f) t).bit h (ap (by_line false (λ n. get_or k.bits n false)) (reads_gate (or_in_l (reads_bit ST) (reads_line ST) h))))
      (λ h. and_true (reads_line ST) (is_empty (by_line [] (K.line f) (gate_line C))) (seen (view K k f) t).empty h (ap (λ (o : Option ℕ). is_empty (by_line [] (K.line f) o)) (reads_gate (or_in_r (reads_bit ST) (reads_line ST) h))))
      (λ h. ap (eqb H.kept) (count_same h))

  kept_same : (b : Bool) → R.keep ≡ b → cond b (sight_of K k f t).count H.kept ≡ cond b N H.kept
  kept_same true h = count_same (keeps_count h)
  kept_same false h = refl

  pub record_same : stepped (row_by (thread_at k t) (sight_of K k f t)) (sight_of K k f t).count (thread_at k t) ≡ stepped (row_of (view K k f) t) (count_at k (cond_of (request_of (thread_at k t).call))) (thread_at k t)
  record_same =
      ap (λ (r : Row). stepped r (sight_of K k f t).count H) row_same
      ∙ (λ i. record {
        alert = own_flag R.flag H.alert;
        stage = R.next;
        call = cond (is_idle R.next) none H.call;
        kept = kept_same R.keep refl i;
        outcome = cond (is_idle R.next) none (out_new R.out H.outcome);
      })

  pub turned_busy : t < k.sizes.threads → is_idle (thread_at k t).stage ≡ false
      → turned K k f t ≡ reports K (step_of (row_of (view K k f) t)) (performed_by K (step_of (row_of (view K k f) t)) t (request_of (thread_at k t).call) (with_threads k (set k.threads t (stepped (row_of (view K k f) t) (count_at k (cond_of (request_of (thread_at k t).call))) (thread_at k t)))) f)
  turned_busy low busy =
      turned_in K k f t low
      ∙ ap (λ (b : Bool). steps K (cond b none (some (step_of (row_by H (sight_of K k f t))))) t C k (with_threads k (set k.threads t (cond b H (stepped (row_by H (sight_of K k f t)) (sight_of K k f t).count H)))) f) busy
      ∙ ap (λ (r : Row). reports K (step_of r) (performed K (step_of r) t C (with_threads k (set k.threads t (stepped (row_by H (sight_of K k f t)) (sight_of K k f t).count H))) f)) row_same
      ∙ ap (λ (h : Thread). reports K (step_of R) (performed K (step_of R) t C (with_threads k (set k.threads t h)) f)) record_same
      ∙ ap (λ (d : Done K). reports K (step_of R) d)
      (performed_by_lem K (step_of R) t C (with_threads k (set k.threads t (stepped R N H))) f
      (λ h. gate! (or_in_l (not (is_keep_gate R.gate)) (uses_gate R.line) (keeps_not R.gate h)))
      (λ h. imp_at (is_named R.flag) (eqb (call_no (kind_of C)) 8) (named_has ST (kind_of C) (seen (view K k f) t) fit) h)
      (λ h. gate! (or_in_r (not (is_keep_gate R.gate)) (uses_gate R.line) h))
      (λ h. imp_at (uses_cond R.line) (has_cond (kind_of C)) (cond_has ST (kind_of C) (seen (view K k f) t) fit) h))
    where
      keeps_not : (e : GateEffect) → is_keep_gate e ≡ false → not (is_keep_gate e) ≡ true
      keeps_not e h = ap not h

      gate! : (not (is_keep_gate R.gate) || uses_gate R.line) ≡ true → has_gate (kind_of C) ≡ true
      gate! h = imp_at (not (is_keep_gate R.gate) || uses_gate R.line) (has_gate (kind_of C)) (gate_has ST (kind_of C) (seen (view K k f) t) fit) h

-- the request of the call that a submission means
pub request_by_lem : (k : CallKind) (a b : ℕ) → request_of (Rattle.nub.specs.Turn.call_by k a b) ≡ Rattle.nub.specs.Model.request_by k a b
request_by_lem NoCall a b = refl
request_by_lem Acquire a b = refl
request_by_lem Release a b = refl
request_by_lem Wait a b = refl
request_by_lem Signal a b = refl
request_by_lem Broadcast a b = refl
request_by_lem SemP a b = refl
request_by_lem SemV a b = refl
request_by_lem Alert a b = refl
request_by_lem TestAlert a b = refl
request_by_lem AlertP a b = refl
request_by_lem AlertWait a b = refl
