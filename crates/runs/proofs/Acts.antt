-- What the rows report, against the published actions: tested at every stage, call and sight.
use Rattle.std.proofs.Common.{◌≡◌, ℕ, Bool, true, false, cond, not, ◌&&◌, ◌||◌, eqb, leb, Some as some, None as none, Option, sym, refl, ap, ◌∙◌}
use Rattle.std.proofs.lemmas.Bool.{eqb-true}
use mathlib.Core.Bool.{beq}
use Rattle.stages.specs.Names.{stage_no, is_idle, is_wait, is_alert_wait, is_sem, num, CallKind, action_no}
use Rattle.stages.specs.Calls.{cond_of, elem, Request}
use Rattle.stages.specs.declared.stage.Stage.{Stage}
use Rattle.stages.specs.declared.action.Action.{Action}
use Rattle.stages.specs.Table.{Seen, OutcomeEffect, row, is_between}
use Rattle.stages.specs.Marks.{marks}
use Rattle.stages.specs.declared.step.LineEffect.{LineEffect}
use Rattle.stages.specs.declared.step.GateEffect.{GateEffect}
use Rattle.stages.specs.declared.step.FlagEffect.{FlagEffect}
use Rattle.stages.specs.declared.step.LineEffect.TheVariants.{Keep as keep_line, JoinGate as join_gate, LeaveGate as leave_gate, JoinCondition as join_cond, LeaveCondition as leave_cond, WakeGate as wake_gate, SignalOne as signal_one, SignalAll as signal_all}
use Rattle.stages.specs.declared.step.GateEffect.TheVariants.{Keep as keep_gate, Take as take_gate, Free as free_gate}
use Rattle.stages.specs.declared.step.FlagEffect.TheVariants.{Keep as keep_flag, ClearOwn as clear_own, SetNamed as set_named}
use Rattle.stages.specs.Table.OutcomeEffect.{keep_outcome, set_signalled, set_alerted}
use Rattle.stages.specs.declared.marks.Stands.TheVariants.{AtGate as at_gate, AtCondition as at_cond}
use Rattle.stages.proofs.Finite.{table_at, imp, no}
use Rattle.stages.specs.Pairs.{fits}
use Rattle.runs.proofs.Small.{is_stand}
use Rattle.runs.proofs.Agree.{owns_now, is_quit, is_keep_gate, is_standing}
use Rattle.runs.specs.Published.{set_waits, set_alert, Published, is_action, nexts, total, answers, is_finished, done_by, perform}
use Rattle.nub.specs.Model.{signals, flags_new}
use Rattle.stages.specs.declared.stage.Stage.TheVariants.{Try, Choose}
use Rattle.stages.specs.Names.CallKind.{NoCall, Acquire, Release, Wait, Signal, Broadcast, SemP, SemV, Alert, TestAlert, AlertP, AlertWait}
use Rattle.stages.specs.declared.action.Action.TheVariants.{Acquire as acquire, Release as release, Enqueue as enqueue, Resume as resume, ChooseOutcome as choose_outcome, GetMutex as get_mutex, Signal as signal, Broadcast as broadcast, P as sem_p, V as sem_v, Alert as alert, TestAlert as test_alert, AlertPReturns as return_p, AlertPRaises as raise_p}

-- how many actions of its call a thread has done
abbrev pub done_at : Stage → CallKind → ℕ
done_at st NoCall = 0
done_at st Acquire = 0
done_at st Release = num (not (eqb (stage_no st) 13))
done_at st Wait = num (not (eqb (stage_no st) 18))
done_at st Signal = num (eqb (stage_no st) 29)
done_at st Broadcast = num (eqb (stage_no st) 29)
done_at st SemP = 0
done_at st SemV = num (not (eqb (stage_no st) 13))
done_at st Alert = 0
done_at st TestAlert = 0
done_at st AlertP = 0
done_at st AlertWait = cond (eqb (stage_no st) 18) 0 (cond (leb (stage_no st) 12 || eqb (stage_no st) 25) 2 1)

-- whether the thread is in its condition's set, by what it sees
abbrev pub in_set : Stage → CallKind → Bool → Bool
in_set st k same = is_stand at_cond (marks st).line || (is_between st k && same)

abbrev pub out_said : OutcomeEffect → Bool → Bool
out_said keep_outcome q = q
out_said set_signalled q = false
out_said set_alerted q = true

pub data HolderE : Type 0 where
  h_keep h_take h_drop : HolderE

pub data SetE : Type 0 where
  s_keep s_enter s_leave s_signal s_broadcast : SetE

abbrev pub said_v : (Option Action) → Bool → Bool → Bool → Bool
said_v none q f w = q
said_v (some acquire) q f w = q
said_v (some release) q f w = q
said_v (some enqueue) q f w = q
said_v (some resume) q f w = q
said_v (some choose_outcome) q f w = w
said_v (some get_mutex) q f w = q
said_v (some signal) q f w = q
said_v (some broadcast) q f w = q
said_v (some sem_p) q f w = q
said_v (some sem_v) q f w = q
said_v (some alert) q f w = q
said_v (some test_alert) q f w = f
said_v (some return_p) q f w = false
said_v (some raise_p) q f w = true

abbrev pub holder_e : (Option Action) → HolderE
holder_e none = h_keep
holder_e (some acquire) = h_take
holder_e (some release) = h_drop
holder_e (some enqueue) = h_drop
holder_e (some resume) = h_take
holder_e (some choose_outcome) = h_keep
holder_e (some get_mutex) = h_take
holder_e (some signal) = h_keep
holder_e (some broadcast) = h_keep
holder_e (some sem_p) = h_keep
holder_e (some sem_v) = h_keep
holder_e (some alert) = h_keep
holder_e (some test_alert) = h_keep
holder_e (some return_p) = h_keep
holder_e (some raise_p) = h_keep

abbrev pub avail_e : (Option Action) → GateEffect
avail_e none = keep_gate
avail_e (some acquire) = keep_gate
avail_e (some release) = keep_gate
avail_e (some enqueue) = keep_gate
avail_e (some resume) = keep_gate
avail_e (some choose_outcome) = keep_gate
avail_e (some get_mutex) = keep_gate
avail_e (some signal) = keep_gate
avail_e (some broadcast) = keep_gate
avail_e (some sem_p) = take_gate
avail_e (some sem_v) = free_gate
avail_e (some alert) = keep_gate
avail_e (some test_alert) = keep_gate
avail_e (some return_p) = take_gate
avail_e (some raise_p) = keep_gate

abbrev pub flag_of : (Option Action) → Bool → FlagEffect
flag_of none w = keep_flag
flag_of (some acquire) w = keep_flag
flag_of (some release) w = keep_flag
flag_of (some enqueue) w = keep_flag
flag_of (some resume) w = keep_flag
flag_of (some choose_outcome) w = cond w clear_own keep_flag
flag_of (some get_mutex) w = keep_flag
flag_of (some signal) w = keep_flag
flag_of (some broadcast) w = keep_flag
flag_of (some sem_p) w = keep_flag
flag_of (some sem_v) w = keep_flag
flag_of (some alert) w = set_named
flag_of (some test_alert) w = clear_own
flag_of (some return_p) w = keep_flag
flag_of (some raise_p) w = clear_own

abbrev pub set_e : (Option Action) → SetE
set_e none = s_keep
set_e (some acquire) = s_keep
set_e (some release) = s_keep
set_e (some enqueue) = s_enter
set_e (some resume) = s_keep
set_e (some choose_outcome) = s_leave
set_e (some get_mutex) = s_keep
set_e (some signal) = s_signal
set_e (some broadcast) = s_broadcast
set_e (some sem_p) = s_keep
set_e (some sem_v) = s_keep
set_e (some alert) = s_keep
set_e (some test_alert) = s_keep
set_e (some return_p) = s_keep
set_e (some raise_p) = s_keep

abbrev pub gate_eq : GateEffect → GateEffect → Bool
gate_eq keep_gate b = is_keep_gate b
gate_eq take_gate b = Rattle.stages.specs.Marks.is_take b
gate_eq free_gate b = Rattle.stages.specs.Marks.is_free b

abbrev pub flag_eq : FlagEffect → FlagEffect → Bool
flag_eq keep_flag keep_flag = true
flag_eq keep_flag clear_own = false
flag_eq keep_flag set_named = false
flag_eq clear_own keep_flag = false
flag_eq clear_own clear_own = true
flag_eq clear_own set_named = false
flag_eq set_named keep_flag = false
flag_eq set_named clear_own = false
flag_eq set_named set_named = true

pub flag_eq_lem : (a b : FlagEffect) → flag_eq a b ≡ true → a ≡ b
flag_eq_lem keep_flag keep_flag h = refl
flag_eq_lem keep_flag clear_own h = no h
flag_eq_lem keep_flag set_named h = no h
flag_eq_lem clear_own keep_flag h = no h
flag_eq_lem clear_own clear_own h = refl
flag_eq_lem clear_own set_named h = no h
flag_eq_lem set_named keep_flag h = no h
flag_eq_lem set_named clear_own h = no h
flag_eq_lem set_named set_named h = refl

pub gate_eq_lem : (a b : GateEffect) → gate_eq a b ≡ true → a ≡ b
gate_eq_lem keep_gate keep_gate h = refl
gate_eq_lem keep_gate take_gate h = no h
gate_eq_lem keep_gate free_gate h = no h
gate_eq_lem take_gate keep_gate h = no h
gate_eq_lem take_gate take_gate h = refl
gate_eq_lem take_gate free_gate h = no h
gate_eq_lem free_gate keep_gate h = no h
gate_eq_lem free_gate take_gate h = no h
gate_eq_lem free_gate free_gate h = refl

-- the gate's effect, the holder's, and whether a wait stands at Clear before and after
abbrev pub holder_ok : HolderE → GateEffect → Bool → Bool → Bool
holder_ok h_keep keep_gate b a = not b && not a
holder_ok h_keep take_gate b a = false
holder_ok h_keep free_gate b a = b && not a
holder_ok h_take keep_gate b a = false
holder_ok h_take take_gate b a = not b && not a
holder_ok h_take free_gate b a = false
holder_ok h_drop keep_gate b a = not b && a
holder_ok h_drop take_gate b a = false
holder_ok h_drop free_gate b a = not b && not a

abbrev pub is_hKeep : HolderE → Bool
is_hKeep h_keep = true
is_hKeep h_take = false
is_hKeep h_drop = false

abbrev pub is_hDrop : HolderE → Bool
is_hDrop h_keep = false
is_hDrop h_take = false
is_hDrop h_drop = true

abbrev pub at_clear : Stage → CallKind → Bool
at_clear st k = is_wait k && eqb (stage_no st) 13

abbrev pub set_new : SetE → Bool → Bool
set_new s_keep b = b
set_new s_enter b = true
set_new s_leave b = false
set_new s_signal b = b
set_new s_broadcast b = b

abbrev pub wake_ok : SetE → LineEffect → Bool
wake_ok s_keep e = not (signals e)
wake_ok s_enter e = not (signals e)
wake_ok s_leave e = not (signals e)
wake_ok s_signal keep_line = false
wake_ok s_signal join_gate = false
wake_ok s_signal leave_gate = false
wake_ok s_signal join_cond = false
wake_ok s_signal leave_cond = false
wake_ok s_signal wake_gate = false
wake_ok s_signal signal_one = true
wake_ok s_signal signal_all = false
wake_ok s_broadcast keep_line = false
wake_ok s_broadcast join_gate = false
wake_ok s_broadcast leave_gate = false
wake_ok s_broadcast join_cond = false
wake_ok s_broadcast leave_cond = false
wake_ok s_broadcast wake_gate = false
wake_ok s_broadcast signal_one = false
wake_ok s_broadcast signal_all = true

test_next_ok : Stage → CallKind → Seen → Bool
test_next_ok st k v = imp (is_action (row st k v).action) (elem (action_no (row st k v).action) (nexts k (done_at st k)))

pub next_ok : (st : Stage) (k : CallKind) (v : Seen) → fits st k ≡ true → (imp (is_action (row st k v).action) (elem (action_no (row st k v).action) (nexts k (done_at st k)))) ≡ true
unfolding test_next_ok
next_ok = table_at test_next_ok (record { at_idle = refl; at_try = refl; at_peek = refl; at_line_spin = refl; at_add = refl; at_test = refl; at_park = refl; at_parked = refl; at_leave_spin = refl; at_leave = refl; at_leave_out = refl; at_undo = refl; at_undo_out = refl; at_clear = refl; at_look = refl; at_wake_spin = refl; at_wake = refl; at_wake_out = refl; at_read = refl; at_block_spin = refl; at_compare = refl; at_block_park = refl; at_waiting = refl; at_quit_spin = refl; at_quit = refl; at_block_out = refl; at_choose = refl; at_sig_spin = refl; at_sig = refl; at_sig_out = refl; at_set = refl; at_swap = refl })

test_fin_ok : Stage → CallKind → Seen → Bool
test_fin_ok st k v = imp (not (is_idle st)) (beq (is_finished (row st k v).status) (is_idle (row st k v).next))

pub fin_ok : (st : Stage) (k : CallKind) (v : Seen) → fits st k ≡ true → (imp (not (is_idle st)) (beq (is_finished (row st k v).status) (is_idle (row st k v).next))) ≡ true
unfolding test_fin_ok
fin_ok = table_at test_fin_ok (record { at_idle = refl; at_try = refl; at_peek = refl; at_line_spin = refl; at_add = refl; at_test = refl; at_park = refl; at_parked = refl; at_leave_spin = refl; at_leave = refl; at_leave_out = refl; at_undo = refl; at_undo_out = refl; at_clear = refl; at_look = refl; at_wake_spin = refl; at_wake = refl; at_wake_out = refl; at_read = refl; at_block_spin = refl; at_compare = refl; at_block_park = refl; at_waiting = refl; at_quit_spin = refl; at_quit = refl; at_block_out = refl; at_choose = refl; at_sig_spin = refl; at_sig = refl; at_sig_out = refl; at_set = refl; at_swap = refl })

test_complete_ok : Stage → CallKind → Seen → Bool
test_complete_ok st k v = imp (is_finished (row st k v).status) (eqb (done_by (row st k v).action (done_at st k)) (total k))

pub complete_ok : (st : Stage) (k : CallKind) (v : Seen) → fits st k ≡ true → (imp (is_finished (row st k v).status) (eqb (done_by (row st k v).action (done_at st k)) (total k))) ≡ true
unfolding test_complete_ok
complete_ok = table_at test_complete_ok (record { at_idle = refl; at_try = refl; at_peek = refl; at_line_spin = refl; at_add = refl; at_test = refl; at_park = refl; at_parked = refl; at_leave_spin = refl; at_leave = refl; at_leave_out = refl; at_undo = refl; at_undo_out = refl; at_clear = refl; at_look = refl; at_wake_spin = refl; at_wake = refl; at_wake_out = refl; at_read = refl; at_block_spin = refl; at_compare = refl; at_block_park = refl; at_waiting = refl; at_quit_spin = refl; at_quit = refl; at_block_out = refl; at_choose = refl; at_sig_spin = refl; at_sig = refl; at_sig_out = refl; at_set = refl; at_swap = refl })

test_done_ok : Stage → CallKind → Seen → Bool
test_done_ok st k v = imp (not (is_idle (row st k v).next)) (eqb (done_by (row st k v).action (done_at st k)) (done_at (row st k v).next k))

pub done_ok : (st : Stage) (k : CallKind) (v : Seen) → fits st k ≡ true → (imp (not (is_idle (row st k v).next)) (eqb (done_by (row st k v).action (done_at st k)) (done_at (row st k v).next k))) ≡ true
unfolding test_done_ok
done_ok = table_at test_done_ok (record { at_idle = refl; at_try = refl; at_peek = refl; at_line_spin = refl; at_add = refl; at_test = refl; at_park = refl; at_parked = refl; at_leave_spin = refl; at_leave = refl; at_leave_out = refl; at_undo = refl; at_undo_out = refl; at_clear = refl; at_look = refl; at_wake_spin = refl; at_wake = refl; at_wake_out = refl; at_read = refl; at_block_spin = refl; at_compare = refl; at_block_park = refl; at_waiting = refl; at_quit_spin = refl; at_quit = refl; at_block_out = refl; at_choose = refl; at_sig_spin = refl; at_sig = refl; at_sig_out = refl; at_set = refl; at_swap = refl })

test_told_ok : Stage → CallKind → Seen → Bool
test_told_ok st k v = imp (is_finished (row st k v).status) (beq (row st k v).value (answers k (said_v (row st k v).action v.quit v.flag (in_set st k v.same))))

pub told_ok : (st : Stage) (k : CallKind) (v : Seen) → fits st k ≡ true → (imp (is_finished (row st k v).status) (beq (row st k v).value (answers k (said_v (row st k v).action v.quit v.flag (in_set st k v.same))))) ≡ true
unfolding test_told_ok
told_ok = table_at test_told_ok (record { at_idle = refl; at_try = refl; at_peek = refl; at_line_spin = refl; at_add = refl; at_test = refl; at_park = refl; at_parked = refl; at_leave_spin = refl; at_leave = refl; at_leave_out = refl; at_undo = refl; at_undo_out = refl; at_clear = refl; at_look = refl; at_wake_spin = refl; at_wake = refl; at_wake_out = refl; at_read = refl; at_block_spin = refl; at_compare = refl; at_block_park = refl; at_waiting = refl; at_quit_spin = refl; at_quit = refl; at_block_out = refl; at_choose = refl; at_sig_spin = refl; at_sig = refl; at_sig_out = refl; at_set = refl; at_swap = refl })

test_said_ok : Stage → CallKind → Seen → Bool
test_said_ok st k v = imp (not (is_idle (row st k v).next)) (beq (said_v (row st k v).action v.quit v.flag (in_set st k v.same)) (out_said (row st k v).out v.quit))

pub said_ok : (st : Stage) (k : CallKind) (v : Seen) → fits st k ≡ true → (imp (not (is_idle (row st k v).next)) (beq (said_v (row st k v).action v.quit v.flag (in_set st k v.same)) (out_said (row st k v).out v.quit))) ≡ true
unfolding test_said_ok
said_ok = table_at test_said_ok (record { at_idle = refl; at_try = refl; at_peek = refl; at_line_spin = refl; at_add = refl; at_test = refl; at_park = refl; at_parked = refl; at_leave_spin = refl; at_leave = refl; at_leave_out = refl; at_undo = refl; at_undo_out = refl; at_clear = refl; at_look = refl; at_wake_spin = refl; at_wake = refl; at_wake_out = refl; at_read = refl; at_block_spin = refl; at_compare = refl; at_block_park = refl; at_waiting = refl; at_quit_spin = refl; at_quit = refl; at_block_out = refl; at_choose = refl; at_sig_spin = refl; at_sig = refl; at_sig_out = refl; at_set = refl; at_swap = refl })

test_choose_ok : Stage → CallKind → Seen → Bool
test_choose_ok st k v = imp (eqb (action_no (row st k v).action) 5) (beq (row st k v).value (in_set st k v.same))

pub choose_ok : (st : Stage) (k : CallKind) (v : Seen) → fits st k ≡ true → (imp (eqb (action_no (row st k v).action) 5) (beq (row st k v).value (in_set st k v.same))) ≡ true
unfolding test_choose_ok
choose_ok = table_at test_choose_ok (record { at_idle = refl; at_try = refl; at_peek = refl; at_line_spin = refl; at_add = refl; at_test = refl; at_park = refl; at_parked = refl; at_leave_spin = refl; at_leave = refl; at_leave_out = refl; at_undo = refl; at_undo_out = refl; at_clear = refl; at_look = refl; at_wake_spin = refl; at_wake = refl; at_wake_out = refl; at_read = refl; at_block_spin = refl; at_compare = refl; at_block_park = refl; at_waiting = refl; at_quit_spin = refl; at_quit = refl; at_block_out = refl; at_choose = refl; at_sig_spin = refl; at_sig = refl; at_sig_out = refl; at_set = refl; at_swap = refl })

test_choose_flag : Stage → CallKind → Seen → Bool
test_choose_flag st k v = imp (eqb (action_no (row st k v).action) 5 && in_set st k v.same) (is_quit st)

pub choose_flag : (st : Stage) (k : CallKind) (v : Seen) → fits st k ≡ true → (imp (eqb (action_no (row st k v).action) 5 && in_set st k v.same) (is_quit st)) ≡ true
unfolding test_choose_flag
choose_flag = table_at test_choose_flag (record { at_idle = refl; at_try = refl; at_peek = refl; at_line_spin = refl; at_add = refl; at_test = refl; at_park = refl; at_parked = refl; at_leave_spin = refl; at_leave = refl; at_leave_out = refl; at_undo = refl; at_undo_out = refl; at_clear = refl; at_look = refl; at_wake_spin = refl; at_wake = refl; at_wake_out = refl; at_read = refl; at_block_spin = refl; at_compare = refl; at_block_park = refl; at_waiting = refl; at_quit_spin = refl; at_quit = refl; at_block_out = refl; at_choose = refl; at_sig_spin = refl; at_sig = refl; at_sig_out = refl; at_set = refl; at_swap = refl })

test_resume_ok : Stage → CallKind → Seen → Bool
test_resume_ok st k v = imp (eqb (action_no (row st k v).action) 4) (not (in_set st k v.same))

pub resume_ok : (st : Stage) (k : CallKind) (v : Seen) → fits st k ≡ true → (imp (eqb (action_no (row st k v).action) 4) (not (in_set st k v.same))) ≡ true
unfolding test_resume_ok
resume_ok = table_at test_resume_ok (record { at_idle = refl; at_try = refl; at_peek = refl; at_line_spin = refl; at_add = refl; at_test = refl; at_park = refl; at_parked = refl; at_leave_spin = refl; at_leave = refl; at_leave_out = refl; at_undo = refl; at_undo_out = refl; at_clear = refl; at_look = refl; at_wake_spin = refl; at_wake = refl; at_wake_out = refl; at_read = refl; at_block_spin = refl; at_compare = refl; at_block_park = refl; at_waiting = refl; at_quit_spin = refl; at_quit = refl; at_block_out = refl; at_choose = refl; at_sig_spin = refl; at_sig = refl; at_sig_out = refl; at_set = refl; at_swap = refl })

test_raise_ok : Stage → CallKind → Seen → Bool
test_raise_ok st k v = imp (eqb (action_no (row st k v).action) 14) v.flag

pub raise_ok : (st : Stage) (k : CallKind) (v : Seen) → fits st k ≡ true → (imp (eqb (action_no (row st k v).action) 14) v.flag) ≡ true
unfolding test_raise_ok
raise_ok = table_at test_raise_ok (record { at_idle = refl; at_try = refl; at_peek = refl; at_line_spin = refl; at_add = refl; at_test = refl; at_park = refl; at_parked = refl; at_leave_spin = refl; at_leave = refl; at_leave_out = refl; at_undo = refl; at_undo_out = refl; at_clear = refl; at_look = refl; at_wake_spin = refl; at_wake = refl; at_wake_out = refl; at_read = refl; at_block_spin = refl; at_compare = refl; at_block_park = refl; at_waiting = refl; at_quit_spin = refl; at_quit = refl; at_block_out = refl; at_choose = refl; at_sig_spin = refl; at_sig = refl; at_sig_out = refl; at_set = refl; at_swap = refl })

test_flag_ok : Stage → CallKind → Seen → Bool
test_flag_ok st k v = flag_eq (row st k v).flag (flag_of (row st k v).action (in_set st k v.same)) || (flag_eq (row st k v).flag clear_own && not (is_action (row st k v).action) && not v.flag)

pub flag_ok : (st : Stage) (k : CallKind) (v : Seen) → fits st k ≡ true → (flag_eq (row st k v).flag (flag_of (row st k v).action (in_set st k v.same)) || (flag_eq (row st k v).flag clear_own && not (is_action (row st k v).action) && not v.flag)) ≡ true
unfolding test_flag_ok
flag_ok = table_at test_flag_ok (record { at_idle = refl; at_try = refl; at_peek = refl; at_line_spin = refl; at_add = refl; at_test = refl; at_park = refl; at_parked = refl; at_leave_spin = refl; at_leave = refl; at_leave_out = refl; at_undo = refl; at_undo_out = refl; at_clear = refl; at_look = refl; at_wake_spin = refl; at_wake = refl; at_wake_out = refl; at_read = refl; at_block_spin = refl; at_compare = refl; at_block_park = refl; at_waiting = refl; at_quit_spin = refl; at_quit = refl; at_block_out = refl; at_choose = refl; at_sig_spin = refl; at_sig = refl; at_sig_out = refl; at_set = refl; at_swap = refl })

test_avail_ok : Stage → CallKind → Seen → Bool
test_avail_ok st k v = gate_eq (avail_e (row st k v).action) (cond (is_sem k) (row st k v).gate keep_gate)

pub avail_ok : (st : Stage) (k : CallKind) (v : Seen) → fits st k ≡ true → (gate_eq (avail_e (row st k v).action) (cond (is_sem k) (row st k v).gate keep_gate)) ≡ true
unfolding test_avail_ok
avail_ok = table_at test_avail_ok (record { at_idle = refl; at_try = refl; at_peek = refl; at_line_spin = refl; at_add = refl; at_test = refl; at_park = refl; at_parked = refl; at_leave_spin = refl; at_leave = refl; at_leave_out = refl; at_undo = refl; at_undo_out = refl; at_clear = refl; at_look = refl; at_wake_spin = refl; at_wake = refl; at_wake_out = refl; at_read = refl; at_block_spin = refl; at_compare = refl; at_block_park = refl; at_waiting = refl; at_quit_spin = refl; at_quit = refl; at_block_out = refl; at_choose = refl; at_sig_spin = refl; at_sig = refl; at_sig_out = refl; at_set = refl; at_swap = refl })

test_holder_sem : Stage → CallKind → Seen → Bool
test_holder_sem st k v = imp (is_sem k) (is_hKeep (holder_e (row st k v).action))

pub holder_sem : (st : Stage) (k : CallKind) (v : Seen) → fits st k ≡ true → (imp (is_sem k) (is_hKeep (holder_e (row st k v).action))) ≡ true
unfolding test_holder_sem
holder_sem = table_at test_holder_sem (record { at_idle = refl; at_try = refl; at_peek = refl; at_line_spin = refl; at_add = refl; at_test = refl; at_park = refl; at_parked = refl; at_leave_spin = refl; at_leave = refl; at_leave_out = refl; at_undo = refl; at_undo_out = refl; at_clear = refl; at_look = refl; at_wake_spin = refl; at_wake = refl; at_wake_out = refl; at_read = refl; at_block_spin = refl; at_compare = refl; at_block_park = refl; at_waiting = refl; at_quit_spin = refl; at_quit = refl; at_block_out = refl; at_choose = refl; at_sig_spin = refl; at_sig = refl; at_sig_out = refl; at_set = refl; at_swap = refl })

test_holder_ok : Stage → CallKind → Seen → Bool
test_holder_ok st k v = is_sem k || holder_ok (holder_e (row st k v).action) (row st k v).gate (at_clear st k) (at_clear (row st k v).next k)

pub holder_ok_lem : (st : Stage) (k : CallKind) (v : Seen) → fits st k ≡ true → (is_sem k || holder_ok (holder_e (row st k v).action) (row st k v).gate (at_clear st k) (at_clear (row st k v).next k)) ≡ true
unfolding test_holder_ok
holder_ok_lem = table_at test_holder_ok (record { at_idle = refl; at_try = refl; at_peek = refl; at_line_spin = refl; at_add = refl; at_test = refl; at_park = refl; at_parked = refl; at_leave_spin = refl; at_leave = refl; at_leave_out = refl; at_undo = refl; at_undo_out = refl; at_clear = refl; at_look = refl; at_wake_spin = refl; at_wake = refl; at_wake_out = refl; at_read = refl; at_block_spin = refl; at_compare = refl; at_block_park = refl; at_waiting = refl; at_quit_spin = refl; at_quit = refl; at_block_out = refl; at_choose = refl; at_sig_spin = refl; at_sig = refl; at_sig_out = refl; at_set = refl; at_swap = refl })

test_holder_own : Stage → CallKind → Seen → Bool
test_holder_own st k v = imp (is_hDrop (holder_e (row st k v).action) || at_clear st k) (owns_now st k)

pub holder_own : (st : Stage) (k : CallKind) (v : Seen) → fits st k ≡ true → (imp (is_hDrop (holder_e (row st k v).action) || at_clear st k) (owns_now st k)) ≡ true
unfolding test_holder_own
holder_own = table_at test_holder_own (record { at_idle = refl; at_try = refl; at_peek = refl; at_line_spin = refl; at_add = refl; at_test = refl; at_park = refl; at_parked = refl; at_leave_spin = refl; at_leave = refl; at_leave_out = refl; at_undo = refl; at_undo_out = refl; at_clear = refl; at_look = refl; at_wake_spin = refl; at_wake = refl; at_wake_out = refl; at_read = refl; at_block_spin = refl; at_compare = refl; at_block_park = refl; at_waiting = refl; at_quit_spin = refl; at_quit = refl; at_block_out = refl; at_choose = refl; at_sig_spin = refl; at_sig = refl; at_sig_out = refl; at_set = refl; at_swap = refl })

test_set_ok : Stage → CallKind → Seen → Bool
test_set_ok st k v = imp (not (is_idle (row st k v).next)) (beq (set_new (set_e (row st k v).action) (in_set st k v.same)) (in_set (row st k v).next k ((row st k v).keep || v.same)))

pub set_ok : (st : Stage) (k : CallKind) (v : Seen) → fits st k ≡ true → (imp (not (is_idle (row st k v).next)) (beq (set_new (set_e (row st k v).action) (in_set st k v.same)) (in_set (row st k v).next k ((row st k v).keep || v.same)))) ≡ true
unfolding test_set_ok
set_ok = table_at test_set_ok (record { at_idle = refl; at_try = refl; at_peek = refl; at_line_spin = refl; at_add = refl; at_test = refl; at_park = refl; at_parked = refl; at_leave_spin = refl; at_leave = refl; at_leave_out = refl; at_undo = refl; at_undo_out = refl; at_clear = refl; at_look = refl; at_wake_spin = refl; at_wake = refl; at_wake_out = refl; at_read = refl; at_block_spin = refl; at_compare = refl; at_block_park = refl; at_waiting = refl; at_quit_spin = refl; at_quit = refl; at_block_out = refl; at_choose = refl; at_sig_spin = refl; at_sig = refl; at_sig_out = refl; at_set = refl; at_swap = refl })

test_set_idle : Stage → CallKind → Seen → Bool
test_set_idle st k v = imp (is_idle (row st k v).next) (beq (set_new (set_e (row st k v).action) (in_set st k v.same)) false)

pub set_idle : (st : Stage) (k : CallKind) (v : Seen) → fits st k ≡ true → (imp (is_idle (row st k v).next) (beq (set_new (set_e (row st k v).action) (in_set st k v.same)) false)) ≡ true
unfolding test_set_idle
set_idle = table_at test_set_idle (record { at_idle = refl; at_try = refl; at_peek = refl; at_line_spin = refl; at_add = refl; at_test = refl; at_park = refl; at_parked = refl; at_leave_spin = refl; at_leave = refl; at_leave_out = refl; at_undo = refl; at_undo_out = refl; at_clear = refl; at_look = refl; at_wake_spin = refl; at_wake = refl; at_wake_out = refl; at_read = refl; at_block_spin = refl; at_compare = refl; at_block_park = refl; at_waiting = refl; at_quit_spin = refl; at_quit = refl; at_block_out = refl; at_choose = refl; at_sig_spin = refl; at_sig = refl; at_sig_out = refl; at_set = refl; at_swap = refl })

test_wake_ok : Stage → CallKind → Seen → Bool
test_wake_ok st k v = wake_ok (set_e (row st k v).action) (row st k v).line

pub wake_ok_lem : (st : Stage) (k : CallKind) (v : Seen) → fits st k ≡ true → (wake_ok (set_e (row st k v).action) (row st k v).line) ≡ true
unfolding test_wake_ok
wake_ok_lem = table_at test_wake_ok (record { at_idle = refl; at_try = refl; at_peek = refl; at_line_spin = refl; at_add = refl; at_test = refl; at_park = refl; at_parked = refl; at_leave_spin = refl; at_leave = refl; at_leave_out = refl; at_undo = refl; at_undo_out = refl; at_clear = refl; at_look = refl; at_wake_spin = refl; at_wake = refl; at_wake_out = refl; at_read = refl; at_block_spin = refl; at_compare = refl; at_block_park = refl; at_waiting = refl; at_quit_spin = refl; at_quit = refl; at_block_out = refl; at_choose = refl; at_sig_spin = refl; at_sig = refl; at_sig_out = refl; at_set = refl; at_swap = refl })

test_wake_in : Stage → CallKind → Seen → Bool
test_wake_in st k v = imp (signals (row st k v).line) (not (in_set st k v.same) && not (in_set (row st k v).next k v.same) && not (is_between st k) && not (is_between (row st k v).next k))

pub wake_in : (st : Stage) (k : CallKind) (v : Seen) → fits st k ≡ true → (imp (signals (row st k v).line) (not (in_set st k v.same) && not (in_set (row st k v).next k v.same) && not (is_between st k) && not (is_between (row st k v).next k))) ≡ true
unfolding test_wake_in
wake_in = table_at test_wake_in (record { at_idle = refl; at_try = refl; at_peek = refl; at_line_spin = refl; at_add = refl; at_test = refl; at_park = refl; at_parked = refl; at_leave_spin = refl; at_leave = refl; at_leave_out = refl; at_undo = refl; at_undo_out = refl; at_clear = refl; at_look = refl; at_wake_spin = refl; at_wake = refl; at_wake_out = refl; at_read = refl; at_block_spin = refl; at_compare = refl; at_block_park = refl; at_waiting = refl; at_quit_spin = refl; at_quit = refl; at_block_out = refl; at_choose = refl; at_sig_spin = refl; at_sig = refl; at_sig_out = refl; at_set = refl; at_swap = refl })

test_rest_clear : Stage → CallKind → Seen → Bool
test_rest_clear st k v = imp (is_standing (marks st).line) (not (at_clear st k) && not (is_between st k))

pub rest_clear : (st : Stage) (k : CallKind) (v : Seen) → fits st k ≡ true → (imp (is_standing (marks st).line) (not (at_clear st k) && not (is_between st k))) ≡ true
unfolding test_rest_clear
rest_clear = table_at test_rest_clear (record { at_idle = refl; at_try = refl; at_peek = refl; at_line_spin = refl; at_add = refl; at_test = refl; at_park = refl; at_parked = refl; at_leave_spin = refl; at_leave = refl; at_leave_out = refl; at_undo = refl; at_undo_out = refl; at_clear = refl; at_look = refl; at_wake_spin = refl; at_wake = refl; at_wake_out = refl; at_read = refl; at_block_spin = refl; at_compare = refl; at_block_park = refl; at_waiting = refl; at_quit_spin = refl; at_quit = refl; at_block_out = refl; at_choose = refl; at_sig_spin = refl; at_sig = refl; at_sig_out = refl; at_set = refl; at_swap = refl })

test_rest_done_gate : Stage → CallKind → Seen → Bool
test_rest_done_gate st k v = imp (is_stand at_gate (marks st).line && not (marks st).spin) (eqb (done_at Try k) (done_at st k))

pub rest_done_gate : (st : Stage) (k : CallKind) (v : Seen) → fits st k ≡ true → (imp (is_stand at_gate (marks st).line && not (marks st).spin) (eqb (done_at Try k) (done_at st k))) ≡ true
unfolding test_rest_done_gate
rest_done_gate = table_at test_rest_done_gate (record { at_idle = refl; at_try = refl; at_peek = refl; at_line_spin = refl; at_add = refl; at_test = refl; at_park = refl; at_parked = refl; at_leave_spin = refl; at_leave = refl; at_leave_out = refl; at_undo = refl; at_undo_out = refl; at_clear = refl; at_look = refl; at_wake_spin = refl; at_wake = refl; at_wake_out = refl; at_read = refl; at_block_spin = refl; at_compare = refl; at_block_park = refl; at_waiting = refl; at_quit_spin = refl; at_quit = refl; at_block_out = refl; at_choose = refl; at_sig_spin = refl; at_sig = refl; at_sig_out = refl; at_set = refl; at_swap = refl })

test_rest_done_cond : Stage → CallKind → Seen → Bool
test_rest_done_cond st k v = imp (is_stand at_cond (marks st).line && not (marks st).spin) (eqb (done_at (cond (is_alert_wait k) Choose Try) k) (done_at st k))

pub rest_done_cond : (st : Stage) (k : CallKind) (v : Seen) → fits st k ≡ true → (imp (is_stand at_cond (marks st).line && not (marks st).spin) (eqb (done_at (cond (is_alert_wait k) Choose Try) k) (done_at st k))) ≡ true
unfolding test_rest_done_cond
rest_done_cond = table_at test_rest_done_cond (record { at_idle = refl; at_try = refl; at_peek = refl; at_line_spin = refl; at_add = refl; at_test = refl; at_park = refl; at_parked = refl; at_leave_spin = refl; at_leave = refl; at_leave_out = refl; at_undo = refl; at_undo_out = refl; at_clear = refl; at_look = refl; at_wake_spin = refl; at_wake = refl; at_wake_out = refl; at_read = refl; at_block_spin = refl; at_compare = refl; at_block_park = refl; at_waiting = refl; at_quit_spin = refl; at_quit = refl; at_block_out = refl; at_choose = refl; at_sig_spin = refl; at_sig = refl; at_sig_out = refl; at_set = refl; at_swap = refl })

said_same : (t u : ℕ) (f : ℕ → Bool) → f u ≡ cond (eqb t u) (f t) (f u)
said_same t u f = go (eqb t u) refl
  where
    go : (b : Bool) → eqb t u ≡ b → f u ≡ cond b (f t) (f u)
    go true e = ap f (sym (eqb-true t u e))
    go false e = refl

choose_said : (w : Bool) (p q : Published) (u : ℕ) → p.said u ≡ q.said u → (cond w p q).said u ≡ q.said u
choose_said true p q u h = h
choose_said false p q u h = refl

pub said_by : (a : (Option Action)) (c : Request) (t : ℕ) (fr : ℕ → Bool) (p : Published) (u : ℕ) → (perform a c t fr p).said u ≡ cond (eqb t u) (said_v a (p.said t) (p.alerts t) (p.waits (cond_of c) t)) (p.said u)
said_by none c t fr p u = said_same t u p.said
said_by (some acquire) c t fr p u = said_same t u p.said
said_by (some release) c t fr p u = said_same t u p.said
said_by (some enqueue) c t fr p u = said_same t u p.said
said_by (some resume) c t fr p u = said_same t u p.said
said_by (some choose_outcome) c t fr p u = ap (λ (z : Bool). cond (eqb t u) (p.waits (cond_of c) t) z) (choose_said (p.waits (cond_of c) t) (set_alert t false (set_waits (cond_of c) (λ u. eqb t u) false p)) p u refl)
said_by (some get_mutex) c t fr p u = said_same t u p.said
said_by (some signal) c t fr p u = said_same t u p.said
said_by (some broadcast) c t fr p u = said_same t u p.said
said_by (some sem_p) c t fr p u = said_same t u p.said
said_by (some sem_v) c t fr p u = said_same t u p.said
said_by (some alert) c t fr p u = said_same t u p.said
said_by (some test_alert) c t fr p u = refl
said_by (some return_p) c t fr p u = refl
said_by (some raise_p) c t fr p u = refl

flags_choose : (w : Bool) (p : Published) (c t x : ℕ) (u : ℕ) → (cond w (set_alert t false (set_waits c (λ u. eqb t u) false p)) p).alerts u ≡ flags_new (cond w clear_own keep_flag) t x p.alerts u
flags_choose true p c t x u = refl
flags_choose false p c t x u = refl

avail_choose : (w : Bool) (p : Published) (c t : ℕ) (i : ℕ) → (cond w (set_alert t false (set_waits c (λ u. eqb t u) false p)) p).avail i ≡ p.avail i
avail_choose true p c t i = refl
avail_choose false p c t i = refl

holder_choose : (w : Bool) (p : Published) (c t : ℕ) (i : ℕ) → (cond w (set_alert t false (set_waits c (λ u. eqb t u) false p)) p).holder i ≡ p.holder i
holder_choose true p c t i = refl
holder_choose false p c t i = refl

-- one that is not in the set does not leave it
waits_choose : (p : Published) (c t i u : ℕ) (w : Bool) → p.waits c t ≡ w
    → (cond w (set_alert t false (set_waits c (λ u. eqb t u) false p)) p).waits i u ≡ cond (eqb c i && eqb t u) false (p.waits i u)
waits_choose p c t i u true h = refl
waits_choose p c t i u false h = go (eqb c i) (eqb t u) refl refl
  where
    go : (a b : Bool) → eqb c i ≡ a → eqb t u ≡ b → p.waits i u ≡ cond (a && b) false (p.waits i u)
    go true true e f = ap (λ (z : ℕ). p.waits z u) (sym (eqb-true c i e)) ∙ ap (λ (z : ℕ). p.waits c z) (sym (eqb-true t u f)) ∙ h
    go true false e f = refl
    go false b e f = refl

pub alerts_by : (a : (Option Action)) (c : Request) (t : ℕ) (fr : ℕ → Bool) (p : Published) (u : ℕ) → (perform a c t fr p).alerts u ≡ flags_new (flag_of a (p.waits (cond_of c) t)) t c.x p.alerts u
alerts_by none c t fr p u = refl
alerts_by (some acquire) c t fr p u = refl
alerts_by (some release) c t fr p u = refl
alerts_by (some enqueue) c t fr p u = refl
alerts_by (some resume) c t fr p u = refl
alerts_by (some choose_outcome) c t fr p u = flags_choose (p.waits (cond_of c) t) p (cond_of c) t c.x u
alerts_by (some get_mutex) c t fr p u = refl
alerts_by (some signal) c t fr p u = refl
alerts_by (some broadcast) c t fr p u = refl
alerts_by (some sem_p) c t fr p u = refl
alerts_by (some sem_v) c t fr p u = refl
alerts_by (some alert) c t fr p u = refl
alerts_by (some test_alert) c t fr p u = refl
alerts_by (some return_p) c t fr p u = refl
alerts_by (some raise_p) c t fr p u = refl

abbrev pub avail_new : GateEffect → ℕ → (ℕ → Bool) → ℕ → Bool
avail_new keep_gate x f i = f i
avail_new take_gate x f i = cond (eqb x i) false (f i)
avail_new free_gate x f i = cond (eqb x i) true (f i)

abbrev pub holder_new : HolderE → ℕ → ℕ → (ℕ → Option ℕ) → ℕ → Option ℕ
holder_new h_keep x t f m = f m
holder_new h_take x t f m = cond (eqb x m) (some t) (f m)
holder_new h_drop x t f m = cond (eqb x m) none (f m)

abbrev pub sets_new : SetE → ℕ → ℕ → (ℕ → Bool) → (ℕ → ℕ → Bool) → ℕ → ℕ → Bool
sets_new s_keep y t fr f i u = f i u
sets_new s_enter y t fr f i u = cond (eqb y i && eqb t u) true (f i u)
sets_new s_leave y t fr f i u = cond (eqb y i && eqb t u) false (f i u)
sets_new s_signal y t fr f i u = cond (eqb y i && fr u) false (f i u)
sets_new s_broadcast y t fr f i u = cond (eqb y i) false (f i u)

pub avail_by : (a : (Option Action)) (c : Request) (t : ℕ) (fr : ℕ → Bool) (p : Published) (i : ℕ) → (perform a c t fr p).avail i ≡ avail_new (avail_e a) c.x p.avail i
avail_by none c t fr p i = refl
avail_by (some acquire) c t fr p i = refl
avail_by (some release) c t fr p i = refl
avail_by (some enqueue) c t fr p i = refl
avail_by (some resume) c t fr p i = refl
avail_by (some choose_outcome) c t fr p i = avail_choose (p.waits (cond_of c) t) p (cond_of c) t i
avail_by (some get_mutex) c t fr p i = refl
avail_by (some signal) c t fr p i = refl
avail_by (some broadcast) c t fr p i = refl
avail_by (some sem_p) c t fr p i = refl
avail_by (some sem_v) c t fr p i = refl
avail_by (some alert) c t fr p i = refl
avail_by (some test_alert) c t fr p i = refl
avail_by (some return_p) c t fr p i = refl
avail_by (some raise_p) c t fr p i = refl

pub holder_by : (a : (Option Action)) (c : Request) (t : ℕ) (fr : ℕ → Bool) (p : Published) (m : ℕ) → (perform a c t fr p).holder m ≡ holder_new (holder_e a) c.x t p.holder m
holder_by none c t fr p m = refl
holder_by (some acquire) c t fr p m = refl
holder_by (some release) c t fr p m = refl
holder_by (some enqueue) c t fr p m = refl
holder_by (some resume) c t fr p m = refl
holder_by (some choose_outcome) c t fr p m = holder_choose (p.waits (cond_of c) t) p (cond_of c) t m
holder_by (some get_mutex) c t fr p m = refl
holder_by (some signal) c t fr p m = refl
holder_by (some broadcast) c t fr p m = refl
holder_by (some sem_p) c t fr p m = refl
holder_by (some sem_v) c t fr p m = refl
holder_by (some alert) c t fr p m = refl
holder_by (some test_alert) c t fr p m = refl
holder_by (some return_p) c t fr p m = refl
holder_by (some raise_p) c t fr p m = refl

pub waits_by : (a : (Option Action)) (c : Request) (t : ℕ) (fr : ℕ → Bool) (p : Published) (i u : ℕ) → (perform a c t fr p).waits i u ≡ sets_new (set_e a) (cond_of c) t fr p.waits i u
waits_by none c t fr p i u = refl
waits_by (some acquire) c t fr p i u = refl
waits_by (some release) c t fr p i u = refl
waits_by (some enqueue) c t fr p i u = refl
waits_by (some resume) c t fr p i u = refl
waits_by (some choose_outcome) c t fr p i u = waits_choose p (cond_of c) t i u (p.waits (cond_of c) t) refl
waits_by (some get_mutex) c t fr p i u = refl
waits_by (some signal) c t fr p i u = refl
waits_by (some broadcast) c t fr p i u = ap (λ (z : Bool). cond z false (p.waits i u)) (mathlib.Core.Bool.and-true (eqb (cond_of c) i))
waits_by (some sem_p) c t fr p i u = refl
waits_by (some sem_v) c t fr p i u = refl
waits_by (some alert) c t fr p i u = refl
waits_by (some test_alert) c t fr p i u = refl
waits_by (some return_p) c t fr p i u = refl
waits_by (some raise_p) c t fr p i u = refl
