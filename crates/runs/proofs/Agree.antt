-- What the rows of the turn table agree on, tested at every stage, call and sight.
use Rattle.std.proofs.Common.{◌≡◌, Bool, true, false, cond, not, ◌&&◌, ◌||◌, eqb, refl}
use mathlib.Core.Bool.{beq}
use Rattle.stages.specs.Calls.{Object, Request, no_call}
use Rattle.stages.specs.Names.{stage_no, is_idle, is_alert_wait, is_sem, CallKind}
use Rattle.stages.specs.declared.stage.Stage.{Stage}
use Rattle.stages.specs.Table.{Seen, row, is_between, first}
use Rattle.stages.specs.Marks.{marks, is_wake_gate, is_join_gate, is_take, is_free}
use Rattle.stages.specs.declared.step.SpinEffect.{SpinEffect}
use Rattle.stages.specs.declared.step.LineEffect.{LineEffect}
use Rattle.stages.specs.declared.step.GateEffect.{GateEffect}
use Rattle.stages.specs.declared.step.FlagEffect.{FlagEffect}
use Rattle.stages.specs.declared.marks.Stands.{Stands}
use Rattle.stages.specs.declared.step.SpinEffect.TheVariants.{Keep as keep_spin, Set as set_spin, Clear as clear_spin}
use Rattle.stages.specs.declared.step.LineEffect.TheVariants.{Keep as keep_line, JoinGate as join_gate, LeaveGate as leave_gate, JoinCondition as join_cond, LeaveCondition as leave_cond, WakeGate as wake_gate, SignalOne as signal_one, SignalAll as signal_all}
use Rattle.stages.specs.declared.step.GateEffect.TheVariants.{Keep as keep_gate, Take as take_gate, Free as free_gate}
use Rattle.stages.specs.declared.step.FlagEffect.TheVariants.{Keep as keep_flag, ClearOwn as clear_own, SetNamed as set_named}
use Rattle.stages.specs.declared.marks.Stands.TheVariants.{Nowhere as nowhere, AtGate as at_gate, AtCondition as at_cond}
use Rattle.stages.proofs.Finite.{table_at, imp, no}
use Rattle.stages.specs.Pairs.{fits}
use Rattle.runs.proofs.Small.{stands_ok, is_stand}
use Rattle.runs.specs.Reading.{stands_by}
use Rattle.nub.specs.Model.{needs_owner}
use Rattle.stages.specs.declared.stage.Stage.TheVariants.{Idle, Try, Peek, LineSpin, Add, Test, Park, Parked, LeaveSpin, Leave, LeaveOut, Undo, UndoOut, Clear, Look, WakeSpin, Wake, WakeOut, Read, BlockSpin, Compare, BlockPark, Waiting, QuitSpin, Quit, BlockOut, Choose, SigSpin, Sig, SigOut, Set, Swap}
use Rattle.stages.specs.Names.CallKind.{NoCall, Acquire, Release, Wait, Signal, Broadcast, SemP, SemV, Alert, TestAlert, AlertP, AlertWait}

abbrev pub spin_ok : SpinEffect → Bool → Bool → Bool → Bool
spin_ok keep_spin b a s = beq b a
spin_ok set_spin b a s = not b && a && not s
spin_ok clear_spin b a s = b && not a

abbrev pub wakes : LineEffect → Bool
wakes keep_line = false
wakes join_gate = false
wakes leave_gate = false
wakes join_cond = false
wakes leave_cond = false
wakes wake_gate = true
wakes signal_one = true
wakes signal_all = true

abbrev pub is_keep_gate : GateEffect → Bool
is_keep_gate keep_gate = true
is_keep_gate take_gate = false
is_keep_gate free_gate = false

abbrev pub is_keep_flag : FlagEffect → Bool
is_keep_flag keep_flag = true
is_keep_flag clear_own = false
is_keep_flag set_named = false

abbrev pub is_standing : Stands → Bool
is_standing nowhere = false
is_standing at_gate = true
is_standing at_cond = true

-- at Clear or Read in a call on a mutex: the thread owns it
abbrev pub owns_now : Stage → CallKind → Bool
owns_now st k = not (is_sem k) && (eqb (stage_no st) 13 || eqb (stage_no st) 18)

abbrev pub is_quit : Stage → Bool
is_quit st = eqb (stage_no st) 23 || eqb (stage_no st) 24

test_fit_ok : Stage → CallKind → Seen → Bool
test_fit_ok st k v = is_idle (row st k v).next || fits (row st k v).next k

pub fit_ok : (st : Stage) (k : CallKind) (v : Seen) → fits st k ≡ true → (is_idle (row st k v).next || fits (row st k v).next k) ≡ true
unfolding test_fit_ok
fit_ok = table_at test_fit_ok (record { at_idle = refl; at_try = refl; at_peek = refl; at_line_spin = refl; at_add = refl; at_test = refl; at_park = refl; at_parked = refl; at_leave_spin = refl; at_leave = refl; at_leave_out = refl; at_undo = refl; at_undo_out = refl; at_clear = refl; at_look = refl; at_wake_spin = refl; at_wake = refl; at_wake_out = refl; at_read = refl; at_block_spin = refl; at_compare = refl; at_block_park = refl; at_waiting = refl; at_quit_spin = refl; at_quit = refl; at_block_out = refl; at_choose = refl; at_sig_spin = refl; at_sig = refl; at_sig_out = refl; at_set = refl; at_swap = refl })

test_line_ok : Stage → CallKind → Seen → Bool
test_line_ok st k v = stands_ok (row st k v).line (marks st).line (marks (row st k v).next).line

pub line_ok : (st : Stage) (k : CallKind) (v : Seen) → fits st k ≡ true → (stands_ok (row st k v).line (marks st).line (marks (row st k v).next).line) ≡ true
unfolding test_line_ok
line_ok = table_at test_line_ok (record { at_idle = refl; at_try = refl; at_peek = refl; at_line_spin = refl; at_add = refl; at_test = refl; at_park = refl; at_parked = refl; at_leave_spin = refl; at_leave = refl; at_leave_out = refl; at_undo = refl; at_undo_out = refl; at_clear = refl; at_look = refl; at_wake_spin = refl; at_wake = refl; at_wake_out = refl; at_read = refl; at_block_spin = refl; at_compare = refl; at_block_park = refl; at_waiting = refl; at_quit_spin = refl; at_quit = refl; at_block_out = refl; at_choose = refl; at_sig_spin = refl; at_sig = refl; at_sig_out = refl; at_set = refl; at_swap = refl })

test_spin_ok : Stage → CallKind → Seen → Bool
test_spin_ok st k v = spin_ok (row st k v).spin (marks st).spin (marks (row st k v).next).spin v.spin

pub spin_ok_lem : (st : Stage) (k : CallKind) (v : Seen) → fits st k ≡ true → (spin_ok (row st k v).spin (marks st).spin (marks (row st k v).next).spin v.spin) ≡ true
unfolding test_spin_ok
spin_ok_lem = table_at test_spin_ok (record { at_idle = refl; at_try = refl; at_peek = refl; at_line_spin = refl; at_add = refl; at_test = refl; at_park = refl; at_parked = refl; at_leave_spin = refl; at_leave = refl; at_leave_out = refl; at_undo = refl; at_undo_out = refl; at_clear = refl; at_look = refl; at_wake_spin = refl; at_wake = refl; at_wake_out = refl; at_read = refl; at_block_spin = refl; at_compare = refl; at_block_park = refl; at_waiting = refl; at_quit_spin = refl; at_quit = refl; at_block_out = refl; at_choose = refl; at_sig_spin = refl; at_sig = refl; at_sig_out = refl; at_set = refl; at_swap = refl })

test_wake_spin : Stage → CallKind → Seen → Bool
test_wake_spin st k v = imp (wakes (row st k v).line) (marks st).spin

pub wake_spin : (st : Stage) (k : CallKind) (v : Seen) → fits st k ≡ true → (imp (wakes (row st k v).line) (marks st).spin) ≡ true
unfolding test_wake_spin
wake_spin = table_at test_wake_spin (record { at_idle = refl; at_try = refl; at_peek = refl; at_line_spin = refl; at_add = refl; at_test = refl; at_park = refl; at_parked = refl; at_leave_spin = refl; at_leave = refl; at_leave_out = refl; at_undo = refl; at_undo_out = refl; at_clear = refl; at_look = refl; at_wake_spin = refl; at_wake = refl; at_wake_out = refl; at_read = refl; at_block_spin = refl; at_compare = refl; at_block_park = refl; at_waiting = refl; at_quit_spin = refl; at_quit = refl; at_block_out = refl; at_choose = refl; at_sig_spin = refl; at_sig = refl; at_sig_out = refl; at_set = refl; at_swap = refl })

test_own_ok : Stage → CallKind → Seen → Bool
test_own_ok st k v = imp (owns_now (row st k v).next k) (owns_now st k && is_keep_gate (row st k v).gate)

pub own_ok : (st : Stage) (k : CallKind) (v : Seen) → fits st k ≡ true → (imp (owns_now (row st k v).next k) (owns_now st k && is_keep_gate (row st k v).gate)) ≡ true
unfolding test_own_ok
own_ok = table_at test_own_ok (record { at_idle = refl; at_try = refl; at_peek = refl; at_line_spin = refl; at_add = refl; at_test = refl; at_park = refl; at_parked = refl; at_leave_spin = refl; at_leave = refl; at_leave_out = refl; at_undo = refl; at_undo_out = refl; at_clear = refl; at_look = refl; at_wake_spin = refl; at_wake = refl; at_wake_out = refl; at_read = refl; at_block_spin = refl; at_compare = refl; at_block_park = refl; at_waiting = refl; at_quit_spin = refl; at_quit = refl; at_block_out = refl; at_choose = refl; at_sig_spin = refl; at_sig = refl; at_sig_out = refl; at_set = refl; at_swap = refl })

test_take_ok : Stage → CallKind → Seen → Bool
test_take_ok st k v = imp (is_take (row st k v).gate) (not v.bit)

pub take_ok : (st : Stage) (k : CallKind) (v : Seen) → fits st k ≡ true → (imp (is_take (row st k v).gate) (not v.bit)) ≡ true
unfolding test_take_ok
take_ok = table_at test_take_ok (record { at_idle = refl; at_try = refl; at_peek = refl; at_line_spin = refl; at_add = refl; at_test = refl; at_park = refl; at_parked = refl; at_leave_spin = refl; at_leave = refl; at_leave_out = refl; at_undo = refl; at_undo_out = refl; at_clear = refl; at_look = refl; at_wake_spin = refl; at_wake = refl; at_wake_out = refl; at_read = refl; at_block_spin = refl; at_compare = refl; at_block_park = refl; at_waiting = refl; at_quit_spin = refl; at_quit = refl; at_block_out = refl; at_choose = refl; at_sig_spin = refl; at_sig = refl; at_sig_out = refl; at_set = refl; at_swap = refl })

test_free_ok : Stage → CallKind → Seen → Bool
test_free_ok st k v = imp (is_free (row st k v).gate) (is_sem k || owns_now st k)

pub free_ok : (st : Stage) (k : CallKind) (v : Seen) → fits st k ≡ true → (imp (is_free (row st k v).gate) (is_sem k || owns_now st k)) ≡ true
unfolding test_free_ok
free_ok = table_at test_free_ok (record { at_idle = refl; at_try = refl; at_peek = refl; at_line_spin = refl; at_add = refl; at_test = refl; at_park = refl; at_parked = refl; at_leave_spin = refl; at_leave = refl; at_leave_out = refl; at_undo = refl; at_undo_out = refl; at_clear = refl; at_look = refl; at_wake_spin = refl; at_wake = refl; at_wake_out = refl; at_read = refl; at_block_spin = refl; at_compare = refl; at_block_park = refl; at_waiting = refl; at_quit_spin = refl; at_quit = refl; at_block_out = refl; at_choose = refl; at_sig_spin = refl; at_sig = refl; at_sig_out = refl; at_set = refl; at_swap = refl })

test_quit_ok : Stage → CallKind → Seen → Bool
test_quit_ok st k v = imp (is_quit (row st k v).next) ((is_quit st || v.flag) && is_keep_flag (row st k v).flag)

pub quit_ok : (st : Stage) (k : CallKind) (v : Seen) → fits st k ≡ true → (imp (is_quit (row st k v).next) ((is_quit st || v.flag) && is_keep_flag (row st k v).flag)) ≡ true
unfolding test_quit_ok
quit_ok = table_at test_quit_ok (record { at_idle = refl; at_try = refl; at_peek = refl; at_line_spin = refl; at_add = refl; at_test = refl; at_park = refl; at_parked = refl; at_leave_spin = refl; at_leave = refl; at_leave_out = refl; at_undo = refl; at_undo_out = refl; at_clear = refl; at_look = refl; at_wake_spin = refl; at_wake = refl; at_wake_out = refl; at_read = refl; at_block_spin = refl; at_compare = refl; at_block_park = refl; at_waiting = refl; at_quit_spin = refl; at_quit = refl; at_block_out = refl; at_choose = refl; at_sig_spin = refl; at_sig = refl; at_sig_out = refl; at_set = refl; at_swap = refl })

test_kept_ok : Stage → CallKind → Seen → Bool
test_kept_ok st k v = imp (is_between (row st k v).next k) ((row st k v).keep || is_between st k)

pub kept_ok : (st : Stage) (k : CallKind) (v : Seen) → fits st k ≡ true → (imp (is_between (row st k v).next k) ((row st k v).keep || is_between st k)) ≡ true
unfolding test_kept_ok
kept_ok = table_at test_kept_ok (record { at_idle = refl; at_try = refl; at_peek = refl; at_line_spin = refl; at_add = refl; at_test = refl; at_park = refl; at_parked = refl; at_leave_spin = refl; at_leave = refl; at_leave_out = refl; at_undo = refl; at_undo_out = refl; at_clear = refl; at_look = refl; at_wake_spin = refl; at_wake = refl; at_wake_out = refl; at_read = refl; at_block_spin = refl; at_compare = refl; at_block_park = refl; at_waiting = refl; at_quit_spin = refl; at_quit = refl; at_block_out = refl; at_choose = refl; at_sig_spin = refl; at_sig = refl; at_sig_out = refl; at_set = refl; at_swap = refl })

test_way_free : Stage → CallKind → Seen → Bool
test_way_free st k v = imp (is_free (row st k v).gate) (marks (row st k v).next).way

pub way_free : (st : Stage) (k : CallKind) (v : Seen) → fits st k ≡ true → (imp (is_free (row st k v).gate) (marks (row st k v).next).way) ≡ true
unfolding test_way_free
way_free = table_at test_way_free (record { at_idle = refl; at_try = refl; at_peek = refl; at_line_spin = refl; at_add = refl; at_test = refl; at_park = refl; at_parked = refl; at_leave_spin = refl; at_leave = refl; at_leave_out = refl; at_undo = refl; at_undo_out = refl; at_clear = refl; at_look = refl; at_wake_spin = refl; at_wake = refl; at_wake_out = refl; at_read = refl; at_block_spin = refl; at_compare = refl; at_block_park = refl; at_waiting = refl; at_quit_spin = refl; at_quit = refl; at_block_out = refl; at_choose = refl; at_sig_spin = refl; at_sig = refl; at_sig_out = refl; at_set = refl; at_swap = refl })

test_way_join : Stage → CallKind → Seen → Bool
test_way_join st k v = imp (is_join_gate (row st k v).line) (marks (row st k v).next).way

pub way_join : (st : Stage) (k : CallKind) (v : Seen) → fits st k ≡ true → (imp (is_join_gate (row st k v).line) (marks (row st k v).next).way) ≡ true
unfolding test_way_join
way_join = table_at test_way_join (record { at_idle = refl; at_try = refl; at_peek = refl; at_line_spin = refl; at_add = refl; at_test = refl; at_park = refl; at_parked = refl; at_leave_spin = refl; at_leave = refl; at_leave_out = refl; at_undo = refl; at_undo_out = refl; at_clear = refl; at_look = refl; at_wake_spin = refl; at_wake = refl; at_wake_out = refl; at_read = refl; at_block_spin = refl; at_compare = refl; at_block_park = refl; at_waiting = refl; at_quit_spin = refl; at_quit = refl; at_block_out = refl; at_choose = refl; at_sig_spin = refl; at_sig = refl; at_sig_out = refl; at_set = refl; at_swap = refl })

test_way_keep : Stage → CallKind → Seen → Bool
test_way_keep st k v = imp ((marks st).way && not v.bit && is_keep_gate (row st k v).gate && not (is_wake_gate (row st k v).line) && not v.empty) (marks (row st k v).next).way

pub way_keep : (st : Stage) (k : CallKind) (v : Seen) → fits st k ≡ true → (imp ((marks st).way && not v.bit && is_keep_gate (row st k v).gate && not (is_wake_gate (row st k v).line) && not v.empty) (marks (row st k v).next).way) ≡ true
unfolding test_way_keep
way_keep = table_at test_way_keep (record { at_idle = refl; at_try = refl; at_peek = refl; at_line_spin = refl; at_add = refl; at_test = refl; at_park = refl; at_parked = refl; at_leave_spin = refl; at_leave = refl; at_leave_out = refl; at_undo = refl; at_undo_out = refl; at_clear = refl; at_look = refl; at_wake_spin = refl; at_wake = refl; at_wake_out = refl; at_read = refl; at_block_spin = refl; at_compare = refl; at_block_park = refl; at_waiting = refl; at_quit_spin = refl; at_quit = refl; at_block_out = refl; at_choose = refl; at_sig_spin = refl; at_sig = refl; at_sig_out = refl; at_set = refl; at_swap = refl })

test_rest_way : Stage → CallKind → Seen → Bool
test_rest_way st k v = imp (is_standing (marks st).line && not (marks st).spin) (not (marks st).way)

pub rest_way : (st : Stage) (k : CallKind) (v : Seen) → fits st k ≡ true → (imp (is_standing (marks st).line && not (marks st).spin) (not (marks st).way)) ≡ true
unfolding test_rest_way
rest_way = table_at test_rest_way (record { at_idle = refl; at_try = refl; at_peek = refl; at_line_spin = refl; at_add = refl; at_test = refl; at_park = refl; at_parked = refl; at_leave_spin = refl; at_leave = refl; at_leave_out = refl; at_undo = refl; at_undo_out = refl; at_clear = refl; at_look = refl; at_wake_spin = refl; at_wake = refl; at_wake_out = refl; at_read = refl; at_block_spin = refl; at_compare = refl; at_block_park = refl; at_waiting = refl; at_quit_spin = refl; at_quit = refl; at_block_out = refl; at_choose = refl; at_sig_spin = refl; at_sig = refl; at_sig_out = refl; at_set = refl; at_swap = refl })

test_rest_gate : Stage → CallKind → Seen → Bool
test_rest_gate st k v = imp (is_stand at_gate (marks st).line && not (marks st).spin) (fits Try k)

pub rest_gate : (st : Stage) (k : CallKind) (v : Seen) → fits st k ≡ true → (imp (is_stand at_gate (marks st).line && not (marks st).spin) (fits Try k)) ≡ true
unfolding test_rest_gate
rest_gate = table_at test_rest_gate (record { at_idle = refl; at_try = refl; at_peek = refl; at_line_spin = refl; at_add = refl; at_test = refl; at_park = refl; at_parked = refl; at_leave_spin = refl; at_leave = refl; at_leave_out = refl; at_undo = refl; at_undo_out = refl; at_clear = refl; at_look = refl; at_wake_spin = refl; at_wake = refl; at_wake_out = refl; at_read = refl; at_block_spin = refl; at_compare = refl; at_block_park = refl; at_waiting = refl; at_quit_spin = refl; at_quit = refl; at_block_out = refl; at_choose = refl; at_sig_spin = refl; at_sig = refl; at_sig_out = refl; at_set = refl; at_swap = refl })

test_rest_cond : Stage → CallKind → Seen → Bool
test_rest_cond st k v = imp (is_stand at_cond (marks st).line && not (marks st).spin) (fits (cond (is_alert_wait k) Choose Try) k)

pub rest_cond : (st : Stage) (k : CallKind) (v : Seen) → fits st k ≡ true → (imp (is_stand at_cond (marks st).line && not (marks st).spin) (fits (cond (is_alert_wait k) Choose Try) k)) ≡ true
unfolding test_rest_cond
rest_cond = table_at test_rest_cond (record { at_idle = refl; at_try = refl; at_peek = refl; at_line_spin = refl; at_add = refl; at_test = refl; at_park = refl; at_parked = refl; at_leave_spin = refl; at_leave = refl; at_leave_out = refl; at_undo = refl; at_undo_out = refl; at_clear = refl; at_look = refl; at_wake_spin = refl; at_wake = refl; at_wake_out = refl; at_read = refl; at_block_spin = refl; at_compare = refl; at_block_park = refl; at_waiting = refl; at_quit_spin = refl; at_quit = refl; at_block_out = refl; at_choose = refl; at_sig_spin = refl; at_sig = refl; at_sig_out = refl; at_set = refl; at_swap = refl })

pub idle_stands : (n : Stage) (c d : Request) (o : Object) → stands_by (marks n).line (cond (is_idle n) d c) o ≡ stands_by (marks n).line c o
idle_stands Idle c d o = refl
idle_stands Try c d o = refl
idle_stands Peek c d o = refl
idle_stands LineSpin c d o = refl
idle_stands Add c d o = refl
idle_stands Test c d o = refl
idle_stands Park c d o = refl
idle_stands Parked c d o = refl
idle_stands LeaveSpin c d o = refl
idle_stands Leave c d o = refl
idle_stands LeaveOut c d o = refl
idle_stands Undo c d o = refl
idle_stands UndoOut c d o = refl
idle_stands Clear c d o = refl
idle_stands Look c d o = refl
idle_stands WakeSpin c d o = refl
idle_stands Wake c d o = refl
idle_stands WakeOut c d o = refl
idle_stands Read c d o = refl
idle_stands BlockSpin c d o = refl
idle_stands Compare c d o = refl
idle_stands BlockPark c d o = refl
idle_stands Waiting c d o = refl
idle_stands QuitSpin c d o = refl
idle_stands Quit c d o = refl
idle_stands BlockOut c d o = refl
idle_stands Choose c d o = refl
idle_stands SigSpin c d o = refl
idle_stands Sig c d o = refl
idle_stands SigOut c d o = refl
idle_stands Set c d o = refl
idle_stands Swap c d o = refl

pub by_idle : (P : Stage → Request → Type 0) (n : Stage) (c : Request) → P Idle no_call → (is_idle n ≡ false → P n c) → P n (cond (is_idle n) no_call c)
by_idle P Idle c a b = a
by_idle P Try c a b = b refl
by_idle P Peek c a b = b refl
by_idle P LineSpin c a b = b refl
by_idle P Add c a b = b refl
by_idle P Test c a b = b refl
by_idle P Park c a b = b refl
by_idle P Parked c a b = b refl
by_idle P LeaveSpin c a b = b refl
by_idle P Leave c a b = b refl
by_idle P LeaveOut c a b = b refl
by_idle P Undo c a b = b refl
by_idle P UndoOut c a b = b refl
by_idle P Clear c a b = b refl
by_idle P Look c a b = b refl
by_idle P WakeSpin c a b = b refl
by_idle P Wake c a b = b refl
by_idle P WakeOut c a b = b refl
by_idle P Read c a b = b refl
by_idle P BlockSpin c a b = b refl
by_idle P Compare c a b = b refl
by_idle P BlockPark c a b = b refl
by_idle P Waiting c a b = b refl
by_idle P QuitSpin c a b = b refl
by_idle P Quit c a b = b refl
by_idle P BlockOut c a b = b refl
by_idle P Choose c a b = b refl
by_idle P SigSpin c a b = b refl
by_idle P Sig c a b = b refl
by_idle P SigOut c a b = b refl
by_idle P Set c a b = b refl
by_idle P Swap c a b = b refl

pub idle_is : (st : Stage) → is_idle st ≡ true → st ≡ Idle
idle_is Idle h = refl
idle_is Try h = no h
idle_is Peek h = no h
idle_is LineSpin h = no h
idle_is Add h = no h
idle_is Test h = no h
idle_is Park h = no h
idle_is Parked h = no h
idle_is LeaveSpin h = no h
idle_is Leave h = no h
idle_is LeaveOut h = no h
idle_is Undo h = no h
idle_is UndoOut h = no h
idle_is Clear h = no h
idle_is Look h = no h
idle_is WakeSpin h = no h
idle_is Wake h = no h
idle_is WakeOut h = no h
idle_is Read h = no h
idle_is BlockSpin h = no h
idle_is Compare h = no h
idle_is BlockPark h = no h
idle_is Waiting h = no h
idle_is QuitSpin h = no h
idle_is Quit h = no h
idle_is BlockOut h = no h
idle_is Choose h = no h
idle_is SigSpin h = no h
idle_is Sig h = no h
idle_is SigOut h = no h
idle_is Set h = no h
idle_is Swap h = no h

pub first_fit : (k : CallKind) → fits (first k) k ≡ true
first_fit NoCall = refl
first_fit Acquire = refl
first_fit Release = refl
first_fit Wait = refl
first_fit Signal = refl
first_fit Broadcast = refl
first_fit SemP = refl
first_fit SemV = refl
first_fit Alert = refl
first_fit TestAlert = refl
first_fit AlertP = refl
first_fit AlertWait = refl

pub first_line_lem : (k : CallKind) → (marks (first k)).line ≡ nowhere
first_line_lem NoCall = refl
first_line_lem Acquire = refl
first_line_lem Release = refl
first_line_lem Wait = refl
first_line_lem Signal = refl
first_line_lem Broadcast = refl
first_line_lem SemP = refl
first_line_lem SemV = refl
first_line_lem Alert = refl
first_line_lem TestAlert = refl
first_line_lem AlertP = refl
first_line_lem AlertWait = refl

pub first_spin : (k : CallKind) → (marks (first k)).spin ≡ false
first_spin NoCall = refl
first_spin Acquire = refl
first_spin Release = refl
first_spin Wait = refl
first_spin Signal = refl
first_spin Broadcast = refl
first_spin SemP = refl
first_spin SemV = refl
first_spin Alert = refl
first_spin TestAlert = refl
first_spin AlertP = refl
first_spin AlertWait = refl

pub first_quit : (k : CallKind) → is_quit (first k) ≡ false
first_quit NoCall = refl
first_quit Acquire = refl
first_quit Release = refl
first_quit Wait = refl
first_quit Signal = refl
first_quit Broadcast = refl
first_quit SemP = refl
first_quit SemV = refl
first_quit Alert = refl
first_quit TestAlert = refl
first_quit AlertP = refl
first_quit AlertWait = refl

pub first_between : (k : CallKind) → is_between (first k) k ≡ false
first_between NoCall = refl
first_between Acquire = refl
first_between Release = refl
first_between Wait = refl
first_between Signal = refl
first_between Broadcast = refl
first_between SemP = refl
first_between SemV = refl
first_between Alert = refl
first_between TestAlert = refl
first_between AlertP = refl
first_between AlertWait = refl

pub first_owns : (k : CallKind) → imp (owns_now (first k) k) (needs_owner k) ≡ true
first_owns NoCall = refl
first_owns Acquire = refl
first_owns Release = refl
first_owns Wait = refl
first_owns Signal = refl
first_owns Broadcast = refl
first_owns SemP = refl
first_owns SemV = refl
first_owns Alert = refl
first_owns TestAlert = refl
first_owns AlertP = refl
first_owns AlertWait = refl
