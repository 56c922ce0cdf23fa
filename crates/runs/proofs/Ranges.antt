-- What a row works on exists, in a nub whose calls have their objects.
use Rattle.std.proofs.Common.{◌≡◌, ℕ, ◌<◌, ◌≤◌, Bool, true, false, cond, not, ◌&&◌, ◌||◌, eqb, ltb, sym, refl, arith}
use Rattle.std.proofs.lemmas.Bool.{lt-ltb, ltb-true}
use Rattle.stages.specs.Calls.{Object, gate_of, cond_of, Request}
use Rattle.stages.specs.Names.{call_no, is_wait, is_sem, CallKind, counted, has_gate}
use Rattle.stages.specs.Calls.Object.{mutex, semaphore, condition}
use Rattle.stages.specs.Table.{Seen, row, is_between, reads_line}
use Rattle.stages.specs.declared.stage.Stage.{Stage}
use Rattle.stages.specs.Names.CallKind.{NoCall, Acquire, Release, Wait, Signal, Broadcast, SemP, SemV, Alert, TestAlert, AlertP, AlertWait}
use Rattle.stages.specs.declared.step.LineEffect.{LineEffect}
use Rattle.stages.specs.declared.step.FlagEffect.{FlagEffect}
use Rattle.stages.specs.declared.step.LineEffect.TheVariants.{Keep as keep_line, JoinGate as join_gate, LeaveGate as leave_gate, JoinCondition as join_cond, LeaveCondition as leave_cond, WakeGate as wake_gate, SignalOne as signal_one, SignalAll as signal_all}
use Rattle.stages.specs.declared.step.FlagEffect.TheVariants.{Keep as keep_flag, ClearOwn as clear_own, SetNamed as set_named}
use Rattle.nub.specs.Model.{NubState, line_at, signals, exists}
use Rattle.nub.specs.Places.{line_no, in_range}
use Rattle.stages.proofs.Finite.{table_at, imp, no, and_l, and_r, imp_at}
use Rattle.stages.specs.Pairs.{fits}
use Rattle.runs.proofs.Small.{is_keep_line}
use Rattle.runs.proofs.Agree.{is_keep_gate}

abbrev pub uses_gate : LineEffect → Bool
uses_gate keep_line = false
uses_gate join_gate = true
uses_gate leave_gate = true
uses_gate join_cond = false
uses_gate leave_cond = false
uses_gate wake_gate = true
uses_gate signal_one = false
uses_gate signal_all = false

abbrev pub uses_cond : LineEffect → Bool
uses_cond keep_line = false
uses_cond join_gate = false
uses_cond leave_gate = false
uses_cond join_cond = true
uses_cond leave_cond = true
uses_cond wake_gate = false
uses_cond signal_one = true
uses_cond signal_all = true

abbrev pub is_named : FlagEffect → Bool
is_named keep_flag = false
is_named clear_own = false
is_named set_named = true

test_gate_has : Stage → CallKind → Seen → Bool
test_gate_has st k v = imp (not (is_keep_gate (row st k v).gate) || uses_gate (row st k v).line) (has_gate k)

pub gate_has : (st : Stage) (k : CallKind) (v : Seen) → fits st k ≡ true → (imp (not (is_keep_gate (row st k v).gate) || uses_gate (row st k v).line) (has_gate k)) ≡ true
unfolding test_gate_has
gate_has = table_at test_gate_has (record { at_idle = refl; at_try = refl; at_peek = refl; at_line_spin = refl; at_add = refl; at_test = refl; at_park = refl; at_parked = refl; at_leave_spin = refl; at_leave = refl; at_leave_out = refl; at_undo = refl; at_undo_out = refl; at_clear = refl; at_look = refl; at_wake_spin = refl; at_wake = refl; at_wake_out = refl; at_read = refl; at_block_spin = refl; at_compare = refl; at_block_park = refl; at_waiting = refl; at_quit_spin = refl; at_quit = refl; at_block_out = refl; at_choose = refl; at_sig_spin = refl; at_sig = refl; at_sig_out = refl; at_set = refl; at_swap = refl })

test_reads_has : Stage → CallKind → Seen → Bool
test_reads_has st k v = imp (reads_line st) (has_gate k)

pub reads_has : (st : Stage) (k : CallKind) (v : Seen) → fits st k ≡ true → reads_line st ≡ true → has_gate k ≡ true
unfolding test_reads_has
reads_has st k v f h = imp_at (reads_line st) (has_gate k) (table_at test_reads_has (record { at_idle = refl; at_try = refl; at_peek = refl; at_line_spin = refl; at_add = refl; at_test = refl; at_park = refl; at_parked = refl; at_leave_spin = refl; at_leave = refl; at_leave_out = refl; at_undo = refl; at_undo_out = refl; at_clear = refl; at_look = refl; at_wake_spin = refl; at_wake = refl; at_wake_out = refl; at_read = refl; at_block_spin = refl; at_compare = refl; at_block_park = refl; at_waiting = refl; at_quit_spin = refl; at_quit = refl; at_block_out = refl; at_choose = refl; at_sig_spin = refl; at_sig = refl; at_sig_out = refl; at_set = refl; at_swap = refl }) st k v f) h

test_cond_has : Stage → CallKind → Seen → Bool
test_cond_has st k v = imp (uses_cond (row st k v).line) (is_wait k || counted k)

pub cond_has : (st : Stage) (k : CallKind) (v : Seen) → fits st k ≡ true → (imp (uses_cond (row st k v).line) (is_wait k || counted k)) ≡ true
unfolding test_cond_has
cond_has = table_at test_cond_has (record { at_idle = refl; at_try = refl; at_peek = refl; at_line_spin = refl; at_add = refl; at_test = refl; at_park = refl; at_parked = refl; at_leave_spin = refl; at_leave = refl; at_leave_out = refl; at_undo = refl; at_undo_out = refl; at_clear = refl; at_look = refl; at_wake_spin = refl; at_wake = refl; at_wake_out = refl; at_read = refl; at_block_spin = refl; at_compare = refl; at_block_park = refl; at_waiting = refl; at_quit_spin = refl; at_quit = refl; at_block_out = refl; at_choose = refl; at_sig_spin = refl; at_sig = refl; at_sig_out = refl; at_set = refl; at_swap = refl })

test_named_has : Stage → CallKind → Seen → Bool
test_named_has st k v = imp (is_named (row st k v).flag) (eqb (call_no k) 8)

pub named_has : (st : Stage) (k : CallKind) (v : Seen) → fits st k ≡ true → (imp (is_named (row st k v).flag) (eqb (call_no k) 8)) ≡ true
unfolding test_named_has
named_has = table_at test_named_has (record { at_idle = refl; at_try = refl; at_peek = refl; at_line_spin = refl; at_add = refl; at_test = refl; at_park = refl; at_parked = refl; at_leave_spin = refl; at_leave = refl; at_leave_out = refl; at_undo = refl; at_undo_out = refl; at_clear = refl; at_look = refl; at_wake_spin = refl; at_wake = refl; at_wake_out = refl; at_read = refl; at_block_spin = refl; at_compare = refl; at_block_park = refl; at_waiting = refl; at_quit_spin = refl; at_quit = refl; at_block_out = refl; at_choose = refl; at_sig_spin = refl; at_sig = refl; at_sig_out = refl; at_set = refl; at_swap = refl })

test_sig_apart : Stage → CallKind → Seen → Bool
test_sig_apart st k v = imp (signals (row st k v).line) (not (is_between st k) && not (is_between (row st k v).next k))

pub sig_apart : (st : Stage) (k : CallKind) (v : Seen) → fits st k ≡ true → (imp (signals (row st k v).line) (not (is_between st k) && not (is_between (row st k v).next k))) ≡ true
unfolding test_sig_apart
sig_apart = table_at test_sig_apart (record { at_idle = refl; at_try = refl; at_peek = refl; at_line_spin = refl; at_add = refl; at_test = refl; at_park = refl; at_parked = refl; at_leave_spin = refl; at_leave = refl; at_leave_out = refl; at_undo = refl; at_undo_out = refl; at_clear = refl; at_look = refl; at_wake_spin = refl; at_wake = refl; at_wake_out = refl; at_read = refl; at_block_spin = refl; at_compare = refl; at_block_park = refl; at_waiting = refl; at_quit_spin = refl; at_quit = refl; at_block_out = refl; at_choose = refl; at_sig_spin = refl; at_sig = refl; at_sig_out = refl; at_set = refl; at_swap = refl })

lt_more : (x m n : ℕ) → m ≤ n → ltb x m ≡ true → ltb x n ≡ true
lt_more x m n h p = lt-ltb x n (let q : x < m = ltb-true x m p in omega arith)

module _ (s : NubState) where
  gate_go : (k : CallKind) (x y : ℕ) → s.mutexes ≤ 16 → s.semaphores ≤ 16 → exists s k x y ≡ true → has_gate k ≡ true → in_range (cond (is_sem k) (semaphore x) (mutex x)) ≡ true
  gate_go NoCall x y m n e h = no h
  gate_go Acquire x y m n e h = lt_more x s.mutexes 16 m e
  gate_go Release x y m n e h = lt_more x s.mutexes 16 m e
  gate_go Wait x y m n e h = lt_more x s.mutexes 16 m (and_l (ltb x s.mutexes) (ltb y s.conditions) e)
  gate_go Signal x y m n e h = no h
  gate_go Broadcast x y m n e h = no h
  gate_go SemP x y m n e h = lt_more x s.semaphores 16 n e
  gate_go SemV x y m n e h = lt_more x s.semaphores 16 n e
  gate_go Alert x y m n e h = no h
  gate_go TestAlert x y m n e h = no h
  gate_go AlertP x y m n e h = lt_more x s.semaphores 16 n e
  gate_go AlertWait x y m n e h = lt_more x s.mutexes 16 m (and_l (ltb x s.mutexes) (ltb y s.conditions) e)

  pub gate_range : (c : Request) → s.mutexes ≤ 16 → s.semaphores ≤ 16 → exists s c.kind c.x c.y ≡ true → has_gate c.kind ≡ true → in_range (gate_of c) ≡ true
  gate_range c m n e h = gate_go c.kind c.x c.y m n e h

  cond_go : (k : CallKind) (x y : ℕ) → s.conditions ≤ 16 → exists s k x y ≡ true → (is_wait k || counted k) ≡ true → ltb (cond (is_wait k) y x) 16 ≡ true
  cond_go NoCall x y m e h = no h
  cond_go Acquire x y m e h = no h
  cond_go Release x y m e h = no h
  cond_go Wait x y m e h = lt_more y s.conditions 16 m (and_r (ltb x s.mutexes) (ltb y s.conditions) e)
  cond_go Signal x y m e h = lt_more x s.conditions 16 m e
  cond_go Broadcast x y m e h = lt_more x s.conditions 16 m e
  cond_go SemP x y m e h = no h
  cond_go SemV x y m e h = no h
  cond_go Alert x y m e h = no h
  cond_go TestAlert x y m e h = no h
  cond_go AlertP x y m e h = no h
  cond_go AlertWait x y m e h = lt_more y s.conditions 16 m (and_r (ltb x s.mutexes) (ltb y s.conditions) e)

  pub cond_range : (c : Request) → s.conditions ≤ 16 → exists s c.kind c.x c.y ≡ true → (is_wait c.kind || counted c.kind) ≡ true → ltb (cond_of c) 16 ≡ true
  cond_range c m e h = cond_go c.kind c.x c.y m e h

  named_go : (k : CallKind) (x y : ℕ) → s.size ≤ 64 → exists s k x y ≡ true → eqb (call_no k) 8 ≡ true → ltb x 64 ≡ true
  named_go NoCall x y m e h = no h
  named_go Acquire x y m e h = no h
  named_go Release x y m e h = no h
  named_go Wait x y m e h = no h
  named_go Signal x y m e h = no h
  named_go Broadcast x y m e h = no h
  named_go SemP x y m e h = no h
  named_go SemV x y m e h = no h
  named_go Alert x y m e h = lt_more x s.size 64 m e
  named_go TestAlert x y m e h = no h
  named_go AlertP x y m e h = no h
  named_go AlertWait x y m e h = no h

  pub named_range : (c : Request) → s.size ≤ 64 → exists s c.kind c.x c.y ≡ true → eqb (call_no c.kind) 8 ≡ true → c.x < 64
  named_range c m e h = ltb-true c.x 64 (named_go c.kind c.x c.y m e h)

pub line_range : (e : LineEffect) (c : Request) → (uses_gate e ≡ true → in_range (gate_of c) ≡ true) → (uses_cond e ≡ true → ltb (cond_of c) 16 ≡ true) → is_keep_line e ≡ false → in_range (line_at e c) ≡ true
line_range keep_line c g d h = no (sym h)
line_range join_gate c g d h = g refl
line_range leave_gate c g d h = g refl
line_range join_cond c g d h = d refl
line_range leave_cond c g d h = d refl
line_range wake_gate c g d h = g refl
line_range signal_one c g d h = d refl
line_range signal_all c g d h = d refl

gate_low_go : (b : Bool) (x : ℕ) → in_range (cond b (semaphore x) (mutex x)) ≡ true → line_no (cond b (semaphore x) (mutex x)) < 32
gate_low_go true x h = let p : x < 16 = ltb-true x 16 h in omega arith
gate_low_go false x h = let p : x < 16 = ltb-true x 16 h in omega arith

pub gate_low : (c : Request) → in_range (gate_of c) ≡ true → line_no (gate_of c) < 32
gate_low c h = gate_low_go (is_sem c.kind) c.x h

pub line_low : (o : Object) → in_range o ≡ true → line_no o < 48
line_low (mutex m) h = let p : m < 16 = ltb-true m 16 h in omega arith
line_low (semaphore m) h = let p : m < 16 = ltb-true m 16 h in omega arith
line_low (condition m) h = let p : m < 16 = ltb-true m 16 h in omega arith
