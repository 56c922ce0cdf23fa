-- Tests over all stages, kinds and sights, computed.
use Rattle.std.proofs.Common.{◌≡◌, Bool, true, false, ◌&&◌, refl}
use Rattle.stages.specs.Pairs.{fits}
use Rattle.stages.specs.Names.{CallKind}
use Rattle.stages.specs.declared.stage.Stage.{Stage}
use Rattle.stages.specs.Table.{Seen}
use Rattle.stages.specs.declared.stage.Stage.TheVariants.{Idle, Try, Peek, LineSpin, Add, Test, Park, Parked, LeaveSpin, Leave, LeaveOut, Undo, UndoOut, Clear, Look, WakeSpin, Wake, WakeOut, Read, BlockSpin, Compare, BlockPark, Waiting, QuitSpin, Quit, BlockOut, Choose, SigSpin, Sig, SigOut, Set, Swap}
use Rattle.stages.specs.Names.CallKind.{NoCall, Acquire, Release, Wait, Signal, Broadcast, SemP, SemV, Alert, TestAlert, AlertP, AlertWait}

pub and_l : (a b : Bool) → (a && b) ≡ true → a ≡ true
and_l true b h = refl
and_l false b h = h

pub and_r : (a b : Bool) → (a && b) ≡ true → b ≡ true
and_r true b h = h
and_r false b h = absurd (mathlib.Core.Bool.false≢true h)

pub no : {A : Type 0} → false ≡ true → A
no h = absurd (mathlib.Core.Bool.false≢true h)

abbrev pub every_b : (Bool → Bool) → Bool
every_b f = f true && f false

pub every_b_at : (f : Bool → Bool) → every_b f ≡ true → (b : Bool) → f b ≡ true
every_b_at f h true = and_l (f true) (f false) h
every_b_at f h false = and_r (f true) (f false) h

abbrev pub mk_seen : Bool → Bool → Bool → Bool → Bool → Bool → Seen
mk_seen a b c d e g = record { spin = a; bit = b; flag = c; empty = d; same = e; quit = g }

abbrev pub every_seen : (Seen → Bool) → Bool
every_seen f = every_b (λ a. every_b (λ b. every_b (λ c. every_b (λ d. every_b (λ e. every_b (λ g. f (mk_seen a b c d e g)))))))

pub every_seen_at : (f : Seen → Bool) → every_seen f ≡ true → (v : Seen) → f v ≡ true
every_seen_at f h v =
    every_b_at (λ g. f (mk_seen v.spin v.bit v.flag v.empty v.same g))
    (every_b_at (λ e. every_b (λ g. f (mk_seen v.spin v.bit v.flag v.empty e g)))
    (every_b_at (λ d. every_b (λ e. every_b (λ g. f (mk_seen v.spin v.bit v.flag d e g))))
    (every_b_at (λ c. every_b (λ d. every_b (λ e. every_b (λ g. f (mk_seen v.spin v.bit c d e g)))))
    (every_b_at (λ b. every_b (λ c. every_b (λ d. every_b (λ e. every_b (λ g. f (mk_seen v.spin b c d e g))))))
    (every_b_at (λ a. every_b (λ b. every_b (λ c. every_b (λ d. every_b (λ e. every_b (λ g. f (mk_seen a b c d e g))))))) h
    v.spin) v.bit) v.flag) v.empty) v.same) v.quit

abbrev pub every_kind : (CallKind → Bool) → Bool
every_kind f = f NoCall && (f Acquire && (f Release && (f Wait && (f Signal && (f Broadcast && (f SemP && (f SemV && (f Alert && (f TestAlert && (f AlertP && (f AlertWait)))))))))))

pub every_kind_at : (f : CallKind → Bool) → every_kind f ≡ true → (k : CallKind) → f k ≡ true
every_kind_at f h NoCall = and_l (f NoCall) (f Acquire && (f Release && (f Wait && (f Signal && (f Broadcast && (f SemP && (f SemV && (f Alert && (f TestAlert && (f AlertP && (f AlertWait))))))))))) h
every_kind_at f h Acquire = and_l (f Acquire) (f Release && (f Wait && (f Signal && (f Broadcast && (f SemP && (f SemV && (f Alert && (f TestAlert && (f AlertP && (f AlertWait)))))))))) (and_r (f NoCall) (f Acquire && (f Release && (f Wait && (f Signal && (f Broadcast && (f SemP && (f SemV && (f Alert && (f TestAlert && (f AlertP && (f AlertWait))))))))))) h)
every_kind_at f h Release = and_l (f Release) (f Wait && (f Signal && (f Broadcast && (f SemP && (f SemV && (f Alert && (f TestAlert && (f AlertP && (f AlertWait))))))))) (and_r (f Acquire) (f Release && (f Wait && (f Signal && (f Broadcast && (f SemP && (f SemV && (f Alert && (f TestAlert && (f AlertP && (f AlertWait)))))))))) (and_r (f NoCall) (f Acquire && (f Release && (f Wait && (f Signal && (f Broadcast && (f SemP && (f SemV && (f Alert && (f TestAlert && (f AlertP && (f AlertWait))))))))))) h))
every_kind_at f h Wait = and_l (f Wait) (f Signal && (f Broadcast && (f SemP && (f SemV && (f Alert && (f TestAlert && (f AlertP && (f AlertWait)))))))) (and_r (f Release) (f Wait && (f Signal && (f Broadcast && (f SemP && (f SemV && (f Alert && (f TestAlert && (f AlertP && (f AlertWait))))))))) (and_r (f Acquire) (f Release && (f Wait && (f Signal && (f Broadcast && (f SemP && (f SemV && (f Alert && (f TestAlert && (f AlertP && (f AlertWait)))))))))) (and_r (f NoCall) (f Acquire && (f Release && (f Wait && (f Signal && (f Broadcast && (f SemP && (f SemV && (f Alert && (f TestAlert && (f AlertP && (f AlertWait))))))))))) h)))
every_kind_at f h Signal = and_l (f Signal) (f Broadcast && (f SemP && (f SemV && (f Alert && (f TestAlert && (f AlertP && (f AlertWait))))))) (and_r (f Wait) (f Signal && (f Broadcast && (f SemP && (f SemV && (f Alert && (f TestAlert && (f AlertP && (f AlertWait)))))))) (and_r (f Release) (f Wait && (f Signal && (f Broadcast && (f SemP && (f SemV && (f Alert && (f TestAlert && (f AlertP && (f AlertWait))))))))) (and_r (f Acquire) (f Release && (f Wait && (f Signal && (f Broadcast && (f SemP && (f SemV && (f Alert && (f TestAlert && (f AlertP && (f AlertWait)))))))))) (and_r (f NoCall) (f Acquire && (f Release && (f Wait && (f Signal && (f Broadcast && (f SemP && (f SemV && (f Alert && (f TestAlert && (f AlertP && (f AlertWait))))))))))) h))))
every_kind_at f h Broadcast = and_l (f Broadcast) (f SemP && (f SemV && (f Alert && (f TestAlert && (f AlertP && (f AlertWait)))))) (and_r (f Signal) (f Broadcast && (f SemP && (f SemV && (f Alert && (f TestAlert && (f AlertP && (f AlertWait))))))) (and_r (f Wait) (f Signal && (f Broadcast && (f SemP && (f SemV && (f Alert && (f TestAlert && (f AlertP && (f AlertWait)))))))) (and_r (f Release) (f Wait && (f Signal && (f Broadcast && (f SemP && (f SemV && (f Alert && (f TestAlert && (f AlertP && (f AlertWait))))))))) (and_r (f Acquire) (f Release && (f Wait && (f Signal && (f Broadcast && (f SemP && (f SemV && (f Alert && (f TestAlert && (f AlertP && (f AlertWait)))))))))) (and_r (f NoCall) (f Acquire && (f Release && (f Wait && (f Signal && (f Broadcast && (f SemP && (f SemV && (f Alert && (f TestAlert && (f AlertP && (f AlertWait))))))))))) h)))))
every_kind_at f h SemP = and_l (f SemP) (f SemV && (f Alert && (f TestAlert && (f AlertP && (f AlertWait))))) (and_r (f Broadcast) (f SemP && (f SemV && (f Alert && (f TestAlert && (f AlertP && (f AlertWait)))))) (and_r (f Signal) (f Broadcast && (f SemP && (f SemV && (f Alert && (f TestAlert && (f AlertP && (f AlertWait))))))) (and_r (f Wait) (f Signal && (f Broadcast && (f SemP && (f SemV && (f Alert && (f TestAlert && (f AlertP && (f AlertWait)))))))) (and_r (f Release) (f Wait && (f Signal && (f Broadcast && (f SemP && (f SemV && (f Alert && (f TestAlert && (f AlertP && (f AlertWait))))))))) (and_r (f Acquire) (f Release && (f Wait && (f Signal && (f Broadcast && (f SemP && (f SemV && (f Alert && (f TestAlert && (f AlertP && (f AlertWait)))))))))) (and_r (f NoCall) (f Acquire && (f Release && (f Wait && (f Signal && (f Broadcast && (f SemP && (f SemV && (f Alert && (f TestAlert && (f AlertP && (f AlertWait))))))))))) h))))))
every_kind_at f h SemV = and_l (f SemV) (f Alert && (f TestAlert && (f AlertP && (f AlertWait)))) (and_r (f SemP) (f SemV && (f Alert && (f TestAlert && (f AlertP && (f AlertWait))))) (and_r (f Broadcast) (f SemP && (f SemV && (f Alert && (f TestAlert && (f AlertP && (f AlertWait)))))) (and_r (f Signal) (f Broadcast && (f SemP && (f SemV && (f Alert && (f TestAlert && (f AlertP && (f AlertWait))))))) (and_r (f Wait) (f Signal && (f Broadcast && (f SemP && (f SemV && (f Alert && (f TestAlert && (f AlertP && (f AlertWait)))))))) (and_r (f Release) (f Wait && (f Signal && (f Broadcast && (f SemP && (f SemV && (f Alert && (f TestAlert && (f AlertP && (f AlertWait))))))))) (and_r (f Acquire) (f Release && (f Wait && (f Signal && (f Broadcast && (f SemP && (f SemV && (f Alert && (f TestAlert && (f AlertP && (f AlertWait)))))))))) (and_r (f NoCall) (f Acquire && (f Release && (f Wait && (f Signal && (f Broadcast && (f SemP && (f SemV && (f Alert && (f TestAlert && (f AlertP && (f AlertWait))))))))))) h)))))))
every_kind_at f h Alert = and_l (f Alert) (f TestAlert && (f AlertP && (f AlertWait))) (and_r (f SemV) (f Alert && (f TestAlert && (f AlertP && (f AlertWait)))) (and_r (f SemP) (f SemV && (f Alert && (f TestAlert && (f AlertP && (f AlertWait))))) (and_r (f Broadcast) (f SemP && (f SemV && (f Alert && (f TestAlert && (f AlertP && (f AlertWait)))))) (and_r (f Signal) (f Broadcast && (f SemP && (f SemV && (f Alert && (f TestAlert && (f AlertP && (f AlertWait))))))) (and_r (f Wait) (f Signal && (f Broadcast && (f SemP && (f SemV && (f Alert && (f TestAlert && (f AlertP && (f AlertWait)))))))) (and_r (f Release) (f Wait && (f Signal && (f Broadcast && (f SemP && (f SemV && (f Alert && (f TestAlert && (f AlertP && (f AlertWait))))))))) (and_r (f Acquire) (f Release && (f Wait && (f Signal && (f Broadcast && (f SemP && (f SemV && (f Alert && (f TestAlert && (f AlertP && (f AlertWait)))))))))) (and_r (f NoCall) (f Acquire && (f Release && (f Wait && (f Signal && (f Broadcast && (f SemP && (f SemV && (f Alert && (f TestAlert && (f AlertP && (f AlertWait))))))))))) h))))))))
every_kind_at f h TestAlert = and_l (f TestAlert) (f AlertP && (f AlertWait)) (and_r (f Alert) (f TestAlert && (f AlertP && (f AlertWait))) (and_r (f SemV) (f Alert && (f TestAlert && (f AlertP && (f AlertWait)))) (and_r (f SemP) (f SemV && (f Alert && (f TestAlert && (f AlertP && (f AlertWait))))) (and_r (f Broadcast) (f SemP && (f SemV && (f Alert && (f TestAlert && (f AlertP && (f AlertWait)))))) (and_r (f Signal) (f Broadcast && (f SemP && (f SemV && (f Alert && (f TestAlert && (f AlertP && (f AlertWait))))))) (and_r (f Wait) (f Signal && (f Broadcast && (f SemP && (f SemV && (f Alert && (f TestAlert && (f AlertP && (f AlertWait)))))))) (and_r (f Release) (f Wait && (f Signal && (f Broadcast && (f SemP && (f SemV && (f Alert && (f TestAlert && (f AlertP && (f AlertWait))))))))) (and_r (f Acquire) (f Release && (f Wait && (f Signal && (f Broadcast && (f SemP && (f SemV && (f Alert && (f TestAlert && (f AlertP && (f AlertWait)))))))))) (and_r (f NoCall) (f Acquire && (f Release && (f Wait && (f Signal && (f Broadcast && (f SemP && (f SemV && (f Alert && (f TestAlert && (f AlertP && (f AlertWait))))))))))) h)))))))))
every_kind_at f h AlertP = and_l (f AlertP) (f AlertWait) (and_r (f TestAlert) (f AlertP && (f AlertWait)) (and_r (f Alert) (f TestAlert && (f AlertP && (f AlertWait))) (and_r (f SemV) (f Alert && (f TestAlert && (f AlertP && (f AlertWait)))) (and_r (f SemP) (f SemV && (f Alert && (f TestAlert && (f AlertP && (f AlertWait))))) (and_r (f Broadcast) (f SemP && (f SemV && (f Alert && (f TestAlert && (f AlertP && (f AlertWait)))))) (and_r (f Signal) (f Broadcast && (f SemP && (f SemV && (f Alert && (f TestAlert && (f AlertP && (f AlertWait))))))) (and_r (f Wait) (f Signal && (f Broadcast && (f SemP && (f SemV && (f Alert && (f TestAlert && (f AlertP && (f AlertWait)))))))) (and_r (f Release) (f Wait && (f Signal && (f Broadcast && (f SemP && (f SemV && (f Alert && (f TestAlert && (f AlertP && (f AlertWait))))))))) (and_r (f Acquire) (f Release && (f Wait && (f Signal && (f Broadcast && (f SemP && (f SemV && (f Alert && (f TestAlert && (f AlertP && (f AlertWait)))))))))) (and_r (f NoCall) (f Acquire && (f Release && (f Wait && (f Signal && (f Broadcast && (f SemP && (f SemV && (f Alert && (f TestAlert && (f AlertP && (f AlertWait))))))))))) h))))))))))
every_kind_at f h AlertWait = (and_r (f AlertP) (f AlertWait) (and_r (f TestAlert) (f AlertP && (f AlertWait)) (and_r (f Alert) (f TestAlert && (f AlertP && (f AlertWait))) (and_r (f SemV) (f Alert && (f TestAlert && (f AlertP && (f AlertWait)))) (and_r (f SemP) (f SemV && (f Alert && (f TestAlert && (f AlertP && (f AlertWait))))) (and_r (f Broadcast) (f SemP && (f SemV && (f Alert && (f TestAlert && (f AlertP && (f AlertWait)))))) (and_r (f Signal) (f Broadcast && (f SemP && (f SemV && (f Alert && (f TestAlert && (f AlertP && (f AlertWait))))))) (and_r (f Wait) (f Signal && (f Broadcast && (f SemP && (f SemV && (f Alert && (f TestAlert && (f AlertP && (f AlertWait)))))))) (and_r (f Release) (f Wait && (f Signal && (f Broadcast && (f SemP && (f SemV && (f Alert && (f TestAlert && (f AlertP && (f AlertWait))))))))) (and_r (f Acquire) (f Release && (f Wait && (f Signal && (f Broadcast && (f SemP && (f SemV && (f Alert && (f TestAlert && (f AlertP && (f AlertWait)))))))))) (and_r (f NoCall) (f Acquire && (f Release && (f Wait && (f Signal && (f Broadcast && (f SemP && (f SemV && (f Alert && (f TestAlert && (f AlertP && (f AlertWait))))))))))) h)))))))))))

-- a test that passes at each stage
pub record EveryStage (f : Stage → Bool) : Type 0 where
  pub at_idle : f Idle ≡ true
  pub at_try : f Try ≡ true
  pub at_peek : f Peek ≡ true
  pub at_line_spin : f LineSpin ≡ true
  pub at_add : f Add ≡ true
  pub at_test : f Test ≡ true
  pub at_park : f Park ≡ true
  pub at_parked : f Parked ≡ true
  pub at_leave_spin : f LeaveSpin ≡ true
  pub at_leave : f Leave ≡ true
  pub at_leave_out : f LeaveOut ≡ true
  pub at_undo : f Undo ≡ true
  pub at_undo_out : f UndoOut ≡ true
  pub at_clear : f Clear ≡ true
  pub at_look : f Look ≡ true
  pub at_wake_spin : f WakeSpin ≡ true
  pub at_wake : f Wake ≡ true
  pub at_wake_out : f WakeOut ≡ true
  pub at_read : f Read ≡ true
  pub at_block_spin : f BlockSpin ≡ true
  pub at_compare : f Compare ≡ true
  pub at_block_park : f BlockPark ≡ true
  pub at_waiting : f Waiting ≡ true
  pub at_quit_spin : f QuitSpin ≡ true
  pub at_quit : f Quit ≡ true
  pub at_block_out : f BlockOut ≡ true
  pub at_choose : f Choose ≡ true
  pub at_sig_spin : f SigSpin ≡ true
  pub at_sig : f Sig ≡ true
  pub at_sig_out : f SigOut ≡ true
  pub at_set : f Set ≡ true
  pub at_swap : f Swap ≡ true

pub every_stage_at : (f : Stage → Bool) → EveryStage f → (st : Stage) → f st ≡ true
every_stage_at f h Idle = h.at_idle
every_stage_at f h Try = h.at_try
every_stage_at f h Peek = h.at_peek
every_stage_at f h LineSpin = h.at_line_spin
every_stage_at f h Add = h.at_add
every_stage_at f h Test = h.at_test
every_stage_at f h Park = h.at_park
every_stage_at f h Parked = h.at_parked
every_stage_at f h LeaveSpin = h.at_leave_spin
every_stage_at f h Leave = h.at_leave
every_stage_at f h LeaveOut = h.at_leave_out
every_stage_at f h Undo = h.at_undo
every_stage_at f h UndoOut = h.at_undo_out
every_stage_at f h Clear = h.at_clear
every_stage_at f h Look = h.at_look
every_stage_at f h WakeSpin = h.at_wake_spin
every_stage_at f h Wake = h.at_wake
every_stage_at f h WakeOut = h.at_wake_out
every_stage_at f h Read = h.at_read
every_stage_at f h BlockSpin = h.at_block_spin
every_stage_at f h Compare = h.at_compare
every_stage_at f h BlockPark = h.at_block_park
every_stage_at f h Waiting = h.at_waiting
every_stage_at f h QuitSpin = h.at_quit_spin
every_stage_at f h Quit = h.at_quit
every_stage_at f h BlockOut = h.at_block_out
every_stage_at f h Choose = h.at_choose
every_stage_at f h SigSpin = h.at_sig_spin
every_stage_at f h Sig = h.at_sig
every_stage_at f h SigOut = h.at_sig_out
every_stage_at f h Set = h.at_set
every_stage_at f h Swap = h.at_swap

abbrev pub imp : Bool → Bool → Bool
imp true b = b
imp false b = true

pub imp_at : (a b : Bool) → imp a b ≡ true → a ≡ true → b ≡ true
imp_at true b h e = h
imp_at false b h e = no e

abbrev pub every_fit : (Stage → CallKind → Seen → Bool) → Stage → Bool
every_fit f st = every_kind (λ k. elim (fits st k) [ true ↦ every_seen (f st k) | false ↦ true ])

abbrev pub Table : (Stage → CallKind → Seen → Bool) → Type 0
Table f = EveryStage (every_fit f)

fit_go : (b c : Bool) → elim b [ true ↦ c | false ↦ true ] ≡ true → b ≡ true → c ≡ true
fit_go true c h e = h
fit_go false c h e = no e

pub table_at : (f : Stage → CallKind → Seen → Bool) → Table f → (st : Stage) (k : CallKind) (v : Seen) → fits st k ≡ true → f st k v ≡ true
table_at f h st k v e =
    every_seen_at (f st k)
    (fit_go (fits st k) (every_seen (f st k))
    (every_kind_at (λ k. elim (fits st k) [ true ↦ every_seen (f st k) | false ↦ true ]) (every_stage_at (every_fit f) h st) k) e) v
