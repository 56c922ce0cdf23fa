-- One entry of a run: the arrays and lines after it read as the rules say.
use Rattle.std.proofs.Common.{◌≡◌, ℕ, zero, suc, ◌+◌, ◌-◌, ◌^◌, ◌<◌, ◌≤◌, Bool, true, false, cond, not, ◌&&◌, ◌||◌, eqb, ltb, List, [], length, get_or, set, Some as some, None as none, Option, sym, refl, ap, ◌∙◌, subst, add-zero, suc-add, arith, length-set}
use mathlib.Core.Bool.{and-false}
use Rattle.std.proofs.lemmas.Bool.{ltb-true, eqb-true, not-true, not_from_false}
use Rattle.lines.specs.Lines.{has, Sound as LineSound}
use Rattle.lines.specs.Kinds.{Kind as LineKind, Laws, Picks as KindPicks}
use Rattle.stages.specs.Calls.{Object, gate_of, cond_of, same_object, Request, request_of}
use Rattle.stages.specs.Names.{call_no, is_idle, is_wait, CallKind, counted, has_gate}
use Rattle.stages.specs.Calls.Object.{condition}
use Rattle.stages.specs.Table.{Row, is_between, reads_line}
use Rattle.stages.specs.Marks.{marks}
use Rattle.stages.specs.declared.marks.Stands.{Stands}
use Rattle.stages.specs.declared.marks.Stands.TheVariants.{Nowhere as nowhere, AtGate as at_gate, AtCondition as at_cond}
use Rattle.thread.specs.Turns.{ThreadState, moved, idle_thread, state_of, stepped, step_of, own_flag, between_on, flagged, woken_thread}
use Rattle.stages.specs.declared.stage.Stage.{Stage}
use Rattle.stages.specs.declared.stage.Stage.TheVariants.{Idle}
use Rattle.thread.specs.declared.record.Thread.{Thread}
use Rattle.stages.specs.declared.step.LineEffect.{LineEffect}
use Rattle.stages.specs.declared.step.FlagEffect.{FlagEffect}
use Rattle.stages.specs.declared.step.LineEffect.TheVariants.{Keep as keep_line, JoinGate as join_gate, LeaveGate as leave_gate, JoinCondition as join_cond, LeaveCondition as leave_cond, WakeGate as wake_gate, SignalOne as signal_one, SignalAll as signal_all}
use Rattle.stages.specs.declared.step.FlagEffect.TheVariants.{Keep as keep_flag, ClearOwn as clear_own, SetNamed as set_named}
use Rattle.nub.specs.declared.Core.{Core}
use Rattle.nub.specs.Model.{NubState, seen, row_of, line_at, line_new, taken_of, woken, signals, flags_new, does, exists, mask_of, freed_by}
use Rattle.nub.specs.Places.{line_no, in_range, at_line}
use Rattle.nub.specs.View.{by_line, by_obj, view, picks}
use Rattle.runs.proofs.Forms.{named_by, freed_at, mask_at, applied_by, Full, Sized}
use Rattle.nub.specs.Work.{kept_on, count_at, thread_at, worked_in, taken_in, with_threads}
use Rattle.stages.proofs.Finite.{imp_at, no, and_l, and_r}
use Rattle.stages.specs.Pairs.{fits}
use Rattle.runs.proofs.Small.{object_same, is_keep_line, is_stand, stands_pre, clash, stands_ok, stands_post}
use Rattle.runs.specs.Reading.{stands_by}
use Rattle.runs.proofs.Agree.{is_keep_gate, wakes, line_ok, by_idle, idle_is}
use Rattle.nub.proofs.Taken.{mask_step, mask_ext}
use Rattle.runs.specs.Runs.{Member, Picks}
use Rattle.runs.proofs.Inv.{Taken, is_taken, stood_busy, cond_ap}
use Rattle.runs.proofs.Bound.{Sound, sig_fits}
use Rattle.runs.proofs.Ranges.{uses_gate, uses_cond, is_named, gate_has, cond_has, named_has, sig_apart, gate_range, cond_range, named_range, line_range, gate_low, reads_has}
use Rattle.runs.proofs.Lists.{list_set, bits_view, owners_view, freed_bits, freed_owners, freed_spin, freed_sizes, freed_threads, freed_counts}
use Rattle.runs.proofs.Lined.{lines_view, taken_view, granted_view}
use Rattle.runs.specs.Granted.{LineGranted}
use Rattle.runs.proofs.Placed.{state_stepped}

pub nub_path : (a b : NubState) → a.size ≡ b.size → a.mutexes ≡ b.mutexes → a.conditions ≡ b.conditions → a.semaphores ≡ b.semaphores → ((u : ℕ) → a.thread u ≡ b.thread u) → ((u : ℕ) → a.flags u ≡ b.flags u)
    → ((o : Object) → a.line o ≡ b.line o) → ((o : Object) → a.bits o ≡ b.bits o) → ((m : ℕ) → a.owners m ≡ b.owners m) → ((i : ℕ) → a.counts i ≡ b.counts i) → a.spin ≡ b.spin → a ≡ b
nub_path a b p1 p2 p3 p4 p5 p6 p7 p8 p9 p10 p11 =
    λ i. record { size = p1 i; mutexes = p2 i; conditions = p3 i; semaphores = p4 i; thread = λ u. p5 u i; flags = λ u. p6 u i; line = λ o. p7 o i; bits = λ o. p8 o i; owners = λ m. p9 m i; counts = λ n. p10 n i; spin = p11 i }

-- the kind's own choice is a choice
pub picks_ok : (K : LineKind) → Laws K → (k : Core) (f : K.State) → Picks (view K k f) (picks K f)
picks_ok K laws k f o = go (at_line o)
  where
    conv : (p : Option ℕ) (xs : List ℕ) → KindPicks p xs → Member xs p
    conv none xs h = h
    conv (some t) xs h = h

    go : (z : Option ℕ) → Member (by_line [] (K.line f) z) (by_line none (K.next f) z)
    go none = refl
    go (some l) = conv (K.next f l) (K.line f l) (laws.picks f l)

named_th : (e : FlagEffect) (x : ℕ) (l : List Thread) (u : ℕ) → (is_named e ≡ true → x < length l) → state_of (get_or (named_by e x l) u idle_thread) ≡ state_of (get_or l u idle_thread)
named_th keep_flag x l u h = refl
named_th clear_own x l u h = refl
named_th set_named x l u h = ap state_of (list_set idle_thread l x (flagged (get_or l x idle_thread)) u (h refl)) ∙ go (eqb x u) refl
  where
    go : (b : Bool) → eqb x u ≡ b → state_of (cond b (flagged (get_or l x idle_thread)) (get_or l u idle_thread)) ≡ state_of (get_or l u idle_thread)
    go true p = ap (λ (z : ℕ). state_of (get_or l z idle_thread)) (eqb-true x u p)
    go false p = refl

alert_view : (e : FlagEffect) (t x : ℕ) (l : List Thread) (w : Thread) (u : ℕ) → t < length l → (is_named e ≡ true → x < length l) → w.alert ≡ own_flag e (get_or l t idle_thread).alert
    → (get_or (named_by e x (set l t w)) u idle_thread).alert ≡ flags_new e t x (λ n. (get_or l n idle_thread).alert) u
alert_view e t x l w u h n q = go e n q
  where
    kept : (b : Bool) → eqb t u ≡ b → w.alert ≡ (get_or l t idle_thread).alert → (cond b w (get_or l u idle_thread)).alert ≡ (get_or l u idle_thread).alert
    kept true p q = q ∙ ap (λ (z : ℕ). (get_or l z idle_thread).alert) (eqb-true t u p)
    kept false p q = refl

    same : w.alert ≡ (get_or l t idle_thread).alert → (get_or (set l t w) u idle_thread).alert ≡ (get_or l u idle_thread).alert
    same q = ap (λ (z : Thread). z.alert) (list_set idle_thread l t w u h) ∙ kept (eqb t u) refl q

    off : (b : Bool) → w.alert ≡ false → (cond b w (get_or l u idle_thread)).alert ≡ cond b false (get_or l u idle_thread).alert
    off true q = q
    off false q = refl

    on : (b : Bool) → w.alert ≡ (get_or l t idle_thread).alert → (cond b (flagged (get_or (set l t w) x idle_thread)) (get_or (set l t w) u idle_thread)).alert ≡ cond b true (get_or l u idle_thread).alert
    on true q = refl
    on false q = same q

    go : (e : FlagEffect) → (is_named e ≡ true → x < length l) → w.alert ≡ own_flag e (get_or l t idle_thread).alert → (get_or (named_by e x (set l t w)) u idle_thread).alert ≡ flags_new e t x (λ n. (get_or l n idle_thread).alert) u
    go keep_flag n q = same q
    go clear_own n q = ap (λ (z : Thread). z.alert) (list_set idle_thread l t w u h) ∙ off (eqb t u) q
    go set_named n q =
        ap (λ (z : Thread). z.alert) (list_set idle_thread (set l t w) x (flagged (get_or (set l t w) x idle_thread)) u (subst (λ (m : ℕ). x < m) (sym (length-set l t w)) (n refl)))
        ∙ on (eqb x u) q

wakes_uses : (e : LineEffect) → signals e ≡ true → uses_cond e ≡ true
wakes_uses keep_line h = no h
wakes_uses join_gate h = no h
wakes_uses leave_gate h = no h
wakes_uses join_cond h = no h
wakes_uses leave_cond h = no h
wakes_uses wake_gate h = no h
wakes_uses signal_one h = refl
wakes_uses signal_all h = refl

quiet_none : (K : LineKind) (f : K.State) (e : LineEffect) (z : Option ℕ) → wakes e ≡ false → taken_in K e z f ≡ []
quiet_none K f keep_line z h = refl
quiet_none K f join_gate z h = refl
quiet_none K f leave_gate z h = refl
quiet_none K f join_cond z h = refl
quiet_none K f leave_cond z h = refl
quiet_none K f wake_gate z h = no (sym h)
quiet_none K f signal_one z h = no (sym h)
quiet_none K f signal_all z h = no (sym h)

pre_none : (a m : Stands) (c : Request) (o : Object) → is_stand nowhere a ≡ true → is_stand a m ≡ true → stands_by m c o ≡ false
pre_none nowhere nowhere c o p q = refl
pre_none nowhere at_gate c o p q = no q
pre_none nowhere at_cond c o p q = no q
pre_none at_gate m c o p q = no p
pre_none at_cond m c o p q = no p

pre_some : (e : LineEffect) (m n : Stands) (c : Request) → is_stand nowhere (stands_pre e) ≡ false → stands_ok e m n ≡ true → stands_by m c (line_at e c) ≡ true
pre_some keep_line m n c p q = no (sym p)
pre_some join_gate m n c p q = no (sym p)
pre_some leave_gate nowhere n c p q = no q
pre_some leave_gate at_gate n c p q = object_same (gate_of c)
pre_some leave_gate at_cond n c p q = no q
pre_some join_cond m n c p q = no (sym p)
pre_some leave_cond nowhere n c p q = no q
pre_some leave_cond at_gate n c p q = no q
pre_some leave_cond at_cond n c p q = object_same (condition (cond_of c))
pre_some wake_gate m n c p q = no (sym p)
pre_some signal_one m n c p q = no (sym p)
pre_some signal_all m n c p q = no (sym p)

ok_pre : (e : LineEffect) (m n : Stands) → is_keep_line e ≡ false → stands_ok e m n ≡ true → is_stand (stands_pre e) m ≡ true
ok_pre e m n h q = and_l (is_stand (stands_pre e) m) (is_stand (stands_post e) n) (ap (λ (b : Bool). cond b (is_stand m n) (is_stand (stands_pre e) m && is_stand (stands_post e) n)) (sym h) ∙ q)

or_l : (a b : Bool) → a ≡ true → (a || b) ≡ true
or_l true b h = refl
or_l false b h = no h

or_r : (a b : Bool) → b ≡ true → (a || b) ≡ true
or_r true b h = refl
or_r false b h = h

mask_cut : (g : ℕ → Bool) (m d : ℕ) → ((u : ℕ) → m ≤ u → g u ≡ false) → mask_of g (d + m) ≡ mask_of g m
mask_cut g m zero h = ap (mask_of g) (native.Mathlib.Nat.zero-add m)
mask_cut g m (suc d) h =
    ap (mask_of g) (suc-add d m) ∙ mask_step g (d + m) ∙ ap (λ (b : Bool). mask_of g (d + m) + cond b (2 ^ (d + m)) 0) (h (d + m) (omega arith)) ∙ add-zero (mask_of g (d + m)) ∙ mask_cut g m d h

idle_apart : (k : CallKind) → is_between Idle k ≡ false
idle_apart k = and-false (is_wait k)

module _ (K : LineKind) (laws : Laws K) (k : Core) (f : K.State) (full : Full k) (ls : LineSound K.serves (K.line f)) (fit : Sized K.serves k.sizes) (so : Sound (view K k f)) (t : ℕ) (busy : is_idle (thread_at k t).stage ≡ false) where
  abbrev S : NubState
  S = view K k f

  abbrev C : Request
  C = request_of (thread_at k t).call

  abbrev R : Row
  R = row_of (view K k f) t

  abbrev E : LineEffect
  E = (row_of (view K k f) t).line

  abbrev N : ℕ
  N = count_at k (cond_of (request_of (thread_at k t).call))

  abbrev US : List ℕ
  US = taken_in K (row_of (view K k f) t).line (at_line (line_at (row_of (view K k f) t).line (request_of (thread_at k t).call))) f

  abbrev UT : List ℕ
  UT = taken_of (view K k f) t (row_of (view K k f) t) (picks K f)

  abbrev K1 : Core
  K1 = with_threads k (set k.threads t (stepped (row_of (view K k f) t) (count_at k (cond_of (request_of (thread_at k t).call))) (thread_at k t)))

  abbrev K2 : Core
  K2 = applied_by (step_of (row_of (view K k f) t)) t (request_of (thread_at k t).call) (with_threads k (set k.threads t (stepped (row_of (view K k f) t) (count_at k (cond_of (request_of (thread_at k t).call))) (thread_at k t))))

  abbrev M : ThreadState
  M = moved (row_of (view K k f) t) (count_at k (cond_of (request_of (thread_at k t).call))) (state_of (thread_at k t))

  few : k.sizes.threads ≤ 64
  few = fit.threads!

  in_size : t < k.sizes.threads
  in_size = ltb-true t k.sizes.threads (so.inv.inside t busy)

  low : t < length k.threads
  low = let a : t < k.sizes.threads = in_size in let b : k.sizes.threads ≤ 64 = few in let c : length k.threads ≡ 64 = full.threads! in omega arith

  fit_now : fits (thread_at k t).stage (request_of (thread_at k t).call).kind ≡ true
  fit_now = so.inv.fit t

  ex : exists S C.kind C.x C.y ≡ true
  ex = so.ranged t busy

  gate! : is_keep_gate R.gate ≡ false → in_range (gate_of C) ≡ true
  gate! h = gate_range S C fit.mutexes! fit.semaphores! ex (imp_at (not (is_keep_gate R.gate) || uses_gate E) (has_gate C.kind) (gate_has (thread_at k t).stage C.kind (seen S t) fit_now) (or_l (not (is_keep_gate R.gate)) (uses_gate E) (not_from_false (is_keep_gate R.gate) h)))

  gate_l! : uses_gate E ≡ true → in_range (gate_of C) ≡ true
  gate_l! h = gate_range S C fit.mutexes! fit.semaphores! ex (imp_at (not (is_keep_gate R.gate) || uses_gate E) (has_gate C.kind) (gate_has (thread_at k t).stage C.kind (seen S t) fit_now) (or_r (not (is_keep_gate R.gate)) (uses_gate E) h))

  pub read! : reads_line (thread_at k t).stage ≡ true → in_range (gate_of C) ≡ true
  read! h = gate_range S C fit.mutexes! fit.semaphores! ex (reads_has (thread_at k t).stage C.kind (seen S t) fit_now h)

  cond! : uses_cond E ≡ true → ltb (cond_of C) 16 ≡ true
  cond! h = cond_range S C fit.conditions! ex (imp_at (uses_cond E) (is_wait C.kind || counted C.kind) (cond_has (thread_at k t).stage C.kind (seen S t) fit_now) h)

  line! : is_keep_line E ≡ false → in_range (line_at E C) ≡ true
  line! = line_range E C gate_l! cond!

  named! : is_named R.flag ≡ true → C.x < 64
  named! h = named_range S C few ex (imp_at (is_named R.flag) (eqb (call_no C.kind) 8) (named_has (thread_at k t).stage C.kind (seen S t) fit_now) h)

  us_is : US ≡ UT
  us_is = taken_view K laws f E C line!

  tk : Taken S t E UT
  tk = is_taken S t (picks K f) so.inv (picks_ok K laws k f)

  is_in_lem : (u : ℕ) → has u US ≡ true → has u UT ≡ true
  is_in_lem u h = ap (has u) (sym us_is) ∙ h

  taken_size : (u : ℕ) → has u UT ≡ true → u < k.sizes.threads
  taken_size u h = ltb-true u k.sizes.threads (so.inv.inside u (stood_busy (thread_at k u).stage (request_of (thread_at k u).call) (line_at E C) (tk u h).stands!))

  Y : (u : ℕ) → state_of (get_or K2.threads u idle_thread) ≡ cond (eqb t u) M (state_of (get_or k.threads u idle_thread))
  Y u =
      named_th R.flag C.x K1.threads u (λ h. let a : C.x < 64 = named! h in let b : length k.threads ≡ 64 = full.threads! in let c : length K1.threads ≡ length k.threads = length-set k.threads t (stepped R N (thread_at k t)) in omega arith)
      ∙ ap state_of (list_set idle_thread k.threads t (stepped R N (thread_at k t)) u low)
      ∙ cond_ap state_of (eqb t u) (stepped R N (thread_at k t)) (get_or k.threads u idle_thread)
      ∙ ap (λ (m : ThreadState). cond (eqb t u) m (state_of (get_or k.threads u idle_thread))) (state_stepped R N (thread_at k t))

  K2Length : length K2.threads ≡ 64
  K2Length = go R.flag
    where
      one : length K1.threads ≡ 64
      one = length-set k.threads t (stepped R N (thread_at k t)) ∙ full.threads!

      go : (e : FlagEffect) → length (named_by e C.x K1.threads) ≡ 64
      go keep_flag = one
      go clear_own = one
      go set_named = length-set K1.threads C.x (flagged (get_or K1.threads C.x idle_thread)) ∙ one

  woke : (u : ℕ) → get_or (freed_at E (cond_of C) US K2).threads u idle_thread ≡ cond (has u US) (woken_thread E (get_or K2.threads u idle_thread)) (get_or K2.threads u idle_thread)
  woke = freed_threads (cond_of C) US K2 E (quiet_none K f E (at_line (line_at E C))) (λ u h. let a : u < k.sizes.threads = taken_size u (is_in_lem u h) in let b : k.sizes.threads ≤ 64 = few in let c : length K2.threads ≡ 64 = K2Length in omega arith)

  th_eq : (u : ℕ) → state_of (get_or (freed_at E (cond_of C) US K2).threads u idle_thread) ≡ (does S t R UT).thread u
  th_eq u = ap state_of (woke u) ∙ go (eqb t u) (has u US) refl refl (Y u) ∙ ap (λ (b : Bool). cond (eqb t u) M (cond b (woken E (state_of (get_or k.threads u idle_thread))) (state_of (get_or k.threads u idle_thread)))) (ap (has u) us_is)
    where
      go : (a b : Bool) → eqb t u ≡ a → has u US ≡ b → state_of (get_or K2.threads u idle_thread) ≡ cond a M (state_of (get_or k.threads u idle_thread))
          → state_of (cond b (woken_thread E (get_or K2.threads u idle_thread)) (get_or K2.threads u idle_thread)) ≡ cond a M (cond b (woken E (state_of (get_or k.threads u idle_thread))) (state_of (get_or k.threads u idle_thread)))
      go true true p q y = clash p (tk u (is_in_lem u q)).other!
      go true false p q y = y
      go false true p q y = ap (woken E) y
      go false false p q y = y

  flags_eq : (u : ℕ) → (get_or (freed_at E (cond_of C) US K2).threads u idle_thread).alert ≡ (does S t R UT).flags u
  flags_eq u =
      ap (λ (z : Thread). z.alert) (woke u) ∙ go (has u US)
      ∙ alert_view R.flag t C.x k.threads (stepped R N (thread_at k t)) u low (λ h. let a : C.x < 64 = named! h in let b : length k.threads ≡ 64 = full.threads! in omega arith) refl
    where
      go : (b : Bool) → (cond b (woken_thread E (get_or K2.threads u idle_thread)) (get_or K2.threads u idle_thread)).alert ≡ (get_or K2.threads u idle_thread).alert
      go true = refl
      go false = refl

  stands_ok_lem : stands_ok E (marks (thread_at k t).stage).line (marks R.next).line ≡ true
  stands_ok_lem = line_ok (thread_at k t).stage C.kind (seen S t) fit_now

  lines_eq : (o : Object) → by_obj [] (K.line (worked_in K E (at_line (line_at E C)) f t)) o ≡ (does S t R UT).line o
  lines_eq o =
      lines_view K laws f E C t ls (let a : t < k.sizes.threads = in_size in let b : k.sizes.threads ≤ K.serves = fit.served! in omega arith) line!
      (λ p q i. so.inv.stood i t ∙ pre_none (stands_pre E) (marks (thread_at k t).stage).line C i p (ok_pre E (marks (thread_at k t).stage).line (marks R.next).line q stands_ok_lem))
      (λ p. so.inv.stood (line_at E C) t ∙ pre_some E (marks (thread_at k t).stage).line (marks R.next).line C p stands_ok_lem) o
      ∙ ap (λ (us : List ℕ). cond (same_object (line_at E C) o) (line_new E t us (by_obj [] (K.line f) o)) (by_obj [] (K.line f) o)) us_is

  pub granted_now : LineGranted K E (at_line (line_at E C)) f t
  granted_now =
      granted_view K laws f E C t (let a : t < k.sizes.threads = in_size in let b : k.sizes.threads ≤ K.serves = fit.served! in omega arith) line!
      (λ p q i. so.inv.stood i t ∙ pre_none (stands_pre E) (marks (thread_at k t).stage).line C i p (ok_pre E (marks (thread_at k t).stage).line (marks R.next).line q stands_ok_lem))
      (λ p. so.inv.stood (line_at E C) t ∙ pre_some E (marks (thread_at k t).stage).line (marks R.next).line C p stands_ok_lem)

  bits_eq : (o : Object) → by_obj false (λ n. get_or (freed_at E (cond_of C) US K2).bits n false) o ≡ (does S t R UT).bits o
  bits_eq o =
      ap (λ (l : List Bool). by_obj false (λ n. get_or l n false) o) (freed_bits (cond_of C) US K2 E)
      ∙ bits_view R.gate (gate_of C) k.bits o gate! (λ h. let a : line_no (gate_of C) < 32 = gate_low C (gate! h) in let b : length k.bits ≡ 32 = full.bits! in omega arith)

  owners_eq : (m : ℕ) → get_or (freed_at E (cond_of C) US K2).owners m none ≡ (does S t R UT).owners m
  owners_eq m = ap (λ (l : List (Option ℕ)). get_or l m none) (freed_owners (cond_of C) US K2 E) ∙ owners_view R.gate t (gate_of C) k.owners m full.owners! gate!

  counts_eq : (i : ℕ) → get_or (freed_at E (cond_of C) US K2).counts i 0 ≡ (does S t R UT).counts i
  counts_eq i =
      freed_counts (cond_of C) US K2 E
      (λ h. let a : cond_of C < 16 = ltb-true (cond_of C) 16 (cond! (wakes_uses E h)) in let b : length k.counts ≡ 16 = full.counts! in omega arith)
      (λ h. sig_fits S t so busy h) i

  size_same : (freed_at E (cond_of C) US K2).sizes ≡ k.sizes
  size_same = freed_sizes (cond_of C) US K2 E

  pub does_view : view K (freed_at E (cond_of C) US K2) (worked_in K E (at_line (line_at E C)) f t) ≡ does S t R UT
  does_view =
      nub_path (view K (freed_at E (cond_of C) US K2) (worked_in K E (at_line (line_at E C)) f t)) (does S t R UT)
      (ap (λ (z : Rattle.nub.specs.declared.Sizes.Sizes). z.threads) size_same) (ap (λ (z : Rattle.nub.specs.declared.Sizes.Sizes). z.mutexes) size_same) (ap (λ (z : Rattle.nub.specs.declared.Sizes.Sizes). z.conditions) size_same) (ap (λ (z : Rattle.nub.specs.declared.Sizes.Sizes). z.semaphores) size_same)
      th_eq flags_eq lines_eq bits_eq owners_eq counts_eq (freed_spin (cond_of C) US K2 E)

  -- the mask
  apart! : signals E ≡ true → (not (is_between (thread_at k t).stage C.kind) && not (is_between R.next C.kind)) ≡ true
  apart! h = imp_at (signals E) (not (is_between (thread_at k t).stage C.kind) && not (is_between R.next C.kind)) (sig_apart (thread_at k t).stage C.kind (seen S t) fit_now) h

  point : signals E ≡ true → (n : ℕ) → (has n US || kept_on K2 (cond_of C) N n) ≡ freed_by S (cond_of C) UT n
  point h n = ap (λ (b : Bool). b || kept_on K2 (cond_of C) N n) (ap (has n) us_is) ∙ ap (λ (b : Bool). has n UT || b) (go (eqb t n) refl (Y n))
    where
      was : is_between (thread_at k t).stage C.kind ≡ false
      was = not-true (is_between (thread_at k t).stage C.kind) (and_l (not (is_between (thread_at k t).stage C.kind)) (not (is_between R.next C.kind)) (apart! h))

      then : is_between M.stage M.call.kind ≡ false
      then = by_idle (λ st d. is_between st d.kind ≡ false) R.next C refl (λ b. not-true (is_between R.next C.kind) (and_r (not (is_between (thread_at k t).stage C.kind)) (not (is_between R.next C.kind)) (apart! h)))

      on : ThreadState → Bool
      on x = between_on x (cond_of C) && eqb x.kept N

      off : (x : ThreadState) → is_between x.stage x.call.kind ≡ false → (between_on x (cond_of C) && eqb x.kept N) ≡ false
      off x p = ap (λ (b : Bool). b && eqb (cond_of x.call) (cond_of C) && eqb x.kept N) p

      go : (b : Bool) → eqb t n ≡ b → state_of (get_or K2.threads n idle_thread) ≡ cond b M (state_of (get_or k.threads n idle_thread))
          → kept_on K2 (cond_of C) N n ≡ (between_on (state_of (get_or k.threads n idle_thread)) (cond_of C) && eqb (state_of (get_or k.threads n idle_thread)).kept N)
      go true p y =
          ap (λ (x : ThreadState). between_on x (cond_of C) && eqb x.kept N) y ∙ off M then
          ∙ sym (off (state_of (get_or k.threads n idle_thread)) (subst (λ (z : ℕ). is_between (thread_at k z).stage (request_of (thread_at k z).call).kind ≡ false) (eqb-true t n p) was))
      go false p y = ap (λ (x : ThreadState). between_on x (cond_of C) && eqb x.kept N) y

  past : (u : ℕ) → k.sizes.threads ≤ u → freed_by S (cond_of C) UT u ≡ false
  past u h = ap (λ (b : Bool). b || (between_on (S.thread u) (cond_of C) && eqb (S.thread u).kept N)) (out (has u UT) refl) ∙ rest (is_idle (thread_at k u).stage) refl
    where
      out : (b : Bool) → has u UT ≡ b → has u UT ≡ false
      out true p = let a : u < k.sizes.threads = taken_size u p in let z : ⊥ = omega arith in absurd z
      out false p = p

      rest : (b : Bool) → is_idle (thread_at k u).stage ≡ b → (between_on (S.thread u) (cond_of C) && eqb (S.thread u).kept N) ≡ false
      rest true p =
          ap (λ (b : Bool). b && eqb (cond_of (request_of (thread_at k u).call)) (cond_of C) && eqb (S.thread u).kept N)
          (ap (λ (st : Stage). is_between st (request_of (thread_at k u).call).kind) (idle_is (thread_at k u).stage p) ∙ idle_apart (request_of (thread_at k u).call).kind)
      rest false p = let a : u < k.sizes.threads = ltb-true u k.sizes.threads (so.inv.inside u p) in let z : ⊥ = omega arith in absurd z

  pub mask_view : mask_at E (cond_of C) US K2 ≡ cond (signals E) (mask_of (freed_by S (cond_of C) UT) S.size) 0
  mask_view = go (signals E) refl
    where
      go : (b : Bool) → signals E ≡ b → cond b (mask_of (λ n. has n US || kept_on K2 (cond_of C) N n) 64) 0 ≡ cond b (mask_of (freed_by S (cond_of C) UT) S.size) 0
      go true p =
          mask_ext (λ n. has n US || kept_on K2 (cond_of C) N n) (freed_by S (cond_of C) UT) 64 (λ n q. point p n)
          ∙ ap (mask_of (freed_by S (cond_of C) UT)) (let a : k.sizes.threads ≤ 64 = few in let z : 64 ≡ (64 - k.sizes.threads) + k.sizes.threads = omega arith in z)
          ∙ mask_cut (freed_by S (cond_of C) UT) k.sizes.threads (64 - k.sizes.threads) past
      go false p = refl
