-- The invariant, and that a turn keeps it.
use Rattle.std.proofs.Common.{◌≡◌, ℕ, suc, ◌≤◌, Bool, true, false, cond, not, ◌&&◌, ◌||◌, eqb, ltb, List, [], ◌∷◌, Some as some, None as none, Option, sym, refl, ap, ◌∙◌, subst, arith}
use Rattle.std.proofs.lemmas.Bool.{and_from, eq-eqb, eqb-true, not-true, not_from_false}
use Rattle.stages.specs.Calls.{Object, gate_of, cond_of, same_object, elem, is_empty, is_some, Request, no_call}
use Rattle.stages.specs.Names.{is_idle, is_alert_wait, is_sem, CallKind}
use Rattle.stages.specs.declared.stage.Stage.{Stage}
use Rattle.stages.specs.Calls.Object.{mutex, semaphore, condition}
use Rattle.stages.specs.Table.{Seen, Row, is_between, spin_new}
use Rattle.stages.specs.Marks.{marks, is_wake_gate, is_join_gate, is_take, is_free}
use Rattle.stages.specs.declared.step.SpinEffect.{SpinEffect}
use Rattle.stages.specs.declared.step.LineEffect.{LineEffect}
use Rattle.stages.specs.declared.step.GateEffect.{GateEffect}
use Rattle.stages.specs.declared.step.FlagEffect.{FlagEffect}
use Rattle.stages.specs.declared.marks.Stands.{Stands}
use Rattle.stages.specs.declared.step.SpinEffect.TheVariants.{Keep as keep_spin, Set as set_spin, Clear as clear_spin}
use Rattle.stages.specs.declared.step.LineEffect.TheVariants.{Keep as keep_line, JoinGate as join_gate, LeaveGate as leave_gate, JoinCondition as join_cond, LeaveCondition as leave_cond, WakeGate as wake_gate, SignalOne as signal_one, SignalAll as signal_all}
use Rattle.stages.specs.declared.step.GateEffect.TheVariants.{Keep as keep_gate, Take as take_gate, Free as free_gate}
use Rattle.stages.specs.declared.marks.Stands.TheVariants.{Nowhere as nowhere, AtGate as at_gate, AtCondition as at_cond}
use Rattle.stages.specs.declared.stage.Stage.TheVariants.{Try, Choose}
use Rattle.nub.specs.Model.{NubState, Pick, seen, row_of, line_at, taken, line_new, woken, taken_of, does, flags_new, bits_new, owners_new, counts_new, signals}
use Rattle.thread.specs.Turns.{ThreadState, moved, woken_stage}
use Rattle.runs.specs.Runs.{Member, Picks}
use Rattle.runs.specs.Reading.{on_way}
use Rattle.stages.proofs.Finite.{imp, imp_at, no, and_l, and_r}
use Rattle.stages.specs.Pairs.{fits}
use Rattle.runs.proofs.Small.{same_object_lem, in_new, elem_new, stands_ok, stood_self, is_stand, or_else, clash}
use Rattle.runs.specs.Reading.{stands_by}
use Rattle.runs.proofs.Agree.{fit_ok, line_ok, spin_ok_lem, wake_spin, own_ok, take_ok, free_ok, quit_ok, kept_ok, way_free, way_join, way_keep, rest_way, rest_gate, rest_cond, idle_stands, by_idle, wakes, spin_ok, is_keep_gate, is_keep_flag, is_standing, owns_now, is_quit}

abbrev pub stands_at : ThreadState → Object → Bool
stands_at h o = stands_by (marks h.stage).line h.call o

abbrev pub is_gate : Object → Bool
is_gate (mutex m) = true
is_gate (semaphore i) = true
is_gate (condition c) = false

pub record Inv (s : NubState) : Type 0 where
  pub fit : (u : ℕ) → fits (s.thread u).stage (s.thread u).call.kind ≡ true
  pub inside : (u : ℕ) → is_idle (s.thread u).stage ≡ false → ltb u s.size ≡ true
  pub stood : (o : Object) (u : ℕ) → elem u (s.line o) ≡ stands_at (s.thread u) o
  pub spun : (w : ℕ) × ((u : ℕ) → (marks (s.thread u).stage).spin ≡ (s.spin && eqb w u))
  pub owned : (m : ℕ) → s.bits (mutex m) ≡ is_some (s.owners m)
  pub owner : (u : ℕ) → owns_now (s.thread u).stage (s.thread u).call.kind ≡ true → s.owners (s.thread u).call.x ≡ some u
  pub quits : (u : ℕ) → is_quit (s.thread u).stage ≡ true → s.flags u ≡ true
  pub kept : (u : ℕ) → is_between (s.thread u).stage (s.thread u).call.kind ≡ true → (s.thread u).kept ≤ s.counts (cond_of (s.thread u).call)
  pub way : (o : Object) → is_gate o ≡ true → s.bits o ≡ false → (u : ℕ) → elem u (s.line o) ≡ true → (w : ℕ) × (on_way (s.thread w) o ≡ true)

-- who is taken stands in the line that is worked on, is another, and does not hold the spin bit
pub record IsTaken (s : NubState) (t : ℕ) (e : LineEffect) (u : ℕ) : Type 0 where
  pub wakes! : wakes e ≡ true
  pub stands! : stands_at (s.thread u) (line_at e (s.thread t).call) ≡ true
  pub other! : eqb t u ≡ false
  pub rests! : (marks (s.thread u).stage).spin ≡ false

abbrev pub Taken : NubState → ℕ → LineEffect → List ℕ → Type 0
Taken s t e k = (u : ℕ) → elem u k ≡ true → IsTaken s t e u

-- the three sorts of thread that a turn leaves
pub by_sort : (P : ThreadState → Type 0) (b k : Bool) (m w h : ThreadState)
    → (b ≡ true → P m) → (b ≡ false → k ≡ true → P w) → (b ≡ false → k ≡ false → P h) → P (cond b m (cond k w h))
by_sort P true k m w h f g i = f refl
by_sort P false true m w h f g i = g refl refl
by_sort P false false m w h f g i = i refl refl

pub stands_one : (m : Stands) (d : Request) (a b : Object) → stands_by m d a ≡ true → stands_by m d b ≡ same_object a b
stands_one nowhere d a b h = no h
stands_one at_gate d a b h = ap (λ (z : Object). same_object z b) (same_object_lem (gate_of d) a h)
stands_one at_cond d a b h = ap (λ (z : Object). same_object z b) (same_object_lem (condition (cond_of d)) a h)

stood_taken_go : (e : LineEffect) (b : Bool) → wakes e ≡ true → cond b (in_new e false true b) b ≡ false
stood_taken_go e b p = grind arith

stood_taken : (e : LineEffect) (m : Stands) (c d : Request) (o : Object) → wakes e ≡ true → stands_by m d (line_at e c) ≡ true
    → cond (same_object (line_at e c) o) (in_new e false true (stands_by m d o)) (stands_by m d o) ≡ false
stood_taken e m c d o p q = rw (stands_one m d (line_at e c) o q) (stood_taken_go e (same_object (line_at e c) o) p)

stood_rest : (e : LineEffect) (b c : Bool) → cond c (in_new e false false b) b ≡ b
stood_rest e b c = grind arith

pub stands_is : (m : Stands) (c : Request) (o : Object) → stands_by m c o ≡ true → is_standing m ≡ true
stands_is nowhere c o h = h
stands_is at_gate c o h = refl
stands_is at_cond c o h = refl

pub cond_ap : {A B : Type 0} (f : A → B) (b : Bool) (x y : A) → f (cond b x y) ≡ cond b (f x) (f y)
cond_ap f true x y = refl
cond_ap f false x y = refl

woken_nowhere : (e : LineEffect) (k : CallKind) → (marks (woken_stage e k)).line ≡ nowhere
woken_nowhere e k = grind arith

woken_spin : (e : LineEffect) (k : CallKind) → (marks (woken_stage e k)).spin ≡ false
woken_spin e k = grind arith

pub does_stood : (s : NubState) (t : ℕ) (r : Row) (k : List ℕ)
    → ((o : Object) (u : ℕ) → elem u (s.line o) ≡ stands_at (s.thread u) o)
    → stands_ok r.line (marks (s.thread t).stage).line (marks r.next).line ≡ true
    → Taken s t r.line k
    → (o : Object) (u : ℕ) → elem u ((does s t r k).line o) ≡ stands_at ((does s t r k).thread u) o
does_stood s t r k st ok tk o u =
    cond_ap (elem u) (same_object L o) (line_new r.line t k (s.line o)) (s.line o)
    ∙ ap (λ (z : Bool). cond (same_object L o) z (elem u (s.line o))) (elem_new r.line t u k (s.line o))
    ∙ ap (λ (z : Bool). cond (same_object L o) (in_new r.line (eqb t u) (elem u k) z) z) (st o u)
    ∙ by_sort (λ h. cond (same_object L o) (in_new r.line (eqb t u) (elem u k) X) X ≡ stands_at h o) (eqb t u) (elem u k)
    (moved r (s.counts (cond_of (s.thread t).call)) (s.thread t)) (woken r.line (s.thread u)) (s.thread u) self other rest
  where
    L : Object
    L = line_at r.line (s.thread t).call

    X : Bool
    X = stands_at (s.thread u) o

    self : eqb t u ≡ true → cond (same_object L o) (in_new r.line (eqb t u) (elem u k) X) X ≡ stands_at (moved r (s.counts (cond_of (s.thread t).call)) (s.thread t)) o
    self p =
        ap (λ (z : Bool). cond (same_object L o) (in_new r.line z (elem u k) X) X) p
        ∙ ap (λ (z : ℕ). cond (same_object L o) (in_new r.line true (elem u k) (stands_at (s.thread z) o)) (stands_at (s.thread z) o)) (sym (eqb-true t u p))
        ∙ stood_self r.line (marks (s.thread t).stage).line (marks r.next).line (s.thread t).call o (elem u k) ok
        ∙ sym (idle_stands r.next (s.thread t).call no_call o)

    other : eqb t u ≡ false → elem u k ≡ true → cond (same_object L o) (in_new r.line (eqb t u) (elem u k) X) X ≡ stands_at (woken r.line (s.thread u)) o
    other p q =
        ap (λ (z : Bool). cond (same_object L o) (in_new r.line z (elem u k) X) X) p
        ∙ ap (λ (z : Bool). cond (same_object L o) (in_new r.line false z X) X) q
        ∙ stood_taken r.line (marks (s.thread u).stage).line (s.thread t).call (s.thread u).call o (tk u q).wakes! (tk u q).stands!
        ∙ ap (λ (z : Stands). stands_by z (s.thread u).call o) (sym (woken_nowhere r.line (s.thread u).call.kind))

    rest : eqb t u ≡ false → elem u k ≡ false → cond (same_object L o) (in_new r.line (eqb t u) (elem u k) X) X ≡ X
    rest p q =
        ap (λ (z : Bool). cond (same_object L o) (in_new r.line z (elem u k) X) X) p
        ∙ ap (λ (z : Bool). cond (same_object L o) (in_new r.line false z X) X) q
        ∙ stood_rest r.line X (same_object L o)

-- the spin bit
abbrev spin_who {ℓ} : {A : Type ℓ} → SpinEffect → A → A → A
spin_who keep_spin w t = w
spin_who set_spin w t = t
spin_who clear_spin w t = w

spin_who_lem : (e : SpinEffect) (w t u : ℕ) → eqb (spin_who e w t) u ≡ spin_who e (eqb w u) (eqb t u)
spin_who_lem keep_spin w t u = refl
spin_who_lem set_spin w t u = refl
spin_who_lem clear_spin w t u = refl

spin_self : (e : SpinEffect) (b a s wt : Bool) → spin_ok e b a s ≡ true → b ≡ (s && wt) → a ≡ (spin_new e s && spin_who e wt true)
spin_self e b a s wt h p = grind arith

spin_rest : (e : SpinEffect) (b a s wt wu tu : Bool) → spin_ok e b a s ≡ true → b ≡ (s && wt) → (wt ≡ true → wu ≡ tu) → tu ≡ false
    → (s && wu) ≡ (spin_new e s && spin_who e wu tu)
spin_rest e b a s wt wu tu h p q z = grind arith

pub does_spun : (s : NubState) (t : ℕ) (r : Row) (k : List ℕ)
    → ((w : ℕ) × ((u : ℕ) → (marks (s.thread u).stage).spin ≡ (s.spin && eqb w u)))
    → spin_ok r.spin (marks (s.thread t).stage).spin (marks r.next).spin s.spin ≡ true
    → Taken s t r.line k
    → (w : ℕ) × ((u : ℕ) → (marks ((does s t r k).thread u).stage).spin ≡ ((does s t r k).spin && eqb w u))
does_spun s t r k sp ok tk = (
  spin_who r.spin sp.0 t,
  λ u. rw (spin_who_lem r.spin sp.0 t u)
      (by_sort (λ h. (marks h.stage).spin ≡ (spin_new r.spin s.spin && spin_who r.spin (eqb sp.0 u) (eqb t u))) (eqb t u) (elem u k)
      (moved r (s.counts (cond_of (s.thread t).call)) (s.thread t)) (woken r.line (s.thread u)) (s.thread u)
      (self u) (λ p q. woken_spin r.line (s.thread u).call.kind ∙ sym (tk u q).rests! ∙ rest u p) (λ p q. rest u p)),
)
  where
    self : (u : ℕ) → eqb t u ≡ true → (marks r.next).spin ≡ (spin_new r.spin s.spin && spin_who r.spin (eqb sp.0 u) (eqb t u))
    self u p =
        rw p (subst (λ (z : ℕ). (marks r.next).spin ≡ (spin_new r.spin s.spin && spin_who r.spin (eqb sp.0 z) true)) (eqb-true t u p)
        (spin_self r.spin (marks (s.thread t).stage).spin (marks r.next).spin s.spin (eqb sp.0 t) ok (sp.1 t)))

    rest : (u : ℕ) → eqb t u ≡ false → (marks (s.thread u).stage).spin ≡ (spin_new r.spin s.spin && spin_who r.spin (eqb sp.0 u) (eqb t u))
    rest u p =
        sp.1 u
        ∙ spin_rest r.spin (marks (s.thread t).stage).spin (marks r.next).spin s.spin (eqb sp.0 t) (eqb sp.0 u) (eqb t u) ok (sp.1 t)
        (λ e. ap (λ (z : ℕ). eqb z u) (eqb-true sp.0 t e)) p

-- the call at its stage
abbrev pub wake_mark : LineEffect → Stands
wake_mark keep_line = nowhere
wake_mark join_gate = nowhere
wake_mark leave_gate = nowhere
wake_mark join_cond = nowhere
wake_mark leave_cond = nowhere
wake_mark wake_gate = at_gate
wake_mark signal_one = at_cond
wake_mark signal_all = at_cond

pub taken_mark : (e : LineEffect) (m : Stands) (c d : Request) → wakes e ≡ true → stands_by m d (line_at e c) ≡ true → is_stand (wake_mark e) m ≡ true
taken_mark e m c d p q = grind arith

woken_fit : (e : LineEffect) (st : Stage) (k : CallKind) (v : Seen) → wakes e ≡ true → is_stand (wake_mark e) (marks st).line ≡ true → (marks st).spin ≡ false
    → fits st k ≡ true → fits (woken_stage e k) k ≡ true
woken_fit keep_line st k v w m p f = no w
woken_fit join_gate st k v w m p f = no w
woken_fit leave_gate st k v w m p f = no w
woken_fit join_cond st k v w m p f = no w
woken_fit leave_cond st k v w m p f = no w
woken_fit wake_gate st k v w m p f =
    imp_at (is_stand at_gate (marks st).line && not (marks st).spin) (fits Try k) (rest_gate st k v f)
    (and_from (is_stand at_gate (marks st).line) (not (marks st).spin) m (not_from_false (marks st).spin p))
woken_fit signal_one st k v w m p f =
    imp_at (is_stand at_cond (marks st).line && not (marks st).spin) (fits (cond (is_alert_wait k) Choose Try) k) (rest_cond st k v f)
    (and_from (is_stand at_cond (marks st).line) (not (marks st).spin) m (not_from_false (marks st).spin p))
woken_fit signal_all st k v w m p f =
    imp_at (is_stand at_cond (marks st).line && not (marks st).spin) (fits (cond (is_alert_wait k) Choose Try) k) (rest_cond st k v f)
    (and_from (is_stand at_cond (marks st).line) (not (marks st).spin) m (not_from_false (marks st).spin p))

pub does_fit : (s : NubState) (t : ℕ) (r : Row) (k : List ℕ)
    → ((u : ℕ) → fits (s.thread u).stage (s.thread u).call.kind ≡ true)
    → (is_idle r.next || fits r.next (s.thread t).call.kind) ≡ true
    → Taken s t r.line k
    → (u : ℕ) → fits ((does s t r k).thread u).stage ((does s t r k).thread u).call.kind ≡ true
does_fit s t r k ft ok tk u =
    by_sort (λ h. fits h.stage h.call.kind ≡ true) (eqb t u) (elem u k)
    (moved r (s.counts (cond_of (s.thread t).call)) (s.thread t)) (woken r.line (s.thread u)) (s.thread u)
    (λ p. by_idle (λ n c. fits n c.kind ≡ true) r.next (s.thread t).call refl (λ e. or_else (is_idle r.next) (fits r.next (s.thread t).call.kind) ok e))
    (λ p q.
    woken_fit r.line (s.thread u).stage (s.thread u).call.kind (seen s u) (tk u q).wakes!
    (taken_mark r.line (marks (s.thread u).stage).line (s.thread t).call (s.thread u).call (tk u q).wakes! (tk u q).stands!) (tk u q).rests! (ft u))
    (λ p q. ft u)

pub stood_busy : (st : Stage) (c : Request) (o : Object) → stands_by (marks st).line c o ≡ true → is_idle st ≡ false
stood_busy st c o h = grind arith

pub does_inside : (s : NubState) (t : ℕ) (r : Row) (k : List ℕ)
    → ((u : ℕ) → is_idle (s.thread u).stage ≡ false → ltb u s.size ≡ true)
    → is_idle (s.thread t).stage ≡ false
    → Taken s t r.line k
    → (u : ℕ) → is_idle ((does s t r k).thread u).stage ≡ false → ltb u s.size ≡ true
does_inside s t r k ins busy tk u =
    by_sort (λ h. is_idle h.stage ≡ false → ltb u s.size ≡ true) (eqb t u) (elem u k)
    (moved r (s.counts (cond_of (s.thread t).call)) (s.thread t)) (woken r.line (s.thread u)) (s.thread u)
    (λ p i. subst (λ (z : ℕ). ltb z s.size ≡ true) (eqb-true t u p) (ins t busy))
    (λ p q i. ins u (stood_busy (s.thread u).stage (s.thread u).call (line_at r.line (s.thread t).call) (tk u q).stands!))
    (λ p q i. ins u i)

-- bits and owners of mutexes
pub does_owned : (s : NubState) (t : ℕ) (r : Row) (k : List ℕ)
    → ((m : ℕ) → s.bits (mutex m) ≡ is_some (s.owners m))
    → (m : ℕ) → (does s t r k).bits (mutex m) ≡ is_some ((does s t r k).owners m)
does_owned s t r k ow m = go r.gate (same_object (gate_of (s.thread t).call) (mutex m)) refl
  where
    go : (e : GateEffect) (b : Bool) → same_object (gate_of (s.thread t).call) (mutex m) ≡ b
        → bits_new e (gate_of (s.thread t).call) s.bits (mutex m) ≡ is_some (owners_new e t (gate_of (s.thread t).call) s.owners m)
    go keep_gate b p = ow m
    go take_gate true p = rw p
    go take_gate false p = rw p (ow m)
    go free_gate true p = rw p
    go free_gate false p = rw p (ow m)

flag_self : (e : FlagEffect) (t x : ℕ) (f : ℕ → Bool) (u : ℕ) → is_keep_flag e ≡ true → f u ≡ true → flags_new e t x f u ≡ true
flag_self e t x f u p q = grind arith

flag_rest : (e : FlagEffect) (t x : ℕ) (f : ℕ → Bool) (u : ℕ) → eqb t u ≡ false → f u ≡ true → flags_new e t x f u ≡ true
flag_rest e t x f u p q = grind arith

woken_quit : (e : LineEffect) (k : CallKind) → is_quit (woken_stage e k) ≡ false
woken_quit e k = grind arith

woken_between : (e : LineEffect) (k : CallKind) → is_between (woken_stage e k) k ≡ false
woken_between e k = grind arith

woken_owns : (e : LineEffect) (k : CallKind) → owns_now (woken_stage e k) k ≡ false
woken_owns e k = grind arith

or_both : (a b c : Bool) → (a || b) ≡ true → (a ≡ true → c ≡ true) → (b ≡ true → c ≡ true) → c ≡ true
or_both true b c h f g = f refl
or_both false b c h f g = g h

pub does_quits : (s : NubState) (t : ℕ) (r : Row) (k : List ℕ)
    → ((u : ℕ) → is_quit (s.thread u).stage ≡ true → s.flags u ≡ true)
    → imp (is_quit r.next) ((is_quit (s.thread t).stage || s.flags t) && is_keep_flag r.flag) ≡ true
    → (u : ℕ) → is_quit ((does s t r k).thread u).stage ≡ true → (does s t r k).flags u ≡ true
does_quits s t r k qu ok u =
    by_sort (λ h. is_quit h.stage ≡ true → flags_new r.flag t (s.thread t).call.x s.flags u ≡ true) (eqb t u) (elem u k)
    (moved r (s.counts (cond_of (s.thread t).call)) (s.thread t)) (woken r.line (s.thread u)) (s.thread u)
    (λ p i.
    let j : ((is_quit (s.thread t).stage || s.flags t) && is_keep_flag r.flag) ≡ true = imp_at (is_quit r.next) ((is_quit (s.thread t).stage || s.flags t) && is_keep_flag r.flag) ok i in
    flag_self r.flag t (s.thread t).call.x s.flags u (and_r (is_quit (s.thread t).stage || s.flags t) (is_keep_flag r.flag) j)
    (subst (λ (z : ℕ). s.flags z ≡ true) (eqb-true t u p)
    (or_both (is_quit (s.thread t).stage) (s.flags t) (s.flags t) (and_l (is_quit (s.thread t).stage || s.flags t) (is_keep_flag r.flag) j) (qu t) (λ e. e))))
    (λ p q i. clash i (woken_quit r.line (s.thread u).call.kind))
    (λ p q i. flag_rest r.flag t (s.thread t).call.x s.flags u p (qu u i))

count_up : (b : Bool) (n : ℕ) → n ≤ cond b (suc n) n
count_up true n = omega arith
count_up false n = omega arith

pub counts_up : (e : LineEffect) (c : ℕ) (f : ℕ → ℕ) (i n : ℕ) → n ≤ f i → n ≤ counts_new e c f i
counts_up e c f i n h = let g : f i ≤ counts_new e c f i = count_up (signals e && eqb c i) (f i) in omega arith

kept_pick : (b : Bool) (n m c : ℕ) → n ≤ c → (b ≡ false → m ≤ c) → cond b n m ≤ c
kept_pick true n m c p q = p
kept_pick false n m c p q = q refl

pub does_kept : (s : NubState) (t : ℕ) (r : Row) (k : List ℕ)
    → ((u : ℕ) → is_between (s.thread u).stage (s.thread u).call.kind ≡ true → (s.thread u).kept ≤ s.counts (cond_of (s.thread u).call))
    → imp (is_between r.next (s.thread t).call.kind) (r.keep || is_between (s.thread t).stage (s.thread t).call.kind) ≡ true
    → (u : ℕ) → is_between ((does s t r k).thread u).stage ((does s t r k).thread u).call.kind ≡ true
    → ((does s t r k).thread u).kept ≤ (does s t r k).counts (cond_of ((does s t r k).thread u).call)
does_kept s t r k ke ok u =
    by_sort (λ h. is_between h.stage h.call.kind ≡ true → h.kept ≤ counts_new r.line (cond_of (s.thread t).call) s.counts (cond_of h.call)) (eqb t u) (elem u k)
    (moved r (s.counts (cond_of (s.thread t).call)) (s.thread t)) (woken r.line (s.thread u)) (s.thread u)
    (λ p. by_idle (λ n c. is_between n c.kind ≡ true → cond r.keep (s.counts (cond_of (s.thread t).call)) (s.thread t).kept ≤ counts_new r.line (cond_of (s.thread t).call) s.counts (cond_of c)) r.next (s.thread t).call
    (λ i. no i)
    (λ b i. counts_up r.line (cond_of (s.thread t).call) s.counts (cond_of (s.thread t).call) (cond r.keep (s.counts (cond_of (s.thread t).call)) (s.thread t).kept)
    (kept_pick r.keep (s.counts (cond_of (s.thread t).call)) (s.thread t).kept (s.counts (cond_of (s.thread t).call)) (omega arith)
    (λ e. ke t (or_else r.keep (is_between (s.thread t).stage (s.thread t).call.kind)
    (imp_at (is_between r.next (s.thread t).call.kind) (r.keep || is_between (s.thread t).stage (s.thread t).call.kind) ok i) e)))))
    (λ p q i. clash i (woken_between r.line (s.thread u).call.kind))
    (λ p q i. counts_up r.line (cond_of (s.thread t).call) s.counts (cond_of (s.thread u).call) (s.thread u).kept (ke u i))

some_inj : (a b : ℕ) → ◌≡◌ {A = Option ℕ} (some a) (some b) → a ≡ b
some_inj a b h = cc

pub gate_mut : (c : Request) (m : ℕ) → same_object (gate_of c) (mutex m) ≡ true → is_sem c.kind ≡ false
gate_mut c m h = grind arith

pub gate_x : (c : Request) (m : ℕ) → same_object (gate_of c) (mutex m) ≡ true → c.x ≡ m
gate_x c m h = go (is_sem c.kind) h
  where
    go : (b : Bool) → same_object (cond b (semaphore c.x) (mutex c.x)) (mutex m) ≡ true → c.x ≡ m
    go true e = no e
    go false e = eqb-true c.x m e

pub does_owner : (s : NubState) (t : ℕ) (r : Row) (k : List ℕ)
    → ((m : ℕ) → s.bits (mutex m) ≡ is_some (s.owners m))
    → ((u : ℕ) → owns_now (s.thread u).stage (s.thread u).call.kind ≡ true → s.owners (s.thread u).call.x ≡ some u)
    → imp (owns_now r.next (s.thread t).call.kind) (owns_now (s.thread t).stage (s.thread t).call.kind && is_keep_gate r.gate) ≡ true
    → imp (is_take r.gate) (not (s.bits (gate_of (s.thread t).call))) ≡ true
    → imp (is_free r.gate) (is_sem (s.thread t).call.kind || owns_now (s.thread t).stage (s.thread t).call.kind) ≡ true
    → (u : ℕ) → owns_now ((does s t r k).thread u).stage ((does s t r k).thread u).call.kind ≡ true
    → (does s t r k).owners ((does s t r k).thread u).call.x ≡ some u
does_owner s t r k od ow ok tak fre u =
    by_sort (λ h. owns_now h.stage h.call.kind ≡ true → owners_new r.gate t (gate_of (s.thread t).call) s.owners h.call.x ≡ some u) (eqb t u) (elem u k)
    (moved r (s.counts (cond_of (s.thread t).call)) (s.thread t)) (woken r.line (s.thread u)) (s.thread u)
    (λ p. by_idle (λ n c. owns_now n c.kind ≡ true → owners_new r.gate t (gate_of (s.thread t).call) s.owners c.x ≡ some u) r.next (s.thread t).call
    (λ i. no i)
    (λ b i.
    let j : (owns_now (s.thread t).stage (s.thread t).call.kind && is_keep_gate r.gate) ≡ true = imp_at (owns_now r.next (s.thread t).call.kind) (owns_now (s.thread t).stage (s.thread t).call.kind && is_keep_gate r.gate) ok i in
    self r.gate (and_r (owns_now (s.thread t).stage (s.thread t).call.kind) (is_keep_gate r.gate) j)
    ∙ ow t (and_l (owns_now (s.thread t).stage (s.thread t).call.kind) (is_keep_gate r.gate) j)
    ∙ ap some (eqb-true t u p)))
    (λ p q i. clash i (woken_owns r.line (s.thread u).call.kind))
    (λ p q i. rest p (ow u i) r.gate (same_object (gate_of (s.thread t).call) (mutex (s.thread u).call.x)) refl tak fre)
  where
    self : (e : GateEffect) → is_keep_gate e ≡ true → owners_new e t (gate_of (s.thread t).call) s.owners (s.thread t).call.x ≡ s.owners (s.thread t).call.x
    self keep_gate h = refl
    self take_gate h = no h
    self free_gate h = no h

    rest : eqb t u ≡ false → s.owners (s.thread u).call.x ≡ some u → (e : GateEffect) (b : Bool) → same_object (gate_of (s.thread t).call) (mutex (s.thread u).call.x) ≡ b
        → imp (is_take e) (not (s.bits (gate_of (s.thread t).call))) ≡ true
        → imp (is_free e) (is_sem (s.thread t).call.kind || owns_now (s.thread t).stage (s.thread t).call.kind) ≡ true
        → owners_new e t (gate_of (s.thread t).call) s.owners (s.thread u).call.x ≡ some u
    rest p h keep_gate b q f g = h
    rest p h take_gate true q f g =
        clash (od (s.thread u).call.x ∙ ap is_some h) (subst (λ (z : Object). s.bits z ≡ false) (same_object_lem (gate_of (s.thread t).call) (mutex (s.thread u).call.x) q) (not-true (s.bits (gate_of (s.thread t).call)) f))
    rest p h take_gate false q f g = rw q h
    rest p h free_gate true q f g =
        let o : owns_now (s.thread t).stage (s.thread t).call.kind ≡ true = or_else (is_sem (s.thread t).call.kind) (owns_now (s.thread t).stage (s.thread t).call.kind) g (gate_mut (s.thread t).call (s.thread u).call.x q) in
        let x : (s.thread t).call.x ≡ (s.thread u).call.x = gate_x (s.thread t).call (s.thread u).call.x q in
        clash (eq-eqb t u (some_inj t u (sym (ow t o) ∙ ap s.owners x ∙ h))) p
    rest p h free_gate false q f g = rw q h

pub does_elem : (s : NubState) (t : ℕ) (r : Row) (k : List ℕ) (o : Object) (u : ℕ)
    → elem u ((does s t r k).line o) ≡ cond (same_object (line_at r.line (s.thread t).call) o) (in_new r.line (eqb t u) (elem u k) (elem u (s.line o))) (elem u (s.line o))
does_elem s t r k o u =
    cond_ap (elem u) (same_object (line_at r.line (s.thread t).call) o) (line_new r.line t k (s.line o)) (s.line o)
    ∙ ap (λ (z : Bool). cond (same_object (line_at r.line (s.thread t).call) o) z (elem u (s.line o))) (elem_new r.line t u k (s.line o))

sub_line : (e : LineEffect) (c : Request) (o : Object) (b k x : Bool) → is_gate o ≡ true → (is_join_gate e && same_object (gate_of c) o) ≡ false
    → cond (same_object (line_at e c) o) (in_new e b k x) x ≡ true → x ≡ true
sub_line e c o b k x g h p = grind arith

-- what a turn leaves of the thread w
pub does_self : (s : NubState) (t : ℕ) (r : Row) (k : List ℕ) → (does s t r k).thread t ≡ moved r (s.counts (cond_of (s.thread t).call)) (s.thread t)
does_self s t r k = rw (eq-eqb t t refl)

pub does_woken : (s : NubState) (t : ℕ) (r : Row) (k : List ℕ) (u : ℕ) → eqb t u ≡ false → elem u k ≡ true → (does s t r k).thread u ≡ woken r.line (s.thread u)
does_woken s t r k u p q = rw (p, q)

pub does_rest : (s : NubState) (t : ℕ) (r : Row) (k : List ℕ) (u : ℕ) → eqb t u ≡ false → elem u k ≡ false → (does s t r k).thread u ≡ s.thread u
does_rest s t r k u p q = rw (p, q)

self_way : (s : NubState) (t : ℕ) (r : Row) (k : List ℕ) (o : Object) → (marks r.next).way ≡ true → same_object (gate_of (s.thread t).call) o ≡ true
    → on_way ((does s t r k).thread t) o ≡ true
self_way s t r k o w g =
    rw (does_self s t r k)
    (by_idle (λ n c. (marks n).way ≡ true → ((marks n).way && same_object (gate_of c) o) ≡ true) r.next (s.thread t).call (λ i. no i)
    (λ b i. and_from (marks r.next).way (same_object (gate_of (s.thread t).call) o) i g) w)

-- a thread on its way stays so, but for the acting one
carry : (s : NubState) (t : ℕ) (r : Row) (k : List ℕ) (o : Object)
    → ((u : ℕ) → fits (s.thread u).stage (s.thread u).call.kind ≡ true)
    → Taken s t r.line k
    → (on_way (s.thread t) o ≡ true → (marks r.next).way ≡ true)
    → (w : ℕ) → on_way (s.thread w) o ≡ true → (z : ℕ) × (on_way ((does s t r k).thread z) o ≡ true)
carry s t r k o ft tk hs w h = go (eqb t w) (elem w k) refl refl
  where
    go : (a b : Bool) → eqb t w ≡ a → elem w k ≡ b → (z : ℕ) × (on_way ((does s t r k).thread z) o ≡ true)
    go true b p q =
        let h' : on_way (s.thread t) o ≡ true = subst (λ (z : ℕ). on_way (s.thread z) o ≡ true) (sym (eqb-true t w p)) h in
        (t, self_way s t r k o (hs h') (and_r (marks (s.thread t).stage).way (same_object (gate_of (s.thread t).call) o) h'))
    go false true p q =
        clash (and_l (marks (s.thread w).stage).way (same_object (gate_of (s.thread w).call) o) h)
        (not-true (marks (s.thread w).stage).way
        (imp_at (is_standing (marks (s.thread w).stage).line && not (marks (s.thread w).stage).spin) (not (marks (s.thread w).stage).way)
        (rest_way (s.thread w).stage (s.thread w).call.kind (seen s w) (ft w))
        (and_from (is_standing (marks (s.thread w).stage).line) (not (marks (s.thread w).stage).spin)
        (stands_is (marks (s.thread w).stage).line (s.thread w).call (line_at r.line (s.thread t).call) (tk w q).stands!)
        (not_from_false (marks (s.thread w).stage).spin (tk w q).rests!))))
    go false false p q = (w, rw (does_rest s t r k w p q) h)

woken_way : (e : LineEffect) (m : Stands) (c d : Request) (o : Object) (k : CallKind) → is_wake_gate e ≡ true → stands_by m d (line_at e c) ≡ true → same_object (gate_of c) o ≡ true
    → ((marks (woken_stage e k)).way && same_object (gate_of d) o) ≡ true
woken_way keep_line m c d o k w h g = no w
woken_way join_gate m c d o k w h g = no w
woken_way leave_gate m c d o k w h g = no w
woken_way join_cond m c d o k w h g = no w
woken_way leave_cond m c d o k w h g = no w
woken_way wake_gate nowhere c d o k w h g = no h
woken_way wake_gate at_gate c d o k w h g = subst (λ (z : Object). same_object (gate_of d) z ≡ true) (same_object_lem (gate_of c) o g) h
woken_way wake_gate at_cond c d o k w h g = no' (is_sem c.kind) h
  where
    no' : (b : Bool) → same_object (condition (cond_of d)) (cond b (semaphore c.x) (mutex c.x)) ≡ true → same_object (gate_of d) o ≡ true
    no' true e = no e
    no' false e = no e
woken_way signal_one m c d o k w h g = no w
woken_way signal_all m c d o k w h g = no w

empty_no : (l : List ℕ) (u : ℕ) → elem u l ≡ true → is_empty l ≡ false
empty_no [] u h = no h
empty_no (x ∷ l) u h = refl

bits_other : (e : GateEffect) (g : Object) (f : Object → Bool) (o : Object) → same_object g o ≡ false → bits_new e g f o ≡ f o
bits_other e g f o h = grind arith

pub does_way : (s : NubState) (t : ℕ) (r : Row) (k : List ℕ)
    → ((u : ℕ) → fits (s.thread u).stage (s.thread u).call.kind ≡ true)
    → ((o : Object) → is_gate o ≡ true → s.bits o ≡ false → (u : ℕ) → elem u (s.line o) ≡ true → (w : ℕ) × (on_way (s.thread w) o ≡ true))
    → Taken s t r.line k
    → (is_wake_gate r.line ≡ true → (u : ℕ) → elem u (s.line (gate_of (s.thread t).call)) ≡ true → (w : ℕ) × (elem w k ≡ true))
    → imp (is_free r.gate) (marks r.next).way ≡ true
    → imp (is_join_gate r.line) (marks r.next).way ≡ true
    → imp ((marks (s.thread t).stage).way && not (s.bits (gate_of (s.thread t).call)) && is_keep_gate r.gate && not (is_wake_gate r.line) && not (is_empty (s.line (gate_of (s.thread t).call))))
    (marks r.next).way ≡ true
    → (o : Object) → is_gate o ≡ true → (does s t r k).bits o ≡ false → (u : ℕ) → elem u ((does s t r k).line o) ≡ true
    → (w : ℕ) × (on_way ((does s t r k).thread w) o ≡ true)
does_way s t r k ft wy tk wk fre joi kee o g b u h =
    go (same_object (gate_of (s.thread t).call) o) refl
  where
    G : Object
    G = gate_of (s.thread t).call

    h' : cond (same_object (line_at r.line (s.thread t).call) o) (in_new r.line (eqb t u) (elem u k) (elem u (s.line o))) (elem u (s.line o)) ≡ true
    h' = sym (does_elem s t r k o u) ∙ h

    in_line : (is_join_gate r.line && same_object G o) ≡ false → elem u (s.line o) ≡ true
    in_line z = sub_line r.line (s.thread t).call o (eqb t u) (elem u k) (elem u (s.line o)) g z h'

    -- the gate of the acting thread, its bit as it was
    at_gate_lem : same_object G o ≡ true → is_keep_gate r.gate ≡ true → s.bits o ≡ false → (j w : Bool) → is_join_gate r.line ≡ j → is_wake_gate r.line ≡ w
        → (z : ℕ) × (on_way ((does s t r k).thread z) o ≡ true)
    at_gate_lem p n c true w e f = (t, self_way s t r k o (imp_at (is_join_gate r.line) (marks r.next).way joi e) p)
    at_gate_lem p n c false true e f =
        let x : (w : ℕ) × (elem w k ≡ true) = wk f u (subst (λ (z : Object). elem u (s.line z) ≡ true) (sym (same_object_lem G o p)) (in_line (rw e))) in (
          x.0,
          rw (does_woken s t r k x.0 (tk x.0 x.1).other! x.1)
              (woken_way r.line (marks (s.thread x.0).stage).line (s.thread t).call (s.thread x.0).call o (s.thread x.0).call.kind f (tk x.0 x.1).stands! p),
        )
    at_gate_lem p n c false false e f =
        let i : elem u (s.line o) ≡ true = in_line (rw e) in
        let x : (w : ℕ) × (on_way (s.thread w) o ≡ true) = wy o g c u i in
        carry s t r k o ft tk
        (λ y. imp_at ((marks (s.thread t).stage).way && not (s.bits G) && is_keep_gate r.gate && not (is_wake_gate r.line) && not (is_empty (s.line G))) (marks r.next).way kee
        (and_from ((marks (s.thread t).stage).way && not (s.bits G) && is_keep_gate r.gate && not (is_wake_gate r.line)) (not (is_empty (s.line G)))
        (and_from ((marks (s.thread t).stage).way && not (s.bits G) && is_keep_gate r.gate) (not (is_wake_gate r.line))
        (and_from ((marks (s.thread t).stage).way && not (s.bits G)) (is_keep_gate r.gate)
        (and_from (marks (s.thread t).stage).way (not (s.bits G))
        (and_l (marks (s.thread t).stage).way (same_object G o) y)
        (not_from_false (s.bits G) (subst (λ (z : Object). s.bits z ≡ false) (sym (same_object_lem G o p)) c)))
        n) (not_from_false (is_wake_gate r.line) f))
        (not_from_false (is_empty (s.line G)) (empty_no (s.line G) u (subst (λ (z : Object). elem u (s.line z) ≡ true) (sym (same_object_lem G o p)) i)))))
        x.0 x.1

    by_gate : same_object G o ≡ true → (e : GateEffect) → r.gate ≡ e → bits_new e G s.bits o ≡ false → (z : ℕ) × (on_way ((does s t r k).thread z) o ≡ true)
    by_gate p keep_gate e c = at_gate_lem p (ap is_keep_gate e) c (is_join_gate r.line) (is_wake_gate r.line) refl refl
    by_gate p take_gate e c = clash (rw p) c
    by_gate p free_gate e c = (t, self_way s t r k o (imp_at (is_free r.gate) (marks r.next).way fre (ap is_free e)) p)

    go : (a : Bool) → same_object G o ≡ a → (z : ℕ) × (on_way ((does s t r k).thread z) o ≡ true)
    go true p = by_gate p r.gate refl b
    go false p =
        let x : (w : ℕ) × (on_way (s.thread w) o ≡ true) = wy o g (sym (bits_other r.gate G s.bits o p) ∙ b) u (in_line (rw p (mathlib.Core.Bool.and-false (is_join_gate r.line)))) in
        carry s t r k o ft tk (λ y. clash (and_r (marks (s.thread t).stage).way (same_object G o) y) p) x.0 x.1

-- takes
taken_in_lem : (e : LineEffect) (p : Option ℕ) (l : List ℕ) → Member l p → (u : ℕ) → elem u (taken e p l) ≡ true → (wakes e ≡ true) × (elem u l ≡ true)
taken_in_lem keep_line p l m u h = no h
taken_in_lem join_gate p l m u h = no h
taken_in_lem leave_gate p l m u h = no h
taken_in_lem join_cond p l m u h = no h
taken_in_lem leave_cond p l m u h = no h
taken_in_lem wake_gate none l m u h = no h
taken_in_lem wake_gate (some x) l m u h = (refl, subst (λ (z : ℕ). elem z l ≡ true) (eqb-true x u (sym (mathlib.Core.Bool.or-false (eqb x u)) ∙ h)) m)
taken_in_lem signal_one none l m u h = no h
taken_in_lem signal_one (some x) l m u h = (refl, subst (λ (z : ℕ). elem z l ≡ true) (eqb-true x u (sym (mathlib.Core.Bool.or-false (eqb x u)) ∙ h)) m)
taken_in_lem signal_all p l m u h = (refl, h)

-- a take from a line that has a member takes one
pub taken_one : (e : LineEffect) (p : Option ℕ) (l : List ℕ) → Member l p → wakes e ≡ true → (u : ℕ) → elem u l ≡ true → (w : ℕ) × (elem w (taken e p l) ≡ true)
taken_one keep_line p l m k u h = no k
taken_one join_gate p l m k u h = no k
taken_one leave_gate p l m k u h = no k
taken_one join_cond p l m k u h = no k
taken_one leave_cond p l m k u h = no k
taken_one wake_gate none l m k u h = no (ap (elem u) (sym m) ∙ h)
taken_one wake_gate (some x) l m k u h = (x, rw (eq-eqb x x refl))
taken_one signal_one none l m k u h = no (ap (elem u) (sym m) ∙ h)
taken_one signal_one (some x) l m k u h = (x, rw (eq-eqb x x refl))
taken_one signal_all p l m k u h = (u, h)

wakes_nowhere : (e : LineEffect) (m n : Stands) (c : Request) (o : Object) → wakes e ≡ true → stands_ok e m n ≡ true → stands_by m c o ≡ false
wakes_nowhere e m n c o p q = grind arith

rests_lem : (a b s wt wu tu : Bool) → a ≡ true → a ≡ (s && wt) → b ≡ (s && wu) → (wt ≡ true → wu ≡ tu) → tu ≡ false → b ≡ false
rests_lem a b s wt wu tu p q r f z = grind arith

wake_one : (s : NubState) (pick : Pick) (c : Request) → Picks s pick → (e : LineEffect) → is_wake_gate e ≡ true → (u : ℕ) → elem u (s.line (gate_of c)) ≡ true
    → (w : ℕ) × (elem w (taken e (pick (line_at e c)) (s.line (line_at e c))) ≡ true)
wake_one s pick c pk keep_line h u i = no h
wake_one s pick c pk join_gate h u i = no h
wake_one s pick c pk leave_gate h u i = no h
wake_one s pick c pk join_cond h u i = no h
wake_one s pick c pk leave_cond h u i = no h
wake_one s pick c pk wake_gate h u i = taken_one wake_gate (pick (gate_of c)) (s.line (gate_of c)) (pk (gate_of c)) refl u i
wake_one s pick c pk signal_one h u i = no h
wake_one s pick c pk signal_all h u i = no h

pub is_taken : (s : NubState) (t : ℕ) (pick : Pick) → Inv s → Picks s pick → Taken s t (row_of s t).line (taken_of s t (row_of s t) pick)
is_taken s t pick inv pk u h = record { wakes! = a.0; stands! = st; other! = ot; rests! = re }
  where
    e : LineEffect
    e = (row_of s t).line

    L : Object
    L = line_at e (s.thread t).call

    a : (wakes e ≡ true) × (elem u (s.line L) ≡ true)
    a = taken_in_lem e (pick L) (s.line L) (pk L) u h

    st : stands_at (s.thread u) L ≡ true
    st = sym (inv.stood L u) ∙ a.1

    ot : eqb t u ≡ false
    ot = go (eqb t u) refl
      where
        go : (b : Bool) → eqb t u ≡ b → b ≡ false
        go true p =
            clash (subst (λ (z : ℕ). stands_at (s.thread z) L ≡ true) (sym (eqb-true t u p)) st)
            (wakes_nowhere e (marks (s.thread t).stage).line (marks (row_of s t).next).line (s.thread t).call L a.0
            (line_ok (s.thread t).stage (s.thread t).call.kind (seen s t) (inv.fit t)))
        go false p = refl

    re : (marks (s.thread u).stage).spin ≡ false
    re =
        rests_lem (marks (s.thread t).stage).spin (marks (s.thread u).stage).spin s.spin (eqb inv.spun.0 t) (eqb inv.spun.0 u) (eqb t u)
        (imp_at (wakes e) (marks (s.thread t).stage).spin (wake_spin (s.thread t).stage (s.thread t).call.kind (seen s t) (inv.fit t)) a.0)
        (inv.spun.1 t) (inv.spun.1 u) (λ p. ap (λ (z : ℕ). eqb z u) (eqb-true inv.spun.0 t p)) ot

pub does_inv : (s : NubState) (t : ℕ) (pick : Pick) → Inv s → Picks s pick → is_idle (s.thread t).stage ≡ false → Inv (does s t (row_of s t) (taken_of s t (row_of s t) pick))
does_inv s t pick inv pk busy =
    record {
      fit = does_fit s t r k inv.fit (fit_ok h.stage h.call.kind (seen s t) (inv.fit t)) tk;
      inside = does_inside s t r k inv.inside busy tk;
      stood = does_stood s t r k inv.stood (line_ok h.stage h.call.kind (seen s t) (inv.fit t)) tk;
      spun = does_spun s t r k inv.spun (spin_ok_lem h.stage h.call.kind (seen s t) (inv.fit t)) tk;
      owned = does_owned s t r k inv.owned;
      owner = does_owner s t r k inv.owned inv.owner (own_ok h.stage h.call.kind (seen s t) (inv.fit t)) (take_ok h.stage h.call.kind (seen s t) (inv.fit t)) (free_ok h.stage h.call.kind (seen s t) (inv.fit t));
      quits = does_quits s t r k inv.quits (quit_ok h.stage h.call.kind (seen s t) (inv.fit t));
      kept = does_kept s t r k inv.kept (kept_ok h.stage h.call.kind (seen s t) (inv.fit t));
      way = does_way s t r k inv.fit inv.way tk wk (way_free h.stage h.call.kind (seen s t) (inv.fit t)) (way_join h.stage h.call.kind (seen s t) (inv.fit t)) (way_keep h.stage h.call.kind (seen s t) (inv.fit t));
    }
  where
    h : ThreadState
    h = s.thread t

    r : Row
    r = row_of s t

    k : List ℕ
    k = taken_of s t r pick

    tk : Taken s t r.line k
    tk = is_taken s t pick inv pk

    wk : is_wake_gate r.line ≡ true → (u : ℕ) → elem u (s.line (gate_of (s.thread t).call)) ≡ true → (w : ℕ) × (elem w k ≡ true)
    wk f u i = wake_one s pick (s.thread t).call pk r.line f u i
