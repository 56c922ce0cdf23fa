-- The waiting sets: a turn's action leads from one reading to the next.
use Rattle.std.proofs.Common.{◌≡◌, ℕ, zero, suc, ◌+◌, ◌*◌, ◌/◌, ◌%◌, ◌^◌, ◌<◌, ◌≤◌, Bool, true, false, cond, not, ◌&&◌, ◌||◌, eqb, ltb, List, sym, refl, ap, ◌∙◌, subst, arith}
use Rattle.std.proofs.lemmas.Bool.{eq-eqb, eqb-true, not-true, not_from_false}
use mathlib.Core.Bool.{beq}
use lib.Dec.{leb-zero, leb-suc-zero, leb-suc-suc}
use Rattle.stages.specs.Calls.{Object, cond_of, same_object, elem, Request, no_call}
use Rattle.stages.specs.Names.{is_idle, is_sem, num, CallKind}
use Rattle.stages.specs.declared.stage.Stage.{Stage}
use Rattle.stages.specs.Calls.Object.{mutex, semaphore, condition}
use Rattle.stages.specs.Marks.{marks}
use Rattle.stages.specs.Table.{is_between}
use Rattle.stages.specs.declared.step.LineEffect.{LineEffect}
use Rattle.stages.specs.declared.marks.Stands.{Stands}
use Rattle.stages.specs.declared.step.LineEffect.TheVariants.{Keep as keep_line, JoinGate as join_gate, LeaveGate as leave_gate, JoinCondition as join_cond, LeaveCondition as leave_cond, WakeGate as wake_gate, SignalOne as signal_one, SignalAll as signal_all}
use Rattle.stages.specs.declared.marks.Stands.TheVariants.{Nowhere as nowhere, AtGate as at_gate, AtCondition as at_cond}
use Rattle.nub.specs.Model.{NubState, seen, row_of, line_at, woken, does, counts_new, signals, freed_by, mask_of, report_of}
use Rattle.thread.specs.Turns.{ThreadState, moved, between_on, woken_stage}
use Rattle.runs.specs.Published.{perform, bit}
use Rattle.runs.specs.Reading.{read_waits}
use Rattle.stages.proofs.Finite.{imp_at, and_l, and_r}
use Rattle.runs.proofs.Small.{is_stand, or_else, clash}
use Rattle.runs.specs.Reading.{stands_by}
use Rattle.runs.proofs.Agree.{by_idle, wakes, is_standing}
use Rattle.runs.proofs.Inv.{Inv, stands_at, Taken, by_sort, stands_one, stands_is, stood_busy}
use Rattle.runs.proofs.Acts.{in_set, SetE, set_e, set_new, wake_ok, set_ok, set_idle, wake_ok_lem, wake_in, rest_clear, sets_new, waits_by, at_clear}
use Rattle.runs.proofs.Acts.SetE.{s_keep, s_enter, s_leave, s_signal, s_broadcast}
use Rattle.runs.proofs.Read.{read_all, beq_eq, in_set_of, waits_is, set_of}

bit_zero : (u : ℕ) → bit 0 u ≡ false
bit_zero zero = refl
bit_zero (suc u) = bit_zero u

odd : (b : Bool) (m : ℕ) → eqb ((num b + 2 * m) % 2) 1 ≡ b
odd true m = let e : (1 + 2 * m) % 2 ≡ 1 = omega arith in rw e
odd false m = let e : (0 + 2 * m) % 2 ≡ 0 = omega arith in rw e

half : (b : Bool) (m : ℕ) → (num b + 2 * m) / 2 ≡ m
half true m = omega arith
half false m = omega arith

pub mask_bit : (n : ℕ) (f : ℕ → Bool) (u : ℕ) → bit (mask_of f n) u ≡ (ltb u n && f u)
mask_bit zero f u = bit_zero u ∙ ap (λ (z : Bool). z && f u) (sym (leb-suc-zero u))
mask_bit (suc n) f zero = odd (f 0) (mask_of (λ u. f (suc u)) n) ∙ ap (λ (z : Bool). z && f 0) (sym (leb-suc-suc 0 n ∙ leb-zero n))
mask_bit (suc n) f (suc u) =
    ap (λ (z : ℕ). bit z u) (half (f 0) (mask_of (λ u. f (suc u)) n))
    ∙ mask_bit n (λ u. f (suc u)) u
    ∙ ap (λ (z : Bool). z && f (suc u)) (sym (leb-suc-suc (suc u) n))

pub mask_fits : (n : ℕ) (f : ℕ → Bool) → mask_of f n < 2 ^ n
mask_fits zero f = omega arith
mask_fits (suc n) f =
    let i : mask_of (λ u. f (suc u)) n < 2 ^ n = mask_fits n (λ u. f (suc u)) in
    let b : num (f 0) ≤ 1 = num_le (f 0) in
    omega arith
  where
    num_le : (b : Bool) → num b ≤ 1
    num_le true = omega arith
    num_le false = omega arith

stands_cnd : (m : Stands) (c : Request) (i : ℕ) → stands_by m c (condition i) ≡ (is_stand at_cond m && eqb (cond_of c) i)
stands_cnd nowhere c i = refl
stands_cnd at_gate c i = go (is_sem c.kind)
  where
    go : (b : Bool) → same_object (cond b (semaphore c.x) (mutex c.x)) (condition i) ≡ false
    go true = refl
    go false = refl
stands_cnd at_cond c i = refl

abbrev nf : Bool → Bool → Bool → Bool → Bool
nf a b y k = (a && y) || (b && y && k)

set_nf : (h : ThreadState) (n i : ℕ) → in_set_of h n i ≡ nf (is_stand at_cond (marks h.stage).line) (is_between h.stage h.call.kind) (eqb (cond_of h.call) i) (eqb h.kept n)
set_nf h n i = ap (λ (z : Bool). z || (between_on h i && eqb h.kept n)) (stands_cnd (marks h.stage).line h.call i)

nf_off : (a b k : Bool) → nf a b false k ≡ false
nf_off a b k = grind arith

set_off : (h : ThreadState) (n i : ℕ) → eqb (cond_of h.call) i ≡ false → in_set_of h n i ≡ false
set_off h n i p =
    set_nf h n i ∙ ap (λ (z : Bool). nf (is_stand at_cond (marks h.stage).line) (is_between h.stage h.call.kind) z (eqb h.kept n)) p
    ∙ nf_off (is_stand at_cond (marks h.stage).line) (is_between h.stage h.call.kind) (eqb h.kept n)

woken_set : (e : LineEffect) (h : ThreadState) (n i : ℕ) → in_set_of (woken e h) n i ≡ false
woken_set e h n i =
    set_nf (woken e h) n i
    ∙ ap (λ (z : Bool). nf z (is_between (woken_stage e h.call.kind) h.call.kind) (eqb (cond_of h.call) i) (eqb h.kept n)) (a e h.call.kind)
    ∙ ap (λ (z : Bool). nf false z (eqb (cond_of h.call) i) (eqb h.kept n)) (b e h.call.kind)
  where
    a : (e : LineEffect) (k : CallKind) → is_stand at_cond (marks (woken_stage e k)).line ≡ false
    a e k = grind arith

    b : (e : LineEffect) (k : CallKind) → is_between (woken_stage e k) k ≡ false
    b e k = grind arith

abbrev sets_b : SetE → Bool → Bool → Bool → Bool → Bool
sets_b s_keep y t f b = b
sets_b s_enter y t f b = cond (y && t) true b
sets_b s_leave y t f b = cond (y && t) false b
sets_b s_signal y t f b = cond (y && f) false b
sets_b s_broadcast y t f b = cond y false b

sets_b_lem : (e : SetE) (y t : ℕ) (fr : ℕ → Bool) (f : ℕ → ℕ → Bool) (i u : ℕ) → sets_new e y t fr f i u ≡ sets_b e (eqb y i) (eqb t u) (fr u) (f i u)
sets_b_lem s_keep y t fr f i u = refl
sets_b_lem s_enter y t fr f i u = refl
sets_b_lem s_leave y t fr f i u = refl
sets_b_lem s_signal y t fr f i u = refl
sets_b_lem s_broadcast y t fr f i u = refl

sets_b_off : (e : SetE) (t f b : Bool) → sets_b e false t f b ≡ b
sets_b_off e t f b = grind arith

sets_b_no : (e : SetE) (f : Bool) → sets_b e true false f false ≡ false
sets_b_no e f = grind arith

sets_b_self : (e : SetE) (l : LineEffect) (f b : Bool) → wake_ok e l ≡ true → signals l ≡ false → sets_b e true true f b ≡ set_new e b
sets_b_self e l f b p q = grind arith

sets_b_rest : (e : SetE) (l : LineEffect) (f b : Bool) → wake_ok e l ≡ true → signals l ≡ false → sets_b e true false f b ≡ b
sets_b_rest e l f b p q = grind arith

sets_b_wake_no : (e : SetE) (l : LineEffect) (t f : Bool) → wake_ok e l ≡ true → signals l ≡ true → sets_b e true t f false ≡ false
sets_b_wake_no e l t f p q = grind arith

sets_b_freed : (e : SetE) (l : LineEffect) (t b : Bool) → wake_ok e l ≡ true → signals l ≡ true → sets_b e true t true b ≡ false
sets_b_freed e l t b p q = grind arith

line_off : (e : LineEffect) (c : Request) (i : ℕ) → (signals e && eqb (cond_of c) i) ≡ false → wakes e ≡ true → same_object (line_at e c) (condition i) ≡ false
line_off e c i p q = grind arith

counts_off : (e : LineEffect) (c : ℕ) (f : ℕ → ℕ) (i : ℕ) → (signals e && eqb c i) ≡ false → counts_new e c f i ≡ f i
counts_off e c f i p = rw p

keep_same : (b : Bool) (n k : ℕ) → eqb (cond b n k) n ≡ (b || eqb k n)
keep_same true n k = eq-eqb n n refl
keep_same false n k = refl

abbrev pub is_signal_all : LineEffect → Bool
is_signal_all keep_line = false
is_signal_all join_gate = false
is_signal_all leave_gate = false
is_signal_all join_cond = false
is_signal_all leave_cond = false
is_signal_all wake_gate = false
is_signal_all signal_one = false
is_signal_all signal_all = true

-- a waiter that is not taken: it is freed if it is between with the old count, and stays if it stands in the line
rest_signal : (e : SetE) (l : LineEffect) (a b y k k' : Bool) → wake_ok e l ≡ true → signals l ≡ true → is_signal_all l ≡ false
    → (a ≡ true → b ≡ false) → ((b && y) ≡ true → k' ≡ false) → sets_b e true false (b && y && k) (nf a b y k) ≡ nf a b y k'
rest_signal e l a b y k k' p q r f g = grind arith

rest_broad : (e : SetE) (l : LineEffect) (f a b y k k' : Bool) → wake_ok e l ≡ true → is_signal_all l ≡ true
    → (a && y) ≡ false → ((b && y) ≡ true → k' ≡ false) → sets_b e true false f (nf a b y k) ≡ nf a b y k'
rest_broad e l f a b y k k' p r z g = grind arith

later : (k n : ℕ) → k ≤ n → eqb k (suc n) ≡ false
later k n h = grind arith

four : (p a q b z z' : Bool) → (not p && not (a || (b && z)) && not q && not b) ≡ true → (a || (b && z')) ≡ false
four p a q b z z' h = grind arith

earliest : (p q r t : Bool) → (not p && not q && not r && not t) ≡ true → p ≡ false
earliest p q r t h = grind arith

cond_stands : (m : Stands) → is_stand at_cond m ≡ true → is_standing m ≡ true
cond_stands m h = grind arith

or_is : (a b c : Bool) → (a || b) ≡ true → (a ≡ true → c ≡ true) → (b ≡ true → c ≡ true) → c ≡ true
or_is true b c h f g = f refl
or_is false b c h f g = g h

between_busy : (st : Stage) (k : CallKind) → is_between st k ≡ true → is_idle st ≡ false
between_busy st k h = grind arith

counts_on : (e : LineEffect) (c : ℕ) (f : ℕ → ℕ) → signals e ≡ true → counts_new e c f c ≡ suc (f c)
counts_on e c f h = rw (h, eq-eqb c c refl)

wake_line : (e : LineEffect) (c : Request) → signals e ≡ true → line_at e c ≡ condition (cond_of c)
wake_line e c h = grind arith

module _ (s : NubState) (t : ℕ) (k : List ℕ) (inv : Inv s) (inv' : Inv (does s t (row_of s t) k)) (busy : is_idle (s.thread t).stage ≡ false) (tk : Taken s t (row_of s t).line k)
    (allk : is_signal_all (row_of s t).line ≡ true → (u : ℕ) → elem u k ≡ elem u (s.line (condition (cond_of (s.thread t).call)))) where
  wk : wake_ok (set_e (row_of s t).action) (row_of s t).line ≡ true
  wk = wake_ok_lem (s.thread t).stage (s.thread t).call.kind (seen s t) (inv.fit t)

  rested : (u : ℕ) → is_standing (marks (s.thread u).stage).line ≡ true → is_between (s.thread u).stage (s.thread u).call.kind ≡ false
  rested u q =
      not-true (is_between (s.thread u).stage (s.thread u).call.kind) (and_r (not (at_clear (s.thread u).stage (s.thread u).call.kind)) (not (is_between (s.thread u).stage (s.thread u).call.kind))
      (imp_at (is_standing (marks (s.thread u).stage).line) (not (at_clear (s.thread u).stage (s.thread u).call.kind) && not (is_between (s.thread u).stage (s.thread u).call.kind))
      (rest_clear (s.thread u).stage (s.thread u).call.kind (seen s u) (inv.fit u)) q))

  -- who is taken from a line is in no other set
  taken_off : (i u : ℕ) → elem u k ≡ true → (signals (row_of s t).line && eqb (cond_of (s.thread t).call) i) ≡ false → in_set_of (s.thread u) (s.counts i) i ≡ false
  taken_off i u q p =
      ap (λ (z : Bool). z || (between_on (s.thread u) i && eqb (s.thread u).kept (s.counts i)))
      (stands_one (marks (s.thread u).stage).line (s.thread u).call (line_at (row_of s t).line (s.thread t).call) (condition i) (tk u q).stands! ∙ line_off (row_of s t).line (s.thread t).call i p (tk u q).wakes!)
      ∙ ap (λ (z : Bool). z && eqb (cond_of (s.thread u).call) i && eqb (s.thread u).kept (s.counts i))
      (rested u (stands_is (marks (s.thread u).stage).line (s.thread u).call (line_at (row_of s t).line (s.thread t).call) (tk u q).stands!))

  moved_off : (n i : ℕ) → eqb (cond_of (s.thread t).call) i ≡ false → in_set_of (moved (row_of s t) (s.counts (cond_of (s.thread t).call)) (s.thread t)) n i ≡ false
  moved_off n i p =
      by_idle (λ st c. in_set_of (record { stage = st; call = c; kept = (moved (row_of s t) (s.counts (cond_of (s.thread t).call)) (s.thread t)).kept; out = (moved (row_of s t) (s.counts (cond_of (s.thread t).call)) (s.thread t)).out }) n i ≡ false) (row_of s t).next (s.thread t).call refl
      (λ b. set_off (record { stage = (row_of s t).next; call = (s.thread t).call; kept = (moved (row_of s t) (s.counts (cond_of (s.thread t).call)) (s.thread t)).kept; out = (moved (row_of s t) (s.counts (cond_of (s.thread t).call)) (s.thread t)).out }) n i p)

  -- another condition than that of the call
  off_y : (i u : ℕ) → eqb (cond_of (s.thread t).call) i ≡ false → in_set_of (s.thread u) (s.counts i) i ≡ in_set_of ((does s t (row_of s t) k).thread u) ((does s t (row_of s t) k).counts i) i
  off_y i u p =
      rw (counts_off (row_of s t).line (cond_of (s.thread t).call) s.counts i no_count)
      (by_sort (λ h. in_set_of (s.thread u) (s.counts i) i ≡ in_set_of h (s.counts i) i) (eqb t u) (elem u k) (moved (row_of s t) (s.counts (cond_of (s.thread t).call)) (s.thread t)) (woken (row_of s t).line (s.thread u)) (s.thread u)
      (λ q. subst (λ (z : ℕ). in_set_of (s.thread z) (s.counts i) i ≡ in_set_of (moved (row_of s t) (s.counts (cond_of (s.thread t).call)) (s.thread t)) (s.counts i) i) (eqb-true t u q) (set_off (s.thread t) (s.counts i) i p ∙ sym (moved_off (s.counts i) i p)))
      (λ q e. taken_off i u e no_count ∙ sym (woken_set (row_of s t).line (s.thread u) (s.counts i) i))
      (λ q e. refl))
    where
      no_count : (signals (row_of s t).line && eqb (cond_of (s.thread t).call) i) ≡ false
      no_count = ap (λ (z : Bool). signals (row_of s t).line && z) p ∙ mathlib.Core.Bool.and-false (signals (row_of s t).line)

  -- the acting thread and its own condition
  moved_in : (n : ℕ) → is_idle (row_of s t).next ≡ false → in_set_of (moved (row_of s t) (s.counts (cond_of (s.thread t).call)) (s.thread t)) n (cond_of (s.thread t).call) ≡ in_set (row_of s t).next (s.thread t).call.kind (eqb (moved (row_of s t) (s.counts (cond_of (s.thread t).call)) (s.thread t)).kept n)
  moved_in n b =
      ap (λ (z : Request). in_set_of (record { stage = (row_of s t).next; call = z; kept = (moved (row_of s t) (s.counts (cond_of (s.thread t).call)) (s.thread t)).kept; out = (moved (row_of s t) (s.counts (cond_of (s.thread t).call)) (s.thread t)).out }) n (cond_of (s.thread t).call)) (ap (λ (z : Bool). cond z no_call (s.thread t).call) b)
      ∙ set_of (record { stage = (row_of s t).next; call = (s.thread t).call; kept = (moved (row_of s t) (s.counts (cond_of (s.thread t).call)) (s.thread t)).kept; out = (moved (row_of s t) (s.counts (cond_of (s.thread t).call)) (s.thread t)).out }) n

  moved_idle : (n i : ℕ) → is_idle (row_of s t).next ≡ true → in_set_of (moved (row_of s t) (s.counts (cond_of (s.thread t).call)) (s.thread t)) n i ≡ false
  moved_idle n i b =
      by_idle (λ st c. is_idle st ≡ true → in_set_of (record { stage = st; call = c; kept = (moved (row_of s t) (s.counts (cond_of (s.thread t).call)) (s.thread t)).kept; out = (moved (row_of s t) (s.counts (cond_of (s.thread t).call)) (s.thread t)).out }) n i ≡ false) (row_of s t).next (s.thread t).call (λ e. refl)
      (λ f e. clash e f) b

  self_y : (f : Bool) → signals (row_of s t).line ≡ false → sets_b (set_e (row_of s t).action) true true f (in_set_of (s.thread t) (s.counts (cond_of (s.thread t).call)) (cond_of (s.thread t).call)) ≡ in_set_of (moved (row_of s t) (s.counts (cond_of (s.thread t).call)) (s.thread t)) (s.counts (cond_of (s.thread t).call)) (cond_of (s.thread t).call)
  self_y f w =
      sets_b_self (set_e (row_of s t).action) (row_of s t).line f (in_set_of (s.thread t) (s.counts (cond_of (s.thread t).call)) (cond_of (s.thread t).call)) wk w
      ∙ ap (λ (z : Bool). set_new (set_e (row_of s t).action) z) (set_of (s.thread t) (s.counts (cond_of (s.thread t).call)))
      ∙ go (is_idle (row_of s t).next) refl
    where
      go : (b : Bool) → is_idle (row_of s t).next ≡ b → set_new (set_e (row_of s t).action) (in_set (s.thread t).stage (s.thread t).call.kind (seen s t).same) ≡ in_set_of (moved (row_of s t) (s.counts (cond_of (s.thread t).call)) (s.thread t)) (s.counts (cond_of (s.thread t).call)) (cond_of (s.thread t).call)
      go true e =
          beq_eq (set_new (set_e (row_of s t).action) (in_set (s.thread t).stage (s.thread t).call.kind (seen s t).same)) false
          (imp_at (is_idle (row_of s t).next) (beq (set_new (set_e (row_of s t).action) (in_set (s.thread t).stage (s.thread t).call.kind (seen s t).same)) false) (set_idle (s.thread t).stage (s.thread t).call.kind (seen s t) (inv.fit t)) e)
          ∙ sym (moved_idle (s.counts (cond_of (s.thread t).call)) (cond_of (s.thread t).call) e)
      go false e =
          beq_eq (set_new (set_e (row_of s t).action) (in_set (s.thread t).stage (s.thread t).call.kind (seen s t).same)) (in_set (row_of s t).next (s.thread t).call.kind ((row_of s t).keep || (seen s t).same))
          (imp_at (not (is_idle (row_of s t).next)) (beq (set_new (set_e (row_of s t).action) (in_set (s.thread t).stage (s.thread t).call.kind (seen s t).same)) (in_set (row_of s t).next (s.thread t).call.kind ((row_of s t).keep || (seen s t).same)))
          (set_ok (s.thread t).stage (s.thread t).call.kind (seen s t) (inv.fit t)) (not_from_false (is_idle (row_of s t).next) e))
          ∙ ap (λ (z : Bool). in_set (row_of s t).next (s.thread t).call.kind z) (sym (keep_same (row_of s t).keep (s.counts (cond_of (s.thread t).call)) (s.thread t).kept))
          ∙ sym (moved_in (s.counts (cond_of (s.thread t).call)) e)

  plain_y : (u : ℕ) (f : Bool) → signals (row_of s t).line ≡ false → sets_b (set_e (row_of s t).action) true (eqb t u) f (in_set_of (s.thread u) (s.counts (cond_of (s.thread t).call)) (cond_of (s.thread t).call)) ≡ in_set_of ((does s t (row_of s t) k).thread u) (s.counts (cond_of (s.thread t).call)) (cond_of (s.thread t).call)
  plain_y u f w =
      by_sort (λ h. sets_b (set_e (row_of s t).action) true (eqb t u) f (in_set_of (s.thread u) (s.counts (cond_of (s.thread t).call)) (cond_of (s.thread t).call)) ≡ in_set_of h (s.counts (cond_of (s.thread t).call)) (cond_of (s.thread t).call)) (eqb t u) (elem u k) (moved (row_of s t) (s.counts (cond_of (s.thread t).call)) (s.thread t)) (woken (row_of s t).line (s.thread u)) (s.thread u)
      (λ q. rw q (subst (λ (z : ℕ). sets_b (set_e (row_of s t).action) true true f (in_set_of (s.thread z) (s.counts (cond_of (s.thread t).call)) (cond_of (s.thread t).call)) ≡ in_set_of (moved (row_of s t) (s.counts (cond_of (s.thread t).call)) (s.thread t)) (s.counts (cond_of (s.thread t).call)) (cond_of (s.thread t).call)) (eqb-true t u q) (self_y f w)))
      (λ q e. rw q (ap (λ (z : Bool). sets_b (set_e (row_of s t).action) true false f z) (taken_off (cond_of (s.thread t).call) u e (ap (λ (z : Bool). z && eqb (cond_of (s.thread t).call) (cond_of (s.thread t).call)) w)) ∙ sets_b_no (set_e (row_of s t).action) f ∙ sym (woken_set (row_of s t).line (s.thread u) (s.counts (cond_of (s.thread t).call)) (cond_of (s.thread t).call))))
      (λ q e. rw q (sets_b_rest (set_e (row_of s t).action) (row_of s t).line f (in_set_of (s.thread u) (s.counts (cond_of (s.thread t).call)) (cond_of (s.thread t).call)) wk w))

  wake_no : signals (row_of s t).line ≡ true → (not (in_set (s.thread t).stage (s.thread t).call.kind (seen s t).same) && not (in_set (row_of s t).next (s.thread t).call.kind (seen s t).same) && not (is_between (s.thread t).stage (s.thread t).call.kind) && not (is_between (row_of s t).next (s.thread t).call.kind)) ≡ true
  wake_no w =
      imp_at (signals (row_of s t).line) (not (in_set (s.thread t).stage (s.thread t).call.kind (seen s t).same) && not (in_set (row_of s t).next (s.thread t).call.kind (seen s t).same) && not (is_between (s.thread t).stage (s.thread t).call.kind) && not (is_between (row_of s t).next (s.thread t).call.kind))
      (wake_in (s.thread t).stage (s.thread t).call.kind (seen s t) (inv.fit t)) w

  wake_self : (n : ℕ) → signals (row_of s t).line ≡ true → in_set_of (moved (row_of s t) (s.counts (cond_of (s.thread t).call)) (s.thread t)) n (cond_of (s.thread t).call) ≡ false
  wake_self n w = go (is_idle (row_of s t).next) refl
    where
      go : (b : Bool) → is_idle (row_of s t).next ≡ b → in_set_of (moved (row_of s t) (s.counts (cond_of (s.thread t).call)) (s.thread t)) n (cond_of (s.thread t).call) ≡ false
      go true e = moved_idle n (cond_of (s.thread t).call) e
      go false e =
          moved_in n e
          ∙ four (in_set (s.thread t).stage (s.thread t).call.kind (seen s t).same) (is_stand at_cond (marks (row_of s t).next).line) (is_between (s.thread t).stage (s.thread t).call.kind) (is_between (row_of s t).next (s.thread t).call.kind) (seen s t).same (eqb (moved (row_of s t) (s.counts (cond_of (s.thread t).call)) (s.thread t)).kept n) (wake_no w)

  not_freed : (u : ℕ) → is_between (s.thread u).stage (s.thread u).call.kind ≡ true → eqb (cond_of (s.thread u).call) (cond_of (s.thread t).call) ≡ true → eqb (s.thread u).kept (suc (s.counts (cond_of (s.thread t).call))) ≡ false
  not_freed u b e = later (s.thread u).kept (s.counts (cond_of (s.thread t).call)) (subst (λ (z : ℕ). (s.thread u).kept ≤ s.counts z) (eqb-true (cond_of (s.thread u).call) (cond_of (s.thread t).call) e) (inv.kept u b))

  wake_rest : (u : ℕ) → signals (row_of s t).line ≡ true → elem u k ≡ false
      → sets_b (set_e (row_of s t).action) true false (between_on (s.thread u) (cond_of (s.thread t).call) && eqb (s.thread u).kept (s.counts (cond_of (s.thread t).call))) (in_set_of (s.thread u) (s.counts (cond_of (s.thread t).call)) (cond_of (s.thread t).call)) ≡ in_set_of (s.thread u) (suc (s.counts (cond_of (s.thread t).call))) (cond_of (s.thread t).call)
  wake_rest u w e =
      ap (λ (z : Bool). sets_b (set_e (row_of s t).action) true false (between_on (s.thread u) (cond_of (s.thread t).call) && eqb (s.thread u).kept (s.counts (cond_of (s.thread t).call))) z) (set_nf (s.thread u) (s.counts (cond_of (s.thread t).call)) (cond_of (s.thread t).call))
      ∙ go (is_signal_all (row_of s t).line) refl
      ∙ sym (set_nf (s.thread u) (suc (s.counts (cond_of (s.thread t).call))) (cond_of (s.thread t).call))
    where
      A : Bool
      A = is_stand at_cond (marks (s.thread u).stage).line

      B : Bool
      B = is_between (s.thread u).stage (s.thread u).call.kind

      V : Bool
      V = eqb (cond_of (s.thread u).call) (cond_of (s.thread t).call)

      K : Bool
      K = eqb (s.thread u).kept (s.counts (cond_of (s.thread t).call))

      K' : Bool
      K' = eqb (s.thread u).kept (suc (s.counts (cond_of (s.thread t).call)))

      go : (b : Bool) → is_signal_all (row_of s t).line ≡ b → sets_b (set_e (row_of s t).action) true false (B && V && K) (nf A B V K) ≡ nf A B V K'
      go true p =
          rest_broad (set_e (row_of s t).action) (row_of s t).line (B && V && K) A B V K K' wk p
          (sym (stands_cnd (marks (s.thread u).stage).line (s.thread u).call (cond_of (s.thread t).call)) ∙ sym (inv.stood (condition (cond_of (s.thread t).call)) u) ∙ sym (allk p u) ∙ e)
          (λ h. not_freed u (and_l B V h) (and_r B V h))
      go false p =
          rest_signal (set_e (row_of s t).action) (row_of s t).line A B V K K' wk w p (λ h. rested u (cond_stands (marks (s.thread u).stage).line h))
          (λ h. not_freed u (and_l B V h) (and_r B V h))

  wake_y : (u : ℕ) → signals (row_of s t).line ≡ true → sets_b (set_e (row_of s t).action) true (eqb t u) (freed_by s (cond_of (s.thread t).call) k u) (in_set_of (s.thread u) (s.counts (cond_of (s.thread t).call)) (cond_of (s.thread t).call)) ≡ in_set_of ((does s t (row_of s t) k).thread u) (suc (s.counts (cond_of (s.thread t).call))) (cond_of (s.thread t).call)
  wake_y u w =
      by_sort (λ h. sets_b (set_e (row_of s t).action) true (eqb t u) (freed_by s (cond_of (s.thread t).call) k u) (in_set_of (s.thread u) (s.counts (cond_of (s.thread t).call)) (cond_of (s.thread t).call)) ≡ in_set_of h (suc (s.counts (cond_of (s.thread t).call))) (cond_of (s.thread t).call)) (eqb t u) (elem u k) (moved (row_of s t) (s.counts (cond_of (s.thread t).call)) (s.thread t)) (woken (row_of s t).line (s.thread u)) (s.thread u)
      (λ q.
      ap (λ (z : Bool). sets_b (set_e (row_of s t).action) true (eqb t u) (freed_by s (cond_of (s.thread t).call) k u) z)
      (subst (λ (z : ℕ). in_set_of (s.thread z) (s.counts (cond_of (s.thread t).call)) (cond_of (s.thread t).call) ≡ false) (eqb-true t u q) (set_of (s.thread t) (s.counts (cond_of (s.thread t).call)) ∙ earliest (in_set (s.thread t).stage (s.thread t).call.kind (seen s t).same) (in_set (row_of s t).next (s.thread t).call.kind (seen s t).same) (is_between (s.thread t).stage (s.thread t).call.kind) (is_between (row_of s t).next (s.thread t).call.kind) (wake_no w)))
      ∙ sets_b_wake_no (set_e (row_of s t).action) (row_of s t).line (eqb t u) (freed_by s (cond_of (s.thread t).call) k u) wk w
      ∙ sym (wake_self (suc (s.counts (cond_of (s.thread t).call))) w))
      (λ q e.
      ap (λ (z : Bool). sets_b (set_e (row_of s t).action) true (eqb t u) (z || (between_on (s.thread u) (cond_of (s.thread t).call) && eqb (s.thread u).kept (s.counts (cond_of (s.thread t).call)))) (in_set_of (s.thread u) (s.counts (cond_of (s.thread t).call)) (cond_of (s.thread t).call))) e
      ∙ sets_b_freed (set_e (row_of s t).action) (row_of s t).line (eqb t u) (in_set_of (s.thread u) (s.counts (cond_of (s.thread t).call)) (cond_of (s.thread t).call)) wk w
      ∙ sym (woken_set (row_of s t).line (s.thread u) (suc (s.counts (cond_of (s.thread t).call))) (cond_of (s.thread t).call)))
      (λ q e.
      ap (λ (z : Bool). sets_b (set_e (row_of s t).action) true z (freed_by s (cond_of (s.thread t).call) k u) (in_set_of (s.thread u) (s.counts (cond_of (s.thread t).call)) (cond_of (s.thread t).call))) q
      ∙ ap (λ (z : Bool). sets_b (set_e (row_of s t).action) true false (z || (between_on (s.thread u) (cond_of (s.thread t).call) && eqb (s.thread u).kept (s.counts (cond_of (s.thread t).call)))) (in_set_of (s.thread u) (s.counts (cond_of (s.thread t).call)) (cond_of (s.thread t).call))) e
      ∙ wake_rest u w e)

  pub fr_is : signals (row_of s t).line ≡ true → (u : ℕ) → bit (report_of s t (row_of s t) k).mask u ≡ freed_by s (cond_of (s.thread t).call) k u
  fr_is w u =
      ap (λ (z : Bool). bit (cond z (mask_of (freed_by s (cond_of (s.thread t).call) k) s.size) 0) u) w
      ∙ mask_bit s.size (freed_by s (cond_of (s.thread t).call) k) u
      ∙ go (freed_by s (cond_of (s.thread t).call) k u) refl
    where
      go : (b : Bool) → freed_by s (cond_of (s.thread t).call) k u ≡ b → (ltb u s.size && b) ≡ b
      go true p =
          ap (λ (z : Bool). z && true)
          (or_is (elem u k) (between_on (s.thread u) (cond_of (s.thread t).call) && eqb (s.thread u).kept (s.counts (cond_of (s.thread t).call))) (ltb u s.size) p
          (λ e. inv.inside u (stood_busy (s.thread u).stage (s.thread u).call (line_at (row_of s t).line (s.thread t).call) (tk u e).stands!))
          (λ e. inv.inside u (between_busy (s.thread u).stage (s.thread u).call.kind
          (and_l (is_between (s.thread u).stage (s.thread u).call.kind) (eqb (cond_of (s.thread u).call) (cond_of (s.thread t).call)) (and_l (between_on (s.thread u) (cond_of (s.thread t).call)) (eqb (s.thread u).kept (s.counts (cond_of (s.thread t).call))) e)))))
      go false p = mathlib.Core.Bool.and-false (ltb u s.size)

  pub waits_eq : (i u : ℕ) → (perform (row_of s t).action (s.thread t).call t (bit (report_of s t (row_of s t) k).mask) (read_all s)).waits i u ≡ read_waits (does s t (row_of s t) k) i u
  waits_eq i u =
      waits_by (row_of s t).action (s.thread t).call t (bit (report_of s t (row_of s t) k).mask) (read_all s) i u
      ∙ sets_b_lem (set_e (row_of s t).action) (cond_of (s.thread t).call) t (bit (report_of s t (row_of s t) k).mask) (read_waits s) i u
      ∙ ap (λ (z : Bool). sets_b (set_e (row_of s t).action) (eqb (cond_of (s.thread t).call) i) (eqb t u) (bit (report_of s t (row_of s t) k).mask u) z) (waits_is s inv i u)
      ∙ go (eqb (cond_of (s.thread t).call) i) refl
      ∙ sym (waits_is (does s t (row_of s t) k) inv' i u)
    where
      at_y : (b : Bool) → signals (row_of s t).line ≡ b
          → sets_b (set_e (row_of s t).action) true (eqb t u) (bit (report_of s t (row_of s t) k).mask u) (in_set_of (s.thread u) (s.counts (cond_of (s.thread t).call)) (cond_of (s.thread t).call)) ≡ in_set_of ((does s t (row_of s t) k).thread u) ((does s t (row_of s t) k).counts (cond_of (s.thread t).call)) (cond_of (s.thread t).call)
      at_y false w = plain_y u (bit (report_of s t (row_of s t) k).mask u) w ∙ ap (λ (z : ℕ). in_set_of ((does s t (row_of s t) k).thread u) z (cond_of (s.thread t).call)) (sym (counts_off (row_of s t).line (cond_of (s.thread t).call) s.counts (cond_of (s.thread t).call) (ap (λ (z : Bool). z && eqb (cond_of (s.thread t).call) (cond_of (s.thread t).call)) w)))
      at_y true w =
          ap (λ (z : Bool). sets_b (set_e (row_of s t).action) true (eqb t u) z (in_set_of (s.thread u) (s.counts (cond_of (s.thread t).call)) (cond_of (s.thread t).call))) (fr_is w u)
          ∙ wake_y u w
          ∙ ap (λ (z : ℕ). in_set_of ((does s t (row_of s t) k).thread u) z (cond_of (s.thread t).call)) (sym (counts_on (row_of s t).line (cond_of (s.thread t).call) s.counts w))

      go : (b : Bool) → eqb (cond_of (s.thread t).call) i ≡ b
          → sets_b (set_e (row_of s t).action) (eqb (cond_of (s.thread t).call) i) (eqb t u) (bit (report_of s t (row_of s t) k).mask u) (in_set_of (s.thread u) (s.counts i) i) ≡ in_set_of ((does s t (row_of s t) k).thread u) ((does s t (row_of s t) k).counts i) i
      go false p =
          ap (λ (z : Bool). sets_b (set_e (row_of s t).action) z (eqb t u) (bit (report_of s t (row_of s t) k).mask u) (in_set_of (s.thread u) (s.counts i) i)) p
          ∙ sets_b_off (set_e (row_of s t).action) (eqb t u) (bit (report_of s t (row_of s t) k).mask u) (in_set_of (s.thread u) (s.counts i) i)
          ∙ off_y i u p
      go true p =
          ap (λ (z : Bool). sets_b (set_e (row_of s t).action) z (eqb t u) (bit (report_of s t (row_of s t) k).mask u) (in_set_of (s.thread u) (s.counts i) i)) p
          ∙ subst (λ (z : ℕ). sets_b (set_e (row_of s t).action) true (eqb t u) (bit (report_of s t (row_of s t) k).mask u) (in_set_of (s.thread u) (s.counts z) z) ≡ in_set_of ((does s t (row_of s t) k).thread u) ((does s t (row_of s t) k).counts z) z) (eqb-true (cond_of (s.thread t).call) i p) (at_y (signals (row_of s t).line) refl)

  -- the freed of a signal
  pub freed_in_lem : signals (row_of s t).line ≡ true → (u : ℕ) → bit (report_of s t (row_of s t) k).mask u ≡ true → read_waits s (cond_of (s.thread t).call) u ≡ true
  freed_in_lem w u h =
      or_is (elem u k) (between_on (s.thread u) (cond_of (s.thread t).call) && eqb (s.thread u).kept (s.counts (cond_of (s.thread t).call))) (read_waits s (cond_of (s.thread t).call) u) (sym (fr_is w u) ∙ h)
      (λ e. ap (λ (z : Bool). z || (between_on (s.thread u) (cond_of (s.thread t).call) && eqb (s.thread u).kept (s.counts (cond_of (s.thread t).call))))
      (inv.stood (condition (cond_of (s.thread t).call)) u ∙ subst (λ (z : Object). stands_at (s.thread u) z ≡ true) (wake_line (row_of s t).line (s.thread t).call w) (tk u e).stands!))
      (λ e. ap (λ (z : Bool). elem u (s.line (condition (cond_of (s.thread t).call))) || z) e ∙ mathlib.Core.Bool.or-true (elem u (s.line (condition (cond_of (s.thread t).call)))))

  pub freed_some : signals (row_of s t).line ≡ true → ((u : ℕ) → elem u (s.line (condition (cond_of (s.thread t).call))) ≡ true → (w : ℕ) × (elem w k ≡ true))
      → (u : ℕ) → read_waits s (cond_of (s.thread t).call) u ≡ true → (w : ℕ) × (bit (report_of s t (row_of s t) k).mask w ≡ true)
  freed_some w one u h = go (elem u (s.line (condition (cond_of (s.thread t).call)))) refl
    where
      go : (b : Bool) → elem u (s.line (condition (cond_of (s.thread t).call))) ≡ b → (w : ℕ) × (bit (report_of s t (row_of s t) k).mask w ≡ true)
      go true p =
          let x : (w : ℕ) × (elem w k ≡ true) = one u p in
          (x.0, fr_is w x.0 ∙ ap (λ (z : Bool). z || (between_on (s.thread x.0) (cond_of (s.thread t).call) && eqb (s.thread x.0).kept (s.counts (cond_of (s.thread t).call)))) x.1)
      go false p = (
        u,
        fr_is w u
            ∙ ap (λ (z : Bool). elem u k || z) (or_else (elem u (s.line (condition (cond_of (s.thread t).call)))) (between_on (s.thread u) (cond_of (s.thread t).call) && eqb (s.thread u).kept (s.counts (cond_of (s.thread t).call))) h p)
            ∙ mathlib.Core.Bool.or-true (elem u k),
      )

  pub freed_all : signals (row_of s t).line ≡ true → is_signal_all (row_of s t).line ≡ true → (u : ℕ) → bit (report_of s t (row_of s t) k).mask u ≡ read_waits s (cond_of (s.thread t).call) u
  freed_all w a u = fr_is w u ∙ ap (λ (z : Bool). z || (between_on (s.thread u) (cond_of (s.thread t).call) && eqb (s.thread u).kept (s.counts (cond_of (s.thread t).call)))) (allk a u)
