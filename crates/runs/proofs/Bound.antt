-- What the code needs beside the invariant: the objects of a call under way exist, and no count passes 32 bits.
use Rattle.std.proofs.Common.{◌≡◌, ℕ, zero, suc, ◌+◌, ◌<◌, ◌≤◌, Bool, true, false, cond, not, ◌&&◌, ◌||◌, eqb, ltb, leb, List, Some as some, None as none, Option, sym, refl, ap, ◌∙◌, subst, arith}
use Rattle.std.proofs.lemmas.Bool.{and_from, eq-eqb, eqb-true}
use mathlib.Core.Bool.{beq}
use Rattle.stages.specs.Names.{stage_no, call_no, is_idle, is_wait, num, CallKind, counted}
use Rattle.stages.specs.Calls.{cond_of, elem, is_this}
use Rattle.stages.specs.declared.stage.Stage.{Stage}
use Rattle.stages.specs.Table.{Seen, row, first}
use Rattle.stages.specs.Marks.{marks}
use Rattle.stages.specs.declared.step.LineEffect.{LineEffect}
use Rattle.nub.specs.Model.{NubState, Pick, built, seen, row_of, line_at, woken, taken_of, does, signals, exists, checked, verdict, submitted, granted_to, by_verdict, after, code_kind, request_by, needs_owner}
use Rattle.thread.specs.Turns.{ThreadState, moved, woken_stage}
use Rattle.nub.specs.declared.Event.{Event}
use Rattle.nub.specs.declared.Event.TheVariants.{Submission as submission, Turn as turn}
use Rattle.runs.specs.Runs.{Picks}
use Rattle.stages.proofs.Finite.{table_at, imp, imp_at, no, and_l, and_r}
use Rattle.stages.specs.Pairs.{fits}
use Rattle.runs.proofs.Small.{to_t, clash}
use Rattle.runs.proofs.Agree.{by_idle, idle_is, is_standing}
use Rattle.runs.proofs.Inv.{Inv, Taken, by_sort, stands_is, is_taken, does_inv}
use Rattle.runs.proofs.Submit.{Granted, is_granted, submitted_inv, built_inv, by_one, cond_none, not_some, not_out', checked_for}
use Rattle.nub.specs.declared.Decline.{Decline}
use Rattle.nub.specs.declared.Decline.TheVariants.{NoThread, UnderWay, NoCode, NoObject, NotOwner, CountHigh, IdleThread}

-- a signal that has yet to count
abbrev pub pends : Stage → Bool
pends st = eqb (stage_no st) 27 || eqb (stage_no st) 28

abbrev pub pend_on : ℕ → ThreadState → Bool
pend_on c h = pends h.stage && eqb (cond_of h.call) c

abbrev pub tally : (ℕ → Bool) → ℕ → ℕ
tally f zero = 0
tally f (suc n) = num (f n) + tally f n

num_le : (b : Bool) → num b ≤ 1
num_le true = omega arith
num_le false = omega arith

pub tally_le : (f : ℕ → Bool) (n : ℕ) → tally f n ≤ n
tally_le f zero = omega arith
tally_le f (suc n) = let i : tally f n ≤ n = tally_le f n in let j : num (f n) ≤ 1 = num_le (f n) in omega arith

tally_same : (f g : ℕ → Bool) (t n : ℕ) → ((u : ℕ) → eqb t u ≡ false → f u ≡ g u) → n ≤ t → tally f n ≡ tally g n
tally_same f g t zero h p = refl
tally_same f g t (suc n) h p =
    let i : tally f n ≡ tally g n = tally_same f g t n h (omega arith) in
    let q : n < t = p in
    let e : num (f n) ≡ num (g n) = ap num (h n (off t n q)) in
    omega arith
  where
    off : (t n : ℕ) → n < t → eqb t n ≡ false
    off t n q = grind arith

-- two tests that differ at t alone
pub tally_one : (f g : ℕ → Bool) (t n : ℕ) → ((u : ℕ) → eqb t u ≡ false → f u ≡ g u) → t < n → tally f n + num (g t) ≡ tally g n + num (f t)
tally_one f g t zero h p = let e : ⊥ = omega arith in absurd e
tally_one f g t (suc n) h p = go (eqb t n) refl (λ q. tally_one f g t n h q)
  where
    off : (t n : ℕ) → t < suc n → eqb t n ≡ false → t < n
    off t n p e = grind arith

    go : (b : Bool) → eqb t n ≡ b → (t < n → tally f n + num (g t) ≡ tally g n + num (f t))
        → num (f n) + tally f n + num (g t) ≡ num (g n) + tally g n + num (f t)
    go true e i =
        let q : t ≡ n = eqb-true t n e in
        let z : tally f n ≡ tally g n = tally_same f g t n h (omega arith) in
        let a : num (f n) ≡ num (f t) = ap (λ (u : ℕ). num (f u)) (sym q) in
        let b : num (g n) ≡ num (g t) = ap (λ (u : ℕ). num (g u)) (sym q) in
        omega arith
    go false e i =
        let z : tally f n + num (g t) ≡ tally g n + num (f t) = i (off t n p e) in
        let a : num (f n) ≡ num (g n) = ap num (h n e) in
        omega arith

pub record Sound (s : NubState) : Type 0 where
  pub inv : Inv s
  pub ranged : (u : ℕ) → is_idle (s.thread u).stage ≡ false → exists s (s.thread u).call.kind (s.thread u).call.x (s.thread u).call.y ≡ true
  pub bound : (c : ℕ) → s.counts c + tally (λ u. pend_on c (s.thread u)) s.size ≤ 4294967295

pub built_sound : (n m c i : ℕ) (b : ℕ → ℕ) → ((j : ℕ) → b j ≤ 4294967295) → Sound (built n m c i b)
built_sound n m c i b h =
    record {
      inv = built_inv n m c i b;
      ranged = λ u e. no (sym e);
      bound = λ k. let z : tally (λ u. false) n ≡ 0 = nobody n in let y : b k ≤ 4294967295 = h k in omega arith;
    }
  where
    nobody : (n : ℕ) → tally (λ u. false) n ≡ 0
    nobody zero = refl
    nobody (suc n) = let i : tally (λ u. false) n ≡ 0 = nobody n in omega arith

-- the row of Sig counts, and no other
test_pend : Stage → CallKind → Seen → Bool
test_pend st k v = beq (pends st) (pends (row st k v).next || signals (row st k v).line) && not (pends (row st k v).next && signals (row st k v).line)

pub pend_ok : (st : Stage) (k : CallKind) (v : Seen) → fits st k ≡ true
    → (beq (pends st) (pends (row st k v).next || signals (row st k v).line) && not (pends (row st k v).next && signals (row st k v).line)) ≡ true
unfolding test_pend
pend_ok = table_at test_pend (record { at_idle = refl; at_try = refl; at_peek = refl; at_line_spin = refl; at_add = refl; at_test = refl; at_park = refl; at_parked = refl; at_leave_spin = refl; at_leave = refl; at_leave_out = refl; at_undo = refl; at_undo_out = refl; at_clear = refl; at_look = refl; at_wake_spin = refl; at_wake = refl; at_wake_out = refl; at_read = refl; at_block_spin = refl; at_compare = refl; at_block_park = refl; at_waiting = refl; at_quit_spin = refl; at_quit = refl; at_block_out = refl; at_choose = refl; at_sig_spin = refl; at_sig = refl; at_sig_out = refl; at_set = refl; at_swap = refl })

woken_pend : (e : LineEffect) (k : CallKind) → pends (woken_stage e k) ≡ false
woken_pend e k = grind arith

stand_pend : (st : Stage) → is_standing (marks st).line ≡ true → pends st ≡ false
stand_pend st h = grind arith

count_pend : (b w n y : Bool) (c : ℕ) → (beq b (n || w) && not (n && w)) ≡ true → cond (w && y) (suc c) c + num (n && y) ≡ c + num (b && y)
count_pend b w n y c h = grind arith

pub does_bound : (s : NubState) (t : ℕ) (k : List ℕ) → Inv s → is_idle (s.thread t).stage ≡ false → Taken s t (row_of s t).line k
    → ((c : ℕ) → s.counts c + tally (λ u. pend_on c (s.thread u)) s.size ≤ 4294967295)
    → (c : ℕ) → (does s t (row_of s t) k).counts c + tally (λ u. pend_on c ((does s t (row_of s t) k).thread u)) s.size ≤ 4294967295
does_bound s t k inv busy tk bd c =
    let f : ℕ → Bool = λ u. pend_on c ((does s t (row_of s t) k).thread u) in
    let g : ℕ → Bool = λ u. pend_on c (s.thread u) in
    let a : tally f s.size + num (g t) ≡ tally g s.size + num (f t) = tally_one f g t s.size rest ins in
    let b : (does s t (row_of s t) k).counts c + num (f t) ≡ s.counts c + num (g t) = self in
    let d : s.counts c + tally g s.size ≤ 4294967295 = bd c in
    omega arith
  where
    ins : t < s.size
    ins = lib.Dec.ltb→lt t s.size (to_t (ltb t s.size) (inv.inside t busy))

    rest : (u : ℕ) → eqb t u ≡ false → pend_on c ((does s t (row_of s t) k).thread u) ≡ pend_on c (s.thread u)
    rest u p =
        by_sort (λ h. pend_on c h ≡ pend_on c (s.thread u)) (eqb t u) (elem u k) (moved (row_of s t) (s.counts (cond_of (s.thread t).call)) (s.thread t)) (woken (row_of s t).line (s.thread u)) (s.thread u)
        (λ q. clash q p)
        (λ q e. ap (λ (z : Bool). z && eqb (cond_of (s.thread u).call) c) (woken_pend (row_of s t).line (s.thread u).call.kind
        ∙ sym (stand_pend (s.thread u).stage (stands_is (marks (s.thread u).stage).line (s.thread u).call (line_at (row_of s t).line (s.thread t).call) (tk u e).stands!))))
        (λ q e. refl)

    moved_pend : pend_on c ((does s t (row_of s t) k).thread t) ≡ (pends (row_of s t).next && eqb (cond_of (s.thread t).call) c)
    moved_pend =
        rw (eq-eqb t t refl)
        (by_idle (λ n d. (pends n && eqb (cond_of d) c) ≡ (pends n && eqb (cond_of (s.thread t).call) c)) (row_of s t).next (s.thread t).call refl (λ b. refl))

    self : (does s t (row_of s t) k).counts c + num (pend_on c ((does s t (row_of s t) k).thread t)) ≡ s.counts c + num (pend_on c (s.thread t))
    self =
        ap (λ (z : Bool). (does s t (row_of s t) k).counts c + num z) moved_pend
        ∙ count_pend (pends (s.thread t).stage) (signals (row_of s t).line) (pends (row_of s t).next) (eqb (cond_of (s.thread t).call) c) (s.counts c)
        (pend_ok (s.thread t).stage (s.thread t).call.kind (seen s t) (inv.fit t))

tally_has : (f : ℕ → Bool) (t n : ℕ) → t < n → f t ≡ true → 1 ≤ tally f n
tally_has f t n p h =
    let a : tally f n + num false ≡ tally (λ u. cond (eqb t u) false (f u)) n + num (f t) = subst (λ (z : Bool). tally f n + num z ≡ tally (λ u. cond (eqb t u) false (f u)) n + num (f t)) gone (tally_one f (λ u. cond (eqb t u) false (f u)) t n same p) in
    let b : num (f t) ≡ 1 = ap num h in
    omega arith
  where
    gone : cond (eqb t t) false (f t) ≡ false
    gone = rw (eq-eqb t t refl)

    same : (u : ℕ) → eqb t u ≡ false → f u ≡ cond (eqb t u) false (f u)
    same u e = rw e

-- the count of a Sig has room
pub sig_fits : (s : NubState) (t : ℕ) → Sound s → is_idle (s.thread t).stage ≡ false → signals (row_of s t).line ≡ true → s.counts (cond_of (s.thread t).call) < 4294967295
sig_fits s t so busy w =
    let b : s.counts (cond_of (s.thread t).call) + tally (λ u. pend_on (cond_of (s.thread t).call) (s.thread u)) s.size ≤ 4294967295 = so.bound (cond_of (s.thread t).call) in
    let h : 1 ≤ tally (λ u. pend_on (cond_of (s.thread t).call) (s.thread u)) s.size =
    tally_has (λ u. pend_on (cond_of (s.thread t).call) (s.thread u)) t s.size (lib.Dec.ltb→lt t s.size (to_t (ltb t s.size) (so.inv.inside t busy)))
    (and_from (pends (s.thread t).stage) (eqb (cond_of (s.thread t).call) (cond_of (s.thread t).call))
    (was (pends (s.thread t).stage) (pends (row_of s t).next) (signals (row_of s t).line) (pend_ok (s.thread t).stage (s.thread t).call.kind (seen s t) (so.inv.fit t)) w) (eq-eqb (cond_of (s.thread t).call) (cond_of (s.thread t).call) refl)) in
    omega arith
  where
    was : (b n w : Bool) → (beq b (n || w) && not (n && w)) ≡ true → w ≡ true → b ≡ true
    was b n w h p = grind arith

pub does_sound : (s : NubState) (t : ℕ) (pick : Pick) → Sound s → Picks s pick → is_idle (s.thread t).stage ≡ false → Sound (does s t (row_of s t) (taken_of s t (row_of s t) pick))
does_sound s t pick so pk busy =
    record {
      inv = does_inv s t pick so.inv pk busy;
      ranged = λ u. by_sort (λ h. is_idle h.stage ≡ false → exists s h.call.kind h.call.x h.call.y ≡ true) (eqb t u) (elem u (taken_of s t (row_of s t) pick))
          (moved (row_of s t) (s.counts (cond_of (s.thread t).call)) (s.thread t)) (woken (row_of s t).line (s.thread u)) (s.thread u)
          (λ p. by_idle (λ n c. is_idle n ≡ false → exists s c.kind c.x c.y ≡ true) (row_of s t).next (s.thread t).call (λ e. no (sym e)) (λ b e. so.ranged t busy))
          (λ p q e. so.ranged u (Rattle.runs.proofs.Inv.stood_busy (s.thread u).stage (s.thread u).call (line_at (row_of s t).line (s.thread t).call) (is_taken s t pick so.inv pk u q).stands!))
          (λ p q e. so.ranged u e);
      bound = does_bound s t (taken_of s t (row_of s t) pick) so.inv busy (is_taken s t pick so.inv pk) so.bound;
    }

first_pend : (k : CallKind) → imp (pends (first k)) (counted k) ≡ true
first_pend k = grind arith

counted_x : (k : CallKind) (x y : ℕ) → counted k ≡ true → cond (is_wait k) y x ≡ x
counted_x k x y h = grind arith

low : (b : Bool) (n : ℕ) → (b && leb 4294967232 n) ≡ false → b ≡ true → n < 4294967232
low b n h p = grind arith

pub submitted_sound : (s : NubState) (t : ℕ) (k : CallKind) (x y : ℕ) → s.size ≤ 64 → Sound s → checked s t k x y ≡ none → Sound (submitted s t (record { kind = k; x = x; y = y }))
submitted_sound s t k x y small so h =
    record {
      inv = submitted_inv s t (record { kind = k; x = x; y = y }) so.inv gr;
      ranged = λ u. by_one (λ z. is_idle z.stage ≡ false → exists s z.call.kind z.call.x z.call.y ≡ true) (eqb t u) new (s.thread u)
          (λ p e. ex) (λ p e. so.ranged u e);
      bound = bd;
    }
  where
    gr : Granted s t k x y
    gr = is_granted s t k x y h

    new : ThreadState
    new = record { stage = first k; call = record { kind = k; x = x; y = y }; kept = (s.thread t).kept; out = (s.thread t).out }

    d1 : (not (exists s k x y) ≡ false) × (◌≡◌ {A = Option Decline} (cond (needs_owner k && not (is_this t (s.owners x))) (some NotOwner) (cond (counted k && leb 4294967232 (s.counts x)) (some CountHigh) none)) none)
    d1 =
        let a = cond_none (not (ltb t s.size)) NoThread _ h in
        let b = cond_none (not (is_idle (s.thread t).stage)) UnderWay _ a.1 in
        let c = cond_none (eqb (call_no k) 0) NoCode _ b.1 in
        cond_none (not (exists s k x y)) NoObject _ c.1

    ex : exists s k x y ≡ true
    ex = not_out' (exists s k x y) d1.0

    lo : counted k ≡ true → s.counts x < 4294967232
    lo p =
        let e = cond_none (needs_owner k && not (is_this t (s.owners x))) NotOwner _ d1.1 in
        let f = cond_none (counted k && leb 4294967232 (s.counts x)) CountHigh _ e.1 in
        low (counted k) (s.counts x) f.0 p

    bd : (c : ℕ) → s.counts c + tally (λ u. pend_on c ((submitted s t (record { kind = k; x = x; y = y })).thread u)) s.size ≤ 4294967295
    bd c = go (pend_on c new) refl
      where
        f : ℕ → Bool
        f = λ u. pend_on c ((submitted s t (record { kind = k; x = x; y = y })).thread u)

        at_t : f t ≡ pend_on c new
        at_t = rw (eq-eqb t t refl)

        same : (u : ℕ) → eqb t u ≡ false → f u ≡ pend_on c (s.thread u)
        same u e = rw e

        was : pend_on c (s.thread t) ≡ false
        was = ap (λ (z : Stage). pends z && eqb (cond_of (s.thread t).call) c) (idle_is (s.thread t).stage gr.idle!)

        one : tally f s.size + num (pend_on c (s.thread t)) ≡ tally (λ u. pend_on c (s.thread u)) s.size + num (f t)
        one = tally_one f (λ u. pend_on c (s.thread u)) t s.size same (lib.Dec.ltb→lt t s.size (to_t (ltb t s.size) gr.thread!))

        go : (b : Bool) → pend_on c new ≡ b → s.counts c + tally f s.size ≤ 4294967295
        go false e =
            let a : tally f s.size + num (pend_on c (s.thread t)) ≡ tally (λ u. pend_on c (s.thread u)) s.size + num (f t) = one in
            let b : num (f t) ≡ 0 = ap num (at_t ∙ e) in
            let d : num (pend_on c (s.thread t)) ≡ 0 = ap num was in
            let g : s.counts c + tally (λ u. pend_on c (s.thread u)) s.size ≤ 4294967295 = so.bound c in
            omega arith
        go true e =
            let p : counted k ≡ true = imp_at (pends (first k)) (counted k) (first_pend k) (and_l (pends (first k)) (eqb (cond (is_wait k) y x) c) e) in
            let q : x ≡ c = sym (counted_x k x y p) ∙ eqb-true (cond (is_wait k) y x) c (and_r (pends (first k)) (eqb (cond (is_wait k) y x) c) e) in
            let l : s.counts c < 4294967232 = subst (λ (z : ℕ). s.counts z < 4294967232) q (lo p) in
            let a : tally f s.size ≤ s.size = tally_le f s.size in
            omega arith

size_same : (s : NubState) (e : Event) (pick : Pick) → (after s e pick).size ≡ s.size
size_same s (submission t code x y) pick = go (verdict s (submission t code x y))
  where
    go : (n : Option Decline) → (by_verdict n (granted_to s (submission t code x y) pick) (λ m. s)).size ≡ s.size
    go none = refl
    go (some n) = refl
size_same s (turn t) pick = go (verdict s (turn t))
  where
    go : (n : Option Decline) → (by_verdict n (granted_to s (turn t) pick) (λ m. s)).size ≡ s.size
    go none = refl
    go (some n) = refl

cond_turn : (a b : Bool) → ◌≡◌ {A = Option Decline} (cond a (cond b (some IdleThread) none) (some NoThread)) none → b ≡ false
cond_turn true true h = not_some IdleThread h
cond_turn true false h = refl
cond_turn false b h = not_some NoThread h

-- every submission and turn keeps a nub of at most 64 threads sound
pub after_sound : (s : NubState) (e : Event) (pick : Pick) → s.size ≤ 64 → Sound s → Picks s pick → Sound (after s e pick)
after_sound s (submission t code x y) pick small so pk = go (verdict s (submission t code x y)) refl
  where
    go : (n : Option Decline) → verdict s (submission t code x y) ≡ n → Sound (by_verdict n (granted_to s (submission t code x y) pick) (λ m. s))
    go none h = submitted_sound s t (request_by (code_kind code) x y).kind (request_by (code_kind code) x y).x (request_by (code_kind code) x y).y small so (checked_for s t (code_kind code) x y h)
    go (some n) h = so
after_sound s (turn t) pick small so pk = go (verdict s (turn t)) refl
  where
    go : (n : Option Decline) → verdict s (turn t) ≡ n → Sound (by_verdict n (granted_to s (turn t) pick) (λ m. s))
    go none h = does_sound s t pick so pk (cond_turn (ltb t s.size) (is_idle (s.thread t).stage) h)
    go (some n) h = so
