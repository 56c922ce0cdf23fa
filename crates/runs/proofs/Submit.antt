-- A built nub has the invariant, and a granted submission keeps it.
use Rattle.std.proofs.Common.{◌≡◌, ℕ, ◌≤◌, Bool, true, false, cond, not, ◌&&◌, eqb, ltb, Some as some, None as none, Option, sym, refl, ap, ◌∙◌, subst, arith}
use Rattle.std.proofs.lemmas.Bool.{eqb-true}
use Rattle.stages.specs.Calls.{Object, gate_of, cond_of, same_object, elem, is_this, Request}
use Rattle.stages.specs.Names.{call_no, is_idle, CallKind}
use Rattle.stages.specs.declared.stage.Stage.{Stage}
use Rattle.stages.specs.Marks.{marks}
use Rattle.stages.specs.Table.{is_between, first}
use Rattle.stages.specs.declared.marks.Stands.{Stands}
use Rattle.stages.specs.declared.stage.Stage.TheVariants.{Idle}
use Rattle.nub.specs.Model.{NubState, built, submitted, checked, request_by, exists, needs_owner}
use Rattle.thread.specs.Turns.{ThreadState}
use Rattle.stages.specs.Names.CallKind.{NoCall, Acquire, Release, Wait, Signal, Broadcast, SemP, SemV, Alert, TestAlert, AlertP, AlertWait}
use Rattle.runs.specs.Reading.{on_way}
use Rattle.stages.proofs.Finite.{imp_at, no, and_l}
use Rattle.stages.specs.Pairs.{fits}
use Rattle.runs.proofs.Small.{clash}
use Rattle.runs.specs.Reading.{stands_by}
use Rattle.runs.proofs.Agree.{idle_is, first_fit, first_line_lem, first_spin, first_quit, first_between, first_owns, owns_now, is_quit}
use Rattle.runs.proofs.Inv.{Inv, stands_at}
use Rattle.nub.specs.declared.Decline.{Decline}
use Rattle.nub.specs.declared.Decline.TheVariants.{NoThread, UnderWay, NoCode, NoObject, NotOwner}

pub built_inv : (n m c i : ℕ) (b : ℕ → ℕ) → Inv (built n m c i b)
built_inv n m c i b =
    record {
      fit = λ u. refl;
      inside = λ u h. no (sym h);
      stood = λ o u. refl;
      spun = (0, λ u. refl);
      owned = λ k. refl;
      owner = λ u h. no h;
      quits = λ u h. no h;
      kept = λ u h. no h;
      way = λ o g h u e. no e;
    }

pub not_some : {A : Type 0} (d : Decline) → ◌≡◌ {A = Option Decline} (some d) none → A
not_some d h = let z : ◌≡◌ {A = ℕ} 0 1 = cc in let e : ⊥ = omega arith in absurd e

pub cond_none : (b : Bool) (d : Decline) (z : Option Decline) → cond b (some d) z ≡ none → (b ≡ false) × (z ≡ none)
cond_none true d z h = not_some d h
cond_none false d z h = (refl, h)

pub record Granted (s : NubState) (t : ℕ) (k : CallKind) (x y : ℕ) : Type 0 where
  pub thread! : ltb t s.size ≡ true
  pub idle! : is_idle (s.thread t).stage ≡ true
  pub owner! : needs_owner k ≡ true → s.owners x ≡ some t

pub not_out' : (b : Bool) → not b ≡ false → b ≡ true
not_out' true h = refl
not_out' false h = sym h

this_is : (t : ℕ) (o : Option ℕ) → is_this t o ≡ true → o ≡ some t
this_is t none h = no h
this_is t (some u) h = ap some (sym (eqb-true t u h))

owner_lem : (a b : Bool) → (a && not b) ≡ false → a ≡ true → b ≡ true
owner_lem true b h p = not_out' b h
owner_lem false b h p = no p

pub is_granted : (s : NubState) (t : ℕ) (k : CallKind) (x y : ℕ) → checked s t k x y ≡ none → Granted s t k x y
is_granted s t k x y h =
    let a = cond_none (not (ltb t s.size)) NoThread _ h in
    let b = cond_none (not (is_idle (s.thread t).stage)) UnderWay _ a.1 in
    let c = cond_none (eqb (call_no k) 0) NoCode _ b.1 in
    let d = cond_none (not (exists s k x y)) NoObject _ c.1 in
    let e = cond_none (needs_owner k && not (is_this t (s.owners x))) NotOwner _ d.1 in
    record {
      thread! = not_out' (ltb t s.size) a.0;
      idle! = not_out' (is_idle (s.thread t).stage) b.0;
      owner! = λ p. this_is t (s.owners x) (owner_lem (needs_owner k) (is_this t (s.owners x)) e.0 p);
    }

pub checked_for : (s : NubState) (t : ℕ) (k : CallKind) (x y : ℕ) → checked s t k x y ≡ none → checked s t (request_by k x y).kind (request_by k x y).x (request_by k x y).y ≡ none
checked_for s t NoCall x y h = h
checked_for s t Acquire x y h = h
checked_for s t Release x y h = h
checked_for s t Wait x y h = h
checked_for s t Signal x y h = h
checked_for s t Broadcast x y h = h
checked_for s t SemP x y h = h
checked_for s t SemV x y h = h
checked_for s t Alert x y h = h
checked_for s t TestAlert x y h = h
checked_for s t AlertP x y h = h
checked_for s t AlertWait x y h = h

pub granted_for : (s : NubState) (t : ℕ) (k : CallKind) (x y : ℕ) → checked s t k x y ≡ none → Granted s t (request_by k x y).kind (request_by k x y).x (request_by k x y).y
granted_for s t k x y h = is_granted s t (request_by k x y).kind (request_by k x y).x (request_by k x y).y (checked_for s t k x y h)

pub by_one : (P : ThreadState → Type 0) (b : Bool) (m h : ThreadState) → (b ≡ true → P m) → (b ≡ false → P h) → P (cond b m h)
by_one P true m h f g = f refl
by_one P false m h f g = g refl

pub submitted_inv : (s : NubState) (t : ℕ) (c : Request) → Inv s → Granted s t c.kind c.x c.y → Inv (submitted s t c)
submitted_inv s t c inv gr =
    record {
      fit = λ u. by_one (λ h. fits h.stage h.call.kind ≡ true) (eqb t u) new (s.thread u) (λ p. first_fit c.kind) (λ p. inv.fit u);
      inside = λ u. by_one (λ h. is_idle h.stage ≡ false → ltb u s.size ≡ true) (eqb t u) new (s.thread u)
          (λ p i. subst (λ (z : ℕ). ltb z s.size ≡ true) (eqb-true t u p) gr.thread!) (λ p i. inv.inside u i);
      stood = λ o u. by_one (λ h. elem u (s.line o) ≡ stands_at h o) (eqb t u) new (s.thread u)
          (λ p. inv.stood o u
          ∙ ap (λ (z : Stage). stands_by (marks z).line (s.thread u).call o) (was u p)
          ∙ ap (λ (z : Stands). stands_by z c o) (sym (first_line_lem c.kind)))
          (λ p. inv.stood o u);
      spun = (
        inv.spun.0,
        λ u. by_one (λ h. (marks h.stage).spin ≡ (s.spin && eqb inv.spun.0 u)) (eqb t u) new (s.thread u)
            (λ p. first_spin c.kind ∙ sym (ap (λ (z : Stage). (marks z).spin) (was u p)) ∙ inv.spun.1 u) (λ p. inv.spun.1 u),
      );
      owned = inv.owned;
      owner = λ u. by_one (λ h. owns_now h.stage h.call.kind ≡ true → s.owners h.call.x ≡ some u) (eqb t u) new (s.thread u)
          (λ p i. gr.owner! (imp_at (owns_now (first c.kind) c.kind) (needs_owner c.kind) (first_owns c.kind) i) ∙ ap some (eqb-true t u p))
          (λ p i. inv.owner u i);
      quits = λ u. by_one (λ h. is_quit h.stage ≡ true → s.flags u ≡ true) (eqb t u) new (s.thread u)
          (λ p i. clash i (first_quit c.kind)) (λ p i. inv.quits u i);
      kept = λ u. by_one (λ h. is_between h.stage h.call.kind ≡ true → h.kept ≤ s.counts (cond_of h.call)) (eqb t u) new (s.thread u)
          (λ p i. clash i (first_between c.kind)) (λ p i. inv.kept u i);
      way = λ o g b u e. let w : (w : ℕ) × (on_way (s.thread w) o ≡ true) = inv.way o g b u e in (w.0, keep o w.0 w.1);
    }
  where
    new : ThreadState
    new = record { stage = first c.kind; call = c; kept = (s.thread t).kept; out = (s.thread t).out }

    was : (u : ℕ) → eqb t u ≡ true → (s.thread u).stage ≡ Idle
    was u p = idle_is (s.thread u).stage (subst (λ (z : ℕ). is_idle (s.thread z).stage ≡ true) (eqb-true t u p) gr.idle!)

    keep : (o : Object) (w : ℕ) → on_way (s.thread w) o ≡ true → on_way (cond (eqb t w) new (s.thread w)) o ≡ true
    keep o w h =
        by_one (λ z. on_way z o ≡ true) (eqb t w) new (s.thread w)
        (λ p. clash (and_l (marks (s.thread w).stage).way (same_object (gate_of (s.thread w).call) o) h) (ap (λ (z : Stage). (marks z).way) (was w p)))
        (λ p. h)
