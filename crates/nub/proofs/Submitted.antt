-- A submission by what its code and its objects mean.
use Rattle.std.proofs.Common.{◌≡◌, ℕ, Bool, true, false, cond, not, eqb, [], Some as some, None as none, Ok, Err, Option, Result, sym, refl, ap, ◌∙◌, nat_lt, arith}
use Rattle.stages.specs.Names.{CallKind, call_no, is_idle}
use Rattle.stages.specs.Names.CallKind.{NoCall, Acquire, Release, Wait, Signal, Broadcast, SemP, SemV, Alert, TestAlert, AlertP, AlertWait}
use Rattle.stages.specs.declared.call.Call.{Call}
use Rattle.stages.specs.declared.call.Call.TheVariants as call
use Rattle.nub.specs.declared.Core.{Core}
use Rattle.nub.specs.declared.Decline.{Decline}
use Rattle.nub.specs.declared.Decline.TheVariants.{NoThread, UnderWay, NoCode, NoObject}
use Rattle.nub.specs.Answers.{of_submission}
use Rattle.nub.specs.Model.{checked, code_kind}
use Rattle.nub.specs.View.{view_core}
use Rattle.nub.specs.Work.{thread_at}
use Rattle.nub.specs.Turn.{call_by, call_of, exists_in, or_no_code, verdict_in, answer_in}
use Rattle.nub.specs.Submissions.{of_thread, of_call, of_meant, result_of}

pub answer_of : (v : Option Decline) → of_submission (result_of v) ≡ answer_in v
answer_of none = refl
answer_of (some d) = refl

-- what a code of this kind means, where the objects exist or do not
abbrev means : CallKind → Bool → Option Call → Result Call Decline
means q x o = cond (eqb (call_no q) 0) (Err NoCode) (cond x (or_no_code o) (Err NoObject))

module _ (k : Core) (t a b : ℕ) where
  objects : (x : Bool) (c : Call) → cond (not x) (some NoObject) (of_call k t (some c)) ≡ of_meant k t (cond x (Ok c) (Err NoObject))
  objects true c = refl
  objects false c = refl

  by_kind : (q : CallKind) → checked (view_core k (λ o. [])) t q a b ≡ of_thread k t (of_meant k t (means q (exists_in k.sizes q a b) (call_by q a b)))
  by_kind NoCall = refl
  by_kind Acquire = ap (of_thread k t) (objects (exists_in k.sizes Acquire a b) (call.Acquire a))
  by_kind Release = ap (of_thread k t) (objects (exists_in k.sizes Release a b) (call.Release a))
  by_kind Wait = ap (of_thread k t) (objects (exists_in k.sizes Wait a b) (call.Wait a b))
  by_kind Signal = ap (of_thread k t) (objects (exists_in k.sizes Signal a b) (call.Signal a))
  by_kind Broadcast = ap (of_thread k t) (objects (exists_in k.sizes Broadcast a b) (call.Broadcast a))
  by_kind SemP = ap (of_thread k t) (objects (exists_in k.sizes SemP a b) (call.P a))
  by_kind SemV = ap (of_thread k t) (objects (exists_in k.sizes SemV a b) (call.V a))
  by_kind Alert = ap (of_thread k t) (objects (exists_in k.sizes Alert a b) (call.Alert a))
  by_kind TestAlert = ap (of_thread k t) (objects (exists_in k.sizes TestAlert a b) call.TestAlert)
  by_kind AlertP = ap (of_thread k t) (objects (exists_in k.sizes AlertP a b) (call.AlertP a))
  by_kind AlertWait = ap (of_thread k t) (objects (exists_in k.sizes AlertWait a b) (call.AlertWait a b))

  verdict_is : (n : ℕ) → verdict_in k t n a b ≡ of_thread k t (of_meant k t (call_of k.sizes n a b))
  verdict_is n = by_kind (code_kind n)

has_code : (y : Bool) (c : Call) (r : Result Call Decline) → Ok c ≡ cond y (Err NoCode) r → Ok c ≡ r
has_code true c r h = let z : ◌≡◌ {A = ℕ} 0 1 = cc in absurd (omega arith)
has_code false c r h = h

has_objects : (x : Bool) (o : Option Call) (c : Call) → Ok c ≡ cond x (or_no_code o) (Err NoObject) → some c ≡ o
has_objects false o c h = let z : ◌≡◌ {A = ℕ} 0 1 = cc in absurd (omega arith)
has_objects true none c h = let z : ◌≡◌ {A = ℕ} 0 1 = cc in absurd (omega arith)
has_objects true (some d) c h = let z : c ≡ d = cc in ap some z

pub call_for : (k : Core) (n a b : ℕ) (c : Call) → Ok c ≡ call_of k.sizes n a b → some c ≡ call_by (code_kind n) a b
call_for k n a b c h = has_objects (exists_in k.sizes (code_kind n) a b) (call_by (code_kind n) a b) c (has_code (eqb (call_no (code_kind n)) 0) c _ h)

begins : (x y : Bool) (v : Option Decline) → Ok tt ≡ result_of (cond (not x) (some NoThread) (cond (not y) (some UnderWay) none)) → cond (not x) (some NoThread) (cond (not y) (some UnderWay) v) ≡ v
begins false y v h = let z : ◌≡◌ {A = ℕ} 0 1 = cc in absurd (omega arith)
begins true false v h = let z : ◌≡◌ {A = ℕ} 0 1 = cc in absurd (omega arith)
begins true true v h = refl

-- the verdict where the thread can begin a call, and the code and objects mean one
pub verdict_of : (k : Core) (t n a b : ℕ) (c : Call) → Ok tt ≡ result_of (of_thread k t none) → Ok c ≡ call_of k.sizes n a b → verdict_in k t n a b ≡ of_call k t (some c)
verdict_of k t n a b c h m =
    verdict_is k t a b n ∙ ap (λ (r : Result Call Decline). of_thread k t (of_meant k t r)) (sym m)
    ∙ begins (nat_lt t k.sizes.threads) (is_idle (thread_at k t).stage) (of_call k t (some c)) h
