-- A granted submission's ticket is accepted, and nubs keep their records.
use Rattle.std.proofs.Common.{◌≡◌, ◌<◌, Bool, true, false, cond, ltb, length, set, Some as some, None as none, Option, refl, ap, ◌∙◌, arith}
use Rattle.std.proofs.lemmas.Bool.{ltb-true}
use Rattle.std.proofs.lemmas.List.{get_or-set_same, length-set, length-replicate}
use Rattle.lines.specs.Kinds.{Kind}
use Rattle.stages.specs.Names.{call_no, is_idle}
use Rattle.stages.specs.Calls.{request_of, kind_of}
use Rattle.stages.specs.Table.{first}
use Rattle.stages.specs.declared.call.Call.{Call}
use Rattle.stages.specs.declared.call.Call.TheVariants.{TestAlert}
use Rattle.stages.specs.declared.step.Step.{Step}
use Rattle.thread.specs.Turns.{idle_thread, row_by, step_of, thread_after, started}
use Rattle.thread.specs.declared.record.Thread.{Thread}
use Rattle.nub.specs.declared.Core.{Core}
use Rattle.nub.specs.declared.Sizes.{Sizes}
use Rattle.nub.specs.declared.Decline.{Decline}
use Rattle.nub.specs.declared.Decline.TheVariants.{NoThread}
use Rattle.nub.specs.declared.Event.TheVariants.{Submission as submission, Turn as turn}
use Rattle.nub.specs.Model.{by_verdict, code_kind}
use Rattle.nub.specs.Work.{thread_at, with_threads, performed}
use Rattle.nub.specs.Turn.{call_by, verdict_in, sight_of, row_done, refused, steps}
use Rattle.tickets.specs.declared.refusal.Refusal.TheVariants.{OtherCall}
use Rattle.tickets.specs.Refusals.{refusal_for, same_call}
use Rattle.lasting.specs.Lasting.{Recorded, BuiltRecorded, StaysRecorded, GrantedAccepted}
use Rattle.lasting.proofs.Follows.{performed_follows}
use Rattle.lasting.proofs.Accepting.{by, ready}

-- the numbers of a call say which call it is
decoded : (c : Call) → call_by (code_kind (call_no (kind_of (some c)))) (request_of (some c)).x (request_of (some c)).y ≡ some c
decoded TestAlert = refl
decoded c = refl

begins_busy : (c : Call) → is_idle (first (kind_of (some c))) ≡ false
begins_busy TestAlert = refl
begins_busy c = refl

same_self : (c : Call) → same_call c c ≡ true
same_self c = grind arith

pub granted : GrantedAccepted
granted k t c w e =
    let o : Option Call = call_by (code_kind (call_no (kind_of (some c)))) (request_of (some c)).x (request_of (some c)).y in
    let there = (ready (ltb t k.sizes.threads) (is_idle (thread_at k t).stage) _ e).0 in
    let h : t < length k.threads = omega (arith, ltb-true t k.sizes.threads there, w) in
    let begun : Core = with_threads k (set k.threads t (started o (thread_at k t))) in
    ap (λ (z : Option Decline). refusal_for (by_verdict z begun (λ d. k)) t c) e
    ∙ ap (λ (g : Thread). by (ltb t k.sizes.threads) (is_idle g.stage) g.call c) (get_or-set_same k.threads t (started o (thread_at k t)) idle_thread h)
    ∙ ap (λ (z : Option Call). by (ltb t k.sizes.threads) (is_idle (first (kind_of z))) z c) (decoded c)
    ∙ ap (λ (b : Bool). by b (is_idle (first (kind_of (some c)))) (some c) c) there
    ∙ ap (λ (b : Bool). by true b (some c) c) (begins_busy c)
    ∙ ap (λ (b : Bool). cond b none (some OtherCall)) (same_self c)

pub built : BuiltRecorded
built serves z n h = grind (arith, length-replicate 64 idle_thread)

long : (k k' : Core) → k'.sizes ≡ k.sizes → length k'.threads ≡ length k.threads → Recorded k → Recorded k'
long k k' z l h = let y : k'.sizes.threads ≡ k.sizes.threads = ap (λ (s : Sizes). s.threads) z in omega (arith, y, l, h)

pub stays : (K : Kind) → StaysRecorded K
stays K k f (submission u n a b) h = way (verdict_in k u n a b)
  where
    g : Thread
    g = started (call_by (code_kind n) a b) (thread_at k u)

    way : (w : Option Decline) → Recorded (by_verdict w (with_threads k (set k.threads u g)) (λ d. k))
    way (some d) = h
    way none = long k (with_threads k (set k.threads u g)) refl (length-set k.threads u g) h
stays K k f (turn u) h = way (ltb u k.sizes.threads) (is_idle (thread_at k u).stage)
  where
    r : Core
    r = row_done k u (sight_of K k f u)

    s : Step
    s = step_of (row_by (thread_at k u) (sight_of K k f u))

    way : (a i : Bool) → Recorded (cond a (steps K (cond i none (some s)) u (thread_at k u).call k r f) (refused K NoThread k f)).core
    way true true = h
    way true false =
        let p = performed_follows K s u (thread_at k u).call r f in
        long k (performed K s u (thread_at k u).call r f).core p.sizes! (p.alike!.long! ∙ length-set k.threads u (thread_after (thread_at k u) (sight_of K k f u))) h
    way false i = h
