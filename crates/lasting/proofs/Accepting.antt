-- How long a ticket is accepted.
use Rattle.std.proofs.Common.{◌≡◌, ℕ, Bool, true, false, cond, not, ◌&&◌, eqb, ltb, set, Some as some, None as none, Ok, Err, Option, sym, refl, ap, ◌∙◌, subst, true≢false, arith}
use Rattle.std.proofs.lemmas.Bool.{cond-false}
use Rattle.lines.specs.Kinds.{Kind}
use Rattle.stages.specs.Names.{is_idle}
use Rattle.stages.specs.Calls.{kind_of}
use Rattle.stages.specs.declared.call.Call.{Call}
use Rattle.stages.specs.declared.step.Sight.{Sight}
use Rattle.stages.specs.declared.step.Step.{Step}
use Rattle.thread.specs.Turns.{sees, row_by, stepped, step_of, thread_after, started}
use Rattle.thread.specs.declared.record.Thread.{Thread}
use Rattle.nub.specs.declared.Core.{Core}
use Rattle.nub.specs.declared.Decline.{Decline}
use Rattle.nub.specs.declared.Decline.TheVariants.{NoThread, UnderWay, IdleThread}
use Rattle.nub.specs.declared.Event.TheVariants.{Submission as submission, Turn as turn}
use Rattle.nub.specs.Model.{by_verdict, code_kind}
use Rattle.nub.specs.Work.{thread_at, with_threads, performed}
use Rattle.nub.specs.Turn.{call_by, verdict_in, sight_of, row_done, refused, steps, turned}
use Rattle.tickets.specs.declared.refusal.Refusal.{Refusal}
use Rattle.tickets.specs.Refusals.{refusal_by}
use Rattle.lasting.specs.Lasting.{Accepted, is_finished, finishes, AcceptedLasts}
use Rattle.lasting.proofs.Rows.{row_goes}
use Rattle.lasting.proofs.Follows.{Same, set_same, performed_follows}

-- the refusal by whether there is such a thread, whether it is at Idle, and its call
abbrev pub by : Bool → Bool → Option Call → Call → Option Refusal
by a i o c = refusal_by (by_verdict (cond a (cond i (some IdleThread) none) (some NoThread)) (Ok o) (λ d. Err d)) c

by_busy : (a i : Bool) (o : Option Call) (c : Call) → by a i o c ≡ none → i ≡ false
by_busy true false o c h = refl
by_busy a i o c h = grind arith

pub busy : (k : Core) (t : ℕ) (c : Call) → Accepted k t c → is_idle (thread_at k t).stage ≡ false
busy k t c h = by_busy (ltb t k.sizes.threads) (is_idle (thread_at k t).stage) (thread_at k t).call c h

-- it stays accepted where the sizes and the call stay, and the thread does not come to Idle
keeps : (k k' : Core) (t : ℕ) (c : Call) → k'.sizes ≡ k.sizes → Same (thread_at k t) (thread_at k' t) → Accepted k t c → Accepted k' t c
keeps k k' t c z s h = grind (arith, s.busy!, s.call!)

-- the own record after a row that does not finish the call
row_same : (h : Thread) (v : Sight) → is_idle h.stage ≡ false → is_finished (row_by h v).status ≡ false → Same h (stepped (row_by h v) v.count h)
row_same h v i e =
    let n = row_goes h.stage (kind_of h.call) (sees h v) i e in
    record { call! = cond-false (is_idle (row_by h v).next) none h.call n; busy! = λ _. n }

after_same : (h : Thread) (v : Sight) → is_idle h.stage ≡ false → is_finished (row_by h v).status ≡ false → Same h (thread_after h v)
after_same h v i e = subst (λ (g : Thread). Same h g) (sym (cond-false (is_idle h.stage) h (stepped (row_by h v) v.count h) i)) (row_same h v i e)

own_false : (t u : ℕ) (b : Bool) → t ≡ u → (eqb t u && b) ≡ false → b ≡ false
own_false t u b e h = grind arith

module _ (K : Kind) (k : Core) (f : K.State) where
  turn_lasts : (u t : ℕ) (c : Call) → Accepted k t c → finishes t (turn u) (turned K k f u).answer ≡ false → Accepted (turned K k f u).core t c
  turn_lasts u t c h = way (ltb u k.sizes.threads) (is_idle (thread_at k u).stage) refl
    where
      v : Sight
      v = sight_of K k f u

      s : Step
      s = step_of (row_by (thread_at k u) v)

      done : is_idle (thread_at k u).stage ≡ false → (eqb t u && is_finished s.status) ≡ false → Accepted (performed K s u (thread_at k u).call (row_done k u v) f).core t c
      done i e =
          let g = thread_after (thread_at k u) v in
          let own : Same (thread_at k t) (thread_at (row_done k u v) t) =
          set_same k.threads u t g (λ q. after_same (thread_at k u) v i (own_false t u (is_finished s.status) q e)) in
          let p = performed_follows K s u (thread_at k u).call (row_done k u v) f in
          keeps k (performed K s u (thread_at k u).call (row_done k u v) f).core t c p.sizes! (record { call! = (p.alike!.same! t).call! ∙ own.call!; busy! = λ b. (p.alike!.same! t).busy! (own.busy! b) }) h

      way : (a i : Bool) → is_idle (thread_at k u).stage ≡ i → finishes t (turn u) (cond a (steps K (cond i none (some s)) u (thread_at k u).call k (row_done k u v) f) (refused K NoThread k f)).answer ≡ false → Accepted (cond a (steps K (cond i none (some s)) u (thread_at k u).call k (row_done k u v) f) (refused K NoThread k f)).core t c
      way true true q e = h
      way true false q e = done q e
      way false i q e = h

-- a granted submission is of a thread that there is, at Idle
pub ready : (a i : Bool) (rest : Option Decline) → cond (not a) (some NoThread) (cond (not i) (some UnderWay) rest) ≡ none → (a ≡ true) × (i ≡ true)
ready true true rest e = (refl, refl)
ready a i rest e = grind arith

module _ (k : Core) (u n a b : ℕ) where
  abbrev begun : Core
  begun = with_threads k (set k.threads u (started (call_by (code_kind n) a b) (thread_at k u)))

  submission_lasts : (t : ℕ) (c : Call) → Accepted k t c → Accepted (by_verdict (verdict_in k u n a b) begun (λ d. k)) t c
  submission_lasts t c h = way (verdict_in k u n a b) refl
    where
      way : (w : Option Decline) → verdict_in k u n a b ≡ w → Accepted (by_verdict w begun (λ d. k)) t c
      way (some d) e = h
      way none e =
          keeps k begun t c refl
          (set_same k.threads u t (started (call_by (code_kind n) a b) (thread_at k u)) (λ q.
          absurd (true≢false (sym (ready (ltb u k.sizes.threads) (is_idle (thread_at k u).stage) _ e).1 ∙ ap (λ (x : ℕ). is_idle (thread_at k x).stage) (sym q) ∙ busy k t c h))))
          h

pub lasting : (K : Kind) → AcceptedLasts K
lasting K k f (submission u n a b) t c h e = submission_lasts k u n a b t c h
lasting K k f (turn u) t c h e = turn_lasts K k f u t c h e
