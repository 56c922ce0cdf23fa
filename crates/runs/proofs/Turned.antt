-- A turn by its ways.
use Rattle.std.proofs.Common.{◌≡◌, ℕ, ◌<◌, ◌≤◌, Bool, cond, None, Option, sym, ap, ◌∙◌}
use Rattle.std.proofs.lemmas.Bool.{lt-ltb, le-ltb}
use Rattle.lines.specs.Kinds.{Kind as LineKind}
use Rattle.thread.specs.Turns.{step_after}
use Rattle.stages.specs.declared.step.Sight.{Sight}
use Rattle.stages.specs.declared.step.Step.{Step}
use Rattle.nub.specs.declared.Core.{Core}
use Rattle.nub.specs.declared.Decline.TheVariants.{NoThread, IdleThread}
use Rattle.nub.specs.Work.{thread_at}
use Rattle.nub.specs.Turn.{refused, row_done, sight_of, steps, turned}

pub turned_out : (K : LineKind) (k : Core) (f : K.State) (t : ℕ) → k.sizes.threads ≤ t → turned K k f t ≡ refused K NoThread k f
turned_out K k f t h =
    ap (λ (b : Bool). cond b (steps K (step_after (thread_at k t) (sight_of K k f t)) t (thread_at k t).call k (row_done k t (sight_of K k f t)) f) (refused K NoThread k f)) (le-ltb t k.sizes.threads h)

pub turned_in : (K : LineKind) (k : Core) (f : K.State) (t : ℕ) → t < k.sizes.threads
    → turned K k f t ≡ steps K (step_after (thread_at k t) (sight_of K k f t)) t (thread_at k t).call k (row_done k t (sight_of K k f t)) f
turned_in K k f t h =
    ap (λ (b : Bool). cond b (steps K (step_after (thread_at k t) (sight_of K k f t)) t (thread_at k t).call k (row_done k t (sight_of K k f t)) f) (refused K NoThread k f)) (lt-ltb t k.sizes.threads h)

pub turned_idle : (K : LineKind) (k : Core) (f : K.State) (t : ℕ) (v : Sight) → t < k.sizes.threads → v ≡ sight_of K k f t
    → step_after (thread_at k t) v ≡ None → turned K k f t ≡ refused K IdleThread k f
turned_idle K k f t v h e n =
    turned_in K k f t h
    ∙ ap (λ (o : Option Step). steps K o t (thread_at k t).call k (row_done k t (sight_of K k f t)) f)
    (ap (λ (z : Sight). step_after (thread_at k t) z) (sym e) ∙ n)
