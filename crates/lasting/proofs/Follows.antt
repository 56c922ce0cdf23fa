-- What a turn does besides its own thread's record leaves each thread its call, and leads none to Idle.
use Rattle.std.proofs.Common.{◌≡◌, ℕ, zero, suc, Bool, true, false, cond, List, [], ◌∷◌, length, get_or, set, Some as some, Option, refl, ap, ◌∙◌, arith}
use Rattle.std.proofs.lemmas.List.{length-set}
use Rattle.lines.specs.Lines.{has}
use Rattle.lines.specs.Kinds.{Kind}
use Rattle.stages.specs.Names.{CallKind, is_idle}
use Rattle.stages.specs.Calls.{kind_of, condition_of}
use Rattle.stages.specs.declared.call.Call.{Call}
use Rattle.stages.specs.declared.step.Step.{Step}
use Rattle.stages.specs.declared.step.LineEffect.{LineEffect}
use Rattle.stages.specs.declared.step.LineEffect.TheVariants.{WakeGate as wake_gate, SignalOne as signal_one, SignalAll as signal_all}
use Rattle.stages.specs.declared.step.FlagEffect.{FlagEffect}
use Rattle.stages.specs.declared.step.FlagEffect.TheVariants.{SetNamed as set_named}
use Rattle.thread.specs.Turns.{idle_thread, flagged, woken_thread, woken_stage}
use Rattle.thread.specs.declared.record.Thread.{Thread}
use Rattle.nub.specs.declared.Core.{Core}
use Rattle.nub.specs.Places.{alerted_of, line_in}
use Rattle.nub.specs.Work.{alert_named, applied, wake_from, freed_in, taken_in, performed}

-- the same call, and not at Idle if not there before
pub record Same (h h' : Thread) : Type 0 where
  pub call! : h'.call ≡ h.call
  pub busy! : is_idle h.stage ≡ false → is_idle h'.stage ≡ false

pub same_refl : (h : Thread) → Same h h
same_refl h = record { call! = refl; busy! = λ b. b }

-- a record put in the place of another
pub set_same : (l : List Thread) (x t : ℕ) (g : Thread) → (t ≡ x → Same (get_or l x idle_thread) g) → Same (get_or l t idle_thread) (get_or (set l x g) t idle_thread)
set_same [] x t g s = same_refl idle_thread
set_same (h ∷ l) zero zero g s = s refl
set_same (h ∷ l) zero (suc t) g s = same_refl (get_or l t idle_thread)
set_same (h ∷ l) (suc x) zero g s = same_refl h
set_same (h ∷ l) (suc x) (suc t) g s = set_same l x t g (λ e. s (ap suc e))

-- records, place by place
pub record Alike (l l' : List Thread) : Type 0 where
  pub long! : length l' ≡ length l
  pub same! : (t : ℕ) → Same (get_or l t idle_thread) (get_or l' t idle_thread)

alike_refl : (l : List Thread) → Alike l l
alike_refl l = record { long! = refl; same! = λ t. same_refl (get_or l t idle_thread) }

alert_alike : (e : FlagEffect) (x : Option ℕ) (l : List Thread) → Alike l (alert_named e x l)
alert_alike set_named (some x) l =
    record { long! = length-set l x (flagged (get_or l x idle_thread)); same! = λ t. set_same l x t (flagged (get_or l x idle_thread)) (λ _. record { call! = refl; busy! = λ b. b }) }
alert_alike e x l = alike_refl l

woken_busy : (e : LineEffect) (k : CallKind) → is_idle (woken_stage e k) ≡ false
woken_busy wake_gate k = refl
woken_busy e k = grind arith

woken_same : (b : Bool) (e : LineEffect) (h : Thread) → Same h (cond b (woken_thread e h) h)
woken_same true e h = record { call! = refl; busy! = λ _. woken_busy e (kind_of h.call) }
woken_same false e h = same_refl h

wake_same : (e : LineEffect) (us : List ℕ) (n t : ℕ) (l : List Thread) → Same (get_or l t idle_thread) (get_or (wake_from e us n l) t idle_thread)
wake_same e us n t [] = same_refl idle_thread
wake_same e us n zero (h ∷ l) = woken_same (has n us) e h
wake_same e us n (suc t) (h ∷ l) = wake_same e us (suc n) t l

wake_long : (e : LineEffect) (us : List ℕ) (n : ℕ) (l : List Thread) → length (wake_from e us n l) ≡ length l
wake_long e us n [] = refl
wake_long e us n (h ∷ l) = ap suc (wake_long e us (suc n) l)

wake_alike : (e : LineEffect) (us : List ℕ) (l : List Thread) → Alike l (wake_from e us 0 l)
wake_alike e us l = record { long! = wake_long e us 0 l; same! = λ t. wake_same e us 0 t l }

-- the nub with the same sizes and such records
pub record Follows (k k' : Core) : Type 0 where
  pub sizes! : k'.sizes ≡ k.sizes
  pub alike! : Alike k.threads k'.threads

freed_follows : (e : LineEffect) (o : Option ℕ) (us : List ℕ) (k : Core) → Follows k (freed_in e o us k)
freed_follows wake_gate o us k = record { sizes! = refl; alike! = wake_alike wake_gate us k.threads }
freed_follows signal_one (some c) us k = record { sizes! = refl; alike! = wake_alike signal_one us k.threads }
freed_follows signal_all (some c) us k = record { sizes! = refl; alike! = wake_alike signal_all us k.threads }
freed_follows e o us k = record { sizes! = refl; alike! = alike_refl k.threads }

pub performed_follows : (K : Kind) (s : Step) (t : ℕ) (c : Option Call) (k : Core) (f : K.State) → Follows k (performed K s t c k f).core
performed_follows K s t c k f =
    let a = alert_alike s.flag (alerted_of c) k.threads in
    let b = freed_follows s.line (condition_of c) (taken_in K s.line (line_in s.line c) f) (applied s t c k) in
    record {
      sizes! = b.sizes!;
      alike! = record {
        long! = b.alike!.long! ∙ a.long!;
        same! = λ u. record { call! = (b.alike!.same! u).call! ∙ (a.same! u).call!; busy! = λ h. (b.alike!.same! u).busy! ((a.same! u).busy! h) };
      };
    }
