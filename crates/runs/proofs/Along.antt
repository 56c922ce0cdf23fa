-- A run, entry by entry.
use Rattle.std.proofs.Common.{◌≡◌, ℕ, ◌<◌, ◌≤◌, Bool, true, false, cond, ◌&&◌, leb, ◌⊎◌, List, [], ◌∷◌, ◌++◌, get_or, replicate, Some as some, None as none, Option, sym, refl, ap, ◌∙◌, subst, inl, inr, arith}
use lib.ListN.{get_or-replicate, length-replicate}
use Rattle.lines.specs.Kinds.{Kind as LineKind, Laws}
use Rattle.thread.specs.Turns.{idle_thread, state_of}
use Rattle.thread.specs.declared.record.Thread.{Thread}
use Rattle.nub.specs.declared.Core.{Core}
use Rattle.nub.specs.Model.{NubState, after, answer, built}
use Rattle.nub.specs.Places.{at_line}
use Rattle.nub.specs.View.{by_line, view, picks}
use Rattle.runs.proofs.Forms.{Full, Sized}
use Rattle.stages.proofs.Finite.{and_l, and_r}
use Rattle.runs.proofs.Lists.{lt_or}
use Rattle.runs.proofs.Small.{to_t}
use Rattle.lines.specs.Lines.{Sound as LineSound}
use Rattle.nub.specs.declared.Event.{Event}
use Rattle.nub.specs.declared.Answer.{Answer}
use Rattle.nub.specs.declared.Sizes.{Sizes}
use Rattle.nub.specs.Turn.{moves}
use Rattle.nub.specs.Build.{built_core, built_sizes, least_sizes, sizes_fit}
use Rattle.runs.proofs.Bound.{Sound, built_sound, after_sound}
use Rattle.runs.proofs.Bridge.{nub_path, picks_ok}
use Rattle.std.proofs.lemmas.List.{get_or_past}
use Rattle.runs.specs.Published.{Published, start, Right, fed}
use Rattle.runs.specs.Replay.{Accepted, published, Conformed, Ran, ran}
use Rattle.runs.proofs.Read.{read_all}
use Rattle.runs.proofs.Main.{Moves, at_end}
use Rattle.runs.proofs.Entered.{Entered, entered}
use Rattle.runs.proofs.Main

pub record Along (K : LineKind) (es : List Event) (as' : List Answer) (k : Core) (f : K.State) : Type 0 where
  pub accepted : Accepted start es as'
  pub reads : published start es as' ≡ read_all (view K k f)
  pub sound : Sound (view K k f)
  pub full : Full k
  pub fit : Sized K.serves k.sizes

accepted_more : (p : Published) (es : List Event) (as' : List Answer) (e : Event) (a : Answer) → Accepted p es as' → Right (published p es as') e a → Accepted p (es ++ (e ∷ [])) (as' ++ (a ∷ []))
accepted_more p [] [] e a h r = (r, tt)
accepted_more p [] (b ∷ as') e a h r = absurd h
accepted_more p (d ∷ es) [] e a h r = absurd h
accepted_more p (d ∷ es) (b ∷ as') e a h r = (h.0, accepted_more (fed p d b) es as' e a h.1 r)

published_more : (p : Published) (es : List Event) (as' : List Answer) (e : Event) (a : Answer) → Accepted p es as' → published p (es ++ (e ∷ [])) (as' ++ (a ∷ [])) ≡ fed (published p es as') e a
published_more p [] [] e a h = refl
published_more p [] (b ∷ as') e a h = absurd h
published_more p (d ∷ es) [] e a h = absurd h
published_more p (d ∷ es) (b ∷ as') e a h = published_more (fed p d b) es as' e a h.1

pub along_more : (K : LineKind) → Laws K → (es : List Event) (as' : List Answer) (k : Core) (f : K.State) (e : Event) → LineSound K.serves (K.line f) → Along K es as' k f
    → Along K (es ++ (e ∷ [])) (as' ++ ((moves K k f e).answer ∷ [])) (moves K k f e).core (moves K k f e).lines
along_more K laws es as' k f e ls h =
    record {
      accepted = accepted_more start es as' e (moves K k f e).answer h.accepted (subst (λ (a : Answer). Right (published start es as') e a) (sym n.answer!) (subst (λ (p : Published). Right p e (answer S e (picks K f))) (sym h.reads) m.right!));
      reads =
          published_more start es as' e (moves K k f e).answer h.accepted
          ∙ ap (λ (p : Published). fed p e (moves K k f e).answer) h.reads ∙ ap (fed (read_all S) e) n.answer! ∙ m.reads! ∙ ap read_all (sym n.after!);
      sound = subst Sound (sym n.after!) (after_sound S e (picks K f) h.fit.threads! h.sound (picks_ok K laws k f));
      full = n.full!;
      fit = subst (Sized K.serves) (sym n.sizes!) h.fit;
    }
  where
    S : NubState
    S = view K k f

    n : Entered K k f e (moves K k f e)
    n = entered K laws k f h.full ls h.fit h.sound e

    m : Moves (read_all S) S e (answer S e (picks K f)) (after S e (picks K f))
    m = Rattle.runs.proofs.Main.moves S e (picks K f) h.sound.inv (picks_ok K laws k f)

pub along_next : (K : LineKind) → Laws K → (es es' : List Event) (as' as'' : List Answer) (k k' : Core) (f f' : K.State) (e : Event) (a : Answer) → LineSound K.serves (K.line f) → Along K es as' k f
    → es' ≡ es ++ (e ∷ []) → as'' ≡ as' ++ (a ∷ []) → a ≡ (moves K k f e).answer → k' ≡ (moves K k f e).core → f' ≡ (moves K k f e).lines → Along K es' as'' k' f'
along_next K laws es es' as' as'' k k' f f' e a ls h p q r u v =
    subst (λ (x : List Event). Along K x as'' k' f') (sym p)
    (subst (λ (x : List Answer). Along K (es ++ (e ∷ [])) x k' f') (sym (q ∙ ap (λ (y : Answer). as' ++ (y ∷ [])) r))
    (subst (λ (x : Core). Along K (es ++ (e ∷ [])) (as' ++ ((moves K k f e).answer ∷ [])) x f') (sym u)
    (subst (λ (x : K.State). Along K (es ++ (e ∷ [])) (as' ++ ((moves K k f e).answer ∷ [])) (moves K k f e).core x) (sym v) (along_more K laws es as' k f e ls h))))

more : (K : LineKind) → Ran K → Event → Ran K
more K r e = record { answers = r.answers ++ ((moves K r.core r.lines e).answer ∷ []); core = (moves K r.core r.lines e).core; lines = (moves K r.core r.lines e).lines }

ran_more : (K : LineKind) (k : Core) (f : K.State) (es : List Event) (e : Event) → ran K k f (es ++ (e ∷ [])) ≡ more K (ran K k f es) e
unfolding more
ran_more K k f [] e = refl
ran_more K k f (d ∷ es) e = ap (λ (r : Ran K). record { answers = (moves K k f d).answer ∷ r.answers; core = r.core; lines = r.lines }) (ran_more K (moves K k f d).core (moves K k f d).lines es e)

pub ran_next : (K : LineKind) (k₀ : Core) (f₀ : K.State) (es es' : List Event) (as' as'' : List Answer) (k k' : Core) (f f' : K.State) (e : Event) (a : Answer)
    → ran K k₀ f₀ es ≡ record { answers = as'; core = k; lines = f }
    → es' ≡ es ++ (e ∷ []) → as'' ≡ as' ++ (a ∷ []) → a ≡ (moves K k f e).answer → k' ≡ (moves K k f e).core → f' ≡ (moves K k f e).lines → ran K k₀ f₀ es' ≡ record { answers = as''; core = k'; lines = f' }
unfolding more
ran_next K k₀ f₀ es es' as' as'' k k' f f' e a h p q r u v =
    ap (ran K k₀ f₀) p ∙ ran_more K k₀ f₀ es e ∙ ap (λ (x : Ran K). more K x e) h ∙ last
  where
    whole : as'' ≡ as' ++ ((moves K k f e).answer ∷ [])
    whole = q ∙ ap (λ (y : Answer). as' ++ (y ∷ [])) r

    last : ◌≡◌ {A = Ran K} (record { answers = as' ++ ((moves K k f e).answer ∷ []); core = (moves K k f e).core; lines = (moves K k f e).lines }) (record { answers = as''; core = k'; lines = f' })
    last = λ i. record { answers = sym whole i; core = sym u i; lines = sym v i }

pub along_end : (K : LineKind) (es : List Event) (as' : List Answer) (k : Core) (f : K.State) → Along K es as' k f → Conformed K es as' k f
along_end K es as' k f h = record { accepted = h.accepted; reading = subst (λ (p : Published). Rattle.runs.specs.Reading.Holds p (view K k f)) (sym h.reads) (at_end (view K k f) h.sound.inv); marked = record { fitting = h.sound.inv.fit; standing = h.sound.inv.stood; spinning = h.sound.inv.spun } }

-- a new nub
same_all : {A : Type 0} (d : A) (m u : ℕ) → get_or (replicate m d) u d ≡ d
same_all d m u = go (lt_or u m)
  where
    go : (u < m) ⊎ (m ≤ u) → get_or (replicate m d) u d ≡ d
    go (inl h) = get_or-replicate m u d d h
    go (inr h) = get_or_past (replicate m d) u d (subst (λ (z : ℕ). z ≤ u) (sym (length-replicate m d)) h)

counts_low : (n i : ℕ) → n ≤ 4294967295 → get_or (replicate 16 n) i 0 ≤ 4294967295
counts_low n i b = go (lt_or i 16)
  where
    go : (i < 16) ⊎ (16 ≤ i) → get_or (replicate 16 n) i 0 ≤ 4294967295
    go (inl h) = subst (λ (z : ℕ). z ≤ 4294967295) (sym (get_or-replicate 16 i n 0 h)) b
    go (inr h) = subst (λ (z : ℕ). z ≤ 4294967295) (sym (get_or_past (replicate 16 n) i 0 (subst (λ (z : ℕ). z ≤ i) (sym (length-replicate 16 n)) h))) (omega arith)

view_built : (K : LineKind) (z : Sizes) (n : ℕ) (f : K.State) → ((l : ℕ) → K.line f l ≡ [])
    → view K (built_core z n) f ≡ built z.threads z.mutexes z.conditions z.semaphores (λ i. get_or (replicate 16 n) i 0)
view_built K z n f h =
    nub_path (view K (built_core z n) f) (built z.threads z.mutexes z.conditions z.semaphores (λ i. get_or (replicate 16 n) i 0)) refl refl refl refl
    (λ u. ap state_of (same_all idle_thread 64 u)) (λ u. ap (λ (x : Thread). x.alert) (same_all idle_thread 64 u))
    (λ o. no_members (at_line o)) (λ o. no_bits (at_line o)) (λ m. same_all none 16 m) (λ i. refl) refl
  where
    no_members : (o : Option ℕ) → by_line [] (K.line f) o ≡ []
    no_members none = refl
    no_members (some l) = h l

    no_bits : (o : Option ℕ) → by_line false (λ m. get_or (replicate 32 false) m false) o ≡ false
    no_bits none = refl
    no_bits (some l) = same_all false 32 l

pub along_none : (K : LineKind) (k : Core) (z : Sizes) (n : ℕ) (f : K.State) → k ≡ built_core z n → n ≤ 4294967295 → Sized K.serves z → ((l : ℕ) → K.line f l ≡ []) → Along K [] [] k f
along_none K k z n f e b s h = subst (λ (x : Core). Along K [] [] x f) (sym e) (fresh z s)
  where
    fresh : (z : Sizes) → Sized K.serves z → Along K [] [] (built_core z n) f
    fresh z s =
        record {
          accepted = tt;
          reads = ap read_all (sym (view_built K z n f h));
          sound = subst Sound (sym (view_built K z n f h)) (built_sound z.threads z.mutexes z.conditions z.semaphores (λ i. get_or (replicate 16 n) i 0) (λ i. counts_low n i b));
          full = record { threads! = length-replicate 64 idle_thread; bits! = length-replicate 32 false; owners! = length-replicate {A = Option ℕ} 16 none; counts! = length-replicate 16 n };
          fit = s;
        }

-- what build makes
pub built_sized : (serves : ℕ) (z : Sizes) → (1 ≤ serves) × (serves ≤ 64) → Sized serves (built_sizes serves z)
built_sized serves z o = go (sizes_fit serves z) refl
  where
    le : (a b : ℕ) → leb a b ≡ true → a ≤ b
    le a b h = lib.Dec.leb→le a b (to_t (leb a b) h)

    go : (b : Bool) → sizes_fit serves z ≡ b → Sized serves (cond b z least_sizes)
    go true h =
        let h3 = and_l (leb 1 z.threads && leb z.threads serves && leb z.mutexes 16 && leb z.conditions 16) (leb z.semaphores 16) h in
        let h2 = and_l (leb 1 z.threads && leb z.threads serves && leb z.mutexes 16) (leb z.conditions 16) h3 in
        let h1 = and_l (leb 1 z.threads && leb z.threads serves) (leb z.mutexes 16) h2 in
        let t : z.threads ≤ serves = le z.threads serves (and_r (leb 1 z.threads) (leb z.threads serves) h1) in
        record {
          served! = t;
          threads! = let q : serves ≤ 64 = o.1 in omega arith;
          mutexes! = le z.mutexes 16 (and_r (leb 1 z.threads && leb z.threads serves) (leb z.mutexes 16) h2);
          conditions! = le z.conditions 16 (and_r (leb 1 z.threads && leb z.threads serves && leb z.mutexes 16) (leb z.conditions 16) h3);
          semaphores! = le z.semaphores 16 (and_r (leb 1 z.threads && leb z.threads serves && leb z.mutexes 16 && leb z.conditions 16) (leb z.semaphores 16) h);
        }
    go false h = record { served! = o.0; threads! = omega arith; mutexes! = omega arith; conditions! = omega arith; semaphores! = omega arith }
