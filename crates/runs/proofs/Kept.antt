-- Lines of any kind stay sound, by the laws alone; so a run conforms over any kind that keeps them.
use Rattle.std.proofs.Common.{◌≡◌, ℕ, zero, suc, ◌<◌, ◌≤◌, Bool, true, false, cond, not, ◌||◌, eqb, ltb, ◌⊎◌, List, [], ◌∷◌, ◌++◌, length, Some as some, None as none, Ok, Err, Option, Result, sym, refl, ap, ◌∙◌, subst, inl, inr, append_assoc, append-nil, arith}
use Rattle.std.proofs.lemmas.Bool.{ltb-true, and_from, eqb-true, not-true, not_from_false}
use Rattle.lines.specs.Lines.{has, put, minus, Lines, Sound as LineSound, lines, stands, distinct, after as after_in, without as without1}
use Rattle.lines.specs.Kinds.{Kind as LineKind, Laws}
use Rattle.thread.specs.Turns.{step_after}
use Rattle.stages.specs.declared.step.Step.{Step}
use Rattle.stages.specs.declared.step.LineEffect.{LineEffect}
use Rattle.stages.specs.declared.step.LineEffect.TheVariants.{Keep as keep_line, JoinGate as join_gate, LeaveGate as leave_gate, JoinCondition as join_cond, LeaveCondition as leave_cond, WakeGate as wake_gate, SignalOne as signal_one, SignalAll as signal_all}
use Rattle.nub.specs.declared.Core.{Core}
use Rattle.nub.specs.Work.{thread_at, worked_in}
use Rattle.nub.specs.Turn.{row_done, sight_of, refused, steps, moves}
use Rattle.nub.specs.Places.{line_in}
use Rattle.nub.specs.declared.Decline.TheVariants.{NoThread}
use Rattle.runs.specs.Granted.{AllGranted}
use Rattle.runs.proofs.Entered.{entered, event_granted}
use Rattle.nub.specs.Build.{built_sizes}
use Rattle.stages.proofs.Finite.{no, and_l, and_r}
use Rattle.runs.proofs.Small.{clash, elem_join}
use Rattle.nub.specs.declared.Event.{Event}
use Rattle.nub.specs.declared.Event.TheVariants.{Submission as submission, Turn as turn}
use Rattle.nub.specs.declared.Answer.{Answer}
use Rattle.nub.specs.Build.{built_core}
use Rattle.lines.specs.declared.decline.Decline.{Decline}
use Rattle.lines.specs.declared.decline.Decline.TheVariants.{NoSuchLine, NotServed, AlreadyInSet, NotInLine}
use Rattle.nub.specs.Lining.{add_in, remove_in, take_in, drained, drain_in}
use Rattle.runs.specs.Replay.{ran, Ruled, RunsOver}
use Rattle.runs.proofs.Lined.{distinct_less}
use Rattle.runs.proofs.Along.{Along, built_sized, along_none, along_more, along_end}

shrunk : (n : ℕ) (f g : Lines) → LineSound n f → ((l : ℕ) → distinct (g l) ≡ true) → ((l t : ℕ) → has t (g l) ≡ true → has t (f l) ≡ true) → LineSound n g
shrunk n f g s d h =
    record { once = d; one_line = λ l k t p q. s.one_line l k t (h l t p) (h k t q); served = λ l t p. s.served l t (h l t p); inside = λ l t p. s.inside l t (h l t p) }

put_small : (n : ℕ) (f : Lines) (l : ℕ) (xs : List ℕ) → LineSound n f → distinct xs ≡ true → ((t : ℕ) → has t xs ≡ true → has t (f l) ≡ true) → LineSound n (put f l xs)
put_small n f l xs s d h = shrunk n f (put f l xs) s (λ k. one k (eqb l k)) (λ k t. two k t (eqb l k) refl)
  where
    one : (k : ℕ) (b : Bool) → distinct (cond b xs (f k)) ≡ true
    one k true = d
    one k false = s.once k

    two : (k t : ℕ) (b : Bool) → eqb l k ≡ b → has t (cond b xs (f k)) ≡ true → has t (f k) ≡ true
    two k t true e p = subst (λ (z : ℕ). has t (f z) ≡ true) (eqb-true l k e) (h t p)
    two k t false e p = p

distinct_join : (t : ℕ) (xs : List ℕ) → distinct xs ≡ true → has t xs ≡ false → distinct (xs ++ (t ∷ [])) ≡ true
distinct_join t [] d h = refl
distinct_join t (x ∷ xs) d h =
    and_from (not (has x (xs ++ (t ∷ [])))) (distinct (xs ++ (t ∷ []))) (not_from_false (has x (xs ++ (t ∷ []))) (elem_join x t xs ∙ both (has x xs) (eqb t x) (not-true (has x xs) (and_l (not (has x xs)) (distinct xs) d)) (other (eqb x t) (has t xs) h)))
    (distinct_join t xs (and_r (not (has x xs)) (distinct xs) d) (right (eqb x t) (has t xs) h))
  where
    both : (a b : Bool) → a ≡ false → b ≡ false → (a || b) ≡ false
    both true b p q = p
    both false b p q = q

    left : (a b : Bool) → (a || b) ≡ false → a ≡ false
    left true b p = p
    left false b p = refl

    right : (a b : Bool) → (a || b) ≡ false → b ≡ false
    right true b p = no (sym p)
    right false b p = p

    turned_round : eqb x t ≡ false → eqb t x ≡ false
    turned_round p = grind arith

    other : (a b : Bool) → (eqb x t || has t xs) ≡ false → eqb t x ≡ false
    other a b p = turned_round (left (eqb x t) (has t xs) p)

-- where u stands after t joined line l
joined : (f : Lines) (l t k u : ℕ) → has u (put f l (f l ++ (t ∷ [])) k) ≡ true → (has u (f k) ≡ true) ⊎ ((l ≡ k) × (t ≡ u))
joined f l t k u h = go (eqb l k) refl h
  where
    last : (a b : Bool) → has u (f l) ≡ a → eqb t u ≡ b → (a || b) ≡ true → (has u (f l) ≡ true) ⊎ (t ≡ u)
    last true b p q e = inl p
    last false true p q e = inr (eqb-true t u q)
    last false false p q e = no e

    move : l ≡ k → (has u (f l) ≡ true) ⊎ (t ≡ u) → (has u (f k) ≡ true) ⊎ ((l ≡ k) × (t ≡ u))
    move e (inl p) = inl (subst (λ (z : ℕ). has u (f z) ≡ true) e p)
    move e (inr q) = inr (e, q)

    go : (b : Bool) → eqb l k ≡ b → has u (cond b (f l ++ (t ∷ [])) (f k)) ≡ true → (has u (f k) ≡ true) ⊎ ((l ≡ k) × (t ≡ u))
    go true e p = move (eqb-true l k e) (last (has u (f l)) (eqb t u) refl refl (sym (elem_join u t (f l)) ∙ p))
    go false e p = inl p

put_more : (n : ℕ) (f : Lines) (l t : ℕ) → LineSound n f → l < 48 → t < n → ((k : ℕ) → has t (f k) ≡ false) → LineSound n (put f l (f l ++ (t ∷ [])))
put_more n f l t s low fit none_yet =
    record {
      once = λ k. one k (eqb l k);
      one_line = λ k m u p q. two k m u (joined f l t k u p) (joined f l t m u q);
      served = λ k u p. three k u (joined f l t k u p);
      inside = λ k u p. four k u (joined f l t k u p);
    }
  where
    one : (k : ℕ) (b : Bool) → distinct (cond b (f l ++ (t ∷ [])) (f k)) ≡ true
    one k true = distinct_join t (f l) (s.once l) (none_yet l)
    one k false = s.once k

    never : {A : Type 0} (k u : ℕ) → t ≡ u → has u (f k) ≡ true → A
    never k u e p = clash (subst (λ (z : ℕ). has z (f k) ≡ true) (sym e) p) (none_yet k)

    two : (k m u : ℕ) → (has u (f k) ≡ true) ⊎ ((l ≡ k) × (t ≡ u)) → (has u (f m) ≡ true) ⊎ ((l ≡ m) × (t ≡ u)) → k ≡ m
    two k m u (inl p) (inl q) = s.one_line k m u p q
    two k m u (inl p) (inr q) = never k u q.1 p
    two k m u (inr p) (inl q) = never m u p.1 q
    two k m u (inr p) (inr q) = sym p.0 ∙ q.0

    three : (k u : ℕ) → (has u (f k) ≡ true) ⊎ ((l ≡ k) × (t ≡ u)) → u < n
    three k u (inl p) = s.served k u p
    three k u (inr p) = subst (λ (z : ℕ). z < n) p.1 fit

    four : (k u : ℕ) → (has u (f k) ≡ true) ⊎ ((l ≡ k) × (t ≡ u)) → k < lines
    four k u (inl p) = s.inside k u p
    four k u (inr p) = subst (λ (z : ℕ). z < lines) p.0 low

not_standing : (f : Lines) (t n : ℕ) → stands n f t ≡ false → (k : ℕ) → k < n → has t (f k) ≡ false
unfolding stands
not_standing f t zero h k p = let z : ⊥ = omega arith in absurd z
not_standing f t (suc n) h k p = go (eqb k n) refl (λ q. not_standing f t n (right (has t (f n)) (stands n f t) h) k q)
  where
    left : (a b : Bool) → (a || b) ≡ false → a ≡ false
    left true b e = e
    left false b e = refl

    right : (a b : Bool) → (a || b) ≡ false → b ≡ false
    right true b e = no (sym e)
    right false b e = e

    less : eqb k n ≡ false → k < n
    less e = grind arith

    go : (b : Bool) → eqb k n ≡ b → (k < n → has t (f k) ≡ false) → has t (f k) ≡ false
    go true e ih = subst (λ (z : ℕ). has t (f z) ≡ false) (sym (eqb-true k n e)) (left (has t (f n)) (stands n f t) h)
    go false e ih = ih (less e)

nowhere_at_all : (n : ℕ) (f : Lines) (t : ℕ) → LineSound n f → stands lines f t ≡ false → (k : ℕ) → has t (f k) ≡ false
nowhere_at_all n f t s h k = go (has t (f k)) refl
  where
    go : (b : Bool) → has t (f k) ≡ b → has t (f k) ≡ false
    go true p = not_standing f t lines h k (s.inside k t p)
    go false p = p

had : (t u : ℕ) (xs : List ℕ) → has u (without1 t xs) ≡ true → has u xs ≡ true
had t u [] h = h
had t u (x ∷ xs) h = go (eqb x t) (eqb x u) refl h (λ e. had t u xs e)
  where
    go : (a b : Bool) → eqb x u ≡ b → has u (cond a (without1 t xs) (x ∷ without1 t xs)) ≡ true → (has u (without1 t xs) ≡ true → has u xs ≡ true) → (b || has u xs) ≡ true
    go a true q e ih = refl
    go true false q e ih = ih e
    go false false q e ih = ih (ap (λ (b : Bool). b || has u (without1 t xs)) (sym q) ∙ e)

module _ (K : LineKind) (laws : Laws K) where
  kept_take : (f : K.State) (l : ℕ) → LineSound K.serves (K.line f) → LineSound K.serves (K.line (K.taken f l))
  kept_take f l s = subst (LineSound K.serves) (sym (laws.after_take f l)) (put_small K.serves (K.line f) l (minus (K.next f l) (K.line f l)) s (one (K.next f l)) (two (K.next f l)))
    where
      one : (o : Option ℕ) → distinct (minus o (K.line f l)) ≡ true
      one none = s.once l
      one (some t) = distinct_less t (K.line f l) (s.once l)

      two : (o : Option ℕ) (t : ℕ) → has t (minus o (K.line f l)) ≡ true → has t (K.line f l) ≡ true
      two none t p = p
      two (some w) t p = had w t (K.line f l) p

  kept_drained : (l n : ℕ) (f : K.State) → LineSound K.serves (K.line f) → LineSound K.serves (K.line (drained K l n f))
  kept_drained l zero f s = kept_take f l s
  kept_drained l (suc n) f s = kept_drained l n (K.taken f l) (kept_take f l s)

  kept_add : (f : K.State) (l t : ℕ) → LineSound K.serves (K.line f) → LineSound K.serves (K.line (add_in K f l t))
  kept_add f l t s = go (ltb l lines) (ltb t K.serves) (stands lines (K.line f) t) refl refl refl
    where
      go : (a b c : Bool) → ltb l lines ≡ a → ltb t K.serves ≡ b → stands lines (K.line f) t ≡ c
          → LineSound K.serves (K.line (after_in (cond {A = Result (Unit {0}) Decline} a (cond b (cond c (Err AlreadyInSet) (Ok tt)) (Err NotServed)) (Err NoSuchLine)) (K.added f l t) f))
      go true true false p q r =
          subst (LineSound K.serves) (sym (laws.after_add f l t))
          (put_more K.serves (K.line f) l t s (ltb-true l lines p) (ltb-true t K.serves q) (nowhere_at_all K.serves (K.line f) t s r))
      go true true true p q r = s
      go true false c p q r = s
      go false b c p q r = s

  kept_remove : (f : K.State) (l t : ℕ) → LineSound K.serves (K.line f) → LineSound K.serves (K.line (remove_in K f l t))
  kept_remove f l t s = go (ltb l lines) (ltb t K.serves) (has t (K.line f l))
    where
      go : (a b c : Bool) → LineSound K.serves (K.line (after_in (cond {A = Result (Unit {0}) Decline} a (cond b (cond c (Ok tt) (Err NotInLine)) (Err NotServed)) (Err NoSuchLine)) (K.removed f l t) f))
      go true true true =
          subst (LineSound K.serves) (sym (laws.after_remove f l t))
          (put_small K.serves (K.line f) l (without1 t (K.line f l)) s (distinct_less t (K.line f l) (s.once l)) (λ u p. had t u (K.line f l) p))
      go true true false = s
      go true false c = s
      go false b c = s

  kept_take_in : (f : K.State) (l : ℕ) → LineSound K.serves (K.line f) → LineSound K.serves (K.line (take_in K f l))
  kept_take_in f l s = go (ltb l lines)
    where
      go : (a : Bool) → LineSound K.serves (K.line (after_in (cond {A = Result (Option ℕ) Decline} a (Ok (K.next f l)) (Err NoSuchLine)) (K.taken f l) f))
      go true = kept_take f l s
      go false = s

  kept_drain : (f : K.State) (l : ℕ) → LineSound K.serves (K.line f) → LineSound K.serves (K.line (drain_in K f l))
  kept_drain f l s = go (ltb l lines)
    where
      go : (a : Bool) → LineSound K.serves (K.line (cond a (drained K l (length (K.line f l)) f) f))
      go true = kept_drained l (length (K.line f l)) f s
      go false = s

  kept_worked : (e : LineEffect) (z : Option ℕ) (f : K.State) (t : ℕ) → LineSound K.serves (K.line f) → LineSound K.serves (K.line (worked_in K e z f t))
  kept_worked keep_line z f t s = s
  kept_worked join_gate none f t s = s
  kept_worked join_gate (some l) f t s = kept_add f l t s
  kept_worked leave_gate none f t s = s
  kept_worked leave_gate (some l) f t s = kept_remove f l t s
  kept_worked join_cond none f t s = s
  kept_worked join_cond (some l) f t s = kept_add f l t s
  kept_worked leave_cond none f t s = s
  kept_worked leave_cond (some l) f t s = kept_remove f l t s
  kept_worked wake_gate none f t s = s
  kept_worked wake_gate (some l) f t s = kept_take_in f l s
  kept_worked signal_one none f t s = s
  kept_worked signal_one (some l) f t s = kept_take_in f l s
  kept_worked signal_all none f t s = s
  kept_worked signal_all (some l) f t s = kept_drain f l s

  kept_moves : (k : Core) (f : K.State) (e : Event) → LineSound K.serves (K.line f) → LineSound K.serves (K.line (moves K k f e).lines)
  kept_moves k f (submission t n a b) s = s
  kept_moves k f (turn t) s = go (ltb t k.sizes.threads)
    where
      step : (o : Option Step) → LineSound K.serves (K.line (steps K o t (thread_at k t).call k (row_done k t (sight_of K k f t)) f).lines)
      step none = s
      step (some x) = kept_worked x.line (line_in x.line (thread_at k t).call) f t s

      go : (a : Bool) → LineSound K.serves (K.line (cond a (steps K (step_after (thread_at k t) (sight_of K k f t)) t (thread_at k t).call k (row_done k t (sight_of K k f t)) f) (refused K NoThread k f)).lines)
      go true = step (step_after (thread_at k t) (sight_of K k f t))
      go false = s

  granted_run : (es : List Event) (es₀ : List Event) (as₀ : List Answer) (k : Core) (f : K.State) → LineSound K.serves (K.line f) → Along K es₀ as₀ k f → AllGranted K k f es
  granted_run [] es₀ as₀ k f s h = tt
  granted_run (e ∷ es) es₀ as₀ k f s h = (
    event_granted K laws k f h.full s h.fit h.sound e,
    granted_run es (es₀ ++ (e ∷ [])) (as₀ ++ ((moves K k f e).answer ∷ [])) (moves K k f e).core (moves K k f e).lines (kept_moves k f e s) (along_more K laws es₀ as₀ k f e s h),
  )

  ruled_run : (es : List Event) (es₀ : List Event) (as₀ : List Answer) (k : Core) (f : K.State) → LineSound K.serves (K.line f) → Along K es₀ as₀ k f → Ruled K k f es
  ruled_run [] es₀ as₀ k f s h = tt
  ruled_run (e ∷ es) es₀ as₀ k f s h =
      let n = entered K laws k f h.full s h.fit h.sound e in (
        n.answer!,
        n.after!,
        ruled_run es (es₀ ++ (e ∷ [])) (as₀ ++ ((moves K k f e).answer ∷ [])) (moves K k f e).core (moves K k f e).lines (kept_moves k f e s) (along_more K laws es₀ as₀ k f e s h),
      )

  along_run : (es' : List Event) (es : List Event) (as' : List Answer) (k : Core) (f : K.State) → LineSound K.serves (K.line f) → Along K es as' k f
      → Along K (es ++ es') (as' ++ (ran K k f es').answers) (ran K k f es').core (ran K k f es').lines
  along_run [] es as' k f s h =
      subst (λ (x : List Event). Along K x (as' ++ []) k f) (sym (append-nil es)) (subst (λ (x : List Answer). Along K es x k f) (sym (append-nil as')) h)
  along_run (e ∷ es') es as' k f s h =
      subst (λ (x : List Event). Along K x (as' ++ ((moves K k f e).answer ∷ (ran K (moves K k f e).core (moves K k f e).lines es').answers)) (ran K (moves K k f e).core (moves K k f e).lines es').core (ran K (moves K k f e).core (moves K k f e).lines es').lines)
      (append_assoc es (e ∷ []) es')
      (subst (λ (x : List Answer). Along K ((es ++ (e ∷ [])) ++ es') x (ran K (moves K k f e).core (moves K k f e).lines es').core (ran K (moves K k f e).core (moves K k f e).lines es').lines)
      (append_assoc as' ((moves K k f e).answer ∷ []) (ran K (moves K k f e).core (moves K k f e).lines es').answers)
      (along_run es' (es ++ (e ∷ [])) (as' ++ ((moves K k f e).answer ∷ [])) (moves K k f e).core (moves K k f e).lines (kept_moves k f e s) (along_more K laws es as' k f e s h)))

  empty_sound : (f : Lines) → ((l : ℕ) → f l ≡ []) → LineSound K.serves f
  empty_sound f h =
      record {
        once = λ l. ap distinct (h l);
        one_line = λ l k t p q. no (ap (has t) (sym (h l)) ∙ p);
        served = λ l t p. no (ap (has t) (sym (h l)) ∙ p);
        inside = λ l t p. no (ap (has t) (sym (h l)) ∙ p);
      }

  pub runs_over : (1 ≤ K.serves) × (K.serves ≤ 64) → RunsOver K
  runs_over o asked n f es b h = record { conformed = along_end K es _ _ _ (along_run es [] [] (built_core (built_sizes K.serves asked) n) f sound new); granted = granted_run es [] [] (built_core (built_sizes K.serves asked) n) f sound new; ruled = ruled_run es [] [] (built_core (built_sizes K.serves asked) n) f sound new }
    where
      sound : LineSound K.serves (K.line f)
      sound = empty_sound (K.line f) h

      new : Along K [] [] (built_core (built_sizes K.serves asked) n) f
      new = along_none K (built_core (built_sizes K.serves asked) n) (built_sizes K.serves asked) n f refl b (built_sized K.serves asked o) h
