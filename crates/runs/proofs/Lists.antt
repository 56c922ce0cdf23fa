-- Arrays and numbered lines, and functions of the number and of the object.
use Rattle.std.proofs.Common.{◌≡◌, ℕ, zero, suc, ◌+◌, ◌%◌, ◌^◌, ◌<◌, ◌≤◌, Bool, true, false, cond, eqb, ltb, ◌≢◌, ◌⊎◌, List, [], ◌∷◌, length, get_or, set, Some as some, None as none, Option, sym, refl, ap, ◌∙◌, subst, inl, inr, le_of_suc-le-suc, add-zero, add-suc, mod-eq_of_lt, suc-add, add-one, arith, get_or-set_other, get_or-set_same, zero-add}
use Rattle.std.proofs.lemmas.Bool.{ltb-true, ltb-false, eq-eqb, eqb-true}
use Rattle.lines.specs.Lines.{has}
use Rattle.stages.specs.Calls.{Object, same_object}
use Rattle.stages.specs.Calls.Object.{mutex, semaphore, condition}
use Rattle.thread.specs.Turns.{idle_thread, woken_thread}
use Rattle.thread.specs.declared.record.Thread.{Thread}
use Rattle.stages.specs.declared.step.LineEffect.{LineEffect}
use Rattle.stages.specs.declared.step.GateEffect.{GateEffect}
use Rattle.stages.specs.declared.step.LineEffect.TheVariants.{Keep as keep_line, JoinGate as join_gate, LeaveGate as leave_gate, JoinCondition as join_cond, LeaveCondition as leave_cond, WakeGate as wake_gate, SignalOne as signal_one, SignalAll as signal_all}
use Rattle.stages.specs.declared.step.GateEffect.TheVariants.{Keep as keep_gate, Take as take_gate, Free as free_gate}
use Rattle.nub.specs.declared.Core.{Core}
use Rattle.nub.specs.Model.{signals, bits_new, owners_new, counts_new}
use Rattle.nub.specs.Places.{line_no, in_range, at_line}
use Rattle.nub.specs.View.{by_line, by_obj}
use Rattle.nub.specs.Work.{bits_l, wake_from, count_at}
use Rattle.runs.proofs.Forms.{owners_by, freed_at}
use Rattle.runs.proofs.Small.{same_object_lem, clash}
use Rattle.runs.proofs.Agree.{is_keep_gate, wakes}
use Rattle.std.proofs.lemmas.List.{get_or_past}

-- among objects that there are, the line number tells them apart
no_same : (a b : Object) → in_range a ≡ true → in_range b ≡ true → eqb (line_no a) (line_no b) ≡ same_object a b
no_same (mutex m) (mutex n) p q = refl
no_same (mutex m) (semaphore n) p q = grind arith
no_same (mutex m) (condition n) p q = grind arith
no_same (semaphore m) (mutex n) p q = grind arith
no_same (semaphore m) (semaphore n) p q = grind arith
no_same (semaphore m) (condition n) p q = grind arith
no_same (condition m) (mutex n) p q = grind arith
no_same (condition m) (semaphore n) p q = grind arith
no_same (condition m) (condition n) p q = grind arith

pub obj_in : {A : Type 0} (d : A) (f : ℕ → A) (o : Object) → in_range o ≡ true → by_obj d f o ≡ f (line_no o)
obj_in d f o h = ap (λ (b : Bool). by_line d f (cond b (some (line_no o)) none)) h

pub at_in : (o : Object) → in_range o ≡ true → at_line o ≡ some (line_no o)
at_in o h = ap (λ (b : Bool). cond {A = Option ℕ} b (some (line_no o)) none) h

abbrev pub put_at : {A : Type 0} → (ℕ → A) → ℕ → A → ℕ → A
put_at f l a k = cond (eqb l k) a (f k)

pub view_put : {A : Type 0} (d : A) (f : ℕ → A) (l : Object) (a : A) → in_range l ≡ true → (o : Object) → by_obj d (put_at f (line_no l) a) o ≡ cond (same_object l o) a (by_obj d f o)
view_put d f l a h o = go (in_range o) (same_object l o) refl refl
  where
    go : (r e : Bool) → in_range o ≡ r → same_object l o ≡ e → by_line d (put_at f (line_no l) a) (cond r (some (line_no o)) none) ≡ cond e a (by_line d f (cond r (some (line_no o)) none))
    go true true p q = ap (λ (z : Bool). cond z a (f (line_no o))) (no_same l o h p ∙ q)
    go true false p q = ap (λ (z : Bool). cond z a (f (line_no o))) (no_same l o h p ∙ q)
    go false true p q = clash (subst (λ (z : Object). in_range z ≡ true) (same_object_lem l o q) h) p
    go false false p q = refl

-- one record of a list is set
pub list_set : {A : Type 0} (d : A) (xs : List A) (t : ℕ) (a : A) (u : ℕ) → t < length xs → get_or (set xs t a) u d ≡ cond (eqb t u) a (get_or xs u d)
list_set d xs t a u h = go (eqb t u) refl
  where
    apart : eqb t u ≡ false → u ≢ t
    apart p e = clash (eq-eqb t u (sym e)) p

    go : (b : Bool) → eqb t u ≡ b → get_or (set xs t a) u d ≡ cond b a (get_or xs u d)
    go true p = subst (λ (z : ℕ). get_or (set xs t a) z d ≡ a) (eqb-true t u p) (get_or-set_same xs t a d h)
    go false p = get_or-set_other xs t u a d (apart p)

at_view : (l : List Bool) (g : Object) (b : Bool) → in_range g ≡ true → line_no g < length l → (o : Object)
    → by_obj false (λ n. get_or (set l (line_no g) b) n false) o ≡ cond (same_object g o) b (by_obj false (λ n. get_or l n false) o)
at_view l g b r p o =
    ap (λ (f : ℕ → Bool). by_obj false f o) (λ i n. list_set false l (line_no g) b n p i)
    ∙ view_put false (λ n. get_or l n false) g b r o

pub bits_view : (e : GateEffect) (g : Object) (l : List Bool) (o : Object) → (is_keep_gate e ≡ false → in_range g ≡ true) → (is_keep_gate e ≡ false → line_no g < length l)
    → by_obj false (λ n. get_or (bits_l e (at_line g) l) n false) o ≡ bits_new e g (by_obj false (λ n. get_or l n false)) o
bits_view keep_gate g l o h p = refl
bits_view take_gate g l o h p = ap (λ (z : Option ℕ). by_obj false (λ n. get_or (bits_l take_gate z l) n false) o) (at_in g (h refl)) ∙ at_view l g true (h refl) (p refl) o
bits_view free_gate g l o h p = ap (λ (z : Option ℕ). by_obj false (λ n. get_or (bits_l free_gate z l) n false) o) (at_in g (h refl)) ∙ at_view l g false (h refl) (p refl) o

mut_low : (n : ℕ) → in_range (mutex n) ≡ true → n < 16
mut_low n h = ltb-true n 16 h

pub owners_view : (e : GateEffect) (t : ℕ) (g : Object) (l : List (Option ℕ)) (m : ℕ) → length l ≡ 16 → (is_keep_gate e ≡ false → in_range g ≡ true)
    → get_or (owners_by e t g l) m none ≡ owners_new e t g (λ n. get_or l n none) m
owners_view keep_gate t g l m q h = refl
owners_view take_gate t (mutex n) l m q h = list_set none l n (some t) m (let z : n < 16 = mut_low n (h refl) in omega arith)
owners_view take_gate t (semaphore i) l m q h = refl
owners_view take_gate t (condition c) l m q h = refl
owners_view free_gate t (mutex n) l m q h = list_set none l n none m (let z : n < 16 = mut_low n (h refl) in omega arith)
owners_view free_gate t (semaphore i) l m q h = refl
owners_view free_gate t (condition c) l m q h = refl

wake_view : (e : LineEffect) (us : List ℕ) (n : ℕ) (l : List Thread) (u : ℕ) → u < length l
    → get_or (wake_from e us n l) u idle_thread ≡ cond (has (n + u) us) (woken_thread e (get_or l u idle_thread)) (get_or l u idle_thread)
wake_view e us n [] u h = let z : ⊥ = omega arith in absurd z
wake_view e us n (x ∷ l) zero h = ap (λ (z : ℕ). cond (has z us) (woken_thread e x) x) (sym (add-zero n))
wake_view e us n (x ∷ l) (suc u) h =
    wake_view e us (suc n) l u (le_of_suc-le-suc h)
    ∙ ap (λ (z : ℕ). cond (has z us) (woken_thread e (get_or l u idle_thread)) (get_or l u idle_thread)) (suc-add n u ∙ sym (add-suc n u))

pub wake_length : (e : LineEffect) (us : List ℕ) (n : ℕ) (l : List Thread) → length (wake_from e us n l) ≡ length l
wake_length e us n [] = refl
wake_length e us n (x ∷ l) = ap suc (wake_length e us (suc n) l)

pub lt_or : (a b : ℕ) → (a < b) ⊎ (b ≤ a)
lt_or a b = go (ltb a b) refl
  where
    go : (z : Bool) → ltb a b ≡ z → (a < b) ⊎ (b ≤ a)
    go true p = inl (ltb-true a b p)
    go false p = inr (ltb-false a b p)

woken_all : (e : LineEffect) (us : List ℕ) (l : List Thread) → ((u : ℕ) → has u us ≡ true → u < length l) → (u : ℕ)
    → get_or (wake_from e us 0 l) u idle_thread ≡ cond (has u us) (woken_thread e (get_or l u idle_thread)) (get_or l u idle_thread)
woken_all e us l h u = go (lt_or u (length l))
  where
    out : length l ≤ u → (b : Bool) → has u us ≡ b → idle_thread ≡ cond b (woken_thread e (get_or l u idle_thread)) (get_or l u idle_thread)
    out q true p = let z : u < length l = h u p in let y : ⊥ = omega arith in absurd y
    out q false p = sym (get_or_past l u idle_thread q)

    go : (u < length l) ⊎ (length l ≤ u) → get_or (wake_from e us 0 l) u idle_thread ≡ cond (has u us) (woken_thread e (get_or l u idle_thread)) (get_or l u idle_thread)
    go (inl p) = wake_view e us 0 l u p ∙ ap (λ (z : ℕ). cond (has z us) (woken_thread e (get_or l u idle_thread)) (get_or l u idle_thread)) (zero-add u)
    go (inr q) =
        get_or_past (wake_from e us 0 l) u idle_thread (subst (λ (z : ℕ). z ≤ u) (sym (wake_length e us 0 l)) q)
        ∙ out q (has u us) refl

up_one : (n : ℕ) → n < 4294967295 → (n + 1) % 2 ^ 32 ≡ suc n
up_one n h = let z : n + 1 < 2 ^ 32 = omega arith in mod-eq_of_lt z ∙ add-one n

-- whom a row takes: the core by its parts
module _ (c : ℕ) (us : List ℕ) (k : Core) where
  pub freed_bits : (e : LineEffect) → (freed_at e c us k).bits ≡ k.bits
  freed_bits keep_line = refl
  freed_bits join_gate = refl
  freed_bits leave_gate = refl
  freed_bits join_cond = refl
  freed_bits leave_cond = refl
  freed_bits wake_gate = refl
  freed_bits signal_one = refl
  freed_bits signal_all = refl

  pub freed_owners : (e : LineEffect) → (freed_at e c us k).owners ≡ k.owners
  freed_owners keep_line = refl
  freed_owners join_gate = refl
  freed_owners leave_gate = refl
  freed_owners join_cond = refl
  freed_owners leave_cond = refl
  freed_owners wake_gate = refl
  freed_owners signal_one = refl
  freed_owners signal_all = refl

  pub freed_spin : (e : LineEffect) → (freed_at e c us k).spin ≡ k.spin
  freed_spin keep_line = refl
  freed_spin join_gate = refl
  freed_spin leave_gate = refl
  freed_spin join_cond = refl
  freed_spin leave_cond = refl
  freed_spin wake_gate = refl
  freed_spin signal_one = refl
  freed_spin signal_all = refl

  pub freed_sizes : (e : LineEffect) → (freed_at e c us k).sizes ≡ k.sizes
  freed_sizes keep_line = refl
  freed_sizes join_gate = refl
  freed_sizes leave_gate = refl
  freed_sizes join_cond = refl
  freed_sizes leave_cond = refl
  freed_sizes wake_gate = refl
  freed_sizes signal_one = refl
  freed_sizes signal_all = refl

  pub freed_threads : (e : LineEffect) → (wakes e ≡ false → us ≡ []) → ((u : ℕ) → has u us ≡ true → u < length k.threads) → (u : ℕ)
      → get_or (freed_at e c us k).threads u idle_thread ≡ cond (has u us) (woken_thread e (get_or k.threads u idle_thread)) (get_or k.threads u idle_thread)
  freed_threads keep_line n h u = sym (ap (λ (z : List ℕ). cond (has u z) (woken_thread keep_line (get_or k.threads u idle_thread)) (get_or k.threads u idle_thread)) (n refl))
  freed_threads join_gate n h u = sym (ap (λ (z : List ℕ). cond (has u z) (woken_thread join_gate (get_or k.threads u idle_thread)) (get_or k.threads u idle_thread)) (n refl))
  freed_threads leave_gate n h u = sym (ap (λ (z : List ℕ). cond (has u z) (woken_thread leave_gate (get_or k.threads u idle_thread)) (get_or k.threads u idle_thread)) (n refl))
  freed_threads join_cond n h u = sym (ap (λ (z : List ℕ). cond (has u z) (woken_thread join_cond (get_or k.threads u idle_thread)) (get_or k.threads u idle_thread)) (n refl))
  freed_threads leave_cond n h u = sym (ap (λ (z : List ℕ). cond (has u z) (woken_thread leave_cond (get_or k.threads u idle_thread)) (get_or k.threads u idle_thread)) (n refl))
  freed_threads wake_gate n h u = woken_all wake_gate us k.threads h u
  freed_threads signal_one n h u = woken_all signal_one us k.threads h u
  freed_threads signal_all n h u = woken_all signal_all us k.threads h u

  signalled : c < length k.counts → count_at k c < 4294967295 → (i : ℕ) → get_or (set k.counts c ((count_at k c + 1) % 2 ^ 32)) i 0 ≡ cond (eqb c i) (suc (get_or k.counts i 0)) (get_or k.counts i 0)
  signalled h b i = list_set 0 k.counts c ((count_at k c + 1) % 2 ^ 32) i h ∙ same (eqb c i) refl
    where
      same : (z : Bool) → eqb c i ≡ z → cond z ((count_at k c + 1) % 2 ^ 32) (get_or k.counts i 0) ≡ cond z (suc (get_or k.counts i 0)) (get_or k.counts i 0)
      same true p = up_one (count_at k c) b ∙ ap (λ (x : ℕ). suc (get_or k.counts x 0)) (eqb-true c i p)
      same false p = refl

  pub freed_counts : (e : LineEffect) → (signals e ≡ true → c < length k.counts) → (signals e ≡ true → count_at k c < 4294967295) → (i : ℕ)
      → get_or (freed_at e c us k).counts i 0 ≡ counts_new e c (λ n. get_or k.counts n 0) i
  freed_counts keep_line h b i = refl
  freed_counts join_gate h b i = refl
  freed_counts leave_gate h b i = refl
  freed_counts join_cond h b i = refl
  freed_counts leave_cond h b i = refl
  freed_counts wake_gate h b i = refl
  freed_counts signal_one h b i = signalled (h refl) (b refl) i
  freed_counts signal_all h b i = signalled (h refl) (b refl) i
