-- What a row does to the lines of any kind, as lists of members.
use Rattle.std.proofs.Common.{◌≡◌, ℕ, zero, suc, ◌-◌, ◌<◌, ◌≤◌, Bool, true, false, cond, not, ◌||◌, eqb, ltb, List, [], ◌∷◌, ◌++◌, length, Some as some, None as none, Ok, Err, Option, Result, sym, refl, ap, ◌∙◌, subst, arith}
use Rattle.std.proofs.lemmas.List.{nil_from_length}
use Rattle.std.proofs.lemmas.Bool.{lt-ltb, ltb-true, ltb-false, and_from, eq-eqb, not-true, not_from_false}
use Rattle.lines.specs.Lines.{has, put, minus, Lines, Sound, lines, stands, distinct, add_answer, remove_answer, after as after_in, without as without1}
use Rattle.lines.specs.Kinds.{Kind as LineKind, Laws, Picks}
use Rattle.stages.specs.Calls.{Object, gate_of, cond_of, same_object, without, to_list, Request}
use Rattle.stages.specs.Calls.Object.{mutex, semaphore, condition}
use Rattle.stages.specs.declared.marks.Stands.TheVariants.{Nowhere as nowhere}
use Rattle.stages.specs.declared.step.LineEffect.{LineEffect}
use Rattle.stages.specs.declared.step.LineEffect.TheVariants.{Keep as keep_line, JoinGate as join_gate, LeaveGate as leave_gate, JoinCondition as join_cond, LeaveCondition as leave_cond, WakeGate as wake_gate, SignalOne as signal_one, SignalAll as signal_all}
use Rattle.nub.specs.Model.{line_at, line_new, taken}
use Rattle.nub.specs.Places.{line_no, in_range, at_line}
use Rattle.nub.specs.View.{by_obj, picks}
use Rattle.nub.specs.Work.{worked_in, taken_in}
use Rattle.stages.proofs.Finite.{no, and_l, and_r}
use Rattle.lines.proofs.Taking.{put_here}
use Rattle.nub.proofs.Draining.{exact}
use Rattle.runs.proofs.Small.{same_object_lem, is_keep_line, is_stand, stands_pre}
use Rattle.lines.specs.declared.decline.Decline.{Decline}
use Rattle.lines.specs.declared.decline.Decline.TheVariants.{NoSuchLine, NotServed, AlreadyInSet, NotInLine}
use Rattle.nub.specs.Lining.{add_in, remove_in, take_in, who_in, standing, drained, drain_in}
use Rattle.nub.specs.Lining.{who}
use Rattle.runs.proofs.Lists.{view_put, obj_in, at_in}
use Rattle.runs.specs.Granted.{LineGranted, JoinGranted, LeaveGranted, TakeGranted}
use Rattle.lines.specs.Lines.{take_answer, empty_answer, none as none_in}

eqb_sym : (a b : ℕ) → eqb a b ≡ eqb b a
eqb_sym a b = grind arith

-- one way to leave out
without_is : (t : ℕ) (xs : List ℕ) → without1 t xs ≡ without (λ u. eqb t u) xs
without_is t [] = refl
without_is t (x ∷ xs) =
    ap (λ (ys : List ℕ). cond (eqb x t) ys (x ∷ ys)) (without_is t xs) ∙ ap (λ (b : Bool). cond b (without (λ u. eqb t u) xs) (x ∷ without (λ u. eqb t u) xs)) (eqb_sym x t)

without_none : (xs : List ℕ) → xs ≡ without (λ u. false) xs
without_none [] = refl
without_none (x ∷ xs) = ap (λ (ys : List ℕ). x ∷ ys) (without_none xs)

or_f : (b : Bool) → b ≡ (b || false)
or_f true = refl
or_f false = refl

without_one : (t : ℕ) (xs : List ℕ) → without1 t xs ≡ without (λ u. has u (t ∷ [])) xs
without_one t [] = refl
without_one t (x ∷ xs) =
    ap (λ (ys : List ℕ). cond (eqb x t) ys (x ∷ ys)) (without_one t xs) ∙ ap (λ (b : Bool). cond b (without (λ u. has u (t ∷ [])) xs) (x ∷ without (λ u. has u (t ∷ [])) xs)) (eqb_sym x t ∙ or_f (eqb t x))

minus_is : (o : Option ℕ) (xs : List ℕ) → minus o xs ≡ without (λ u. has u (to_list o)) xs
minus_is none xs = without_none xs
minus_is (some t) xs = without_one t xs

none_left : (xs ys : List ℕ) → ((u : ℕ) → has u xs ≡ true → has u ys ≡ true) → without (λ u. has u ys) xs ≡ []
none_left [] ys h = refl
none_left (x ∷ xs) ys h =
    ap (λ (b : Bool). cond b (without (λ u. has u ys) xs) (x ∷ without (λ u. has u ys) xs)) (h x (ap (λ (b : Bool). b || has x xs) (eq-eqb x x refl)))
    ∙ none_left xs ys (λ u e. h u (later (eqb x u) (has u xs) e))
  where
    later : (a b : Bool) → b ≡ true → (a || b) ≡ true
    later true b e = refl
    later false b e = e

put_put : (f : Lines) (l : ℕ) (xs ys : List ℕ) → put (put f l ys) l xs ≡ put f l xs
put_put f l xs ys = λ i k. point k i
  where
    point : (k : ℕ) → put (put f l ys) l xs k ≡ put f l xs k
    point k = elim (eqb l k) as (λ b. cond b xs (cond b ys (f k)) ≡ cond b xs (f k)) [ true ↦ refl | false ↦ refl ]

empty_has : {A : Type 0} (t : ℕ) → has t [] ≡ true → A
empty_has t h = no h

-- what a member less leaves
still : (t x : ℕ) (xs : List ℕ) → has x xs ≡ false → has x (without1 t xs) ≡ false
still t x [] h = h
still t x (y ∷ xs) h = go (eqb y t) (eqb y x) h (λ e. still t x xs e)
  where
    go : (a b : Bool) → (b || has x xs) ≡ false → (has x xs ≡ false → has x (without1 t xs) ≡ false) → has x (cond a (without1 t xs) (y ∷ without1 t xs)) ≡ false
    go a true e ih = no (sym e)
    go true false e ih = ih e
    go false false e ih = or_false_in (eqb y x) (has x (without1 t xs)) (left (eqb y x) (has x xs) h) (ih e)
      where
        left : (p q : Bool) → (p || q) ≡ false → p ≡ false
        left true q e = e
        left false q e = refl

        or_false_in : (p q : Bool) → p ≡ false → q ≡ false → (p || q) ≡ false
        or_false_in true q e f = e
        or_false_in false q e f = f

pub distinct_less : (t : ℕ) (xs : List ℕ) → distinct xs ≡ true → distinct (without1 t xs) ≡ true
distinct_less t [] d = refl
distinct_less t (x ∷ xs) d = go (eqb x t) (distinct_less t xs (and_r (not (has x xs)) (distinct xs) d))
  where
    go : (a : Bool) → distinct (without1 t xs) ≡ true → distinct (cond a (without1 t xs) (x ∷ without1 t xs)) ≡ true
    go true ih = ih
    go false ih = and_from (not (has x (without1 t xs))) (distinct (without1 t xs)) (not_from_false (has x (without1 t xs)) (still t x xs (not-true (has x xs) (and_l (not (has x xs)) (distinct xs) d)))) ih

module _ (K : LineKind) (laws : Laws K) (l : ℕ) where
  -- a drained line is empty, and the others are as they were
  drained_line : (n : ℕ) (s : K.State) → distinct (K.line s l) ≡ true → length (K.line s l) ≡ n → K.line (drained K l n s) ≡ put (K.line s) l []
  drained_line zero s d e = laws.after_take s l ∙ ap (λ (xs : List ℕ). put (K.line s) l xs) (go (K.next s l) (laws.picks s l))
    where
      nil : K.line s l ≡ []
      nil = nil_from_length (K.line s l) e

      go : (o : Option ℕ) → Picks o (K.line s l) → minus o (K.line s l) ≡ []
      go none p = p
      go (some t) p = empty_has t (subst (λ (xs : List ℕ). has t xs ≡ true) nil p)
  drained_line (suc n) s d e = go (K.next s l) refl (laws.picks s l) (λ p q. drained_line n (K.taken s l) p q)
    where
      go : (o : Option ℕ) → K.next s l ≡ o → Picks o (K.line s l)
          → (distinct (K.line (K.taken s l) l) ≡ true → length (K.line (K.taken s l) l) ≡ n → K.line (drained K l n (K.taken s l)) ≡ put (K.line (K.taken s l)) l []) → K.line (drained K l n (K.taken s l)) ≡ put (K.line s) l []
      go none q p ih = let z : length (K.line s l) ≡ 0 = ap length p in let y : ⊥ = omega arith in absurd y
      go (some t) q p ih =
          ih (subst (λ (xs : List ℕ). distinct xs ≡ true) (sym here) (distinct_less t (K.line s l) d))
          (let a : length (K.line s l) ≡ suc (length (without1 t (K.line s l))) = exact t (K.line s l) d p in let b : length (K.line (K.taken s l) l) ≡ length (without1 t (K.line s l)) = ap length here in omega arith)
          ∙ ap (λ (g : Lines). put g l []) then ∙ put_put (K.line s) l [] (without1 t (K.line s l))
        where
          then : K.line (K.taken s l) ≡ put (K.line s) l (without1 t (K.line s l))
          then = laws.after_take s l ∙ ap (λ (o : Option ℕ). put (K.line s) l (minus o (K.line s l))) q

          here : K.line (K.taken s l) l ≡ without1 t (K.line s l)
          here = ap (λ (g : Lines). g l) then ∙ put_here (K.line s) l (without1 t (K.line s l))

  module _ (f : K.State) (low : l < 48) where
    low' : ltb l lines ≡ true
    low' = lt-ltb l lines low

    pub who_next : who_in K f l ≡ K.next f l
    who_next = ap (λ (b : Bool). who (cond b (Ok (K.next f l)) (Err NoSuchLine))) low'

    pub standing_is : standing K f l ≡ K.line f l
    standing_is = ap (λ (b : Bool). cond b (K.line f l) []) low'

    pub join_ok : (t : ℕ) → t < K.serves → stands lines (K.line f) t ≡ false → add_answer K.serves (K.line f) l t ≡ Ok tt
    join_ok t h n =
        ap (λ (b : Bool). cond {A = Result (Unit {0}) Decline} b (cond (ltb t K.serves) (cond (stands lines (K.line f) t) (Err AlreadyInSet) (Ok tt)) (Err NotServed)) (Err NoSuchLine)) low'
        ∙ ap (λ (b : Bool). cond {A = Result (Unit {0}) Decline} b (cond (stands lines (K.line f) t) (Err AlreadyInSet) (Ok tt)) (Err NotServed)) (lt-ltb t K.serves h)
        ∙ ap (λ (b : Bool). cond {A = Result (Unit {0}) Decline} b (Err AlreadyInSet) (Ok tt)) n

    pub join_line : (t : ℕ) → t < K.serves → stands lines (K.line f) t ≡ false → K.line (add_in K f l t) ≡ put (K.line f) l (K.line f l ++ (t ∷ []))
    join_line t h n = ap (λ (r : Result (Unit {0}) Decline). K.line (after_in r (K.added f l t) f)) (join_ok t h n) ∙ laws.after_add f l t

    pub quit_ok : (t : ℕ) → t < K.serves → has t (K.line f l) ≡ true → remove_answer K.serves (K.line f) l t ≡ Ok tt
    quit_ok t h n =
        ap (λ (b : Bool). cond {A = Result (Unit {0}) Decline} b (cond (ltb t K.serves) (cond (has t (K.line f l)) (Ok tt) (Err NotInLine)) (Err NotServed)) (Err NoSuchLine)) low'
        ∙ ap (λ (b : Bool). cond {A = Result (Unit {0}) Decline} b (cond (has t (K.line f l)) (Ok tt) (Err NotInLine)) (Err NotServed)) (lt-ltb t K.serves h)
        ∙ ap (λ (b : Bool). cond {A = Result (Unit {0}) Decline} b (Ok tt) (Err NotInLine)) n

    pub quit_line : (t : ℕ) → t < K.serves → has t (K.line f l) ≡ true → K.line (remove_in K f l t) ≡ put (K.line f) l (without (λ u. eqb t u) (K.line f l))
    quit_line t h n =
        ap (λ (r : Result (Unit {0}) Decline). K.line (after_in r (K.removed f l t) f)) (quit_ok t h n) ∙ laws.after_remove f l t ∙ ap (λ (xs : List ℕ). put (K.line f) l xs) (without_is t (K.line f l))

    pub take_ok : take_answer (K.next f) l ≡ Ok (K.next f l)
    take_ok = ap (λ (b : Bool). cond {A = Result (Option ℕ) Decline} b (Ok (K.next f l)) (Err NoSuchLine)) low'

    pub ask_ok : empty_answer (K.line f) l ≡ Ok (none_in (K.line f l))
    ask_ok = ap (λ (b : Bool). cond {A = Result Bool Decline} b (Ok (none_in (K.line f l))) (Err NoSuchLine)) low'

    pub take_line : K.line (take_in K f l) ≡ put (K.line f) l (without (λ u. has u (to_list (who_in K f l))) (K.line f l))
    take_line =
        ap (λ (b : Bool). K.line (after_in (cond {A = Result (Option ℕ) Decline} b (Ok (K.next f l)) (Err NoSuchLine)) (K.taken f l) f)) low'
        ∙ laws.after_take f l
        ∙ ap (λ (xs : List ℕ). put (K.line f) l xs) (minus_is (K.next f l) (K.line f l) ∙ ap (λ (o : Option ℕ). without (λ u. has u (to_list o)) (K.line f l)) (sym who_next))

    pub drain_line : distinct (K.line f l) ≡ true → K.line (drain_in K f l) ≡ put (K.line f) l (without (λ u. has u (standing K f l)) (K.line f l))
    drain_line d =
        ap (λ (b : Bool). K.line (cond b (drained K l (length (K.line f l)) f) f)) low'
        ∙ drained_line (length (K.line f l)) f d refl
        ∙ ap (λ (xs : List ℕ). put (K.line f) l xs) (sym (none_left (K.line f l) (standing K f l) (λ u e. ap (has u) standing_is ∙ e)))

-- nobody stands who stands by no object
pub stands_none : (f : Lines) (t n : ℕ) → ((l : ℕ) → l < n → has t (f l) ≡ false) → stands n f t ≡ false
unfolding stands
stands_none f t zero h = refl
stands_none f t (suc n) h = ap (λ (b : Bool). b || stands n f t) (h n (omega arith)) ∙ stands_none f t n (λ l p. h l (omega arith))

-- every line is that of an object
obj_of : (l : ℕ) → l < 48 → (o : Object) × (in_range o ≡ true) × (line_no o ≡ l)
obj_of l h = go (ltb l 16) (ltb l 32) refl refl
  where
    go : (a b : Bool) → ltb l 16 ≡ a → ltb l 32 ≡ b → (o : Object) × (in_range o ≡ true) × (line_no o ≡ l)
    go true b p q = (mutex l, p, refl)
    go false true p q = let x : 16 ≤ l = ltb-false l 16 p in let y : l < 32 = ltb-true l 32 q in (semaphore (l - 16), lt-ltb (l - 16) 16 (omega arith), omega arith)
    go false false p q = let y : 32 ≤ l = ltb-false l 32 q in (condition (l - 32), lt-ltb (l - 32) 16 (omega arith), omega arith)

pub no_line : (f : Lines) (t : ℕ) → ((o : Object) → has t (by_obj [] f o) ≡ false) → stands lines f t ≡ false
no_line f t h = stands_none f t lines (λ l p. let o = obj_of l p in subst (λ (z : ℕ). has t (f z) ≡ false) o.2 (ap (has t) (sym (obj_in [] f o.0 o.1)) ∙ h o.0))

-- the lines after a row, by object
pub lines_view : (K : LineKind) (laws : Laws K) (f : K.State) (e : LineEffect) (c : Request) (t : ℕ) → Sound K.serves (K.line f) → t < K.serves
    → (is_keep_line e ≡ false → in_range (line_at e c) ≡ true)
    → (is_stand nowhere (stands_pre e) ≡ true → is_keep_line e ≡ false → (o : Object) → has t (by_obj [] (K.line f) o) ≡ false)
    → (is_stand nowhere (stands_pre e) ≡ false → has t (by_obj [] (K.line f) (line_at e c)) ≡ true)
    → (o : Object) → by_obj [] (K.line (worked_in K e (at_line (line_at e c)) f t)) o
    ≡ cond (same_object (line_at e c) o) (line_new e t (taken_in K e (at_line (line_at e c)) f) (by_obj [] (K.line f) o)) (by_obj [] (K.line f) o)
lines_view K laws f e c t so fit ran out ins o = go e ran out ins
  where
    -- one line is put
    placed : (e : LineEffect) → in_range (line_at e c) ≡ true → K.line (worked_in K e (some (line_no (line_at e c))) f t) ≡ put (K.line f) (line_no (line_at e c)) (line_new e t (taken_in K e (some (line_no (line_at e c))) f) (K.line f (line_no (line_at e c))))
        → by_obj [] (K.line (worked_in K e (at_line (line_at e c)) f t)) o
        ≡ cond (same_object (line_at e c) o) (line_new e t (taken_in K e (at_line (line_at e c)) f) (by_obj [] (K.line f) o)) (by_obj [] (K.line f) o)
    placed e r p =
        ap (λ (z : Option ℕ). by_obj [] (K.line (worked_in K e z f t)) o) (at_in L r)
        ∙ ap (λ (g : Lines). by_obj [] g o) p
        ∙ view_put [] (K.line f) L (line_new e t (taken_in K e (some (line_no L)) f) (K.line f (line_no L))) r o
        ∙ same (same_object L o) refl
        ∙ ap (λ (z : Option ℕ). cond (same_object L o) (line_new e t (taken_in K e z f) (by_obj [] (K.line f) o)) (by_obj [] (K.line f) o)) (sym (at_in L r))
      where
        L : Object
        L = line_at e c

        same : (b : Bool) → same_object L o ≡ b
            → cond b (line_new e t (taken_in K e (some (line_no L)) f) (K.line f (line_no L))) (by_obj [] (K.line f) o) ≡ cond b (line_new e t (taken_in K e (some (line_no L)) f) (by_obj [] (K.line f) o)) (by_obj [] (K.line f) o)
        same true q = ap (λ (xs : List ℕ). line_new e t (taken_in K e (some (line_no L)) f) xs) (sym (obj_in [] (K.line f) L r) ∙ ap (λ (z : Object). by_obj [] (K.line f) z) (same_object_lem L o q))
        same false q = refl

    low : (o : Object) → in_range o ≡ true → line_no o < 48
    low o r = Rattle.runs.proofs.Ranges.line_low o r

    still_none : (z : Option ℕ) (b : Bool) → by_obj [] (K.line (worked_in K keep_line z f t)) o ≡ cond b (by_obj [] (K.line f) o) (by_obj [] (K.line f) o)
    still_none none true = refl
    still_none none false = refl
    still_none (some l) true = refl
    still_none (some l) false = refl

    at_line_lem : (o : Object) → in_range o ≡ true → has t (by_obj [] (K.line f) o) ≡ true → has t (K.line f (line_no o)) ≡ true
    at_line_lem o r h = ap (has t) (sym (obj_in [] (K.line f) o r)) ∙ h

    go : (e : LineEffect) → (is_keep_line e ≡ false → in_range (line_at e c) ≡ true)
        → (is_stand nowhere (stands_pre e) ≡ true → is_keep_line e ≡ false → (o : Object) → has t (by_obj [] (K.line f) o) ≡ false)
        → (is_stand nowhere (stands_pre e) ≡ false → has t (by_obj [] (K.line f) (line_at e c)) ≡ true)
        → by_obj [] (K.line (worked_in K e (at_line (line_at e c)) f t)) o
        ≡ cond (same_object (line_at e c) o) (line_new e t (taken_in K e (at_line (line_at e c)) f) (by_obj [] (K.line f) o)) (by_obj [] (K.line f) o)
    go keep_line r u i = still_none (at_line (gate_of c)) (same_object (gate_of c) o)
    go join_gate r u i = placed join_gate (r refl) (join_line K laws (line_no (gate_of c)) f (low (gate_of c) (r refl)) t fit (no_line (K.line f) t (u refl refl)))
    go leave_gate r u i = placed leave_gate (r refl) (quit_line K laws (line_no (gate_of c)) f (low (gate_of c) (r refl)) t fit (at_line_lem (gate_of c) (r refl) (i refl)))
    go join_cond r u i = placed join_cond (r refl) (join_line K laws (line_no (condition (cond_of c))) f (low (condition (cond_of c)) (r refl)) t fit (no_line (K.line f) t (u refl refl)))
    go leave_cond r u i = placed leave_cond (r refl) (quit_line K laws (line_no (condition (cond_of c))) f (low (condition (cond_of c)) (r refl)) t fit (at_line_lem (condition (cond_of c)) (r refl) (i refl)))
    go wake_gate r u i = placed wake_gate (r refl) (take_line K laws (line_no (gate_of c)) f (low (gate_of c) (r refl)))
    go signal_one r u i = placed signal_one (r refl) (take_line K laws (line_no (condition (cond_of c))) f (low (condition (cond_of c)) (r refl)))
    go signal_all r u i = placed signal_all (r refl) (drain_line K laws (line_no (condition (cond_of c))) f (low (condition (cond_of c)) (r refl)) (so.once (line_no (condition (cond_of c)))))

-- what a row asks of the lines is granted
pub granted_view : (K : LineKind) (laws : Laws K) (f : K.State) (e : LineEffect) (c : Request) (t : ℕ) → t < K.serves
    → (is_keep_line e ≡ false → in_range (line_at e c) ≡ true)
    → (is_stand nowhere (stands_pre e) ≡ true → is_keep_line e ≡ false → (o : Object) → has t (by_obj [] (K.line f) o) ≡ false)
    → (is_stand nowhere (stands_pre e) ≡ false → has t (by_obj [] (K.line f) (line_at e c)) ≡ true)
    → LineGranted K e (at_line (line_at e c)) f t
granted_view K laws f e c t fit ran out ins = go e ran out ins
  where
    low : (o : Object) → in_range o ≡ true → line_no o < 48
    low o r = Rattle.runs.proofs.Ranges.line_low o r

    at_line_lem : (o : Object) → in_range o ≡ true → has t (by_obj [] (K.line f) o) ≡ true → has t (K.line f (line_no o)) ≡ true
    at_line_lem o r h = ap (has t) (sym (obj_in [] (K.line f) o r)) ∙ h

    joins : (o : Object) → in_range o ≡ true → ((o : Object) → has t (by_obj [] (K.line f) o) ≡ false) → JoinGranted K (at_line o) f t
    joins o r u = subst (λ (z : Option ℕ). JoinGranted K z f t) (sym (at_in o r)) (join_ok K laws (line_no o) f (low o r) t fit (no_line (K.line f) t u))

    leaves : (o : Object) → in_range o ≡ true → has t (by_obj [] (K.line f) o) ≡ true → LeaveGranted K (at_line o) f t
    leaves o r i = subst (λ (z : Option ℕ). LeaveGranted K z f t) (sym (at_in o r)) (quit_ok K laws (line_no o) f (low o r) t fit (at_line_lem o r i))

    takes : (o : Object) → in_range o ≡ true → TakeGranted K (at_line o) f
    takes o r = subst (λ (z : Option ℕ). TakeGranted K z f) (sym (at_in o r)) (take_ok K laws (line_no o) f (low o r))

    go : (e : LineEffect) → (is_keep_line e ≡ false → in_range (line_at e c) ≡ true)
        → (is_stand nowhere (stands_pre e) ≡ true → is_keep_line e ≡ false → (o : Object) → has t (by_obj [] (K.line f) o) ≡ false)
        → (is_stand nowhere (stands_pre e) ≡ false → has t (by_obj [] (K.line f) (line_at e c)) ≡ true)
        → LineGranted K e (at_line (line_at e c)) f t
    go keep_line r u i = tt
    go join_gate r u i = joins (gate_of c) (r refl) (u refl refl)
    go leave_gate r u i = leaves (gate_of c) (r refl) (i refl)
    go join_cond r u i = joins (condition (cond_of c)) (r refl) (u refl refl)
    go leave_cond r u i = leaves (condition (cond_of c)) (r refl) (i refl)
    go wake_gate r u i = takes (gate_of c) (r refl)
    go signal_one r u i = takes (condition (cond_of c)) (r refl)
    go signal_all r u i = takes (condition (cond_of c)) (r refl)

-- whom a row takes
pub taken_view : (K : LineKind) (laws : Laws K) (f : K.State) (e : LineEffect) (c : Request) → (is_keep_line e ≡ false → in_range (line_at e c) ≡ true)
    → taken_in K e (at_line (line_at e c)) f ≡ taken e (picks K f (line_at e c)) (by_obj [] (K.line f) (line_at e c))
taken_view K laws f e c ran = go e ran
  where
    one : (o : Object) → in_range o ≡ true → to_list (who_in K f (line_no o)) ≡ to_list (picks K f o)
    one o r = ap to_list (who_next K laws (line_no o) f (Rattle.runs.proofs.Ranges.line_low o r)) ∙ ap to_list (sym (obj_in none (K.next f) o r))

    go : (e : LineEffect) → (is_keep_line e ≡ false → in_range (line_at e c) ≡ true) → taken_in K e (at_line (line_at e c)) f ≡ taken e (picks K f (line_at e c)) (by_obj [] (K.line f) (line_at e c))
    go keep_line r = refl
    go join_gate r = refl
    go leave_gate r = refl
    go join_cond r = refl
    go leave_cond r = refl
    go wake_gate r = ap (λ (z : Option ℕ). taken_in K wake_gate z f) (at_in (gate_of c) (r refl)) ∙ one (gate_of c) (r refl)
    go signal_one r = ap (λ (z : Option ℕ). taken_in K signal_one z f) (at_in (condition (cond_of c)) (r refl)) ∙ one (condition (cond_of c)) (r refl)
    go signal_all r =
        ap (λ (z : Option ℕ). taken_in K signal_all z f) (at_in (condition (cond_of c)) (r refl))
        ∙ standing_is K laws (line_no (condition (cond_of c))) f (Rattle.runs.proofs.Ranges.line_low (condition (cond_of c)) (r refl))
        ∙ sym (obj_in [] (K.line f) (condition (cond_of c)) (r refl))
