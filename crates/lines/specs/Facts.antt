-- What a place in a sound list of arrivals tells, and how `seen` and `members` grow with the list. Assumes nothing.
use Rattle.std.specs.Prelude.{◌≡◌, ℕ, zero, suc, ◌+◌, ◌<◌, Bool, true, false, cond, not, ◌&&◌, ◌||◌, ltb, List, [], ◌∷◌, ◌++◌, length, take, Some, ◌==◌, ◌≢◌, nat_eq, nat_lt, refl}
use Rattle.std.proofs.Common.{sym, ap, ◌∙◌, ⊎_elim, arith}
use Rattle.std.proofs.lemmas.List.{take_more}
use Rattle.std.proofs.lemmas.Bool.{true≢false, ne_eqb, eq-eqb, or_from, or_parts, and_parts, cases_Bool, not-true, ltb-true}
use Rattle.std.proofs.lemmas.List.Folds.{list_any_at}
use Rattle.lines.specs.declared.arrival.Arrival.{Arrival}
use Rattle.lines.specs.Lines.{lines, has}
use Rattle.lines.specs.Arrivals.{arrival, members, seen, sound, earliest, line_at, thread_at}

pub or_assoc : (a b c : Bool) → ((a || b) || c) ≡ (a || (b || c))
or_assoc true b c = refl
or_assoc false b c = refl

pub seen_append : (t : ℕ) (xs ys : List Arrival) → seen t (xs ++ ys) ≡ (seen t xs || seen t ys)
seen_append t [] ys = refl
seen_append t (x ∷ xs) ys = ap (λ b. (x.thread == t) || b) (seen_append t xs ys) ∙ sym (or_assoc (x.thread == t) (seen t xs) (seen t ys))

pub seen_more : (t : ℕ) (es : List Arrival) (i : ℕ) → i < length es → seen t (take i es) ≡ false → (thread_at es i ≢ t) → seen t (take (i + 1) es) ≡ false
seen_more t es i h e ne =
    ap (seen t) (take_more es i (arrival 0 0) h) ∙ seen_append t (take i es) _ ∙ or_from _ _ e (or_from _ _ (ne_eqb _ _ ne) refl)

-- the parts of `sound` at a list that has a first arrival
pub record First (n : ℕ) (e : Arrival) (es : List Arrival) : Type 0 where
  pub line : ltb e.line lines ≡ true
  pub thread : ltb e.thread n ≡ true
  pub apart : seen e.thread es ≡ false
  pub rest : sound n es ≡ true

pub first_sound : (n : ℕ) (e : Arrival) (es : List Arrival) → sound n (e ∷ es) ≡ true → First n e es
first_sound n e es h =
    let p = and_parts (nat_lt e.line lines && nat_lt e.thread n) (not (seen e.thread es) && sound n es) h in
    let q = and_parts (nat_lt e.line lines) (nat_lt e.thread n) p.0 in
    let r = and_parts (not (seen e.thread es)) (sound n es) p.1 in
    record { line = q.0; thread = q.1; apart = not-true _ r.0; rest = r.1 }

-- a thread that does not stand is a member of no line
pub has_seen : (t l : ℕ) (es : List Arrival) → seen t es ≡ false → has t (members es l) ≡ false
has_seen t l [] h = refl
has_seen t l (e ∷ es) h =
    let p = or_parts (e.thread == t) (seen t es) h in
    let i = has_seen t l es p.1 in
    ⊎_elim
    (λ (y : nat_eq e.line l ≡ true). rw y (or_from _ _ p.0 i))
    (λ (y : nat_eq e.line l ≡ false). rw y i)
    (cases_Bool (e.line == l))

pub seen_at : (t : ℕ) (es : List Arrival) (i : ℕ) → i < length es → thread_at es i ≡ t → seen t es ≡ true
seen_at t es i h eq = list_any_at (λ e. e.thread == t) es i (arrival 0 0) h (eq-eqb (thread_at es i) t eq)

-- a thread stands in the line of its arrival, and in no other
pub has_at : (n t l : ℕ) (es : List Arrival) (i : ℕ) → sound n es ≡ true → i < length es → thread_at es i ≡ t → has t (members es l) ≡ (line_at es i == l)
has_at n t l [] i s h eq = absurd (omega arith)
has_at n t l (e ∷ es) zero s h eq =
    let p = first_sound n e es s in
    let no = has_seen t l es (ap (λ x. seen x es) (sym eq) ∙ p.apart) in
    ⊎_elim
    (λ (y : nat_eq e.line l ≡ true). rw (y, eq-eqb e.thread t eq))
    (λ (y : nat_eq e.line l ≡ false). rw y no)
    (cases_Bool (e.line == l))
has_at n t l (e ∷ es) (suc i) s h eq =
    let p = first_sound n e es s in
    let here = seen_at t es i (omega arith) eq in
    let other : nat_eq e.thread t ≡ false = ne_eqb _ _ (λ same. let z : true ≡ false = sym here ∙ ap (λ x. seen x es) (sym same) ∙ p.apart in true≢false z) in
    let r = has_at n t l es i p.rest (omega arith) eq in
    ⊎_elim
    (λ (y : nat_eq e.line l ≡ true). rw (y, other) r)
    (λ (y : nat_eq e.line l ≡ false). rw y r)
    (cases_Bool (e.line == l))

-- the earliest of a line is the first arrival that is of the line
pub first_at : (l : ℕ) (es : List Arrival) (i : ℕ) → i < length es → members (take i es) l ≡ [] → line_at es i ≡ l → earliest (members es l) ≡ Some (thread_at es i)
first_at l [] i h none eq = absurd (omega arith)
first_at l (e ∷ es) zero h none eq = rw (eq-eqb e.line l eq)
first_at l (e ∷ es) (suc i) h none eq =
    ⊎_elim
    (λ (y : nat_eq e.line l ≡ true). let z : e.thread ∷ members (take i es) l ≡ [] = rw y at none in let o : ◌≡◌ {A = ℕ} 0 1 = cc in absurd (omega arith))
    (λ (y : nat_eq e.line l ≡ false). rw y (first_at l es i (omega arith) (rw y at none) eq))
    (cases_Bool (e.line == l))

pub members_append : (l : ℕ) (xs ys : List Arrival) → members (xs ++ ys) l ≡ members xs l ++ members ys l
members_append l [] ys = refl
members_append l (e ∷ es) ys =
    let r = members_append l es ys in
    elim (e.line == l) as (λ b. cond b (e.thread ∷ members (es ++ ys) l) (members (es ++ ys) l) ≡ cond b (e.thread ∷ members es l) (members es l) ++ members ys l)
    [ true ↦ ap (λ xs. e.thread ∷ xs) r | false ↦ r ]

pub members_more : (l : ℕ) (es : List Arrival) (i : ℕ) → i < length es → members (take i es) l ≡ [] → (line_at es i ≢ l) → members (take (i + 1) es) l ≡ []
members_more l es i h e ne =
    ap (λ xs. members xs l) (take_more es i (arrival 0 0) h) ∙ members_append l (take i es) _ ∙ rw (e, ne_eqb (line_at es i) l ne)

pub served_at : (n : ℕ) (es : List Arrival) (i : ℕ) → sound n es ≡ true → i < length es → thread_at es i < n
served_at n [] i s h = absurd (omega arith)
served_at n (e ∷ es) zero s h = ltb-true _ _ (first_sound n e es s).thread
served_at n (e ∷ es) (suc i) s h = served_at n es i (first_sound n e es s).rest (omega arith)
