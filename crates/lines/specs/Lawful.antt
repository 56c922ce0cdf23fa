-- The kinds that keep one list of arrivals obey the laws, and their lines are sound. Assumes nothing.
use Rattle.std.specs.Prelude.{◌≡◌, ℕ, ◌<◌, ◌≤◌, true, false, cond, ◌||◌, eqb, List, [], ◌∷◌, ◌++◌, Some, None, Option, ◌==◌, refl}
use Rattle.std.proofs.Common.{sym, ap, ◌∙◌, append-nil, ⊎_elim, arith}
use Rattle.std.proofs.lemmas.Bool.{true≢false, both_ways, eq-eqb, or_cases, and_from, not_from_false, cases_Bool, eqb-true, ltb-true}
use Rattle.lines.specs.declared.arrival.Arrival.{Arrival}
use Rattle.lines.specs.Lines.{Lines, lines, has, put, without, minus, distinct, Sound}
use Rattle.lines.specs.Kinds.{Laws, Picks}
use Rattle.lines.specs.Arrivals.{arrival, members, seen, sound, quit, earliest}
use Rattle.lines.specs.Choosing.{left_by, choosing, first_come, ranked}
use Rattle.lines.specs.Facts.{first_sound, has_seen, members_append}

-- lines that agree at each number are equal
same_lines : {f g : Lines} → ((k : ℕ) → f k ≡ g k) → f ≡ g
same_lines h = λ i k. h k i

put_same : (f : Lines) (l : ℕ) → put f l (f l) ≡ f
put_same f l = same_lines (λ k.
    ⊎_elim
    (λ (y : eqb l k ≡ true). rw y (ap f (eqb-true _ _ y)))
    (λ (y : eqb l k ≡ false). rw y)
    (cases_Bool (l == k)))

add_members : (es : List Arrival) (l t : ℕ) → members (es ++ arrival l t ∷ []) ≡ put (members es) l (members es l ++ t ∷ [])
add_members es l t = same_lines (λ k. members_append k es (arrival l t ∷ []) ∙
    ⊎_elim
    (λ (y : eqb l k ≡ true). rw y (ap (λ j. members es j ++ t ∷ []) (sym (eqb-true l k y))))
    (λ (y : eqb l k ≡ false). rw y (append-nil (members es k)))
    (cases_Bool (l == k)))

quit_here : (es : List Arrival) (l t : ℕ) → members (quit l t es) l ≡ without t (members es l)
quit_here [] l t = refl
quit_here (e ∷ es) l t =
    let r = quit_here es l t in
    ⊎_elim
    (λ (y : eqb e.line l ≡ true). rw y
    (elim (e.thread == t) as (λ b. members (cond b (quit l t es) (e ∷ quit l t es)) l ≡ cond b (without t (members es l)) (e.thread ∷ without t (members es l)))
    [ true ↦ r | false ↦ rw y (ap (λ xs. e.thread ∷ xs) r) ]))
    (λ (y : eqb e.line l ≡ false). rw (y, y) r)
    (cases_Bool (e.line == l))

quit_there : (es : List Arrival) (l t k : ℕ) → (l == k) ≡ false → members (quit l t es) k ≡ members es k
quit_there [] l t k ne = refl
quit_there (e ∷ es) l t k ne =
    let r = quit_there es l t k ne in
    ⊎_elim
    (λ (y : eqb e.line l ≡ true).
    let other : eqb e.line k ≡ false = ap (λ j. eqb j k) (eqb-true _ _ y) ∙ ne in
    rw (y, other)
    (elim (e.thread == t) as (λ b. members (cond b (quit l t es) (e ∷ quit l t es)) k ≡ members es k)
    [ true ↦ r | false ↦ rw other r ]))
    (λ (y : eqb e.line l ≡ false). rw y (ap (λ xs. cond (e.line == k) (e.thread ∷ xs) xs) r))
    (cases_Bool (e.line == l))

quit_members : (es : List Arrival) (l t : ℕ) → members (quit l t es) ≡ put (members es) l (without t (members es l))
quit_members es l t = same_lines (λ k.
    ⊎_elim
    (λ (y : eqb l k ≡ true). rw y (ap (members (quit l t es)) (sym (eqb-true l k y)) ∙ quit_here es l t))
    (λ (y : eqb l k ≡ false). rw y (quit_there es l t k y))
    (cases_Bool (l == k)))

left_members : (o : Option ℕ) (l : ℕ) (es : List Arrival) → members (left_by o l es) ≡ put (members es) l (minus o (members es l))
left_members None l es = sym (put_same (members es) l)
left_members (Some t) l es = quit_members es l t

pub choosing_laws : (n : ℕ) (C : Type 0) (choose : C → List ℕ → Option ℕ) → ((c : C) (ts : List ℕ) → Picks (choose c ts) ts) → Laws (choosing n C choose)
choosing_laws n C choose picks = record {
  picks = λ s l. picks s.0 (members s.1 l);
  after_add = λ s l t. add_members s.1 l t;
  after_take = λ s l. left_members (choose s.0 (members s.1 l)) l s.1;
  after_remove = λ s l t. quit_members s.1 l t;
}

pub first_picks : (ts : List ℕ) → Picks (earliest ts) ts
first_picks [] = refl
first_picks (t ∷ ts) = rw (eq-eqb t t refl)

-- a member is a thread that is served, of a line that there is
served : (n t l : ℕ) (es : List Arrival) → sound n es ≡ true → has t (members es l) ≡ true → (t < n) × (l < lines)
served n t l [] s h = absurd (true≢false (sym h))
served n t l (e ∷ es) s h =
    let p = first_sound n e es s in
    ⊎_elim
    (λ (y : eqb e.line l ≡ true).
    let hl = ltb-true _ _ p.line in
    let ht = ltb-true _ _ p.thread in
    let el = eqb-true _ _ y in
    let h' : (e.thread == t || has t (members es l)) ≡ true = rw y at h in
    ⊎_elim (λ (z : eqb e.thread t ≡ true). let et = eqb-true _ _ z in (omega arith, omega arith)) (λ (z : has t (members es l) ≡ true). served n t l es p.rest z) (or_cases _ _ h'))
    (λ (y : eqb e.line l ≡ false). served n t l es p.rest (rw y at h))
    (cases_Bool (e.line == l))

once : (n l : ℕ) (es : List Arrival) → sound n es ≡ true → distinct (members es l) ≡ true
once n l [] s = refl
once n l (e ∷ es) s =
    let p = first_sound n e es s in
    let r = once n l es p.rest in
    elim (e.line == l) as (λ b. distinct (cond b (e.thread ∷ members es l) (members es l)) ≡ true)
    [ true ↦ and_from _ _ (not_from_false _ (has_seen e.thread l es p.apart)) r | false ↦ r ]

one_line : (n l k t : ℕ) (es : List Arrival) → sound n es ≡ true → has t (members es l) ≡ true → has t (members es k) ≡ true → l ≡ k
one_line n l k t [] s h h' = absurd (true≢false (sym h))
one_line n l k t (e ∷ es) s h h' =
    let p = first_sound n e es s in
    ⊎_elim
    (λ (z : eqb e.thread t ≡ true).
    let gone : seen t es ≡ false = ap (λ x. seen x es) (sym (eqb-true _ _ z)) ∙ p.apart in
    here e es l gone h ∙ sym (here e es k gone h'))
    (λ (z : eqb e.thread t ≡ false). one_line n l k t es p.rest (there e es l z h) (there e es k z h'))
    (cases_Bool (e.thread == t))
  where
    here : (e : Arrival) (es : List Arrival) (l : ℕ) → seen t es ≡ false → has t (members (e ∷ es) l) ≡ true → l ≡ e.line
    here e es l gone h =
        ⊎_elim
        (λ (y : eqb e.line l ≡ true). sym (eqb-true _ _ y))
        (λ (y : eqb e.line l ≡ false). absurd (both_ways _ (has_seen t l es gone) (rw y at h)))
        (cases_Bool (e.line == l))

    there : (e : Arrival) (es : List Arrival) (l : ℕ) → (e.thread == t) ≡ false → has t (members (e ∷ es) l) ≡ true → has t (members es l) ≡ true
    there e es l z h =
        ⊎_elim
        (λ (y : eqb e.line l ≡ true). rw (y, z) at h)
        (λ (y : eqb e.line l ≡ false). rw y at h)
        (cases_Bool (e.line == l))

-- a sound list of arrivals makes sound lines
pub sound_members : (n : ℕ) (es : List Arrival) → sound n es ≡ true → Sound n (members es)
sound_members n es s = record {
  once = λ l. once n l es s;
  one_line = λ l k t h h'. one_line n l k t es s h h';
  served = λ l t h. (served n t l es s h).0;
  inside = λ l t h. (served n t l es s h).1;
}

-- each of the two kinds serves a thread, and no more than a nub can have
pub first_come_serves : (1 ≤ first_come.serves) × (first_come.serves ≤ 64)
first_come_serves = (omega arith, omega arith)

pub ranked_serves : (1 ≤ ranked.serves) × (ranked.serves ≤ 64)
ranked_serves = (omega arith, omega arith)

-- where nobody has arrived every line is empty
pub first_come_empty : (l : ℕ) → first_come.line (tt, []) l ≡ []
first_come_empty l = refl

pub ranked_empty : (ranks : List ℕ) (l : ℕ) → ranked.line (ranks, []) l ≡ []
ranked_empty ranks l = refl
