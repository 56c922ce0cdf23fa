-- A sound list of arrivals stays sound as one leaves or comes, and never outgrows the threads that are served. Assumes nothing.
use Rattle.std.proofs.Common.{◌≡◌, ℕ, zero, suc, ◌<◌, ◌≤◌, true, false, cond, ◌&&◌, eqb, ◌==◌, List, [], ◌∷◌, ◌++◌, length, get_or, sym, refl, ap, ◌∙◌, ⊎_elim, arith}
use Rattle.std.specs.List.{remove}
use Rattle.std.proofs.lemmas.List.{length_push}
use Rattle.std.proofs.lemmas.List.Folds.{list_any-append}
use Rattle.std.proofs.lemmas.Bool.{true≢false, ne_eqb, eq-eqb, or_from, or_parts, and_from, and_right, not_from_false, cases_Bool, eqb-true, eqb-false, lt-ltb, ltb-true}
use Rattle.lines.specs.declared.arrival.Arrival.{Arrival}
use Rattle.lines.specs.Lines.{lines}
use Rattle.lines.specs.Arrivals.{arrival, seen, sound, quit, line_at, thread_at}
use Rattle.lines.specs.Facts.{First, first_sound, seen_at}

pub sound_from : (n : ℕ) (e : Arrival) (es : List Arrival) → First n e es → sound n (e ∷ es) ≡ true
sound_from n e es f = and_from _ _ (and_from _ _ f.line f.thread) (and_from _ _ (not_from_false _ f.apart) f.rest)

-- no arrival leaves where the thread does not stand
quit_none : (l t : ℕ) (es : List Arrival) → seen t es ≡ false → quit l t es ≡ es
quit_none l t [] h = refl
quit_none l t (e ∷ es) h =
    let p = or_parts (eqb e.thread t) (seen t es) h in
    rw (and_right (eqb e.line l) (eqb e.thread t) p.0) (ap (λ xs. e ∷ xs) (quit_none l t es p.1))

seen_quit : (l t x : ℕ) (es : List Arrival) → seen x es ≡ false → seen x (quit l t es) ≡ false
seen_quit l t x [] h = refl
seen_quit l t x (e ∷ es) h =
    let p = or_parts (eqb e.thread x) (seen x es) h in
    let r = seen_quit l t x es p.1 in
    elim (eqb e.line l && eqb e.thread t) as (λ b. seen x (cond b (quit l t es) (e ∷ quit l t es)) ≡ false)
    [ true ↦ r | false ↦ or_from _ _ p.0 r ]

pub sound_quit : (n l t : ℕ) (es : List Arrival) → sound n es ≡ true → sound n (quit l t es) ≡ true
sound_quit n l t [] s = refl
sound_quit n l t (e ∷ es) s =
    let p = first_sound n e es s in
    let r = sound_quit n l t es p.rest in
    elim (eqb e.line l && eqb e.thread t) as (λ b. sound n (cond b (quit l t es) (e ∷ quit l t es)) ≡ true)
    [ true ↦ r | false ↦ sound_from n e (quit l t es) (record { line = p.line; thread = p.thread; apart = seen_quit l t e.thread es p.apart; rest = r }) ]

-- to remove the arrival at a place is to let its thread quit its line
pub removed_quit : (n : ℕ) (es : List Arrival) (i : ℕ) → sound n es ≡ true → i < length es → remove es i ≡ quit (line_at es i) (thread_at es i) es
removed_quit n [] i s h = absurd (omega arith)
removed_quit n (e ∷ es) zero s h =
    let p = first_sound n e es s in
    rw (eq-eqb e.line e.line refl, eq-eqb e.thread e.thread refl) (sym (quit_none e.line e.thread es p.apart))
removed_quit n (e ∷ es) (suc i) s h =
    let p = first_sound n e es s in
    let a = get_or es i (arrival 0 0) in
    let here = seen_at a.thread es i (omega arith) refl in
    let other : eqb e.thread a.thread ≡ false = ne_eqb _ _ (λ same. let z : true ≡ false = sym here ∙ ap (λ x. seen x es) (sym same) ∙ p.apart in true≢false z) in
    rw (and_right (eqb e.line a.line) (eqb e.thread a.thread) other) (ap (λ xs. e ∷ xs) (removed_quit n es i p.rest (omega arith)))

pub sound_push : (n l t : ℕ) (es : List Arrival) → sound n es ≡ true → l < lines → t < n → seen t es ≡ false → sound n (es ++ arrival l t ∷ []) ≡ true
sound_push n l t [] s hl ht h = sound_from n (arrival l t) [] (record { line = lt-ltb _ _ hl; thread = lt-ltb _ _ ht; apart = refl; rest = refl })
sound_push n l t (e ∷ es) s hl ht h =
    let p = first_sound n e es s in
    let q = or_parts (eqb e.thread t) (seen t es) h in
    let back : eqb t e.thread ≡ false = ne_eqb _ _ (λ same. eqb-false _ _ q.0 (sym same)) in
    sound_from n e (es ++ arrival l t ∷ []) (record {
      line = p.line;
      thread = p.thread;
      apart = list_any-append (λ (x : Arrival). x.thread == e.thread) es _ ∙ or_from _ _ p.apart (or_from _ _ back refl);
      rest = sound_push n l t es p.rest hl ht q.1;
    })

-- the arrivals without thread t, in whatever line
abbrev gone : ℕ → List Arrival → List Arrival
gone t [] = []
gone t (e ∷ es) = cond (eqb e.thread t) (gone t es) (e ∷ gone t es)

gone_none : (t : ℕ) (es : List Arrival) → seen t es ≡ false → gone t es ≡ es
gone_none t [] h = refl
gone_none t (e ∷ es) h =
    let p = or_parts (eqb e.thread t) (seen t es) h in
    rw p.0 (ap (λ xs. e ∷ xs) (gone_none t es p.1))

seen_gone : (t x : ℕ) (es : List Arrival) → seen x es ≡ false → seen x (gone t es) ≡ false
seen_gone t x [] h = refl
seen_gone t x (e ∷ es) h =
    let p = or_parts (eqb e.thread x) (seen x es) h in
    let r = seen_gone t x es p.1 in
    elim (eqb e.thread t) as (λ b. seen x (cond b (gone t es) (e ∷ gone t es)) ≡ false) [ true ↦ r | false ↦ or_from _ _ p.0 r ]

-- among the threads below n + 1, without n, all are below n
sound_gone : (n : ℕ) (es : List Arrival) → sound (suc n) es ≡ true → sound n (gone n es) ≡ true
sound_gone n [] s = refl
sound_gone n (e ∷ es) s =
    let p = first_sound (suc n) e es s in
    let r = sound_gone n es p.rest in
    ⊎_elim
    (λ (y : eqb e.thread n ≡ true). rw y r)
    (λ (y : eqb e.thread n ≡ false).
    let ne = eqb-false _ _ y in
    let lt = ltb-true _ _ p.thread in
    rw y (sound_from n e (gone n es) (record { line = p.line; thread = lt-ltb e.thread n (omega arith); apart = seen_gone n e.thread es p.apart; rest = r })))
    (cases_Bool (eqb e.thread n))

length_gone : (m t : ℕ) (es : List Arrival) → sound m es ≡ true → length es ≤ suc (length (gone t es))
length_gone m t [] s = omega arith
length_gone m t (e ∷ es) s =
    let p = first_sound m e es s in
    ⊎_elim
    (λ (y : eqb e.thread t ≡ true).
    let same = gone_none t es (ap (λ x. seen x es) (sym (eqb-true _ _ y)) ∙ p.apart) in
    rw (y, same) (omega arith))
    (λ (y : eqb e.thread t ≡ false). let r = length_gone m t es p.rest in rw y (omega arith))
    (cases_Bool (eqb e.thread t))

-- no more arrivals than threads
few : (n : ℕ) (es : List Arrival) → sound n es ≡ true → length es ≤ n
few zero [] s = omega arith
few zero (e ∷ es) s = let p = first_sound 0 e es s in absurd (omega (arith, ltb-true _ _ p.thread))
few (suc n) es s = omega (arith, few n (gone n es) (sound_gone n es s), length_gone (suc n) n es s)

-- there is room for one more, as long as one more is served
pub room : (n l t : ℕ) (es : List Arrival) → sound n es ≡ true → l < lines → t < n → seen t es ≡ false → length es < n
room n l t es s hl ht h = omega (arith, few n (es ++ arrival l t ∷ []) (sound_push n l t es s hl ht h), length_push es (arrival l t))
