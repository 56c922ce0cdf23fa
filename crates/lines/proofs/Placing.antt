-- What the first arrival that passes a test tells of the lines. Assumes nothing.
use Rattle.std.proofs.Common.{◌≡◌, ℕ, suc, ◌+◌, ◌<◌, Bool, true, false, cond, not, ◌&&◌, ◌==◌, List, [], ◌∷◌, length, get_or, take, Some, None, Option, refl, ap, ⊎_elim, arith, ltb}
use Rattle.std.specs.List.{position, position_or_len, list_any, list_all}
use Rattle.std.proofs.lemmas.Bool.{true≢false, cases_Bool, eqb-true, lt-ltb}
use Rattle.std.proofs.lemmas.Bool.Decides.{nat_tests}
use Rattle.lines.specs.declared.arrival.Arrival.{Arrival}
use Rattle.lines.specs.Lines.{has, none}
use Rattle.lines.specs.Arrivals.{arrival, members, first_place, earliest, Chosen}
use Rattle.lines.specs.Facts.{first_at}

-- o is the first place of xs that passes, and none where none does
abbrev pub FirstAt : {X : Type 0} → (X → Bool) → List X → X → Option ℕ → Type 0
FirstAt p xs d None = list_any p xs ≡ false
FirstAt p xs d (Some i) = (i < length xs) × (p (get_or xs i d) ≡ true) × (list_any p (take i xs) ≡ false)

pub first_position : {X : Type 0} (p : X → Bool) (xs : List X) (d : X) → FirstAt p xs d (position p xs)
first_position p [] d = refl
first_position p (x ∷ xs) d =
    ⊎_elim
    (λ (y : p x ≡ true).
    let some : ltb 0 (suc (length xs)) ≡ true = lt-ltb 0 (suc (length xs)) (omega arith) in
    rw (y, some) (omega arith, y, refl))
    (λ (y : p x ≡ false).
    let one : 1 + position_or_len p xs ≡ suc (position_or_len p xs) = omega arith in
    let same : ltb (suc (position_or_len p xs)) (suc (length xs)) ≡ ltb (position_or_len p xs) (length xs) = grind (arith, nat_tests) in
    rw (y, one, same) (later (ltb (position_or_len p xs) (length xs)) y (first_position p xs d)))
    (cases_Bool (p x))
  where
    later : (b : Bool) → p x ≡ false → FirstAt p xs d (cond b (Some (position_or_len p xs)) None) → FirstAt p (x ∷ xs) d (cond b (Some (suc (position_or_len p xs))) None)
    later true y h = (omega (arith, h.0), h.1, rw y h.2)
    later false y h = rw y h

no_members : (l : ℕ) (es : List Arrival) → list_any (λ (e : Arrival). e.line == l) es ≡ false → members es l ≡ []
no_members l [] h = refl
no_members l (e ∷ es) h =
    ⊎_elim
    (λ (y : (e.line == l) ≡ true). absurd (true≢false (rw y at h)))
    (λ (y : (e.line == l) ≡ false). rw y (no_members l es (rw y at h)))
    (cases_Bool (e.line == l))

first_chosen_by : (l : ℕ) (es : List Arrival) (o : Option ℕ) → FirstAt (λ (e : Arrival). e.line == l) es (arrival 0 0) o → Chosen es l (earliest (members es l)) o
first_chosen_by l es None h = ap earliest (no_members l es h)
first_chosen_by l es (Some i) h =
    let here = eqb-true _ _ h.1 in
    (h.0, here, first_at l es i h.0 (no_members l (take i es) h.2) here)

-- the earliest of a line is the first arrival that is of the line
pub first_chosen : (l : ℕ) (es : List Arrival) → Chosen es l (earliest (members es l)) (first_place l es)
unfolding first_place
first_chosen l es = first_chosen_by l es _ (first_position (λ (e : Arrival). e.line == l) es (arrival 0 0))

pub none_all : (l : ℕ) (es : List Arrival) → none (members es l) ≡ list_all (λ (e : Arrival). not (e.line == l)) es
none_all l [] = refl
none_all l (e ∷ es) =
    ⊎_elim
    (λ (y : (e.line == l) ≡ true). rw y refl)
    (λ (y : (e.line == l) ≡ false). rw y (none_all l es))
    (cases_Bool (e.line == l))

-- a thread is a member of a line exactly where an arrival of the thread in the line is found
pub has_any : (l t : ℕ) (es : List Arrival) → has t (members es l) ≡ list_any (λ (e : Arrival). e.line == l && e.thread == t) es
has_any l t [] = refl
has_any l t (e ∷ es) =
    ⊎_elim
    (λ (y : (e.line == l) ≡ true). rw (y, has_any l t es) refl)
    (λ (y : (e.line == l) ≡ false). rw y (has_any l t es))
    (cases_Bool (e.line == l))
