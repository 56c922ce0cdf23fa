-- A line taken from until it is empty: the arrivals of the other lines are left, and its members are marked. Assumes nothing.
use Rattle.std.proofs.Common.{◌≡◌, ℕ, ◌+◌, ◌<◌, ◌≤◌, Bool, true, false, cond, eqb, List, [], ◌∷◌, ◌++◌, length, get_or, take, drop, set, sym, refl, ap, ◌∙◌, append-nil, add-zero, arith}
use Rattle.std.proofs.lemmas.List.{length-set, take_more, take_more_set, drop-set-lt, drop-drop, get_or-drop}
use Rattle.std.proofs.lemmas.Bool.{eq-eqb, ne_eqb, or_parts, or_from}
use Rattle.lines.specs.declared.arrival.Arrival.{Arrival}
use Rattle.lines.specs.Lines.{marked}
use Rattle.lines.specs.Arrivals.{arrival, members, seen, sound, others, line_at, thread_at}
use Rattle.lines.specs.Facts.{first_sound, members_append}
use Rattle.lines.proofs.Leaving.{sound_from}

-- one place more

pub others_append : (l : ℕ) (xs ys : List Arrival) → others l (xs ++ ys) ≡ others l xs ++ others l ys
others_append l [] ys = refl
others_append l (e ∷ es) ys =
    let r = others_append l es ys in
    elim (eqb e.line l) as (λ b. cond b (others l (es ++ ys)) (e ∷ others l (es ++ ys)) ≡ cond b (others l es) (e ∷ others l es) ++ others l ys)
    [ true ↦ r | false ↦ ap (λ xs. e ∷ xs) r ]

marked_append : (xs ys : List ℕ) (bs : List Bool) → marked (xs ++ ys) bs ≡ marked ys (marked xs bs)
marked_append [] ys bs = refl
marked_append (x ∷ xs) ys bs = marked_append xs ys (set bs x true)

module _ (l : ℕ) (xs : List Arrival) (i : ℕ) (there : i < length xs) where
  pub others_skip : eqb (line_at xs i) l ≡ true → others l (take (i + 1) xs) ≡ others l (take i xs)
  others_skip y = ap (others l) (take_more xs i (arrival 0 0) there) ∙ others_append l (take i xs) _ ∙ rw y (append-nil (others l (take i xs)))

  pub others_more : eqb (line_at xs i) l ≡ false → others l (take (i + 1) xs) ≡ others l (take i xs) ++ get_or xs i (arrival 0 0) ∷ []
  others_more y = ap (others l) (take_more xs i (arrival 0 0) there) ∙ others_append l (take i xs) _ ∙ rw y refl

  pub marked_more : (bs : List Bool) → eqb (line_at xs i) l ≡ true → marked (members (take (i + 1) xs) l) bs ≡ set (marked (members (take i xs) l) bs) (thread_at xs i) true
  marked_more bs y =
      ap (λ zs. marked (members zs l) bs) (take_more xs i (arrival 0 0) there)
      ∙ ap (λ ts. marked ts bs) (members_append l (take i xs) _)
      ∙ rw y (marked_append (members (take i xs) l) (thread_at xs i ∷ []) bs)

  pub marked_skip : (bs : List Bool) → eqb (line_at xs i) l ≡ false → marked (members (take (i + 1) xs) l) bs ≡ marked (members (take i xs) l) bs
  marked_skip bs y =
      ap (λ zs. marked (members zs l) bs) (take_more xs i (arrival 0 0) there)
      ∙ ap (λ ts. marked ts bs) (members_append l (take i xs) _)
      ∙ rw y (ap (λ ts. marked ts bs) (append-nil (members (take i xs) l)))

-- place i of the list xs is reached: those of other lines stand up front in es, as many as `place`, and the rest is untouched
abbrev pub Up : ℕ → ℕ → ℕ → ℕ → List Arrival → List Arrival → List Bool → List Bool → Type 0
Up n l i place xs es bs₀ bs =
    (length es ≡ n) × ((place ≤ i) × ((take place es ≡ others l (take i xs)) × ((drop i es ≡ drop i xs) × (bs ≡ marked (members (take i xs) l) bs₀))))

pub up_at : (n l i place place' : ℕ) (xs es es' : List Arrival) (bs₀ bs bs' : List Bool) → place' ≡ place → es' ≡ es → bs' ≡ bs → Up n l i place xs es bs₀ bs → Up n l i place' xs es' bs₀ bs'
up_at n l i place place' xs es es' bs₀ bs bs' p e b u =
    (ap length e ∙ u.0, (omega (arith, p, u.1.0), ((λ j. take (p j) (e j)) ∙ u.1.1.0, (ap (drop i) e ∙ u.1.1.1.0, b ∙ u.1.1.1.1))))

module _ (n l i place : ℕ) (xs es : List Arrival) (bs₀ bs : List Bool) (u : Up n l i place xs es bs₀ bs) (whole : length xs ≡ n) (there : i < n) where
  abbrev here : Arrival
  here = get_or es i (arrival 0 0)

  read : here ≡ get_or xs i (arrival 0 0)
  read =
      ap (λ k. get_or es k (arrival 0 0)) (sym (add-zero i)) ∙ sym (get_or-drop i es 0 (arrival 0 0)) ∙ ap (λ zs. get_or zs 0 (arrival 0 0)) u.1.1.1.0
      ∙ get_or-drop i xs 0 (arrival 0 0) ∙ ap (λ k. get_or xs k (arrival 0 0)) (add-zero i)

  on : drop (i + 1) es ≡ drop (i + 1) xs
  on = sym (drop-drop 1 i es) ∙ ap (drop 1) u.1.1.1.0 ∙ drop-drop 1 i xs

  -- an arrival of the line is marked
  pub up_skip : here.line ≡ l → Up n l (i + 1) place xs es bs₀ (set bs here.thread true)
  up_skip same =
      let y = eq-eqb (line_at xs i) l (ap (λ e. e.line) (sym read) ∙ same) in
      (u.0, (omega (arith, u.1.0), (u.1.1.0 ∙ sym (others_skip l xs i (omega arith) y), (on, (λ j. set (u.1.1.1.1 j) (read j).thread true) ∙ sym (marked_more l xs i (omega arith) bs₀ y)))))

  -- one of another line moves up
  pub up_more : (here.line ≡ l → ⊥) → Up n l (i + 1) (place + 1) xs (set es place here) bs₀ bs
  up_more other =
      let y = ne_eqb (line_at xs i) l (λ same. other (ap (λ e. e.line) read ∙ same)) in (
        length-set es place here ∙ u.0,
        (
          omega (arith, u.1.0),
          (
            take_more_set es place here (omega (arith, u.0, u.1.0)) ∙ (λ j. u.1.1.0 j ++ read j ∷ []) ∙ sym (others_more l xs i (omega arith) y),
            (
              drop-set-lt (i + 1) es place here (omega (arith, u.1.0)) ∙ on,
              u.1.1.1.1 ∙ sym (marked_skip l xs i (omega arith) bs₀ y),
            ),
          ),
        ),
      )

-- what is left is sound

seen_others : (l x : ℕ) (es : List Arrival) → seen x es ≡ false → seen x (others l es) ≡ false
seen_others l x [] h = refl
seen_others l x (e ∷ es) h =
    let p = or_parts (eqb e.thread x) (seen x es) h in
    let r = seen_others l x es p.1 in
    elim (eqb e.line l) as (λ b. seen x (cond b (others l es) (e ∷ others l es)) ≡ false)
    [ true ↦ r | false ↦ or_from _ _ p.0 r ]

pub sound_others : (n l : ℕ) (es : List Arrival) → sound n es ≡ true → sound n (others l es) ≡ true
sound_others n l [] s = refl
sound_others n l (e ∷ es) s =
    let p = first_sound n e es s in
    let r = sound_others n l es p.rest in
    elim (eqb e.line l) as (λ b. sound n (cond b (others l es) (e ∷ others l es)) ≡ true)
    [ true ↦ r | false ↦ sound_from n e (others l es) (record { line = p.line; thread = p.thread; apart = seen_others l e.thread es p.apart; rest = r }) ]
