-- The best by rank: a member, and how a loop finds it. Assumes nothing.
use Rattle.std.specs.Prelude.{◌≡◌, ℕ, ◌+◌, ◌<◌, true, false, cond, ◌||◌, List, [], ◌∷◌, ◌++◌, length, take, Some, None, Option, ◌==◌, ◌≢◌, refl, IfSome}
use Rattle.std.proofs.Common.{ap, ◌∙◌, append-nil}
use Rattle.std.proofs.lemmas.List.{take_more}
use Rattle.std.proofs.lemmas.Bool.{eq-eqb, ne_eqb, or_left, or_right}
use Rattle.lines.specs.declared.arrival.Arrival.{Arrival}
use Rattle.lines.specs.Lines.{has}
use Rattle.lines.specs.Kinds.{Picks}
use Rattle.lines.specs.Arrivals.{arrival, members, line_at, thread_at, Chosen}
use Rattle.lines.specs.Ranking.{beats, challenge, best_from, best, pick}
use Rattle.lines.specs.Facts.{members_append}

-- whoever is ahead stays among those before and those that come
abbrev Among : Option ℕ → List ℕ → Option ℕ → Type 0
Among None ts o = Picks o ts
Among (Some u) ts None = ⊥
Among (Some u) ts (Some t) = (u == t || has t ts) ≡ true

among : (ranks : List ℕ) (o : Option ℕ) (ts : List ℕ) → Among o ts (best_from ranks o ts)
among ranks None [] = refl
among ranks (Some u) [] = or_left (u == u) false (eq-eqb u u refl)
among ranks None (t ∷ ts) = from_none (best_from ranks (Some t) ts) (among ranks (Some t) ts)
  where
    from_none : (o : Option ℕ) → Among (Some t) ts o → Picks o (t ∷ ts)
    from_none None h = absurd h
    from_none (Some x) h = h
among ranks (Some u) (t ∷ ts) =
    elim (beats ranks t u) as (λ b. Among (Some u) (t ∷ ts) (best_from ranks (cond b (Some t) (Some u)) ts))
    [ true ↦ later (best_from ranks (Some t) ts) (among ranks (Some t) ts) | false ↦ still (best_from ranks (Some u) ts) (among ranks (Some u) ts) ]
  where
    later : (o : Option ℕ) → Among (Some t) ts o → Among (Some u) (t ∷ ts) o
    later None h = absurd h
    later (Some x) h = or_right (u == x) _ h

    still : (o : Option ℕ) → Among (Some u) ts o → Among (Some u) (t ∷ ts) o
    still None h = absurd h
    still (Some x) h = elim (u == x) as (λ b. (b || has x ts) ≡ true → (b || (t == x || has x ts)) ≡ true) [ true ↦ λ _. refl | false ↦ λ k. or_right (t == x) _ k ] h

pub best_picks : (ranks ts : List ℕ) → Picks (best ranks ts) ts
best_picks ranks ts = among ranks None ts

best_push : (ranks : List ℕ) (o : Option ℕ) (ts : List ℕ) (t : ℕ) → best_from ranks o (ts ++ t ∷ []) ≡ challenge ranks (best_from ranks o ts) t
best_push ranks o [] t = refl
best_push ranks o (x ∷ ts) t = best_push ranks (challenge ranks o x) ts t

module _ (ranks : List ℕ) (es : List Arrival) (l i : ℕ) (lt : i < length es) where
  -- the arrival at i stands in another line
  pub best_skip : (r : Option ℕ) → Chosen es l (best ranks (members (take i es) l)) r → (line_at es i ≢ l) → Chosen es l (best ranks (members (take (i + 1) es) l)) r
  best_skip r h ne =
      let same : members (take (i + 1) es) l ≡ members (take i es) l =
      ap (λ xs. members xs l) (take_more es i (arrival 0 0) lt) ∙ members_append l (take i es) _ ∙ rw (ne_eqb (line_at es i) l ne) (append-nil (members (take i es) l)) in
      rw same h

  pub best_more : (r : Option ℕ) → Chosen es l (best ranks (members (take i es) l)) r → line_at es i ≡ l → Chosen es l (best ranks (members (take (i + 1) es) l)) (pick ranks es r i)
  best_more r h eq =
      let more : members (take (i + 1) es) l ≡ members (take i es) l ++ thread_at es i ∷ [] =
      ap (λ xs. members xs l) (take_more es i (arrival 0 0) lt) ∙ members_append l (take i es) _ ∙ rw (eq-eqb (line_at es i) l eq) in
      let is : best ranks (members (take (i + 1) es) l) ≡ challenge ranks (best ranks (members (take i es) l)) (thread_at es i) =
      ap (best ranks) more ∙ best_push ranks None (members (take i es) l) (thread_at es i) in
      rw is (picked r h)
    where
      picked : (r : Option ℕ) → Chosen es l (best ranks (members (take i es) l)) r → Chosen es l (challenge ranks (best ranks (members (take i es) l)) (thread_at es i)) (pick ranks es r i)
      picked None h = rw h (lt, eq, refl)
      picked (Some b) h =
          rw h.2
          (elim (beats ranks (thread_at es i) (thread_at es b)) as (λ w. Chosen es l (cond w (Some (thread_at es i)) (Some (thread_at es b))) (cond w (Some i) (Some b)))
          [ true ↦ (lt, eq, refl) | false ↦ (h.0, h.1, refl) ])

pub chosen_there : (es : List Arrival) (l : ℕ) (o r : Option ℕ) → Chosen es l o r → IfSome r (λ b. b < length es)
chosen_there es l o None h = tt
chosen_there es l o (Some i) h = h.0
