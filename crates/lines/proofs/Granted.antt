-- What `take` and `remove` find and leave. Assumes nothing.
use Rattle.std.proofs.Common.{◌≡◌, ℕ, ◌<◌, Bool, true, ◌&&◌, ◌==◌, List, length, is_some, IfSome, Some, None, Option, sym, ap, subst, ◌∙◌}
use Rattle.std.specs.List.{remove}
use Rattle.std.proofs.lemmas.Bool.{eqb-true, and_parts}
use Rattle.std.proofs.lemmas.List.Folds.{list_any_at}
use Rattle.lines.specs.declared.arrival.Arrival.{Arrival}
use Rattle.lines.specs.Lines.{has}
use Rattle.lines.specs.Arrivals.{arrival, members, place, sound, quit, line_at, thread_at, Chosen}
use Rattle.lines.specs.Choosing.{left_by}
use Rattle.lines.proofs.Leaving.{removed_quit, sound_quit}
use Rattle.lines.proofs.Placing.{FirstAt, first_position, has_any}

pub sound_removed : (n : ℕ) (es : List Arrival) (i : ℕ) → sound n es ≡ true → i < length es → sound n (remove es i) ≡ true
sound_removed n es i s h = ap (sound n) (removed_quit n es i s h) ∙ sound_quit n _ _ es s

pub taken_left : (n l : ℕ) (es : List Arrival) (o : Option ℕ) (i : ℕ) → sound n es ≡ true → Chosen es l o (Some i) → remove es i ≡ left_by o l es
taken_left n l es o i s h = removed_quit n es i s h.0 ∙ (λ j. quit (h.1 j) (thread_at es i) es) ∙ ap (λ x. left_by x l es) (sym h.2)

-- an arrival of thread t in line l
abbrev Of : ℕ → ℕ → Arrival → Bool
Of l t e = e.line == l && e.thread == t

module _ (l t : ℕ) (es : List Arrival) (i : ℕ) (at : Some i ≡ place l t es) where
  found : FirstAt (Of l t) es (arrival 0 0) (Some i)
  unfolding place
  found = subst (FirstAt (Of l t) es (arrival 0 0)) (sym at) (first_position (Of l t) es (arrival 0 0))

  here : has t (members es l) ≡ true
  here = has_any l t es ∙ list_any_at (Of l t) es i (arrival 0 0) found.0 found.1

  pub removed_at : (n : ℕ) → sound n es ≡ true → remove es i ≡ quit l t es
  removed_at n s =
      let p = and_parts (line_at es i == l) (thread_at es i == t) found.1 in
      removed_quit n es i s found.0 ∙ (λ j. quit (eqb-true _ _ p.0 j) (eqb-true _ _ p.1 j) es)

pub has_place : (l t : ℕ) (es : List Arrival) (o : Option ℕ) → o ≡ place l t es → has t (members es l) ≡ is_some o
unfolding place
has_place l t es None at = has_any l t es ∙ subst (FirstAt (Of l t) es (arrival 0 0)) (sym at) (first_position (Of l t) es (arrival 0 0))
has_place l t es (Some i) at = here l t es i at

pub removed_if : (n l t : ℕ) (es : List Arrival) (o : Option ℕ) → sound n es ≡ true → o ≡ place l t es → IfSome o (λ i. remove es i ≡ quit l t es)
removed_if n l t es None s at = tt
removed_if n l t es (Some i) s at = removed_at l t es i at n s
