-- A run, entry by entry, with its answers in numbers.
use Rattle.std.proofs.Common.{◌≡◌, ℕ, suc, ◌+◌, ◌<◌, ◌≤◌, ◌⊎◌, List, [], ◌∷◌, ◌++◌, map, length, get_or, take, set, sym, refl, ap, ◌∙◌, ⊎_elim, arith}
use Rattle.std.proofs.lemmas.List.{take_all, take_more, length-take-le}
use Rattle.lines.specs.Kinds.{Kind}
use Rattle.nub.specs.declared.Core.{Core}
use Rattle.nub.specs.declared.Event.{Event}
use Rattle.nub.specs.declared.Answer as nub
use Rattle.nub.specs.Turn.{moves}
use Rattle.runs.specs.Replay.{ran}
use Rattle.embed.specs.declared.numbers.Entry.{Entry}
use Rattle.embed.specs.declared.numbers.Answer.{Answer}
use Rattle.embed.specs.Numbers.{event_of, in_numbers}
use Rattle.embed.specs.Play.{played, events_for, laid}
use Rattle.embed.proofs.Laying.{Lay, lay_step, lay_end}

map_push : {X Y : Type 0} (f : X → Y) (xs : List X) (x : X) → map f (xs ++ x ∷ []) ≡ map f xs ++ f x ∷ []
map_push f [] x = refl
map_push f (y ∷ ys) x = ap (λ zs. f y ∷ zs) (map_push f ys x)

length_map : {X Y : Type 0} (f : X → Y) (xs : List X) → length (map f xs) ≡ length xs
length_map f [] = refl
length_map f (x ∷ xs) = ap suc (length_map f xs)

module _ (K : Kind) where
  ran_core : (k : Core) (f : K.State) (es : List Event) (e : Event) → (ran K k f (es ++ e ∷ [])).core ≡ (moves K (ran K k f es).core (ran K k f es).lines e).core
  ran_core k f [] e = refl
  ran_core k f (d ∷ es) e = ran_core (moves K k f d).core (moves K k f d).lines es e

  ran_lines : (k : Core) (f : K.State) (es : List Event) (e : Event) → (ran K k f (es ++ e ∷ [])).lines ≡ (moves K (ran K k f es).core (ran K k f es).lines e).lines
  ran_lines k f [] e = refl
  ran_lines k f (d ∷ es) e = ran_lines (moves K k f d).core (moves K k f d).lines es e

  ran_answers : (k : Core) (f : K.State) (es : List Event) (e : Event) → (ran K k f (es ++ e ∷ [])).answers ≡ (ran K k f es).answers ++ (moves K (ran K k f es).core (ran K k f es).lines e).answer ∷ []
  ran_answers k f [] e = refl
  ran_answers k f (d ∷ es) e = ap (λ (xs : List nub.Answer). (moves K k f d).answer ∷ xs) (ran_answers (moves K k f d).core (moves K k f d).lines es e)

  length_ran : (k : Core) (f : K.State) (es : List Event) → length (ran K k f es).answers ≡ length es
  length_ran k f [] = refl
  length_ran k f (d ∷ es) = ap suc (length_ran (moves K k f d).core (moves K k f d).lines es)

  module _ (k₀ : Core) (f₀ : K.State) (es : List Entry) (zs : List Answer) where
    -- the answers to the first i entries, in numbers
    abbrev pub said : ℕ → List Answer
    said i = map in_numbers (ran K k₀ f₀ (events_for i es)).answers

    -- i entries are performed: the nub is k and f, and their answers stand in ys
    abbrev pub At : ℕ → Core → K.State → List Answer → Type 0
    At i k f ys = (k ≡ (ran K k₀ f₀ (events_for i es)).core) × ((f ≡ (ran K k₀ f₀ (events_for i es)).lines) × Lay i (said i) zs ys)

    events_more : (i : ℕ) (d : Entry) → i < length es → events_for (i + 1) es ≡ events_for i es ++ event_of (get_or es i d) ∷ []
    events_more i d h = ap (map event_of) (take_more es i d h) ∙ map_push event_of (take i es) (get_or es i d)

    pub at_step : (i : ℕ) (d : Entry) (k k' : Core) (f f' : K.State) (ys : List Answer) (v : Answer) (e : Event)
        → i < length es → i < length zs → At i k f ys → e ≡ event_of (get_or es i d)
        → k' ≡ (moves K k f e).core → f' ≡ (moves K k f e).lines → v ≡ in_numbers (moves K k f e).answer → At (i + 1) k' f' (set ys i v)
    at_step i d k k' f f' ys v e h hz u is kk ff vv =
        let es' = events_more i d h in
        let m : moves K k f e ≡ moves K (ran K k₀ f₀ (events_for i es)).core (ran K k₀ f₀ (events_for i es)).lines (event_of (get_or es i d)) = (λ j. moves K (u.0 j) (u.1.0 j) (is j)) in
        let all : said (i + 1) ≡ said i ++ v ∷ [] =
        ap (λ (xs : List Event). map in_numbers (ran K k₀ f₀ xs).answers) es' ∙ ap (map in_numbers) (ran_answers k₀ f₀ (events_for i es) (event_of (get_or es i d))) ∙ map_push in_numbers (ran K k₀ f₀ (events_for i es)).answers _
        ∙ ap (λ (x : Answer). said i ++ x ∷ []) (sym (vv ∙ (λ j. in_numbers (m j).answer))) in
        let l = lay_step i (said i) zs ys v hz u.1.1 in (
          kk ∙ (λ j. (m j).core) ∙ sym (ap (λ (xs : List Event). (ran K k₀ f₀ xs).core) es' ∙ ran_core k₀ f₀ (events_for i es) (event_of (get_or es i d))),
          (
            ff ∙ (λ j. (m j).lines) ∙ sym (ap (λ (xs : List Event). (ran K k₀ f₀ xs).lines) es' ∙ ran_lines k₀ f₀ (events_for i es) (event_of (get_or es i d))),
            (l.0, (l.1.0 ∙ sym all, l.1.1)),
          ),
        )

    length_said : (i : ℕ) → i ≤ length es → length (said i) ≡ i
    length_said i h = length_map in_numbers (ran K k₀ f₀ (events_for i es)).answers ∙ length_ran k₀ f₀ (events_for i es) ∙ length_map event_of (take i es) ∙ length-take-le i es h

    pub at_end : (n : ℕ) (k : Core) (f : K.State) (ys : List Answer) → n ≤ length es → n ≤ length zs → (length es ≤ n) ⊎ (length zs ≤ n) → At n k f ys → ys ≡ played K k₀ f₀ es zs
    at_end n k f ys a b full u =
        let same : take n es ≡ take (length zs) es =
        ⊎_elim (λ (p : length es ≤ n). take_all n es p ∙ sym (take_all (length zs) es (omega arith))) (λ (p : length zs ≤ n). let e : n ≡ length zs = omega arith in ap (λ (m : ℕ). take m es) e) full in
        let long = length_said n a in
        lay_end n (said n) zs ys (omega (arith, long)) b (inl_le (omega (arith, long))) ((u.1.1.0, (u.1.1.1.0 ∙ sym (take_all n (said n) (omega (arith, long))), u.1.1.1.1)))
        ∙ ap (λ (xs : List Entry). laid (map in_numbers (ran K k₀ f₀ (map event_of xs)).answers) zs) same
      where
        inl_le : (length (said n) ≤ n) → (length (said n) ≤ n) ⊎ (length zs ≤ n)
        inl_le p = mathlib.Core.Logic.inl p
