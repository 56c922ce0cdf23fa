-- A list written to places, one after the other. Assumes nothing.
use Rattle.std.proofs.Common.{◌≡◌, ℕ, ◌+◌, ◌<◌, ◌≤◌, min, true, false, leb, ◌⊎◌, List, [], ◌∷◌, ◌++◌, length, take, drop, set, sym, ap, ◌∙◌, inl, inr, ⊎_elim, arith}
use native.Mathlib.Nat.{min-le_left, min_comm, min-eq_left}
use Rattle.std.proofs.lemmas.Bool.{cases_Bool, leb-true, leb-false}
use Rattle.std.proofs.lemmas.List.{length-set, take_all, drop_all, take_more_set, drop-set-lt, drop-drop, take-append-drop}
use Rattle.embed.specs.Play.{laid}

pub record Least (n a b : ℕ) : Type 0 where
  pub left : n ≤ a
  pub right : n ≤ b
  pub full : (a ≤ n) ⊎ (b ≤ n)

pub least : (n a b : ℕ) → n ≡ min a b → Least n a b
least n a b e = record {
  left = omega (arith, min-le_left a b, e);
  right = omega (arith, min-le_left b a, min_comm a b, e);
  full =
      ⊎_elim
      (λ (y : leb a b ≡ true). inl (omega (arith, min-eq_left (leb-true a b y), e)))
      (λ (y : leb a b ≡ false). let h = leb-false a b y in let l : b ≤ a = omega arith in inr (omega (arith, min-eq_left l, min_comm a b, e)))
      (cases_Bool (leb a b));
}

module _ {X : Type 0} where
  -- the first i of ys are as, and the others are those of zs
  abbrev pub Lay : ℕ → List X → List X → List X → Type 0
  Lay i ws zs ys = (length ys ≡ length zs) × ((take i ys ≡ ws) × (drop i ys ≡ drop i zs))

  pub lay_step : (i : ℕ) (ws zs ys : List X) (v : X) → i < length zs → Lay i ws zs ys → Lay (i + 1) (ws ++ v ∷ []) zs (set ys i v)
  lay_step i ws zs ys v h u = (
    length-set ys i v ∙ u.0,
    (
      take_more_set ys i v (omega (arith, u.0)) ∙ ap (λ (xs : List X). xs ++ v ∷ []) u.1.0,
      drop-set-lt (i + 1) ys i v (omega arith) ∙ sym (drop-drop 1 i ys) ∙ ap (drop 1) u.1.1 ∙ drop-drop 1 i zs,
    ),
  )

  -- the first n of xs are written, where there are no more of them or no more places
  pub lay_end : (n : ℕ) (xs zs ys : List X) → n ≤ length xs → n ≤ length zs → (length xs ≤ n) ⊎ (length zs ≤ n) → Lay n (take n xs) zs ys → ys ≡ laid xs zs
  lay_end n xs zs ys a b full u =
      sym (take-append-drop n ys) ∙ (λ j. u.1.0 j ++ u.1.1 j)
      ∙ ⊎_elim
      (λ (p : length xs ≤ n). let e : n ≡ length xs = omega arith in (λ j. take_all n xs p j ++ drop (e j) zs) ∙ ap (λ (ws : List X). ws ++ drop (length xs) zs) (sym (take_all (length zs) xs (omega arith))))
      (λ (p : length zs ≤ n). let e : n ≡ length zs = omega arith in (λ j. take (e j) xs ++ drop_all n zs p j) ∙ ap (λ (ws : List X). take (length zs) xs ++ ws) (sym (drop_all (length xs) zs (omega arith))))
      full
