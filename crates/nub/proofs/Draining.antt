-- A line taken from until it is empty, over any kind that keeps the laws.
use Rattle.std.proofs.Common.{◌≡◌, ℕ, suc, ◌<◌, Bool, true, false, cond, not, eqb, ltb, List, [], ◌∷◌, length, Some, None, sym, refl, ap, ◌∙◌, subst, ⊎_elim, arith}
use Rattle.std.proofs.lemmas.Bool.{cases_Bool, ltb-true, lt-ltb, eqb-true, true≢false, and_parts, or_parts, not-true}
use Rattle.lines.specs.Lines.{has, without, distinct, lines}
use Rattle.lines.specs.Kinds.{Kind, Laws}
use Rattle.lines.proofs.Taking.{Took, member, lines_then, put_here}
use Rattle.nub.specs.Lining.{standing, drained, drain_in, take_in, who_in}

without_none : (t : ℕ) (xs : List ℕ) → has t xs ≡ false → without t xs ≡ xs
without_none t [] h = refl
without_none t (x ∷ xs) h =
    let p = or_parts (eqb x t) (has t xs) h in
    ap (λ (b : Bool). cond b (without t xs) (x ∷ without t xs)) p.0 ∙ ap (λ (ys : List ℕ). x ∷ ys) (without_none t xs p.1)

pub exact : (t : ℕ) (xs : List ℕ) → distinct xs ≡ true → has t xs ≡ true → length xs ≡ suc (length (without t xs))
exact t [] d h = absurd (true≢false (sym h))
exact t (x ∷ xs) d h =
    let p = and_parts (not (has x xs)) (distinct xs) d in
    ⊎_elim
    (λ (y : eqb x t ≡ true).
    let none : has t xs ≡ false = subst (λ (z : ℕ). has z xs ≡ false) (eqb-true x t y) (not-true (has x xs) p.0) in
    rw y (ap (λ (ys : List ℕ). suc (length ys)) (sym (without_none t xs none))))
    (λ (y : eqb x t ≡ false). rw y (ap suc (exact t xs p.1 (rw y at h))))
    (cases_Bool (eqb x t))

module _ (K : Kind) (laws : Laws K) (s s' : K.State) (l : ℕ) where
  in_line : l < lines → (z : K.State) → standing K z l ≡ K.line z l
  in_line h z = ap (λ (b : Bool). cond b (K.line z l) []) (lt-ltb l lines h)

  pub standing_has : (t : ℕ) → Took K s l (Some t) s' → has t (standing K s l) ≡ true
  standing_has t w = ap (has t) (in_line w.inside s) ∙ member K laws s s' l t w

  line_left : (t : ℕ) → Took K s l (Some t) s' → K.line s' l ≡ without t (K.line s l)
  line_left t w = ap (λ (f : ℕ → List ℕ). f l) (lines_then K laws s s' l (Some t) w) ∙ put_here (K.line s) l _

  pub standing_left : (t : ℕ) → Took K s l (Some t) s' → standing K s' l ≡ without t (standing K s l)
  standing_left t w = in_line w.inside s' ∙ line_left t w ∙ ap (without t) (sym (in_line w.inside s))

  pub standing_less : (t : ℕ) → distinct (K.line s l) ≡ true → Took K s l (Some t) s' → length (standing K s' l) < length (standing K s l)
  standing_less t d w =
      let e = exact t (K.line s l) d (member K laws s s' l t w) in
      omega (arith, ap length (in_line w.inside s), ap length (in_line w.inside s'), ap length (line_left t w))

  pub drain_step : (t : ℕ) → distinct (K.line s l) ≡ true → Took K s l (Some t) s' → drain_in K s' l ≡ drain_in K s l
  drain_step t d w =
      let b = lt-ltb l lines w.inside in
      let e : length (K.line s l) ≡ suc (length (K.line s' l)) = exact t (K.line s l) d (member K laws s s' l t w) ∙ ap (λ (ys : List ℕ). suc (length ys)) (sym (line_left t w)) in
      let go : drained K l (length (K.line s l)) s ≡ drained K l (length (K.line s' l)) s' =
      ap (λ (n : ℕ). drained K l n s) e ∙ ap (λ (z : K.State). drained K l (length (K.line s' l)) z) (sym w.left) in
      ap (λ (c : Bool). cond c (drained K l (length (K.line s' l)) s') s') b ∙ sym go ∙ sym (ap (λ (c : Bool). cond c (drained K l (length (K.line s l)) s) s) b)

  -- what a take that gave t tells
  pub gave : (t : ℕ) → Some t ≡ who_in K s l → s' ≡ take_in K s l → Took K s l (Some t) s'
  gave t v a =
      ⊎_elim
      (λ (y : ltb l lines ≡ true). record { inside = ltb-true l lines y; found = sym (rw y at v); left = rw y at a })
      (λ (y : ltb l lines ≡ false). let b : Some t ≡ None = rw y at v in let z : ◌≡◌ {A = ℕ} 0 1 = cc in absurd (omega arith))
      (cases_Bool (ltb l lines))
