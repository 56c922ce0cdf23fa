-- The best by rank is the highest, and the only one. Assumes nothing.
use Rattle.std.proofs.Common.{◌≡◌, ℕ, ◌<◌, ◌≤◌, true, false, ◌&&◌, eqb, ltb, ◌⊎◌, List, [], ◌∷◌, get_or, Some, None, Option, sym, refl, ap, subst, inl, inr, ⊎_elim, arith}
use Rattle.std.proofs.lemmas.Bool.{true≢false, cases_Bool, cases_lt, or_cases, or_parts, and_parts, eqb-true, eq-eqb, ltb-true, ltb-false}
use Rattle.lines.specs.Lines.{has}
use Rattle.lines.specs.Kinds.{Picks}
use Rattle.lines.specs.Ranking.{beats, best_from, best}
use Rattle.lines.specs.Highest.{Highest, RankedTakesHighest}
use Rattle.lines.specs.Best.{best_picks}

none≢some : {t : ℕ} → None ≡ Some t → ⊥
none≢some e = let z : ◌≡◌ {A = ℕ} 0 1 = cc in omega arith

no_member : (ts : List ℕ) (t : ℕ) → ts ≡ [] → has t ts ≡ true → ⊥
no_member ts t e m = true≢false (sym (subst (λ xs. has t xs ≡ true) e m))

module _ (ranks : List ℕ) where
  abbrev rank : ℕ → ℕ
  rank t = get_or ranks t 0

  -- t goes before u, or is u
  abbrev Over : ℕ → ℕ → Type 0
  Over t u = (rank u < rank t) ⊎ ((rank u ≡ rank t) × (t ≤ u))

  over_self : (t : ℕ) → Over t t
  over_self t = inr (refl, omega arith)

  over_trans : (t u v : ℕ) → Over t u → Over u v → Over t v
  over_trans t u v (inl h) (inl k) = inl (omega arith)
  over_trans t u v (inl h) (inr k) = inl (omega arith)
  over_trans t u v (inr h) (inl k) = inl (omega arith)
  over_trans t u v (inr h) (inr k) = inr (omega arith, omega arith)

  over_both : (t u : ℕ) → Over t u → Over u t → t ≡ u
  over_both t u (inl h) (inl k) = absurd (omega arith)
  over_both t u (inl h) (inr k) = absurd (omega arith)
  over_both t u (inr h) (inl k) = absurd (omega arith)
  over_both t u (inr h) (inr k) = omega arith

  wins : (t u : ℕ) → beats ranks t u ≡ true → Over t u
  wins t u e =
      ⊎_elim
      (λ (h : ltb (rank u) (rank t) ≡ true). inl (ltb-true _ _ h))
      (λ (h : (eqb (rank t) (rank u) && ltb t u) ≡ true).
      let p = and_parts (eqb (rank t) (rank u)) (ltb t u) h in
      let same = eqb-true _ _ p.0 in
      let lower = ltb-true _ _ p.1 in
      inr (omega arith, omega arith))
      (or_cases (ltb (rank u) (rank t)) _ e)

  loses : (t u : ℕ) → beats ranks t u ≡ false → Over u t
  loses t u e =
      let p = or_parts (ltb (rank u) (rank t)) (eqb (rank t) (rank u) && ltb t u) e in
      let most = ltb-false _ _ p.0 in
      ⊎_elim
      (λ (h : rank t < rank u). inl h)
      (λ (h : rank u ≤ rank t).
      let same : rank t ≡ rank u = omega arith in
      inr (same, ltb-false _ _ (rw (eq-eqb _ _ same) at p.1)))
      (cases_lt (rank t) (rank u))

  -- t goes before each of ts, or is it
  abbrev OverAll : ℕ → List ℕ → Type 0
  OverAll t ts = (u : ℕ) → has u ts ≡ true → Over t u

  over_more : (t x : ℕ) (ts : List ℕ) → Over t x → OverAll t ts → OverAll t (x ∷ ts)
  over_more t x ts h hs u m =
      ⊎_elim
      (λ (e : eqb x u ≡ true). subst (Over t) (eqb-true _ _ e) h)
      (λ (k : has u ts ≡ true). hs u k)
      (or_cases (eqb x u) (has u ts) m)

  -- whoever is ahead in the end goes before the one that was ahead, and before all that came up
  over_rest : (u : ℕ) (ts : List ℕ) (t : ℕ) → best_from ranks (Some u) ts ≡ Some t → Over t u × OverAll t ts
  over_rest u [] t e = let same : u ≡ t = cc in (subst (λ v. Over v u) same (over_self u), λ v m. absurd (true≢false (sym m)))
  over_rest u (x ∷ ts) t e =
      ⊎_elim
      (λ (y : beats ranks x u ≡ true).
      let r = over_rest x ts t (rw y at e) in
      (over_trans t x u r.0 (wins x u y), over_more t x ts r.0 r.1))
      (λ (y : beats ranks x u ≡ false).
      let r = over_rest u ts t (rw y at e) in
      (r.0, over_more t x ts (over_trans t u x r.0 (loses x u y)) r.1))
      (cases_Bool (beats ranks x u))

  best_over : (ts : List ℕ) (t : ℕ) → best ranks ts ≡ Some t → OverAll t ts
  best_over [] t e = absurd (none≢some e)
  best_over (x ∷ ts) t e = let r = over_rest x ts t e in over_more t x ts r.0 r.1

  best_highest : (ts : List ℕ) (t : ℕ) → best ranks ts ≡ Some t → Highest ranks ts t
  best_highest ts t e = record { member = subst (λ o. Picks o ts) e (best_picks ranks ts); above = best_over ts t e }

  -- two that are highest are one
  only_highest : (ts : List ℕ) (t u : ℕ) → Highest ranks ts t → Highest ranks ts u → t ≡ u
  only_highest ts t u h k = over_both t u (h.above u k.member) (k.above t h.member)

  highest_best : (ts : List ℕ) (t : ℕ) → Highest ranks ts t → best ranks ts ≡ Some t
  highest_best ts t h = by_answer (best ranks ts) refl
    where
      by_answer : (o : Option ℕ) → best ranks ts ≡ o → o ≡ Some t
      by_answer None e = absurd (no_member ts t (subst (λ o. Picks o ts) e (best_picks ranks ts)) h.member)
      by_answer (Some u) e = ap Some (only_highest ts u t (best_highest ts u e) h)

pub takes_highest : RankedTakesHighest
takes_highest ranks ts = record {
  nobody = (λ e. subst (λ o. Picks o ts) e (best_picks ranks ts), λ e. ap (best ranks) e);
  somebody = λ t. (best_highest ranks ts t, highest_best ranks ts t);
}
