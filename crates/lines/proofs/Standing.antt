-- A thread stands in one of the lines exactly if it is seen among the arrivals. Assumes nothing.
use Rattle.std.proofs.Common.{◌≡◌, ℕ, zero, suc, Bool, true, false, ◌&&◌, ◌||◌, eqb, ltb, List, [], ◌∷◌, refl, ◌∙◌, ⊎_elim, arith}
use Rattle.std.proofs.Math.Bool.{or_assoc}
use Rattle.std.proofs.lemmas.Bool.{cases_Bool, eqb-true, eqb-false, lt-ltb, le-ltb}
use Rattle.std.proofs.lemmas.Bool.Decides.{nat_tests}
use Rattle.lines.specs.declared.arrival.Arrival.{Arrival}
use Rattle.lines.specs.Lines.{lines, has, stands}
use Rattle.lines.specs.Arrivals.{members, seen, sound}
use Rattle.lines.specs.Facts.{first_sound}

stands_none : (m t : ℕ) → stands m (members []) t ≡ false
unfolding stands
stands_none zero t = refl
stands_none (suc m) t = stands_none m t

swap : (h x s : Bool) → (h || (x || s)) ≡ (x || (h || s))
swap true true s = refl
swap true false s = refl
swap false true s = refl
swap false false s = refl

stands_cons : (m t : ℕ) (e : Arrival) (es : List Arrival) → stands m (members (e ∷ es)) t ≡ ((ltb e.line m && eqb e.thread t) || stands m (members es) t)
unfolding stands
stands_cons zero t e es = let no : ltb e.line 0 ≡ false = le-ltb e.line 0 (omega arith) in rw no
stands_cons (suc m) t e es =
    let r = stands_cons m t e es in
    ⊎_elim
    (λ (y : eqb e.line m ≡ true).
    let same = eqb-true _ _ y in
    let below : ltb e.line (suc m) ≡ true = lt-ltb _ _ (omega arith) in
    let not_below : ltb e.line m ≡ false = le-ltb _ _ (omega arith) in
    let s : stands m (members (e ∷ es)) t ≡ stands m (members es) t = rw not_below at r in
    rw (y, below, s) (or_assoc (eqb e.thread t) (has t (members es m)) (stands m (members es) t)))
    (λ (y : eqb e.line m ≡ false).
    let other = eqb-false _ _ y in
    let same : ltb e.line (suc m) ≡ ltb e.line m = grind (arith, nat_tests) in
    rw (y, same, r) (swap (has t (members es m)) (ltb e.line m && eqb e.thread t) (stands m (members es) t)))
    (cases_Bool (eqb e.line m))

pub stands_seen : (n t : ℕ) (es : List Arrival) → sound n es ≡ true → stands lines (members es) t ≡ seen t es
stands_seen n t [] s = stands_none lines t
stands_seen n t (e ∷ es) s =
    let p = first_sound n e es s in
    stands_cons lines t e es ∙ rw (p.line, stands_seen n t es p.rest)
