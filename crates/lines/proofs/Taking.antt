-- What a granted take tells a caller, over any kind that obeys the laws. Assumes nothing.
use Rattle.std.proofs.Common.{◌≡◌, ℕ, ◌<◌, true, List, Some, Option, refl, ap, ◌∙◌, subst}
use Rattle.std.proofs.lemmas.Bool.{eq-eqb}
use Rattle.lines.specs.Lines.{Lines, lines, has, put, minus}
use Rattle.lines.specs.Kinds.{Kind, Laws, Picks}

-- a take of line l in state s was granted, found o and left s'
pub record Took (k : Kind) (s : k.State) (l : ℕ) (o : Option ℕ) (s' : k.State) : Type 0 where
  pub inside : l < lines
  pub found : k.next s l ≡ o
  pub left : s' ≡ k.taken s l

pub put_here : (f : Lines) (l : ℕ) (xs : List ℕ) → put f l xs l ≡ xs
put_here f l xs = rw (eq-eqb l l refl)

module _ (k : Kind) (laws : Laws k) (s s' : k.State) (l : ℕ) where
  -- whom a take finds was a member
  pub member : (t : ℕ) → Took k s l (Some t) s' → has t (k.line s l) ≡ true
  member t w = subst (λ o. Picks o (k.line s l)) w.found (laws.picks s l)

  -- the line loses whom the take found, and the other lines stay
  pub lines_then : (o : Option ℕ) → Took k s l o s' → k.line s' ≡ put (k.line s) l (minus o (k.line s l))
  lines_then o w = ap k.line w.left ∙ laws.after_take s l ∙ ap (λ x. put (k.line s) l (minus x (k.line s l))) w.found
