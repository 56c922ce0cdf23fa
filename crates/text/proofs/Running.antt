-- How `run` goes along an input: what is written so far, and one line more.
use Rattle.std.proofs.Common.{◌≡◌, ℕ, suc, ◌+◌, ◌<◌, ◌≤◌, Bool, true, false, cond, not, eqb, List, [], ◌∷◌, ◌++◌, length, take, drop, None, Option, sym, refl, ap, ◌∙◌, subst, append_assoc, add-one, arith, length-drop}
use Rattle.text.specs.Model.{Model}
use Rattle.text.specs.Step.{stepped}
use Rattle.text.specs.Written.{line_text}
use Rattle.text.specs.Script.{onto, lines, line_len, first_line, after_line, texts}

longer : (b : ℕ) (cs : List ℕ) → ((length cs ≡ 0 → ⊥) → lines cs ≡ first_line cs ∷ lines (after_line cs)) → onto b (lines cs) ≡ (b ∷ first_line cs) ∷ lines (drop (suc (line_len cs)) cs)
longer b [] more = refl
longer b (c ∷ cs) more = ap (onto b) (more (λ z. omega arith)) ∙ rw add-one refl

by_end : (b : ℕ) (bs : List ℕ) (e : Bool) → onto b (lines bs) ≡ (b ∷ first_line bs) ∷ lines (drop (suc (line_len bs)) bs) → cond e ([] ∷ lines bs) (onto b (lines bs)) ≡ take (cond (not e) (suc (line_len bs)) 0) (b ∷ bs) ∷ lines (drop (suc (cond (not e) (suc (line_len bs)) 0)) (b ∷ bs))
by_end b bs true more = refl
by_end b bs false more = more

pub lines_more : (bs : List ℕ) → (length bs ≡ 0 → ⊥) → lines bs ≡ first_line bs ∷ lines (after_line bs)
lines_more [] h = absurd (h refl)
lines_more (b ∷ bs) h =
    let one : suc (line_len bs) ≡ 1 + line_len bs = omega arith in
    subst (λ (n : ℕ). lines (b ∷ bs) ≡ take (cond (not (eqb b 10)) n 0) (b ∷ bs) ∷ lines (drop (cond (not (eqb b 10)) n 0 + 1) (b ∷ bs))) one (rw add-one (by_end b bs (eqb b 10) (longer b bs (lines_more bs))))

-- out is written of the lines before rest, n of them, which lead to s
pub record Sofar (m : Model) (input out : List ℕ) (n : ℕ) (s : Option m.State) (rest : List ℕ) : Type 0 where
  pub short : length input ≤ 65536
  pub counted : n + length rest ≤ length input
  pub same : texts m 0 None (lines input) ≡ out ++ texts m n s (lines rest)

module _ {m : Model} {input out : List ℕ} {n : ℕ} {s : Option m.State} {rest : List ℕ} (old : Sofar m input out n s rest) where
  pub one_more : (before n' : ℕ) (out' line after : List ℕ) (s' : Option m.State) → before ≡ n → n' ≡ n + 1 → (0 < length rest) → line ≡ first_line rest → after ≡ after_line rest → s' ≡ (stepped m s line).state → out' ≡ out ++ line_text (before + 1) (stepped m s line).answer → Sofar m input out' n' s' after
  one_more before n' out' line after s' here one some first next to text = record {
    short = old.short;
    counted = omega (arith, old.counted, ap length next ∙ length-drop (line_len rest + 1) rest);
    same = old.same ∙ ap (λ ls. out ++ texts m n s ls) (lines_more rest (λ z. omega arith)) ∙ rw (text, to, one, here, first, next) (sym (append_assoc out _ _));
  }
