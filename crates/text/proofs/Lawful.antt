-- Inputs are cut at their ends, and a script goes on after each line.
use Rattle.std.proofs.Common.{◌≡◌, ℕ, suc, ◌+◌, ◌<◌, List, [], ◌∷◌, ◌++◌, length, sym, refl, ap, ◌∙◌, append_assoc, add-zero, arith}
use Rattle.std.specs.List.{flat_map}
use Rattle.std.proofs.lemmas.Bool.{ne_eqb}
use Rattle.text.specs.Model.{Model}
use Rattle.text.specs.Step.{stepped}
use Rattle.text.specs.Written.{line_text}
use Rattle.text.specs.Script.{lines, onto, texts}
use Rattle.text.specs.Laws.{ended, Endless, AllEndless, CutAtEnds, after, GoesOn}

one_line : (l rest : List ℕ) → Endless l → lines (l ++ (10 ∷ rest)) ≡ l ∷ lines rest
one_line [] rest h = refl
one_line (b ∷ l) rest h = rw (ne_eqb b 10 h.0) (ap (onto b) (one_line l rest h.1))

last_line : (l : List ℕ) → Endless l → 0 < length l → lines l ≡ l ∷ []
last_line [] h some = absurd (omega arith)
last_line (b ∷ []) h some = rw (ne_eqb b 10 h.0) refl
last_line (b ∷ c ∷ l) h some = rw (ne_eqb b 10 h.0) (ap (onto b) (last_line (c ∷ l) h.1 (omega arith)))

whole : (ls : List (List ℕ)) → AllEndless ls → lines (flat_map ended ls) ≡ ls
whole [] h = refl
whole (l ∷ ls) h = ap lines (append_assoc l (10 ∷ []) (flat_map ended ls)) ∙ one_line l (flat_map ended ls) h.0 ∙ ap (λ ms. l ∷ ms) (whole ls h.1)

partial : (ls : List (List ℕ)) (last : List ℕ) → AllEndless ls → Endless last → 0 < length last → lines (flat_map ended ls ++ last) ≡ ls ++ (last ∷ [])
partial [] last h e some = last_line last e some
partial (l ∷ ls) last h e some =
    ap lines (append_assoc (ended l) (flat_map ended ls) last ∙ append_assoc l (10 ∷ []) (flat_map ended ls ++ last)) ∙ one_line l (flat_map ended ls ++ last) h.0 ∙ ap (λ ms. l ∷ ms) (partial ls last h.1 e some)

pub cut_at_ends : CutAtEnds
cut_at_ends ls last h e = (whole ls h, partial ls last h e)

pub goes_on : (m : Model) → GoesOn m
goes_on m n s [] ys = rw add-zero refl
goes_on m n s (l ∷ xs) ys =
    let here = line_text (n + 1) (stepped m s l).answer in
    let next = (stepped m s l).state in
    let count : (n + 1) + length xs ≡ n + suc (length xs) = omega arith in
    ap (λ t. here ++ t) (goes_on m (n + 1) next xs ys) ∙ sym (append_assoc here _ _) ∙ ap (λ k. (here ++ texts m (n + 1) next xs) ++ texts m k (after m next xs) ys) count
