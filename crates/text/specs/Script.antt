-- What is written of an input.
--     lines bs       the lines of the input bs, without their ends
--     line_len bs    how many bytes stand before the first end of a line
--     first_line bs   the first of them, as a part of bs
--     after_line bs   what follows the first line and its end
--     texts m n s ls   what is written of the lines ls, of which the first is line n + 1, where the nub is s
--     script m bs    what is written of the input bs
use Rattle.std.specs.Prelude.{ℕ, ◌+◌, cond, List, [], ◌∷◌, ◌++◌, length, take, drop, None, Option, ◌==◌, nat_le}
use Rattle.std.specs.List.{position_or_len}
use Rattle.text.specs.declared.answer.Refusal.TheVariants.{Script}
use Rattle.tokens.specs.declared.fault.Fault.TheVariants.{TooLong}
use Rattle.text.specs.Model.{Model}
use Rattle.text.specs.Step.{stepped}
use Rattle.text.specs.Written.{line_text, refusal}

-- a byte before the first line
abbrev pub onto : ℕ → List (List ℕ) → List (List ℕ)
onto b [] = (b ∷ []) ∷ []
onto b (l ∷ ls) = (b ∷ l) ∷ ls

-- each line ends at a byte 10, the last perhaps without
abbrev pub lines : List ℕ → List (List ℕ)
lines [] = []
lines (b ∷ bs) = cond (b == 10) ([] ∷ lines bs) (onto b (lines bs))

abbrev pub line_len : List ℕ → ℕ
line_len bs = position_or_len (λ b. b == 10) bs

abbrev pub first_line : List ℕ → List ℕ
first_line bs = take (line_len bs) bs

abbrev pub after_line : List ℕ → List ℕ
after_line bs = drop (line_len bs + 1) bs

abbrev pub texts : (m : Model) → ℕ → Option m.State → List (List ℕ) → List ℕ
texts m n s [] = []
texts m n s (l ∷ ls) = line_text (n + 1) (stepped m s l).answer ++ texts m (n + 1) (stepped m s l).state ls

-- an input of more than 65,536 bytes runs nothing, and is refused as line 0
abbrev pub script : (m : Model) → List ℕ → List ℕ
script m bs = cond (nat_le (length bs) 65536) (texts m 0 None (lines bs)) (refusal 0 (Script TooLong))
