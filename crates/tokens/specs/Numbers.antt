-- The numbers of a line.
--     read k c bs   the k numbers that bs, from column c on, are; or the column of the leftmost fault
--     told r        the same, with the column as the fault that it is told by
use Rattle.std.specs.Prelude.{ℕ, zero, suc, ◌+◌, List, [], ◌∷◌, ◌++◌, length, drop, Some, None, Ok, Err, Option, Result}
use Rattle.tokens.specs.declared.fault.Fault.{Fault}
use Rattle.tokens.specs.declared.fault.Fault.TheVariants.{BadNumber}
use Rattle.tokens.specs.Number.{worth}
use Rattle.tokens.specs.Word.{Word, first_come, ranked, submit, turn, note, number, wrong, numeral}

abbrev pub prepend : List ℕ → Result (List ℕ) ℕ → Result (List ℕ) ℕ
prepend ns (Ok ms) = Ok (ns ++ ms)
prepend ns (Err c) = Err c

-- a number, and what follows it; the fault of one over its limit is at column c
abbrev pub counted : Option ℕ → ℕ → Result (List ℕ) ℕ → Result (List ℕ) ℕ
counted None c r = Err c
counted (Some n) c r = prepend (n ∷ []) r

-- a word at column c, and what follows it if it is a number of so many digits
abbrev pub taken : Word → ℕ → (ℕ → Result (List ℕ) ℕ) → Result (List ℕ) ℕ
taken (number ds) c next = counted (worth ds) (c + 1) (next (length ds))
taken (wrong n) c next = Err (c + n)
taken first_come c next = Err c
taken ranked c next = Err c
taken submit c next = Err c
taken turn c next = Err c
taken (note s) c next = Err c

-- nothing may follow the last number
abbrev pub read : ℕ → ℕ → List ℕ → Result (List ℕ) ℕ
read zero c [] = Ok []
read zero c (b ∷ bs) = Err c
read (suc k) c bs = taken (numeral bs) c (λ n. read k (c + (n + 1)) (drop (n + 1) bs))

abbrev pub told : Result (List ℕ) ℕ → Result (List ℕ) Fault
told (Ok ns) = Ok ns
told (Err c) = Err (BadNumber c)
