-- What holds of every script, in words that do not repeat how it is run.
--     CutAtEnds    lines that are each ended by a byte 10, the last perhaps without, are cut as they were joined
--     GoesOn m      what is written of more lines is as if the script began there, with the nub and the count so far
use Rattle.std.specs.Prelude.{◌≡◌, ℕ, ◌+◌, ◌<◌, List, [], ◌∷◌, ◌++◌, length, Option, ◌≢◌}
use Rattle.std.specs.List.{flat_map}
use Rattle.text.specs.Model.{Model}
use Rattle.text.specs.Step.{stepped}
use Rattle.text.specs.Script.{lines, texts}

abbrev pub ended : List ℕ → List ℕ
ended l = l ++ (10 ∷ [])

-- has no byte 10
abbrev pub Endless : List ℕ → Type 0
Endless [] = Unit {0}
Endless (b ∷ bs) = (b ≢ 10) × Endless bs

abbrev pub AllEndless : List (List ℕ) → Type 0
AllEndless [] = Unit {0}
AllEndless (l ∷ ls) = Endless l × AllEndless ls

-- an input is cut at each byte 10, and the last line may lack it
abbrev pub CutAtEnds : Type 0
CutAtEnds = (ls : List (List ℕ)) (last : List ℕ) → AllEndless ls → Endless last → (lines (flat_map ended ls) ≡ ls) × (0 < length last → lines (flat_map ended ls ++ last) ≡ ls ++ (last ∷ []))

-- the nub after some lines
abbrev pub after : (m : Model) → Option m.State → List (List ℕ) → Option m.State
after m s [] = s
after m s (l ∷ ls) = after m (stepped m s l).state ls

-- more lines go on where the first ones stopped
abbrev pub GoesOn : Model → Type 0
GoesOn m = (n : ℕ) (s : Option m.State) (xs ys : List (List ℕ)) → texts m n s (xs ++ ys) ≡ texts m n s xs ++ texts m (n + length xs) (after m s xs) ys
