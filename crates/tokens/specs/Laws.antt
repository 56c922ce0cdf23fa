-- What holds of the numbers of every line, in words that do not repeat how they are read.
--     ReadsRight    numbers that are each written after one space are read as their values
--     Spells ds n    ds are the digits of the number n, which is within its limit
--     spaced dss     numbers, each after one space
use Rattle.std.specs.Prelude.{◌≡◌, ℕ, ◌<◌, true, List, [], ◌∷◌, length, Some, Ok}
use Rattle.std.specs.List.{flat_map}
use Rattle.std.specs.Char.{is_ascii_digit}
use Rattle.tokens.specs.Number.{worth}
use Rattle.tokens.specs.Numbers.{read}

abbrev pub AllDigits : List ℕ → Type 0
AllDigits [] = Unit {0}
AllDigits (d ∷ ds) = (is_ascii_digit d ≡ true) × AllDigits ds

-- ds are the digits of the number n
pub record Spells (ds : List ℕ) (n : ℕ) : Type 0 where
  pub some : 0 < length ds
  pub digits : AllDigits ds
  pub value : worth ds ≡ Some n

abbrev pub SpellAll : List (List ℕ) → List ℕ → Type 0
SpellAll [] [] = Unit {0}
SpellAll [] (n ∷ ns) = ⊥
SpellAll (ds ∷ dss) [] = ⊥
SpellAll (ds ∷ dss) (n ∷ ns) = Spells ds n × SpellAll dss ns

-- each after one space
abbrev pub spaced : List (List ℕ) → List ℕ
spaced dss = flat_map (λ ds. 32 ∷ ds) dss

-- numbers that are each written after one space are read
abbrev pub ReadsRight : Type 0
ReadsRight = (dss : List (List ℕ)) (ns : List ℕ) (c : ℕ) → SpellAll dss ns → read (length ns) c (spaced dss) ≡ Ok ns
