-- What digits are worth.
--     value_on n ds   the value of the digits ds after digits of the value n
--     value ds       the value of the digits ds
--     worth ds       the number that ds spell, or none where it is over its limit
use Rattle.std.specs.Prelude.{ℕ, ◌+◌, ◌-◌, ◌*◌, cond, ◌&&◌, List, [], ◌∷◌, length, Some, None, Option, nat_le}

abbrev pub value_on : ℕ → List ℕ → ℕ
value_on n [] = n
value_on n (d ∷ ds) = value_on (n * 10 + (d - 48)) ds

abbrev pub value : List ℕ → ℕ
value ds = value_on 0 ds

-- a number has at most ten digits, and is at most 4,294,967,295
abbrev pub worth : List ℕ → Option ℕ
worth ds = cond (nat_le (length ds) 10 && nat_le (value ds) 4294967295) (Some (value ds)) None
