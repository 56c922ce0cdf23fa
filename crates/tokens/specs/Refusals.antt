-- The number and the column of each fault, given here and nowhere else.
--     row f        the number and the column that are written of the fault f
--     number_of f   its number
--     column_of f   its column, counted from 1
use Rattle.std.specs.Prelude.{ℕ}
use Rattle.tokens.specs.declared.fault.Fault.{Fault}
use Rattle.tokens.specs.declared.fault.Fault.TheVariants.{NoLetter, BadNumber, OutOfOrder, TooLong}

abbrev pub row : Fault → ℕ × ℕ
row NoLetter = (31, 1)
row (BadNumber c) = (32, c)
row OutOfOrder = (33, 1)
row TooLong = (34, 1)

abbrev pub number_of : Fault → ℕ
number_of f = (row f).0

abbrev pub column_of : Fault → ℕ
column_of f = (row f).1
