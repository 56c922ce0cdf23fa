-- How many bytes of one class a list begins with.
--     is_in k b     the byte b is of the class k: a digit, or any byte but the end of a line
--     front k bs   how many bytes of the class k stand at the front of bs
use Rattle.std.specs.Prelude.{ℕ, Bool, not, ◌&&◌, List, ◌==◌, nat_le}
use Rattle.std.specs.List.{prefix_len}
use Rattle.tokens.specs.declared.token.Class.{Class}
use Rattle.tokens.specs.declared.token.Class.TheVariants.{Digit, Inner}

-- 48 to 57 are the digits 0 to 9; 10 is the end of a line
abbrev pub is_in : Class → ℕ → Bool
is_in Digit b = nat_le 48 b && nat_le b 57
is_in Inner b = not (b == 10)

abbrev pub front : Class → List ℕ → ℕ
front k bs = prefix_len (is_in k) bs
